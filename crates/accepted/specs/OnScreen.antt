-- A drawing on the screen in memory by a function that is handed the canvas and the screen: what it may ask, and what it leaves.
use Rattle.std.specs.Prelude.{◌≡◌, List, ℕ, length}
use Rattle.std.specs.Borrow.{MutBor}
use Rattle.std.proofs.Common.{arith}
use Rattle.model.specs.declared.Canvas.{Canvas}
use Rattle.model.specs.declared.Marks.{Marks}
use Rattle.model.specs.Geometry.{height}
use Rattle.model.specs.Glass.{glass_of}
use Rattle.model.specs.Memory.{screen_of, with_screen}
use Rattle.model.specs.Pixels.{Screen}
use Rattle.model.specs.Record.{State, decode}
use Rattle.model.specs.Marks.{marked}
use Rattle.updates.specs.Update.{updated}

-- the canvas of the glass that a record of n bytes is for
abbrev pub canvas_for : ℕ → Canvas
canvas_for n = record { stride = (glass_of n).stride; height = height (glass_of n); size = (omega arith, omega arith, omega arith, omega arith) }

-- the state of a record
abbrev pub state : List ℕ → State
state r = decode (glass_of (length r)) r

-- it asks no more than a screen
abbrev pub MayDraw : (Canvas → MutBor (List ℕ) → Type 0) → List ℕ → Type 0
MayDraw P r =
    let c = canvas_for (length r) in (s : MutBor (List ℕ)) → Screen c.stride c.height s.now → P c s

-- it was handed the screen of memory m and left another; the record is marked with its answer
pub record Drew (Q : Canvas → MutBor (List ℕ) → Marks → MutBor (List ℕ) → Type 0) (r m r' m' : List ℕ) : Type 0 where
  pub found : MutBor (List ℕ)
  pub left : MutBor (List ℕ)
  pub marks : Marks
  pub screen : found.now ≡ screen_of (glass_of (length r)) (state r).head.graphics m
  pub drew : Q (canvas_for (length r)) found marks left
  pub marked-by : r' ≡ updated (λ g x. marked g marks.dirty marks.owed x) r
  pub memory : m' ≡ with_screen (state r).head.graphics left.now m

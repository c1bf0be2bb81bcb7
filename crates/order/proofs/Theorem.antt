-- The theorem of specs/Theorem.antt, for each glass and for document 01's.
use Rattle.std.specs.Prelude.{◌≡◌, List, [], ◌∷◌, ℕ, ◌<◌, length, get_or, replicate}
use Rattle.std.proofs.Common.{inl, inr, arith}
use Rattle.model.specs.Geometry.{Geometry, base, screen_bytes}
use Rattle.model.specs.Glass.{IsGlass}
use Rattle.model.specs.Record.{total}
use Rattle.model.specs.Calls.{opening, send, lent}
use Rattle.model.specs.Lists.{accepted, Typed, Item, here, buffers, run}
use Rattle.laws.specs.Tests.{either}
use Rattle.laws.specs.Glasses.{base_glass}
use Rattle.laws.specs.Bands.{lines_bound}
use Rattle.order.specs.Accepted.{named_row, left-run}
use Rattle.order.specs.Order.{standing-run, standing-opened, sendable, idle, lines_more, level, row_of_sends}
use Rattle.order.specs.Theorem.{pending_in, lines_in, Promised, BaseNumbers}

-- The theorem, for each glass and each panel k of it: an accepted open, lent any record r and any memory m, beside panel buffers ps of any bytes, of which panel
-- k's has its length, and then every list of items.
pub calls_on_any_glass : (g : Geometry) → IsGlass g → (k : ℕ) → k < g.panels
    → (graphics text version : ℕ) (keys : List ℕ) (edge : ℕ) (t : Typed (opening graphics text version keys edge)) (r m : List ℕ) (ps : List (List ℕ))
    → accepted g (opening graphics text version keys edge) (lent r m []) → length (get_or ps k []) ≡ screen_bytes g → (items : List (Item g))
    → let list = here (opening graphics text version keys edge) t ∷ items in Promised g k (buffers r m ps) list (run g (buffers r m ps) list)
calls_on_any_glass g z k there graphics text version keys edge t r m ps a n items =
    let list = here (opening graphics text version keys edge) t ∷ items in
    let start = buffers r m ps in
    let b = run g start list in
    let s = standing-opened g k there z graphics text version keys edge t start a n items in
    let q = s.lendable in
    record {
      record_length = q.passing.sized;
      memory_length = q.memory;
      panel_length = q.panel;
      passes = q.passing.passes;
      sendable = sendable g k there b q;
      pending = s.pending;
      left-by = left-run g start list;
      edge = omega arith;
      bound = omega (arith, lines_bound g (pending_in g k b) s.held.well s.held.low);
      places = λ x y hx hy d. either (s.held.covered x y hx hy d) (λ i. inl (omega arith)) inr;
      idle = λ more js e z.
          let i = idle g k there (run g b more) (standing-run g k there b more s).lendable in
          let same = lines_more g k there b q more js e in
          (i.0, (λ o. omega (arith, i.1.0 o), λ o. i.1.1 (omega arith)));
      lines = lines_more g k there b q;
      level = λ more js e h. level g k there b s more js e (omega arith);
      level_row = λ u.
          let n = lines_in g k b in
          level g k there b s (replicate n (here (send k) u)) (replicate n k) (row_of_sends g k there u b q n) (omega (arith, named_row k n));
    }

-- ---- document 01's glass

pub base-numbers : BaseNumbers
unfolding total
base-numbers = omega arith

-- the theorem there, for each of its four panels, with 1,600 bytes in panel k's buffer
pub calls_in_any_order : (k : ℕ) → k < 4 → (graphics text version : ℕ) (keys : List ℕ) (edge : ℕ) (t : Typed (opening graphics text version keys edge)) (r m : List ℕ) (ps : List (List ℕ))
    → accepted base (opening graphics text version keys edge) (lent r m []) → length (get_or ps k []) ≡ 1600 → (items : List (Item base))
    → let list = here (opening graphics text version keys edge) t ∷ items in Promised base k (buffers r m ps) list (run base (buffers r m ps) list)
calls_in_any_order = calls_on_any_glass base base_glass

-- Stores over a record that passes, for the glass that its length tells: what they leave passes where its state is well formed, and two of them are one.
use mathlib.Core.Path.{◌≡◌, refl, sym, ap, subst, ◌∙◌}
use mathlib.Core.List.{List}
use Prim.Native.Nat.{ℕ}
use lib.ListN.{length}
use Rattle.model.specs.declared.Canvas.{Canvas}
use Rattle.model.specs.declared.Head.{Head}
use Rattle.model.specs.declared.Rect.{Rect}
use Rattle.model.specs.declared.glass.Glass.{Glass}
use Rattle.model.specs.Geometry.{Geometry, height, cells}
use Rattle.model.specs.Glass.{geometry, canvas, glass_of}
use Rattle.model.specs.Memory.{with_window}
use Rattle.model.specs.Rects.{none}
use Rattle.model.specs.Record.{bytes_of_head, State, decode, encode, with_flags, WellFormed}
use Rattle.model.specs.Marks.{whole}
use Rattle.model.specs.Open.{clear_head, clear_flags}
use Rattle.laws.specs.Record.{Passing, decode-encode}
use Rattle.laws.specs.Flags.{length_no_flags}
use Rattle.laws.specs.States.{well_formed, encode_passing}
use Rattle.laws.specs.Formed.{flags_formed}
use Rattle.laws.specs.Updates.{in_head, whole_of}
use Rattle.record.specs.Entry.{Chosen}
use Rattle.updates.specs.Update.{updated, on_head}

-- the glass that was chosen is the one that the length tells
pub updates : {v : Glass} (r : List ℕ) {s : List ℕ} (f : Geometry → State → State) → Chosen (length r) v → s ≡ encode (geometry v) (f (geometry v) (decode (geometry v) r)) → s ≡ updated f r
unfolding updated
updates r f k e = e ∙ ap (λ (g : Geometry). encode g (f g (decode g r))) k.glass

pub updated_for : {v : Glass} (r : List ℕ) {s : List ℕ} (f : Geometry → State → State) → Chosen (length r) v → s ≡ updated f r → s ≡ encode (geometry v) (f (geometry v) (decode (geometry v) r))
unfolding updated
updated_for r f k e = e ∙ ap (λ (g : Geometry). encode g (f g (decode g r))) (sym k.glass)

-- the whole of a glass's canvas, and of the chosen screen
pub whole_canvas : (v : Glass) {k : Canvas} → k ≡ canvas v → whole k.stride k.height ≡ whole v.stride (height (geometry v))
whole_canvas v e = whole_of (ap (λ (x : Canvas). x.stride) e) (ap (λ (x : Canvas). x.height) e ∙ v.suits.is_height)

pub whole_for : {n : ℕ} {v : Glass} {k : Canvas} → Chosen n v → k ≡ canvas v → let g = glass_of n in whole k.stride k.height ≡ whole g.stride (height g)
whole_for {v = v} c e = whole_canvas v e ∙ ap (λ (g : Geometry). whole g.stride (height g)) c.glass

-- no flags
abbrev pub unflagged : Geometry → State → State
unflagged g x = with_flags (clear_flags g) x

pub unflagged_formed : (r : List ℕ) → Passing (glass_of (length r)) r → let g = glass_of (length r) in WellFormed g (unflagged g (decode g r))
unflagged_formed r p = let g = glass_of (length r) in flags_formed g (decode g r) (well_formed g r p) (clear_flags g) (length_no_flags (cells g))

-- the head that open and reset leave
pub is_clear_head : (graphics text version : ℕ) {q : Rect} → q ≡ none
    → record { graphics = graphics; text = text; row = 0; column = 0; screen = 0; print = 0; cursor = 0; version = version; dirty = q } ≡ clear_head graphics text version
is_clear_head graphics text version e =
    λ i. record { graphics = graphics; text = text; row = 0; column = 0; screen = 0; print = 0; cursor = 0; version = version; dirty = e i }

-- another head
pub sets_head : {r s : List ℕ} (h : Head) → Passing (glass_of (length r)) r → s ≡ with_window 0 (bytes_of_head h) r → s ≡ updated (on_head (λ x. h)) r
unfolding updated
sets_head {r} h p e = e ∙ in_head (glass_of (length r)) r p (with_window 0 (bytes_of_head h)) (λ x. h) refl

-- a store that leaves a well formed state, and another one after it
module _ {r s : List ℕ} (f : Geometry → State → State) (p : Passing (glass_of (length r)) r) (w : WellFormed (glass_of (length r)) (f (glass_of (length r)) (decode (glass_of (length r)) r)))
    (e : s ≡ updated f r) where
  passes : Passing (glass_of (length r)) s
  unfolding updated
  passes = subst (Passing (glass_of (length r))) (sym e) (encode_passing (glass_of (length r)) p.glass _ w)

  long : length s ≡ length r
  long = passes.sized ∙ sym p.sized

  pub still_passes : Passing (glass_of (length s)) s
  still_passes = subst (λ (n : ℕ). Passing (glass_of n) s) (sym long) passes

  pub then_updated : (h : Geometry → State → State) {t : List ℕ} → t ≡ updated h s → t ≡ updated (λ g x. h g (f g x)) r
  unfolding updated
  then_updated h q =
      let g = glass_of (length r) in
      q ∙ ap (λ (n : ℕ). encode (glass_of n) (h (glass_of n) (decode (glass_of n) s))) long
      ∙ ap (λ (x : State). encode g (h g x)) (ap (decode g) e ∙ decode-encode g _ p.glass w)

-- Pokes: ignored, on the screen, elsewhere.
use Rattle.std.proofs.Common.{◌≡◌, sym, ap, ◌∙◌, List, [], Bool, true, false, ℕ, ◌+◌, ◌-◌, ◌*◌, ◌/◌, ◌%◌, ◌<◌, ◌≤◌, arith, leb, ltb, length, set}
use Rattle.std.proofs.Math.Nat.{mul-le-mul_left}
use borrow.Author.Tests.{leb-true, ltb-true}
use Rattle.model.specs.declared.Rect.{Rect}
use Rattle.model.specs.declared.Head.{Head}
use Rattle.model.specs.declared.Marks.{Marks}
use Rattle.model.specs.declared.glass.Glass.{Glass}
use Rattle.model.specs.Geometry.{screen_bytes}
use Rattle.model.specs.Glass.{geometry, glass_of, line_parts}
use Rattle.model.specs.Record.{decode, encode}
use Rattle.model.specs.Marks.{marked}
use Rattle.model.specs.Poke.{ignored, poked, byte_rect, in_screen, poke_mark}
use Rattle.model.specs.Calls.{write_byte, lent, answered, done}
use Rattle.laws.specs.Tests.{and-true}
use Rattle.laws.specs.Points.{both}
use Rattle.laws.specs.Reciprocals.{line_of_byte, column_of_byte}
use Rattle.laws.specs.Updates.{unmarked}
use Rattle.updates.specs.Update.{updated}
use Rattle.updates.proofs.Updating.{updated_for}
use Rattle.record.specs.Entry.{Chosen}
use Rattle.record.specs.Given.{Given}
use Rattle.record.proofs.Lengths.{passes_for}
use Rattle.updates.proofs.Drawing.{Loaded, lands}

pub from_base : (v : Glass) (g a : ℕ) {b : Bool} → b ≡ in_screen (geometry v) g a → b ≡ true → g ≤ a
unfolding in_screen
from_base v g a e f = leb-true g a (and-true (leb g a) (ltb a (g + screen_bytes (geometry v))) (sym e ∙ f)).0

pub on_screen : (v : Glass) (g a : ℕ) {b : Bool} → b ≡ in_screen (geometry v) g a → b ≡ true → a - g < v.screen
unfolding in_screen
on_screen v g a e f =
    let s = screen_bytes (geometry v) in
    let l : a < g + s = ltb-true a (g + s) (and-true (leb g a) (ltb a (g + s)) (sym e ∙ f)).1 in
    omega (arith, v.suits.is_screen, from_base v g a e f)

-- ---- the line and the column of a screen byte

module _ (v : Glass) {i : ℕ} (b : i < v.screen) where
  -- a glass has up to 256 lines of up to 32 bytes
  lines : (0 < v.stride) × (v.stride ≤ 32) × (i < v.stride * 256)
  lines =
      let z = v.suits in
      omega (arith, z.is_screen, z.glass.columns, z.glass.cursor, mul-le-mul_left v.stride z.glass.high)

  pub line_found : i * v.reciprocal / line_parts ≡ i / v.stride
  line_found = line_of_byte v.suits.is_reciprocal lines.1 i lines.2

  -- x is the part of a line in l lines
  module _ {x l : ℕ} (e : l ≡ i * v.reciprocal) (f : x ≡ l % line_parts) where
    pub column_found : x * v.stride / line_parts ≡ i % v.stride
    column_found = rw (f, e) (column_of_byte v.suits.is_reciprocal lines.1 i lines.2)

-- its eight pixels, number by number
pub eight_pixels : (st i : ℕ) {l t r b : ℕ} → l ≡ 8 * (i % st) → t ≡ i / st → r ≡ l + 8 → b ≡ t + 1
    → record { left = l; top = t; right = r; bottom = b } ≡ byte_rect st i
eight_pixels st i p q e f = λ j. record { left = p j; top = q j; right = (e ∙ (λ k. p k + 8)) j; bottom = (f ∙ (λ k. q k + 1)) j }

-- ignored: nothing changes
pub poke_ignored : {v : Glass} {r m : List ℕ} → Given r m → Chosen (length r) v → (a b : ℕ) {t : Bool} → t ≡ ignored (decode (geometry v) r).keys a → t ≡ true
    → answered 0 [] (lent r m []) ≡ done (glass_of (length r)) (write_byte a b) (lent r m [])
unfolding done poked poke_mark
poke_ignored {v} {r} {m} w k a b e f =
    lands (write_byte a b) (lent r m []) k (rw (sym e ∙ f) (λ i. answered 0 [] (lent (sym (unmarked (geometry v) r (passes_for k w.passing)) i) m [])))

module _ {v : Glass} {r : List ℕ} {h : Head} {m : List ℕ} (w : Loaded v r h m) (a b : ℕ) where
  module _ {t u : Bool} (e : t ≡ ignored (decode (geometry v) r).keys a) (f : t ≡ false) (p : u ≡ in_screen (geometry v) h.graphics a) where
    pub poke_elsewhere : u ≡ false → answered 0 [] (lent r (set m a b) []) ≡ done (glass_of (length r)) (write_byte a b) (lent r m [])
    unfolding done poked poke_mark
    poke_elsewhere l =
        let g = geometry v in
        let o = sym (ap (λ (x : Head). in_screen g x.graphics a) w.head) ∙ sym p ∙ l in
        lands (write_byte a b) (lent r m []) w.chosen (rw (sym e ∙ f, o) (λ i. answered 0 [] (lent (sym (unmarked g r w.passing) i) (set m a b) [])))

    pub poke_screen : {q : Rect} {k : Marks} {s : List ℕ} → u ≡ true → q ≡ byte_rect v.stride (a - h.graphics) → k ≡ both q
        → s ≡ updated (λ g x. marked g k.dirty k.owed x) r
        → answered 0 [] (lent s (set m a b) []) ≡ done (glass_of (length r)) (write_byte a b) (lent r m [])
    unfolding done poked poke_mark
    poke_screen {k = y} l c j n =
        let g = geometry v in
        let o = sym (ap (λ (x : Head). in_screen g x.graphics a) w.head) ∙ sym p ∙ l in
        let k = j ∙ ap both (c ∙ ap (λ (x : Head). byte_rect v.stride (a - x.graphics)) w.head) in
        let rec = updated_for r (λ d x. marked d y.dirty y.owed x) w.chosen n ∙ (λ d. encode g (marked g (k d).dirty (k d).owed (decode g r))) in
        lands (write_byte a b) (lent r m []) w.chosen (rw (sym e ∙ f, o) (λ i. answered 0 [] (lent (rec i) (set m a b) [])))

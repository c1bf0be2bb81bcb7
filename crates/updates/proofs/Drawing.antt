-- What a call has loaded: the glass by value and the head; the lent parts of memory and record; drawings over the screen part, lent and come back.
use mathlib.Core.Path.{◌≡◌, refl, sym, ap, ◌∙◌}
use mathlib.Core.List.{List, []}
use mathlib.Core.Bool.{Bool}
use Prim.Native.Nat.{ℕ, zero, suc, ◌+◌, ◌-◌, ◌*◌, ◌≤◌}
use native.Mathlib.Omega.{arith}
use borrow.Rule.Slice.PartMut.{put_mid}
use lib.IntN.{ℤ}
use lib.ListN.{length, take, drop}
use Rattle.model.specs.declared.Canvas.{Canvas}
use Rattle.model.specs.declared.DrawMode.TheVariants.{Unknown}
use Rattle.model.specs.declared.Head.{Head}
use Rattle.model.specs.declared.Marks.{Marks}
use Rattle.model.specs.declared.glass.Glass.{Glass}
use Rattle.model.specs.Geometry.{Geometry, height, screen_bytes, cells, memory_bytes}
use Rattle.model.specs.Glass.{geometry, canvas, glass_of}
use Rattle.model.specs.Pixels.{Screen, seen}
use Rattle.model.specs.Memory.{window, with_window, screen_of}
use Rattle.model.specs.Flags.{flag_bytes}
use Rattle.model.specs.Record.{flags, head_of, decode, encode}
use Rattle.model.specs.Marks.{Drawing, Drawn, drawn, drawn_on, marked}
use Rattle.model.specs.Points.{draw_mode, is_set}
use Rattle.model.specs.Calls.{Call, Lent, Outcome, lent, answered, drawing_with, drawing, done}
use Rattle.laws.specs.Pixels.{length-draw}
use Rattle.laws.specs.Parts.{part-window, part_length, part_back}
use Rattle.laws.specs.Memory.{length-window}
use Rattle.laws.specs.PaintedMemory.{DrawnIn}
use Rattle.laws.specs.Record.{Passing, Numbers, length_part, has_flags}
use Rattle.laws.specs.StateTest.{flags-part}
use Rattle.laws.specs.Updates.{head_decoded, head_numbers}
use Rattle.record.specs.Entry.{Chosen}
use Rattle.updates.specs.Update.{updated, on_head}
use Rattle.record.specs.Given.{Given}
use Rattle.record.proofs.Lengths.{passes_for}
use Rattle.updates.proofs.Updating.{updated_for}

pub unknown_mode : (n : ℕ) → 3 ≤ n → Unknown ≡ draw_mode n
unknown_mode zero h = absurd (omega arith)
unknown_mode (suc zero) h = absurd (omega arith)
unknown_mode (suc (suc zero)) h = absurd (omega arith)
unknown_mode (suc (suc (suc n))) h = refl

-- ---- the lent parts of memory and record

abbrev pub screen_part : Glass → Head → List ℕ → List ℕ
screen_part v h m = take (h.graphics + v.screen - h.graphics) (drop h.graphics m)

abbrev pub text_part : Glass → Head → List ℕ → List ℕ
text_part v h m = take (h.text + v.cells - h.text) (drop h.text m)

abbrev pub flags_part : Glass → List ℕ → List ℕ
flags_part v r = take (v.others - v.flags) (drop v.flags r)

drawn-length : (st h : ℕ) (d : Drawing) (s : List ℕ) → length (drawn_on st h d s).screen ≡ length s
unfolding drawn_on
drawn-length st h d s = length-draw st (seen st h d.writes) s

-- v's screen at a of m
pub part_screen : (v : Glass) (a : ℕ) (m : List ℕ) {k : Canvas} → a + v.screen ≤ length m → k ≡ canvas v → Screen k.stride k.height (take (a + v.screen - a) (drop a m))
part_screen v a m l e =
    let z = v.suits in rw e (record {
      wide = omega (arith, z.glass.columns);
      narrow = omega (arith, z.glass.cursor);
      high = omega (arith, z.is_height, z.glass.row);
      low = omega (arith, z.is_height, z.glass.high);
      sized = part_length a v.screen m l ∙ z.is_screen ∙ ap (λ (n : ℕ). v.stride * n) (sym z.is_height);
    })

-- a bool as a number
-- ---- an accepted call that has loaded glass and head

pub record Loaded (v : Glass) (r : List ℕ) (h : Head) (m : List ℕ) : Type 0 where
  pub chosen : Chosen (length r) v
  pub passing : Passing (geometry v) r
  pub head : h ≡ (decode (geometry v) r).head
  pub memory : length m ≡ memory_bytes

pub loaded : {v : Glass} {r : List ℕ} {h : Head} {m : List ℕ} → Given r m → Chosen (length r) v → h ≡ head_of r → Loaded v r h m
loaded {v} {r} w k e = record { chosen = k; passing = passes_for k w.passing; head = e ∙ sym (head_decoded (geometry v) r); memory = w.memory }

-- done for the glass that was chosen is done for the one that the length tells
pub lands : {n : ℕ} {v : Glass} (c : Call) (l : Lent) {o : Outcome} → Chosen n v → o ≡ done (geometry v) c l → o ≡ done (glass_of n) c l
lands c l k d = d ∙ ap (λ (g : Geometry). done g c l) k.glass

module _ {v : Glass} {r : List ℕ} {h : Head} {m : List ℕ} (w : Loaded v r h m) where
  pub numbers : Numbers (geometry v) h
  numbers = head_numbers (geometry v) r w.passing w.head

  -- screen and text end within memory
  pub screen-in : h.graphics + v.screen ≤ 65535
  screen-in = let z = v.suits in omega (arith, numbers, z.is_screen, z.glass.screen)

  pub text_in : h.text + v.cells ≤ 65535
  text_in = let z = v.suits in omega (arith, numbers, z.is_cells, z.glass.text)

  pub screen_room : h.graphics + v.screen ≤ length m
  screen_room = omega (arith, screen-in, w.memory)

  pub text_room : h.text + v.cells ≤ length m
  text_room = omega (arith, text_in, w.memory)

  pub screen_length : length (screen_part v h m) ≡ v.screen
  screen_length = part_length h.graphics v.screen m screen_room

  pub text-length : length (text_part v h m) ≡ v.cells
  text-length = part_length h.text v.cells m text_room

  pub flags_length : length (flags_part v r) ≡ flag_bytes (cells (geometry v))
  flags_length = ap length (flags-part v r) ∙ length_part (geometry v) flags r (has_flags (geometry v)) w.passing.sized

  -- they are the definition's windows
  pub screen_is : screen_part v h m ≡ window h.graphics (screen_bytes (geometry v)) m
  screen_is = part-window h.graphics v.screen m ∙ ap (λ (n : ℕ). window h.graphics n m) v.suits.is_screen

  pub text_is : text_part v h m ≡ window h.text (cells (geometry v)) m
  text_is = part-window h.text v.cells m ∙ ap (λ (n : ℕ). window h.text n m) v.suits.is_cells

  pub screen-part : {k : Canvas} → k ≡ canvas v → Screen k.stride k.height (screen_part v h m)
  screen-part e = part_screen v h.graphics m screen_room e

  -- what a drawing on the lent part leaves of record and memory, with the head that f makes; a and b are the mode as the code and as the definition has it
  pub drew_with : {A : Type 0} (f : Head → Head) (shape : ℕ → ℕ → A → Drawing) (c : Marks) (s : List ℕ) {a b : A} {k : Canvas} {t : List ℕ} → a ≡ b → k ≡ canvas v
      → drawn c s ≡ drawn_on k.stride k.height (shape k.stride k.height a) (screen_part v h m)
      → t ≡ updated (λ g x. marked g c.dirty c.owed (on_head f g x)) r
      → let g = glass_of (length r) in lent t (put_mid h.graphics (h.graphics + v.screen - h.graphics) m s) [] ≡ drawing_with g f (shape g.stride (height g) b) (lent r m [])
  unfolding drawing_with drawn
  drew_with f shape c s {a} {b} {k} p q e t =
      let g = geometry v in
      let z = v.suits in
      let at = h.graphics in
      let d = shape v.stride (height g) b in
      let o : drawn c s ≡ drawn_on v.stride (height g) d (window at (screen_bytes g) m) =
      e ∙ (λ i. drawn_on (q i).stride (q i).height (shape (q i).stride (q i).height (p i)) (screen_is i))
      ∙ (λ i. drawn_on v.stride (z.is_height i) (shape v.stride (z.is_height i) b) (window at (screen_bytes g) m)) in
      let long : length s ≡ at + v.screen - at =
      ap (λ (x : Drawn). length x.screen) e ∙ drawn-length k.stride k.height (shape k.stride k.height a) (screen_part v h m) ∙ screen_length ∙ omega arith in
      let back = part_back at (at + v.screen) m s (omega arith) long ∙ ap (λ (x : Drawn). with_window at x.screen m) o in
      let rec = updated_for r (λ y x. marked y c.dirty c.owed (on_head f y x)) w.chosen t ∙ (λ i. encode g (marked g (o i).dirty (o i).owed (on_head f g (decode g r)))) in
      (λ i. lent (rec i) (back i) [])
      ∙ ap (λ (n : ℕ). lent (encode g (marked g (drawn_on v.stride (height g) d (window n (screen_bytes g) m)).dirty (drawn_on v.stride (height g) d (window n (screen_bytes g) m)).owed (on_head f g (decode g r))))
      (with_window n (drawn_on v.stride (height g) d (window n (screen_bytes g) m)).screen m) []) (ap (λ (x : Head). x.graphics) w.head)
      ∙ ap (λ (y : Geometry). drawing_with y f (shape y.stride (height y) b) (lent r m [])) w.chosen.glass

  -- with the head that stands there
  pub drew : {A : Type 0} (shape : ℕ → ℕ → A → Drawing) (c : Marks) (s : List ℕ) {a b : A} {k : Canvas} {t : List ℕ} → a ≡ b → k ≡ canvas v
      → drawn c s ≡ drawn_on k.stride k.height (shape k.stride k.height a) (screen_part v h m)
      → t ≡ updated (λ g x. marked g c.dirty c.owed x) r
      → let g = glass_of (length r) in
      answered 0 [] (lent t (put_mid h.graphics (h.graphics + v.screen - h.graphics) m s) []) ≡ answered 0 [] (drawing g (shape g.stride (height g) b) (lent r m []))
  drew shape c s p q e t = ap (answered 0 []) (drew_with (λ x. x) shape c s p q e t)

  -- a drawing on the window of memory where the screen is
  pub screen-bytes : {k : Canvas} → k ≡ canvas v → k.stride * k.height ≡ v.screen
  screen-bytes e = sym (screen-part e).sized ∙ screen_length

  pub screen_window : {k : Canvas} → k ≡ canvas v → Screen k.stride k.height (window h.graphics (k.stride * k.height) m)
  screen_window e = rw (screen-bytes e, ← part-window h.graphics v.screen m) (screen-part e)

  pub drew_in : {A : Type 0} (shape : ℕ → ℕ → A → Drawing) (c : Marks) (m' : List ℕ) {a b : A} {k : Canvas} {t : List ℕ} → a ≡ b → k ≡ canvas v → length m' ≡ length m
      → DrawnIn h.graphics k.stride k.height (shape k.stride k.height a) c m m'
      → t ≡ updated (λ g x. marked g c.dirty c.owed x) r
      → let g = glass_of (length r) in answered 0 [] (lent t m' []) ≡ answered 0 [] (drawing g (shape g.stride (height g) b) (lent r m []))
  drew_in shape c m' {k = k} {t} p q l o e =
      let at = h.graphics in
      let n = k.stride * k.height in
      let s = window at n m' in
      let sized = screen-bytes q in
      let long : length s ≡ at + v.screen - at = length-window at n m' (omega (arith, screen_room)) ∙ omega arith in
      let here : screen_part v h m ≡ window at n m = part-window at v.screen m ∙ ap (λ (j : ℕ). window at j m) (sym sized) in
      let back : m' ≡ put_mid at (at + v.screen - at) m s = o.others ∙ sym (part_back at (at + v.screen) m s (omega arith) long) in
      ap (λ (x : List ℕ). answered 0 [] (lent t x [])) back ∙ drew shape c s p q (rw here o.screen) e

  -- what a check of the lent part tells
  pub checked : (x y : ℤ) {k : Canvas} {t : Bool} → k ≡ canvas v → t ≡ is_set k.stride k.height (screen_part v h m) x y
      → let g = glass_of (length r) in t ≡ is_set g.stride (height g) (screen_of g (decode g r).head.graphics m) x y
  checked x y {t = t} q e =
      e ∙ (λ i. is_set (q i).stride (q i).height (screen_is i) x y)
      ∙ (λ i. is_set v.stride (v.suits.is_height i) (screen_of (geometry v) (w.head i).graphics m) x y)
      ∙ ap (λ (g : Geometry). is_set g.stride (height g) (screen_of g (decode g r).head.graphics m) x y) w.chosen.glass

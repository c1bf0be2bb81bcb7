-- Boxes: their writes lie in what they owe; row after row, and part after part, as the code draws them.
use Rattle.std.specs.Prelude.{◌≡◌, ◌⊎◌, Bool, cond, ℕ, zero, suc, ◌+◌, ◌-◌, ◌*◌, ◌≤◌, ◌<◌, min, max, eqb, ltb, length}
use Rattle.std.proofs.Math.Path.{refl}
use Rattle.std.proofs.Common.{sym, ap, ap₂, ◌∙◌, inl, inr, mul-le-mul_left, arith, add-one}
use Rattle.std.proofs.Math.Bool.{true, false}
use mathlib.Core.List.{List, [], ◌∷◌, ◌++◌}
use Rattle.model.specs.declared.Rect.{Rect}
use Rattle.model.specs.declared.Marks.{Marks}
use Rattle.model.specs.declared.Edge.{Edge}
use Rattle.model.specs.declared.Edge.TheVariants.{Clamp, Stop}
use Rattle.model.specs.declared.DrawMode.{DrawMode}
use Rattle.model.specs.Pixels.{Screen, PixelWrite, draw, seen}
use Rattle.model.specs.Rects.{every, lowered, fits}
use Rattle.model.specs.Bytes.{Bytes}
use Rattle.model.specs.Marks.{drawn, drawn_on, owes, within}
use Rattle.model.specs.Lines.{is_unknown, span_rect, pixel_run, clamp, clamped, stopped, horizontal, owed_by, vertical}
use Rattle.model.specs.Boxes.{box_rows, filled_box, outline, box_of, box}
use Rattle.laws.specs.Tests.{tests, clash, by_test, by_lt, either, all_true}
use Rattle.laws.specs.Rects.{rect_equal}
use Rattle.laws.specs.Writes.{seen-append, drawn-append, within_none, within-append, OwesItsMark, owes_mark, drawn_is, screen_draw}
use Rattle.laws.specs.Lines.{solid, horizontal_in, filled_in, span_fits, owed_holds, horizontal-within, beyond, beyond_off, beyond_on, stopped-beyond, stopped-clamped, clamped-drawn, vertical-within}
use Rattle.laws.specs.Points.{marks_by}
use Rattle.laws.specs.Runs.{masked_bytes, bytes_append, bytes_run, bytes_kept}

-- ---- no write lies outside

rows-within : (st h : ℕ) (edge : Edge) (r : Rect) (left right y n : ℕ) (d : DrawMode) → left ≤ right → r.left ≤ left → right < r.right → r.top ≤ y → y + n ≤ r.bottom
    → within (owed_by st h edge r) (box_rows st h edge left right y n d) ≡ true
unfolding box_rows
rows-within st h edge r left right y zero d o a b e f = within_none _
rows-within st h edge r left right y (suc n) d o a b e f =
    within-append _ (horizontal st h edge left right y d) (box_rows st h edge left right (suc y) n d)
    (horizontal-within st h edge r left right y d o a b e (omega arith))
    (rows-within st h edge r left right (suc y) n d o a b (omega arith) (omega arith))

module _ (st h : ℕ) (edge : Edge) (left top right bottom : ℕ) (d : DrawMode) (across : left ≤ right) (down : top ≤ bottom) where
  pub box-within : (fill : Bool) → within (owed_by st h edge (span_rect left top right bottom)) (cond fill (filled_box st h edge left top right bottom d) (outline st h edge left top right bottom d)) ≡ true
  unfolding filled_box outline
  box-within true = rows-within st h edge (span_rect left top right bottom) left right top (suc (bottom - top)) d across (omega arith) (omega arith) (omega arith) (omega arith)
  box-within false =
      within-append _ (horizontal st h edge left right top d) _ (level top (omega arith) (omega arith))
      (within-append _ (horizontal st h edge left right bottom d) _ (level bottom (omega arith) (omega arith))
      (by_test (is_unknown d) (λ t. rw t (within_none _))
      (λ t. rw t (within-append _ (vertical left top bottom d) (vertical right top bottom d) (upright left (omega arith) (omega arith)) (upright right (omega arith) (omega arith))))))
    where
      level : (y : ℕ) → top ≤ y → y ≤ bottom → within (owed_by st h edge (span_rect left top right bottom)) (horizontal st h edge left right y d) ≡ true
      level y a b = horizontal-within st h edge (span_rect left top right bottom) left right y d across (omega arith) (omega arith) a (omega arith)

      upright : (x : ℕ) → left ≤ x → x ≤ right → within (owed_by st h edge (span_rect left top right bottom)) (vertical x top bottom d) ≡ true
      upright x a b = let q = owed_holds st h edge (span_rect left top right bottom) in vertical-within _ x top bottom d down (omega arith) (omega arith) (omega arith) (omega arith)

-- ---- a filled box with clamped rows, row after row: what is left of it, drawn on what stands, gives the whole

pub rows_turn : (st h left right y n : ℕ) (d : DrawMode) (s e t : List ℕ) {a b l : ℕ} → Screen st h s → left ≤ right → 0 < n
    → a ≡ clamp left (8 * st) → b ≡ clamp right (8 * st) → l ≡ clamp y h → e ≡ draw st (pixel_run a l (suc (b - a)) d) s
    → draw st (seen st h (box_rows st h Clamp left right y n d)) s ≡ t
    → draw st (seen st h (box_rows st h Clamp left right (y + 1) (n - 1) d)) e ≡ t
unfolding box_rows horizontal
rows_turn st h left right y n d s e t r o k p q w v u =
    let more : n ≡ suc (n - 1) = omega arith in
    cc (add-one y, clamped-drawn st h left right y d s e r o p q w v, drawn-append st h (clamped st h left right y d) _ s)

pub rows_start : (st h left top right bottom : ℕ) (d : DrawMode) (s : List ℕ)
    → draw st (seen st h (box_rows st h Clamp left right top (bottom - top + 1) d)) s ≡ draw st (seen st h (filled_box st h Clamp left top right bottom d)) s
unfolding filled_box
rows_start st h left top right bottom d s = rw (add-one (bottom - top))

pub rows_end : (st h left right y n : ℕ) (d : DrawMode) (s t : List ℕ) → n ≤ 0 → draw st (seen st h (box_rows st h Clamp left right y n d)) s ≡ t → s ≡ t
unfolding box_rows seen draw
rows_end st h left right y n d s t o u = let z : n ≡ zero = omega arith in rw z at u

-- ---- a filled box as wide as the screen: its lines are whole bytes, one after another

abbrev whole_tests : ℕ → ℕ → ℕ → ℕ → ℕ → List Bool
whole_tests st h first last bottom = eqb first 0 ∷ eqb (last + 1) (8 * st) ∷ ltb bottom h ∷ []

unfoldable pub whole_lines : ℕ → ℕ → ℕ → ℕ → ℕ → Bool
whole_lines st h first last bottom = every (whole_tests st h first last bottom)

-- they end within the screen
pub whole_in : (st h top bottom a b : ℕ) {s : List ℕ} {t : Bool} → Screen st h s → top ≤ bottom → t ≡ whole_lines st h a b bottom → t ≡ true
    → (st * top ≤ st * (bottom + 1)) × (st * (bottom + 1) ≤ length s)
unfolding whole_lines
whole_in st h top bottom a b r o u v =
    let f = all_true (whole_tests st h a b bottom) (sym u ∙ v) in
    (mul-le-mul_left st (omega arith), omega (arith, r.sized, mul-le-mul_left {m = bottom + 1} {n = h} st (omega (arith, tests))))

lines_drawn : (st h left right y n : ℕ) (d : DrawMode) (s : List ℕ) → Screen st h s → Bytes s → left ≤ right → 0 ≡ clamp left (8 * st)
    → 8 * st - 1 ≡ clamp right (8 * st) → y + n ≤ h → masked_bytes s (st * y) (st * n) d ≡ draw st (seen st h (box_rows st h Clamp left right y n d)) s
unfolding box_rows horizontal seen draw masked_bytes
lines_drawn st h left right y zero d s r hs o p q k = let e : st * zero ≡ zero = omega arith in rw e
lines_drawn st h left right y (suc n) d s r hs o p q k =
    let e : st * suc n ≡ st + st * n = omega arith in
    let i : st * y ≡ st * y + 0 = omega arith in
    let j : st * y + st ≡ st * suc y = omega arith in
    let l : 8 * st ≡ suc (8 * st - 1 - 0) = omega (arith, r.wide) in
    let f : masked_bytes s (st * y) st d ≡ draw st (seen st h (clamped st h left right y d)) s =
    clamped-drawn st h left right y d s _ {l = y} r o p q (omega arith) (cc (bytes_run st h y 0 st d s r hs (omega arith) (omega arith))) in
    let rest = lines_drawn st h left right (suc y) n d (masked_bytes s (st * y) st d) (screen_draw st h (seen st h (clamped st h left right y d)) r f) (bytes_kept (st * y) st d s hs) o p q (omega arith) in
    cc (bytes_append (st * y) st (st * n) d s, drawn-append st h _ _ s)

pub box-whole : (st h left top right bottom : ℕ) (d : DrawMode) (s e : List ℕ) {a b : ℕ} {t : Bool} → Screen st h s → Bytes s → (left ≤ right) × (top ≤ bottom)
    → a ≡ clamp left (8 * st) → b ≡ clamp right (8 * st) → t ≡ whole_lines st h a b bottom → t ≡ true
    → e ≡ masked_bytes s (st * top) (st * (bottom + 1) - st * top) d
    → e ≡ draw st (seen st h (filled_box st h Clamp left top right bottom d)) s
unfolding filled_box whole_lines
box-whole st h left top right bottom d s e {a} {b} r hs o p q u v w =
    let f = all_true (whole_tests st h a b bottom) (sym u ∙ v) in
    let z : bottom - top + top ≡ bottom = omega arith in
    let g : st * (bottom + 1) - st * top ≡ st * suc (bottom - top) = omega (arith, ap (λ (k : ℕ). st * k) z) in
    cc (lines_drawn st h left right top (suc (bottom - top)) d s r hs o.0 (omega (arith, tests)) (omega (arith, tests)) (omega (arith, tests)))

-- ---- a filled box that stops at the edge: nothing, or the clamped one down to the screen's last line

rows_off : (st h left right y n : ℕ) (d : DrawMode) → (8 * st ≤ left) ⊎ (h ≤ y) → seen st h (box_rows st h Stop left right y n d) ≡ []
unfolding box_rows horizontal seen
rows_off st h left right y zero d o = refl
rows_off st h left right y (suc n) d o =
    cc (seen-append st h (stopped left right y d) (box_rows st h Stop left right (suc y) n d), stopped-beyond st h left right y d o, rows_off st h left right (suc y) n d (either o inl (λ l. inr (omega arith))))

-- m of the n rows lie on the screen
rows_cut : (st h left right y n m : ℕ) (d : DrawMode) → left < 8 * st → left ≤ right → m ≤ n → y + m ≤ h → (m < n → y + m ≡ h)
    → seen st h (box_rows st h Stop left right y n d) ≡ seen st h (box_rows st h Clamp left right y m d)
unfolding box_rows horizontal seen
rows_cut st h left right y n zero d a o b e f = by_lt 0 n (λ l. rows_off st h left right y n d (inr (omega (arith, f l)))) (λ l. let z : n ≡ zero = omega arith in rw z)
rows_cut st h left right y zero (suc m) d a o b e f = absurd (omega arith)
rows_cut st h left right y (suc n) (suc m) d a o b e f =
    let rest = rows_cut st h left right (suc y) n m d a o (omega arith) (omega arith) (λ k. omega (arith, f (omega arith))) in
    seen-append st h (stopped left right y d) (box_rows st h Stop left right (suc y) n d)
    ∙ ap₂ ◌++◌ (stopped-clamped st h left right y d a (omega arith) o) rest
    ∙ sym (seen-append st h (clamped st h left right y d) (box_rows st h Clamp left right (suc y) m d))

-- the last row that is drawn of one that ends at line z
unfoldable pub last_row : ℕ → Edge → ℕ → ℕ
last_row h Clamp z = z
last_row h Stop z = clamp z h

pub box-beyond : (st h : ℕ) (edge : Edge) (left top right bottom : ℕ) (d : DrawMode) (s : List ℕ) {t : Bool} → t ≡ beyond st h edge left top → t ≡ true
    → s ≡ draw st (seen st h (filled_box st h edge left top right bottom d)) s
unfolding filled_box draw beyond
box-beyond st h Clamp left top right bottom d s p q = clash _ q p
box-beyond st h Stop left top right bottom d s p q = rw (rows_off st h left right top (suc (bottom - top)) d (beyond_off st h left top (sym p ∙ q)))

-- that row lies no higher than the top
pub low_in : (st h : ℕ) (edge : Edge) (left top bottom : ℕ) {t : Bool} {low : ℕ} → top ≤ bottom → t ≡ beyond st h edge left top → t ≡ false → low ≡ last_row h edge bottom → top ≤ low
unfolding last_row
low_in st h Clamp left top bottom o p q k = omega arith
low_in st h Stop left top bottom o p q k = omega (arith, beyond_on st h left top (sym p ∙ q))

pub box_on : (st h : ℕ) (edge : Edge) (left top right bottom : ℕ) (d : DrawMode) (s e : List ℕ) {t : Bool} {low : ℕ} → (left ≤ right) × (top ≤ bottom)
    → t ≡ beyond st h edge left top → t ≡ false → low ≡ last_row h edge bottom → e ≡ draw st (seen st h (filled_box st h Clamp left top right low d)) s
    → e ≡ draw st (seen st h (filled_box st h edge left top right bottom d)) s
unfolding filled_box last_row
box_on st h Clamp left top right bottom d s e o p q k w = rw k at w
box_on st h Stop left top right bottom d s e {low = low} o p q k w =
    let on = beyond_on st h left top (sym p ∙ q) in
    cc (rows_cut st h left right top (suc (bottom - top)) (suc (low - top)) d on.0 o.0 (omega arith) (omega arith) (λ j. omega arith))

-- ---- a box whose left and bottom lie on the screen is the same with both edge flags, also where its right does not

module _ (st h left top right bottom : ℕ) (d : DrawMode) (across : left ≤ right) (down : top ≤ bottom) (beside : left < 8 * st) (above : bottom < h) where
  same_writes : (fill : Bool) → seen st h (box_of st h Stop left top right bottom fill d).writes ≡ seen st h (box_of st h Clamp left top right bottom fill d).writes
  unfolding box_of filled_box outline horizontal
  same_writes true = rows_cut st h left right top (suc (bottom - top)) (suc (bottom - top)) d beside across (omega arith) (omega arith) (λ k. omega arith)
  same_writes false =
      cc (
        seen-append st h (stopped left right top d) _,
        seen-append st h (stopped left right bottom d) _,
        seen-append st h (clamped st h left right top d) _,
        seen-append st h (clamped st h left right bottom d) _,
        stopped-clamped st h left right top d beside (omega arith) across,
        stopped-clamped st h left right bottom d beside above across,
      )

  pub box_either : (fill : Bool) (s : List ℕ) → drawn_on st h (box_of st h Stop left top right bottom fill d) s ≡ drawn_on st h (box_of st h Clamp left top right bottom fill d) s
  unfolding box_of drawn_on owed_by lowered
  box_either fill s =
      let e = same_writes fill in
      let m : span_rect left top right bottom ≡ lowered (8 * st) h (span_rect left top right bottom) = rect_equal (omega arith) (omega arith) refl refl in
      λ i. record { dirty = span_rect left top right bottom; owed = owes st h (m i) (e i); screen = draw st (e i) s }

-- ---- an outline, part after part

module _ (st h : ℕ) (edge : Edge) (left top right bottom : ℕ) (d : DrawMode) {k : DrawMode} (s s₁ s₂ : List ℕ) (same : k ≡ solid d)
    (first : s₁ ≡ draw st (seen st h (horizontal st h edge left right top k)) s)
    (second : s₂ ≡ draw st (seen st h (horizontal st h edge left right bottom k)) s₁) where
  sides : (ws : List PixelWrite) (e : List ℕ) → e ≡ draw st (seen st h ws) s₂
      → e ≡ draw st (seen st h (horizontal st h edge left right top d ++ (horizontal st h edge left right bottom d ++ ws))) s
  sides ws e w =
      let a = horizontal_in st h edge d s s₁ same left right top first in
      let b = horizontal_in st h edge d s₁ s₂ same left right bottom second in
      cc (drawn-append st h (horizontal st h edge left right bottom d) ws s₁, drawn-append st h (horizontal st h edge left right top d) (horizontal st h edge left right bottom d ++ ws) s)

  pub outline-unknown : {t : Bool} → t ≡ is_unknown d → t ≡ true → s₂ ≡ draw st (seen st h (outline st h edge left top right bottom d)) s
  unfolding outline seen draw
  outline-unknown p q = rw (sym p ∙ q) (sides [] s₂ refl)

  pub outline-drawn : (s₃ e : List ℕ) {t : Bool} → t ≡ is_unknown d → t ≡ false
      → s₃ ≡ draw st (seen st h (vertical left top bottom d)) s₂ → e ≡ draw st (seen st h (vertical right top bottom d)) s₃
      → e ≡ draw st (seen st h (outline st h edge left top right bottom d)) s
  unfolding outline
  outline-drawn s₃ e p q w v =
      rw (sym p ∙ q) (sides (vertical left top bottom d ++ vertical right top bottom d) e (cc (drawn-append st h (vertical left top bottom d) (vertical right top bottom d) s₂)))

-- ---- with its marks

module _ (st h : ℕ) (edge : Edge) (x1 y1 x2 y2 : ℕ) (d : DrawMode) (s e : List ℕ) {l t r b : ℕ} {m : Marks}
    (pl : l ≡ min x1 x2) (pt : t ≡ min y1 y2) (pr : r ≡ max x1 x2) (pb : b ≡ max y1 y2)
    (marks : m ≡ marks_by st h edge (span_rect l t r b)) where
  same_box : (fill : Bool) → e ≡ draw st (seen st h (box_of st h edge l t r b fill d).writes) s → drawn m e ≡ drawn_on st h (box st h edge x1 y1 x2 y2 fill d) s
  unfolding box box_of
  same_box fill w =
      drawn_is st h (box_of st h edge l t r b fill d) s e (box-within st h edge l t r b d (omega arith) (omega arith) fill) marks w
      ∙ (λ i. drawn_on st h (box_of st h edge (pl i) (pt i) (pr i) (pb i) fill d) s)

  pub box-filled : {fill : Bool} {k : DrawMode} → fill ≡ true → k ≡ solid d → e ≡ draw st (seen st h (filled_box st h edge l t r b k)) s → drawn m e ≡ drawn_on st h (box st h edge x1 y1 x2 y2 fill d) s
  unfolding box_of
  box-filled {fill} f k w = rw f (same_box true (filled_in st h edge d s e k l t r b w))

  pub box-outlined : {fill : Bool} → fill ≡ false → e ≡ draw st (seen st h (outline st h edge l t r b d)) s → drawn m e ≡ drawn_on st h (box st h edge x1 y1 x2 y2 fill d) s
  unfolding box_of
  box-outlined {fill} f w = rw f (same_box false w)

-- ---- every box: its mark passes STATE, and no write lies outside what it owes

module _ (st h : ℕ) (edge : Edge) (x1 y1 x2 y2 : ℕ) (fill : Bool) (d : DrawMode) where
  pub box-fits : x1 < 256 → y1 < 256 → x2 < 256 → y2 < 256 → fits 256 0 256 (box st h edge x1 y1 x2 y2 fill d).dirty ≡ true
  unfolding box box_of
  box-fits a b e f = span_fits (min x1 x2) (min y1 y2) (max x1 x2) (max y1 y2) (omega arith) (omega arith) (omega arith) (omega arith)

  pub box-owes : OwesItsMark st h (box st h edge x1 y1 x2 y2 fill d)
  unfolding box box_of
  box-owes = owes_mark st h _ _ (box-within st h edge (min x1 x2) (min y1 y2) (max x1 x2) (max y1 y2) d (omega arith) (omega arith) fill)

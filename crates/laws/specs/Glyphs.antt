-- Glyphs: where a code's glyph stands, and how its bytes are stored on the screen.
use Rattle.std.specs.Prelude.{◌≡◌, Bool, true, false, ◌&&◌, leb, eqb, ltb, length, Option, Some, None}
use Rattle.std.proofs.Math.Path.{refl, ap}
use Rattle.std.proofs.Common.{sym, ◌∙◌, mul-suc, length-set, get_or-take, get_or-drop, drop-cons}
use Rattle.std.proofs.Math.Bool.{and_assoc, and-true}
use mathlib.Core.List.{List, [], ◌∷◌, ◌++◌}
use Prim.Native.Nat.{ℕ, zero, suc, ◌+◌, ◌-◌, ◌≤◌, ◌<◌, ◌*◌, ◌/◌, ◌%◌}
use native.Mathlib.Omega.{arith}
use Rattle.std.proofs.Math.Numerals.{add-one}
use Rattle.std.proofs.Math.ListN.{get_or, set, take, drop}
use borrow.Author.Tests.{eq-eqb, ne_eqb, lt-ltb, le-ltb, le-leb, lt-leb}
use Rattle.model.specs.declared.Glyph.{Glyph}
use Rattle.model.specs.declared.Glyph.TheVariants.{Extra, Hexadecimal}
use Rattle.model.specs.Bytes.{two, four}
use Rattle.model.specs.Codes.{CodeRow, codes, emoji_rows, in_row, index_in, emoji_index, gb_index, extra_from, extra_offset}
use Rattle.model.specs.Glyphs.{glyph_or, glyph_of, Store, digit, flipped, value, paint, fonts_fit, column_stores, line_stores, code_stores}
use Rattle.laws.specs.Tests.{all_true, by_lt, if_cases, tests}

-- Codes: a table of rows searched from the first on.

-- ---- rows

module _ {b : Bool} (r : CodeRow) (rs : List CodeRow) (before lead trail : ℕ) where
  -- the code is of the first row
  pub row_here : {f : Option ℕ} → b ≡ in_row r lead trail → b ≡ true → f ≡ Some (before + (trail - r.first)) → f ≡ index_in (r ∷ rs) before lead trail
  unfolding index_in
  row_here e t h = rw (← e, t) h

  -- or of another
  pub row_past : {f : Option ℕ} → b ≡ in_row r lead trail → b ≡ false → f ≡ index_in rs (before + (r.last + 1 - r.first)) lead trail
      → f ≡ index_in (r ∷ rs) before lead trail
  unfolding index_in
  row_past e t h = rw (← e, t) h

-- a code of a row has its first trail or one after it
pub row_first : {b : Bool} (row first last lead trail : ℕ) → b ≡ in_row (codes row first last) lead trail → b ≡ true → first ≤ trail
unfolding in_row
row_first row first last lead trail e t = omega (arith, tests, all_true (eqb lead row ∷ leb first trail ∷ leb trail last ∷ []) (sym e ∙ t))

-- ---- the version, 0 or 1

pub index_v1 : {f : Option ℕ} (version lead trail : ℕ) → version ≡ 0 → f ≡ index_in (emoji_rows 0) 0 lead trail → f ≡ emoji_index version lead trail
unfolding emoji_index
index_v1 version lead trail e h = h ∙ ap (λ (v : ℕ). index_in (emoji_rows v) 0 lead trail) (sym e)

pub index_v2 : {f : Option ℕ} (version lead trail : ℕ) → (version ≡ 0 → ⊥) → f ≡ index_in (emoji_rows 1) 0 lead trail → f ≡ emoji_index version lead trail
unfolding emoji_index
index_v2 zero lead trail e h = absurd (e refl)
index_v2 (suc n) lead trail e h = h

-- every row has a greater lead
abbrev Above : ℕ → List CodeRow → Type 0
Above lead [] = Unit {0}
Above lead (r ∷ rs) = (lead < r.lead) × Above lead rs

above_none : (rs : List CodeRow) (before lead trail : ℕ) → Above lead rs → None ≡ index_in rs before lead trail
unfolding index_in in_row
above_none [] before lead trail h = refl
above_none (r ∷ rs) before lead trail h =
    rw (ne_eqb lead r.lead (λ e. absurd (omega arith))) (above_none rs (before + (r.last + 1 - r.first)) lead trail h.1)

-- no emoji has a lead below 248
pub no_emoji : (version lead trail : ℕ) → lead < 248 → None ≡ emoji_index version lead trail
unfolding emoji_index
no_emoji zero lead trail h = above_none (emoji_rows 0) 0 lead trail (omega arith)
no_emoji (suc n) lead trail h = above_none (emoji_rows 1) 0 lead trail (omega arith)

-- ---- GB's empty rows, 10-15: neither emoji nor GB, so the extra list decides

gb_empty : (lead trail : ℕ) → 170 ≤ lead → lead ≤ 175 → gb_index lead trail ≡ None
unfolding gb_index
gb_empty lead trail a b = rw (le-leb 161 lead (omega arith), lt-leb lead 169 (omega arith), lt-leb 176 lead (omega arith))

pub empty_row : (version : ℕ) (list : List ℕ) (lead trail : ℕ) → 170 ≤ lead → lead ≤ 175
    → glyph_of version list lead trail ≡ glyph_or (extra_offset list (256 * lead + trail)) Extra Hexadecimal
unfolding glyph_of glyph_or
empty_row version list lead trail a b = rw (← no_emoji version lead trail (omega arith), gb_empty lead trail a b)

-- ---- the extra list

module _ (list : List ℕ) (code : ℕ) where
  pub extra_here : {f : Option ℕ} (i k n : ℕ) → k < n → two list i ≡ code → f ≡ Some (four list (i + 2)) → f ≡ extra_from list code i (n - k)
  unfolding extra_from
  extra_here i k n l e h = let q : n - k ≡ suc (n - (k + 1)) = omega arith in rw (q, eq-eqb (two list i) code e) h

  pub extra_past : {f : Option ℕ} (i k n : ℕ) → k < n → (two list i ≡ code → ⊥) → f ≡ extra_from list code i (n - k) → f ≡ extra_from list code (i + 6) (n - (k + 1))
  unfolding extra_from
  extra_past i k n l e h = let q : n - k ≡ suc (n - (k + 1)) = omega arith in cc (ne_eqb (two list i) code e)

  pub extra_end : (i k n : ℕ) → n ≤ k → None ≡ extra_from list code i (n - k)
  unfolding extra_from
  extra_end i k n l = let q : n - k ≡ 0 = omega arith in rw q

-- ---- one source after another

pub found_at : {f : Option ℕ} (i : ℕ) (k : ℕ → Glyph) (other : Glyph) → f ≡ Some i → k i ≡ glyph_or f k other
unfolding glyph_or
found_at i k other e = rw e

pub found_nothing : {f : Option ℕ} {g : Glyph} (k : ℕ → Glyph) (other : Glyph) → f ≡ None → g ≡ other → g ≡ glyph_or f k other
unfolding glyph_or
found_nothing k other e h = rw e h

-- Glyphs: lists of byte stores one after another, and glyphs of any height, line by line.

-- ---- stores

pub length-paint : (ws : List Store) (s : List ℕ) → length (paint ws s) ≡ length s
unfolding paint
length-paint [] s = refl
length-paint (w ∷ ws) s = length-paint ws (set s w.place (value w)) ∙ length-set s w.place (value w)

pub paint-append : (a b : List Store) (s : List ℕ) → paint (a ++ b) s ≡ paint b (paint a s)
unfolding paint
paint-append [] b s = refl
paint-append (w ∷ a) b s = paint-append a b (set s w.place (value w))

pub fits-append : (a b : List Store) → fonts_fit (a ++ b) ≡ (fonts_fit a && fonts_fit b)
unfolding fonts_fit
fits-append [] b = refl
fits-append (w ∷ a) b = cc (fits-append a b, and_assoc _ _ _)

-- ---- places: a glyph whose last line lies on a screen of n bytes

line_more : (st i e : ℕ) → i < e → st * (e - i) ≡ st * (e - (i + 1)) + st
line_more st i e l = let q : e - i ≡ suc (e - (i + 1)) = omega arith in rw q (mul-suc st (e - (i + 1)))

pub room_here : (st place i e n : ℕ) → i < e → place + st * (e - i) < n + st → place < n
room_here st place i e n l h = omega (arith, line_more st i e l)

pub room_next : (st place i e n : ℕ) → i < e → place + st * (e - i) < n + st → (place + st) + st * (e - (i + 1)) < n + st
room_next st place i e n l h = omega (arith, line_more st i e l)

-- a place before the last lies in the font where the last one does
both_below : (i last n : ℕ) → i < last → (ltb i n && leb last n) ≡ leb last n
both_below i last n l = by_lt i n (λ m. rw (lt-ltb i n m)) (λ m. rw (le-ltb i n m, lt-leb last n (omega arith)))

-- byte k of a part of a font
part_byte : (font : List ℕ) (a n k : ℕ) → k < n → get_or (take n (drop a font)) k 0 ≡ get_or font (a + k) 0
part_byte font a n k m = get_or-take n (drop a font) k 0 m ∙ get_or-drop a font k 0

-- ---- of one byte a line: bytes i up to e of a font

module _ (st : ℕ) (font : List ℕ) (inverse : Bool) where
  pub column_turn : (place i e : ℕ) (s : List ℕ) → i < e
      → paint (column_stores st font place i inverse (e - i)) s ≡ paint (column_stores st font (place + st) (i + 1) inverse (e - (i + 1))) (set s place (flipped inverse (get_or font i 0)))
  unfolding column_stores paint
  column_turn place i e s l = let q : e - i ≡ suc (e - (i + 1)) = omega arith in rw q

  pub column_end : (place i e : ℕ) (s : List ℕ) → e ≤ i → paint (column_stores st font place i inverse (e - i)) s ≡ s
  unfolding column_stores paint
  column_end place i e s l = let q : e - i ≡ 0 = omega arith in rw q

  -- they lie in the font where the last one does
  pub column_fits : (place i h : ℕ) → fonts_fit (column_stores st font place i inverse (suc h)) ≡ leb (i + suc h) (length font)
  unfolding column_stores fonts_fit
  column_fits place i zero = cc (and-true (ltb i (length font)), add-one i)
  column_fits place i (suc h) =
      let q : i + 1 + suc h ≡ i + suc (suc h) = omega arith in
      cc (column_fits (place + st) (i + 1) h, both_below i (i + suc (suc h)) (length font) (omega arith))

  -- a part of n bytes from a on is painted as the font's own bytes are
  pub part_column : (a n place j h : ℕ) (s : List ℕ) → j + h ≤ n
      → paint (column_stores st (take n (drop a font)) place j inverse h) s ≡ paint (column_stores st font place (a + j) inverse h) s
  unfolding column_stores paint
  part_column a n place j zero s l = refl
  part_column a n place j (suc h) s l =
      let at = part_byte font a n j (omega arith) in
      let q : a + (j + 1) ≡ a + j + 1 = omega arith in
      let t = set s place (flipped inverse (get_or (take n (drop a font)) j 0)) in
      cc (part_column a n (place + st) (j + 1) h t (omega arith), at)

-- ---- a byte in hexadecimal

pub code-fits : (st : ℕ) (font : List ℕ) (place b : ℕ)
    → fonts_fit (code_stores st font place b) ≡ (leb (8 * digit (b / 16) + 8) (length font) && leb (8 * digit (b % 16) + 8) (length font))
unfolding code_stores
code-fits st font place b =
    fits-append (column_stores st font place (8 * digit (b / 16)) false 8) (column_stores st font (place + 8 * st) (8 * digit (b % 16)) false 8)
    ∙ (λ k. column_fits st font false place (8 * digit (b / 16)) 7 k && column_fits st font false (place + 8 * st) (8 * digit (b % 16)) 7 k)

-- F is the last digit
digit_most : (n : ℕ) → n < 16 → digit n ≤ 70
digit_most n h = if_cases (λ (k : ℕ). k ≤ 70) (ltb n 10) (λ e. omega (arith, tests)) (λ e. omega arith)

-- so the characters up to F are enough
pub digits_fit : (font : List ℕ) (b : ℕ) → b < 256 → 568 ≤ length font → (leb (8 * digit (b / 16) + 8) (length font) && leb (8 * digit (b % 16) + 8) (length font)) ≡ true
digits_fit font b h l =
    rw (
      le-leb (8 * digit (b / 16) + 8) (length font) (omega (arith, digit_most (b / 16) (omega arith))),
      le-leb (8 * digit (b % 16) + 8) (length font) (omega (arith, digit_most (b % 16) (omega arith))),
    )

-- ---- of two bytes a line

module _ (st : ℕ) (font : List ℕ) (il ir : Bool) where
  pub lines_fits : (left right i h : ℕ) → fonts_fit (line_stores st font left right i il ir (suc h)) ≡ leb (i + 2 * suc h) (length font)
  unfolding line_stores fonts_fit
  lines_fits left right i zero =
      let q : suc (i + 1) ≡ i + 2 = omega arith in
      cc (and-true (ltb (i + 1) (length font)), both_below i (i + 2) (length font) (omega arith))
  lines_fits left right i (suc h) =
      let q : i + 2 + 2 * suc h ≡ i + 2 * suc (suc h) = omega arith in
      let last = i + 2 * suc (suc h) in
      cc (lines_fits (left + st) (right + st) (i + 2) h, both_below (i + 1) last (length font) (omega arith), both_below i last (length font) (omega arith))

-- a glyph by value: h lines of two bytes, from byte i of a part of a font on
abbrev pub glyph_lines : List ℕ → ℕ → ℕ → List (List ℕ)
glyph_lines part i zero = []
glyph_lines part i (suc h) = (get_or part i 0 ∷ get_or part (i + 1) 0 ∷ []) ∷ glyph_lines part (i + 2) h

-- painted line by line
unfoldable pub paint_lines : ℕ → ℕ → ℕ → Bool → Bool → List (List ℕ) → List ℕ → List ℕ
paint_lines st left right il ir [] s = s
paint_lines st left right il ir (x ∷ xs) s =
    paint_lines st (left + st) (right + st) il ir xs (set (set s left (flipped il (get_or x 0 0))) right (flipped ir (get_or x 1 0)))

module _ (st : ℕ) (il ir : Bool) where
  pub lines_turn : (left right i : ℕ) (g : List (List ℕ)) (s : List ℕ) → i < length g
      → paint_lines st left right il ir (drop i g) s
      ≡ paint_lines st (left + st) (right + st) il ir (drop (i + 1) g) (set (set s left (flipped il (get_or (get_or g i []) 0 0))) right (flipped ir (get_or (get_or g i []) 1 0)))
  unfolding paint_lines
  lines_turn left right i g s l = ap (λ (x : List (List ℕ)). paint_lines st left right il ir x s) (drop-cons g i [] l ∙ ap (λ (k : ℕ). get_or g i [] ∷ drop k g) (sym (add-one i)))

  -- a part of n bytes from a on, as a glyph by value, is painted as the font's own bytes are
  pub part_lines : (font : List ℕ) (a n left right j h : ℕ) (s : List ℕ) → j + 2 * h ≤ n
      → paint_lines st left right il ir (glyph_lines (take n (drop a font)) j h) s ≡ paint (line_stores st font left right (a + j) il ir h) s
  unfolding paint_lines line_stores paint
  part_lines font a n left right j zero s l = refl
  part_lines font a n left right j (suc h) s l =
      let at = part_byte font a n in
      let q : a + j + 1 ≡ a + (j + 1) = omega arith in
      let u : a + (j + 2) ≡ a + j + 2 = omega arith in
      let p = take n (drop a font) in
      let t = set (set s left (flipped il (get_or p j 0))) right (flipped ir (get_or p (j + 1) 0)) in
      cc (part_lines font a n (left + st) (right + st) (j + 2) h t (omega arith), at j (omega arith), at (j + 1) (omega arith))

-- Painting in code: a column of bytes, a glyph by value, a byte in hexadecimal.
use Rattle.std.proofs.Common.{◌≡◌, Bool, false, ℕ, zero, suc, ◌+◌, ◌-◌, ◌*◌, ◌/◌, ◌%◌, ◌≤◌, ◌<◌, List, [], ◌∷◌, length, get_or, set, drop, refl, sym, ap, ◌∙◌, drop_of_length-le, arith}
use Rattle.std.proofs.lemmas.List.{at_drop_more}
use Rattle.std.specs.Simd.{first_chunks}
use Rattle.model.specs.Glyphs.{flipped, digit, paint, column_stores, code_stores}
use Rattle.laws.specs.Glyphs.{paint-append, glyph_lines, paint_lines, lines_turn}

-- ---- a column of h bytes from byte `from` of a font on: those from the k-th on are left

module _ (st : ℕ) (font : List ℕ) (inverse : Bool) (from h k place : ℕ) (s : List ℕ) {t : List ℕ} (e : paint (column_stores st font place (from + k) inverse (h - k)) s ≡ t) where
  pub column_again : {v : ℕ} → k < h → v ≡ flipped inverse (get_or font (from + k) 0)
      → paint (column_stores st font (place + st) (from + (k + 1)) inverse (h - (k + 1))) (set s place v) ≡ t
  unfolding column_stores paint
  column_again l f =
      let q : h - k ≡ suc (h - (k + 1)) = omega arith in
      let r : from + k + 1 ≡ from + (k + 1) = omega arith in
      cc

  pub column_done : h ≤ k → s ≡ t
  unfolding column_stores paint
  column_done l = let q : h - k ≡ 0 = omega arith in cc

-- ---- a glyph by value, i lines painted

pub lines_again : (st : ℕ) (a b : Bool) (left right i : ℕ) (g : List (List ℕ)) (s : List ℕ) {t : List ℕ} {v w : ℕ} → i < length g
    → v ≡ flipped a (get_or (get_or g i []) 0 0) → w ≡ flipped b (get_or (get_or g i []) 1 0) → paint_lines st left right a b (drop i g) s ≡ t
    → paint_lines st (left + st) (right + st) a b (drop (i + 1) g) (set (set s left v) right w) ≡ t
lines_again st a b left right i g s {v = v} {w = w} l e f h =
    (λ k. paint_lines st (left + st) (right + st) a b (drop (i + 1) g) (set (set s left (e k)) right (f k))) ∙ sym (lines_turn st a b left right i g s l) ∙ h

pub lines_done : (st : ℕ) (a b : Bool) (left right i : ℕ) (g : List (List ℕ)) (s : List ℕ) {t : List ℕ} → length g ≤ i
    → paint_lines st left right a b (drop i g) s ≡ t → s ≡ t
unfolding paint_lines
lines_done st a b left right i g s l h = sym (ap (λ (x : List (List ℕ)). paint_lines st left right a b x s) (drop_of_length-le g l)) ∙ h

-- ---- a glyph's lines by value are the chunks of two of its bytes

pub lines_loaded : (part : List ℕ) (i h : ℕ) → i + 2 * h ≤ length part → first_chunks 2 h (drop i part) ≡ glyph_lines part i h
lines_loaded part i zero l = refl
lines_loaded part i (suc h) l =
    let a : drop i part ≡ get_or part i 0 ∷ drop (i + 1) part = at_drop_more (λ (x : List ℕ). x) part i 0 (omega arith) in
    let b : drop (i + 1) part ≡ get_or part (i + 1) 0 ∷ drop (i + 1 + 1) part = at_drop_more (λ (x : List ℕ). x) part (i + 1) 0 (omega arith) in
    let two : i + 1 + 1 ≡ i + 2 = omega arith in
    rw (a, b, two) (ap (λ (x : List (List ℕ)). (get_or part i 0 ∷ get_or part (i + 1) 0 ∷ []) ∷ x) (lines_loaded part (i + 2) h (omega arith)))

-- ---- a byte in hexadecimal

pub code_painted : (st top b : ℕ) (font s : List ℕ) {t u : List ℕ} {high low : ℕ} → high ≡ digit (b / 16) → low ≡ digit (b % 16)
    → t ≡ paint (column_stores st font top (8 * high) false 8) s → u ≡ paint (column_stores st font (top + 8 * st) (8 * low) false 8) t → u ≡ paint (code_stores st font top b) s
unfolding code_stores
code_painted st top b font s {t} {u} e f h k =
    k ∙ ap (paint (column_stores st font (top + 8 * st) _ false 8)) h
    ∙ (λ i. paint (column_stores st font (top + 8 * st) (8 * f i) false 8) (paint (column_stores st font top (8 * e i) false 8) s))
    ∙ sym (paint-append (column_stores st font top (8 * digit (b / 16)) false 8) (column_stores st font (top + 8 * st) (8 * digit (b % 16)) false 8) s)

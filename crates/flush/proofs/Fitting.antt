-- The GLYPH test in code is the definition's: the last byte of each glyph decides.
use Rattle.std.proofs.Common.{◌≡◌, refl, sym, ap, ◌∙◌, Bool, true, false, ◌&&◌, List, [], ◌∷◌, ℕ, suc, ◌+◌, ◌-◌, ◌*◌, ◌/◌, ◌≤◌, ◌<◌, arith, leb, length}
use Rattle.model.specs.declared.Glyph.{Glyph}
use Rattle.model.specs.declared.Glyph.TheVariants.{Emoji, Gb, Extra, Hexadecimal}
use Rattle.model.specs.declared.Spot.{Spot}
use Rattle.model.specs.declared.CellKind.{CellKind}
use Rattle.model.specs.declared.CellKind.TheVariants.{Blank, Single, Pair, Code}
use Rattle.model.specs.Bytes.{four}
use Rattle.model.specs.Glyphs.{Fonts, glyph_of, fonts_fit, code_stores}
use Rattle.model.specs.declared.Shown.{Shown}
use Rattle.model.specs.Flush.{top_of, right_of, flag_at, half_stores, glyph_stores, kind_stores, stores, text_stores, spot, shown_at, next_spot, walk}
use Rattle.laws.specs.Tests.{and-true}
use Rattle.laws.specs.Glyphs.{fits-append, column_fits, lines_fits, code-fits}
use Rattle.laws.specs.FlushWalk.{Within, rest, rest_more, rest_end, rest-start}
use Rattle.flush.specs.Fits.{code_fits, glyph_fits, kind_fits, shown_fits, walk_fits, text_fits, entries_fit_from}

-- ---- the definition's test, kind by kind

module _ (st : ℕ) (flags : List Bool) (s : Spot) where
  halves_fit : (font : List ℕ) (i : ℕ) → fonts_fit (half_stores st flags s font i) ≡ leb (i + 32) (length font)
  halves_fit font i = lines_fits st font (flag_at flags s.cell) (flag_at flags (s.cell + 1)) (top_of st s.row s.column) (right_of st s) i 15

  pub glyph-fits : (ascii8 gb emoji extra : List ℕ) (lead trail : ℕ) (g : Glyph)
      → fonts_fit (glyph_stores st flags ascii8 gb emoji extra s lead trail g) ≡ glyph_fits ascii8 gb emoji extra lead trail g
  unfolding glyph_stores glyph_fits code_fits
  glyph-fits ascii8 gb emoji extra lead trail (Emoji i) = halves_fit emoji (32 * i)
  glyph-fits ascii8 gb emoji extra lead trail (Gb i) = halves_fit gb (32 * i)
  glyph-fits ascii8 gb emoji extra lead trail (Extra i) = halves_fit extra i
  glyph-fits ascii8 gb emoji extra lead trail Hexadecimal =
      fits-append (code_stores st ascii8 (top_of st s.row s.column) lead) (code_stores st ascii8 (top_of st s.row s.column + 1) trail)
      ∙ (λ k. code-fits st ascii8 (top_of st s.row s.column) lead k && code-fits st ascii8 (top_of st s.row s.column + 1) trail k)

  pub kind-fits : (f : Fonts) (version b trail : ℕ) (m : CellKind) → fonts_fit (kind_stores st flags version f s b trail m) ≡ kind_fits version f b trail m
  unfolding kind_stores kind_fits fonts_fit code_fits
  kind-fits f version b trail Blank = refl
  kind-fits f version b trail Single = column_fits st f.ascii16 (flag_at flags s.cell) (top_of st s.row s.column) (16 * b) 15
  kind-fits f version b trail Pair = glyph-fits f.ascii8 f.gb f.emoji f.extra_font b trail (glyph_of version f.extra_list b trail)
  kind-fits f version b trail Code = code-fits st f.ascii8 (top_of st s.row s.column) b

-- and of the whole walk
pub walk-fits : (st : ℕ) (flags : List Bool) (version : ℕ) (f : Fonts) (ws : List Shown) → fonts_fit (stores st flags version f ws) ≡ walk_fits version f ws
unfolding stores walk_fits fonts_fit
walk-fits st flags version f [] = refl
walk-fits st flags version f (w ∷ ws) =
    fits-append (kind_stores st flags version f w.spot w.lead w.trail w.kind) (stores st flags version f ws)
    ∙ (λ k. kind-fits st flags w.spot f version w.lead w.trail w.kind k && walk-fits st flags version f ws k)

pub text-fits : (st n : ℕ) (text : List ℕ) (flags : List Bool) (version : ℕ) (f : Fonts) → fonts_fit (text_stores st n text flags version f) ≡ text_fits st n text version f
unfolding text_stores
text-fits st n text flags version f = walk-fits st flags version f (walk st n text (n * st) (spot 0 0 0))

-- ---- the tests in code

-- ---- the extra list, one entry after another: the next is entry k

module _ (list extra : List ℕ) (k : ℕ) {whole : Bool} (h : entries_fit_from list extra (6 * k) (length list / 6 - k) ≡ whole) where
  -- an entry that passes
  pub entry_turn : {o : ℕ} {t : Bool} → k < length list / 6 → o ≡ four list (6 * k + 2) → t ≡ leb (o + 32) (length extra) → t ≡ true
      → entries_fit_from list extra (6 * (k + 1)) (length list / 6 - (k + 1)) ≡ whole
  unfolding entries_fit_from
  entry_turn l eo et ok =
      let q : length list / 6 - k ≡ suc (length list / 6 - (k + 1)) = omega arith in
      let j : 6 * (k + 1) ≡ 6 * k + 6 = omega arith in
      cc

  -- and one that fails
  pub entry_stop : {o : ℕ} {t : Bool} → k < length list / 6 → o ≡ four list (6 * k + 2) → t ≡ leb (o + 32) (length extra) → t ≡ false → false ≡ whole
  unfolding entries_fit_from
  entry_stop l eo et bad = let q : length list / 6 - k ≡ suc (length list / 6 - (k + 1)) = omega arith in cc

  pub entries_end : length list / 6 ≤ k → true ≡ whole
  unfolding entries_fit_from
  entries_end l = let q : length list / 6 - k ≡ 0 = omega arith in cc

-- ---- the walk, one step at a time

module _ (st n : ℕ) (text : List ℕ) (version : ℕ) (f : Fonts) where
  pub fits-start : {s : Spot} → s ≡ spot 0 0 0 → walk_fits version f (rest st n text s) ≡ text_fits st n text version f
  fits-start e = ap (λ (x : Spot). walk_fits version f (rest st n text x)) e ∙ ap (walk_fits version f) (sym (rest-start st n text))

  pub fits_end : (s : Spot) → n ≤ s.row → walk_fits version f (rest st n text s) ≡ true
  unfolding walk_fits
  fits_end s l = ap (walk_fits version f) (rest_end st n text s l)

  module _ (s : Spot) {w : Shown} (h : Within st n s) (l : s.row < n) (e : w ≡ shown_at st n text s) where
    fits-step : walk_fits version f (rest st n text s) ≡ (shown_fits version f w && walk_fits version f (rest st n text (next_spot st w)))
    unfolding walk_fits
    fits-step = ap (walk_fits version f) (rest_more st n text s h l)
        ∙ ap (λ (x : Shown). shown_fits version f x && walk_fits version f (rest st n text (next_spot st x))) (sym e)

    -- a step that passes
    pub fits_turn : {fit whole : Bool} {t : Spot} → fit ≡ shown_fits version f w → fit ≡ true → t ≡ next_spot st w → walk_fits version f (rest st n text s) ≡ whole
        → walk_fits version f (rest st n text t) ≡ whole
    fits_turn {t = t} ef ok q k =
        ap (λ (x : Spot). walk_fits version f (rest st n text x)) q
        ∙ ap (λ (x : Bool). x && walk_fits version f (rest st n text (next_spot st w))) (sym (sym ef ∙ ok)) ∙ sym fits-step ∙ k

    -- and one that fails
    pub fits-stop : {fit whole : Bool} → fit ≡ shown_fits version f w → fit ≡ false → walk_fits version f (rest st n text s) ≡ whole → false ≡ whole
    fits-stop ef bad k = ap (λ (x : Bool). x && walk_fits version f (rest st n text (next_spot st w))) (sym (sym ef ∙ bad)) ∙ sym fits-step ∙ k

    -- where the rest passes, what is shown here does
    pub fits_here : walk_fits version f (rest st n text s) ≡ true → shown_fits version f w ≡ true
    fits_here k = (and-true (shown_fits version f w) (walk_fits version f (rest st n text (next_spot st w))) (sym fits-step ∙ k)).0

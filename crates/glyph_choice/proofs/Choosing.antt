-- The choice of a glyph: rows of emoji, the test of a GB code.
use Rattle.std.proofs.Common.{◌≡◌, ℕ, ◌+◌, ◌-◌, ◌/◌, ◌≤◌, ◌<◌, Bool, true, false, ◌&&◌, leb, eqb, List, ◌∷◌, Some, None, length, get_or, drop, refl, sym, ap, ◌∙◌, arith}
use Rattle.std.proofs.lemmas.List.{at_drop_more, at_drop_all}
use Rattle.model.specs.Codes.{CodeRow, codes, in_row, index_in, extra_from, extra_offset}
use Rattle.laws.specs.Glyphs.{row_here, row_past}
use Rattle.glyph_choice.specs.Choice.{rows_of}

-- ---- emoji: the row that is reached, and those after it

abbrev none : ℕ × ℕ × ℕ
none = (0, 0, 0)

module _ (rows : List (ℕ × ℕ × ℕ)) (i before lead trail : ℕ) (l : i < length rows) where
  abbrev row : CodeRow
  row = let r = get_or rows i none in codes r.0 r.1 r.2

  left : index_in (rows_of (drop i rows)) before lead trail ≡ index_in (row ∷ rows_of (drop (i + 1) rows)) before lead trail
  left = at_drop_more (λ (xs : List (ℕ × ℕ × ℕ)). index_in (rows_of xs) before lead trail) rows i none l

  -- the three tests of the row
  abbrev test : Bool
  test = (eqb lead row.lead && leb row.first trail) && leb trail row.last

  pub here : test ≡ true → Some (before + (trail - row.first)) ≡ index_in (rows_of (drop i rows)) before lead trail
  unfolding in_row
  here t = row_here row _ before lead trail refl t refl ∙ sym left

  pub past : (next : ℕ) → next ≡ before + (row.last + 1 - row.first) → test ≡ false
      → index_in (rows_of (drop i rows)) before lead trail ≡ index_in (rows_of (drop (i + 1) rows)) next lead trail
  unfolding in_row
  past next e t = left ∙ sym (row_past row _ before lead trail refl t refl) ∙ ap (λ (n : ℕ). index_in (rows_of (drop (i + 1) rows)) n lead trail) (sym e)

pub none_left : (rows : List (ℕ × ℕ × ℕ)) (i before lead trail : ℕ) → length rows ≤ i → None ≡ index_in (rows_of (drop i rows)) before lead trail
unfolding index_in
none_left rows i before lead trail l = sym (at_drop_all (λ (xs : List (ℕ × ℕ × ℕ)). index_in (rows_of xs) before lead trail) rows i l)

-- ---- the extra list, from its first entry on

pub extra_start : (list : List ℕ) (code : ℕ) → extra_offset list code ≡ extra_from list code 0 (length list / 6 - 0)
unfolding extra_offset
extra_start list code = let q : length list / 6 ≡ length list / 6 - 0 = omega arith in ap (extra_from list code 0) q

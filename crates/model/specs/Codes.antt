-- Codes of two bytes, lead and trail: the index of an emoji, that of a GB character, and the offset that the extra list gives.
use Rattle.std.specs.Prelude.{Bool, cond, ◌&&◌, ◌||◌, List, [], ◌∷◌, ℕ, zero, suc, ◌+◌, ◌-◌, ◌*◌, ◌/◌, ltb, leb, eqb, length, Option, Some, None}
use Rattle.model.specs.Rects.{every}
use Rattle.model.specs.Bytes.{two, four}

-- ---- emoji

-- codes that follow one another: a lead, with its first and its last trail
pub record CodeRow : Type 0 where
  pub lead : ℕ
  pub first : ℕ
  pub last : ℕ

abbrev pub codes : ℕ → ℕ → ℕ → CodeRow
codes lead first last = record { lead = lead; first = first; last = last }

-- the codes of a version in their order: 0 V1, 1 V2
abbrev pub emoji_rows : ℕ → List CodeRow
emoji_rows zero =
    codes 250 70 126 ∷ codes 250 161 254 ∷ codes 251 64 126 ∷ codes 251 161 254 ∷ codes 252 64 126 ∷ codes 252 161 254 ∷ codes 253 64 125 ∷ []
emoji_rows (suc n) =
    codes 248 161 254 ∷ codes 249 161 254 ∷ codes 250 161 254 ∷ codes 251 161 254 ∷ codes 252 161 254 ∷ codes 253 161 217 ∷ []

unfoldable pub in_row : CodeRow → ℕ → ℕ → Bool
in_row r lead trail = every (eqb lead r.lead ∷ leb r.first trail ∷ leb trail r.last ∷ [])

-- the place of a code among those of all rows, where `before` codes come before them
unfoldable pub index_in : List CodeRow → ℕ → ℕ → ℕ → Option ℕ
index_in [] before lead trail = None
index_in (r ∷ rs) before lead trail =
    cond (in_row r lead trail) (Some (before + (trail - r.first))) (index_in rs (before + (r.last + 1 - r.first)) lead trail)

-- `code_to_index`
unfoldable pub emoji_index : ℕ → ℕ → ℕ → Option ℕ
emoji_index version lead trail = index_in (emoji_rows version) 0 lead trail

-- ---- GB 2312-80: rows 1-9 and 16-87, one after another in the font. Rows 10-15, which the standard leaves empty, have no index

-- a lead of these rows
abbrev pub gb_lead : ℕ → Bool
gb_lead lead = (leb 161 lead && leb lead 169) || (leb 176 lead && leb lead 247)

-- the place of a row in the font, s rows after the first
abbrev pub gb_row : ℕ → ℕ
gb_row s = cond (ltb 8 s) (s - 6) s

unfoldable pub gb_index : ℕ → ℕ → Option ℕ
gb_index lead trail = cond (every (gb_lead lead ∷ leb 161 trail ∷ leb trail 254 ∷ [])) (Some (94 * gb_row (lead - 161) + (trail - 161))) None

-- ---- the extra list: entries of 6 bytes, a code (2) and an offset (4); the first match counts

-- among n entries, from byte i of the list on
unfoldable pub extra_from : List ℕ → ℕ → ℕ → ℕ → Option ℕ
extra_from list code i zero = None
extra_from list code i (suc n) = cond (eqb (two list i) code) (Some (four list (i + 2))) (extra_from list code (i + 6) n)

unfoldable pub extra_offset : List ℕ → ℕ → Option ℕ
extra_offset list code = extra_from list code 0 (length list / 6)

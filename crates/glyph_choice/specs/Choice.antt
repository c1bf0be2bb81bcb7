-- Emoji rows as the code has them in its tables, and the rows of the GB font.
use Rattle.std.specs.Prelude.{cond, List, map, ℕ, ◌-◌, Option, Some, None}
use Rattle.model.specs.Codes.{CodeRow, codes, gb_lead, gb_row}

abbrev pub rows_of : List (ℕ × ℕ × ℕ) → List CodeRow
rows_of = map (λ (r : ℕ × ℕ × ℕ). codes r.0 r.1 r.2)

-- the place of a lead's row in the GB font, where it has one
abbrev pub row_of : ℕ → Option ℕ
row_of lead = cond (gb_lead lead) (Some (gb_row (lead - 161))) None

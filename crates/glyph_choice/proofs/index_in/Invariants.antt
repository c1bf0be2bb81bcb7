-- The rows that are left, from the row that is reached, give what all of them give.
use Rattle.std.proofs.Common.{◌≡◌, ◌*◌, ◌≤◌, drop}
use Rattle.model.specs.Codes.{index_in}
use Rattle.glyph_choice.specs.Choice.{rows_of}
use Rattle.glyph_choice.proofs.index_in.Given as goal

abbrev pub invariant-loop-row : goal.invariant-loop-row
invariant-loop-row l =
    (l.before ≤ 256 * l.row-index) × (index_in (rows_of l.rows) 0 l.lead l.trail ≡ index_in (rows_of (drop l.row-index l.rows)) l.before l.lead l.trail)

-- The cells that are left decide with what was seen.
use Rattle.std.proofs.Common.{◌≡◌, ◌+◌, ◌-◌, ◌&&◌}
use Rattle.flush.specs.Fits.{blank_cells}
use Rattle.flush.proofs.cells.are_blank.Given as goal

abbrev pub invariant-loop-b : goal.invariant-loop-b
invariant-loop-b l = (l.ok && blank_cells l.text (l.at + l.b-index) (l.count - l.b-index)) ≡ blank_cells l.text l.at l.count

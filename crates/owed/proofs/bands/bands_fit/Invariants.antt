-- The bands before have passed, so what is left decides the whole; one that fails decides it at once.
use Rattle.std.proofs.Common.{◌+◌, ◌*◌, ◌-◌}
use Rattle.laws.specs.Owed.{Testing}
use Rattle.owed.proofs.bands.bands_fit.Given as goal

abbrev pub invariant-loop-i : goal.invariant-loop-i
invariant-loop-i l = Testing l.width l.band l.bands l.at l.rec (l.at + 8 * l.i) l.lo (l.bands - l.i)

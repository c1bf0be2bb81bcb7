use Rattle.laws.specs.Owed.{Taking}
use Rattle.owed.proofs.bands.take_owed.Given as goal

abbrev pub invariant-loop-i : goal.invariant-loop-i
invariant-loop-i l = Taking l.bands l.at l.initial.rec l.rec l.i

use Rattle.std.proofs.Common.{◌*◌}
use Rattle.model.specs.Glass.{geometry}
use Rattle.laws.specs.MarkLoops.{Marking}
use Rattle.updates.proofs.panels.mark_panels.Given as goal

abbrev pub invariant-loop-i : goal.invariant-loop-i
invariant-loop-i l = Marking (geometry l.glass) l.glass.height l.m l.initial.rec l.rec l.bottom (l.i * l.glass.band) l.i

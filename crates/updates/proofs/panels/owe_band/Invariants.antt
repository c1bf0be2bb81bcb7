use Rattle.laws.specs.Owed.{owed_at}
use Rattle.model.specs.Glass.{geometry}
use Rattle.laws.specs.MarkLoops.{Owing}
use Rattle.updates.proofs.panels.owe_band.Given as goal

abbrev pub invariant-loop-k : goal.invariant-loop-k
invariant-loop-k l = Owing (geometry l.glass) l.i (λ a. owed_at l.whole a l.q) l.initial.rec l.rec l.glass.panels l.k

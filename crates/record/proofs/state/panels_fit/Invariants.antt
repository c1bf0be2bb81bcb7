-- The panels before k have passed, so what is left decides the whole; one that fails decides it at once.
use Rattle.model.specs.Glass.{geometry}
use Rattle.laws.specs.StateTest.{Fitting}
use Rattle.record.proofs.state.panels_fit.Given as goal

abbrev pub invariant-loop-k : goal.invariant-loop-k
invariant-loop-k l = Fitting (geometry l.glass) l.rec l.glass.panels l.k

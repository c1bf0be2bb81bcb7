use Rattle.std.proofs.Common.{not, ap, arith}
use Rattle.laws.specs.StateTest.{fit_goes, fit_fails, fit_ends}
use Rattle.record.proofs.state.panels_fit.Goals as goal

pub returns-then-not-pending_fits : goal.returns-then-not-pending_fits
returns-then-not-pending_fits c =
    fit_fails c.loop-k.invariant (omega arith) c.pending_fits.ensures (ap not c.if-not-pending_fits.true)

pub loop-k-preserved : goal.loop-k-preserved
loop-k-preserved c =
    fit_goes c.loop-k.invariant (omega arith) c.pending_fits.ensures (ap not c.if-not-pending_fits.false)

pub returns : goal.returns
returns c = fit_ends c.loop-k.invariant (omega arith)

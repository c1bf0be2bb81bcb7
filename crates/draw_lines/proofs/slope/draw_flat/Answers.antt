use Rattle.std.proofs.Common.{◌≡◌, ◌+◌, ◌-◌, arith}
use Rattle.laws.specs.Slopes.{slope_turn, slope_end, longer_steps, longer_error}
use Rattle.draw_lines.proofs.slope.draw_flat.Goals as goal

pub loop-x-preserved : goal.loop-x-preserved
loop-x-preserved c =
    let x = c.loop-x.x in
    let end = c.args.x1 + c.args.across + 1 in
    let less : end - (x + 1) ≡ end - x - 1 = omega arith in
    rw less
    (slope_turn _ _ _ (end - x) _ _ 0 _ _ _ _ _ (omega arith) c.plot_seen.ensures (longer_steps _ _ _ (omega arith)) c.step_y-y.ensures
    (longer_error _ (omega arith)) c.next_error-error.ensures c.loop-x.invariant)

pub returns : goal.returns
returns c = slope_end _ _ _ (c.args.x1 + c.args.across + 1 - c.loop-x.x) _ _ _ _ _ _ _ (omega arith) c.loop-x.invariant

use Rattle.std.proofs.Common.{◌≡◌, ◌+◌, ◌-◌, arith}
use Rattle.laws.specs.Slopes.{slope_turn, slope_end, step-le, longer_steps, longer_error}
use Rattle.draw_lines.proofs.slope.draw_steep.Goals as goal

pub loop-preserved : goal.loop-preserved
loop-preserved c =
    let turn = c.loop.counter in
    let across = c.step_x-x.ensures in
    let less : c.args.down + 1 - (turn + 1) ≡ c.args.down + 1 - turn - 1 = omega arith in
    record {
      x_bound = omega (arith, step-le _ _ _ c.loop.x across);
      rest =
          rw less
          (slope_turn _ _ _ (c.args.down + 1 - turn) _ _ _ 0 _ _ _ _ (omega arith) c.plot_seen.ensures across (longer_steps _ _ _ (omega arith))
          c.next_error-error.ensures (longer_error _ (omega arith)) c.loop.invariant.rest);
    }

pub returns : goal.returns
returns c = slope_end _ _ _ (c.args.down + 1 - c.loop.counter) _ _ _ _ _ _ _ (omega arith) c.loop.invariant.rest

-- The loop's invariant: the walk from here on, drawn on the screen as it stands, gives what the whole walk gives. The other error sum stays 0.
use Rattle.std.proofs.Common.{◌≡◌, ◌+◌, ◌-◌, ◌≤◌}
use Rattle.model.specs.Pixels.{draw, seen}
use Rattle.model.specs.Lines.{slope}
use Rattle.laws.specs.Slopes.{slope_by}
use Rattle.draw_lines.proofs.slope.draw_steep.Given as goal

abbrev pub invariant-loop : goal.invariant-loop
invariant-loop l = record {
  x_bound : l.x ≤ l.x1 + l.counter;
  rest :
      draw l.canvas.stride (seen l.canvas.stride l.canvas.height (slope (slope_by l.across l.down l.down l.inc) (l.down + 1 - l.counter) l.x l.y l.error 0 l.mode)) l.screen
      ≡ draw l.canvas.stride (seen l.canvas.stride l.canvas.height (slope (slope_by l.across l.down l.down l.inc) (l.down + 1) l.x1 l.y1 0 0 l.mode)) l.initial.screen;
}

-- The loop's invariant: the walk from here on, drawn on the screen as it stands, gives what the whole walk gives. The other error sum stays 0.
use Rattle.std.proofs.Common.{◌≡◌, ◌+◌, ◌-◌}
use Rattle.model.specs.Pixels.{draw, seen}
use Rattle.model.specs.Lines.{slope}
use Rattle.laws.specs.Slopes.{slope_by}
use Rattle.draw_lines.proofs.slope.draw_flat.Given as goal

abbrev pub invariant-loop-x : goal.invariant-loop-x
invariant-loop-x l =
    draw l.canvas.stride (seen l.canvas.stride l.canvas.height (slope (slope_by l.across l.down l.across l.inc) (l.end - l.x) l.x l.y 0 l.error l.mode)) l.screen
    ≡ draw l.canvas.stride (seen l.canvas.stride l.canvas.height (slope (slope_by l.across l.down l.across l.inc) (l.across + 1) l.x1 l.y1 0 0 l.mode)) l.initial.screen

-- The loop's invariant: the rest of the column, drawn on the screen as it stands, gives the whole column.
use Rattle.std.proofs.Common.{◌≡◌, ◌+◌, ◌-◌}
use Rattle.model.specs.Pixels.{draw}
use Rattle.model.specs.Lines.{pixel_column}
use Rattle.draw_lines.proofs.line.draw_column.Given as goal

abbrev pub invariant-loop-y : goal.invariant-loop-y
invariant-loop-y l =
    draw l.canvas.stride (pixel_column l.x l.y (l.top + l.count - l.y) l.mode) l.screen
    ≡ draw l.canvas.stride (pixel_column l.x l.top l.count l.mode) l.initial.screen

-- The loop's invariant: the rest of the rows, drawn on the screen as it stands, gives the whole box.
use Rattle.std.proofs.Common.{◌≡◌, ◌-◌}
use Rattle.model.specs.declared.Edge.TheVariants.{Clamp}
use Rattle.model.specs.Pixels.{draw, seen}
use Rattle.model.specs.Boxes.{box_rows, filled_box}
use Rattle.pixels.specs.Raster.{mode_of}
use Rattle.draw.proofs.boxes.fill_rows.Given as goal

abbrev pub invariant-loop-y : goal.invariant-loop-y
invariant-loop-y l =
    draw l.canvas.stride (seen l.canvas.stride l.canvas.height (box_rows l.canvas.stride l.canvas.height Clamp l.fn.q.left l.fn.q.right l.y (l.end - l.y) (mode_of l.op))) l.screen
    ≡ draw l.canvas.stride (seen l.canvas.stride l.canvas.height (filled_box l.canvas.stride l.canvas.height Clamp l.fn.q.left l.fn.q.top l.fn.q.right l.fn.q.bottom (mode_of l.op))) l.initial.screen

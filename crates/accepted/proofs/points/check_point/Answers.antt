use Rattle.std.proofs.Common.{w32}
use Rattle.std.proofs.Math.Facts.{to_z-of_z}
use Rattle.record.proofs.Lengths.{head_there}
use Rattle.updates.proofs.Drawing.{loaded, screen_room}
use Rattle.accepted.proofs.Screens.{point_set}
use Rattle.accepted.proofs.points.check_point.Goals as goal

pub load_head-from-requires : goal.load_head-from-requires
load_head-from-requires c = head_there c.requires.passing

pub slice_bounds-check_point-end : goal.slice_bounds-check_point-end
slice_bounds-check_point-end c = screen_room (loaded c.requires c.glass_of-glass.ensures c.load_head-from.ensures)

pub returns : goal.returns
returns c =
    point_set c.args.x c.args.y (loaded c.requires c.glass_of-glass.ensures c.load_head-from.ensures) c.canvas_of.ensures
    (rw (to_z-of_z {w = w32} {z = c.args.x} c.ranges.x, to_z-of_z {w = w32} {z = c.args.y} c.ranges.y) at c.check_point.ensures)

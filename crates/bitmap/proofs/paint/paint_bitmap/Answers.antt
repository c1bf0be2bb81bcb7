use Rattle.std.proofs.Common.{w32}
use Rattle.std.proofs.Math.Facts.{to_z-of_z}
use Rattle.bitmap.proofs.Clipped.{nothing_drawn, clip_drawn}
use Rattle.bitmap.proofs.paint.paint_bitmap.Goals as goal

pub returns-in_default : goal.returns-in_default
returns-in_default c =
    let a = c.args in
    let hidden = rw (to_z-of_z {w = w32} {z = a.x} c.ranges.x, to_z-of_z {w = w32} {z = a.y} c.ranges.y) at c.in_default.ensures in
    nothing_drawn a.canvas a.x a.y a.width a.lines a.source.now a.mode a.screen.now hidden c.no_marks.ensures

pub returns : goal.returns
returns c =
    let a = c.args in
    let clips = rw (to_z-of_z {w = w32} {z = a.x} c.ranges.x, to_z-of_z {w = w32} {z = a.y} c.ranges.y) at c.in-Some.ensures in
    clip_drawn a.canvas a.x a.y a.width a.lines a.source.now a.mode a.screen.now _ clips c.marks.ensures c.paint_lines.ensures

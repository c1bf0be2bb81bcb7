use Rattle.std.proofs.Common.{◌∙◌, w32}
use Rattle.std.proofs.Math.Facts.{to_z-of_z}
use Rattle.bitmap_bytes.proofs.Drawn.{hidden_in, clip_in}
use Rattle.bitmap_bytes.proofs.paint_bitmap_by_bytes.Goals as goal
use Rattle.bitmap_bytes.proofs.paint_bitmap_by_bytes.Goals.{then-is_apart, else-is_apart}

pub returns-in_default : goal.returns-in_default
returns-in_default c =
    let a = c.args in
    let hidden = rw (to_z-of_z {w = w32} {z = a.x} c.ranges.x, to_z-of_z {w = w32} {z = a.y} c.ranges.y) at c.in_default.ensures in
    hidden_in a.canvas a.screen a.source a.x a.y a.width a.lines a.mode a.memory.now c.requires.holds hidden c.no_marks.ensures

pub returns : goal.returns
returns c =
    let a = c.args in
    let clips = rw (to_z-of_z {w = w32} {z = a.x} c.ranges.x, to_z-of_z {w = w32} {z = a.y} c.ranges.y) at c.in-Some.ensures in
    clip_in a.canvas a.screen a.source a.x a.y a.width a.lines a.mode a.memory.now c.requires.holds _ clips c.marks.ensures
    (elim c.if-is_apart.branch [ then-is_apart w ↦ w.memory-is ∙ w.paint_clip.ensures | else-is_apart w ↦ w.memory-is ∙ w.paint_copied.ensures ])

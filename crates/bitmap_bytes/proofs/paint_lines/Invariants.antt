-- The loop's invariant: the rest of the lines, painted in memory as it stands, gives the whole bitmap.
use Rattle.std.proofs.Common.{◌≡◌, ◌+◌, ◌-◌}
use Rattle.laws.specs.PaintedMemory.{Placed, painted_in}
use Rattle.bitmap_bytes.specs.InMemory.{size, clip_painted}
use Rattle.bitmap_bytes.proofs.paint_lines.Given as goal

abbrev pub invariant-loop-y : goal.invariant-loop-y
invariant-loop-y l =
    let clip = l.clip in
    let d = clip.down in
    let rest = painted_in l.screen (size clip.canvas) l.source (size clip.picture) clip.canvas.stride clip.picture.stride l.mode clip.across (d.skip + (l.y - d.from)) l.y (d.to - l.y) l.memory in
    Placed l.screen (size clip.canvas) l.source (size clip.picture) l.memory × (rest ≡ clip_painted clip l.screen l.source l.mode l.initial.memory)

use Rattle.std.proofs.Common.{◌≡◌, ◌+◌, ◌-◌, arith}
use Rattle.laws.specs.Pixels.{row_below}
use Rattle.laws.specs.PaintedMemory.{turn_in, end_in}
use Rattle.bitmap_bytes.proofs.paint_lines.Goals as goal

pub loop-y-preserved : goal.loop-y-preserved
loop-y-preserved c =
    let clip = c.args.clip in
    let d = clip.down in
    let at = c.loop-y in
    let j = d.skip + (at.y - d.from) in
    let next : d.skip + (at.y + 1 - d.from) ≡ j + 1 = omega arith in
    rw next
    (turn_in c.args.screen _ c.args.source _ clip.canvas.stride clip.picture.stride c.args.mode clip.across j at.y d.to at.memory _ _ at.invariant.0 (omega arith) (omega arith)
    (row_below _ clip.canvas.height at.y (omega arith)) (omega arith) (row_below _ clip.picture.height j (omega arith)) c.paint_line.ensures at.invariant.1)

pub returns : goal.returns
returns c = let at = c.loop-y in end_in _ _ _ _ _ _ _ _ _ at.y _ at.memory _ at.invariant.0 (omega arith) at.invariant.1

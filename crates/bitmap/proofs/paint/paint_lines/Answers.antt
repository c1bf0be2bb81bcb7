use Rattle.std.proofs.Common.{◌≡◌, ◌+◌, ◌-◌, arith}
use Rattle.laws.specs.Writes.{screen_draw}
use Rattle.laws.specs.Bitmaps.{lines_turn, lines_end}
use Rattle.bitmap.proofs.paint.paint_lines.Goals as goal

pub loop-y-init : goal.loop-y-init
loop-y-init c =
    let a = c.args.clip.down in
    let first : a.skip + (a.from - a.from) ≡ a.skip = omega arith in
    (c.requires.screen, rw first)

pub loop-y-preserved : goal.loop-y-preserved
loop-y-preserved c =
    let d = c.args.clip.down in
    let at = c.loop-y in
    let painted = c.paint_line.ensures in
    let next : d.skip + (at.y + 1 - d.from) ≡ d.skip + (at.y - d.from) + 1 = omega arith in
    (screen_draw _ _ _ at.invariant.0 painted, rw next (lines_turn _ _ _ _ _ (d.skip + (at.y - d.from)) at.y _ _ _ _ (omega arith) painted at.invariant.1))

pub returns : goal.returns
returns c = search lines_end

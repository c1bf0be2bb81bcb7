use Rattle.std.proofs.Common.{◌≡◌, ◌+◌, ◌-◌, arith}
use Rattle.laws.specs.Writes.{screen_write}
use Rattle.laws.specs.Bitmaps.{line_turn, line_end}
use Rattle.bitmap.proofs.paint.paint_line.Goals as goal

pub loop-x-init : goal.loop-x-init
loop-x-init c =
    let a = c.args.clip.across in
    let first : a.skip + (a.from - a.from) ≡ a.skip = omega arith in
    (c.requires.screen, rw first)

pub loop-x-preserved : goal.loop-x-preserved
loop-x-preserved c =
    let a = c.args.clip.across in
    let at = c.loop-x in
    let written = c.paint_pixel.ensures in
    let next : a.skip + (at.x + 1 - a.from) ≡ a.skip + (at.x - a.from) + 1 = omega arith in
    (screen_write _ _ _ at.invariant.0 written, rw next (line_turn _ _ _ _ (a.skip + (at.x - a.from)) _ at.x _ _ _ _ _ (omega arith) written at.invariant.1))

pub returns : goal.returns
returns c = search line_end

use Rattle.std.proofs.Common.{◌*◌, arith}
use Rattle.bitmap.proofs.Sources.{visible-given, visible_lies}
use Rattle.bitmap.proofs.clip.Clip.new.Goals as goal

pub invariant_of-picture : goal.invariant_of-picture
invariant_of-picture c =
    let across = visible_lies c.args.x c.args.width (8 * c.args.canvas.stride) (visible-given c.args.x _ _ c.ranges.x c.visible-across.ensures) c.if-across.false in
    let down = visible_lies c.args.y c.args.lines c.args.canvas.height (visible-given c.args.y _ _ c.ranges.y c.visible-down.ensures) c.if-down.false in
    omega arith

pub invariant_of-result : goal.invariant_of-result
invariant_of-result c =
    let across = visible_lies c.args.x c.args.width (8 * c.args.canvas.stride) (visible-given c.args.x _ _ c.ranges.x c.visible-across.ensures) c.if-across.false in
    let down = visible_lies c.args.y c.args.lines c.args.canvas.height (visible-given c.args.y _ _ c.ranges.y c.visible-down.ensures) c.if-down.false in
    omega arith

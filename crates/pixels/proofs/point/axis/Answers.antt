use Rattle.pixels.proofs.Axis.{axis_below, axis_cast, axis_on, axis_above}
use Rattle.pixels.proofs.point.axis.Goals as goal

pub returns-then-z-lt0 : goal.returns-then-z-lt0
returns-then-z-lt0 c = axis_below _ c.args.z c.ranges.z.sfits c.if-z-lt0.true

pub overflow_cast-n : goal.overflow_cast-n
overflow_cast-n c = axis_cast c.args.z c.ranges.z.sfits c.if-z-lt0.false

pub returns-then-n-size : goal.returns-then-n-size
returns-then-n-size c = (axis_on _ c.args.z c.ranges.z.sfits c.if-z-lt0.false c.if-n-size.true, c.if-n-size.true)

pub returns-else-n-size : goal.returns-else-n-size
returns-else-n-size c = axis_above _ c.args.z c.ranges.z.sfits c.if-z-lt0.false c.if-n-size.false

use Rattle.std.proofs.Common.{arith}
use Rattle.pixels.proofs.Axis.{axis_given}
use Rattle.laws.specs.Points.{check_on, check_below, check_beside}
use Rattle.pixels.proofs.point.check_point.Goals as goal

pub returns-in_default : goal.returns-in_default
returns-in_default c = check_beside _ _ _ c.args.x c.args.y (axis_given _ c.args.x c.ranges.x.sfits c.in_default.ensures) (omega arith)

pub returns-in_default-axis : goal.returns-in_default-axis
returns-in_default-axis c = check_below _ _ _ c.args.x c.args.y (axis_given _ c.args.y c.ranges.y.sfits c.in_default-axis.ensures) (omega arith)

pub returns : goal.returns
returns c =
    check_on _ _ _ c.args.x c.args.y
    (axis_given _ c.args.x c.ranges.x.sfits c.in-Some.ensures.0)
    (axis_given _ c.args.y c.ranges.y.sfits c.in-Some-axis.ensures.0)
    c.in-Some.ensures.1 c.in-Some-axis.ensures.1 c.pixel.ensures

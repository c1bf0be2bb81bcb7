use Rattle.std.proofs.Common.{refl, arith}
use Rattle.ellipse_walk.proofs.Laws.{advance_moves, advance_stays}
use Rattle.ellipse_walk.specs.Walk.{axis_of}
use Rattle.ellipse_walk.proofs.advance.Goals as goal

pub returns-then-moved : goal.returns-then-moved
returns-then-moved c =
    advance_moves (axis_of c.args.a) c.args.r c.args.radius c.requires c.if-moved.true c.raise-f.ensures (omega arith) refl

pub returns : goal.returns
returns c = advance_stays (axis_of c.args.a) c.args.r c.args.radius c.requires c.if-moved.false c.raise-f.ensures refl

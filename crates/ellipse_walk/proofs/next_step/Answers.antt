use Rattle.ellipse_walk.proofs.Laws.{stepped_y, stepped_x}
use Rattle.ellipse_walk.proofs.next_step.Goals as goal

pub returns-then-w : goal.returns-then-w
returns-then-w c = stepped_y _ _ _ _ c.if-w.true c.y_step.ensures

pub returns : goal.returns
returns c = stepped_x _ _ _ _ c.if-w.false c.x_step.ensures

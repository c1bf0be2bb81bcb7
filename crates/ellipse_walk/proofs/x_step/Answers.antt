use Rattle.ellipse_walk.proofs.Laws.{x_stepped}
use Rattle.ellipse_walk.proofs.x_step.Goals as goal

pub returns : goal.returns
returns c = search x_stepped

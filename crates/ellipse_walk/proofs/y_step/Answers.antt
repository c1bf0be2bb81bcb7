use Rattle.ellipse_walk.proofs.Laws.{y_stepped}
use Rattle.ellipse_walk.proofs.y_step.Goals as goal

pub returns : goal.returns
returns c = search y_stepped

use Rattle.draw.proofs.Parts.{step-drawn, step-none}
use Rattle.draw.proofs.ellipse.draw_step.Goals as goal

pub returns-in-At : goal.returns-in-At
returns-in-At c = step-drawn _ _ _ _ _ _ _ _ _ c.in-At.is c.draw_part.ensures

pub returns-in_default : goal.returns-in_default
returns-in_default c = search step-none

use Rattle.model.specs.Calls.{refusals, refused, done, outcome}
use Rattle.caption.proofs.ellipses.caption_draw_circle.Goals as goal

pub returns : goal.returns
unfolding outcome refusals refused done
returns c = c.caption_draw_ellipse.ensures

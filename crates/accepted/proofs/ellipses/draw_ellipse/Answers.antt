use Rattle.std.proofs.Common.{rules}
use Rattle.model.specs.Calls.{done}
use Rattle.accepted.proofs.Screens.{drew_shape}
use Rattle.accepted.proofs.ellipses.draw_ellipse.Goals as goal

pub returns : goal.returns
unfolding done
returns c = drew_shape _ c.draw_on_screen.ensures (λ s t k q. rw (← c.edge_of-edge.ensures) search rules)

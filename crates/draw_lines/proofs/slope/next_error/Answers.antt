use Rattle.std.proofs.Common.{refl, arith}
use Rattle.laws.specs.Slopes.{error_taken}
use Rattle.draw_lines.proofs.slope.next_error.Goals as goal

pub returns-then-reaches : goal.returns-then-reaches
returns-then-reaches c = error_taken _ _ _ (omega arith) c.reaches.ensures c.if-reaches.true refl (omega arith)

use Rattle.std.proofs.Common.{arith}
use Rattle.laws.specs.Runs.{bytes_turn, bytes_end}
use Rattle.pixels.proofs.run.draw_bytes.Goals as goal

pub loop-at-preserved : goal.loop-at-preserved
loop-at-preserved c = bytes_turn _ _ _ _ _ _ (omega arith) c.draw_mask.ensures c.loop-at.invariant

pub returns : goal.returns
returns c = search bytes_end

use Rattle.std.proofs.Common.{arith}
use Rattle.level.proofs.Counting.{ones_differ, ones_small}
use Rattle.level.proofs.byte_differs.Goals as goal

pub returns-clause-count : goal.returns-clause-count
returns-clause-count c = ones_differ c.args.a c.args.b (omega arith) (omega arith)

pub returns-clause-bound : goal.returns-clause-bound
returns-clause-bound c = ones_small c.args.a c.args.b (omega arith) (omega arith)

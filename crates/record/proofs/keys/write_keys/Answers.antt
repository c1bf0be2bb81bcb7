use Rattle.std.proofs.Common.{◌≡◌, arith}
use Rattle.record.proofs.keys.write_keys.Goals as goal

pub returns : goal.returns
returns c = let e : c.loop-a.a ≡ 256 = omega arith in rw e at c.loop-a.invariant

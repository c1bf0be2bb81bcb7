use Rattle.std.proofs.Common.{arith}
use Rattle.laws.specs.FlushWalk.{taken_most}
use Rattle.flush.proofs.cells.next_spot.Goals as goal

pub spot_after-requires : goal.spot_after-requires
spot_after-requires c = omega (arith, c.requires, c.cells_taken.ensures, taken_most c.args.w.kind)

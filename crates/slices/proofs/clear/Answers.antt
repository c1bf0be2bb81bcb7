use Rattle.std.proofs.Common.{rules}
use Rattle.model.specs.Memory.{zeros}
use Rattle.slices.proofs.clear.Goals as goal

pub returns : goal.returns
unfolding zeros
returns c = search rules

use Rattle.laws.specs.Memory.{set-window}
use Rattle.updates.proofs.open.store_edge.Goals as goal

pub returns : goal.returns
returns c = search set-window

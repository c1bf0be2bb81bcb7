use Rattle.accepted.proofs.Opening.{was_reset}
use Rattle.accepted.proofs.open.reset.Goals as goal

pub returns : goal.returns
returns c = let a = c.args in was_reset a.rec.now a.memory.now c.clear_memory.ensures c.reset_record.ensures

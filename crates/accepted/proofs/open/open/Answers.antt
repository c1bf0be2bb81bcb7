use Rattle.accepted.proofs.Opening.{was_opened}
use Rattle.accepted.proofs.open.open.Goals as goal

pub returns : goal.returns
returns c =
    was_opened c.args.graphics c.args.text c.args.version c.args.edge c.requires c.open_record.ensures c.clear_memory.ensures

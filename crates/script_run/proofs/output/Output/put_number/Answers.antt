use Rattle.model.specs.Characters.{bytes_of}
use Rattle.model.specs.Script.Output.{decimal}
use Rattle.script_run.proofs.Writing.{appended_then, room_first, room_next}
use Rattle.script_run.proofs.output.Output.put_number.Goals as goal

pub put_decimal-requires : goal.put_decimal-requires
put_decimal-requires c = room_next (decimal c.args.n) c.requires c.put_byte.ensures

pub returns : goal.returns
returns c = appended_then (room_first (bytes_of " ") (decimal c.args.n) c.args.self.now c.requires) c.put_byte.ensures c.put_decimal.ensures

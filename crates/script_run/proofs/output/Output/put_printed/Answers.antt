use Rattle.model.specs.Characters.{bytes_of}
use Rattle.model.specs.Script.Output.{printed}
use Rattle.script_run.proofs.Writing.{room_first, word_room, spaced_room, close_room, printed-written}
use Rattle.script_run.proofs.output.Output.put_printed.Goals as goal

pub put_byte-requires : goal.put_byte-requires
unfolding printed
put_byte-requires c = room_first (bytes_of "(") _ c.args.self.now c.requires

pub put_text-requires : goal.put_text-requires
put_text-requires c = search word_room

pub put_numbers-requires : goal.put_numbers-requires
put_numbers-requires c = search spaced_room

pub put_text-requires-2 : goal.put_text-requires-2
put_text-requires-2 c = search close_room

pub returns : goal.returns
returns c = search printed-written

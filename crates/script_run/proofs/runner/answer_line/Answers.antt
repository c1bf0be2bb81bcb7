use Rattle.script_run.proofs.Running.{plain_room, plain_answered, means_point, means_line, means_poke, beside_draw, beside_poke, send_room, send_answered, bad_room, bad_answered}
use Rattle.script_run.proofs.runner.answer_line.Goals as goal

pub put_done-requires : goal.put_done-requires
put_done-requires c = search (plain_room, means_point, beside_draw)

pub put_done-requires-in-Line : goal.put_done-requires-in-Line
put_done-requires-in-Line c = search (plain_room, means_line, beside_draw)

pub put_done-requires-in-Poke : goal.put_done-requires-in-Poke
put_done-requires-in-Poke c = search (plain_room, means_poke, beside_poke)

pub put_sent-requires : goal.put_sent-requires
put_sent-requires c = search send_room

pub put_printed-requires : goal.put_printed-requires
put_printed-requires c = search bad_room

pub returns-in-Point : goal.returns-in-Point
returns-in-Point c = search (plain_answered, means_point, beside_draw)

pub returns-in-Line : goal.returns-in-Line
returns-in-Line c = search (plain_answered, means_line, beside_draw)

pub returns-in-Poke : goal.returns-in-Poke
returns-in-Poke c = search (plain_answered, means_poke, beside_poke)

pub returns-in-Send : goal.returns-in-Send
returns-in-Send c = search send_answered

pub returns-in-Bad : goal.returns-in-Bad
returns-in-Bad c = search bad_answered

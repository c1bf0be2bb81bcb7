use Rattle.std.proofs.Common.{◌≡◌, [], ◌∷◌, sym}
use Rattle.model.specs.Characters.{bytes_of}
use Rattle.model.specs.Calls.{lent}
use Rattle.model.specs.Script.Output.{printed, ending}
use Rattle.script_run.proofs.Writing.{appended_as, room_as}
use Rattle.script_run.proofs.Whole.{part_room, lines_read, ending_is}
use Rattle.script_run.proofs.runner.put_ending.Goals as goal
use Rattle.script_run.proofs.runner.put_ending.Goals.{After-lines_left-left}

the_ending : (c : After-lines_left-left) → ending (lent c.args.rec.now c.args.memory.now c.args.panel.now) ≡ printed (bytes_of "end") (c.count_differing-differing.result ∷ c.lines_left-left.result ∷ [])
the_ending c =
    ending_is c.args.rec.now c.args.memory.now c.args.panel.now _ _ c.count_differing-differing.ensures (lines_read c.args.rec.now c.glass_of-glass.ensures c.panel_at.ensures c.lines_left-left.ensures)

pub lines_left-left-requires : goal.lines_left-left-requires
lines_left-left-requires c = part_room c.args.rec.now c.glass_of-glass.ensures c.panel_at.ensures c.requires.buffers_sized.rec

pub put_printed-requires : goal.put_printed-requires
put_printed-requires c = room_as c.args.out.now (the_ending (goal.at.put_printed-requires c).After-lines_left-left) c.requires.text_fits

pub returns : goal.returns
returns c = appended_as (sym (the_ending (goal.at.returns c).After-lines_left-left)) c.put_printed.ensures

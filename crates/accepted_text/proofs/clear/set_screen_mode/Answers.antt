use Rattle.record.proofs.Lengths.{head_there}
use Rattle.updates.proofs.Drawing.{loaded, screen_room, text_room}
use Rattle.accepted_text.proofs.Clearing.{flagless, all-marked, was_cleared}
use Rattle.accepted_text.proofs.clear.set_screen_mode.Goals as goal

pub load_head-requires : goal.load_head-requires
load_head-requires c = head_there c.requires.passing

pub clear_windows-requires : goal.clear_windows-requires
clear_windows-requires c =
    let w = loaded c.requires c.glass_of-glass.ensures c.load_head.ensures in (text_room w, screen_room w)

pub mark-requires : goal.mark-requires
mark-requires c = flagless c.requires.passing c.clear_flags.ensures

pub set_first_place-requires : goal.set_first_place-requires
set_first_place-requires c =
    all-marked c.requires.passing c.clear_flags.ensures c.whole_marks.result c.glass_of-glass.ensures c.canvas_of.ensures c.whole_marks.ensures c.mark.ensures

pub returns : goal.returns
returns c =
    was_cleared c.requires.passing c.clear_flags.ensures c.whole_marks.result c.glass_of-glass.ensures c.canvas_of.ensures c.whole_marks.ensures c.mark.ensures
    c.args.mode c.args.memory.now c.load_head.ensures c.clear_windows.ensures c.set_first_place.ensures

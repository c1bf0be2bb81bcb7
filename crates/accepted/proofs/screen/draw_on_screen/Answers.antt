use Rattle.std.proofs.Common.{refl, rules}
use Rattle.record.proofs.Lengths.{head_there}
use Rattle.updates.proofs.Drawing.{loaded, screen_room}
use Rattle.accepted.proofs.Screens.{is_canvas, drew_there}
use Rattle.accepted.proofs.screen.draw_on_screen.Goals as goal

pub load_head-from-requires : goal.load_head-from-requires
load_head-from-requires g c = head_there c.requires.given.passing

pub slice_bounds-f-end : goal.slice_bounds-f-end
slice_bounds-f-end g c = screen_room (loaded c.requires.given c.glass_of-glass.ensures c.load_head-from.ensures)

pub f-m-requires : goal.f-m-requires
f-m-requires g c =
    let same = is_canvas (loaded c.requires.given c.glass_of-glass.ensures c.load_head-from.ensures) c.canvas_of.ensures in search rules

pub returns : goal.returns
returns g c =
    let w = loaded c.requires.given c.glass_of-glass.ensures c.load_head-from.ensures in
    drew_there c.f-m.result _ _ w c.canvas_of.ensures refl c.f-m.ensures c.f-m.auto.arg3 c.mark.ensures

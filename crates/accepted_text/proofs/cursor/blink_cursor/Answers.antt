use Rattle.laws.specs.Cursors.{blink_fits, box_bottom, box_right}
use Rattle.record.proofs.Lengths.{head_there}
use Rattle.updates.proofs.Drawing.{loaded, numbers, screen_room, screen-part, text_room}
use Rattle.accepted_text.proofs.Blinking.{blink_graph, next_passes, blink_drew}
use Rattle.accepted_text.proofs.cursor.blink_cursor.Goals as goal

pub load_head-h-requires : goal.load_head-h-requires
load_head-h-requires c = head_there c.requires.passing

pub returns-then-screen-ne0 : goal.returns-then-screen-ne0
returns-then-screen-ne0 c = blink_graph _ _ c.load_head-h.ensures c.if-screen-ne0.true

pub under_cursor-b-requires : goal.under_cursor-b-requires
under_cursor-b-requires c =
    let w = loaded c.requires c.glass_of-glass.ensures c.load_head-h.ensures in record {
      numbers = numbers w;
      text_in_memory = text_room w;
    }

pub slice_bounds-invert_cursor-end : goal.slice_bounds-invert_cursor-end
slice_bounds-invert_cursor-end c = rw c.window.ensures (screen_room (loaded c.requires c.glass_of-glass.ensures c.load_head-h.ensures))

pub invert_cursor-m-requires : goal.invert_cursor-m-requires
invert_cursor-m-requires c =
    let w = loaded c.requires c.glass_of-glass.ensures c.load_head-h.ensures in
    let z = c.glass_of-glass.result.suits.glass in
    let n = numbers w in
    let k = blink_fits _ _ n.cursor c.blink_of-cursor.ensures in record {
      screen = rw c.window.ensures (screen-part w c.canvas_of.ensures);
      box_fits = (box_bottom n z, box_right n z, k.0, k.1);
    }

pub set_cursor-requires : goal.set_cursor-requires
set_cursor-requires c = c.requires.passing

pub mark-requires : goal.mark-requires
mark-requires c = next_passes _ _ c.requires.passing c.blink_next.ensures c.set_cursor.ensures

pub returns : goal.returns
returns c =
    let w = loaded c.requires c.glass_of-glass.ensures c.load_head-h.ensures in
    let drawn = rw c.window.ensures at c.invert_cursor-m.ensures in
    rw c.window.ensures (blink_drew c.requires.passing w _ _ c.if-screen-ne0.false c.under_cursor-b.ensures c.blink_of-cursor.ensures c.canvas_of.ensures drawn c.blink_next.ensures c.set_cursor.ensures c.mark.ensures)

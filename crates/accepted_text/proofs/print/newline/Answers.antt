use Rattle.std.proofs.Common.{arith}
use Rattle.record.proofs.Lengths.{head_there}
use Rattle.updates.proofs.Drawing.{loaded, text_room}
use Rattle.accepted_text.proofs.Printing.{flags_end, ready, few_scrolls, newline_keeps, store_given, page-stored, newline_left}
use Rattle.accepted_text.proofs.print.newline.Goals as goal

pub load_head-h-requires : goal.load_head-h-requires
load_head-h-requires c = head_there c.requires.passing

pub slice_bounds-newline-end : goal.slice_bounds-newline-end
slice_bounds-newline-end c = rw c.window.ensures (text_room (loaded c.requires c.glass_of-glass.ensures c.load_head-h.ensures))

pub slice_bounds-newline-end-2 : goal.slice_bounds-newline-end-2
slice_bounds-newline-end-2 c = flags_end (loaded c.requires c.glass_of-glass.ensures c.load_head-h.ensures)

pub newline-p-requires : goal.newline-p-requires
newline-p-requires c =
    let w = loaded c.requires c.glass_of-glass.ensures c.load_head-h.ensures in
    let e = c.place_of-start.ensures in record {
      ready = rw c.window.ensures (ready w e 0 (omega arith));
      scrolls_fit = few_scrolls w e;
    }

pub store_page-requires : goal.store_page-requires
store_page-requires c =
    let w = loaded c.requires c.glass_of-glass.ensures c.load_head-h.ensures in
    let g = store_given w c.place_of-start.ensures _ (newline_keeps w) (rw c.window.ensures at c.newline-p.ensures) in record {
      given = rw c.window.ensures g.0;
      place_on_page = g.1;
    }

pub returns : goal.returns
returns c =
    let w = loaded c.requires c.glass_of-glass.ensures c.load_head-h.ensures in
    newline_left w (page-stored w c.place_of-start.ensures _ (newline_keeps w) (rw c.window.ensures at c.newline-p.ensures) (rw c.window.ensures at c.store_page.ensures))

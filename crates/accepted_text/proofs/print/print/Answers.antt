use Rattle.std.proofs.Common.{arith}
use Rattle.laws.specs.Pages.{print_sheet}
use Rattle.record.proofs.Lengths.{head_there}
use Rattle.updates.proofs.Drawing.{loaded, text_room}
use Rattle.accepted_text.proofs.Printing.{flags_end, ready, no_scrolls, store_given, page-stored, print_left}
use Rattle.accepted_text.proofs.print.print.Goals as goal

pub load_head-h-requires : goal.load_head-h-requires
load_head-h-requires c = head_there c.requires.passing

pub slice_bounds-print-end : goal.slice_bounds-print-end
slice_bounds-print-end c = rw c.window.ensures (text_room (loaded c.requires c.glass_of-glass.ensures c.load_head-h.ensures))

pub slice_bounds-print-end-2 : goal.slice_bounds-print-end-2
slice_bounds-print-end-2 c = flags_end (loaded c.requires c.glass_of-glass.ensures c.load_head-h.ensures)

pub print-p-requires : goal.print-p-requires
print-p-requires c =
    let w = loaded c.requires c.glass_of-glass.ensures c.load_head-h.ensures in
    let e = c.place_of-start.ensures in record {
      ready = rw c.window.ensures (ready w e 1 (omega arith));
      not_scrolled = no_scrolls w e;
    }

pub store_page-requires : goal.store_page-requires
store_page-requires c =
    let w = loaded c.requires c.glass_of-glass.ensures c.load_head-h.ensures in
    let g = store_given w c.place_of-start.ensures _ (print_sheet _ _ _ _) (rw c.window.ensures at c.print-p.ensures) in record {
      given = rw c.window.ensures g.0;
      place_on_page = g.1;
    }

pub returns : goal.returns
returns c =
    let w = loaded c.requires c.glass_of-glass.ensures c.load_head-h.ensures in
    print_left w c.args.bytes.now (page-stored w c.place_of-start.ensures _ (print_sheet _ _ _ _) (rw c.window.ensures at c.print-p.ensures) (rw c.window.ensures at c.store_page.ensures))

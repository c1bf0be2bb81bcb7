use Rattle.std.proofs.Common.{arith}
use Rattle.record.proofs.Lengths.{head_there}
use Rattle.updates.proofs.Drawing.{loaded, screen_room}
use Rattle.accepted_text.proofs.Printing.{rows-lent, page_stays, place_passes, page_follows}
use Rattle.accepted_text.proofs.print.store_page.Goals as goal

pub load_head-h-requires : goal.load_head-h-requires
load_head-h-requires c = head_there c.requires.given.passing

pub returns-then-n-eq0 : goal.returns-then-n-eq0
returns-then-n-eq0 c =
    let w = loaded c.requires.given c.glass_of-glass.ensures c.load_head-h.ensures in
    page_stays w c.args.p c.set_place.ensures c.screen_scrolls-n.ensures (omega (arith, c.if-n-eq0.true))

pub overflow_mul-row_bytes : goal.overflow_mul-row_bytes
overflow_mul-row_bytes c = omega (arith, c.glass_of-glass.result.suits.glass.cursor)

pub slice_bounds-screen-end : goal.slice_bounds-screen-end
slice_bounds-screen-end c = rw c.window.ensures (screen_room (loaded c.requires.given c.glass_of-glass.ensures c.load_head-h.ensures))

pub scroll_screen-requires : goal.scroll_screen-requires
scroll_screen-requires c = rw c.window.ensures (rows-lent (loaded c.requires.given c.glass_of-glass.ensures c.load_head-h.ensures))

pub mark-requires : goal.mark-requires
mark-requires c =
    let w = loaded c.requires.given c.glass_of-glass.ensures c.load_head-h.ensures in
    place_passes w c.args.p c.set_place.ensures c.requires.place_on_page

pub returns : goal.returns
returns c =
    let w = loaded c.requires.given c.glass_of-glass.ensures c.load_head-h.ensures in
    let m = c.scroll_marks-m.ensures in
    let scrolled = rw c.window.ensures at c.scroll_screen.ensures in
    rw c.window.ensures (page_follows w c.args.p c.set_place.ensures c.requires.place_on_page c.scroll_marks-m.result c.screen_scrolls-n.ensures scrolled c.canvas_of.ensures m.0 m.1 (omega arith) c.mark.ensures)

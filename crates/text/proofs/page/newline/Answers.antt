-- The three arms are the definition's. A row of cells lies in text and flags, so both can scroll by it.
use Rattle.std.proofs.Common.{arith}
use Rattle.text.proofs.Writing.{row_in_text, row_in_flags, newline_none, newline_scrolls, newline_next}
use Rattle.text.proofs.page.newline.Goals as goal

pub returns-then-p-eq0 : goal.returns-then-p-eq0
returns-then-p-eq0 c = search newline_none

pub scroll-requires : goal.scroll-requires
scroll-requires c = search row_in_text

pub scroll_flags-requires : goal.scroll_flags-requires
scroll_flags-requires c = omega (arith, row_in_flags _ _ _ _ _ c.requires.ready)

pub returns-then-p-rows : goal.returns-then-p-rows
returns-then-p-rows c =
    newline_scrolls _ _ _ _ _ c.requires.ready c.if-p-eq0.false c.if-p-rows.true c.scroll.ensures c.scroll_flags.ensures (omega arith)

pub returns : goal.returns
returns c = search newline_next

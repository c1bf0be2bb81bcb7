-- The line lies in one byte, or in more: `in_one_byte` and `in_more_bytes` are the two returns.
use Rattle.send.proofs.Copy.{in_one_byte, in_more_bytes}
use Rattle.send.proofs.line.copy_line.Goals as goal

pub returns-then-first-end : goal.returns-then-first-end
returns-then-first-end c = search in_one_byte

pub returns : goal.returns
returns c =
    in_more_bytes c.requires c.shared_slice_known-1.given c.slice_known-1.given
    c.if-first-end.false c.start_mask-2.ensures c.end_mask-2.ensures c.copy_masked-2.ensures c.copy_bytes.ensures
    c.slice_known-3-1.given c.copy_masked-3.ensures

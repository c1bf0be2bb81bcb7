use Rattle.std.proofs.Common.{arith}
use Rattle.model.specs.Memory.{window}
use Rattle.bitmap_bytes.proofs.Copies.{put_back}
use Rattle.bitmap_bytes.proofs.paint_copied.Goals as goal

pub returns : goal.returns
unfolding window
returns c =
    let a = c.args in
    let o = rw (c.size-room.ensures, c.size-count.ensures) at c.copy_both.ensures in
    put_back a.clip a.screen a.source a.mode a.memory.now _ _ c.paint_clip.new.memory _ c.requires.in_memory.0 (omega arith) o (rw c.size-room.ensures at c.paint_clip.ensures) (rw c.size-room.ensures at c.put_bytes.ensures)

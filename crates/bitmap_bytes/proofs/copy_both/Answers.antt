use Rattle.laws.specs.Parts.{part-window}
use Rattle.laws.specs.PaintedMemory.{copied}
use Rattle.bitmap_bytes.proofs.copy_both.Goals as goal

pub returns : goal.returns
returns c =
    copied c.args.screen c.args.size c.args.source c.args.count c.args.memory.now c.args.both.now _ _ c.requires
    (rw (part-window c.args.screen c.args.size c.args.memory.now) at c.put_bytes.ensures)
    (rw (part-window c.args.source c.args.count c.args.memory.now) at c.put_bytes-2.ensures)

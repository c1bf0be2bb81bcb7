use Rattle.std.proofs.Common.{inl, inr, arith, rules}
use Rattle.model.specs.Bytes.{Bytes}
use Rattle.laws.specs.Tests.{either}
use Rattle.laws.specs.PaintedBits.{one_byte, many_bytes}
use Rattle.bit_runs.proofs.paint_bits.Goals as goal

pub returns-then-first-last : goal.returns-then-first-last
unfolding Bytes
returns-then-first-last c =
    one_byte c.args.mode c.args.from c.args.to c.args.count c.args.memory.now _ (search rules) c.requires.in_memory.0 c.requires.in_memory.1
    c.if-first-last.true c.start_mask-start.ensures c.end_mask-stop.ensures c.paint_masked.ensures

pub paint_bytes-requires : goal.paint_bytes-requires
paint_bytes-requires c =
    record {
      in_memory = omega arith;
      apart = either c.requires.apart (λ h. inl (omega arith)) (λ h. inr (omega arith));
    }

pub returns : goal.returns
unfolding Bytes
returns c =
    many_bytes c.args.mode c.args.from c.args.to c.args.count c.args.memory.now _ (search rules) c.requires.in_memory.0 c.requires.in_memory.1
    _ _ c.requires.apart c.requires.in_memory.2 (omega arith) c.start_mask-start.ensures c.end_mask-stop.ensures
    c.paint_masked-2.ensures c.paint_bytes.ensures c.paint_masked-3.ensures

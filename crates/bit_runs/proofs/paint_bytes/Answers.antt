use Rattle.std.proofs.Common.{◌≡◌, ◌+◌, ◌*◌, ◌/◌, ◌%◌, arith}
use Rattle.bit_runs.proofs.paint_bytes.Goals as goal

pub paint_aligned-requires : goal.paint_aligned-requires
paint_aligned-requires c =
    let e : 8 * (c.args.i / 8) ≡ c.args.i = omega arith in record {
      in_memory = omega arith;
      apart = rw e c.requires.apart;
    }

pub returns-then-shift-eq0 : goal.returns-then-shift-eq0
returns-then-shift-eq0 c =
    let e : 8 * (c.args.i / 8) ≡ c.args.i = omega arith in
    rw e at c.paint_aligned.ensures

pub paint_shifted-requires : goal.paint_shifted-requires
paint_shifted-requires c =
    let e : 8 * (c.args.i / 8) + c.args.i % 8 ≡ c.args.i = omega arith in record {
      in_memory = omega arith;
      apart = rw e c.requires.apart;
    }

pub returns : goal.returns
returns c =
    let e : 8 * (c.args.i / 8) + c.args.i % 8 ≡ c.args.i = omega arith in
    rw e at c.paint_shifted.ensures

use Rattle.std.proofs.Common.{◌+◌, ◌-◌, ◌*◌, ◌∙◌, arith, rules}
use Rattle.model.specs.Bytes.{Bytes}
use Rattle.laws.specs.PaintedBits.{bits_none, bytes_turn, shifted_source}
use Rattle.bit_runs.proofs.paint_shifted.Goals as goal

pub loop-at-init : goal.loop-at-init
loop-at-init c = bits_none _ _ _ _ _ (omega arith)

pub loop-at-preserved : goal.loop-at-preserved
unfolding Bytes
loop-at-preserved c =
    let at = c.loop-at in
    let start = 8 * c.args.source + c.args.shift in
    let source = c.shifted-s.ensures ∙ shifted_source at.memory (c.args.source + (at.at - c.args.from)) c.args.shift (start + 8 * (at.at - c.args.from) + 8) (omega arith) (omega arith) in
    bytes_turn c.args.mode start c.args.from at.at c.args.to _ c.args.memory.now at.memory _ (search rules) (omega arith) (omega arith) (omega arith) (omega arith) c.requires.apart
    at.invariant source cc

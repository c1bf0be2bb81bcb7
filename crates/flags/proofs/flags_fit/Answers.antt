use Rattle.std.proofs.Common.{arith, sym, ◌∙◌}
use Rattle.laws.specs.Flags.{flags_turn, flags_end}
use Rattle.flags.proofs.flags_fit.Goals as goal

pub loop-flag-preserved : goal.loop-flag-preserved
loop-flag-preserved c =
    let l = c.loop-flag in
    flags_turn l.ok c.args.cells c.args.flags.now l.flag-index c.requires (omega arith) ∙ l.invariant

pub returns : goal.returns
returns c =
    let l = c.loop-flag in
    sym (flags_end l.ok c.args.cells c.args.flags.now l.flag-index (omega arith)) ∙ l.invariant

use Rattle.std.proofs.Common.{arith, refl}
use Rattle.laws.specs.Loops.{words_start, words_turn}
use Rattle.updates.proofs.open.store_keys.Goals as goal

pub loop-i-init : goal.loop-i-init
loop-i-init c = words_start c.args.at c.args.keys c.args.rec.now

pub loop-i-preserved : goal.loop-i-preserved
loop-i-preserved c =
    let l = c.loop-i in
    words_turn c.args.at l.i c.args.keys c.args.rec.now l.rec (omega (arith, c.requires.1)) (omega (arith, c.requires.0)) l.invariant refl c.store_four.ensures

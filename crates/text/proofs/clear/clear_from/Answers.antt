use Rattle.std.proofs.Common.{refl, sym, ◌∙◌, length-set}
use Rattle.text.proofs.Turning.{clear_start, clear_turn, clear_stop, clear_over}
use Rattle.text.proofs.clear.clear_from.Goals as goal

pub loop-i-init : goal.loop-i-init
loop-i-init c = (refl, clear_start _ _)

pub returns-then-text-i-eq0 : goal.returns-then-text-i-eq0
returns-then-text-i-eq0 c = let l = c.loop-i in sym (clear_stop _ l.i l.text c.if-text-i-eq0.true) ∙ l.invariant.1

pub loop-i-preserved : goal.loop-i-preserved
loop-i-preserved c =
    let l = c.loop-i in
    (length-set l.text l.i 0 ∙ l.invariant.0, clear_turn _ l.i l.text c.loop-i-test.true c.if-text-i-eq0.false ∙ l.invariant.1)

pub returns : goal.returns
returns c = let l = c.loop-i in sym (clear_over _ l.i l.text c.loop-i-test.false) ∙ l.invariant.1

use Rattle.std.proofs.Common.{sym, ◌∙◌, le-leb}
use Rattle.flush.proofs.Walking.{blank_turn, blank_end}
use Rattle.flush.proofs.cells.are_blank.Goals as goal

pub loop-b-preserved : goal.loop-b-preserved
loop-b-preserved c = let l = c.loop-b in let a = c.args in blank_turn l.ok a.text.now a.at a.count l.b-index c.loop-b-test.true ∙ l.invariant

pub returns : goal.returns
returns c =
    let l = c.loop-b in
    let a = c.args in
    rw (le-leb _ _ c.if-text-end.false) (sym (blank_end l.ok a.text.now a.at a.count l.b-index c.if-text-end.false c.loop-b-test.false) ∙ l.invariant)

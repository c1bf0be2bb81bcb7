use Rattle.std.proofs.Common.{sym, ◌∙◌, arith}
use Rattle.glyph_choice.proofs.Choosing.{here, past, none_left}
use Rattle.glyph_choice.proofs.index_in.Goals as goal

pub returns-then-lead-row : goal.returns-then-lead-row
returns-then-lead-row c = let l = c.loop-row in here _ l.row-index l.before _ _ c.loop-row-test.true c.if-lead-row.true ∙ sym l.invariant.1

pub loop-row-preserved : goal.loop-row-preserved
loop-row-preserved c =
    let l = c.loop-row in
    (omega arith, l.invariant.1 ∙ past _ l.row-index l.before _ _ c.loop-row-test.true _ (omega (arith, c.saturating_sub-before.ensures)) c.if-lead-row.false)

pub returns : goal.returns
returns c = let l = c.loop-row in none_left _ l.row-index l.before _ _ c.loop-row-test.false ∙ sym l.invariant.1

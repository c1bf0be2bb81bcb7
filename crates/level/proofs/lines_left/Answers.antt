use Rattle.std.proofs.Common.{ap, ◌∙◌, arith}
use Rattle.model.specs.Bytes.{rect_at}
use Rattle.model.specs.Rects.{lines_of}
use Rattle.level.proofs.Counting.{left_turn, left_end}
use Rattle.level.proofs.lines_left.Goals as goal

pub loop-i-preserved : goal.loop-i-preserved
loop-i-preserved c =
    let l = c.loop-i.invariant in
    (left_turn _ _ _ _ _ _ _ _ _ l.0 (omega arith) (omega arith) (c.load_rect.ensures ∙ ap (rect_at c.args.rec.now) c.band_at.ensures) c.lines_of-owed.ensures.count, omega arith)

pub returns : goal.returns
returns c =
    let owed = left_end _ _ _ _ _ c.loop-i.invariant.0 (omega arith) in
    let hand = c.lines_of.ensures.count ∙ ap lines_of (c.load_rect-2.ensures ∙ ap (rect_at c.args.rec.now) c.band_at-2.ensures) in
    omega (arith, owed, hand)

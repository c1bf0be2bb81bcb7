use Rattle.std.proofs.Common.{length-set, arith}
use Rattle.laws.specs.Glyphs.{room_next}
use Rattle.flush.proofs.Painting.{lines_again, lines_done}
use Rattle.flush.proofs.glyph.paint_glyph.Goals as goal

pub loop-line-preserved : goal.loop-line-preserved
loop-line-preserved c =
    let a = c.args in
    let l = c.loop-line in
    let i = l.line-index in
    let v = l.invariant in
    let t = c.loop-line-test.true in
    (simp length-set v.0, room_next _ l.l i 16 _ t v.1, room_next _ l.r i 16 _ t v.2, lines_again a.stride a.inverse a.inverse2 l.l l.r i a.g l.screen (omega (arith, c.requires.sixteen_lines)) c.flip.ensures c.flip-in-loop-line.ensures v.3)

pub returns : goal.returns
returns c =
    let a = c.args in
    let l = c.loop-line in
    lines_done a.stride a.inverse a.inverse2 l.l l.r l.line-index a.g l.screen (omega (arith, c.requires.sixteen_lines)) l.invariant.3

use Rattle.std.proofs.Common.{ap, ◌∙◌, length-set}
use Rattle.model.specs.Glyphs.{flipped}
use Rattle.laws.specs.Glyphs.{room_next}
use Rattle.flush.proofs.Walking.{lent_byte, lent_below, lent_over}
use Rattle.flush.proofs.Painting.{column_again, column_done}
use Rattle.flush.proofs.glyph.paint_column.Goals as goal

pub loop-b-preserved : goal.loop-b-preserved
loop-b-preserved c =
    let a = c.args in
    let l = c.loop-b in
    let v = l.invariant in
    let k = lent_below a.font.now a.from a.height l.b-index c.loop-b-test.true in
    let f = c.flip.ensures ∙ ap (flipped a.inverse) (lent_byte a.font.now a.from a.height l.b-index k) in
    (simp length-set v.0, room_next _ l.place l.b-index _ _ k v.1, column_again a.stride a.font.now a.inverse a.from a.height l.b-index l.place l.screen v.2 k f)

pub returns : goal.returns
returns c =
    let a = c.args in
    let l = c.loop-b in
    column_done a.stride a.font.now a.inverse a.from a.height l.b-index l.place l.screen l.invariant.2 (lent_over a.font.now a.from a.height l.b-index c.requires.bytes_are_there c.loop-b-test.false)

use Rattle.std.proofs.Common.{◌∙◌}
use Rattle.laws.specs.Ellipses.{radii}
use Rattle.laws.specs.EllipseWalks.{painting_starts, painting-steps, painting_less}
use Rattle.pixels.specs.Raster.{mode_of}
use Rattle.draw.proofs.Parts.{parts_at}
use Rattle.draw.proofs.ellipse.draw_walk.Goals as goal

pub loop-last-init : goal.loop-last-init
loop-last-init c =
    let a = c.args in
    let r = c.max-r.ensures in
    painting_starts _ _ a.edge a.x a.y _ a.rx a.ry a.fill (mode_of a.op) (radii a.rx a.ry r c.requires.round) _ r c.start-w.ensures (parts_at a.rx 0)

pub loop-last-smaller : goal.loop-last-smaller
loop-last-smaller c =
    let a = c.args in
    let step = c.next_step-s.ensures in
    painting_less a.canvas.stride a.canvas.height a.edge a.x a.y _ a.rx a.ry a.fill (mode_of a.op) (radii a.rx a.ry c.max-r.ensures c.requires.round)
    c.loop-last.invariant c.draw_step.ensures c.if-last.false step.walk step.part c.ended-last.ensures

pub loop-last-preserved : goal.loop-last-preserved
loop-last-preserved c =
    let a = c.args in
    let step = c.next_step-s.ensures in
    painting-steps a.canvas.stride a.canvas.height a.edge a.x a.y _ a.rx a.ry a.fill (mode_of a.op) (radii a.rx a.ry c.max-r.ensures c.requires.round)
    c.loop-last.invariant c.draw_step.ensures c.if-last.false step.walk step.part c.ended-last.ensures

pub returns : goal.returns
returns c = c.draw_step.ensures ∙ c.loop-last.invariant.last c.if-last.true

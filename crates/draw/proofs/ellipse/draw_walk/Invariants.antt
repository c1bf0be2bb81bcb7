-- The loop's invariant: the part at hand and those of the steps that are left, drawn on the screen as it stands, give the whole ellipse.
use Rattle.model.specs.Ellipses.{parts}
use Rattle.laws.specs.EllipseWalks.{painted, LeftToDraw, turns_left}
use Rattle.pixels.specs.Raster.{mode_of}
use Rattle.ellipse_walk.specs.Walk.{walk_of, parts_of}
use Rattle.draw.proofs.ellipse.draw_walk.Given as goal

abbrev pub invariant-loop-last : goal.invariant-loop-last
invariant-loop-last l =
    LeftToDraw l.canvas.stride l.canvas.height l.edge l.x l.y l.r l.rx l.ry l.fill (mode_of l.op) l.last (walk_of l.w) (parts_of l.part) l.screen (painted l.canvas.stride l.canvas.height l.edge l.x l.y l.fill (mode_of l.op) (parts l.rx l.ry) l.initial.screen)

abbrev pub decreases-loop-last : goal.decreases-loop-last
decreases-loop-last l = turns_left l.r l.last (walk_of l.w)

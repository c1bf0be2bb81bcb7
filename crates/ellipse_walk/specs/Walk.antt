-- The code's structs of an ellipse's walk as the definitions' records.
use Rattle.std.specs.Prelude.{◌≡◌, List, [], ◌∷◌}
use Rattle.model.specs.Ellipses.{Axis, Walk, Part, part}
use Rattle.ellipse_walk.specs.declared.EllipseAxis.{EllipseAxis}
use Rattle.ellipse_walk.specs.declared.EllipseWalk.{EllipseWalk}
use Rattle.ellipse_walk.specs.declared.EllipseStep.{EllipseStep}
use Rattle.ellipse_walk.specs.declared.EllipsePart.{EllipsePart}
use Rattle.ellipse_walk.specs.declared.EllipsePart.TheVariants.{Nothing, At}

abbrev pub axis_of : EllipseAxis → Axis
axis_of a = record { f = a.f; neg = a.neg; delta = a.delta; tmp = a.tmp; inc = a.inc }

abbrev pub walk_of : EllipseWalk → Walk
walk_of w = record { x = axis_of w.x; y = axis_of w.y; fxy = w.fxy; neg = w.neg; started = w.started }

unfoldable pub parts_of : EllipsePart → List Part
parts_of Nothing = []
parts_of (At a b) = part a b ∷ []

-- what a step leaves, and what it draws
pub record Stepped (w : Walk) (ps : List Part) (s : EllipseStep) : Type 0 where
  pub walk : walk_of s.walk ≡ w
  pub part : parts_of s.part ≡ ps

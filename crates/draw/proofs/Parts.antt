-- The part that a step of the walk gives: one part of the ellipse, or none.
use Rattle.std.proofs.Common.{◌≡◌, ℕ, Bool, List, [], ◌∷◌, sym, refl, ◌∙◌}
use Rattle.model.specs.declared.Edge.{Edge}
use Rattle.model.specs.declared.DrawMode.{DrawMode}
use Rattle.model.specs.Pixels.{draw, seen}
use Rattle.model.specs.Ellipses.{part, part_writes}
use Rattle.laws.specs.EllipseWalks.{painted, painted_one, painted-none}
use Rattle.ellipse_walk.specs.declared.EllipsePart.{EllipsePart}
use Rattle.ellipse_walk.specs.declared.EllipsePart.TheVariants.{Nothing, At}
use Rattle.ellipse_walk.specs.Walk.{parts_of}

pub parts_at : (a b : ℕ) → parts_of (At a b) ≡ part a b ∷ []
unfolding parts_of
parts_at a b = refl

module _ (st h : ℕ) (edge : Edge) (x y : ℕ) (fill : Bool) (d : DrawMode) (s e : List ℕ) where
  pub step-drawn : {a b : ℕ} {q : EllipsePart} → q ≡ At a b → e ≡ draw st (seen st h (part_writes st h edge x y fill d (part a b))) s
      → e ≡ painted st h edge x y fill d (parts_of q) s
  unfolding parts_of
  step-drawn {a} {b} p k = rw p (k ∙ sym (painted_one st h edge x y fill d (part a b) s))

  pub step-none : {q : EllipsePart} → q ≡ Nothing → s ≡ painted st h edge x y fill d (parts_of q) s
  unfolding parts_of
  step-none p = rw p (sym (painted-none st h edge x y fill d s))

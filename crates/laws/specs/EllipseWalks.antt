-- What is drawn along the walk of an ellipse: what is left of it, drawn on what stands, gives the whole.
use Rattle.std.specs.Prelude.{◌≡◌, Bool, true, cond}
use Rattle.std.proofs.Math.Path.{refl, ap}
use Rattle.std.proofs.Common.{sym, ◌∙◌, arith}
use Rattle.std.proofs.Math.Bool.{false}
use mathlib.Core.List.{List, [], ◌∷◌, ◌++◌, append-nil, append_assoc}
use Prim.Native.Nat.{ℕ, suc, ◌+◌, ◌-◌, ◌≤◌, ◌<◌, max, ◌/◌}
use Rattle.model.specs.Ellipses.{Walk, start, step, Part, step_parts, ended, parts_from, most_steps, parts, part, part_writes, parts_writes}
use Rattle.model.specs.declared.Edge.{Edge}
use Rattle.model.specs.declared.DrawMode.{DrawMode}
use Rattle.model.specs.Pixels.{PixelWrite, draw, seen}
use Rattle.laws.specs.Tests.{by_test, either, clash}
use Rattle.laws.specs.Writes.{drawn-append}
use Rattle.laws.specs.Ellipses.{Radii, OnWay, on_start, next}

-- what some parts leave on a screen
abbrev pub painted : ℕ → ℕ → Edge → ℕ → ℕ → Bool → DrawMode → List Part → List ℕ → List ℕ
painted st h edge x y fill d qs s = draw st (seen st h (parts_writes st h edge x y fill d qs)) s

-- the steps that are left, from f of both axes
abbrev steps_left : ℕ → Walk → ℕ
steps_left r w = (w.x.f + 1) / 2 + (r - w.y.f / 2)

left_is : (r rx ry n : ℕ) (w : Walk) → OnWay r rx ry n w → steps_left r w ≡ n
left_is r rx ry n w o = omega (arith, o.walking.x.f, o.walking.y.f)

module _ (st h : ℕ) (edge : Edge) (x y : ℕ) (fill : Bool) (d : DrawMode) where
  writes_append : (ps qs : List Part) → parts_writes st h edge x y fill d (ps ++ qs) ≡ parts_writes st h edge x y fill d ps ++ parts_writes st h edge x y fill d qs
  unfolding parts_writes
  writes_append [] qs = refl
  writes_append (p ∷ ps) qs = cc (writes_append ps qs, append_assoc _ _ _)

  painted-append : (ps qs : List Part) (s : List ℕ) → painted st h edge x y fill d (ps ++ qs) s ≡ painted st h edge x y fill d qs (painted st h edge x y fill d ps s)
  painted-append ps qs s = cc (writes_append ps qs, drawn-append st h _ _ s)

  -- one part, or none
  pub painted_one : (q : Part) (s : List ℕ) → painted st h edge x y fill d (q ∷ []) s ≡ draw st (seen st h (part_writes st h edge x y fill d q)) s
  unfolding parts_writes
  painted_one q s = ap (λ (l : List PixelWrite). draw st (seen st h l) s) (append-nil (part_writes st h edge x y fill d q))

  pub painted-none : (s : List ℕ) → painted st h edge x y fill d [] s ≡ s
  unfolding parts_writes seen draw
  painted-none s = refl

-- at w, with s on the screen, the parts that are left make it t
pub record Painting (st h : ℕ) (edge : Edge) (x y r rx ry : ℕ) (fill : Bool) (d : DrawMode) (w : Walk) (s t : List ℕ) : Type 0 where
  pub most : ℕ
  pub left : ℕ
  pub way : OnWay r rx ry left w
  pub enough : left ≤ most
  pub rest : painted st h edge x y fill d (parts_from most r rx ry w) s ≡ t

-- with ps still to be drawn, which are the last where b says so
pub record LeftToDraw (st h : ℕ) (edge : Edge) (x y r rx ry : ℕ) (fill : Bool) (d : DrawMode) (b : Bool) (w : Walk) (ps : List Part) (s t : List ℕ) : Type 0 where
  pub last : b ≡ true → painted st h edge x y fill d ps s ≡ t
  pub more : b ≡ false → Painting st h edge x y r rx ry fill d w (painted st h edge x y fill d ps s) t

-- the turns that are left then
abbrev pub turns_left : ℕ → Bool → Walk → ℕ
turns_left r b w = cond b 0 (suc (steps_left r w))

module _ (st h : ℕ) (edge : Edge) (x y r rx ry : ℕ) (fill : Bool) (d : DrawMode) where
  -- the walk begins, with the first part still to be drawn
  pub painting_starts : Radii r rx ry → {w : Walk} {ps : List Part} (s : List ℕ) → r ≡ max rx ry → w ≡ start r rx → ps ≡ part rx 0 ∷ []
      → LeftToDraw st h edge x y r rx ry fill d false w ps s (painted st h edge x y fill d (parts rx ry) s)
  unfolding parts
  painting_starts q {w} s m f g =
      let t = painted-append st h edge x y fill d (part rx 0 ∷ []) (parts_from most_steps r rx ry (start r rx)) s in
      record { last = λ z. clash false z refl; more = λ z. rw (f, g) (record { most = most_steps; left = r + r; way = on_start r rx ry q; enough = omega arith; rest = cc }) }

  -- a step's parts drawn, the rest is left
  turned-rest : (w : Walk) (s e t : List ℕ) (k : Painting st h edge x y r rx ry fill d w s t) → e ≡ painted st h edge x y fill d (step_parts r rx ry w) s
      → painted st h edge x y fill d (cond (ended (step r rx ry w)) [] (parts_from (k.most - 1) r rx ry (step r rx ry w))) e ≡ t
  unfolding parts_from
  turned-rest w s e t k p =
      let n : k.most ≡ suc (k.most - 1) = omega (arith, k.enough, k.way.left) in
      cc (painted-append st h edge x y fill d _ _ s)

  painting_turn : Radii r rx ry → (w : Walk) (s e t : List ℕ) → Painting st h edge x y r rx ry fill d w s t
      → e ≡ painted st h edge x y fill d (step_parts r rx ry w) s → ended (step r rx ry w) ≡ false
      → Painting st h edge x y r rx ry fill d (step r rx ry w) e t × (steps_left r (step r rx ry w) < steps_left r w)
  painting_turn q w s e t k p f =
      either (next r rx ry q k.left w k.way) (λ g. clash (ended (step r rx ry w)) g.0 f)
      (λ g. (
        record { most = k.most - 1; left = g.0; way = g.3; enough = omega (arith, k.enough, g.2); rest = rw f at (turned-rest w s e t k p) },
        omega (arith, left_is r rx ry k.left w k.way, left_is r rx ry g.0 (step r rx ry w) g.3, g.2),
      ))

  painting_end : (w : Walk) (s e t : List ℕ) → Painting st h edge x y r rx ry fill d w s t
      → e ≡ painted st h edge x y fill d (step_parts r rx ry w) s → ended (step r rx ry w) ≡ true → e ≡ t
  painting_end w s e t k p f = sym (painted-none st h edge x y fill d e) ∙ (rw f at (turned-rest w s e t k p))

  -- the same of what the code has: ps are drawn and were not the last, and a step gave v and qs
  module _ (q : Radii r rx ry) {w v : Walk} {ps qs : List Part} {b c : Bool} {s e t : List ℕ} (k : LeftToDraw st h edge x y r rx ry fill d b w ps s t)
      (p : e ≡ painted st h edge x y fill d ps s) (n : b ≡ false) (f : v ≡ step r rx ry w) (g : qs ≡ step_parts r rx ry w) (o : c ≡ ended v) where
    painting_now : Painting st h edge x y r rx ry fill d w e t
    painting_now = rw p (k.more n)

    drawn_so : painted st h edge x y fill d qs e ≡ painted st h edge x y fill d (step_parts r rx ry w) e
    drawn_so = ap (λ (l : List Part). painted st h edge x y fill d l e) g

    pub painting-steps : LeftToDraw st h edge x y r rx ry fill d c v qs e t
    painting-steps = record {
      last = λ z. painting_end w e _ t painting_now drawn_so (sym (o ∙ ap ended f) ∙ z);
      more = λ z. rw f (painting_turn q w e _ t painting_now drawn_so (sym (o ∙ ap ended f) ∙ z)).0;
    }

    pub painting_less : turns_left r c v < turns_left r b w
    painting_less =
        by_test c (λ z. rw (z, n) (omega arith)) (λ z. rw (z, n, f) (omega (arith, (painting_turn q w e _ t painting_now drawn_so (sym (o ∙ ap ended f) ∙ z)).1)))

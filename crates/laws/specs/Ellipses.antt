-- The walk of an ellipse, of radii rx and ry of which r is the larger. With p steps along x left and j steps along y done, fxy with its sign is
-- p * p + j * j - r * r: the walk keeps to the circle of radius r, and tmp follows at the scale of each radius.
-- So it ends, after a known number of steps, and none of its parts exceeds a radius.
use Rattle.std.specs.Prelude.{◌≡◌, ◌⊎◌, Bool, cond, ◌&&◌, List, [], ◌∷◌, ◌++◌, ltb, leb, eqb}
use Rattle.std.proofs.Math.Path.{refl, ap}
use Rattle.std.proofs.Common.{sym, ◌∙◌, le_of_mul-le-mul_right, mul-le-mul_right, lt-ltb, le-ltb, eq-eqb, eqb-true, le-leb, leb-true}
use Rattle.std.proofs.Math.Logic.{inl, inr}
use Rattle.std.proofs.Math.Bool.{true, false, not}
use Prim.Native.Nat.{ℕ, zero, suc, ◌+◌, ◌-◌, ◌*◌, ◌%◌, ◌≤◌, ◌<◌, max}
use Rattle.std.proofs.Math.Nat.{mul-le-mul, le_refl}
use native.Mathlib.Omega.{arith}
use Rattle.model.specs.Ellipses.{Axis, Walk, start, fed, moves, advanced, turns, turned, apart, x_step, y_step, step, early, x_parts, y_parts, Part, step_parts, ended, parts_from, steps_from, most_steps, parts, steps}
use Rattle.laws.specs.Tests.{tests, by_test, by_lt, either, if_cases, and-true, and-false}
use Rattle.laws.specs.Pixels.{Each}

-- ---- one axis

-- where tmp of x stands with p steps left
pub record AtX (r rx p : ℕ) (a : Axis) : Type 0 where
  pub delta : a.delta < r
  pub tmp : a.tmp ≤ rx
  pub on : a.delta + p * rx ≡ a.tmp * r

-- the x axis with p steps left
pub record OnX (r rx p : ℕ) (a : Axis) : Type 0 where
  pub f : a.f + 1 ≡ 2 * p
  pub neg : a.neg ≡ true
  pub inc : a.inc ≡ 255
  pub at : AtX r rx p a

-- the y axis with j steps done
pub record OnY (r ry j : ℕ) (a : Axis) : Type 0 where
  pub f : a.f ≡ 2 * j + 1
  pub neg : a.neg ≡ false
  pub inc : a.inc ≡ 1
  pub delta : a.delta < r
  pub tmp : a.tmp ≤ ry
  pub on : a.delta + a.tmp * r ≡ j * ry

-- tmp moves, or not
abbrev Reaches : ℕ → ℕ → Axis → Type 0
Reaches r radius a = (r ≤ a.delta + radius) × ((advanced r radius a).delta + r ≡ a.delta + radius) × ((advanced r radius a).tmp ≡ (a.tmp + a.inc) % 256)

abbrev Stays : ℕ → ℕ → Axis → Type 0
Stays r radius a = (a.delta + radius < r) × ((advanced r radius a).delta ≡ a.delta + radius) × ((advanced r radius a).tmp ≡ a.tmp)

-- up to 127 no sum wraps, and the signed test is a plain one: tmp moves where delta reaches r
moved : (r radius : ℕ) (a : Axis) → a.delta < r → radius ≤ r → r ≤ 127 → Reaches r radius a ⊎ Stays r radius a
unfolding advanced moves
moved r radius a d l h = by_test (ltb ((fed radius a + 256 - r) % 256) 128) (λ e. rw e (inl (omega (arith, tests)))) (λ e. rw e (inr (omega (arith, tests))))

x_moved : (r rx p : ℕ) (a : Axis) → OnX r rx (suc p) a → 0 < r → rx ≤ r → r ≤ 127 → AtX r rx p (advanced r rx a)
x_moved r rx p a o z l h =
    either (moved r rx a o.at.delta l h)
    (λ m. by_lt 0 a.tmp
    (λ s. let e : suc (advanced r rx a).tmp ≡ a.tmp = omega arith in omega (arith, ap (λ (t : ℕ). t * r) e))
    (λ s. let e : a.tmp ≡ 0 = omega arith in absurd (omega (arith, ap (λ (t : ℕ). t * r) e))))
    (λ m. rw (m.1, m.2) (omega arith))

-- the last step along x brings tmp to 0
x_last : (r rx : ℕ) (a : Axis) → OnX r rx 1 a → 0 < r → rx ≤ r → r ≤ 127 → (advanced r rx a).tmp ≡ 0
x_last r rx a o z l h =
    let m = x_moved r rx 0 a o z l h in
    by_lt 0 (advanced r rx a).tmp (λ s. absurd (omega (arith, mul-le-mul_right {m = 1} {n = (advanced r rx a).tmp} r s))) (λ s. omega arith)

x_on : (r rx p : ℕ) (a : Axis) → OnX r rx (suc (suc p)) a → 0 < r → rx ≤ r → r ≤ 127 → OnX r rx (suc p) (advanced r rx a)
unfolding advanced
x_on r rx p a o z l h =
    let big : ltb 2 a.f ≡ true = lt-ltb 2 a.f (omega arith) in
    record { f = rw (o.neg, big) (omega arith); neg = rw (o.neg, big); inc = o.inc; at = x_moved r rx (suc p) a o z l h }

-- and y stays where it is
x_straight : (r rx p : ℕ) (a : Axis) → OnX r rx (suc (suc p)) a → turns (advanced r rx a) ≡ false
unfolding turns advanced
x_straight r rx p a o = let big : ltb 2 a.f ≡ true = lt-ltb 2 a.f (omega arith) in rw (o.neg, big)

y_on : (r ry j : ℕ) (a : Axis) → OnY r ry j a → j < r → ry ≤ r → r ≤ 127 → OnY r ry (suc j) (advanced r ry a)
unfolding advanced
y_on r ry j a o z l h =
    let k : ((advanced r ry a).delta < r) × ((advanced r ry a).delta + (advanced r ry a).tmp * r ≡ suc j * ry) =
    either (moved r ry a o.delta l h)
    (λ m. let e : (advanced r ry a).tmp ≡ suc a.tmp = omega arith in omega (arith, ap (λ (t : ℕ). t * r) e))
    (λ m. omega (arith, ap (λ (t : ℕ). t * r) m.2)) in
    let t : (advanced r ry a).tmp ≤ ry = le_of_mul-le-mul_right {k = r} (omega (arith, mul-le-mul z (le_refl ry))) (omega arith) in
    record { f = rw o.neg (omega arith); neg = rw o.neg; inc = o.inc; delta = k.0; tmp = t; on = k.1 }

y_straight : (r ry j : ℕ) (a : Axis) → OnY r ry j a → j < r → r ≤ 127 → turns (advanced r ry a) ≡ false
unfolding turns advanced
y_straight r ry j a o l h = let big : ltb ((a.f + 2) % 256) 3 ≡ false = le-ltb ((a.f + 2) % 256) 3 (omega arith) in rw (o.neg, big)

-- ---- the walk

-- the radii that RADIUS lets pass, not both 0
pub record Radii (r rx ry : ℕ) : Type 0 where
  pub some : 0 < r
  pub x : rx ≤ r
  pub y : ry ≤ r
  pub most : r ≤ 127

-- fxy m with its sign is p * p + j * j - r * r
abbrev pub Circle : Bool → ℕ → ℕ → ℕ → ℕ → Type 0
Circle true m p j r = (0 < m) × (m + (p * p + j * j) ≡ r * r)
Circle false m p j r = m + r * r ≡ p * p + j * j

-- the state with p steps along x left and j steps along y done
pub record Walking (r rx ry p j : ℕ) (w : Walk) : Type 0 where
  pub x : OnX r rx p w.x
  pub y : OnY r ry j w.y
  pub circle : Circle w.neg w.fxy p j r

-- fxy after a step along x from p + 1, along y from j
x_circle : (m f p j r : ℕ) → f + 1 ≡ 2 * suc p → Circle false m (suc p) j r → Circle (ltb m f) (apart m f) p j r
x_circle m f p j r e c = by_test (ltb m f) (λ t. rw t (omega (arith, tests))) (λ t. rw t (omega (arith, tests)))

y_circle : (m f p j r : ℕ) → f ≡ 2 * j + 1 → Circle true m p j r → Circle (ltb f m) (apart f m) p (suc j) r
y_circle m f p j r e c = by_test (ltb f m) (λ t. rw t (omega (arith, tests))) (λ t. rw t (omega (arith, tests)))

-- at most n steps are left
pub record OnWay (r rx ry n : ℕ) (w : Walk) : Type 0 where
  pub p : ℕ
  pub j : ℕ
  pub walking : Walking r rx ry (suc p) j w
  pub left : n ≡ suc p + (r - j)

-- the next step is the last, and then n is 1 unless rx is 0 or r is 1; or one fewer are left
abbrev Next : ℕ → ℕ → ℕ → ℕ → Walk → Type 0
Next r rx ry n w =
    ((ended (step r rx ry w) ≡ true) × (0 < rx → 2 ≤ r → n ≡ 1))
    ⊎ ((m : ℕ) × (ended (step r rx ry w) ≡ false) × (n ≡ suc m) × OnWay r rx ry m (step r rx ry w))

step_is : (r rx ry : ℕ) (w : Walk) {t : Bool} → w.neg ≡ t → step r rx ry w ≡ cond t (y_step r ry w) (x_step r rx w)
unfolding step
step_is r rx ry w e = ap (λ (t : Bool). cond t (y_step r ry w) (x_step r rx w)) e

abbrev pub Inner : ℕ → ℕ → Part → Type 0
Inner rx ry q = (q.a ≤ rx) × (q.b ≤ ry)

abbrev AllInner : ℕ → ℕ → List Part → Type 0
AllInner rx ry = Each (Inner rx ry)

each_append : {A : Type 0} (P : A → Type 0) (l m : List A) → Each P l → Each P m → Each P (l ++ m)
each_append P [] m a b = b
each_append P (x ∷ l) m a b = (a.0, each_append P l m a.1 b)

pub on_start : (r rx ry : ℕ) → Radii r rx ry → OnWay r rx ry (r + r) (start r rx)
unfolding start
on_start zero rx ry q = absurd (omega arith)
on_start (suc p) rx ry q = record {
  p = p;
  j = 0;
  walking = record {
    x = record { f = omega arith; neg = refl; inc = refl; at = omega arith };
    y = record { f = omega arith; neg = refl; inc = refl; delta = omega arith; tmp = omega arith; on = omega arith };
    circle = omega arith;
  };
  left = omega arith;
}

module _ (r rx ry : ℕ) (q : Radii r rx ry) where
  -- ---- one step

  -- along y: only before r
  step_y : (p j : ℕ) (w : Walk) → Walking r rx ry (suc p) j w → w.neg ≡ true → (j < r) × Walking r rx ry (suc p) (suc j) (y_step r ry w)
  unfolding y_step turned
  step_y p j w k n =
      let c : Circle true w.fxy (suc p) j r = rw n at k.circle in
      let l : j < r = by_lt j r (λ l. l) (λ l. absurd (omega (arith, mul-le-mul l l))) in (
        l,
        rw (y_straight r ry j w.y k.y l q.most)
            (record { x = k.x; y = y_on r ry j w.y k.y l q.y q.most; circle = y_circle w.fxy w.y.f (suc p) j r k.y.f c }),
      )

  step_x : (p j : ℕ) (w : Walk) → Walking r rx ry (suc (suc p)) j w → w.neg ≡ false → Walking r rx ry (suc p) j (x_step r rx w)
  unfolding x_step turned
  step_x p j w k n =
      rw (x_straight r rx p w.x k.x)
      (record { x = x_on r rx p w.x k.x q.some q.x q.most; y = k.y; circle = x_circle w.fxy w.x.f (suc p) j r k.x.f (rw n at k.circle) })

  -- tmp is 0 with a step along x left only where rx is 0
  goes_on : (n p j : ℕ) (w : Walk) → Walking r rx ry (suc p) j (step r rx ry w) → n ≡ suc (suc p + (r - j)) → Next r rx ry n w
  unfolding ended
  goes_on n p j w k e =
      by_test (eqb (step r rx ry w).x.tmp 0)
      (λ t. inl (t, λ z h. absurd (omega (arith, k.x.at.on, ap (λ (s : ℕ). s * r) (eqb-true (step r rx ry w).x.tmp 0 t)))))
      (λ t. inr (suc p + (r - j), t, e, record { p = p; j = j; walking = k; left = refl }))

  -- a step along x, from p + 1: the last where p is 0, with no step along y left unless r is 1
  next_x : (n p j : ℕ) (w : Walk) → Walking r rx ry (suc p) j w → n ≡ suc p + (r - j) → w.neg ≡ false → Next r rx ry n w
  unfolding x_step ended
  next_x n zero j w k l e =
      let c : Circle false w.fxy 1 j r = rw e at k.circle in
      inl (
        rw (step_is r rx ry w e) (eq-eqb _ 0 (x_last r rx w.x k.x q.some q.x q.most)),
        λ z h. by_lt j r (λ s. absurd (omega (arith, mul-le-mul s (le_refl r), mul-le-mul (le_refl j) s))) (λ s. omega arith),
      )
  next_x n (suc p) j w k l e = goes_on n p j w (rw (step_is r rx ry w e) (step_x p j w k e)) (omega arith)

  next_y : (n p j : ℕ) (w : Walk) → Walking r rx ry (suc p) j w → n ≡ suc p + (r - j) → w.neg ≡ true → Next r rx ry n w
  next_y n p j w k l e = let s = step_y p j w k e in goes_on n p (suc j) w (rw (step_is r rx ry w e) s.1) (omega arith)

  pub next : (n : ℕ) (w : Walk) → OnWay r rx ry n w → Next r rx ry n w
  next n w o = by_test w.neg (next_y n o.p o.j w o.walking o.left) (next_x n o.p o.j w o.walking o.left)

  -- ---- how many steps

  counted : 0 < rx → 2 ≤ r → (k n : ℕ) (w : Walk) → OnWay r rx ry n w → n ≤ k → steps_from k r rx ry w ≡ n
  unfolding steps_from
  counted z h zero n w o l = omega arith
  counted z h (suc k) n w o l =
      either (next n w o) (λ g. rw g.0 (sym (g.1 z h))) (λ g. rw g.1 (omega (arith, counted z h k g.0 (step r rx ry w) g.3 (omega (arith, g.2)), g.2)))

  -- where r is 1 or rx is 0, the first step is the last
  once : (k : ℕ) → (r ≤ 1) ⊎ (rx ≤ 0) → steps_from (suc k) r rx ry (start r rx) ≡ 1
  unfolding steps_from step x_step ended start
  once k c =
      let a = (start r rx).x in
      let i : (a.delta ≡ 0) × (a.tmp ≡ rx) × (a.inc ≡ 255) = (refl, refl, refl) in
      let m = moved r rx a q.some q.x q.most in
      let e : (advanced r rx a).tmp ≡ 0 = either c (λ l. either m (λ s. omega arith) (λ s. omega arith)) (λ l. either m (λ s. omega arith) (λ s. omega arith)) in
      rw e

  -- ---- no part exceeds a radius

  step-parts : (n : ℕ) (w : Walk) → OnWay r rx ry n w → AllInner rx ry (step_parts r rx ry w)
  unfolding step_parts x_parts y_parts y_step
  step-parts n w o =
      let k = o.walking in
      if_cases (AllInner rx ry) w.neg
      (λ e. if_cases (AllInner rx ry) (moves r ry w.y)
      (λ t. (
        (if_cases (λ (a : ℕ). a ≤ rx) (early w.started (advanced r ry w.y).tmp) (λ d. le_refl rx) (λ d. k.x.at.tmp), (step_y o.p o.j w k e).1.y.tmp),
        tt,
      )) (λ t. tt))
      (λ e. if_cases (AllInner rx ry) (moves r rx w.x && not (eqb (((advanced r rx w.x).tmp + 1) % 256) rx))
      (λ t. (((x_moved r rx o.p w.x k.x q.some q.x q.most).tmp, k.y.tmp), tt)) (λ t. tt))

  parts-from : (k n : ℕ) (w : Walk) → OnWay r rx ry n w → AllInner rx ry (parts_from k r rx ry w)
  unfolding parts_from
  parts-from zero n w o = tt
  parts-from (suc k) n w o =
      each_append (Inner rx ry) (step_parts r rx ry w) _ (step-parts n w o)
      (either (next n w o) (λ g. rw g.0 tt) (λ g. rw g.1 (parts-from k g.0 (step r rx ry w) g.3)))

-- the radii of an ellipse that is walked
pub record Round (rx ry : ℕ) : Type 0 where
  pub x : rx ≤ 127
  pub y : ry ≤ 127
  pub some : 0 < max rx ry

pub radii : (rx ry : ℕ) {r : ℕ} → r ≡ max rx ry → Round rx ry → Radii r rx ry
radii rx ry e o = omega arith

-- twice the larger radius if that is at least 2 and the horizontal radius at least 1, else 1
abbrev pub step_count : ℕ → ℕ → ℕ
step_count rx ry = cond (leb 2 (max rx ry) && leb 1 rx) (2 * max rx ry) 1

pub steps_are : (rx ry : ℕ) → Round rx ry → steps rx ry ≡ step_count rx ry
unfolding steps
steps_are rx ry o =
    let r = max rx ry in
    let q = radii rx ry refl o in
    if_cases (λ (n : ℕ). steps rx ry ≡ n) (leb 2 r && leb 1 rx)
    (λ e. let p = and-true (leb 2 r) (leb 1 rx) e in
    counted r rx ry q (leb-true 1 rx p.1) (leb-true 2 r p.0) (suc most_steps) (r + r) (start r rx) (on_start r rx ry q) (omega arith) ∙ omega arith)
    (λ e. once r rx ry q most_steps (either (and-false (leb 2 r) (leb 1 rx) e) (λ f. inl (omega (arith, tests))) (λ f. inr (omega (arith, tests)))))

-- so ENDLESS is never due
pub never_endless : (rx ry : ℕ) → Round rx ry → leb (steps rx ry) most_steps ≡ true
never_endless rx ry o =
    rw (steps_are rx ry o)
    (if_cases (λ (n : ℕ). leb n most_steps ≡ true) (leb 2 (max rx ry) && leb 1 rx) (λ e. le-leb (2 * max rx ry) most_steps (omega arith)) (λ e. refl))

pub parts_in : (rx ry : ℕ) → Round rx ry → Each (Inner rx ry) (parts rx ry)
unfolding parts
parts_in rx ry o =
    let r = max rx ry in
    let q = radii rx ry refl o in
    (omega arith, parts-from r rx ry q most_steps (r + r) (start r rx) (on_start r rx ry q))

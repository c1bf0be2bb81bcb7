-- Lines that are neither horizontal nor vertical, and `draw_line`, which draws a horizontal, a vertical, a sloped line or nothing. No pixel of a sloped line
-- lies outside the box of its ends, though the error sums wrap: after k turns a coordinate with distance `dist` has made s steps, and its error sum e has
-- e + m * s ≤ k * dist, where m is the longer distance: a turn adds dist to the sum, a step takes m from it, and a wrap takes 256 and makes no step. So at the
-- pixels, where k ≤ m, s is at most dist.
use Rattle.std.specs.Prelude.{◌≡◌, refl, true, false, Bool, cond, List, ◌∷◌, [], leb, ltb, eqb}
use Rattle.std.proofs.Common.{sym, ◌∙◌, inl, mul-le-mul_left, mul-le-mul_right, add-one}
use Prim.Native.Nat.{ℕ, zero, suc, ◌+◌, ◌-◌, ◌*◌, ◌≤◌, ◌<◌, min, ◌%◌, max}
use native.Mathlib.Omega.{arith}
use borrow.Author.Tests.{lt-ltb, le-ltb, leb-true, le-leb, eq-eqb, ne_eqb}
use Rattle.model.specs.declared.Edge.{Edge}
use Rattle.model.specs.declared.DrawMode.{DrawMode}
use Rattle.model.specs.Pixels.{draw, seen}
use Rattle.model.specs.Lines.{is_unknown, span_rect, horizontal_line, vertical_line, Slope, slope_of, error_sum, stepped, next_error, slope, sloped, sloped_line, line}
use Rattle.model.specs.declared.Rect.{Rect}
use Rattle.model.specs.declared.Marks.{Marks}
use Rattle.model.specs.Rects.{fits, none}
use Rattle.model.specs.Marks.{within, drawn, drawn_on, Drawing, Drawn, owes}
use Rattle.model.specs.Points.{point_write}
use Rattle.laws.specs.Tests.{tests, by_test, by_lt, if_cases}
use Rattle.laws.specs.Rects.{fits_passes}
use Rattle.laws.specs.Writes.{within_none, within_more, drawn_is, drawn-append, OwesItsMark, owes_mark}
use Rattle.laws.specs.Points.{both}
use Rattle.laws.specs.Lines.{span_fits, horizontal-within, vertical-within}

pub record Error (m dist k e s : ℕ) : Type 0 where
  pub below : e < m
  pub paid : e + m * s ≤ k * dist

pub error_turn : (m dist k e s : ℕ) → m < 256 → dist ≤ m → Error m dist k e s
    → Error m dist (suc k) (next_error m e dist) (stepped m e dist (s + 1) s)
unfolding next_error stepped
error_turn m dist k e s hm hd r = by_test (leb m (error_sum e dist)) (λ t. rw t (omega (arith, tests))) (λ t. rw t (omega (arith, tests)))

pub steps-le : (m dist k e s : ℕ) → k ≤ m → Error m dist k e s → s ≤ dist
steps-le m dist k e s hk r =
    by_lt dist s (λ l. absurd (omega (arith, mul-le-mul_left {m = suc dist} {n = s} m l, mul-le-mul_right dist hk))) (λ l. l)

-- a choice made inside a sum is a choice of sums
stepped_by : (m e dist : ℕ) (f : ℕ → ℕ) (a b : ℕ) {c : ℕ} → c ≡ f a → stepped m e dist c (f b) ≡ f (stepped m e dist a b)
unfolding stepped
stepped_by m e dist f a b k = by_test (leb m (error_sum e dist)) (λ t. rw t k) (λ t. rw t)

-- `at u` is the line after u steps
module _ (p : Slope) (r : Rect) (x1 : ℕ) (at : ℕ → ℕ) (d : DrawMode)
    (small : p.dist_max < 256) (hx : p.dist_x ≤ p.dist_max) (hy : p.dist_y ≤ p.dist_max)
    (from : r.left ≤ x1) (upto : x1 + p.dist_x < r.right)
    (step : (u : ℕ) → (at u + p.inc_y) % 256 ≡ at (u + 1))
    (reach : (u : ℕ) → u ≤ p.dist_y → (r.top ≤ at u) × (at u < r.bottom)) where
  slope-within : (n k s u ex ey : ℕ) → k + n ≡ suc p.dist_max → Error p.dist_max p.dist_x k ex s → Error p.dist_max p.dist_y k ey u
      → within r (slope p n (x1 + s) (at u) ex ey d) ≡ true
  unfolding slope
  slope-within zero k s u ex ey e a b = within_none r
  slope-within (suc n) k s u ex ey e a b =
      let m = p.dist_max in
      let l : s ≤ p.dist_x = steps-le m p.dist_x k ex s (omega arith) a in
      let i = reach u (steps-le m p.dist_y k ey u (omega arith) b) in
      let next : x1 + s + 1 ≡ x1 + (s + 1) = omega arith in
      within_more r _ _ (omega arith)
      (rw (stepped_by m ex p.dist_x (λ z. x1 + z) (s + 1) s next, stepped_by m ey p.dist_y at (u + 1) u (step u))
      (slope-within n (suc k) _ _ _ _ (omega arith) (error_turn m p.dist_x k ex s small hx a) (error_turn m p.dist_y k ey u small hy b)))

  pub slope-box : (y1 : ℕ) → 0 < p.dist_max → y1 ≡ at 0 → within r (slope p (suc p.dist_max) x1 y1 0 0 d) ≡ true
  slope-box y1 o e = let q : x1 ≡ x1 + 0 = omega arith in cc (slope-within (suc p.dist_max) 0 0 0 0 0 (omega arith) (omega arith) (omega arith))

-- in one of the two directions: u steps of 255 are u steps back
pub sloped-within : (x1 y1 x2 y2 : ℕ) (d : DrawMode) → x1 < x2 → x2 < 256 → y1 < 256 → y2 < 256
    → within (span_rect x1 (min y1 y2) x2 (max y1 y2)) (sloped x1 y1 x2 y2 d) ≡ true
unfolding sloped
sloped-within x1 y1 x2 y2 d o hx h1 h2 =
    by_lt y1 y2
    (λ l. slope-box (slope_of x1 y1 x2 y2) (span_rect x1 (min y1 y2) x2 (max y1 y2)) x1 (λ u. (y1 + u) % 256) d
    (omega arith) (omega arith) (omega arith) (omega arith) (omega arith)
    (λ u. rw (lt-ltb y1 y2 l) (omega arith)) (λ u k. omega arith) y1 (omega arith) (omega arith))
    (λ l. slope-box (slope_of x1 y1 x2 y2) (span_rect x1 (min y1 y2) x2 (max y1 y2)) x1 (λ u. (y1 + 255 * u) % 256) d
    (omega arith) (omega arith) (omega arith) (omega arith) (omega arith)
    (λ u. rw (le-ltb y1 y2 l) (omega arith)) (λ u k. let e : (y1 + 255 * u) % 256 ≡ y1 - u = omega arith in omega arith) y1 (omega arith) (omega arith))

-- ---- the choice, as the code makes it

pub step_taken : (m e dist next now : ℕ) {t : Bool} {r : ℕ} → t ≡ leb m (error_sum e dist) → t ≡ true → r ≡ next → r ≡ stepped m e dist next now
unfolding stepped
step_taken m e dist next now p q r = let k : leb m (error_sum e dist) ≡ true = sym p ∙ q in rw k r

pub step_left : (m e dist next now : ℕ) {t : Bool} {r : ℕ} → t ≡ leb m (error_sum e dist) → t ≡ false → r ≡ now → r ≡ stepped m e dist next now
unfolding stepped
step_left m e dist next now p q r = let k : leb m (error_sum e dist) ≡ false = sym p ∙ q in rw k r

-- a step goes no further than one place
pub step-le : (m e dist x : ℕ) {r : ℕ} → r ≡ stepped m e dist (x + 1) x → r ≤ x + 1
unfolding stepped
step-le m e dist x {r} p = by_test (leb m (error_sum e dist)) (λ t. let q : r ≡ x + 1 = rw t at p in omega arith) (λ t. let q : r ≡ x = rw t at p in omega arith)

-- the error sum, where the difference does not wrap
pub error_taken : (m e dist : ℕ) {t : Bool} {a r : ℕ} → r < 256 → t ≡ leb m (error_sum e dist) → t ≡ true → a ≡ error_sum e dist → (r + m) % 256 ≡ a → r ≡ next_error m e dist
unfolding next_error
error_taken m e dist hr p q k w =
    let l : m ≤ error_sum e dist = leb-true m (error_sum e dist) (sym p ∙ q) in
    step_taken m e dist (error_sum e dist - m) (error_sum e dist) p q (omega arith)

pub error_left : (m e dist : ℕ) {t : Bool} {a : ℕ} → t ≡ leb m (error_sum e dist) → t ≡ false → a ≡ error_sum e dist → a ≡ next_error m e dist
unfolding next_error
error_left m e dist p q k = step_left m e dist (error_sum e dist - m) (error_sum e dist) p q k

-- the sum of the longer distance: its coordinate steps in every turn, and it is 0 again
pub longer_steps : (m next now : ℕ) → m < 256 → next ≡ stepped m 0 m next now
unfolding stepped
longer_steps m next now h = let e : leb m (error_sum 0 m) ≡ true = le-leb m (error_sum 0 m) (omega arith) in rw e

pub longer_error : (m : ℕ) → m < 256 → 0 ≡ next_error m 0 m
unfolding next_error
longer_error m h = let e : error_sum 0 m - m ≡ 0 = omega arith in sym e ∙ longer_steps m (error_sum 0 m - m) (error_sum 0 m) h

-- ---- as the code draws it: what is left of the walk, drawn on what stands, gives the whole

abbrev pub slope_by : ℕ → ℕ → ℕ → ℕ → Slope
slope_by dx dy m inc = record { dist_x = dx; dist_y = dy; dist_max = m; inc_y = inc }

-- more across than down
pub slope_flat : (st h x1 y1 x2 y2 : ℕ) (d : DrawMode) (s e : List ℕ) {dy inc : ℕ} → dy ≡ max y1 y2 - min y1 y2 → inc ≡ cond (ltb y1 y2) 1 255 → dy ≤ x2 - x1
    → e ≡ draw st (seen st h (slope (slope_by (x2 - x1) dy (x2 - x1) inc) (x2 - x1 + 1) x1 y1 0 0 d)) s
    → e ≡ draw st (seen st h (sloped x1 y1 x2 y2 d)) s
unfolding sloped
slope_flat st h x1 y1 x2 y2 d s e {dy} {inc} p r o w =
    let k : x2 - x1 ≡ max (x2 - x1) (max y1 y2 - min y1 y2) = omega arith in
    cc (add-one (x2 - x1))

-- more down than across
pub slope_steep : (st h x1 y1 x2 y2 : ℕ) (d : DrawMode) (s e : List ℕ) {dy inc : ℕ} → dy ≡ max y1 y2 - min y1 y2 → inc ≡ cond (ltb y1 y2) 1 255 → x2 - x1 < dy
    → e ≡ draw st (seen st h (slope (slope_by (x2 - x1) dy dy inc) (dy + 1) x1 y1 0 0 d)) s
    → e ≡ draw st (seen st h (sloped x1 y1 x2 y2 d)) s
unfolding sloped
slope_steep st h x1 y1 x2 y2 d s e {dy} {inc} p r o w =
    let k : dy ≡ max (x2 - x1) (max y1 y2 - min y1 y2) = omega arith in
    cc (add-one dy)

pub slope_turn : (st h : ℕ) (p : Slope) (n x y ex ey : ℕ) (d : DrawMode) (s e t : List ℕ) {x' y' ex' ey' : ℕ} → 0 < n
    → e ≡ draw st (seen st h (point_write x y d ∷ [])) s
    → x' ≡ stepped p.dist_max ex p.dist_x (x + 1) x
    → y' ≡ stepped p.dist_max ey p.dist_y ((y + p.inc_y) % 256) y
    → ex' ≡ next_error p.dist_max ex p.dist_x
    → ey' ≡ next_error p.dist_max ey p.dist_y
    → draw st (seen st h (slope p n x y ex ey d)) s ≡ t
    → draw st (seen st h (slope p (n - 1) x' y' ex' ey' d)) e ≡ t
unfolding slope
slope_turn st h p n x y ex ey d s e t o w a b f g q = let l : n ≡ suc (n - 1) = omega arith in cc (drawn-append st h (point_write x y d ∷ []) _ s)

pub slope_end : (st h : ℕ) (p : Slope) (n x y ex ey : ℕ) (d : DrawMode) (s t : List ℕ) → n ≤ 0
    → draw st (seen st h (slope p n x y ex ey d)) s ≡ t → s ≡ t
unfolding slope seen draw
slope_end st h p n x y ex ey d s t o q = let z : n ≡ zero = omega arith in rw z at q

pub sloped-marked : (st h x1 y1 x2 y2 : ℕ) (d : DrawMode) (s e : List ℕ) {m : Marks} {a b : ℕ} → x1 < x2 → x2 < 256 → y1 < 256 → y2 < 256
    → a ≡ min y1 y2 → b ≡ max y1 y2 → m ≡ both (span_rect x1 a x2 b) → e ≡ draw st (seen st h (sloped x1 y1 x2 y2 d)) s
    → drawn m e ≡ drawn_on st h (sloped_line x1 y1 x2 y2 d) s
unfolding sloped_line
sloped-marked st h x1 y1 x2 y2 d s e o hx h1 h2 p q r w =
    drawn_is st h (sloped_line x1 y1 x2 y2 d) s e (sloped-within x1 y1 x2 y2 d o hx h1 h2) (r ∙ (λ i. both (span_rect x1 (p i) x2 (q i)))) w

-- `draw_line`: every line is horizontal, vertical, sloped or nothing; what holds of these holds of it.

-- ---- case by case, as the code tells the cases apart

module _ (st h : ℕ) (edge : Edge) (x1 y1 x2 y2 : ℕ) (d : DrawMode) (s : List ℕ) where
  pub line-horizontal : {a b : ℕ} {o : Drawn} → y1 ≡ y2 → a ≡ min x1 x2 → b ≡ max x1 x2 → o ≡ drawn_on st h (horizontal_line st h edge a b y1 d) s
      → o ≡ drawn_on st h (line st h edge x1 y1 x2 y2 d) s
  unfolding line
  line-horizontal e p q w = rw (eq-eqb y1 y2 e) (w ∙ (λ i. drawn_on st h (horizontal_line st h edge (p i) (q i) y1 d) s))

  pub line-unknown : {t : Bool} {m : Marks} → (y1 ≡ y2 → ⊥) → t ≡ is_unknown d → t ≡ true → m ≡ both none
      → drawn m s ≡ drawn_on st h (line st h edge x1 y1 x2 y2 d) s
  unfolding line drawn drawn_on owes within seen draw
  line-unknown n p q w = rw (ne_eqb y1 y2 n, ← p, q, w)

  pub line-vertical : {t : Bool} {a b : ℕ} {o : Drawn} → (y1 ≡ y2 → ⊥) → t ≡ is_unknown d → t ≡ false → x1 ≡ x2 → a ≡ min y1 y2 → b ≡ max y1 y2
      → o ≡ drawn_on st h (vertical_line x1 a b d) s → o ≡ drawn_on st h (line st h edge x1 y1 x2 y2 d) s
  unfolding line
  line-vertical n p q e k l w = rw (ne_eqb y1 y2 n, ← p, q, eq-eqb x1 x2 e) (w ∙ (λ i. drawn_on st h (vertical_line x1 (k i) (l i) d) s))

  -- from its left end on
  pub line_slopes : {t : Bool} {a b c e : ℕ} {o : Drawn} → (y1 ≡ y2 → ⊥) → t ≡ is_unknown d → t ≡ false → (x1 ≡ x2 → ⊥)
      → a ≡ min x1 x2 → b ≡ cond (ltb x2 x1) y2 y1 → c ≡ max x1 x2 → e ≡ cond (ltb x2 x1) y1 y2
      → o ≡ drawn_on st h (sloped_line a b c e d) s → o ≡ drawn_on st h (line st h edge x1 y1 x2 y2 d) s
  unfolding line
  line_slopes n p q k pa pb pc pe w =
      rw (ne_eqb y1 y2 n, ← p, q, ne_eqb x1 x2 k)
      (w ∙ (λ i. drawn_on st h (sloped_line (pa i) (pb i) (pc i) (pe i) d) s)
      ∙ by_lt x2 x1
      (λ l. let u : min x1 x2 ≡ x2 = omega arith in let v : max x1 x2 ≡ x1 = omega arith in rw (lt-ltb x2 x1 l, u, v))
      (λ l. let u : min x1 x2 ≡ x1 = omega arith in let v : max x1 x2 ≡ x2 = omega arith in rw (le-ltb x2 x1 l, u, v)))

-- ---- every line: its mark passes STATE, and no write lies outside what it owes

module _ (st h : ℕ) (edge : Edge) (x1 y1 x2 y2 : ℕ) (d : DrawMode) (hx1 : x1 < 256) (hy1 : y1 < 256) (hx2 : x2 < 256) (hy2 : y2 < 256) where
  -- both at once, case by case
  line_lies : (fits 256 0 256 (line st h edge x1 y1 x2 y2 d).dirty ≡ true) × (within (line st h edge x1 y1 x2 y2 d).owed (line st h edge x1 y1 x2 y2 d).writes ≡ true)
  unfolding line horizontal_line vertical_line sloped_line
  line_lies =
      if_cases P (eqb y1 y2)
      (λ e. (
        span_fits (min x1 x2) y1 (max x1 x2) y1 (omega arith) (omega arith) (omega arith) (omega arith),
        horizontal-within st h edge (span_rect (min x1 x2) y1 (max x1 x2) y1) (min x1 x2) (max x1 x2) y1 d (omega arith) (omega arith) (omega arith) (omega arith) (omega arith),
      ))
      (λ e. if_cases P (is_unknown d) (λ t. (fits_passes 256 0 256 none (inl refl), within_none none))
      (λ t. if_cases P (eqb x1 x2)
      (λ k. (
        span_fits x1 (min y1 y2) x1 (max y1 y2) (omega arith) (omega arith) (omega arith) (omega arith),
        vertical-within (span_rect x1 (min y1 y2) x1 (max y1 y2)) x1 (min y1 y2) (max y1 y2) d (omega arith) (omega arith) (omega arith) (omega arith) (omega arith),
      ))
      (λ k. if_cases P (ltb x2 x1) (λ l. slope_lies x2 y2 x1 y1 (omega (arith, tests)) hx1 hy2 hy1) (λ l. slope_lies x1 y1 x2 y2 (omega (arith, tests)) hx2 hy1 hy2))))
    where
      P : Drawing → Type 0
      P g = (fits 256 0 256 g.dirty ≡ true) × (within g.owed g.writes ≡ true)

      slope_lies : (a b c e : ℕ) → a < c → c < 256 → b < 256 → e < 256 → P (sloped_line a b c e d)
      slope_lies a b c e o hc hb he = (span_fits a (min b e) c (max b e) (omega arith) (omega arith) (omega arith) (omega arith), sloped-within a b c e d o hc hb he)

  pub line-fits : fits 256 0 256 (line st h edge x1 y1 x2 y2 d).dirty ≡ true
  line-fits = line_lies.0

  pub line-owes : OwesItsMark st h (line st h edge x1 y1 x2 y2 d)
  line-owes = owes_mark st h (line st h edge x1 y1 x2 y2 d).owed (line st h edge x1 y1 x2 y2 d).writes line_lies.1

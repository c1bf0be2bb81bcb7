-- Circles and ellipses: the source's walk along a quarter of the outline in its 8-bit numbers, the parts that it draws on the way, their pixel writes, and marks.
use Rattle.std.specs.Prelude.{Bool, true, false, not, cond, ◌&&◌, ◌||◌, List, [], ◌∷◌, ◌++◌, ℕ, zero, suc, ◌+◌, ◌-◌, ◌*◌, ◌%◌, max, ltb, leb, eqb}
use Rattle.model.specs.declared.Edge.{Edge}
use Rattle.model.specs.declared.DrawMode.{DrawMode}
use Rattle.model.specs.Pixels.{PixelWrite}
use Rattle.model.specs.Rects.{Rect}
use Rattle.model.specs.Marks.{Drawing, whole}
use Rattle.model.specs.Points.{point_write, point}
use Rattle.model.specs.Lines.{is_unknown, nothing, horizontal, owed_by}

-- ---- the walk, of the radii rx and ry, the larger of which is r

-- The source's variables of one axis: fx, fx_neg, delta_x, tmp_x and inc_x, or those of y.
pub record Axis : Type 0 where
  pub f : ℕ
  pub neg : Bool
  pub delta : ℕ
  pub tmp : ℕ
  pub inc : ℕ

-- Both axes, and fxy, fxy_neg and part_start.
pub record Walk : Type 0 where
  pub x : Axis
  pub y : Axis
  pub fxy : ℕ
  pub neg : Bool
  pub started : Bool

unfoldable pub start : ℕ → ℕ → Walk
start r rx = record {
  x = record { f = (2 * r + 255) % 256; neg = true; delta = 0; tmp = rx; inc = 255 };
  y = record { f = 1; neg = false; delta = 0; tmp = 0; inc = 1 };
  fxy = 0;
  neg = false;
  started = false;
}

-- delta with the axis's radius added
abbrev pub fed : ℕ → Axis → ℕ
fed radius a = (a.delta + radius) % 256

-- tmp moves where that less r, as 8 bits with a sign, is not negative
unfoldable pub moves : ℕ → ℕ → Axis → Bool
moves r radius a = ltb ((fed radius a + 256 - r) % 256) 128

-- an axis after a step along it: delta and tmp, and f with its sign raised by 2
unfoldable pub advanced : ℕ → ℕ → Axis → Axis
advanced r radius a = record {
  f = cond a.neg (cond (ltb 2 a.f) (a.f - 2) (2 - a.f)) ((a.f + 2) % 256);
  neg = a.neg && ltb 2 a.f;
  delta = cond (moves r radius a) ((fed radius a + 256 - r) % 256) (fed radius a);
  tmp = cond (moves r radius a) ((a.tmp + a.inc) % 256) a.tmp;
  inc = a.inc;
}

-- with such an f, one axis makes the other turn back
unfoldable pub turns : Axis → Bool
turns a = not a.neg && ltb a.f 3

unfoldable pub turned : Bool → Axis → Axis
turned t a = record {
  f = cond t ((258 - a.f) % 256) a.f;
  neg = a.neg;
  delta = a.delta;
  tmp = a.tmp;
  inc = cond t ((256 - a.inc) % 256) a.inc;
}

abbrev pub apart : ℕ → ℕ → ℕ
apart m n = cond (ltb m n) (n - m) (m - n)

-- a step along x
unfoldable pub x_step : ℕ → ℕ → Walk → Walk
x_step r rx w =
    let x' = advanced r rx w.x in
    let t = turns x' in
    let under = ltb w.fxy w.x.f in
    record { x = x'; y = turned t w.y; fxy = apart w.fxy w.x.f; neg = cond t (not under) under; started = w.started }

-- the first two lines are drawn as wide as the middle
abbrev pub early : Bool → ℕ → Bool
early started b = not started && (eqb b 1 || eqb b 2)

-- a step along y
unfoldable pub y_step : ℕ → ℕ → Walk → Walk
y_step r ry w =
    let y' = advanced r ry w.y in
    let t = turns y' in
    let m = apart w.y.f w.fxy in
    record {
      x = turned t w.x;
      y = y';
      fxy = cond t ((256 - m) % 256) m;
      neg = ltb w.y.f w.fxy;
      started = cond (moves r ry w.y) (not (early w.started y'.tmp)) w.started;
    }

-- A part: how far its four corners lie from the centre.
pub record Part : Type 0 where
  pub a : ℕ
  pub b : ℕ

abbrev pub part : ℕ → ℕ → Part
part a b = record { a = a; b = b }

unfoldable pub x_parts : ℕ → ℕ → Walk → List Part
x_parts r rx w =
    let a = (advanced r rx w.x).tmp in
    cond (moves r rx w.x && not (eqb ((a + 1) % 256) rx)) (part a w.y.tmp ∷ []) []

unfoldable pub y_parts : ℕ → ℕ → ℕ → Walk → List Part
y_parts r rx ry w =
    let b = (advanced r ry w.y).tmp in
    cond (moves r ry w.y) (part (cond (early w.started b) rx w.x.tmp) b ∷ []) []

-- one step, along y where fxy is negative; and the part that it draws, if any
unfoldable pub step : ℕ → ℕ → ℕ → Walk → Walk
step r rx ry w = cond w.neg (y_step r ry w) (x_step r rx w)

unfoldable pub step_parts : ℕ → ℕ → ℕ → Walk → List Part
step_parts r rx ry w = cond w.neg (y_parts r rx ry w) (x_parts r rx w)

-- the walk ends with the step that brings tmp_x to 0
unfoldable pub ended : Walk → Bool
ended w = eqb w.x.tmp 0

-- the parts of the steps that are left, of n of them at most
unfoldable pub parts_from : ℕ → ℕ → ℕ → ℕ → Walk → List Part
parts_from zero r rx ry w = []
parts_from (suc n) r rx ry w =
    let more = parts_from n r rx ry (step r rx ry w) in
    step_parts r rx ry w ++ cond (ended (step r rx ry w)) [] more

-- how many steps are left, n at most
unfoldable pub steps_from : ℕ → ℕ → ℕ → ℕ → Walk → ℕ
steps_from zero r rx ry w = 0
steps_from (suc n) r rx ry w =
    let more = steps_from n r rx ry (step r rx ry w) in
    suc (cond (ended (step r rx ry w)) 0 more)

abbrev pub most_steps : ℕ
most_steps = 512

unfoldable pub parts : ℕ → ℕ → List Part
parts rx ry = part rx 0 ∷ parts_from most_steps (max rx ry) rx ry (start (max rx ry) rx)

-- any number above 512 is counted as 513
unfoldable pub steps : ℕ → ℕ → ℕ
steps rx ry = steps_from (suc most_steps) (max rx ry) rx ry (start (max rx ry) rx)

-- ---- the pixel writes, round the centre (x, y): its sums and differences wrap at 256

abbrev pub up : ℕ → ℕ → ℕ
up z d = (z + d) % 256

abbrev pub down : ℕ → ℕ → ℕ
down z d = (z + 256 - d) % 256

-- the four corners of a part
unfoldable pub corners : ℕ → ℕ → DrawMode → Part → List PixelWrite
corners x y d q =
    point_write (down x q.a) (down y q.b) d ∷ point_write (up x q.a) (down y q.b) d ∷
    point_write (down x q.a) (up y q.b) d ∷ point_write (up x q.a) (up y q.b) d ∷ []

-- a horizontal from corner to corner; where the left one lies right of the right one, it starts at 0
unfoldable pub chord : ℕ → ℕ → Edge → ℕ → ℕ → ℕ → DrawMode → List PixelWrite
chord st h e x a y d = horizontal st h e (cond (ltb (up x a) (down x a)) 0 (down x a)) (up x a) y d

unfoldable pub chords : ℕ → ℕ → Edge → ℕ → ℕ → DrawMode → Part → List PixelWrite
chords st h e x y d q = chord st h e x q.a (down y q.b) d ++ chord st h e x q.a (up y q.b) d

unfoldable pub part_writes : ℕ → ℕ → Edge → ℕ → ℕ → Bool → DrawMode → Part → List PixelWrite
part_writes st h e x y fill d q = cond fill (chords st h e x y d q) (corners x y d q)

unfoldable pub parts_writes : ℕ → ℕ → Edge → ℕ → ℕ → Bool → DrawMode → List Part → List PixelWrite
parts_writes st h e x y fill d [] = []
parts_writes st h e x y fill d (q ∷ qs) = part_writes st h e x y fill d q ++ parts_writes st h e x y fill d qs

-- ---- marks

-- a radius exceeds its centre, or a sum exceeds 255
unfoldable pub wraps : ℕ → ℕ → ℕ → ℕ → Bool
wraps x y rx ry = (ltb x rx || ltb y ry) || (ltb 255 (x + rx) || ltb 255 (y + ry))

-- then the whole screen; else from the left and top ends on, to the screen's edges at least
unfoldable pub ellipse_mark : ℕ → ℕ → ℕ → ℕ → ℕ → ℕ → Rect
ellipse_mark st h x y rx ry =
    cond (wraps x y rx ry) (whole st h)
    (record { left = x - rx; top = y - ry; right = max (x + rx + 1) (8 * st); bottom = max (y + ry + 1) h })

-- ---- `draw_ellipse`

unfoldable pub ellipse_drawn : ℕ → ℕ → Edge → ℕ → ℕ → ℕ → ℕ → Bool → DrawMode → Drawing
ellipse_drawn st h e x y rx ry fill d =
    let m = ellipse_mark st h x y rx ry in
    record { writes = parts_writes st h e x y fill d (parts rx ry); dirty = m; owed = cond fill (owed_by st h e m) m }

-- the two early returns: two zero radii are a point, and an outline in Unknown is nothing
unfoldable pub is_point : ℕ → ℕ → Bool
is_point rx ry = eqb rx 0 && eqb ry 0

unfoldable pub is_nothing : Bool → DrawMode → Bool
is_nothing fill d = not fill && is_unknown d

unfoldable pub ellipse : ℕ → ℕ → Edge → ℕ → ℕ → ℕ → ℕ → Bool → DrawMode → Drawing
ellipse st h e x y rx ry fill d =
    cond (is_point rx ry) (point st h x y d)
    (cond (is_nothing fill d) nothing
    (ellipse_drawn st h e x y rx ry fill d))

-- `draw_circle`
abbrev pub circle : ℕ → ℕ → Edge → ℕ → ℕ → ℕ → Bool → DrawMode → Drawing
circle st h e x y r fill d = ellipse st h e x y r r fill d

-- ---- RADIUS and ENDLESS: tested only after these returns

unfoldable pub radii_fit : ℕ → ℕ → Bool → DrawMode → Bool
radii_fit rx ry fill d = (is_point rx ry || is_nothing fill d) || (leb rx 127 && leb ry 127)

unfoldable pub steps_fit : ℕ → ℕ → Bool → DrawMode → Bool
steps_fit rx ry fill d = (is_point rx ry || is_nothing fill d) || leb (steps rx ry) most_steps

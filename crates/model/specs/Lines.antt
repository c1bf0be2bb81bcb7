-- Lines: `draw_line`, and the runs and columns of pixels that it shares with boxes.
use Rattle.std.specs.Prelude.{Bool, true, false, not, cond, List, [], ◌∷◌, ℕ, zero, suc, ◌+◌, ◌-◌, ◌*◌, ◌%◌, min, max, ltb, leb, eqb}
use Rattle.model.specs.declared.Edge.{Edge}
use Rattle.model.specs.declared.Edge.TheVariants.{Clamp, Stop}
use Rattle.model.specs.declared.DrawMode.{DrawMode}
use Rattle.model.specs.declared.DrawMode.TheVariants.{Clear, Or, Xor, Unknown}
use Rattle.model.specs.Pixels.{PixelWrite}
use Rattle.model.specs.Rects.{Rect, none, lowered}
use Rattle.model.specs.Marks.{Drawing}
use Rattle.model.specs.Points.{point_write}

unfoldable pub is_unknown : DrawMode → Bool
is_unknown Clear = false
is_unknown Or = false
is_unknown Xor = false
is_unknown Unknown = true

-- the rectangle of the pixels from (left, top) to (right, bottom), these included
abbrev pub span_rect : ℕ → ℕ → ℕ → ℕ → Rect
span_rect left top right bottom = record { left = left; top = top; right = right + 1; bottom = bottom + 1 }

-- it draws nothing and marks nothing
abbrev pub nothing : Drawing
nothing = record { writes = []; dirty = none; owed = none }

-- ---- horizontal

-- what a horizontal line makes of the bit that it finds: Unknown inverts there
unfoldable pub run_op : DrawMode → Bool → Bool
run_op Clear v = false
run_op Or v = true
run_op Xor v = not v
run_op Unknown v = not v

-- n pixels of line y, from x on
unfoldable pub pixel_run : ℕ → ℕ → ℕ → DrawMode → List PixelWrite
pixel_run x y zero d = []
pixel_run x y (suc n) d = record { x = x; y = y; op = run_op d } ∷ pixel_run (suc x) y n d

-- the last of n places where z lies beyond it
abbrev pub clamp : ℕ → ℕ → ℕ
clamp z n = min z (n - 1)

-- `draw_hor_line`: left to right of line y, clamped to the screen and not clipped
unfoldable pub clamped : ℕ → ℕ → ℕ → ℕ → ℕ → DrawMode → List PixelWrite
clamped st h left right y d =
    pixel_run (clamp left (8 * st)) (clamp y h) (suc (clamp right (8 * st) - clamp left (8 * st))) d

-- left to right of line y as they are told: off the screen it draws nothing, so it stops at the edge
unfoldable pub stopped : ℕ → ℕ → ℕ → DrawMode → List PixelWrite
stopped left right y d = pixel_run left y (suc (right - left)) d

-- the edge flag: 0 clamp, 1 stop
unfoldable pub edge_of : ℕ → Edge
edge_of n = cond (eqb n 0) Clamp Stop

-- the one or the other, by the edge flag: boxes and filled ellipses are made of these
unfoldable pub horizontal : ℕ → ℕ → Edge → ℕ → ℕ → ℕ → DrawMode → List PixelWrite
horizontal st h Clamp left right y d = clamped st h left right y d
horizontal st h Stop left right y d = stopped left right y d

-- what is owed for the mark of horizontals: lowered where they are clamped
unfoldable pub owed_by : ℕ → ℕ → Edge → Rect → Rect
owed_by st h Clamp m = lowered (8 * st) h m
owed_by st h Stop m = m

unfoldable pub horizontal_line : ℕ → ℕ → Edge → ℕ → ℕ → ℕ → DrawMode → Drawing
horizontal_line st h e left right y d = record {
  writes = horizontal st h e left right y d;
  dirty = span_rect left y right y;
  owed = owed_by st h e (span_rect left y right y);
}

-- ---- vertical

-- n pixels of column x, from line y on
unfoldable pub pixel_column : ℕ → ℕ → ℕ → DrawMode → List PixelWrite
pixel_column x y zero d = []
pixel_column x y (suc n) d = point_write x y d ∷ pixel_column x (suc y) n d

-- `draw_ver_line`: off the screen it draws nothing
unfoldable pub vertical : ℕ → ℕ → ℕ → DrawMode → List PixelWrite
vertical x top bottom d = pixel_column x top (suc (bottom - top)) d

-- yet it marks
unfoldable pub vertical_line : ℕ → ℕ → ℕ → DrawMode → Drawing
vertical_line x top bottom d = record {
  writes = vertical x top bottom d;
  dirty = span_rect x top x bottom;
  owed = span_rect x top x bottom;
}

-- ---- the others: from the left end to the right one

pub record Slope : Type 0 where
  -- the horizontal and the vertical distance of the ends, and the longer of the two
  pub dist_x : ℕ
  pub dist_y : ℕ
  pub dist_max : ℕ
  -- 1 downwards, 255 upwards
  pub inc_y : ℕ

abbrev pub slope_of : ℕ → ℕ → ℕ → ℕ → Slope
slope_of x1 y1 x2 y2 = record {
  dist_x = x2 - x1;
  dist_y = max y1 y2 - min y1 y2;
  dist_max = max (x2 - x1) (max y1 y2 - min y1 y2);
  inc_y = cond (ltb y1 y2) 1 255;
}

-- an error sum in its turn: it grows by its distance, and wraps at 256
abbrev pub error_sum : ℕ → ℕ → ℕ
error_sum e dist = (e + dist) % 256

-- where it reaches the longer distance m, its coordinate steps
unfoldable pub stepped : ℕ → ℕ → ℕ → ℕ → ℕ → ℕ
stepped m e dist next now = cond (leb m (error_sum e dist)) next now

-- and it falls by m
unfoldable pub next_error : ℕ → ℕ → ℕ → ℕ
next_error m e dist = stepped m e dist (error_sum e dist - m) (error_sum e dist)

-- n pixels from (x, y) on, with the error sums ex and ey; the step of y wraps too
unfoldable pub slope : Slope → ℕ → ℕ → ℕ → ℕ → ℕ → DrawMode → List PixelWrite
slope p zero x y ex ey d = []
slope p (suc n) x y ex ey d =
    point_write x y d ∷
    slope p n
    (stepped p.dist_max ex p.dist_x (x + 1) x)
    (stepped p.dist_max ey p.dist_y ((y + p.inc_y) % 256) y)
    (next_error p.dist_max ex p.dist_x)
    (next_error p.dist_max ey p.dist_y) d

-- from (x1, y1), the left end, to (x2, y2)
unfoldable pub sloped : ℕ → ℕ → ℕ → ℕ → DrawMode → List PixelWrite
sloped x1 y1 x2 y2 d = let p = slope_of x1 y1 x2 y2 in slope p (suc p.dist_max) x1 y1 0 0 d

unfoldable pub sloped_line : ℕ → ℕ → ℕ → ℕ → DrawMode → Drawing
sloped_line x1 y1 x2 y2 d = record {
  writes = sloped x1 y1 x2 y2 d;
  dirty = span_rect x1 (min y1 y2) x2 (max y1 y2);
  owed = span_rect x1 (min y1 y2) x2 (max y1 y2);
}

-- ---- `draw_line`: horizontal where the ends are on one line; Unknown does nothing otherwise

unfoldable pub line : ℕ → ℕ → Edge → ℕ → ℕ → ℕ → ℕ → DrawMode → Drawing
line st h e x1 y1 x2 y2 d =
    cond (eqb y1 y2) (horizontal_line st h e (min x1 x2) (max x1 x2) y1 d)
    (cond (is_unknown d) nothing
    (cond (eqb x1 x2) (vertical_line x1 (min y1 y2) (max y1 y2) d)
    (cond (ltb x2 x1) (sloped_line x2 y2 x1 y1 d)
    (sloped_line x1 y1 x2 y2 d))))

-- Shapes: what a drawing call draws, with the numbers that it is told, and the drawing that this is.
use Rattle.std.specs.Prelude.{Bool, ◌&&◌, List, [], ◌∷◌, ℕ, ◌<◌, leb, eqb, ℤ}
use Rattle.model.specs.declared.Edge.{Edge}
use Rattle.model.specs.Geometry.{Geometry, height}
use Rattle.model.specs.Memory.{window}
use Rattle.model.specs.Refusals.{VALUE, SOURCE, RADIUS, ENDLESS, Test, test}
use Rattle.model.specs.Marks.{Drawing}
use Rattle.model.specs.Points as points
use Rattle.model.specs.Lines as lines
use Rattle.model.specs.Boxes as boxes
use Rattle.model.specs.Ellipses as ellipses
use Rattle.model.specs.Bitmaps as bitmaps

pub data Shape : Type 0 where
  -- x, y, mode
  point : ℕ → ℕ → ℕ → Shape
  -- x1, y1, x2, y2, mode
  line : ℕ → ℕ → ℕ → ℕ → ℕ → Shape
  -- x1, y1, x2, y2, fill, mode
  box : ℕ → ℕ → ℕ → ℕ → ℕ → ℕ → Shape
  -- x, y, radius, fill, mode
  circle : ℕ → ℕ → ℕ → ℕ → ℕ → Shape
  -- x, y, the two radii, fill, mode
  ellipse : ℕ → ℕ → ℕ → ℕ → ℕ → ℕ → Shape
  -- address, x, y, width, height, mode
  bitmap : ℕ → ℤ → ℤ → ℕ → ℕ → ℕ → Shape

-- the numbers are of the types that the C interface gives them
abbrev pub TypedShape : Shape → Type 0
TypedShape (point x y mode) = (x < 256) × (y < 256) × (mode < 256)
TypedShape (line x1 y1 x2 y2 mode) = (x1 < 256) × (y1 < 256) × (x2 < 256) × (y2 < 256) × (mode < 256)
TypedShape (box x1 y1 x2 y2 fill mode) = (x1 < 256) × (y1 < 256) × (x2 < 256) × (y2 < 256) × (fill < 256) × (mode < 256)
TypedShape (circle x y r fill mode) = (x < 256) × (y < 256) × (r < 256) × (fill < 256) × (mode < 256)
TypedShape (ellipse x y rx ry fill mode) = (x < 256) × (y < 256) × (rx < 256) × (ry < 256) × (fill < 256) × (mode < 256)
TypedShape (bitmap a x y w n mode) = (a < 65536) × (w < 256) × (n < 256) × (mode < 256)

-- the fill flag and the draw mode are listed
abbrev pub fill_fits : ℕ → ℕ → Bool
fill_fits fill mode = leb fill 1 && leb mode 3

-- the fill flag, 0 or 1
abbrev pub filled : ℕ → Bool
filled n = eqb n 1

-- RADIUS and ENDLESS come after the two early returns of an ellipse
abbrev pub ellipse_tests : ℕ → ℕ → ℕ → ℕ → List Test
ellipse_tests rx ry fill mode =
    test VALUE (fill_fits fill mode) ∷ test RADIUS (ellipses.radii_fit rx ry (filled fill) (points.draw_mode mode)) ∷
    test ENDLESS (ellipses.steps_fit rx ry (filled fill) (points.draw_mode mode)) ∷ []

abbrev pub shape_tests : Shape → List Test
shape_tests (point x y mode) = test VALUE (leb mode 3) ∷ []
shape_tests (line x1 y1 x2 y2 mode) = test VALUE (leb mode 3) ∷ []
shape_tests (box x1 y1 x2 y2 fill mode) = test VALUE (fill_fits fill mode) ∷ []
shape_tests (circle x y r fill mode) = ellipse_tests r r fill mode
shape_tests (ellipse x y rx ry fill mode) = ellipse_tests rx ry fill mode
shape_tests (bitmap a x y w n mode) = test VALUE (leb mode 4) ∷ test SOURCE (bitmaps.source_fits a w n) ∷ []

-- on a glass, with horizontal lines as the edge flag has them and a bitmap's source in the memory m
abbrev pub drawing_of : Geometry → Edge → List ℕ → Shape → Drawing
drawing_of g edge m (point x y mode) = points.point g.stride (height g) x y (points.draw_mode mode)
drawing_of g edge m (line x1 y1 x2 y2 mode) = lines.line g.stride (height g) edge x1 y1 x2 y2 (points.draw_mode mode)
drawing_of g edge m (box x1 y1 x2 y2 fill mode) = boxes.box g.stride (height g) edge x1 y1 x2 y2 (filled fill) (points.draw_mode mode)
drawing_of g edge m (circle x y r fill mode) = ellipses.circle g.stride (height g) edge x y r (filled fill) (points.draw_mode mode)
drawing_of g edge m (ellipse x y rx ry fill mode) = ellipses.ellipse g.stride (height g) edge x y rx ry (filled fill) (points.draw_mode mode)
drawing_of g edge m (bitmap a x y w n mode) = bitmaps.bitmap g.stride (height g) (window a (bitmaps.source_bytes w n) m) x y w n (bitmaps.paint_mode mode)

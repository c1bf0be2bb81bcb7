-- The last clause of Marks never applies: no shape that a call accepts writes a pixel of the screen outside what it owes, so the code owes its mark untested.
use Rattle.std.specs.Prelude.{List, ℕ}
use Rattle.model.specs.declared.Edge.{Edge}
use Rattle.model.specs.Geometry.{Geometry, height}
use Rattle.model.specs.Memory.{window}
use Rattle.model.specs.Points.{draw_mode}
use Rattle.model.specs.Bitmaps.{paint_mode, source_bytes}
use Rattle.model.specs.Shapes.{Shape, point, line, box, circle, ellipse, bitmap, TypedShape, filled, shape_tests, drawing_of}
use Rattle.laws.specs.Calls.{AllPass}
use Rattle.laws.specs.Writes.{OwesItsMark}
use Rattle.laws.specs.Points.{point-owes}
use Rattle.laws.specs.Slopes.{line-owes}
use Rattle.laws.specs.Boxes.{box-owes}
use Rattle.laws.specs.EllipseMarks.{ellipse-owes}
use Rattle.laws.specs.Bitmaps.{bitmap-owes}

pub no_write_outside : (g : Geometry) (edge : Edge) (m : List ℕ) (s : Shape) → TypedShape s → AllPass (shape_tests s) → OwesItsMark g.stride (height g) (drawing_of g edge m s)
no_write_outside g edge m (point x y mode) t a = point-owes g.stride (height g) x y (draw_mode mode)
no_write_outside g edge m (line x1 y1 x2 y2 mode) t a = line-owes g.stride (height g) edge x1 y1 x2 y2 (draw_mode mode) t.0 t.1 t.2 t.3
no_write_outside g edge m (box x1 y1 x2 y2 fill mode) t a = box-owes g.stride (height g) edge x1 y1 x2 y2 (filled fill) (draw_mode mode)
no_write_outside g edge m (circle x y r fill mode) t a = ellipse-owes g.stride (height g) edge x y r r (filled fill) (draw_mode mode) a.1.0
no_write_outside g edge m (ellipse x y rx ry fill mode) t a = ellipse-owes g.stride (height g) edge x y rx ry (filled fill) (draw_mode mode) a.1.0
no_write_outside g edge m (bitmap i x y w n mode) t a = bitmap-owes g.stride (height g) (window i (source_bytes w n) m) x y w n (paint_mode mode)

-- Boxes: `draw_box`.
use Rattle.std.specs.Prelude.{Bool, cond, List, [], ◌++◌, ℕ, zero, suc, ◌-◌, min, max}
use Rattle.model.specs.declared.Edge.{Edge}
use Rattle.model.specs.declared.DrawMode.{DrawMode}
use Rattle.model.specs.Pixels.{PixelWrite}
use Rattle.model.specs.Marks.{Drawing}
use Rattle.model.specs.Lines.{is_unknown, span_rect, horizontal, owed_by, vertical}

-- n rows from line y on, each a horizontal: clamped, those beyond the last line land on it again
unfoldable pub box_rows : ℕ → ℕ → Edge → ℕ → ℕ → ℕ → ℕ → DrawMode → List PixelWrite
box_rows st h e left right y zero d = []
box_rows st h e left right y (suc n) d = horizontal st h e left right y d ++ box_rows st h e left right (suc y) n d

unfoldable pub filled_box : ℕ → ℕ → Edge → ℕ → ℕ → ℕ → ℕ → DrawMode → List PixelWrite
filled_box st h e left top right bottom d = box_rows st h e left right top (suc (bottom - top)) d

-- two horizontals, then two verticals unless Unknown
unfoldable pub outline : ℕ → ℕ → Edge → ℕ → ℕ → ℕ → ℕ → DrawMode → List PixelWrite
outline st h e left top right bottom d =
    horizontal st h e left right top d ++ (horizontal st h e left right bottom d ++
    cond (is_unknown d) [] (vertical left top bottom d ++ vertical right top bottom d))

-- a box from its left and top to its right and bottom
unfoldable pub box_of : ℕ → ℕ → Edge → ℕ → ℕ → ℕ → ℕ → Bool → DrawMode → Drawing
box_of st h e left top right bottom fill d = record {
  writes = cond fill (filled_box st h e left top right bottom d) (outline st h e left top right bottom d);
  dirty = span_rect left top right bottom;
  owed = owed_by st h e (span_rect left top right bottom);
}

unfoldable pub box : ℕ → ℕ → Edge → ℕ → ℕ → ℕ → ℕ → Bool → DrawMode → Drawing
box st h e x1 y1 x2 y2 fill d = box_of st h e (min x1 x2) (min y1 y2) (max x1 x2) (max y1 y2) fill d

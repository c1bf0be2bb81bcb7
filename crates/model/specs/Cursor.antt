-- The cursor: `blink_cursor` and `clear_cursor`.
use Rattle.std.specs.Prelude.{true, cond, List, ℕ, ◌+◌, ◌-◌, ◌*◌, leb, eqb, get_or}
use Rattle.model.specs.declared.Head.{Head}
use Rattle.model.specs.declared.Edge.{Edge}
use Rattle.model.specs.declared.DrawMode.TheVariants.{Xor}
use Rattle.model.specs.Geometry.{Geometry, height, columns, glyph_height}
use Rattle.model.specs.Memory.{text_of}
use Rattle.model.specs.Marks.{Drawing}
use Rattle.model.specs.Boxes.{box}
use Rattle.model.specs.Text.{with_cursor}

-- half or full, by the byte under it
unfoldable pub cursor_for : ℕ → ℕ
cursor_for b = cond (leb 128 b) 2 1

-- the one that a blink inverts: the one that is shown, or the one that comes
unfoldable pub blink_of : ℕ → ℕ → ℕ
blink_of cursor b = cond (eqb cursor 0) (cursor_for b) cursor

-- the one that is shown afterwards
unfoldable pub blink_next : ℕ → ℕ → ℕ
blink_next cursor b = cond (eqb cursor 0) (cursor_for b) 0

-- `inverse_cursor`: a glyph's lines, 8 or 16 columns wide, are inverted. A full one at the last column marks the 8 columns beyond it too.
unfoldable pub cursor_box : ℕ → ℕ → Edge → ℕ → ℕ → ℕ → Drawing
cursor_box st h e row column cursor =
    box st h e (8 * column) (glyph_height * row) (8 * column + 8 * cursor - 1) (glyph_height * row + (glyph_height - 1)) true Xor

-- ---- a blink in Text

abbrev pub under_cursor : Geometry → Head → List ℕ → ℕ
under_cursor g h m = get_or (text_of g h.text m) (h.row * columns g + h.column) 0

unfoldable pub blink_drawing : Geometry → Edge → Head → List ℕ → Drawing
blink_drawing g e h m = cursor_box g.stride (height g) e h.row h.column (blink_of h.cursor (under_cursor g h m))

unfoldable pub blink_head : Geometry → List ℕ → Head → Head
blink_head g m h = with_cursor (blink_next h.cursor (under_cursor g h m)) h

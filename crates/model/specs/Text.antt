-- The text state: row, column, modes and cursor; `cls`.
use Rattle.std.specs.Prelude.{cond, ◌&&◌, List, ℕ, eqb}
use Rattle.model.specs.declared.Head.{Head}
use Rattle.model.specs.Geometry.{Geometry, height, cells, screen_bytes}
use Rattle.model.specs.Memory.{zeros, with_screen, with_text}
use Rattle.model.specs.Record.{State, with_head, with_flags}
use Rattle.model.specs.Marks.{whole, marked}
use Rattle.model.specs.Open.{clear_flags}

-- a head with other row, column, screen mode, print mode and cursor
abbrev pub with_text_state : ℕ → ℕ → ℕ → ℕ → ℕ → Head → Head
with_text_state row column screen print cursor h = record {
  graphics = h.graphics;
  text = h.text;
  row = row;
  column = column;
  screen = screen;
  print = print;
  cursor = cursor;
  version = h.version;
  dirty = h.dirty;
}

abbrev pub with_row : ℕ → Head → Head
with_row n h = with_text_state n h.column h.screen h.print h.cursor h

abbrev pub with_column : ℕ → Head → Head
with_column n h = with_text_state h.row n h.screen h.print h.cursor h

-- print modes: 0 Normal, 1 Inverse, 2 Flash. Setting Flash while Inverse gives Normal.
unfoldable pub print_mode : ℕ → ℕ → ℕ
print_mode old new = cond (eqb old 1 && eqb new 2) 0 new

unfoldable pub with_print_mode : ℕ → Head → Head
with_print_mode n h = with_text_state h.row h.column h.screen (print_mode h.print n) h.cursor h

abbrev pub at_place : ℕ → ℕ → Head → Head
at_place row column h = with_column column (with_row row h)

-- screen modes: 0 Text, 1 Graph
abbrev pub with_screen_mode : ℕ → Head → Head
with_screen_mode n h = with_text_state h.row h.column n h.print h.cursor h

-- the cursor: 0 none, 1 half, 2 full
abbrev pub with_cursor : ℕ → Head → Head
with_cursor n h = with_text_state h.row h.column h.screen h.print n h

-- ---- `cls`, with the screen mode n: it keeps print mode and cursor

unfoldable pub cleared_state : Geometry → ℕ → State → State
cleared_state g n s =
    marked g (whole g.stride (height g)) (whole g.stride (height g))
    (with_head (at_place 0 0 (with_screen_mode n s.head)) (with_flags (clear_flags g) s))

unfoldable pub cleared_memory : Geometry → Head → List ℕ → List ℕ
cleared_memory g h m = with_screen h.graphics (zeros (screen_bytes g)) (with_text h.text (zeros (cells g)) m)

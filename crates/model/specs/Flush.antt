-- Flush: the walk over the text's cells, and what it paints.
use Rattle.std.specs.Prelude.{Bool, false, cond, ◌&&◌, List, [], ◌∷◌, ◌++◌, ℕ, zero, suc, ◌+◌, ◌*◌, ltb, eqb, get_or}
use Rattle.model.specs.declared.Glyph.{Glyph}
use Rattle.model.specs.declared.Glyph.TheVariants.{Emoji, Gb, Extra, Hexadecimal}
use Rattle.model.specs.declared.Spot.{Spot}
use Rattle.model.specs.declared.CellKind.{CellKind}
use Rattle.model.specs.declared.CellKind.TheVariants.{Blank, Single, Pair, Code}
use Rattle.model.specs.declared.Shown.{Shown}
use Rattle.model.specs.Geometry.{Geometry, glyph_height, rows, columns, cells, screen_bytes}
use Rattle.model.specs.Memory.{zeros, window, screen_of}
use Rattle.model.specs.Record.{State}
use Rattle.model.specs.Glyphs.{Fonts, Store, glyph_of, paint, column_stores, line_stores, code_stores}

-- ---- the walk: st columns, n rows. It looks at the text alone; cells past the last one count as zero

abbrev pub spot : ℕ → ℕ → ℕ → Spot
spot cell row column = record { cell = cell; row = row; column = column }

unfoldable pub is_last : ℕ → ℕ → Spot → Bool
is_last st n s = eqb (s.row + 1) n && eqb (s.column + 1) st

-- what byte b is shown as: a zero cell is skipped, and a byte from 128 on takes the next with it, but in the last place
unfoldable pub kind_of : ℕ → ℕ → ℕ → Spot → CellKind
kind_of st n b s = cond (eqb b 0) Blank (cond (ltb b 128) Single (cond (is_last st n s) Code Pair))

abbrev pub shown_at : ℕ → ℕ → List ℕ → Spot → Shown
shown_at st n text s = record {
  spot = s;
  lead = get_or text s.cell 0;
  trail = get_or text (s.cell + 1) 0;
  kind = kind_of st n (get_or text s.cell 0) s;
}

-- how many cells that takes
unfoldable pub cells_taken : CellKind → ℕ
cells_taken Blank = 1
cells_taken Single = 1
cells_taken Pair = 2
cells_taken Code = 1

-- k cells on. A row that is full leads to column 0 below; reading goes on from the next cell all the same.
unfoldable pub spot_after : ℕ → Spot → ℕ → Spot
spot_after st s k = cond (ltb (s.column + k) st) (spot (s.cell + k) s.row (s.column + k)) (spot (s.cell + k) (s.row + 1) 0)

abbrev pub next_spot : ℕ → Shown → Spot
next_spot st w = spot_after st w.spot (cells_taken w.kind)

-- what is shown from a spot on, in at most k steps
unfoldable pub walk : ℕ → ℕ → List ℕ → ℕ → Spot → List Shown
walk st n text zero s = []
walk st n text (suc k) s = cond (ltb s.row n) (shown_at st n text s ∷ walk st n text k (next_spot st (shown_at st n text s))) []

-- ---- what is painted

-- the screen byte at the top of a row's column
abbrev pub top_of : ℕ → ℕ → ℕ → ℕ
top_of st row column = glyph_height * (st * row) + column

-- that of a pair's right half: at a row's end it falls on column 0 below
abbrev pub right_of : ℕ → Spot → ℕ
right_of st s = cond (ltb (s.column + 1) st) (top_of st s.row (s.column + 1)) (top_of st (s.row + 1) 0)

-- the inverse flag of a cell
abbrev pub flag_at : List Bool → ℕ → Bool
flag_at flags cell = get_or flags cell false

-- both halves of a pair's glyph, which begins at byte i of a font
abbrev pub half_stores : ℕ → List Bool → Spot → List ℕ → ℕ → List Store
half_stores st flags s font i =
    line_stores st font (top_of st s.row s.column) (right_of st s) i (flag_at flags s.cell) (flag_at flags (s.cell + 1)) glyph_height

-- a pair's glyph; the second of two hexadecimal codes stands one byte after the first, also at a row's end
unfoldable pub glyph_stores : ℕ → List Bool → List ℕ → List ℕ → List ℕ → List ℕ → Spot → ℕ → ℕ → Glyph → List Store
glyph_stores st flags ascii8 gb emoji extra s lead trail (Emoji i) = half_stores st flags s emoji (32 * i)
glyph_stores st flags ascii8 gb emoji extra s lead trail (Gb i) = half_stores st flags s gb (32 * i)
glyph_stores st flags ascii8 gb emoji extra s lead trail (Extra i) = half_stores st flags s extra i
glyph_stores st flags ascii8 gb emoji extra s lead trail Hexadecimal =
    code_stores st ascii8 (top_of st s.row s.column) lead ++ code_stores st ascii8 (top_of st s.row s.column + 1) trail

unfoldable pub kind_stores : ℕ → List Bool → ℕ → Fonts → Spot → ℕ → ℕ → CellKind → List Store
kind_stores st flags version f s lead trail Blank = []
kind_stores st flags version f s lead trail Single = column_stores st f.ascii16 (top_of st s.row s.column) (16 * lead) (flag_at flags s.cell) glyph_height
kind_stores st flags version f s lead trail Pair =
    glyph_stores st flags f.ascii8 f.gb f.emoji f.extra_font s lead trail (glyph_of version f.extra_list lead trail)
kind_stores st flags version f s lead trail Code = code_stores st f.ascii8 (top_of st s.row s.column) lead

abbrev pub shown_stores : ℕ → List Bool → ℕ → Fonts → Shown → List Store
shown_stores st flags version f w = kind_stores st flags version f w.spot w.lead w.trail w.kind

unfoldable pub stores : ℕ → List Bool → ℕ → Fonts → List Shown → List Store
stores st flags version f [] = []
stores st flags version f (w ∷ ws) = shown_stores st flags version f w ++ stores st flags version f ws

-- ---- the whole

unfoldable pub text_stores : ℕ → ℕ → List ℕ → List Bool → ℕ → Fonts → List Store
text_stores st n text flags version f = stores st flags version f (walk st n text (n * st) (spot 0 0 0))

abbrev pub flush_stores : Geometry → Fonts → State → List ℕ → List Store
flush_stores g f s m = text_stores (columns g) (rows g) (window s.head.text (cells g) m) s.flags s.head.version f

-- Text mode clears the screen first
abbrev pub cleared_in_text : ℕ → List ℕ → ℕ → List ℕ
cleared_in_text mode screen bytes = cond (eqb mode 0) (zeros bytes) screen

unfoldable pub flushed : Geometry → Fonts → State → List ℕ → List ℕ
flushed g f s m = paint (flush_stores g f s m) (cleared_in_text s.head.screen (screen_of g s.head.graphics m) (screen_bytes g))

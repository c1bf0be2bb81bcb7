-- The glass and its panels. Document 01's glass is `base`; definitions and laws take the geometry as a parameter.
use Rattle.std.specs.Prelude.{ℕ, ◌*◌, ◌/◌}

-- A line is `stride` bytes. The lines fall into `bands` bands of `band` lines each, top to bottom: what is owed is kept by bands.
-- `panels` panels are sent to, each by itself.
pub record Geometry : Type 0 where
  pub stride : ℕ
  pub bands : ℕ
  pub band : ℕ
  pub panels : ℕ

-- 160 by 80, five bands, a text row each, four panels
abbrev pub base : Geometry
base = record { stride = 20; bands = 5; band = 16; panels = 4 }

-- the screen in pixels, and in bytes
abbrev pub width : Geometry → ℕ
width g = 8 * g.stride

abbrev pub height : Geometry → ℕ
height g = g.bands * g.band

abbrev pub screen_bytes : Geometry → ℕ
screen_bytes g = g.stride * height g

-- the lines of a text cell's glyph
abbrev pub glyph_height : ℕ
glyph_height = 16

-- the text cells: one byte wide, a glyph high
abbrev pub columns : Geometry → ℕ
columns g = g.stride

abbrev pub rows : Geometry → ℕ
rows g = height g / glyph_height

abbrev pub cells : Geometry → ℕ
cells g = rows g * columns g

-- the screen bytes of a text row
abbrev pub row_bytes : Geometry → ℕ
row_bytes g = glyph_height * g.stride

abbrev pub memory_bytes : ℕ
memory_bytes = 65536

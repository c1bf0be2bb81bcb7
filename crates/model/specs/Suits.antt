-- Which numbers a glass has, by its geometry. The code's struct has this as a fact about its own numbers, so nothing here names that struct.
use Rattle.std.specs.Prelude.{◌≡◌, true, ℕ, ◌+◌, ◌-◌, ◌*◌, ◌^◌, ◌≤◌, ◌<◌}
use Rattle.model.specs.Geometry.{Geometry, glyph_height, screen_bytes}
use Rattle.model.specs.Geometry as shown
use Rattle.model.specs.Flags.{flag_bytes}
use Rattle.model.specs.Record.{distinct, layout, at, pending_bytes, record_bytes}
use Rattle.model.specs.Record as part

-- What the calls ask of a geometry: there is a panel, and no part of the record stands twice; coordinates are bytes, also those of a full cursor at the last
-- column; there are two text columns and a text row, and text rows fill the screen; screen, text and record are shorter than memory.
pub record IsGlass (g : Geometry) : Type 0 where
  pub one : 1 ≤ g.panels
  pub apart : distinct (layout g) ≡ true
  pub columns : 2 ≤ shown.columns g
  pub cursor : shown.width g + 8 ≤ 256
  pub row : 0 < shown.rows g
  pub filled : glyph_height * shown.rows g ≡ shown.height g
  pub high : shown.height g ≤ 256
  pub screen : screen_bytes g ≤ 65535
  pub text : shown.cells g ≤ 65535
  pub long : record_bytes g ≤ 65535

-- the parts of a line in which code counts, 256 * 32 * 32: enough for 256 lines of up to 32 bytes (laws/specs/Reciprocals.antt)
abbrev pub line_parts : ℕ
line_parts = 2 ^ 18

-- m is p / n, rounded up
pub record RoundedUp (p n m : ℕ) : Type 0 where
  pub least : p ≤ n * m
  pub most : n * m < p + n

-- every other number of a glass follows from its geometry
pub record GlassNumbers (g : Geometry) (reciprocal width height screen rows columns cells graphics text bytes pending keys flags others edge : ℕ) : Type 0 where
  pub glass : IsGlass g
  pub is_reciprocal : RoundedUp line_parts g.stride reciprocal
  pub is_width : width ≡ shown.width g
  pub is_height : height ≡ shown.height g
  pub is_rows : rows ≡ shown.rows g
  pub is_columns : columns ≡ shown.columns g
  pub is_screen : screen ≡ screen_bytes g
  pub is_cells : cells ≡ shown.cells g
  pub is_graphics : graphics ≡ 65535 - screen_bytes g
  pub is_text : text ≡ 65535 - shown.cells g
  pub is_bytes : bytes ≡ record_bytes g
  pub is_pending : pending ≡ pending_bytes g
  pub is_keys : keys ≡ at g part.keys
  pub is_flags : flags ≡ at g part.flags
  pub is_others : others ≡ at g part.flags + flag_bytes (shown.cells g)
  pub is_edge : edge ≡ at g part.edge

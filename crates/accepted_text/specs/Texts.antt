-- The GLYPH test of a flush, for the glass that the record's length tells.
use Rattle.std.specs.Prelude.{Bool, List, ℕ, length}
use Rattle.model.specs.Glass.{glass_of}
use Rattle.model.specs.Record.{decode}
use Rattle.model.specs.Glyphs.{Fonts, fonts_fit}
use Rattle.model.specs.Flush.{flush_stores}

abbrev pub glyphs_fit : List ℕ → List ℕ → Fonts → Bool
glyphs_fit r m f = let g = glass_of (length r) in fonts_fit (flush_stores g f (decode g r) m)

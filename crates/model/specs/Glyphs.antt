-- Glyphs: where a pair's glyph stands, and the byte stores that paint glyphs and hexadecimal codes.
use Rattle.std.specs.Prelude.{Bool, true, false, cond, ◌&&◌, List, [], ◌∷◌, ◌++◌, ℕ, zero, suc, ◌+◌, ◌-◌, ◌*◌, ◌/◌, ◌%◌, ltb, length, get_or, set, Option, Some, None}
use Rattle.model.specs.declared.Glyph.{Glyph}
use Rattle.model.specs.declared.Glyph.TheVariants.{Emoji, Gb, Extra, Hexadecimal}
use Rattle.model.specs.Codes.{emoji_index, gb_index, extra_offset}

-- the fonts and the extra list that a flush is lent
pub record Fonts : Type 0 where
  pub ascii8 : List ℕ
  pub ascii16 : List ℕ
  pub gb : List ℕ
  pub emoji : List ℕ
  pub extra_list : List ℕ
  pub extra_font : List ℕ

abbrev pub fonts : List ℕ → List ℕ → List ℕ → List ℕ → List ℕ → List ℕ → Fonts
fonts ascii8 ascii16 gb emoji extra_list extra_font = record { ascii8 = ascii8; ascii16 = ascii16; gb = gb; emoji = emoji; extra_list = extra_list; extra_font = extra_font }

-- ---- where a pair's glyph stands: emoji, GB, extra list, else hexadecimal codes

unfoldable pub glyph_or : Option ℕ → (ℕ → Glyph) → Glyph → Glyph
glyph_or (Some i) found other = found i
glyph_or None found other = other

unfoldable pub glyph_of : ℕ → List ℕ → ℕ → ℕ → Glyph
glyph_of version list lead trail =
    glyph_or (emoji_index version lead trail) Emoji
    (glyph_or (gb_index lead trail) Gb
    (glyph_or (extra_offset list (256 * lead + trail)) Extra Hexadecimal))

-- ---- byte stores

-- A byte store: its place on the screen, and the byte of a font that it puts there, inverted or not.
pub record Store : Type 0 where
  pub place : ℕ
  pub font : List ℕ
  pub index : ℕ
  pub inverse : Bool

abbrev pub store : ℕ → List ℕ → ℕ → Bool → Store
store place font index inverse = record { place = place; font = font; index = index; inverse = inverse }

abbrev pub flipped : Bool → ℕ → ℕ
flipped inverse b = cond inverse (255 - b) b

abbrev pub value : Store → ℕ
value w = flipped w.inverse (get_or w.font w.index 0)

-- the stores of a list, in the order in which they are made
unfoldable pub paint : List Store → List ℕ → List ℕ
paint [] s = s
paint (w ∷ ws) s = paint ws (set s w.place (value w))

-- no byte lies past the end of its font
unfoldable pub fonts_fit : List Store → Bool
fonts_fit [] = true
fonts_fit (w ∷ ws) = ltb w.index (length w.font) && fonts_fit ws

-- ---- glyphs of h lines, on a screen with lines of st bytes

-- of one byte a line: the font's bytes from i on, down from a place
unfoldable pub column_stores : ℕ → List ℕ → ℕ → ℕ → Bool → ℕ → List Store
column_stores st font place i inverse zero = []
column_stores st font place i inverse (suc h) = store place font i inverse ∷ column_stores st font (place + st) (i + 1) inverse h

-- of two bytes a line, each half inverted or not by itself
unfoldable pub line_stores : ℕ → List ℕ → ℕ → ℕ → ℕ → Bool → Bool → ℕ → List Store
line_stores st font left right i invertLeft invertRight zero = []
line_stores st font left right i invertLeft invertRight (suc h) =
    store left font i invertLeft ∷ (store right font (i + 1) invertRight ∷ line_stores st font (left + st) (right + st) (i + 2) invertLeft invertRight h)

-- the character of a hexadecimal digit: 0-9, then A-F
abbrev pub digit : ℕ → ℕ
digit n = cond (ltb n 10) (48 + n) (55 + n)

-- a byte in hexadecimal, from 8-line characters: the high digit in the upper eight lines, the low one under it
unfoldable pub code_stores : ℕ → List ℕ → ℕ → ℕ → List Store
code_stores st ascii8 place b = column_stores st ascii8 place (8 * digit (b / 16)) false 8 ++ column_stores st ascii8 (place + 8 * st) (8 * digit (b % 16)) false 8

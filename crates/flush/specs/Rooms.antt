-- What painting asks of the screen and of the fonts.
use Rattle.std.specs.Prelude.{Bool, true, false, List, [], ◌≡◌, ℕ, ◌+◌, ◌*◌, ◌/◌, ◌%◌, ◌≤◌, ◌<◌, max, length, take, drop}
use Rattle.model.specs.declared.Glyph.{Glyph}
use Rattle.model.specs.declared.Glyph.TheVariants.{Emoji, Gb, Extra, Hexadecimal}
use Rattle.model.specs.declared.Spot.{Spot}
use Rattle.model.specs.declared.CellKind.TheVariants.{Pair}
use Rattle.model.specs.declared.Shown.{Shown}
use Rattle.model.specs.Glyphs.{digit}
use Rattle.model.specs.Flush.{top_of, right_of}

-- h lines down from a place lie on the screen
pub record Room (st : ℕ) (screen : List ℕ) (place h : ℕ) : Type 0 where
  pub narrow : st ≤ 32
  pub small : length screen ≤ 65536
  pub inside : place + st * h < length screen + st

-- the thirty-two bytes of a glyph, in the font that holds it
unfoldable pub part_of : List ℕ → List ℕ → List ℕ → Glyph → List ℕ
part_of emoji gb extra (Emoji i) = take 32 (drop (32 * i) emoji)
part_of emoji gb extra (Gb i) = take 32 (drop (32 * i) gb)
part_of emoji gb extra (Extra i) = take 32 (drop i extra)
part_of emoji gb extra Hexadecimal = []

-- they are there
abbrev pub PartFits : List ℕ → List ℕ → List ℕ → Glyph → Type 0
PartFits emoji gb extra (Emoji i) = 32 * i + 32 ≤ length emoji
PartFits emoji gb extra (Gb i) = 32 * i + 32 ≤ length gb
PartFits emoji gb extra (Extra i) = i + 32 ≤ length extra
PartFits emoji gb extra Hexadecimal = Unit {0}

-- the end of the characters of a byte's two digits in the 8-line font
abbrev pub code_end : ℕ → ℕ
code_end b = max (8 * digit (b / 16)) (8 * digit (b % 16)) + 8

-- a text of st columns and n rows
pub record TextSize (st n : ℕ) : Type 0 where
  pub wide : 0 < st
  pub narrow : st ≤ 32
  pub low : n ≤ 16

-- a screen for it
pub record TextScreen (st n : ℕ) (screen : List ℕ) : Type 0 where
  pub text : TextSize st n
  pub small : length screen ≤ 65536
  pub sized : 16 * (st * n) ≤ length screen

-- a spot of a text on its screen
pub record OnScreen (st n : ℕ) (screen : List ℕ) (s : Spot) : Type 0 where
  pub whole : TextScreen st n screen
  pub row : s.row < n
  pub column : s.column < st
  pub cell : s.cell ≤ 560

-- a column of sixteen lines at a spot lies on the screen
pub record SpotRoom (st : ℕ) (screen : List ℕ) (s : Spot) : Type 0 where
  pub row : s.row ≤ 16
  pub column : s.column ≤ 32
  pub left : Room st screen (top_of st s.row s.column) 16

-- so does the right half of a pair, and the byte after the first column
pub record PairRoom (st : ℕ) (screen : List ℕ) (s : Spot) : Type 0 where
  pub spot : SpotRoom st screen s
  pub cell : s.cell ≤ 560
  pub right : Room st screen (right_of st s) 16
  pub beside : Room st screen (top_of st s.row s.column + 1) 16

-- what is shown lies on the screen
pub record ShownRoom (st : ℕ) (screen : List ℕ) (w : Shown) : Type 0 where
  pub spot : SpotRoom st screen w.spot
  pub pair : w.kind ≡ Pair → PairRoom st screen w.spot

unfoldable pub is_hexadecimal : Glyph → Bool
is_hexadecimal (Emoji i) = false
is_hexadecimal (Gb i) = false
is_hexadecimal (Extra i) = false
is_hexadecimal Hexadecimal = true

-- What a picture says of a call: what it answers and leaves on every record that passes STATE with dirty and owed empty, and on every memory of its length.
use Rattle.std.specs.Prelude.{◌≡◌, ◌≢◌, ◌⊎◌, Bool, true, false, not, cond, List, [], ◌∷◌, ◌++◌, map, ℕ, zero, suc, ◌+◌, ◌-◌, ◌*◌, ◌/◌, ◌%◌, ◌<◌, ltb, length, get_or}
use Rattle.model.specs.declared.Rect.{Rect}
use Rattle.model.specs.Geometry.{base}
use Rattle.model.specs.Pixels.{PixelWrite, bit}
use Rattle.model.specs.Rects.{none}
use Rattle.model.specs.Memory.{zeros, window, with_screen}
use Rattle.model.specs.Bytes.{Bytes}
use Rattle.model.specs.Record.{Pending, State, panel_of, decode, encode, valid, with_head, with_panels}
use Rattle.model.specs.Marks.{with_dirty}
use Rattle.model.specs.Glyphs.{Fonts, digit, flipped}
use Rattle.model.specs.Flush.{flag_at}
use Rattle.model.specs.Calls.{Call, flush, Lent, Outcome, outcome}
use Rattle.laws.specs.Pixels.{Each}
use Rattle.order.specs.Step.{screen_held}

abbrev pub rect : ℕ → ℕ → ℕ → ℕ → Rect
rect left top right bottom = record { left = left; top = top; right = right; bottom = bottom }

-- ---- what is owed, by the five bands

abbrev pub nothing : List Rect
nothing = none ∷ none ∷ none ∷ none ∷ none ∷ []

-- in the first band, and in the last
abbrev pub first : Rect → List Rect
first q = q ∷ none ∷ none ∷ none ∷ none ∷ []

abbrev pub last : Rect → List Rect
last q = none ∷ none ∷ none ∷ none ∷ q ∷ []

-- from a line of the first band down to the last line of the screen
abbrev pub down_from : ℕ → ℕ → ℕ → List Rect
down_from left top right = rect left top right 16 ∷ rect left 16 right 32 ∷ rect left 32 right 48 ∷ rect left 48 right 64 ∷ rect left 64 right 80 ∷ []

-- ---- pixels

-- a pixel that is set, cleared or inverted
abbrev pub sets : ℕ → ℕ → PixelWrite
sets x y = record { x = x; y = y; op = λ v. true }

abbrev pub clears : ℕ → ℕ → PixelWrite
clears x y = record { x = x; y = y; op = λ v. false }

abbrev pub inverts : ℕ → ℕ → PixelWrite
inverts x y = record { x = x; y = y; op = not }

-- t is the screen s with the pixels that ps names made what it says, and no other pixel changed
pub record Changed (ps : List PixelWrite) (s t : List ℕ) : Type 0 where
  pub made : Each (λ p. bit 20 t p.x p.y ≡ p.op (bit 20 s p.x p.y)) ps
  pub others : (x y : ℕ) → x < 160 → y < 80 → Each (λ p. (x ≢ p.x) ⊎ (y ≢ p.y)) ps → bit 20 t x y ≡ bit 20 s x y

-- ---- lent bytes

abbrev pub dirty_in : Lent → Rect
dirty_in l = (decode base l.rec).head.dirty

-- what panel k is owed
abbrev pub owed_in : ℕ → Lent → List Rect
owed_in k l = (panel_of base (decode base l.rec) k).owed

abbrev pub graphics_in : Lent → ℕ
graphics_in l = (decode base l.rec).head.graphics

abbrev pub screen_in : Lent → List ℕ
screen_in l = screen_held base l

abbrev pub edge_flag : Lent → ℕ
edge_flag l = (decode base l.rec).edge

-- the record passes STATE, its dirty and each panel's owed are empty, and the memory has its length
pub record Unmarked (l : Lent) : Type 0 where
  pub sized : length l.rec ≡ 359
  pub bytes : Bytes l.rec
  pub passes : valid base l.rec ≡ true
  pub memory : length l.memory ≡ 65536
  pub dirty : dirty_in l ≡ none
  pub owed : (k : ℕ) → k < 4 → owed_in k l ≡ nothing

-- a panel that is owed o
abbrev pub with_owed : List Rect → Pending → Pending
with_owed o p = record { owed = o; hand = p.hand; sent = p.sent }

-- a state with another dirty and another owed, the same for each panel
abbrev pub with_marks : Rect → List Rect → State → State
with_marks d o s = with_head (with_dirty d s.head) (with_panels (map (with_owed o) s.panels) s)

-- ---- pictures

-- a call that was lent l is done; it leaves dirty d and o owed to each panel, a screen of which P holds, and nothing else is changed
pub record Leaves (l : Lent) (P : List ℕ → Type 0) (d : Rect) (o : List Rect) (out : Outcome) : Type 0 where
  pub code : out.code ≡ 0
  pub numbers : out.numbers ≡ []
  pub dirty : dirty_in out.left ≡ d
  pub owed : (k : ℕ) → k < 4 → owed_in k out.left ≡ o
  pub screen : P (screen_in out.left)
  -- no other field of the record changes, no byte of memory outside the screen, and no byte of the panel
  pub rec : out.left.rec ≡ encode base (with_marks d o (decode base l.rec))
  pub memory : out.left.memory ≡ with_screen (graphics_in l) (screen_in out.left) l.memory
  pub panel : out.left.panel ≡ l.panel

-- it changes the pixels that ps names
abbrev pub Drew : Lent → List PixelWrite → Rect → List Rect → Outcome → Type 0
Drew l ps d o out = Leaves l (Changed ps (screen_in l)) d o out

abbrev pub Picture : Call → List PixelWrite → Rect → List Rect → Type 0
Picture c ps d o = (l : Lent) → Unmarked l → Drew l ps d o (outcome base c l)

-- so with one edge flag
abbrev pub EdgePicture : ℕ → Call → List PixelWrite → Rect → List Rect → Type 0
EdgePicture edge c ps d o = (l : Lent) → Unmarked l → edge_flag l ≡ edge → Drew l ps d o (outcome base c l)

-- ---- pages

-- the text's cells
abbrev pub page_in : Lent → List ℕ
page_in l = window (decode base l.rec).head.text 100 l.memory

-- the inverse flag of a cell
abbrev pub flag_in : Lent → ℕ → Bool
flag_in l cell = flag_at (decode base l.rec).flags cell

-- a record in Text mode, and a page that holds the pair alone, in its first two cells
pub record OnePair (lead trail : ℕ) (l : Lent) : Type 0 where
  pub unmarked : Unmarked l
  pub text : (decode base l.rec).head.screen ≡ 0
  pub page : page_in l ≡ lead ∷ trail ∷ zeros 98

-- the eight lines of a character
abbrev pub character : List ℕ → ℕ → List ℕ
character ascii8 c = window (8 * c) 8 ascii8

-- line y of a column of sixteen: one character over another
abbrev pub over : List ℕ → List ℕ → ℕ → ℕ
over upper lower y = cond (ltb y 8) (get_or upper y 0) (get_or lower (y - 8) 0)

-- a byte in hexadecimal: its high digit over its low one
abbrev pub digits_of : List ℕ → ℕ → ℕ → ℕ
digits_of ascii8 b = over (character ascii8 (digit (b / 16))) (character ascii8 (digit (b % 16)))

-- line y of a glyph's left or right half (0, 1), inverted or not
abbrev pub half_of : List ℕ → ℕ → Bool → ℕ → ℕ
half_of glyph side inverse y = flipped inverse (get_or glyph (2 * y + side) 0)

-- n lines of a screen from line y on: a byte of each of two columns, and nothing else
abbrev pub corner_lines : (ℕ → ℕ) → (ℕ → ℕ) → ℕ → ℕ → List ℕ
corner_lines left right y zero = []
corner_lines left right y (suc n) = left y ∷ right y ∷ (zeros 18 ++ corner_lines left right (y + 1) n)

-- a screen that has two columns of sixteen lines in its upper left corner, and nothing else
abbrev pub corner : (ℕ → ℕ) → (ℕ → ℕ) → List ℕ
corner left right = corner_lines left right 0 16 ++ zeros 1280

-- a glyph there, each half inverted where its own cell's flag is 1
abbrev pub corner_glyph : Lent → List ℕ → List ℕ
corner_glyph l glyph = corner (half_of glyph 0 (flag_in l 0)) (half_of glyph 1 (flag_in l 1))

-- a flush with the fonts f leaves the screen `shown`, and marks the whole of it
abbrev pub Shows : Fonts → Lent → List ℕ → Type 0
Shows f l shown = Leaves l (λ s. s ≡ shown) (rect 0 0 160 80) (down_from 0 0 160) (outcome base (flush f) l)

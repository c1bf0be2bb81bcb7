-- The GLYPH test as code makes it: by what is shown, whatever the place on the screen and the flags.
use Rattle.std.specs.Prelude.{Bool, true, ◌&&◌, List, [], ◌∷◌, ℕ, zero, suc, ◌+◌, ◌*◌, ◌/◌, ◌%◌, leb, eqb, length, get_or}
use Rattle.model.specs.declared.Glyph.{Glyph}
use Rattle.model.specs.declared.Glyph.TheVariants.{Emoji, Gb, Extra, Hexadecimal}
use Rattle.model.specs.declared.CellKind.{CellKind}
use Rattle.model.specs.declared.CellKind.TheVariants.{Blank, Single, Pair, Code}
use Rattle.model.specs.declared.Shown.{Shown}
use Rattle.model.specs.Bytes.{four}
use Rattle.model.specs.Glyphs.{Fonts, digit, glyph_of}
use Rattle.model.specs.Flush.{spot, walk}

-- the characters of a byte's two digits
unfoldable pub code_fits : List ℕ → ℕ → Bool
code_fits ascii8 b = leb (8 * digit (b / 16) + 8) (length ascii8) && leb (8 * digit (b % 16) + 8) (length ascii8)

unfoldable pub glyph_fits : List ℕ → List ℕ → List ℕ → List ℕ → ℕ → ℕ → Glyph → Bool
glyph_fits ascii8 gb emoji extra lead trail (Emoji i) = leb (32 * i + 32) (length emoji)
glyph_fits ascii8 gb emoji extra lead trail (Gb i) = leb (32 * i + 32) (length gb)
glyph_fits ascii8 gb emoji extra lead trail (Extra i) = leb (i + 32) (length extra)
glyph_fits ascii8 gb emoji extra lead trail Hexadecimal = code_fits ascii8 lead && code_fits ascii8 trail

unfoldable pub kind_fits : ℕ → Fonts → ℕ → ℕ → CellKind → Bool
kind_fits version f lead trail Blank = true
kind_fits version f lead trail Single = leb (16 * lead + 16) (length f.ascii16)
kind_fits version f lead trail Pair = glyph_fits f.ascii8 f.gb f.emoji f.extra_font lead trail (glyph_of version f.extra_list lead trail)
kind_fits version f lead trail Code = code_fits f.ascii8 lead

abbrev pub shown_fits : ℕ → Fonts → Shown → Bool
shown_fits version f w = kind_fits version f w.lead w.trail w.kind

unfoldable pub walk_fits : ℕ → Fonts → List Shown → Bool
walk_fits version f [] = true
walk_fits version f (w ∷ ws) = shown_fits version f w && walk_fits version f ws

-- a text of st columns and n rows
abbrev pub text_fits : ℕ → ℕ → List ℕ → ℕ → Fonts → Bool
text_fits st n text version f = walk_fits version f (walk st n text (n * st) (spot 0 0 0))

-- k cells of a text, from cell i on, are zero; cells past the last one are
unfoldable pub blank_cells : List ℕ → ℕ → ℕ → Bool
blank_cells text i zero = true
blank_cells text i (suc k) = eqb (get_or text i 0) 0 && blank_cells text (i + 1) k

-- n entries of the extra list, from byte i of it on, have their thirty-two bytes in the extra font
unfoldable pub entries_fit_from : List ℕ → List ℕ → ℕ → ℕ → Bool
entries_fit_from list extra i zero = true
entries_fit_from list extra i (suc n) = leb (four list (i + 2) + 32) (length extra) && entries_fit_from list extra (i + 6) n

abbrev pub entries_fit : List ℕ → List ℕ → Bool
entries_fit list extra = entries_fit_from list extra 0 (length list / 6)

-- fonts that hold every code: the digits up to F, 128 characters, 7,614 GB characters, 527 emoji, and what every entry of the extra list names
unfoldable pub whole_fonts : List ℕ → List ℕ → List ℕ → List ℕ → List ℕ → List ℕ → Bool
whole_fonts ascii8 ascii16 gb emoji list extra =
    ((leb 568 (length ascii8) && leb 2048 (length ascii16)) && (leb 243648 (length gb) && leb 16864 (length emoji))) && entries_fit list extra

-- The known pictures of document 01 that it stars, both of its scripts, and pictures of our own, from the definitions of crates/model/specs. Picture.antt says what a picture is:
-- each starts with dirty and owed empty, in any record that passes STATE and over any memory. `script_text` of crates/model/specs/Script/Output.antt is what a script prints.
use Rattle.std.specs.Prelude.{◌≡◌, List, [], ◌∷◌, ◌++◌, ℕ, ◌+◌, ◌*◌, ◌/◌, ◌%◌, ◌≤◌, ◌<◌, ℤ, pos, negsuc, length, get_or, Option, Some, None}
use Prim.Native.Char.{code}
use Rattle.model.specs.declared.Glyph.TheVariants.{Extra, Hexadecimal}
use Rattle.model.specs.Geometry.{base}
use Rattle.model.specs.Memory.{zeros, window, with_window}
use Rattle.model.specs.Bytes.{two_bytes, four_bytes}
use Rattle.model.specs.Pixels.{bit}
use Rattle.model.specs.Rects.{none}
use Rattle.model.specs.Refusals.{SOURCE}
use Rattle.model.specs.Ellipses.{part, parts, steps}
use Rattle.model.specs.Codes.{emoji_index, gb_index, extra_offset}
use Rattle.model.specs.Glyphs.{Fonts, glyph_or, glyph_of}
use Rattle.model.specs.Shapes.{point, line, box, circle, bitmap}
use Rattle.model.specs.Calls.{draw, Lent, answered, outcome}
use Rattle.model.specs.Characters.{bytes_of}
use Rattle.model.specs.Script.Output.{script_text}
use Rattle.pictures.specs.Picture.{screen_in, edge_flag, rect, nothing, first, last, down_from, sets, clears, inverts, Unmarked, Drew, Picture, EdgePicture, OnePair, character, over, digits_of, corner, corner_glyph, Shows}
use Rattle.pictures.specs.Drawings.{clear_bytes}

-- draw modes, the paint mode Copy, the fill flag, the edge flag, emoji versions
abbrev or : ℕ
or = 1

abbrev xor : ℕ
xor = 2

abbrev unknown : ℕ
unknown = 3

abbrev copy : ℕ
copy = 0

abbrev outlined : ℕ
outlined = 0

abbrev filled : ℕ
filled = 1

abbrev clamp : ℕ
clamp = 0

abbrev stop : ℕ
stop = 1

abbrev V1 : ℕ
V1 = 0

abbrev V2 : ℕ
V2 = 1

-- the emoji index of a code, lead × 256 + trail
abbrev emoji_of : ℕ → ℕ → Option ℕ
emoji_of version code = emoji_index version (code / 256) (code % 256)

-- and its GB index
abbrev gb_of : ℕ → Option ℕ
gb_of code = gb_index (code / 256) (code % 256)

pub record KnownPictures : Type 0 where
  -- Each starts with dirty and owed empty: there are such lent bytes
  pub start : (edge : ℕ) → edge ≤ 1 → (m : List ℕ) → length m ≡ 65536 → Unmarked (clear_bytes edge m)
  pub start_edge : (edge : ℕ) → edge ≤ 1 → (m : List ℕ) → edge_flag (clear_bytes edge m) ≡ edge
  -- Point (160, 0): nothing
  pub point_off : (mode : ℕ) → mode ≤ 3 → (l : Lent) → Unmarked l → outcome base (draw (point 160 0 mode)) l ≡ answered 0 [] l
  -- Point (5, 5) Unknown: only dirty and owed 5, 5, 6, 6
  pub point_unknown : Picture (draw (point 5 5 unknown)) [] (rect 5 5 6 6) (first (rect 5 5 6 6))
  -- Line (200, 90)-(210, 90) Or: pixel (159, 79); dirty 200, 90, 211, 91; owed 159, 79, 160, 80
  pub line_clamped : EdgePicture clamp (draw (line 200 90 210 90 or)) (sets 159 79 ∷ []) (rect 200 90 211 91) (last (rect 159 79 160 80))
  -- Line (0, 0)-(2, 1) Or: (0, 0), (1, 0), (2, 1)
  pub line_sloped : Picture (draw (line 0 0 2 1 or)) (sets 0 0 ∷ sets 1 0 ∷ sets 2 1 ∷ []) (rect 0 0 3 2) (first (rect 0 0 3 2))
  -- Filled box (0, 78)-(7, 80) Xor: row 79 unchanged; row 78 is inverted from 0 to 7
  pub box_row_79 : (l : Lent) → Unmarked l → edge_flag l ≡ clamp → (x : ℕ) → x < 160
      → bit 20 (screen_in (outcome base (draw (box 0 78 7 80 filled xor)) l).left) x 79 ≡ bit 20 (screen_in l) x 79
  pub box_row_78 : EdgePicture clamp (draw (box 0 78 7 80 filled xor))
      (inverts 0 78 ∷ inverts 1 78 ∷ inverts 2 78 ∷ inverts 3 78 ∷ inverts 4 78 ∷ inverts 5 78 ∷ inverts 6 78 ∷ inverts 7 78 ∷ [])
      (rect 0 78 8 81) (last (rect 0 78 8 80))
  -- Circle (10, 10) radius 2: parts (2, 0), (2, 1), (2, 2), (0, 2) in 4 steps; Or sets their corners
  pub circle_parts : parts 2 2 ≡ part 2 0 ∷ part 2 1 ∷ part 2 2 ∷ part 0 2 ∷ []
  pub circle_steps : steps 2 2 ≡ 4
  pub circle_corners : Picture (draw (circle 10 10 2 outlined or))
      (sets 8 10 ∷ sets 12 10 ∷ sets 8 9 ∷ sets 12 9 ∷ sets 8 11 ∷ sets 12 11 ∷ sets 8 8 ∷ sets 12 8 ∷ sets 8 12 ∷ sets 12 12 ∷ sets 10 8 ∷ sets 10 12 ∷ [])
      (rect 8 8 160 80) (down_from 8 8 160)
  -- Radius 1 Or: (9, 10), (11, 10) only
  pub circle_one : Picture (draw (circle 10 10 1 outlined or)) (sets 9 10 ∷ sets 11 10 ∷ []) (rect 9 9 160 80) (down_from 9 9 160)
  -- Byte 0x81 copied at (-1, 0), 8 by 1: pixel 6 set, 0-5 cleared; dirty 0, 0, 7, 1
  pub bitmap_clipped : (address : ℕ) → address < 65536 → (l : Lent) → Unmarked l → get_or l.memory address 0 ≡ 0x81
      → Drew l (clears 0 0 ∷ clears 1 0 ∷ clears 2 0 ∷ clears 3 0 ∷ clears 4 0 ∷ clears 5 0 ∷ sets 6 0 ∷ []) (rect 0 0 7 1) (first (rect 0 0 7 1))
      (outcome base (draw (bitmap address (negsuc 0) (pos 0) 8 1 copy)) l)
  -- Width 9, height 1, address 65,535: SOURCE; 65,534 accepted
  pub source_refused : (x y : ℤ) (mode : ℕ) → mode ≤ 4 → (l : Lent) → Unmarked l → outcome base (draw (bitmap 65535 x y 9 1 mode)) l ≡ answered SOURCE [] l
  pub source_accepted : (x y : ℤ) (mode : ℕ) → mode ≤ 4 → (l : Lent) → Unmarked l → (outcome base (draw (bitmap 65534 x y 9 1 mode)) l).code ≡ 0
  -- Codes 0xFA46 and 0xFD7D in V1: 0 and 526; so 0xF8A1 and 0xFDD9 in V2
  pub codes_V1 : (emoji_of V1 0xFA46 ≡ Some 0) × (emoji_of V1 0xFD7D ≡ Some 526)
  pub codes_V2 : (emoji_of V2 0xF8A1 ≡ Some 0) × (emoji_of V2 0xFDD9 ≡ Some 526)
  -- The point form, then a send, prints `(done)`, `(sent 0 0 160)`, `(end 0 79)`
  pub point_send : script_text (bytes_of "(point (3 0) or)\n(send)\n") ≡ bytes_of "(done)\n(sent 0 0 160)\n(end 0 79)\n"
  -- Send first gives `(sent 0 0 160)`, `(done)`, `(end 1 80)`
  pub send_point : script_text (bytes_of "(send)\n(point (3 0) or)\n") ≡ bytes_of "(sent 0 0 160)\n(done)\n(end 1 80)\n"
  -- Our own, of what is owed by bands. Line (3, 14)-(3, 17) Or: owed 3, 14, 4, 16 in the first band and 3, 16, 4, 18 in the second
  pub line_down : Picture (draw (line 3 14 3 17 or)) (sets 3 14 ∷ sets 3 15 ∷ sets 3 16 ∷ sets 3 17 ∷ []) (rect 3 14 4 18) (rect 3 14 4 16 ∷ rect 3 16 4 18 ∷ none ∷ none ∷ none ∷ [])
  -- A send, then a point in the first line and one in the last: 15 lines in hand, 1 owed in the first band, the 64 of the others; as one rectangle 159 would be left
  pub send_points : script_text (bytes_of "(send)\n(point (3 0) or)\n(point (3 79) or)\n") ≡ bytes_of "(sent 0 0 160)\n(done)\n(done)\n(end 2 80)\n"
  -- Our own, of lines that stop at the edge. Line (200, 90)-(210, 90): nothing drawn, nothing owed; dirty 200, 90, 211, 91
  pub line_beyond : EdgePicture stop (draw (line 200 90 210 90 or)) [] (rect 200 90 211 91) nothing
  -- Line (150, 79)-(170, 79): ten pixels
  pub line_cut : EdgePicture stop (draw (line 150 79 170 79 or))
      (sets 150 79 ∷ sets 151 79 ∷ sets 152 79 ∷ sets 153 79 ∷ sets 154 79 ∷ sets 155 79 ∷ sets 156 79 ∷ sets 157 79 ∷ sets 158 79 ∷ sets 159 79 ∷ [])
      (rect 150 79 171 80) (last (rect 150 79 160 80))
  -- Filled box (0, 78)-(7, 80) Xor: rows 78 and 79 inverted once
  pub box_cut : EdgePicture stop (draw (box 0 78 7 80 filled xor))
      (inverts 0 78 ∷ inverts 1 78 ∷ inverts 2 78 ∷ inverts 3 78 ∷ inverts 4 78 ∷ inverts 5 78 ∷ inverts 6 78 ∷ inverts 7 78
      ∷ inverts 0 79 ∷ inverts 1 79 ∷ inverts 2 79 ∷ inverts 3 79 ∷ inverts 4 79 ∷ inverts 5 79 ∷ inverts 6 79 ∷ inverts 7 79 ∷ [])
      (rect 0 78 8 81) (last (rect 0 78 8 80))
  -- Outlined box (158, 78)-(161, 81): its upper side and its left one, cut
  pub outline_cut : EdgePicture stop (draw (box 158 78 161 81 outlined or)) (sets 158 78 ∷ sets 159 78 ∷ sets 158 79 ∷ []) (rect 158 78 162 82) (last (rect 158 78 160 80))
  -- Filled circle (162, 10) radius 2: nothing drawn, nothing owed; clamped, it is five pixels of the last column
  pub disc_beyond : EdgePicture stop (draw (circle 162 10 2 filled or)) [] (rect 160 8 165 80) nothing
  pub disc_clamped : EdgePicture clamp (draw (circle 162 10 2 filled or)) (sets 159 8 ∷ sets 159 9 ∷ sets 159 10 ∷ sets 159 11 ∷ sets 159 12 ∷ []) (rect 160 8 165 80) (down_from 159 8 160)
  -- Our own, of GB 2312-80 and its empty rows, 10-15. Row 16 follows row 9 in the font
  pub codes_GB : (gb_of 0xA1A1 ≡ Some 0) × (gb_of 0xA9FE ≡ Some 845) × (gb_of 0xB0A1 ≡ Some 846) × (gb_of 0xF7FE ≡ Some 7613)
  -- A pair of leads 170-175 goes on to the extra list, then to hexadecimal codes
  pub empty_rows : (version : ℕ) (list : List ℕ) (lead trail : ℕ) → 170 ≤ lead → lead ≤ 175
      → glyph_of version list lead trail ≡ glyph_or (extra_offset list (256 * lead + trail)) Extra Hexadecimal
  -- A pair alone on a page in Text mode: there are such lent bytes
  pub one_pair : (lead trail : ℕ) (m : List ℕ) → length m ≡ 65536 → OnePair lead trail (clear_bytes clamp (with_window 8192 (lead ∷ trail ∷ zeros 98) m))
  -- 0xAFC4 with no extra list: `A` over `F` in its left column, `C` over `4` in its right one
  pub unassigned_codes : (f : Fonts) (l : Lent) → OnePair 0xAF 0xC4 l → f.extra_list ≡ [] → 568 ≤ length f.ascii8
      → Shows f l (corner (over (character f.ascii8 (code "A")) (character f.ascii8 (code "F"))) (over (character f.ascii8 (code "C")) (character f.ascii8 (code "4"))))
  -- With an entry for it, that glyph
  pub unassigned_glyph : (f : Fonts) (l : Lent) → OnePair 0xAF 0xC4 l → (i : ℕ) → f.extra_list ≡ two_bytes 0xAFC4 ++ four_bytes i
      → i < 4294967296 → i + 32 ≤ length f.extra_font → Shows f l (corner_glyph l (window i 32 f.extra_font))
  -- So every pair of these rows, with any extra list that has no entry for it, and with one that has
  pub empty_row_codes : (lead trail : ℕ) → 170 ≤ lead → lead ≤ 175 → (f : Fonts) (l : Lent) → OnePair lead trail l → length f.extra_list % 6 ≡ 0
      → extra_offset f.extra_list (256 * lead + trail) ≡ None → trail < 256 → 568 ≤ length f.ascii8
      → Shows f l (corner (digits_of f.ascii8 lead) (digits_of f.ascii8 trail))
  pub empty_row_glyph : (lead trail : ℕ) → 170 ≤ lead → lead ≤ 175 → (f : Fonts) (l : Lent) → OnePair lead trail l → length f.extra_list % 6 ≡ 0
      → (i : ℕ) → extra_offset f.extra_list (256 * lead + trail) ≡ Some i → i + 32 ≤ length f.extra_font → Shows f l (corner_glyph l (window i 32 f.extra_font))

-- A page with a pair of an empty GB row alone: the walk shows it and blank cells, the extra list decides, and the stores compute to the picture.
use Rattle.std.specs.Prelude.{◌≡◌, Bool, true, false, ◌&&◌, ℕ, ◌+◌, ◌*◌, ◌/◌, ◌%◌, ◌≤◌, ◌<◌, Some, None}
use Rattle.std.proofs.Math.Path.{refl, ap}
use Rattle.std.proofs.Common.{sym, ◌∙◌, inr, add-zero, arith}
use mathlib.Core.List.{List, [], ◌∷◌, ◌++◌, append-nil}
use Prim.Native.Char.{code}
use Rattle.std.proofs.Math.ListN.{length}
use borrow.Author.Tests.{eq-eqb, ne_eqb, le-ltb, le-leb}
use Rattle.model.specs.declared.Glyph.{Glyph}
use Rattle.model.specs.declared.Glyph.TheVariants.{Extra, Hexadecimal}
use Rattle.model.specs.declared.CellKind.{CellKind}
use Rattle.model.specs.declared.CellKind.TheVariants.{Pair}
use Rattle.model.specs.Geometry.{base}
use Rattle.model.specs.Rects.{is_empty, join, cut}
use Rattle.model.specs.Memory.{zeros, window, with_window}
use Rattle.model.specs.Bytes.{two_bytes, four_bytes}
use Rattle.model.specs.Record.{State, decode}
use Rattle.model.specs.Marks.{join_owed, whole}
use Rattle.model.specs.Open.{open_state}
use Rattle.model.specs.Codes.{extra_from, extra_offset}
use Rattle.model.specs.Glyphs.{Fonts, Store, digit, glyph_or, glyph_of, paint, fonts_fit, column_stores, code_stores}
use Rattle.model.specs.Flush.{spot, is_last, kind_of, cells_taken, spot_after, walk, flag_at, glyph_stores, kind_stores, stores, text_stores, flush_stores, flushed}
use Rattle.model.specs.Calls.{flush, Lent, done}
use Rattle.laws.specs.Calls.{Tested}
use Rattle.laws.specs.Glyphs.{empty_row, found_at, found_nothing, fits-append, code-fits, digits_fit, lines_fits, length-paint, paint-append, glyph_lines, paint_lines, part_lines, part_column}
use Rattle.laws.specs.Loops.{length-zeros}
use Rattle.laws.specs.Layout.{four_back}
use Rattle.laws.specs.Memory.{length-with_window, window_same}
use Rattle.pictures.specs.Picture.{OnePair, rect, down_from, character, over, digits_of, half_of, corner, corner_glyph, Shows}
use Rattle.pictures.specs.Drawings.{clear_bytes, clear-state, clear_unmarked, passing, done_where, leaves}

-- ---- bytes to start from: the pair on the page of a memory

pub one_pair : (lead trail : ℕ) (m : List ℕ) → length m ≡ 65536 → OnePair lead trail (clear_bytes 0 (with_window 8192 (lead ∷ trail ∷ zeros 98) m))
unfolding clear_bytes open_state zeros
one_pair lead trail m n =
    let page : List ℕ = lead ∷ trail ∷ zeros 98 in
    let e = clear-state 0 (omega arith) (with_window 8192 page m) in
    record {
      unmarked = clear_unmarked 0 (omega arith) (with_window 8192 page m) (length-with_window 8192 page m (rw n (omega arith)) ∙ n);
      text = ap (λ (s : State). s.head.screen) e;
      page = ap (λ (s : State). window s.head.text 100 (with_window 8192 page m)) e ∙ window_same 8192 100 page m refl (rw n (omega arith));
    }

-- ---- what is painted of the codes and of a glyph, in the first two cells

-- four characters of eight lines
four-painted : (a b c d : List ℕ)
    → paint (column_stores 20 d 161 0 false 8) (paint (column_stores 20 c 1 0 false 8) (paint (column_stores 20 b 160 0 false 8) (paint (column_stores 20 a 0 0 false 8) (zeros 1600))))
    ≡ corner (over a b) (over c d)
unfolding column_stores paint zeros
four-painted a b c d = refl

-- a character is painted from its own eight bytes
character-painted : (font : List ℕ) (c place : ℕ) (s : List ℕ) → paint (column_stores 20 font place (8 * c) false 8) s ≡ paint (column_stores 20 (character font c) place 0 false 8) s
unfolding window
character-painted font c place s = cc (add-zero (8 * c), part_column 20 font false (8 * c) 8 place 0 8 s (omega arith))

code_painted : (font : List ℕ) (place b : ℕ) (s : List ℕ) → paint (code_stores 20 font place b) s
    ≡ paint (column_stores 20 (character font (digit (b % 16))) (place + 160) 0 false 8) (paint (column_stores 20 (character font (digit (b / 16))) place 0 false 8) s)
unfolding code_stores
code_painted font place b s =
    let high = column_stores 20 font place (8 * digit (b / 16)) false 8 in
    let low = column_stores 20 font (place + 160) (8 * digit (b % 16)) false 8 in
    paint-append high low s ∙ (character-painted font (digit (b % 16)) (place + 160) (paint high s)
    ∙ ap (paint (column_stores 20 (character font (digit (b % 16))) (place + 160) 0 false 8)) (character-painted font (digit (b / 16)) place s))

lines_painted : (left right : Bool) (g : List ℕ) → paint_lines 20 0 1 left right (glyph_lines g 0 16) (zeros 1600) ≡ corner (half_of g 0 left) (half_of g 1 right)
unfolding paint_lines zeros
lines_painted left right g = refl

-- ---- one pair of these rows

module _ (lead trail : ℕ) (from : 170 ≤ lead) (to : lead ≤ 175) where
  -- the glyph of the pair, in the first two cells
  abbrev pair_stores : List Bool → Fonts → Glyph → List Store
  pair_stores flags f g = glyph_stores 20 flags f.ascii8 f.gb f.emoji f.extra_font (spot 0 0 0) lead trail g

  pair : kind_of 20 5 lead (spot 0 0 0) ≡ Pair
  unfolding kind_of is_last
  pair = rw (ne_eqb lead 0 (λ e. absurd (omega arith)), le-ltb lead 128 (omega arith))

  -- what is painted where the first cell is of kind k
  abbrev from_first : List Bool → ℕ → Fonts → CellKind → List Store
  from_first flags version f k =
      stores 20 flags version f (record { spot = spot 0 0 0; lead = lead; trail = trail; kind = k } ∷ walk 20 5 (lead ∷ trail ∷ zeros 98) 99 (spot_after 20 (spot 0 0 0) (cells_taken k)))

  -- all other cells are blank
  page-stores : (flags : List Bool) (version : ℕ) (f : Fonts)
      → text_stores 20 5 (lead ∷ trail ∷ zeros 98) flags version f ≡ pair_stores flags f (glyph_of version f.extra_list lead trail)
  unfolding text_stores walk kind_of is_last cells_taken spot_after stores kind_stores zeros
  page-stores flags version f = ap (from_first flags version f) pair ∙ append-nil (pair_stores flags f (glyph_of version f.extra_list lead trail))

  codes_fit : (flags : List Bool) (f : Fonts) → trail < 256 → 568 ≤ length f.ascii8 → fonts_fit (pair_stores flags f Hexadecimal) ≡ true
  unfolding glyph_stores
  codes_fit flags f t l =
      let a = f.ascii8 in
      fits-append (code_stores 20 a 0 lead) (code_stores 20 a 1 trail)
      ∙ (λ k. (code-fits 20 a 0 lead ∙ digits_fit a lead (omega arith) l) k && (code-fits 20 a 1 trail ∙ digits_fit a trail t l) k)

  glyph-fits : (flags : List Bool) (f : Fonts) (i : ℕ) → i + 32 ≤ length f.extra_font → fonts_fit (pair_stores flags f (Extra i)) ≡ true
  unfolding glyph_stores
  glyph-fits flags f i h = rw (lines_fits 20 f.extra_font (flag_at flags 0) (flag_at flags 1) 0 1 i 15, le-leb (i + 32) (length f.extra_font) h)

  codes-painted : (flags : List Bool) (f : Fonts) → paint (pair_stores flags f Hexadecimal) (zeros 1600) ≡ corner (digits_of f.ascii8 lead) (digits_of f.ascii8 trail)
  unfolding glyph_stores
  codes-painted flags f =
      let a = f.ascii8 in
      let left = code_painted a 0 lead (zeros 1600) in
      paint-append (code_stores 20 a 0 lead) (code_stores 20 a 1 trail) (zeros 1600) ∙ (ap (paint (code_stores 20 a 1 trail)) left ∙ (code_painted a 1 trail _ ∙ four-painted _ _ _ _))

  glyph_painted : (flags : List Bool) (f : Fonts) (i : ℕ)
      → paint (pair_stores flags f (Extra i)) (zeros 1600) ≡ corner (half_of (window i 32 f.extra_font) 0 (flag_at flags 0)) (half_of (window i 32 f.extra_font) 1 (flag_at flags 1))
  unfolding glyph_stores window
  glyph_painted flags f i =
      let left = flag_at flags 0 in
      let right = flag_at flags 1 in
      cc (add-zero i, part_lines 20 left right f.extra_font i 32 0 1 0 16 (zeros 1600) (omega arith), lines_painted left right (window i 32 f.extra_font))

  -- ---- the flush

  module _ (f : Fonts) (l : Lent) (p : OnePair lead trail l) (n : length f.extra_list % 6 ≡ 0) where
    abbrev s : State
    s = decode base l.rec

    -- the glyph g is found, lies in its font, and is painted so
    shown : (g : Glyph) (screen : List ℕ) → glyph_or (extra_offset f.extra_list (256 * lead + trail)) Extra Hexadecimal ≡ g
        → fonts_fit (pair_stores s.flags f g) ≡ true → paint (pair_stores s.flags f g) (zeros 1600) ≡ screen → Shows f l screen
    unfolding done flushed join_owed join is_empty cut
    shown g screen e fit q =
        let u = p.unmarked in
        let k = empty_row s.head.version f.extra_list lead trail from to ∙ e in
        let w : flush_stores base f s l.memory ≡ pair_stores s.flags f g =
        ap (λ (t : List ℕ). text_stores 20 5 t s.flags s.head.version f) p.page ∙ (page-stores s.flags s.head.version f ∙ ap (pair_stores s.flags f) k) in
        let t : Tested base (flush f) l = record {
          sized = (passing l u).sized;
          lengths = λ i. eq-eqb (length l.memory) 65536 u.memory i && eq-eqb (length f.extra_list % 6) 0 n i;
          state = (u.passes, tt);
        } in
        let m = whole 20 80 in
        let long : length screen ≡ 1600 = ap length (sym q) ∙ (length-paint (pair_stores s.flags f g) (zeros 1600) ∙ length-zeros 1600) in
        let new : flushed base f s l.memory ≡ screen = rw (p.text, w) q in
        leaves l u (flush f) (λ (z : List ℕ). z ≡ screen) (flushed base f s l.memory) m m (rect 0 0 160 80) (down_from 0 0 160)
        (done_where l u (flush f) t (rw w fit, tt)) (ap length new ∙ long) (inr (omega arith)) refl refl new

    pub codes_shown : extra_offset f.extra_list (256 * lead + trail) ≡ None → trail < 256 → 568 ≤ length f.ascii8
        → Shows f l (corner (digits_of f.ascii8 lead) (digits_of f.ascii8 trail))
    codes_shown e t h = shown Hexadecimal _ (sym (found_nothing Extra Hexadecimal e refl)) (codes_fit s.flags f t h) (codes-painted s.flags f)

    pub glyph_shown : (i : ℕ) → extra_offset f.extra_list (256 * lead + trail) ≡ Some i → i + 32 ≤ length f.extra_font
        → Shows f l (corner_glyph l (window i 32 f.extra_font))
    glyph_shown i e h = shown (Extra i) _ (sym (found_at i Extra Hexadecimal e)) (glyph-fits s.flags f i h) (glyph_painted s.flags f i)

-- ---- 0xAFC4

module _ (f : Fonts) (l : Lent) (p : OnePair 0xAF 0xC4 l) where
  pub unassigned_codes : f.extra_list ≡ [] → 568 ≤ length f.ascii8
      → Shows f l (corner (over (character f.ascii8 (code "A")) (character f.ascii8 (code "F"))) (over (character f.ascii8 (code "C")) (character f.ascii8 (code "4"))))
  unfolding extra_offset extra_from
  unassigned_codes e h = codes_shown 0xAF 0xC4 (omega arith) (omega arith) f l p (rw e) (rw e) (omega arith) h

  pub unassigned_glyph : (i : ℕ) → f.extra_list ≡ two_bytes 0xAFC4 ++ four_bytes i → i < 4294967296 → i + 32 ≤ length f.extra_font
      → Shows f l (corner_glyph l (window i 32 f.extra_font))
  unfolding extra_offset extra_from
  unassigned_glyph i e b h = glyph_shown 0xAF 0xC4 (omega arith) (omega arith) f l p (rw e) i (rw e (ap Some (four_back i b))) h

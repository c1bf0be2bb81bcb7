-- Whole fonts: emoji indices are below 527, GB indices below 7,614, digits below G, and every entry of the extra list fits its font; so any text of bytes fits.
use Rattle.std.proofs.Common.{◌≡◌, refl, Bool, true, ◌&&◌, List, [], ◌∷◌, ℕ, zero, suc, ◌+◌, ◌-◌, ◌*◌, ◌/◌, ◌≤◌, ◌<◌, arith, le-leb, leb-true, Option, Some, None, leb, ltb, eqb, length, get_or}
use mir.Syntax.{w8}
use mir.Val.{Fits}
use Rattle.model.specs.declared.Glyph.{Glyph}
use Rattle.model.specs.declared.Glyph.TheVariants.{Emoji, Gb, Extra, Hexadecimal}
use Rattle.model.specs.declared.Spot.{Spot}
use Rattle.model.specs.declared.CellKind.{CellKind}
use Rattle.model.specs.declared.Shown.{Shown}
use Rattle.model.specs.Rects.{every}
use Rattle.model.specs.Bytes.{two, four}
use Rattle.model.specs.Codes.{CodeRow, emoji_rows, in_row, index_in, emoji_index, gb_lead, gb_row, gb_index, extra_from, extra_offset}
use Rattle.model.specs.Glyphs.{Fonts, glyph_or, glyph_of}
use Rattle.model.specs.Flush.{is_last, kind_of, shown_at, next_spot, spot, walk}
use Rattle.laws.specs.Glyphs.{digits_fit}
use Rattle.laws.specs.Tests.{either, tests, all_true, and-true, between, or_cases, if_cases}
use Rattle.flush.specs.Fits.{code_fits, glyph_fits, kind_fits, walk_fits, text_fits, entries_fit_from, entries_fit, whole_fonts}

-- ---- indices

-- an index, where there is one, is below n
abbrev pub below : Option ℕ → ℕ → Type 0
below (Some i) n = i < n
below None n = Unit {0}

-- how many codes the rows have
total : List CodeRow → ℕ
total [] = 0
total (r ∷ rs) = (r.last + 1 - r.first) + total rs

index_below : (rs : List CodeRow) (before lead trail n : ℕ) → before + total rs ≤ n → below (index_in rs before lead trail) n
unfolding index_in in_row total
index_below [] before lead trail n h = tt
index_below (r ∷ rs) before lead trail n h =
    if_cases (λ (x : Option ℕ). below x n) (every (eqb lead r.lead ∷ leb r.first trail ∷ leb trail r.last ∷ []))
    (λ e. let a = all_true (eqb lead r.lead ∷ leb r.first trail ∷ leb trail r.last ∷ []) e in omega (arith, tests))
    (λ e. index_below rs (before + (r.last + 1 - r.first)) lead trail n (omega arith))

pub emoji_below : (version lead trail : ℕ) → below (emoji_index version lead trail) 527
unfolding emoji_index total
emoji_below zero lead trail = index_below (emoji_rows 0) 0 lead trail 527 (omega arith)
emoji_below (suc n) lead trail = index_below (emoji_rows 1) 0 lead trail 527 (omega arith)

lead_most : (lead : ℕ) → gb_lead lead ≡ true → lead ≤ 247
lead_most lead e =
    either (or_cases (leb 161 lead && leb lead 169) (leb 176 lead && leb lead 247) e)
    (λ h. omega (arith, between lead h)) (λ h. (between lead h).1)

pub gb_below : (lead trail : ℕ) → below (gb_index lead trail) 7614
unfolding gb_index
gb_below lead trail =
    if_cases (λ (x : Option ℕ). below x 7614) (every (gb_lead lead ∷ leb 161 trail ∷ leb trail 254 ∷ []))
    (λ e. let a = all_true (gb_lead lead ∷ leb 161 trail ∷ leb trail 254 ∷ []) e in
    let m = lead_most lead a.0 in
    let r : gb_row (lead - 161) ≤ 80 = if_cases (λ (k : ℕ). k ≤ 80) (ltb 8 (lead - 161)) (λ t. omega (arith, tests)) (λ t. omega (arith, tests)) in
    omega (arith, tests))
    (λ e. tt)

-- an offset, where there is one, has its thirty-two bytes among n
abbrev Inside : Option ℕ → ℕ → Type 0
Inside (Some i) n = i + 32 ≤ n
Inside None n = Unit {0}

-- where every entry fits, so does the one that is found, in any list
entry_inside : (list extra : List ℕ) (code i n : ℕ) → entries_fit_from list extra i n ≡ true → Inside (extra_from list code i n) (length extra)
unfolding extra_from entries_fit_from
entry_inside list extra code i zero h = tt
entry_inside list extra code i (suc n) h =
    let p = and-true (leb (four list (i + 2) + 32) (length extra)) (entries_fit_from list extra (i + 6) n) h in
    if_cases (λ (x : Option ℕ). Inside x (length extra)) (eqb (two list i) code)
    (λ e. leb-true (four list (i + 2) + 32) (length extra) p.0) (λ e. entry_inside list extra code (i + 6) n p.1)

-- ---- what is shown

module _ (f : Fonts) (w : whole_fonts f.ascii8 f.ascii16 f.gb f.emoji f.extra_list f.extra_font ≡ true) where
  record Whole : Type 0 where
    ascii8 : 568 ≤ length f.ascii8
    ascii16 : 2048 ≤ length f.ascii16
    gb : 243648 ≤ length f.gb
    emoji : 16864 ≤ length f.emoji
    list : entries_fit f.extra_list f.extra_font ≡ true

  whole : Whole
  unfolding whole_fonts
  whole =
      let a = and-true ((leb 568 (length f.ascii8) && leb 2048 (length f.ascii16)) && (leb 243648 (length f.gb) && leb 16864 (length f.emoji))) (entries_fit f.extra_list f.extra_font) w in
      let b = and-true (leb 568 (length f.ascii8) && leb 2048 (length f.ascii16)) (leb 243648 (length f.gb) && leb 16864 (length f.emoji)) a.0 in
      let c = and-true (leb 568 (length f.ascii8)) (leb 2048 (length f.ascii16)) b.0 in
      let d = and-true (leb 243648 (length f.gb)) (leb 16864 (length f.emoji)) b.1 in
      record {
        ascii8 = leb-true 568 (length f.ascii8) c.0;
        ascii16 = leb-true 2048 (length f.ascii16) c.1;
        gb = leb-true 243648 (length f.gb) d.0;
        emoji = leb-true 16864 (length f.emoji) d.1;
        list = a.1;
      }

  code_whole : (b : ℕ) → b < 256 → code_fits f.ascii8 b ≡ true
  unfolding code_fits
  code_whole b h = digits_fit f.ascii8 b h whole.ascii8

  -- source by source
  abbrev fits : ℕ → ℕ → Glyph → Bool
  fits = glyph_fits f.ascii8 f.gb f.emoji f.extra_font

  extra_whole : (lead trail : ℕ) → lead < 256 → trail < 256 → (x : Option ℕ) → Inside x (length f.extra_font) → fits lead trail (glyph_or x Extra Hexadecimal) ≡ true
  unfolding glyph_or glyph_fits
  extra_whole lead trail hl ht (Some i) h = le-leb (i + 32) (length f.extra_font) h
  extra_whole lead trail hl ht None h = rw (code_whole lead hl, code_whole trail ht)

  offset-inside : (code : ℕ) → Inside (extra_offset f.extra_list code) (length f.extra_font)
  unfolding extra_offset
  offset-inside code = entry_inside f.extra_list f.extra_font code 0 (length f.extra_list / 6) whole.list

  gb_whole : (lead trail : ℕ) → lead < 256 → trail < 256 → (x : Option ℕ) → below x 7614
      → fits lead trail (glyph_or x Gb (glyph_or (extra_offset f.extra_list (256 * lead + trail)) Extra Hexadecimal)) ≡ true
  unfolding glyph_or glyph_fits
  gb_whole lead trail hl ht (Some i) h = le-leb (32 * i + 32) (length f.gb) (omega (arith, whole.gb))
  gb_whole lead trail hl ht None h = extra_whole lead trail hl ht (extra_offset f.extra_list (256 * lead + trail)) (offset-inside (256 * lead + trail))

  emoji_whole : (lead trail : ℕ) → lead < 256 → trail < 256 → (x : Option ℕ) → below x 527
      → fits lead trail (glyph_or x Emoji (glyph_or (gb_index lead trail) Gb (glyph_or (extra_offset f.extra_list (256 * lead + trail)) Extra Hexadecimal))) ≡ true
  unfolding glyph_or glyph_fits
  emoji_whole lead trail hl ht (Some i) h = le-leb (32 * i + 32) (length f.emoji) (omega (arith, whole.emoji))
  emoji_whole lead trail hl ht None h = gb_whole lead trail hl ht (gb_index lead trail) (gb_below lead trail)

  glyph_whole : (version lead trail : ℕ) → lead < 256 → trail < 256 → fits lead trail (glyph_of version f.extra_list lead trail) ≡ true
  unfolding glyph_of
  glyph_whole version lead trail hl ht = emoji_whole lead trail hl ht (emoji_index version lead trail) (emoji_below version lead trail)

  kind_whole : (st n version b trail : ℕ) (s : Spot) → b < 256 → trail < 256 → kind_fits version f b trail (kind_of st n b s) ≡ true
  unfolding kind_of kind_fits
  kind_whole st n version b trail s hb ht =
      if_cases (λ (m : CellKind). kind_fits version f b trail m ≡ true) (eqb b 0) (λ e. refl)
      (λ e. if_cases (λ (m : CellKind). kind_fits version f b trail m ≡ true) (ltb b 128)
      (λ t. le-leb (16 * b + 16) (length f.ascii16) (omega (arith, tests, whole.ascii16)))
      (λ t. if_cases (λ (m : CellKind). kind_fits version f b trail m ≡ true) (is_last st n s) (λ u. code_whole b hb) (λ u. glyph_whole version b trail hb ht)))

  module _ (st n version : ℕ) (text : List ℕ) (h : (i : ℕ) → Fits w8 (get_or text i 0)) where
    walk-whole : (k : ℕ) (s : Spot) → true ≡ walk_fits version f (walk st n text k s)
    unfolding walk walk_fits
    walk-whole zero s = refl
    walk-whole (suc k) s =
        if_cases (λ (ws : List Shown). true ≡ walk_fits version f ws) (ltb s.row n)
        (λ e. rw (kind_whole st n version (get_or text s.cell 0) (get_or text (s.cell + 1) 0) s (h s.cell).fits (h (s.cell + 1)).fits)
        (walk-whole k (next_spot st (shown_at st n text s))))
        (λ e. refl)

    pub text-whole : true ≡ text_fits st n text version f
    text-whole = walk-whole (n * st) (spot 0 0 0)

-- What is shown at a spot, in code: room for it on the screen, its bytes in the fonts, and what painting it leaves.
use Rattle.std.proofs.Common.{◌≡◌, refl, sym, ap, ◌∙◌, Bool, true, false, cond, List, ℕ, suc, ◌+◌, ◌*◌, ◌/◌, ◌%◌, ◌≤◌, ◌<◌, mul-le-mul_left, mul-suc, add-one, arith, eq-eqb, leb-true, leb, ltb, eqb, length, get_or, take, drop, length-take, length-drop}
use Rattle.model.specs.declared.Glyph.{Glyph}
use Rattle.model.specs.declared.Glyph.TheVariants.{Emoji, Gb, Extra, Hexadecimal}
use Rattle.model.specs.declared.Spot.{Spot}
use Rattle.model.specs.declared.CellKind.{CellKind}
use Rattle.model.specs.declared.Shown.{Shown}
use Rattle.model.specs.declared.CellKind.TheVariants.{Blank, Single, Pair, Code}
use Rattle.model.specs.Glyphs.{Fonts, digit, glyph_of, paint, column_stores, code_stores}
use Rattle.model.specs.Flush.{is_last, kind_of, shown_at, top_of, right_of, flag_at, half_stores, glyph_stores, kind_stores}
use Rattle.laws.specs.Tests.{tests, by_lt, if_cases, and-true, clash}
use Rattle.laws.specs.Glyphs.{paint-append, glyph_lines, paint_lines, part_lines}
use Rattle.flush.specs.Fits.{code_fits, glyph_fits, kind_fits}
use Rattle.flush.specs.Rooms.{OnScreen, Room, SpotRoom, PairRoom, ShownRoom, part_of, PartFits, code_end, is_hexadecimal}

-- ---- hexadecimal or not

-- ---- bytes in the fonts

pub code-end : (font : List ℕ) (b : ℕ) → code_fits font b ≡ true → code_end b ≤ length font
unfolding code_fits
code-end font b e =
    let p = and-true (leb (8 * digit (b / 16) + 8) (length font)) (leb (8 * digit (b % 16) + 8) (length font)) e in
    omega (arith, leb-true (8 * digit (b / 16) + 8) (length font) p.0, leb-true (8 * digit (b % 16) + 8) (length font) p.1)

module _ (ascii8 gb emoji extra : List ℕ) (lead trail : ℕ) where
  -- the glyph that was chosen is the definition's
  pub fits_as : {g h : Glyph} → g ≡ h → glyph_fits ascii8 gb emoji extra lead trail h ≡ true → glyph_fits ascii8 gb emoji extra lead trail g ≡ true
  fits_as q e = ap (glyph_fits ascii8 gb emoji extra lead trail) q ∙ e

  pub part-fits : (g : Glyph) → glyph_fits ascii8 gb emoji extra lead trail g ≡ true → PartFits emoji gb extra g
  unfolding glyph_fits
  part-fits (Emoji i) e = leb-true (32 * i + 32) (length emoji) e
  part-fits (Gb i) e = leb-true (32 * i + 32) (length gb) e
  part-fits (Extra i) e = leb-true (i + 32) (length extra) e
  part-fits Hexadecimal e = tt

  pub codes_end : (g : Glyph) {t : Bool} → t ≡ is_hexadecimal g → t ≡ true → glyph_fits ascii8 gb emoji extra lead trail g ≡ true
      → (code_end lead ≤ length ascii8) × (code_end trail ≤ length ascii8)
  unfolding glyph_fits is_hexadecimal
  codes_end (Emoji i) h y e = clash _ y h
  codes_end (Gb i) h y e = clash _ y h
  codes_end (Extra i) h y e = clash _ y h
  codes_end Hexadecimal h y e =
      let p = and-true (code_fits ascii8 lead) (code_fits ascii8 trail) e in
      (code-end ascii8 lead p.0, code-end ascii8 trail p.1)

length_part : (a : ℕ) (font : List ℕ) → a + 32 ≤ length font → length (take 32 (drop a font)) ≡ 32
length_part a font h = simp (length-take, length-drop) (omega arith)

pub part_long : (emoji gb extra : List ℕ) (g : Glyph) {t : Bool} {p : List ℕ} → PartFits emoji gb extra g → t ≡ is_hexadecimal g → t ≡ false
    → p ≡ part_of emoji gb extra g → length p ≡ 32
unfolding part_of is_hexadecimal
part_long emoji gb extra (Emoji i) h k y e = ap length e ∙ length_part (32 * i) emoji h
part_long emoji gb extra (Gb i) h k y e = ap length e ∙ length_part (32 * i) gb h
part_long emoji gb extra (Extra i) h k y e = ap length e ∙ length_part i extra h
part_long emoji gb extra Hexadecimal h k y e = clash _ k y

-- ---- room on the screen

-- a pair does not stand in the last place
pair_only : (x y t : Bool) → Pair ≡ cond x Blank (cond y Single (cond t Code Pair)) → t ≡ false
pair_only true y t e = absurd (let z : ◌≡◌ {A = ℕ} 0 1 = cc in omega arith)
pair_only false true t e = absurd (let z : ◌≡◌ {A = ℕ} 0 1 = cc in omega arith)
pair_only false false true e = absurd (let z : ◌≡◌ {A = ℕ} 0 1 = cc in omega arith)
pair_only false false false e = refl

module _ (st n : ℕ) (screen : List ℕ) (s : Spot) (o : OnScreen st n screen s) where
  line_room : st * s.row + st ≤ st * n
  line_room = omega (arith, mul-suc st s.row, mul-le-mul_left {m = suc s.row} {n = n} st o.row)

  spot_room : SpotRoom st screen s
  spot_room = record {
    row = omega (arith, o.row, o.whole.text.low);
    column = omega (arith, o.column, o.whole.text.narrow);
    left = record {
      narrow = o.whole.text.narrow;
      small = o.whole.small;
      inside = omega (arith, line_room, o.whole.sized, o.column);
    };
  }

  not_last : (b : ℕ) → Pair ≡ kind_of st n b s → s.column + 1 ≡ st → s.row + 1 < n
  unfolding kind_of is_last
  not_last b e q =
      let no : is_last st n s ≡ false = pair_only (eqb b 0) (ltb b 128) (is_last st n s) e in
      by_lt (s.row + 1) n (λ l. l)
      (λ l. let r : s.row + 1 ≡ n = omega (arith, o.row) in
      clash (is_last st n s) (rw (eq-eqb (s.row + 1) n r, eq-eqb (s.column + 1) st q)) no)

  -- the line below, where there is one
  below_room : s.row + 1 < n → st * (s.row + 1) + st ≤ st * n
  below_room l = omega (arith, mul-suc st (s.row + 1), mul-le-mul_left {m = suc (s.row + 1)} {n = n} st (omega arith))

  pair_room : (b : ℕ) → Pair ≡ kind_of st n b s → PairRoom st screen s
  pair_room b e = record {
    spot = spot_room;
    cell = o.cell;
    right = if_cases (λ (k : ℕ). Room st screen k 16) (ltb (s.column + 1) st) (λ t. record {
      narrow = o.whole.text.narrow;
      small = o.whole.small;
      inside = omega (arith, tests, line_room, o.whole.sized);
    }) (λ t. let l = not_last b e (omega (arith, tests, o.column)) in record {
      narrow = o.whole.text.narrow;
      small = o.whole.small;
      inside = omega (arith, below_room l, o.whole.sized, o.whole.text.wide);
    });
    beside = record {
      narrow = o.whole.text.narrow;
      small = o.whole.small;
      inside = by_lt (s.column + 1) st (λ l. omega (arith, line_room, o.whole.sized))
          (λ l. let m = not_last b e (omega (arith, o.column)) in
          omega (arith, mul-suc st s.row, add-one s.row, below_room m, o.whole.sized, o.whole.text.wide, o.column));
    };
  }

  pub shown_room : (text : List ℕ) {w : Shown} → w ≡ shown_at st n text s → ShownRoom st screen w
  shown_room text e = rw e (record { spot = spot_room; pair = λ q. pair_room (get_or text s.cell 0) (sym q) })

pub room_at : (st : ℕ) (screen t : List ℕ) (h : ℕ) {place k : ℕ} → Room st screen place h → length t ≡ length screen → k ≡ place → Room st t k h
room_at st screen t h r e q = record { narrow = r.narrow; small = omega (arith, r.small); inside = omega (arith, r.inside) }

-- ---- what painting leaves

module _ (st : ℕ) (flags : List Bool) (s : Spot) (lead trail : ℕ) (screen : List ℕ) where
  pub shown_as : (ascii8 gb emoji extra : List ℕ) {g h : Glyph} {v : List ℕ} → g ≡ h → v ≡ paint (glyph_stores st flags ascii8 gb emoji extra s lead trail g) screen
      → v ≡ paint (glyph_stores st flags ascii8 gb emoji extra s lead trail h) screen
  shown_as ascii8 gb emoji extra q e = e ∙ ap (λ (x : Glyph). paint (glyph_stores st flags ascii8 gb emoji extra s lead trail x) screen) q

  pub codes_shown : (ascii8 gb emoji extra : List ℕ) (g : Glyph) {t : Bool} {top : ℕ} {u v : List ℕ} → t ≡ is_hexadecimal g → t ≡ true → top ≡ top_of st s.row s.column
      → u ≡ paint (code_stores st ascii8 top lead) screen → v ≡ paint (code_stores st ascii8 (top + 1) trail) u → v ≡ paint (glyph_stores st flags ascii8 gb emoji extra s lead trail g) screen
  unfolding is_hexadecimal glyph_stores
  codes_shown ascii8 gb emoji extra (Emoji i) h y q e k = clash _ y h
  codes_shown ascii8 gb emoji extra (Gb i) h y q e k = clash _ y h
  codes_shown ascii8 gb emoji extra (Extra i) h y q e k = clash _ y h
  codes_shown ascii8 gb emoji extra Hexadecimal {top = top} h y q e k =
      k ∙ ap (paint (code_stores st ascii8 (top + 1) trail)) e
      ∙ (λ i. paint (code_stores st ascii8 (q i + 1) trail) (paint (code_stores st ascii8 (q i) lead) screen))
      ∙ sym (paint-append (code_stores st ascii8 (top_of st s.row s.column) lead) (code_stores st ascii8 (top_of st s.row s.column + 1) trail) screen)

  -- thirty-two bytes from byte i of a font on
  part_shown : (font : List ℕ) (i : ℕ) {a b : Bool} {left right : ℕ} {p v : List ℕ} {ls : List (List ℕ)}
      → left ≡ top_of st s.row s.column → right ≡ right_of st s → a ≡ flag_at flags s.cell → b ≡ flag_at flags (s.cell + 1)
      → p ≡ take 32 (drop i font) → ls ≡ glyph_lines p 0 16 → v ≡ paint_lines st left right a b ls screen
      → v ≡ paint (half_stores st flags s font i) screen
  part_shown font i ql qr ea eb ep el e =
      let z : i + 0 ≡ i = omega arith in
      e ∙ (λ k. paint_lines st (ql k) (qr k) (ea k) (eb k) ((el ∙ ap (λ (x : List ℕ). glyph_lines x 0 16) ep) k) screen)
      ∙ part_lines st (flag_at flags s.cell) (flag_at flags (s.cell + 1)) font i 32 (top_of st s.row s.column) (right_of st s) 0 16 screen (omega arith)
      ∙ ap (λ (k : ℕ). paint (half_stores st flags s font k) screen) z

  pub glyph_shown : (ascii8 gb emoji extra : List ℕ) (g : Glyph) {t a b : Bool} {left right : ℕ} {p v : List ℕ} {ls : List (List ℕ)} → t ≡ is_hexadecimal g → t ≡ false
      → left ≡ top_of st s.row s.column → right ≡ right_of st s → a ≡ flag_at flags s.cell → b ≡ flag_at flags (s.cell + 1)
      → p ≡ part_of emoji gb extra g → ls ≡ glyph_lines p 0 16 → v ≡ paint_lines st left right a b ls screen
      → v ≡ paint (glyph_stores st flags ascii8 gb emoji extra s lead trail g) screen
  unfolding is_hexadecimal glyph_stores part_of
  glyph_shown ascii8 gb emoji extra (Emoji i) h y ql qr ea eb ep el e = part_shown emoji (32 * i) ql qr ea eb ep el e
  glyph_shown ascii8 gb emoji extra (Gb i) h y ql qr ea eb ep el e = part_shown gb (32 * i) ql qr ea eb ep el e
  glyph_shown ascii8 gb emoji extra (Extra i) h y ql qr ea eb ep el e = part_shown extra i ql qr ea eb ep el e
  glyph_shown ascii8 gb emoji extra Hexadecimal h y ql qr ea eb ep el e = clash _ h y

  -- ---- kind by kind

  pub blank_shown : (f : Fonts) (version : ℕ) {m : CellKind} → m ≡ Blank → screen ≡ paint (kind_stores st flags version f s lead trail m) screen
  unfolding kind_stores paint
  blank_shown f version e = rw e

  pub single_shown : (f : Fonts) (version : ℕ) {m : CellKind} {v : List ℕ} → m ≡ Single
      → v ≡ paint (column_stores st f.ascii16 (top_of st s.row s.column) (16 * lead) (flag_at flags s.cell) 16) screen
      → v ≡ paint (kind_stores st flags version f s lead trail m) screen
  unfolding kind_stores
  single_shown f version e k = rw e k

  pub pair_shown : (f : Fonts) (version : ℕ) {m : CellKind} {v : List ℕ} → m ≡ Pair
      → v ≡ paint (glyph_stores st flags f.ascii8 f.gb f.emoji f.extra_font s lead trail (glyph_of version f.extra_list lead trail)) screen
      → v ≡ paint (kind_stores st flags version f s lead trail m) screen
  unfolding kind_stores
  pair_shown f version e k = rw e k

  pub code_shown : (f : Fonts) (version : ℕ) {m : CellKind} {top : ℕ} {v : List ℕ} → m ≡ Code → top ≡ top_of st s.row s.column
      → v ≡ paint (code_stores st f.ascii8 top lead) screen → v ≡ paint (kind_stores st flags version f s lead trail m) screen
  unfolding kind_stores
  code_shown f version e q k = rw e (k ∙ ap (λ (x : ℕ). paint (code_stores st f.ascii8 x lead) screen) q)

module _ (version : ℕ) (f : Fonts) (b trail : ℕ) {m : CellKind} where
  pub single_in : m ≡ Single → kind_fits version f b trail m ≡ true → 16 * b + 16 ≤ length f.ascii16
  unfolding kind_fits
  single_in e h = leb-true (16 * b + 16) (length f.ascii16) (rw e at h)

  pub pair_in : m ≡ Pair → kind_fits version f b trail m ≡ true
      → glyph_fits f.ascii8 f.gb f.emoji f.extra_font b trail (glyph_of version f.extra_list b trail) ≡ true
  unfolding kind_fits
  pair_in e h = rw e at h

  pub code_in : m ≡ Code → kind_fits version f b trail m ≡ true → code_end b ≤ length f.ascii8
  unfolding kind_fits
  code_in e h = code-end f.ascii8 b (rw e at h)

-- Every byte that a flush paints lies on the screen, whatever the text, the fonts and the numbers of rows and columns.
use Rattle.std.proofs.Common.{◌≡◌, refl, Bool, false, List, [], ◌∷◌, ◌++◌, ℕ, zero, suc, ◌+◌, ◌*◌, ◌/◌, ◌%◌, ◌<◌, mul-suc, arith, ltb, length, ltb-true}
use Rattle.model.specs.declared.Glyph.{Glyph}
use Rattle.model.specs.declared.Glyph.TheVariants.{Emoji, Gb, Extra, Hexadecimal}
use Rattle.model.specs.declared.Spot.{Spot}
use Rattle.model.specs.declared.CellKind.TheVariants.{Blank, Single, Pair, Code}
use Rattle.model.specs.declared.CellKind.{CellKind}
use Rattle.model.specs.declared.Shown.{Shown}
use Rattle.model.specs.Glyphs.{Fonts, Store, digit, glyph_of, column_stores, line_stores, code_stores}
use Rattle.model.specs.Flush.{spot, shown_at, next_spot, walk, top_of, flag_at, half_stores, glyph_stores, kind_stores, shown_stores, stores, text_stores}
use Rattle.laws.specs.Tests.{if_cases}
use Rattle.laws.specs.FlushWalk.{Within, within-next}
use Rattle.flush.specs.Rooms.{TextScreen, SpotRoom, PairRoom, ShownRoom}
use Rattle.flush.proofs.Walking.{within-start}
use Rattle.flush.proofs.Showing.{shown_room}
use Rattle.flush.proofs.Texts.{on_screen}

-- every store of a list lies below m
abbrev pub Below : ℕ → List Store → Type 0
Below m [] = Unit {0}
Below m (w ∷ ws) = (w.place < m) × Below m ws

append-below : (m : ℕ) (a b : List Store) → Below m a → Below m b → Below m (a ++ b)
append-below m [] b p q = q
append-below m (w ∷ a) b p q = (p.0, append-below m a b p.1 q)

module _ (st m : ℕ) (font : List ℕ) where
  column_below : (place i : ℕ) (inverse : Bool) (h : ℕ) → place + st * h < m + st → Below m (column_stores st font place i inverse h)
  unfolding column_stores
  column_below place i inverse zero l = tt
  column_below place i inverse (suc h) l =
      (omega (arith, mul-suc st h), column_below (place + st) (i + 1) inverse h (omega (arith, mul-suc st h)))

  lines_below : (left right i : ℕ) (a b : Bool) (h : ℕ) → left + st * h < m + st → right + st * h < m + st → Below m (line_stores st font left right i a b h)
  unfolding line_stores
  lines_below left right i a b zero l r = tt
  lines_below left right i a b (suc h) l r = (
    omega (arith, mul-suc st h),
    (
      omega (arith, mul-suc st h),
      lines_below (left + st) (right + st) (i + 2) a b h (omega (arith, mul-suc st h)) (omega (arith, mul-suc st h)),
    ),
  )

  code_below : (place b : ℕ) → place + st * 16 < m + st → Below m (code_stores st font place b)
  unfolding code_stores
  code_below place b l =
      append-below m (column_stores st font place (8 * digit (b / 16)) false 8) (column_stores st font (place + 8 * st) (8 * digit (b % 16)) false 8)
      (column_below place (8 * digit (b / 16)) false 8 (omega arith)) (column_below (place + 8 * st) (8 * digit (b % 16)) false 8 (omega arith))

module _ (st : ℕ) (screen : List ℕ) (flags : List Bool) (s : Spot) where
  halves_below : (font : List ℕ) (i : ℕ) → PairRoom st screen s → Below (length screen) (half_stores st flags s font i)
  halves_below font i r = lines_below st (length screen) font _ _ i _ _ 16 r.spot.left.inside r.right.inside

  glyph_below : (ascii8 gb emoji extra : List ℕ) (lead trail : ℕ) (g : Glyph) → PairRoom st screen s
      → Below (length screen) (glyph_stores st flags ascii8 gb emoji extra s lead trail g)
  unfolding glyph_stores
  glyph_below ascii8 gb emoji extra lead trail (Emoji i) r = halves_below emoji (32 * i) r
  glyph_below ascii8 gb emoji extra lead trail (Gb i) r = halves_below gb (32 * i) r
  glyph_below ascii8 gb emoji extra lead trail (Extra i) r = halves_below extra i r
  glyph_below ascii8 gb emoji extra lead trail Hexadecimal r =
      append-below (length screen) (code_stores st ascii8 (top_of st s.row s.column) lead) (code_stores st ascii8 (top_of st s.row s.column + 1) trail)
      (code_below st (length screen) ascii8 (top_of st s.row s.column) lead r.spot.left.inside)
      (code_below st (length screen) ascii8 (top_of st s.row s.column + 1) trail r.beside.inside)

  kind_below : (version : ℕ) (f : Fonts) (lead trail : ℕ) (k : CellKind) → SpotRoom st screen s → (k ≡ Pair → PairRoom st screen s)
      → Below (length screen) (kind_stores st flags version f s lead trail k)
  unfolding kind_stores
  kind_below version f lead trail Blank r p = tt
  kind_below version f lead trail Single r p =
      column_below st (length screen) f.ascii16 (top_of st s.row s.column) (16 * lead) (flag_at flags s.cell) 16 r.left.inside
  kind_below version f lead trail Pair r p =
      glyph_below f.ascii8 f.gb f.emoji f.extra_font lead trail (glyph_of version f.extra_list lead trail) (p refl)
  kind_below version f lead trail Code r p = code_below st (length screen) f.ascii8 (top_of st s.row s.column) lead r.left.inside

module _ (st n : ℕ) (screen : List ℕ) (p : TextScreen st n screen) (text : List ℕ) (flags : List Bool) (version : ℕ) (f : Fonts) where
  walk-below : (k : ℕ) (s : Spot) → Within st n s → Below (length screen) (stores st flags version f (walk st n text k s))
  unfolding walk stores
  walk-below zero s h = tt
  walk-below (suc k) s h =
      if_cases (λ (ws : List Shown). Below (length screen) (stores st flags version f ws)) (ltb s.row n)
      (λ e. let l = ltb-true s.row n e in
      let w = shown_at st n text s in
      let r : ShownRoom st screen w = shown_room st n screen s (on_screen st n screen screen s p refl h l) text refl in
      append-below (length screen) (shown_stores st flags version f w) (stores st flags version f (walk st n text k (next_spot st w)))
      (kind_below st screen flags s version f w.lead w.trail w.kind r.spot r.pair)
      (walk-below k (next_spot st w) (within-next st n text s h l)))
      (λ e. tt)

  pub text-below : Below (length screen) (text_stores st n text flags version f)
  unfolding text_stores
  text-below = walk-below (n * st) (spot 0 0 0) (within-start st n p.text.wide)

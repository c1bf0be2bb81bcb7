-- The walk in code: what is shown, and what a step keeps.
use Rattle.std.proofs.Common.{◌≡◌, ap, ◌∙◌, Bool, ◌&&◌, List, ℕ, suc, ◌+◌, ◌-◌, ◌≤◌, ◌<◌, mul-le-mul, arith, eq-eqb, lt-ltb, le-ltb, ltb, eqb, take, drop, get_or-take, get_or-drop, length-take, length-drop, length, get_or}
use mathlib.Core.Bool.{and_assoc, and-true}
use Rattle.model.specs.declared.Spot.{Spot}
use Rattle.model.specs.declared.CellKind.TheVariants.{Blank}
use Rattle.model.specs.declared.Shown.{Shown}
use Rattle.model.specs.Flush.{spot, kind_of, shown_at, cells_taken, spot_after, next_spot}
use Rattle.flush.specs.Fits.{blank_cells}
use Rattle.flush.specs.Rooms.{TextSize}
use Rattle.laws.specs.Tests.{if_cases}
use Rattle.laws.specs.FlushWalk.{Within, places_left, taken_most, within-next, left_after}

-- ---- what is shown

module _ (st n b : ℕ) (s : Spot) where
  pub kind_blank : b ≡ 0 → Blank ≡ kind_of st n b s
  unfolding kind_of
  kind_blank e = rw (eq-eqb b 0 e)

-- ---- n bytes of a slice from a place on, as a part of it has them

module _ (whole : List ℕ) (at n k : ℕ) where
  pub lent_byte : k < n → get_or (take (at + n - at) (drop at whole)) k 0 ≡ get_or whole (at + k) 0
  lent_byte l = get_or-take (at + n - at) (drop at whole) k 0 (omega arith) ∙ get_or-drop at whole k 0

  pub lent_below : k < length (take (at + n - at) (drop at whole)) → k < n
  lent_below l = omega (arith, length-take (at + n - at) (drop at whole))

  pub lent_over : at + n ≤ length whole → length (take (at + n - at) (drop at whole)) ≤ k → n ≤ k
  lent_over l h = omega (arith, length-take (at + n - at) (drop at whole), length-drop at whole)

-- ---- blank cells: of n from a place on, those from the k-th on are left

module _ (ok : Bool) (text : List ℕ) (at n k : ℕ) where
  abbrev lent : List ℕ
  lent = take (at + n - at) (drop at text)

  pub blank_turn : k < length lent → ((ok && eqb (get_or lent k 0) 0) && blank_cells text (at + (k + 1)) (n - (k + 1))) ≡ (ok && blank_cells text (at + k) (n - k))
  unfolding blank_cells
  blank_turn l =
      let m = lent_below text at n k l in
      let q : n - k ≡ suc (n - (k + 1)) = omega arith in
      let r : at + k + 1 ≡ at + (k + 1) = omega arith in
      cc (and_assoc ok _ _, lent_byte text at n k m)

  pub blank_end : at + n ≤ length text → length lent ≤ k → (ok && blank_cells text (at + k) (n - k)) ≡ ok
  unfolding blank_cells
  blank_end l h = let q : n - k ≡ 0 = omega (arith, lent_over text at n k l h) in cc (and-true ok)

-- ---- the cell that is read stays small

pub cell_small : (st n : ℕ) (s : Spot) → Within st n s → st ≤ 32 → n ≤ 16 → s.cell ≤ 560
cell_small st n s w a b =
    let r : s.row ≤ 16 = omega (arith, w.row) in
    omega (arith, w.ahead, w.column, mul-le-mul a r)

pub spot_few : (st n : ℕ) (s : Spot) → Within st n s → TextSize st n → (s.cell ≤ 65535) × (s.column ≤ 65535) × (s.row ≤ 65535) × (st - s.column ≤ 65535)
spot_few st n s w z = let c = cell_small st n s w z.narrow z.low in omega (arith, w.column, w.row, z.narrow, z.low)

-- ---- the spot k cells on

pub after_row : (st k : ℕ) (s : Spot) → s.column + k < st → spot (s.cell + k) s.row (s.column + k) ≡ spot_after st s k
unfolding spot_after
after_row st k s l = rw (lt-ltb (s.column + k) st l)

pub after_end : (st k : ℕ) (s : Spot) {cell : ℕ} → st ≤ s.column + k → cell ≡ s.cell + k → spot cell (s.row + 1) 0 ≡ spot_after st s k
unfolding spot_after
after_end st k s l e = rw (e, le-ltb (s.column + k) st l)

-- a cell, then k more
pub after-after : (st k : ℕ) (s : Spot) → spot_after st s (suc k) ≡ spot_after st (spot (s.cell + 1) s.row (s.column + 1)) k
unfolding spot_after
after-after st k s =
    let a : s.cell + suc k ≡ s.cell + 1 + k = omega arith in
    let b : s.column + suc k ≡ s.column + 1 + k = omega arith in
    cc

-- no higher up
down-after : (st k : ℕ) (s : Spot) → s.row ≤ (spot_after st s k).row
unfolding spot_after
down-after st k s = if_cases (λ (t : Spot). s.row ≤ t.row) (ltb (s.column + k) st) (λ e. omega arith) (λ e. omega arith)

-- ---- a step of the walk

pub within-start : (st n : ℕ) → 0 < st → Within st n (spot 0 0 0)
within-start st n h = record { column = h; row = omega arith; ahead = omega arith }

module _ (st n : ℕ) (text : List ℕ) (s : Spot) {w : Shown} (h : Within st n s) (l : s.row < n) (e : w ≡ shown_at st n text s) where
  pub spot_small : TextSize st n → (w.spot.cell ≤ 65535) × (w.spot.column ≤ 65535) × (w.spot.row ≤ 65535)
  spot_small z =
      let c = cell_small st n s h z.narrow z.low in
      rw e (omega arith, omega (arith, h.column, z.narrow), omega (arith, h.row, z.low))

  stepped : {t : Spot} → t ≡ next_spot st w → t ≡ next_spot st (shown_at st n text s)
  stepped q = q ∙ ap (next_spot st) e

  pub within_turn : {t : Spot} → t ≡ next_spot st w → Within st n t
  within_turn q = rw (stepped q) (within-next st n text s h l)

  pub down_turn : {t : Spot} → t ≡ next_spot st w → s.row ≤ t.row
  down_turn q = rw (stepped q) (down-after st (cells_taken (shown_at st n text s).kind) s)

  pub left_turn : {t : Spot} → t ≡ next_spot st w → places_left st n t < places_left st n s
  left_turn q = rw (stepped q) (left_after st n s (cells_taken (shown_at st n text s).kind) h l (taken_most (shown_at st n text s).kind).0)

-- The walk of a flush: what is shown from a spot on, one step at a time. Reading is ahead by at most the row number.
use Rattle.std.specs.Prelude.{◌≡◌, ltb}
use Rattle.std.proofs.Math.Path.{refl, sym}
use Rattle.std.proofs.Common.{ap, suc-mul, lt-ltb, le-ltb}
use mathlib.Core.List.{List, [], ◌∷◌}
use Prim.Native.Nat.{ℕ, zero, suc, ◌+◌, ◌-◌, ◌*◌, ◌≤◌, ◌<◌}
use Rattle.std.proofs.Math.Nat.{mul-suc, sub-zero}
use Rattle.std.proofs.Math.Numerals.{add-one}
use native.Mathlib.Omega.{arith}
use Rattle.model.specs.declared.Spot.{Spot}
use Rattle.model.specs.declared.CellKind.{CellKind}
use Rattle.model.specs.declared.CellKind.TheVariants.{Blank, Single, Pair, Code}
use Rattle.model.specs.declared.Shown.{Shown}
use Rattle.model.specs.Flush.{spot, shown_at, cells_taken, spot_after, next_spot, walk}
use Rattle.laws.specs.Tests.{tests, by_lt, if_cases}

pub taken_most : (k : CellKind) → (1 ≤ cells_taken k) × (cells_taken k ≤ 2)
unfolding cells_taken
taken_most Blank = omega arith
taken_most Single = omega arith
taken_most Pair = omega arith
taken_most Code = omega arith

-- a spot of the walk: at most below the last row, and ahead by at most the row number
pub record Within (st n : ℕ) (s : Spot) : Type 0 where
  pub column : s.column < st
  pub row : s.row ≤ n
  pub ahead : s.cell ≤ st * s.row + s.row + s.column

-- how many places are left
abbrev pub places_left : ℕ → ℕ → Spot → ℕ
places_left st n s = (n - s.row) * st - s.column

module _ (st n : ℕ) where
  -- a row less
  row_left : (s : Spot) → s.row < n → (n - s.row) * st ≡ (n - (s.row + 1)) * st + st
  row_left s l = let q : n - s.row ≡ suc (n - (s.row + 1)) = omega arith in rw q (suc-mul (n - (s.row + 1)) st)

  pub left_after : (s : Spot) (k : ℕ) → Within st n s → s.row < n → 1 ≤ k → places_left st n (spot_after st s k) < places_left st n s
  unfolding spot_after
  left_after s k w l a =
      let r = row_left s l in
      if_cases (λ (t : Spot). places_left st n t < places_left st n s) (ltb (s.column + k) st) (λ e. omega (arith, tests, w.column)) (λ e. omega (arith, w.column))

  module _ (text : List ℕ) where
    pub within-next : (s : Spot) → Within st n s → s.row < n → Within st n (next_spot st (shown_at st n text s))
    unfolding spot_after
    within-next s w l =
        let t = taken_most (shown_at st n text s).kind in
        if_cases (Within st n) (ltb (s.column + cells_taken (shown_at st n text s).kind) st)
        (λ e. omega (arith, tests)) (λ e. omega (arith, add-one s.row, mul-suc st s.row))

    over : (k : ℕ) (s : Spot) → n ≤ s.row → walk st n text k s ≡ []
    unfolding walk
    over zero s h = refl
    over (suc k) s h = rw (le-ltb s.row n h)

    none_left : (s : Spot) → Within st n s → places_left st n s ≤ 0 → n ≤ s.row
    none_left s w h = by_lt s.row n (λ l. absurd (omega (arith, w.column, row_left s l))) (λ l. l)

    -- steps enough are as many as one likes
    enough : (k j : ℕ) (s : Spot) → Within st n s → places_left st n s ≤ k → places_left st n s ≤ j → walk st n text k s ≡ walk st n text j s
    unfolding walk
    enough zero j s w a b = sym (over j s (none_left s w a))
    enough (suc k) zero s w a b = over (suc k) s (none_left s w b)
    enough (suc k) (suc j) s w a b =
        by_lt s.row n
        (λ l. let m = left_after s (cells_taken (shown_at st n text s).kind) w l (taken_most (shown_at st n text s).kind).0 in
        rw (lt-ltb s.row n l)
        (ap (λ (x : List Shown). shown_at st n text s ∷ x)
        (enough k j (next_spot st (shown_at st n text s)) (within-next s w l) (omega arith) (omega arith))))
        (λ l. rw (le-ltb s.row n l))

    -- what is shown from a spot on
    abbrev pub rest : Spot → List Shown
    rest s = walk st n text (places_left st n s) s

    pub rest_more : (s : Spot) → Within st n s → s.row < n → rest s ≡ (shown_at st n text s ∷ rest (next_spot st (shown_at st n text s)))
    unfolding walk
    rest_more s w l =
        let m = left_after s (cells_taken (shown_at st n text s).kind) w l (taken_most (shown_at st n text s).kind).0 in
        let q : places_left st n s ≡ suc (places_left st n s - 1) = omega arith in
        cc (lt-ltb s.row n l, enough (places_left st n s - 1) (places_left st n (next_spot st (shown_at st n text s))) (next_spot st (shown_at st n text s)) (within-next s w l) (omega arith) (omega arith))

    pub rest_end : (s : Spot) → n ≤ s.row → rest s ≡ []
    rest_end s h = over (places_left st n s) s h

    pub rest-start : walk st n text (n * st) (spot 0 0 0) ≡ rest (spot 0 0 0)
    rest-start = simp sub-zero

-- A signed coordinate on an axis of n places, as `axis` tests and casts it: the machine reads the number back from its bits, which changes nothing.
use mathlib.Core.Path.{◌≡◌, refl}
use mathlib.Core.Bool.{true, false}
use Prim.Native.Nat.{ℕ, ◌^◌, ◌≤◌, ◌<◌}
use native.Mathlib.Omega.{arith}
use lib.Dec.{T}
use lib.IntN.{ℤ, pos, negsuc, nat_abs}
use lib.Signed.{lt_z, non_neg, mag}
use mir.Syntax.{w32, w64}
use mir.Val.{Fits, to_z, of_z}
use mir.Facts.{to_z-of_z, Fits-nat_abs}
use borrow.Author.Tests.{ltb-true, lt-ltb, le-ltb}
use Rattle.laws.specs.Points.{on_axis}

-- the number that the cast gives
abbrev pub read_back : ℤ → ℤ
read_back z = to_z w32 (of_z w32 z)

pub read_same : (z : ℤ) → mag z < 2 ^ 31 → read_back z ≡ z
read_same z f = to_z-of_z {w = w32} {z = z} (record { sfits = f })

pub axis_below : (n : ℕ) (z : ℤ) → mag z < 2 ^ 31 → lt_z (read_back z) (pos 0) ≡ true → n ≡ on_axis z n
unfolding on_axis
axis_below n z f h = go z (rw (read_same z f) at h)
  where
    go : (z : ℤ) → lt_z z (pos 0) ≡ true → n ≡ on_axis z n
    go (pos x) e = absurd (let l : x < 0 = ltb-true x 0 e in omega arith)
    go (negsuc x) e = refl

positive : (z : ℤ) → lt_z z (pos 0) ≡ false → T (non_neg z)
positive (pos x) e = tt
positive (negsuc x) e = absurd (let z : ◌≡◌ {A = ℕ} 0 1 = cc in omega arith)

pub axis_cast : (z : ℤ) → mag z < 2 ^ 31 → lt_z (read_back z) (pos 0) ≡ false → T (non_neg (read_back z)) × Fits w64 (nat_abs (read_back z))
axis_cast z f h = (positive (read_back z) h, rw (read_same z f) (Fits-nat_abs {w = w32} {w' = w64} {z = z} tt (record { sfits = f })))

pub axis_on : (n : ℕ) (z : ℤ) → mag z < 2 ^ 31 → lt_z (read_back z) (pos 0) ≡ false → nat_abs (read_back z) < n → nat_abs (read_back z) ≡ on_axis z n
unfolding on_axis
axis_on n z f h l = rw (read_same z f) (go z (rw (read_same z f) at h) (rw (read_same z f) at l))
  where
    go : (z : ℤ) → lt_z z (pos 0) ≡ false → nat_abs z < n → nat_abs z ≡ on_axis z n
    go (pos x) e l = rw (lt-ltb x n l)
    go (negsuc x) e l = absurd (positive (negsuc x) e)

pub axis_above : (n : ℕ) (z : ℤ) → mag z < 2 ^ 31 → lt_z (read_back z) (pos 0) ≡ false → n ≤ nat_abs (read_back z) → n ≡ on_axis z n
unfolding on_axis
axis_above n z f h l = go z (rw (read_same z f) at h) (rw (read_same z f) at l)
  where
    go : (z : ℤ) → lt_z z (pos 0) ≡ false → n ≤ nat_abs z → n ≡ on_axis z n
    go (pos x) e l = rw (le-ltb x n l)
    go (negsuc x) e l = absurd (positive (negsuc x) e)

-- what `axis` answered, of the number itself
pub axis_given : (n : ℕ) (z : ℤ) {c : ℕ} → mag z < 2 ^ 31 → c ≡ on_axis (read_back z) n → c ≡ on_axis z n
axis_given n z f e = rw (read_same z f) at e

-- Bytes of memory kept at the start of an array, before the screen that may share them is painted.
use mathlib.Core.Path.{◌≡◌, ap, ◌∙◌}
use mathlib.Core.List.{List}
use Prim.Native.Nat.{ℕ, ◌+◌, ◌≤◌}
use native.Mathlib.Omega.{arith}
use lib.ListN.{length, take, drop}
use lib.Seq.{take_at}
use Rattle.model.specs.Memory.{with_window}
use Rattle.laws.specs.Memory.{length-with_window}

-- n bytes x, put at the start of d, which leaves c
module _ {n : ℕ} (x d : List ℕ) {c : List ℕ} (l : length x ≡ n) (e : c ≡ with_window 0 x d) where
  pub kept : take n c ≡ x
  unfolding with_window
  kept = ap (take n) e ∙ take_at x (drop (0 + length x) d) n l

  pub kept_length : length (take n c) ≡ n
  kept_length = ap length kept ∙ l

  pub kept_room : n ≤ length d → n ≤ length c
  kept_room h = omega (arith, ap length e, length-with_window 0 x d (omega arith))

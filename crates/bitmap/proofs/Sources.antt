-- The source of a bitmap: at most 255 lines of 32 bytes, and within memory where the test passes; and what is visible of it on either axis.
use Rattle.std.proofs.Common.{◌≡◌, ap, ◌∙◌, true, ◌||◌, ℕ, ◌+◌, ◌-◌, ◌≤◌, ◌<◌, ℤ, w32, FitsSigned, to_z, of_z, eqb, leb, arith}
use Rattle.std.proofs.Math.Nat.{mul-le-mul_right}
use Rattle.std.proofs.Math.Facts.{to_z-of_z}
use borrow.Author.Tests.{eqb-true, leb-true}
use Rattle.model.specs.declared.Visible.{Visible}
use Rattle.model.specs.Bitmaps.{source_stride, source_bytes, source_fits, visible}
use Rattle.laws.specs.Tests.{either, or_cases}
use Rattle.laws.specs.Bitmaps.{visible_in}

pub source_small : (w n : ℕ) → w < 256 → n < 256 → source_bytes w n ≤ 8160
source_small w n a b =
    let l : source_stride w ≤ 32 = omega arith in
    omega (arith, mul-le-mul_right n l)

pub source_in : (a w n : ℕ) → a < 65536 → source_fits a w n ≡ true → a + source_bytes w n ≤ 65536
unfolding source_fits
source_in a w n h e =
    either (or_cases (eqb w 0 || eqb n 0) (leb (a + source_bytes w n) 65536) e)
    (λ z. either (or_cases (eqb w 0) (eqb n 0) z)
    (λ f. let k : source_bytes w n ≡ 0 = ap (λ (v : ℕ). source_bytes v n) (eqb-true w 0 f) ∙ omega arith in omega arith)
    (λ f. let k : source_bytes w n ≡ 0 = ap (source_bytes w) (eqb-true n 0 f) ∙ omega arith in omega arith))
    (λ f. leb-true (a + source_bytes w n) 65536 f)

-- what `visible` answered, of the number itself
pub visible-given : (z : ℤ) (n size : ℕ) {a : Visible} → FitsSigned w32 z → a ≡ visible (to_z w32 (of_z w32 z)) n size → a ≡ visible z n size
visible-given z n size f e = rw (to_z-of_z {w = w32} {z = z} f) at e

-- what is visible lies on the axis and among the n places
pub visible_lies : (z : ℤ) (n size : ℕ) {a : Visible} → a ≡ visible z n size → a.from < a.to → (a.skip + (a.to - a.from) ≤ n) × (a.to ≤ size)
visible_lies z n size {a} e h = rw e (visible_in z n size (rw e at h))

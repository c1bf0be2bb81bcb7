-- The count of differing pixels: nought where none differs, and counted byte by byte the same number, by a walk over the two lists.
use Rattle.std.specs.Prelude.{◌≡◌, refl, Bool, List, [], ◌∷◌, ℕ, zero, suc, ◌+◌, ◌-◌, ◌*◌, ◌/◌, ◌%◌, ◌<◌, length, get_or}
use Rattle.std.proofs.Common.{sym, ap, ap₂, ◌∙◌, add-suc, add-zero, suc-mul, zero-mul, mul_comm, arith}
use Rattle.std.proofs.Math.Nat.{suc_inj}
use Rattle.model.specs.Geometry.{Geometry, width, height, screen_bytes}
use Rattle.model.specs.Bits.{bit_at}
use Rattle.model.specs.Pixels.{bit}
use Rattle.model.specs.Lists.{Differs, differs, sum, differing}
use Rattle.laws.specs.Tests.{either, same_or_not, by_test}

-- ---- no pixel differs

pub sum-zero : (n : ℕ) (f : ℕ → ℕ) → ((i : ℕ) → i < n → f i ≡ 0) → sum n f ≡ 0
unfolding sum
sum-zero zero f h = refl
sum-zero (suc n) f h = omega (arith, sum-zero n f (λ i l. h i (omega arith)), h n (omega arith))

pub differs_same : (a b : Bool) → a ≡ b → differs a b ≡ 0
unfolding differs
differs_same a b e = rw e (by_test b (λ t. rw t) (λ t. rw t))

pub none_differ : (g : Geometry) (s p : List ℕ) → ((x y : ℕ) → x < width g → y < height g → Differs g s p x y → ⊥) → differing g s p ≡ 0
unfolding differing
none_differ g s p h =
    sum-zero (height g) _ (λ y hy. sum-zero (width g) _ (λ x hx. differs_same _ _ (either (same_or_not _ _) (λ e. e) (λ n. absurd (h x y hx hy n)))))

-- ---- sums

sum_ext : (n : ℕ) (f f' : ℕ → ℕ) → ((i : ℕ) → i < n → f i ≡ f' i) → sum n f ≡ sum n f'
unfolding sum
sum_ext zero f f' h = refl
sum_ext (suc n) f f' h = ap₂ (λ (a b : ℕ). a + b) (sum_ext n f f' (λ i l. h i (omega arith))) (h n (omega arith))

sum-add : (a b : ℕ) (f : ℕ → ℕ) → sum (a + b) f ≡ sum a f + sum b (λ j. f (a + j))
unfolding sum
sum-add a zero f = rw add-zero (omega arith)
sum-add a (suc b) f = rw add-suc (omega (arith, sum-add a b f))

sum-mul : (m n : ℕ) (f : ℕ → ℕ) → sum (m * n) f ≡ sum m (λ i. sum n (λ j. f (i * n + j)))
unfolding sum
sum-mul zero n f = rw zero-mul
sum-mul (suc m) n f = rw suc-mul (omega (arith, sum-add (m * n) n f, sum-mul m n f))

sum_front : (n : ℕ) (f : ℕ → ℕ) → sum (suc n) f ≡ f 0 + sum n (λ i. f (suc i))
unfolding sum
sum_front zero f = omega arith
sum_front (suc n) f = omega (arith, sum_front n f)

-- ---- byte by byte

-- how many bits of two bytes differ
unfoldable pub byte_differs : ℕ → ℕ → ℕ
byte_differs a b = sum 8 (λ k. differs (bit_at a (7 - k)) (bit_at b (7 - k)))

unfoldable pub bytes_differ : List ℕ → List ℕ → ℕ
bytes_differ [] q = 0
bytes_differ (a ∷ p) [] = 0
bytes_differ (a ∷ p) (b ∷ q) = byte_differs a b + bytes_differ p q

walk-sum : (p q : List ℕ) → length p ≡ length q → bytes_differ p q ≡ sum (length p) (λ i. byte_differs (get_or p i 0) (get_or q i 0))
unfolding bytes_differ sum
walk-sum [] q e = refl
walk-sum (a ∷ p) [] e = absurd (omega arith)
walk-sum (a ∷ p) (b ∷ q) e = cc (walk-sum p q (suc_inj e), sum_front (length p) (λ i. byte_differs (get_or (a ∷ p) i 0) (get_or (b ∷ q) i 0)))

line : (st y : ℕ) (s p : List ℕ) → sum (8 * st) (λ x. differs (bit st s x y) (bit st p x y)) ≡ sum st (λ q. byte_differs (get_or s (y * st + q) 0) (get_or p (y * st + q) 0))
unfolding bit byte_differs
line st y s p =
    ap (λ (n : ℕ). sum n (λ x. differs (bit st s x y) (bit st p x y))) (mul_comm 8 st)
    ∙ sum-mul st 8 (λ x. differs (bit st s x y) (bit st p x y))
    ∙ sum_ext st _ _ (λ q hq. sum_ext 8 _ _ (λ r hr. let a : (q * 8 + r) / 8 ≡ q = omega arith in let b : (q * 8 + r) % 8 ≡ r = omega arith in rw (a, b, mul_comm st y)))

pub differing_bytes : (g : Geometry) (s p : List ℕ) → length s ≡ screen_bytes g → length p ≡ screen_bytes g → differing g s p ≡ bytes_differ s p
unfolding differing
differing_bytes g s p hs hp =
    let f : ℕ → ℕ = λ i. byte_differs (get_or s i 0) (get_or p i 0) in
    sum_ext (height g) _ _ (λ y hy. line g.stride y s p) ∙ sym (sum-mul (height g) g.stride f)
    ∙ ap (λ (n : ℕ). sum n f) (mul_comm (height g) g.stride ∙ sym hs) ∙ sym (walk-sum s p (hs ∙ sym hp))

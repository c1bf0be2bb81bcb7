-- Differing pixels counted by bytes: the bits that are set in the exclusive or of two bytes.
use Rattle.std.proofs.Common.{◌≡◌, ℕ, zero, suc, ◌+◌, ◌*◌, ◌/◌, ◌%◌, ◌^◌, ◌≤◌, ◌<◌, List, [], ◌∷◌, length, refl, sym, ap, ap₂, ◌∙◌, add-one, arith}
use lib.Bits.{bit_xor, differ, xor_step, xor_lt}
use lib.Count.{ones, ones_in, ones_step, ones-le}
use Rattle.std.proofs.Math.Dec.{eqb}
use Rattle.std.proofs.Math.Nat.{add_assoc}
use lib.Pow.{shr-shr}
use Rattle.model.specs.Geometry.{base, screen_bytes}
use Rattle.model.specs.Bits.{bit_at}
use Rattle.model.specs.declared.Rect.{Rect}
use Rattle.model.specs.Rects.{lines_of}
use Rattle.model.specs.Bytes.{rect_at, rects_at}
use Rattle.model.specs.Lists.{differs, sum, differing, owed_lines}
use Rattle.laws.specs.Counts.{byte_differs, bytes_differ, differing_bytes}

-- ---- two bytes

bit-differs : (x y : ℕ) → x < 2 → y < 2 → (differ x y ≡ differs (eqb x 1) (eqb y 1)) × (differ x y < 2)
unfolding differs
bit-differs zero zero h k = (refl, omega arith)
bit-differs zero (suc zero) h k = (refl, omega arith)
bit-differs (suc zero) zero h k = (refl, omega arith)
bit-differs (suc zero) (suc zero) h k = (refl, omega arith)
bit-differs zero (suc (suc y)) h k = absurd (omega arith)
bit-differs (suc zero) (suc (suc y)) h k = absurd (omega arith)
bit-differs (suc (suc x)) y h k = absurd (omega arith)

low : (a b : ℕ) → ones (bit_xor a b) ≡ differs (eqb (a % 2) 1) (eqb (b % 2) 1) + ones (bit_xor (a / 2) (b / 2))
low a b =
    let d = differ (a % 2) (b % 2) in
    let x = bit_xor (a / 2) (b / 2) in
    let k = bit-differs (a % 2) (b % 2) (omega arith) (omega arith) in
    let m : (x * 2 + d) % 2 ≡ d = omega (arith, k.1) in
    let q : (x * 2 + d) / 2 ≡ x = omega (arith, k.1) in
    ap ones (xor_step a b) ∙ ones_step (x * 2 + d) ∙ ap₂ (λ (i j : ℕ). i + ones j) (m ∙ k.0) q

lows : (n a b : ℕ) → ones (bit_xor a b) ≡ sum n (λ j. differs (bit_at a j) (bit_at b j)) + ones (bit_xor (a / 2 ^ n) (b / 2 ^ n))
unfolding sum bit_at
lows zero a b = rw (over a, over b) (omega arith)
  where
    over : (x : ℕ) → x / 2 ^ 0 ≡ x
    over x = omega arith
lows (suc n) a b =
    let s = sum n (λ j. differs (bit_at a j) (bit_at b j)) in
    let half : (x : ℕ) → x / 2 ^ n / 2 ≡ x / 2 ^ suc n = λ x. shr-shr x n 1 ∙ ap (λ (k : ℕ). x / 2 ^ k) (add-one n) in
    lows n a b
    ∙ ap (λ (k : ℕ). s + k) (low (a / 2 ^ n) (b / 2 ^ n) ∙ ap₂ (λ (i j : ℕ). differs (bit_at a n) (bit_at b n) + ones (bit_xor i j)) (half a) (half b))
    ∙ sym (add_assoc s (differs (bit_at a n) (bit_at b n)) (ones (bit_xor (a / 2 ^ suc n) (b / 2 ^ suc n))))

pub ones_differ : (a b : ℕ) → a < 256 → b < 256 → ones (bit_xor a b) ≡ byte_differs a b
unfolding byte_differs sum ones ones_in
ones_differ a b h k =
    let za : a / 2 ^ 8 ≡ 0 = omega arith in
    let zb : b / 2 ^ 8 ≡ 0 = omega arith in
    lows 8 a b ∙ ap₂ (λ (i j : ℕ). sum 8 (λ n. differs (bit_at a n) (bit_at b n)) + ones (bit_xor i j)) za zb ∙ omega arith

pub ones_small : (a b : ℕ) → a < 256 → b < 256 → ones (bit_xor a b) ≤ 8
ones_small a b h k = ones-le 8 (bit_xor a b) (xor_lt 8 a b h k)

-- ---- the walk over two lists: n is counted, and what is left of the lists adds the rest

pub count_turn : (n m d a b : ℕ) (s p s' p' : List ℕ) → n + bytes_differ s p ≡ m → s ≡ a ∷ s' → p ≡ b ∷ p' → d ≡ byte_differs a b → n + d + bytes_differ s' p' ≡ m
unfolding bytes_differ
count_turn n m d a b s p s' p' e f g h = omega (arith, rw (f, g) at e)

pub count_end : (n : ℕ) (s p s' p' : List ℕ) → n + bytes_differ s' p' ≡ bytes_differ s p → s' ≡ [] → length s ≡ screen_bytes base → length p ≡ screen_bytes base → n ≡ differing base s p
unfolding bytes_differ
count_end n s p s' p' e f hs hp = omega (arith, rw f at e) ∙ sym (differing_bytes base s p hs hp)

-- ---- lines left: n is counted, and the bands that are left add the rest

pub left_turn : (left next place behind n m d : ℕ) (r : List ℕ) (q : Rect) → n + owed_lines (rects_at left r place) ≡ m → left ≡ suc next → behind ≡ place + 8 → q ≡ rect_at r place → d ≡ lines_of q
    → n + d + owed_lines (rects_at next r behind) ≡ m
unfolding owed_lines
left_turn left next place behind n m d r q e l b p f = rw b (omega (arith, f, ap lines_of p, rw l at e))

pub left_end : (left place n m : ℕ) (r : List ℕ) → n + owed_lines (rects_at left r place) ≡ m → left ≡ 0 → n ≡ m
unfolding owed_lines
left_end left place n m r e l = omega (arith, rw l at e)

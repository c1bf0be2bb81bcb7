-- Quotient and remainder without a division. With m for p / n, rounded up, i * m is i / n in parts, p to a whole, and n * (i * m) is i * p and less than i * n more.
-- While i * n is below p, that more makes no whole: the wholes of i * m are i / n, and n times its other parts make i % n wholes.
use Rattle.std.specs.Prelude.{◌≡◌, ℕ, ◌+◌, ◌*◌, ◌/◌, ◌%◌, ◌<◌, ◌≤◌}
use Rattle.std.proofs.Common.{sym, ap, ◌∙◌, mod-lt, mul-le-mul_left, mul-le-mul_right, add-mul, mul-add, arith}
use Rattle.std.proofs.Math.Nat.{div-eq_of_lt-le, div-add-mod, le_of_mul-le-mul_left, lt_of_mul-lt-mul_left}
use Rattle.model.specs.Glass.{line_parts, RoundedUp}

module _ {p n m : ℕ} (r : RoundedUp p n m) (i : ℕ) (b : i * n < p) where
  some : 0 < n
  some = omega (arith, r)

  product : (i * p ≤ n * (i * m)) × (n * (i * m) < i * p + p)
  product = omega (arith, mul-le-mul_left i r.least, mul-le-mul_left i r.most, mul-add i p n)

  pub quotient : i * m / p ≡ i / n
  quotient =
      let q = i / n in
      let d = div-add-mod i n in
      let from : n * q ≤ i = omega (arith, d) in
      let below : i + 1 ≤ n * (q + 1) = omega (arith, d, mod-lt i some) in
      let least : n * (q * p) ≤ n * (i * m) = omega (arith, product, mul-le-mul_right p from) in
      let most : n * (i * m) < n * ((q + 1) * p) = omega (arith, product, mul-le-mul_right p below, add-mul i 1 p) in
      div-eq_of_lt-le p (le_of_mul-le-mul_left least some) (lt_of_mul-lt-mul_left n most)

  pub remainder : i * m % p * n / p ≡ i % n
  remainder =
      let q = i / n in
      let x = i * m % p in
      let whole : p * q + x ≡ i * m = rw quotient at (div-add-mod (i * m) p) in
      let times : n * (i * m) ≡ n * (p * q) + n * x = ap (λ (k : ℕ). n * k) (sym whole) ∙ mul-add n (p * q) x in
      let split : i * p ≡ n * q * p + i % n * p = ap (λ (k : ℕ). k * p) (sym (div-add-mod i n)) ∙ add-mul (n * q) (i % n) p in
      div-eq_of_lt-le p (omega (arith, product, times, split)) (omega (arith, product, times, split, add-mul (i % n) 1 p))

-- ---- screen bytes: a line has 256 * 32 * 32 parts

module _ {st m : ℕ} (r : RoundedUp line_parts st m) (h : st ≤ 32) (i : ℕ) (k : i < st * 256) where
  bound : i * st < line_parts
  bound = omega (arith, mul-le-mul_left i h)

  pub line_of_byte : i * m / line_parts ≡ i / st
  line_of_byte = quotient r i bound

  pub column_of_byte : i * m % line_parts * st / line_parts ≡ i % st
  column_of_byte = remainder r i bound

-- 160 by 80, and 240 by 160
pub byte_of_20 : (i : ℕ) → i < 1600 → (i * 13108 / line_parts ≡ i / 20) × (i * 13108 % line_parts * 20 / line_parts ≡ i % 20)
byte_of_20 i k =
    let r : RoundedUp line_parts 20 13108 = omega arith in
    (line_of_byte r (omega arith) i (omega arith), column_of_byte r (omega arith) i (omega arith))

pub byte_of_30 : (i : ℕ) → i < 4800 → (i * 8739 / line_parts ≡ i / 30) × (i * 8739 % line_parts * 30 / line_parts ≡ i % 30)
byte_of_30 i k =
    let r : RoundedUp line_parts 30 8739 = omega arith in
    (line_of_byte r (omega arith) i (omega arith), column_of_byte r (omega arith) i (omega arith))

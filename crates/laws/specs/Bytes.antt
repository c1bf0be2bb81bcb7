-- Bytes by their bits: the bits of `&`, `|`, `^`, of a complement and of a masked change; two bytes with equal bits are equal, and two screens with equal pixels are.
use Rattle.std.specs.Prelude.{◌≡◌, refl, Bool, true, false, cond, not, ◌&&◌, ◌||◌, List, ℕ, zero, suc, ◌+◌, ◌-◌, ◌*◌, ◌/◌, ◌%◌, ◌^◌, ◌<◌, eqb, length, get_or, set}
use Rattle.std.proofs.Common.{sym, ◌∙◌, arith, mod-lt, ext_get_or, get_or-set_same, get_or-set_other, eqb-true}
use Rattle.std.proofs.Math.Bool.{xor, and-true, and-false, or-false}
use Rattle.std.specs.Bool.{beq}
use Rattle.std.proofs.Math.Nat.{div-add-mod}
use Rattle.std.specs.Int.Bits.{bit_and, bit_or, bit_xor, and_lt}
use Rattle.std.proofs.lemmas.Nat.{and_shr, or_shr, xor_shr, and_mod, or_mod, xor_mod, or_lt}
use Rattle.std.proofs.Math.Seq.{set_out}
use Rattle.model.specs.Bits.{bit_at}
use Rattle.model.specs.Pixels.{bit, put, place}
use Rattle.model.specs.Bytes.{Bytes}
use Rattle.laws.specs.Tests.{by_lt, by_eq}
use Rattle.laws.specs.Bits.{same_bool, all_below, every-at, every₂_at, with_bit-lt}

-- ---- an operation that works bit by bit

-- the operation on two digits is f
abbrev digit_rule : (ℕ → ℕ → ℕ) → (Bool → Bool → Bool) → ℕ → ℕ → Bool
digit_rule op f i j = beq (eqb (op i j) 1) (f (eqb i 1) (eqb j 1))

by_digits : (op : ℕ → ℕ → ℕ) (f : Bool → Bool → Bool)
    → ((a b k : ℕ) → op a b / 2 ^ k ≡ op (a / 2 ^ k) (b / 2 ^ k)) → ((a b k : ℕ) → op a b % 2 ^ k ≡ op (a % 2 ^ k) (b % 2 ^ k))
    → all_below 2 (λ i. all_below 2 (digit_rule op f i)) ≡ true → (a b k : ℕ) → bit_at (op a b) k ≡ f (bit_at a k) (bit_at b k)
unfolding bit_at
by_digits op f shr low all a b k =
    rw (shr a b k, low (a / 2 ^ k) (b / 2 ^ k) 1) (same_bool _ _ (every₂_at 2 2 (digit_rule op f) all (a / 2 ^ k % 2) (b / 2 ^ k % 2) (omega arith) (omega arith)))

pub bit_at-and : (a b k : ℕ) → bit_at (bit_and a b) k ≡ (bit_at a k && bit_at b k)
bit_at-and = by_digits bit_and ◌&&◌ and_shr and_mod refl

pub bit_at-or : (a b k : ℕ) → bit_at (bit_or a b) k ≡ (bit_at a k || bit_at b k)
bit_at-or = by_digits bit_or ◌||◌ or_shr or_mod refl

pub bit_at-xor : (a b k : ℕ) → bit_at (bit_xor a b) k ≡ xor (bit_at a k) (bit_at b k)
unfolding xor
bit_at-xor = by_digits bit_xor xor xor_shr xor_mod refl

-- ---- the complement of a byte

pub bit_at-not : (m k : ℕ) → m < 256 → k < 8 → bit_at (255 - m) k ≡ not (bit_at m k)
unfolding bit_at
bit_at-not m k hm hk = same_bool _ _ (every₂_at 256 8 (λ m k. beq (bit_at (255 - m) k) (not (bit_at m k))) refl m k hm hk)

-- ---- a byte with the bits of a mask changed

-- v is b with each bit k of the mask m changed by f, which is told k
pub record Masked (m : ℕ) (f : ℕ → Bool → Bool) (b v : ℕ) : Type 0 where
  pub small : v < 256
  pub bits : (k : ℕ) → k < 8 → bit_at v k ≡ cond (bit_at m k) (f k (bit_at b k)) (bit_at b k)

-- the bits of the mask taken from another byte
abbrev pub mixed : ℕ → ℕ → ℕ → ℕ
mixed m from onto = bit_or (bit_and from m) (bit_and onto (255 - m))

mix_cond : (f o t : Bool) → (f && t || o && not t) ≡ cond t f o
mix_cond f o true = rw (and-true f, and-false o) (or-false f)
mix_cond f o false = rw (and-false f) (and-true o)

pub mix_masked : (b m : ℕ) → b < 256 → m < 256 → (f : ℕ) → f < 256 → Masked m (λ k v. bit_at f k) b (mixed m f b)
mix_masked b m hb hm f hf = record {
  small = or_lt 8 (bit_and f m) (bit_and b (255 - m)) (and_lt 8 f m hf hm) (and_lt 8 b (255 - m) hb (omega arith));
  bits = λ k h. cc (bit_at-or (bit_and f m) (bit_and b (255 - m)) k, bit_at-and f m k, bit_at-and b (255 - m) k, bit_at-not m k hm h, mix_cond (bit_at f k) (bit_at b k) (bit_at m k));
}

-- ---- a byte is the sum of its bits

abbrev sum : ℕ → (ℕ → Bool) → ℕ
sum zero f = 0
sum (suc n) f = cond (f n) (2 ^ n) 0 + sum n f

byte_sum : (b : ℕ) → b < 256 → b ≡ sum 8 (bit_at b)
unfolding bit_at
byte_sum b h = eqb-true _ _ (every-at 256 (λ b. eqb b (sum 8 (bit_at b))) refl b h)

byte_equal : (a b : ℕ) → a < 256 → b < 256 → ((k : ℕ) → k < 8 → bit_at a k ≡ bit_at b k) → a ≡ b
byte_equal a b ha hb e =
    let bits : (k : ℕ) → k + 1 - 8 ≡ 0 → bit_at a k ≡ bit_at b k = λ k h. e k (omega arith) in
    byte_sum a ha ∙ (simp bits) ∙ sym (byte_sum b hb)

-- ---- lists of bytes

pub bytes_set : (s : List ℕ) (i v : ℕ) → Bytes s → v < 256 → Bytes (set s i v)
unfolding Bytes
bytes_set s i v hs hv j =
    by_eq j i
    (λ e. by_lt i (length s) (λ l. rw (e, get_or-set_same s i v 0 l) hv) (λ l. rw (set_out s i v l) (hs j)))
    (λ n. rw (get_or-set_other s i j v 0 n) (hs j))

pub bytes_put : (st : ℕ) (s : List ℕ) (x y : ℕ) (v : Bool) → Bytes s → Bytes (put st s x y v)
unfolding put Bytes
bytes_put st s x y v hs = bytes_set s (place st x y) _ hs (with_bit-lt _ (7 - x % 8) v (hs (place st x y)) (omega arith))

-- two screens with equal pixels are equal
pub screens_equal : (st : ℕ) (s t : List ℕ) → 0 < st → length s ≡ length t → Bytes s → Bytes t
    → ((x y : ℕ) → x < 8 * st → bit st s x y ≡ bit st t x y) → s ≡ t
unfolding bit Bytes
screens_equal st s t hst hl hs ht e =
    ext_get_or 0 s t hl
    (λ i h. byte_equal (get_or s i 0) (get_or t i 0) (hs i) (ht i)
    (λ k hk. let l : i % st < st = mod-lt i hst in
    let x = 8 * (i % st) + (7 - k) in
    let here : place st x (i / st) ≡ i = omega (arith, div-add-mod i st) in
    let bit : 7 - x % 8 ≡ k = omega arith in
    rw (here, bit) at (e x (i / st) (omega arith))))

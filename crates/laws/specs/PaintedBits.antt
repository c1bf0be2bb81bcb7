-- A run of bits painted by other bits of the same list, a byte at a time. The list is one line: its bit i is pixel i of that line, bit 0x80 >> (i mod 8) of byte i / 8.
-- The source bits of a byte lie in one byte or two, which are shifted into line; a mask keeps the bits of the first and the last byte that are not painted.
use Rattle.std.specs.Prelude.{◌≡◌, refl, Bool, cond, ◌⊎◌, List, ◌∷◌, ◌++◌, ℕ, zero, suc, ◌+◌, ◌-◌, ◌*◌, ◌/◌, ◌%◌, ◌^◌, ◌≤◌, ◌<◌, ltb, length, get_or, set}
use Rattle.std.proofs.Common.{sym, ap, ◌∙◌, inl, inr, add-zero, zero-add, suc-add, add-suc, add-one, arith, shr-shr, lt-ltb, le-ltb}
use Rattle.std.specs.Int.Bits.{bit_and, bit_or, bit_xor, and_lt, and_zero_r, or_zero_r}
use Rattle.std.proofs.lemmas.Nat.{or_lt, xor_lt, and_mask}
use Rattle.std.proofs.Math.Pow.{field, mod-mod-pow}
use Rattle.model.specs.Bits.{bit_at}
use Rattle.model.specs.Bytes.{Bytes}
use Rattle.model.specs.Pixels.{bit, put, draw, write_pixel}
use Rattle.model.specs.declared.PaintMode.{PaintMode}
use Rattle.model.specs.declared.PaintMode.TheVariants.{Copy, Or, Not, And, Xor}
use Rattle.model.specs.Bitmaps.{paint_op, painted_line}
use Rattle.laws.specs.Tests.{by_lt, either}
use Rattle.laws.specs.Bytes.{bit_at-and, bit_at-or, bit_at-xor, bit_at-not, Masked, mixed, mix_masked}
use Rattle.laws.specs.Pixels.{length-draw}
use Rattle.laws.specs.Writes.{draw-append}
use Rattle.laws.specs.Masks.{start_mask, end_mask, Mask, start-mask, end-mask, both-masks, whole_mask, Run, run_none, run-put, run_join, run-masked, run_equal}

-- ---- a shifted byte

-- the eight bits that begin l bits into a, which b follows
abbrev pub shifted : ℕ → ℕ → ℕ → ℕ
shifted l a b = (a * 256 + b) / 2 ^ (8 - l) % 256

low_bit : (n k : ℕ) → k < 8 → bit_at (n % 256) k ≡ bit_at n k
unfolding bit_at
low_bit n k h =
    let e : n % 256 ≡ n % 2 ^ (8 - k + k) = (let f : 8 - k + k ≡ 8 = omega arith in rw f) in
    let g : 2 ^ (8 - k) ≡ 2 ^ (7 - k + 1) = (let f : 8 - k ≡ 7 - k + 1 = omega arith in rw f) in
    rw (e, field n (8 - k) k, g, mod-mod-pow (n / 2 ^ k) (7 - k) 1)

high_bit : (n r k : ℕ) → bit_at (n / 2 ^ r) k ≡ bit_at n (r + k)
unfolding bit_at
high_bit n r k = rw (shr-shr n r k)

pub shifted-bit : (l a b j : ℕ) → b < 256 → l < 8 → j < 8
    → bit_at (shifted l a b) (7 - j) ≡ cond (ltb (l + j) 8) (bit_at a (7 - (l + j))) (bit_at b (15 - (l + j)))
shifted-bit l a b j hb hl hj =
    let n = a * 256 + b in
    let e : bit_at (shifted l a b) (7 - j) ≡ bit_at n (15 - (l + j)) =
    low_bit (n / 2 ^ (8 - l)) (7 - j) (omega arith) ∙ high_bit n (8 - l) (7 - j) ∙ (let f : 8 - l + (7 - j) ≡ 15 - (l + j) = omega arith in ap (bit_at n) f) in
    by_lt (l + j) 8
    (λ h. let f : 15 - (l + j) ≡ 8 + (7 - (l + j)) = omega arith in
    let g : n / 2 ^ 8 ≡ a = omega arith in
    rw (lt-ltb (l + j) 8 h) (e ∙ ap (bit_at n) f ∙ sym (high_bit n 8 (7 - (l + j))) ∙ ap (λ (m : ℕ). bit_at m (7 - (l + j))) g))
    (λ h. let g : n % 256 ≡ b = omega arith in
    rw (le-ltb (l + j) 8 h) (e ∙ sym (low_bit n (15 - (l + j)) (omega arith)) ∙ ap (λ (m : ℕ). bit_at m (15 - (l + j))) g))

-- ---- the source bits of a byte

-- the eight bits of m from bit i - 8 on; there is a byte of zeros before m and after it
abbrev pub source_byte : List ℕ → ℕ → ℕ
source_byte m i = shifted (i % 8) (get_or (0 ∷ m) (i / 8) 0) (get_or m (i / 8) 0)

pub before : (m : List ℕ) (i : ℕ) → 0 < i → get_or (0 ∷ m) i 0 ≡ get_or m (i - 1) 0
before m i h = let e : i ≡ suc (i - 1) = omega arith in ap (λ (k : ℕ). get_or (0 ∷ m) k 0) e

-- where the source begins with a byte, and l bits into one
pub aligned_source : (m : List ℕ) (k i : ℕ) → Bytes m → i ≡ 8 * k + 8 → get_or m k 0 ≡ source_byte m i
unfolding Bytes
aligned_source m k i hm e =
    let p : i / 8 ≡ suc k = omega arith in
    let q : i % 8 ≡ 0 = omega arith in
    let whole : (a b : ℕ) → a < 256 → b < 256 → a ≡ shifted 0 a b = λ a b ha hb. omega arith in
    rw (p, q) (whole (get_or m k 0) (get_or m (suc k) 0) (hm k) (hm (suc k)))

pub shifted_source : (m : List ℕ) (k l i : ℕ) → l < 8 → i ≡ 8 * k + l + 8 → shifted l (get_or m k 0) (get_or m (k + 1) 0) ≡ source_byte m i
shifted_source m k l i h e =
    let p : i / 8 ≡ suc k = omega arith in
    let q : i % 8 ≡ l = omega arith in
    rw (p, q, add-one k)

source_bit : (m : List ℕ) (i j k : ℕ) → Bytes m → j < 8 → i + j ≡ k + 8 → bit_at (source_byte m i) (7 - j) ≡ bit_at (get_or m (k / 8) 0) (7 - k % 8)
unfolding Bytes
source_bit m i j k hm hj e =
    let here = shifted-bit (i % 8) (get_or (0 ∷ m) (i / 8) 0) (get_or m (i / 8) 0) j (hm (i / 8)) (omega arith) hj in
    by_lt (i % 8 + j) 8
    (λ h. let p : i / 8 - 1 ≡ k / 8 = omega arith in
    let q : 7 - (i % 8 + j) ≡ 7 - k % 8 = omega arith in
    cc (lt-ltb (i % 8 + j) 8 h, before m (i / 8) (omega arith)))
    (λ h. let p : i / 8 ≡ k / 8 = omega arith in
    let q : 15 - (i % 8 + j) ≡ 7 - k % 8 = omega arith in
    cc (le-ltb (i % 8 + j) 8 h))

-- ---- a painted byte

-- what a mode makes of source byte s and of the byte v that it finds
abbrev pub paint_byte : PaintMode → ℕ → ℕ → ℕ
paint_byte Copy s v = s
paint_byte Or s v = bit_or s v
paint_byte Not s v = 255 - s
paint_byte And s v = bit_and s v
paint_byte Xor s v = bit_xor s v

paint_small : (m : PaintMode) (s v : ℕ) → s < 256 → v < 256 → paint_byte m s v < 256
paint_small Copy s v hs hv = hs
paint_small Or s v hs hv = or_lt 8 s v hs hv
paint_small Not s v hs hv = omega arith
paint_small And s v hs hv = and_lt 8 s v hs hv
paint_small Xor s v hs hv = xor_lt 8 s v hs hv

paint-bit : (m : PaintMode) (s v k : ℕ) → s < 256 → k < 8 → bit_at (paint_byte m s v) k ≡ paint_op m (bit_at s k) (bit_at v k)
unfolding paint_op
paint-bit Copy s v k hs hk = refl
paint-bit Or s v k hs hk = bit_at-or s v k
paint-bit Not s v k hs hk = bit_at-not s k hs hk
paint-bit And s v k hs hk = bit_at-and s v k
paint-bit Xor s v k hs hk = bit_at-xor s v k

-- v with the bits of the mask so painted
abbrev pub mask_painted : PaintMode → ℕ → ℕ → ℕ → ℕ
mask_painted mode mask s v = mixed mask (paint_byte mode s v) v

mask-painted : (mode : PaintMode) (mask s v : ℕ) → s < 256 → v < 256 → mask < 256 → Masked mask (λ k t. paint_op mode (bit_at s k) t) v (mask_painted mode mask s v)
mask-painted mode mask s v hs hv hm =
    let o = mix_masked v mask hv hm (paint_byte mode s v) (paint_small mode s v hs hv) in
    record { small = o.small; bits = λ k h. o.bits k h ∙ ap (λ (t : Bool). cond (bit_at mask k) t (bit_at v k)) (paint-bit mode s v k hs h) }

-- ---- the run

-- n bits of m from bit `to` on, painted by those from bit `from` on
abbrev pub painted_bits : PaintMode → ℕ → ℕ → ℕ → List ℕ → List ℕ
painted_bits mode from to n m = draw (length m) (painted_line (length m) m mode from 0 to 0 n) m

-- a painted line by its pixels
run-painted : (st k : ℕ) (source : List ℕ) (mode : PaintMode) (i j x y n b : ℕ) (op : ℕ → Bool → Bool) (p : List ℕ) → x + n ≡ b → b ≤ 8 * st → st * y + st ≤ length p → Bytes p
    → ((z : ℕ) (v : Bool) → x ≤ z → z < b → paint_op mode (bit k source (z + i - x) j) v ≡ op z v)
    → Run st y x b op p (draw st (painted_line k source mode i j x y n) p)
unfolding painted_line draw write_pixel
run-painted st k source mode i j x y zero b op p e hb hl hp f = let q : b ≡ x = omega arith in rw q (run_none st y x op p hp)
run-painted st k source mode i j x y (suc n) b op p e hb hl hp f =
    let h : x + i - x ≡ i = omega arith in
    let first : op x (bit st p x y) ≡ paint_op mode (bit k source i j) (bit st p x y) =
    sym (f x (bit st p x y) (omega arith) (omega arith)) ∙ ap (λ (c : ℕ). paint_op mode (bit k source c j) (bit st p x y)) h in
    let o : Run st y x (suc x) op p (put st p x y (paint_op mode (bit k source i j) (bit st p x y))) = rw first at (run-put st y x op p (omega arith) (omega arith) hp) in
    run_join st y x (suc x) b op p _ _ (omega arith) (omega arith) hb o
    (run-painted st k source mode (suc i) j (suc x) y n b op _ (omega arith) hb (rw o.sized hl) o.bytes
    (λ z v l u. let g : z + suc i - suc x ≡ z + i - x = omega arith in rw g (f z v (omega arith) u)))

-- what paints pixel z of the run: its source bit
abbrev painting : PaintMode → ℕ → ℕ → List ℕ → ℕ → Bool → Bool
painting mode from to m z v = paint_op mode (bit (length m) m (z + from - to) 0) v

run_bits : (mode : PaintMode) (from to n b : ℕ) (m : List ℕ) → to + n ≡ b → b ≤ 8 * length m → Bytes m → Run (length m) 0 to b (painting mode from to m) m (painted_bits mode from to n m)
run_bits mode from to n b m e hb hm = run-painted (length m) (length m) m mode from 0 to 0 n b _ m e hb (omega arith) hm (λ z v l u. refl)

-- the bits a up to b of byte `at`, by their mask; i is the source bit that falls on the first bit of the byte, plus 8
byte_painted : (mode : PaintMode) (at a b mask i from : ℕ) (m : List ℕ) → Bytes m → at < length m → Mask at a b mask → a ≤ b → i + a ≡ from + 8 * (at + 1)
    → set m at (mask_painted mode mask (source_byte m i) (get_or m at 0)) ≡ painted_bits mode from a (b - a) m
unfolding Bytes bit
byte_painted mode at a b mask i from m hm hl hk hab e =
    let z : length m * 0 + at ≡ at = omega arith in
    run_equal (length m) 0 a b (painting mode from a m) m _ _ (omega arith)
    (rw z at (run-masked (length m) 0 at a b mask (λ k t. paint_op mode (bit_at (source_byte m i) k) t) (painting mode from a m) m _ hk hl (omega arith) hm
    (mask-painted mode mask (source_byte m i) (get_or m (length m * 0 + at) 0) (omega arith) (hm (length m * 0 + at)) hk.small)
    (λ x t q l u. ap (λ (v : Bool). paint_op mode v t)
    (source_bit m i (x % 8) (x + from - a) hm (omega arith) (omega arith)
    ∙ (let w : (x + from - a) / 8 ≡ length m * 0 + (x + from - a) / 8 = omega arith in ap (λ (c : ℕ). bit_at (get_or m c 0) (7 - (x + from - a) % 8)) w)))))
    (run_bits mode from a (b - a) b m (omega arith) (omega arith) hm)

pub bits_none : (mode : PaintMode) (from to n : ℕ) (m : List ℕ) → n ≡ 0 → m ≡ painted_bits mode from to n m
unfolding painted_line draw
bits_none mode from to n m e = rw e

pub length-painted : (mode : PaintMode) (from to n : ℕ) (m : List ℕ) → length (painted_bits mode from to n m) ≡ length m
length-painted mode from to n m = length-draw (length m) (painted_line (length m) m mode from 0 to 0 n) m

pub bytes_painted : (mode : PaintMode) (from to n : ℕ) (m : List ℕ) → to + n ≤ 8 * length m → Bytes m → Bytes (painted_bits mode from to n m)
bytes_painted mode from to n m h hm = (run_bits mode from to n (to + n) m refl h hm).bytes

-- n bits from `to` on and n bits from `from` on have none in common
abbrev pub Apart : ℕ → ℕ → ℕ → Type 0
Apart to from n = (to + n ≤ from) ⊎ (from + n ≤ to)

-- a line depends on its source bits alone
line_same : (k : ℕ) (s t : List ℕ) (mode : PaintMode) (i j x y n : ℕ) → ((z : ℕ) → i ≤ z → z < i + n → bit k t z j ≡ bit k s z j)
    → painted_line k t mode i j x y n ≡ painted_line k s mode i j x y n
unfolding painted_line
line_same k s t mode i j x y zero f = refl
line_same k s t mode i j x y (suc n) f =
    let first = f i (omega arith) (omega arith) in
    let rest = line_same k s t mode (suc i) j (suc x) y n (λ z l u. f z (omega arith) (omega arith)) in
    λ e. record { x = x; y = y; op = paint_op mode (first e) } ∷ rest e

line-append : (k : ℕ) (s : List ℕ) (mode : PaintMode) (i j x y n l : ℕ) → painted_line k s mode i j x y (n + l) ≡ painted_line k s mode i j x y n ++ painted_line k s mode (i + n) j (x + n) y l
unfolding painted_line
line-append k s mode i j x y zero l = rw (zero-add l, add-zero i, add-zero x)
line-append k s mode i j x y (suc n) l = cc (suc-add n l, add-suc i n, suc-add i n, add-suc x n, suc-add x n, line-append k s mode (suc i) j (suc x) y n l)

-- runs that meet are one: the first leaves the source bits of the second as they are
pub bits_join : (mode : PaintMode) (from to n l : ℕ) (m : List ℕ) → Bytes m → Apart to from (n + l) → to + n ≤ 8 * length m → from + (n + l) ≤ 8 * length m
    → painted_bits mode (from + n) (to + n) l (painted_bits mode from to n m) ≡ painted_bits mode from to (n + l) m
bits_join mode from to n l m hm o hb hf =
    let L = length m in
    let p = painted_bits mode from to n m in
    let kept : (z : ℕ) → from + n ≤ z → z < from + n + l → bit L p z 0 ≡ bit L m z 0 =
    λ z a b. (run_bits mode from to n (to + n) m refl hb hm).others z 0 (omega arith) (λ i. either o (λ h. omega arith) (λ h. omega arith)) in
    rw (length-painted mode from to n m)
    (cc (line_same L m p mode (from + n) 0 (to + n) 0 l kept, line-append L m mode from 0 to 0 n l, draw-append L (painted_line L m mode from 0 to 0 n) (painted_line L m mode (from + n) 0 (to + n) 0 l) m))

-- ---- the run by bytes

mixed-whole : (f b : ℕ) → f < 256 → mixed 255 f b ≡ f
mixed-whole f b h = rw (and_mask f 8, and_zero_r b, or_zero_r (f % 256)) (omega arith)

-- the bytes `first` up to `to`, whole, as a loop paints them: byte `at` by source byte s
pub bytes_turn : (mode : PaintMode) (source first at to s : ℕ) (m p e : List ℕ) → Bytes m → first ≤ at → at < to → to ≤ length m
    → source + 8 * (to - first) ≤ 8 * length m → Apart (8 * first) source (8 * (to - first))
    → p ≡ painted_bits mode source (8 * first) (8 * (at - first)) m → s ≡ source_byte p (source + 8 * (at - first) + 8) → e ≡ set p at (paint_byte mode s (get_or p at 0))
    → e ≡ painted_bits mode source (8 * first) (8 * (at + 1 - first)) m
unfolding Bytes
bytes_turn mode source first at to s m p e hm l u hl hs o g ks w =
    let n = 8 * (at - first) in
    let long : length p ≡ length m = ap length g ∙ length-painted mode source (8 * first) n m in
    let hp : Bytes p = rw g (bytes_painted mode source (8 * first) n m (omega arith) hm) in
    let byte : s < 256 = omega arith in
    let i : 8 * first + n ≡ 8 * at = omega arith in
    let k : 8 * (at + 1) - 8 * at ≡ 8 = omega arith in
    let c : n + 8 ≡ 8 * (at + 1 - first) = omega arith in
    let here = byte_painted mode at (8 * at) (8 * (at + 1)) 255 (source + n + 8) (source + n) p hp (omega arith) (whole_mask at) (omega arith) (omega arith) in
    let one : e ≡ painted_bits mode (source + n) (8 * at) 8 p = cc (mixed-whole (paint_byte mode s (get_or p at 0)) (get_or p at 0) (paint_small mode s (get_or p at 0) byte (hp at))) in
    let apart : Apart (8 * first) source (n + 8) = either o (λ h. inl (omega arith)) (λ h. inr (omega arith)) in
    cc (bits_join mode source (8 * first) n 8 m hm apart (omega arith) (omega arith))

module _ (mode : PaintMode) (from to n : ℕ) (m e : List ℕ) (hm : Bytes m) (some : 0 < n) (ht : to + n ≤ 8 * length m) where
  abbrev first : ℕ
  first = to / 8

  abbrev last : ℕ
  last = (to + n - 1) / 8

  -- the source bit that falls on the first bit of the first byte, plus 8
  abbrev start : ℕ
  start = from + 8 - to % 8

  pub one_byte : {a b : ℕ} → first ≡ last → a ≡ start_mask to → b ≡ end_mask (to + n - 1)
      → e ≡ set m first (mask_painted mode (bit_and a b) (source_byte m start) (get_or m first 0)) → e ≡ painted_bits mode from to n m
  one_byte k p q w =
      let mask = both-masks to (to + n - 1) k in
      let c : to + n - 1 + 1 - to ≡ n = omega arith in
      cc (byte_painted mode first to (to + n - 1 + 1) (bit_and (start_mask to) (end_mask (to + n - 1))) start from m hm (omega arith) mask (omega arith) (omega arith))

  -- the first byte from its first painted bit on, the whole bytes between, the last byte up to its last painted bit
  pub many_bytes : (m₁ m₂ : List ℕ) {a b : ℕ} → Apart to from n → from + n ≤ 8 * length m → first < last → a ≡ start_mask to → b ≡ end_mask (to + n - 1)
      → m₁ ≡ set m first (mask_painted mode a (source_byte m start) (get_or m first 0))
      → m₂ ≡ painted_bits mode start (8 * (first + 1)) (8 * (last - (first + 1))) m₁
      → e ≡ set m₂ last (mask_painted mode b (source_byte m₂ (start + 8 * (last - first))) (get_or m₂ last 0))
      → e ≡ painted_bits mode from to n m
  many_bytes m₁ m₂ o hf l p q w₁ w₂ w₃ =
      let i = 8 * (first + 1) - to in
      let j = 8 * (last - (first + 1)) in
      let k = to + n - 1 + 1 - 8 * last in
      let g₁ : m₁ ≡ painted_bits mode from to i m =
      cc (byte_painted mode first to (8 * (first + 1)) (start_mask to) start from m hm (omega arith) (start-mask to) (omega arith) (omega arith)) in
      let f₁ : start ≡ from + i = omega arith in
      let t₁ : 8 * (first + 1) ≡ to + i = omega arith in
      let apart : (c : ℕ) → c ≤ n → Apart to from c = λ c h. either o (λ z. inl (omega arith)) (λ z. inr (omega arith)) in
      let g₂ : m₂ ≡ painted_bits mode from to (i + j) m = cc (bits_join mode from to i j m hm (apart (i + j) (omega arith)) (omega arith) (omega arith)) in
      let long : length m₂ ≡ length m = ap length g₂ ∙ length-painted mode from to (i + j) m in
      let hm₂ : Bytes m₂ = rw g₂ (bytes_painted mode from to (i + j) m (omega arith) hm) in
      let t₂ : 8 * last ≡ to + (i + j) = omega arith in
      let g₃ : e ≡ painted_bits mode (from + (i + j)) (8 * last) k m₂ =
      cc (byte_painted mode last (8 * last) (to + n - 1 + 1) (end_mask (to + n - 1)) (start + 8 * (last - first)) (from + (i + j)) m₂ hm₂ (omega arith) (end-mask (to + n - 1)) (omega arith) (omega arith)) in
      let c : i + j + k ≡ n = omega arith in
      cc (bits_join mode from to (i + j) k m hm (apart (i + j + k) (omega arith)) (omega arith) (omega arith))

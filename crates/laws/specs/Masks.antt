-- A run of pixels of a line done by bytes: a mask for the first byte, a mask for the last, whole bytes between them.
-- `Run` says by pixels what such a run leaves; runs that meet are one run; two runs with the same change leave the same bytes.
use Rattle.std.specs.Prelude.{◌≡◌, refl, Bool, true, false, cond, ◌&&◌, List, ℕ, zero, suc, ◌+◌, ◌-◌, ◌*◌, ◌/◌, ◌%◌, ◌^◌, ◌≤◌, ◌<◌, leb, ltb, length, get_or, set}
use Rattle.std.proofs.Common.{sym, ap, ap₂, ◌∙◌, inl, inr, div-le_self, arith, length-set, get_or-set_same, get_or-set_other, le-leb, lt-ltb, le-ltb}
use Rattle.std.specs.Bool.{beq}
use Rattle.std.proofs.Math.Bool.{and-true as and_yes}
use Rattle.std.specs.Int.Bits.{bit_and}
use Rattle.std.proofs.lemmas.Nat.{and_le_r}
use Rattle.std.proofs.lemmas.Bool.{lt-leb}
use Rattle.model.specs.Bits.{bit_at}
use Rattle.model.specs.Pixels.{place, bit, put, write_pixel, draw, copy_run}
use Rattle.model.specs.Bytes.{Bytes}
use Rattle.model.specs.declared.DrawMode.{DrawMode}
use Rattle.model.specs.Lines.{run_op, pixel_run}
use Rattle.laws.specs.Tests.{by_lt, by_eq, by_test, tests, and-true, either}
use Rattle.laws.specs.Bits.{same_bool, every-at, every₂_at}
use Rattle.laws.specs.Bytes.{bit_at-and, Masked, bytes_set, bytes_put, screens_equal}
use Rattle.laws.specs.Pixels.{place-line, length-put, put_same, put_other}
use Rattle.laws.specs.Rects.{dec_in}

-- ---- the masks

-- the pixels of x's byte from x on
abbrev pub start_mask : ℕ → ℕ
start_mask x = 255 / 2 ^ (x % 8)

-- the pixels of x's byte up to x
abbrev pub end_mask : ℕ → ℕ
end_mask x = 255 - 127 / 2 ^ (x % 8)

-- the pixels a up to b, b not included, lie in byte k of a line, and m has just their bits
pub record Mask (k a b m : ℕ) : Type 0 where
  pub within : (8 * k ≤ a) × (b ≤ 8 * (k + 1))
  pub small : m < 256
  pub has : (x : ℕ) → x / 8 ≡ k → bit_at m (7 - x % 8) ≡ (leb a x && ltb x b)

-- two pixels of one byte stand as their places in it
same_byte : (a x : ℕ) → x / 8 ≡ a / 8 → leb (a % 8) (x % 8) ≡ leb a x
same_byte a x e =
    by_lt x a
    (λ l. lt-leb (a % 8) (x % 8) (omega arith) ∙ sym (lt-leb a x l))
    (λ l. le-leb (a % 8) (x % 8) (omega arith) ∙ sym (le-leb a x l))

pub start-bit : (a x : ℕ) → x / 8 ≡ a / 8 → bit_at (start_mask a) (7 - x % 8) ≡ leb a x
unfolding bit_at
start-bit a x e = same_bool _ _ (every₂_at 8 8 (λ i j. beq (bit_at (255 / 2 ^ i) (7 - j)) (leb i j)) refl (a % 8) (x % 8) (omega arith) (omega arith)) ∙ same_byte a x e

pub end_bit : (b x : ℕ) → x / 8 ≡ b / 8 → bit_at (end_mask b) (7 - x % 8) ≡ leb x b
unfolding bit_at
end_bit b x e = same_bool _ _ (every₂_at 8 8 (λ i j. beq (bit_at (255 - 127 / 2 ^ i) (7 - j)) (leb j i)) refl (b % 8) (x % 8) (omega arith) (omega arith)) ∙ same_byte x b (sym e)

leb-suc : (x b : ℕ) → leb x b ≡ ltb x (b + 1)
leb-suc x b = by_lt b x (λ l. lt-leb x b l ∙ sym (le-ltb x (b + 1) (omega arith))) (λ l. le-leb x b l ∙ sym (lt-ltb x (b + 1) (omega arith)))

pub start-mask : (a : ℕ) → Mask (a / 8) a (8 * (a / 8 + 1)) (start_mask a)
start-mask a = record {
  within = omega arith;
  small = omega (arith, div-le_self 255 (2 ^ (a % 8)));
  has = λ x e. rw (lt-ltb x (8 * (a / 8 + 1)) (omega arith)) (start-bit a x e ∙ sym (and_yes (leb a x)));
}

pub end-mask : (b : ℕ) → Mask (b / 8) (8 * (b / 8)) (b + 1) (end_mask b)
end-mask b = record {
  within = omega arith;
  small = omega arith;
  has = λ x e. rw (le-leb (8 * (b / 8)) x (omega arith)) (end_bit b x e ∙ leb-suc x b);
}

pub both-masks : (a b : ℕ) → a / 8 ≡ b / 8 → Mask (a / 8) a (b + 1) (bit_and (start_mask a) (end_mask b))
both-masks a b h = record {
  within = omega arith;
  small = omega (arith, and_le_r (start_mask a) (end_mask b));
  has = λ x e. bit_at-and (start_mask a) (end_mask b) (7 - x % 8) ∙ ap₂ ◌&&◌ (start-bit a x e) (end_bit b x (e ∙ h) ∙ leb-suc x b);
}

-- one pixel alone
pub point_mask : (x : ℕ) → Mask (x / 8) x (x + 1) (128 / 2 ^ (x % 8))
unfolding bit_at
point_mask x = record {
  within = omega arith;
  small = omega (arith, div-le_self 128 (2 ^ (x % 8)));
  has = λ z e.
      same_bool _ _ (every₂_at 8 8 (λ i j. beq (bit_at (128 / 2 ^ i) (7 - j)) (leb i j && leb j i)) refl (x % 8) (z % 8) (omega arith) (omega arith))
      ∙ ap₂ ◌&&◌ (same_byte x z e) (same_byte z x (sym e) ∙ leb-suc z x);
}

pub whole_mask : (k : ℕ) → Mask k (8 * k) (8 * (k + 1)) 255
unfolding bit_at
whole_mask k = record {
  within = omega arith;
  small = omega arith;
  has = λ x e. rw (le-leb (8 * k) x (omega arith), lt-ltb x (8 * (k + 1)) (omega arith)) (every-at 8 (bit_at 255) refl (7 - x % 8) (omega arith));
}

-- ---- a run

-- (x, y') is a pixel of line y, from a up to b, b not included
abbrev pub InRun : ℕ → ℕ → ℕ → ℕ → ℕ → Type 0
InRun y a b x y' = (y' ≡ y) × (a ≤ x) × (x < b)

-- q is p with the pixels a up to b of line y changed by op, which is told the pixel's x; all others are as they were
pub record Run (st y a b : ℕ) (op : ℕ → Bool → Bool) (p q : List ℕ) : Type 0 where
  pub sized : length q ≡ length p
  pub bytes : Bytes q
  pub within : (x : ℕ) → a ≤ x → x < b → bit st q x y ≡ op x (bit st p x y)
  pub others : (x y' : ℕ) → x < 8 * st → (InRun y a b x y' → ⊥) → bit st q x y' ≡ bit st p x y'

pub run_none : (st y a : ℕ) (op : ℕ → Bool → Bool) (p : List ℕ) → Bytes p → Run st y a a op p p
run_none st y a op p h = record { sized = refl; bytes = h; within = λ x l u. absurd (omega arith); others = λ x y' hx n. refl }

-- runs that meet are one run
pub run_join : (st y a b c : ℕ) (op : ℕ → Bool → Bool) (p q r : List ℕ) → a ≤ b → b ≤ c → c ≤ 8 * st
    → Run st y a b op p q → Run st y b c op q r → Run st y a c op p r
run_join st y a b c op p q r ab bc cw f g = record {
  sized = g.sized ∙ f.sized;
  bytes = g.bytes;
  within = λ x l u.
      by_lt x b
      (λ i. g.others x y (omega arith) (λ n. omega arith) ∙ f.within x l i)
      (λ i. g.within x i u ∙ ap (op x) (f.others x y (omega arith) (λ n. omega arith)));
  others = λ x y' hx n. g.others x y' hx (λ i. n (omega arith)) ∙ f.others x y' hx (λ i. n (omega arith));
}

-- the first byte from a on, the whole bytes between, the last byte up to b
pub run-line : (st y a b : ℕ) (op : ℕ → Bool → Bool) (p p₁ p₂ p₃ : List ℕ) → a / 8 < b / 8 → b < 8 * st
    → Run st y a (8 * (a / 8 + 1)) op p p₁ → Run st y (8 * (a / 8 + 1)) (8 * (b / 8)) op p₁ p₂ → Run st y (8 * (b / 8)) (b + 1) op p₂ p₃
    → Run st y a (b + 1) op p p₃
run-line st y a b op p p₁ p₂ p₃ l hb f g h =
    run_join st y a (8 * (b / 8)) (b + 1) op p p₂ p₃ (omega arith) (omega arith) (omega arith)
    (run_join st y a (8 * (a / 8 + 1)) (8 * (b / 8)) op p p₁ p₂ (omega arith) (omega arith) (omega arith) f g) h

-- two runs over the same bytes with the same change leave the same bytes
pub run_equal : (st y a b : ℕ) (op : ℕ → Bool → Bool) (p q r : List ℕ) → 0 < st → Run st y a b op p q → Run st y a b op p r → q ≡ r
run_equal st y a b op p q r hst f g =
    screens_equal st q r hst (f.sized ∙ sym g.sized) f.bytes g.bytes
    (λ x y' hx. either (dec_in (record { left = a; top = y; right = b; bottom = y + 1 }) x y')
    (λ i. let e : y' ≡ y = omega arith in rw e (f.within x i.0 i.1 ∙ sym (g.within x i.0 i.1)))
    (λ n. let o : InRun y a b x y' → ⊥ = λ i. n (omega arith) in f.others x y' hx o ∙ sym (g.others x y' hx o)))

-- ---- a run within one byte, by its mask

-- the mask has the pixels of the run and no others
mask_on : {k a b m : ℕ} → Mask k a b m → (x : ℕ) → x / 8 ≡ k → a ≤ x → x < b → bit_at m (7 - x % 8) ≡ true
mask_on {a = a} {b} hm x e l u = hm.has x e ∙ ap₂ ◌&&◌ (le-leb a x l) (lt-ltb x b u)

mask_off : {k a b m : ℕ} → Mask k a b m → (x : ℕ) → x / 8 ≡ k → ((a ≤ x) × (x < b) → ⊥) → bit_at m (7 - x % 8) ≡ false
mask_off {a = a} {b} {m} hm x e n =
    by_test (bit_at m (7 - x % 8)) (λ t. absurd (n (omega (arith, tests, and-true (leb a x) (ltb x b) (sym (hm.has x e) ∙ t))))) (λ t. t)

-- a pixel whose byte is byte k of line y is on that line
on_line : (st y k x y' : ℕ) → k < st → x < 8 * st → place st x y' ≡ st * y + k → (y' ≡ y) × (x / 8 ≡ k)
on_line st y k x y' hk hx e =
    let l : y' ≡ y = place-line st x y' (8 * k) y hx (omega arith) (omega arith) in
    let w : st * y' ≡ st * y = ap (λ (n : ℕ). st * n) l in
    (l, omega arith)

pub run-masked : (st y k a b m : ℕ) (f op : ℕ → Bool → Bool) (p : List ℕ) (v : ℕ)
    → Mask k a b m → k < st → st * y + k < length p → Bytes p → Masked m f (get_or p (st * y + k) 0) v
    → ((x : ℕ) (t : Bool) → x / 8 ≡ k → a ≤ x → x < b → f (7 - x % 8) t ≡ op x t) → Run st y a b op p (set p (st * y + k) v)
unfolding bit
run-masked st y k a b m f op p v hm hk hi hp hv e = record {
  sized = length-set p (st * y + k) v;
  bytes = bytes_set p (st * y + k) v hp hv.small;
  within = λ x l u.
      let q : x / 8 ≡ k = omega arith in
      rw q (changed x ∙ ap (λ (t : Bool). cond t (f (7 - x % 8) (old x)) (old x)) (mask_on hm x q l u) ∙ e x (old x) q l u);
  others = λ x y' hx n.
      by_eq (place st x y') (st * y + k)
      (λ i. let q = on_line st y k x y' hk hx i in
      rw i (changed x ∙ ap (λ (t : Bool). cond t (f (7 - x % 8) (old x)) (old x)) (mask_off hm x q.1 (λ w. n (q.0, w.0, w.1)))))
      (λ d. ap (λ (c : ℕ). bit_at c (7 - x % 8)) (get_or-set_other p (st * y + k) (place st x y') v 0 d));
}
  where
    old : ℕ → Bool
    old x = bit_at (get_or p (st * y + k) 0) (7 - x % 8)

    changed : (x : ℕ) → bit_at (get_or (set p (st * y + k) v) (st * y + k) 0) (7 - x % 8) ≡ cond (bit_at m (7 - x % 8)) (f (7 - x % 8) (old x)) (old x)
    changed x = ap (λ (c : ℕ). bit_at c (7 - x % 8)) (get_or-set_same p (st * y + k) v 0 hi) ∙ hv.bits (7 - x % 8) (omega arith)

-- whole bytes k up to l of line y, copied from the screen s
pub run_bytes : (st y k l : ℕ) (s p q : List ℕ) → l ≤ st → length q ≡ length p → Bytes q
    → ((i : ℕ) → st * y + k ≤ i → i < st * y + l → get_or q i 0 ≡ get_or s i 0)
    → ((i : ℕ) → ((st * y + k ≤ i) × (i < st * y + l) → ⊥) → get_or q i 0 ≡ get_or p i 0)
    → Run st y (8 * k) (8 * l) (λ x v. bit st s x y) p q
unfolding bit
run_bytes st y k l s p q hl e hq inner outer = record {
  sized = e;
  bytes = hq;
  within = λ x a b. ap (λ (c : ℕ). bit_at c (7 - x % 8)) (inner (place st x y) (omega arith) (omega arith));
  others = λ x y' hx n.
      ap (λ (c : ℕ). bit_at c (7 - x % 8))
      (outer (place st x y')
      (λ i. let j = on_line st y (place st x y' - st * y) x y' (omega arith) hx (omega arith) in n (j.0, omega arith, omega arith)));
}

-- ---- runs by pixels: what the definitions leave

-- one pixel
pub run-put : (st y x : ℕ) (op : ℕ → Bool → Bool) (p : List ℕ) → x < 8 * st → place st x y < length p → Bytes p
    → Run st y x (suc x) op p (put st p x y (op x (bit st p x y)))
run-put st y x op p hx hi hp = record {
  sized = length-put st p x y _;
  bytes = bytes_put st p x y _ hp;
  within = λ x' l u. let e : x' ≡ x = omega arith in rw e (put_same st p x y _ hi);
  others = λ x' y' hx' n. put_other st p x y _ x' y' hx hx' (by_eq x' x (λ e. inr (λ f. n (f, omega arith, omega arith))) inl);
}

-- n pixels from a on, up to b, copied from the screen s
pub run-copy_run : (st y a b n : ℕ) (s p : List ℕ) → a + n ≡ b → b ≤ 8 * st → st * y + st ≤ length p → Bytes p
    → Run st y a b (λ x v. bit st s x y) p (copy_run st s y a n p)
unfolding copy_run
run-copy_run st y a b zero s p e hb hl hp = let q : b ≡ a = omega arith in rw q (run_none st y a _ p hp)
run-copy_run st y a b (suc n) s p e hb hl hp =
    let o = run-put st y a (λ x v. bit st s x y) p (omega arith) (omega arith) hp in
    run_join st y a (suc a) b _ p _ _ (omega arith) (omega arith) hb o
    (run-copy_run st y (suc a) b n s (put st p a y (bit st s a y)) (omega arith) hb (rw o.sized hl) o.bytes)

pub run-draw : (st y a b n : ℕ) (d : DrawMode) (p : List ℕ) → a + n ≡ b → b ≤ 8 * st → st * y + st ≤ length p → Bytes p
    → Run st y a b (λ x v. run_op d v) p (draw st (pixel_run a y n d) p)
unfolding draw write_pixel pixel_run
run-draw st y a b zero d p e hb hl hp = let q : b ≡ a = omega arith in rw q (run_none st y a _ p hp)
run-draw st y a b (suc n) d p e hb hl hp =
    let o = run-put st y a (λ x v. run_op d v) p (omega arith) (omega arith) hp in
    run_join st y a (suc a) b _ p _ _ (omega arith) (omega arith) hb o
    (run-draw st y (suc a) b n d (put st p a y (run_op d (bit st p a y))) (omega arith) hb (rw o.sized hl) o.bytes)

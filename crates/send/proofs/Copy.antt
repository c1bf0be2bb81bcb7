-- A line copied by bytes is the line copied by pixels.
use mathlib.Core.Path.{◌≡◌, refl, sym, ap, ◌∙◌}
use mathlib.Core.Bool.{Bool}
use mathlib.Core.List.{List}
use Prim.Native.Nat.{ℕ, ◌+◌, ◌-◌, ◌*◌, ◌/◌, ◌%◌, ◌≤◌, ◌<◌}
use native.Mathlib.Omega.{arith}
use lib.Bits.{bit_and}
use lib.ListN.{length, get_or, set, take, drop, get_or-append}
use lib.Seq.{get_or-take, get_or-drop, drop_at, length-take-le}
use borrow.Rule.Slice.PartMut.{mid_of, put_mid, take_put, drop_put, mid_len, same_len_mid}
use mir.Syntax.{w8}
use mir.Val.{Fits}
use Rattle.model.specs.declared.Rect.{Rect}
use Rattle.model.specs.Bits.{bit_at}
use Rattle.model.specs.Pixels.{bit}
use Rattle.model.specs.Bytes.{Bytes}
use Rattle.model.specs.Sends.{copy_line}
use Rattle.laws.specs.Tests.{by_lt}
use Rattle.laws.specs.Bytes.{mixed, mix_masked}
use Rattle.laws.specs.Masks.{start_mask, end_mask, Mask, start-mask, end-mask, both-masks, Run, run-masked, run_bytes, run-line, run_equal, run-copy_run}
use Rattle.laws.specs.Runs.{line_in}
use Rattle.send.specs.Line.{LineOn}

-- the line lies within the bytes of the screen
pub row_in : (st h : ℕ) (s p : List ℕ) (r : Rect) → LineOn st h s p r → st * r.top + st ≤ st * h
row_in st h s p r l = omega (arith, line_in st h r.top l.screen l.above)

-- a byte of a slice
abbrev pub FitBytes : List ℕ → Type 0
FitBytes s = (i : ℕ) → Fits w8 (get_or s i 0)

are_bytes : (s : List ℕ) → FitBytes s → Bytes s
unfolding Bytes
are_bytes s k i = (k i).fits

-- what the copy makes of a pixel of line y: the screen's bit
abbrev taking : ℕ → List ℕ → ℕ → ℕ → Bool → Bool
taking st s y x v = bit st s x y

-- one byte, its masked bits copied
run-mixed : (st y k a b m : ℕ) (s p : List ℕ) → Mask k a b m → k < st → st * y + k < length p → Bytes s → Bytes p
    → Run st y a b (taking st s y) p (set p (st * y + k) (mixed m (get_or s (st * y + k) 0) (get_or p (st * y + k) 0)))
unfolding bit Bytes
run-mixed st y k a b m s p hm hk hi hs hp =
    run-masked st y k a b m _ _ p _ hm hk hi hp
    (mix_masked (get_or p (st * y + k) 0) m (hp (st * y + k)) hm.small (get_or s (st * y + k) 0) (hs (st * y + k)))
    (λ x t e l u. ap (λ (j : ℕ). bit_at (get_or s (st * y + j) 0) (7 - x % 8)) (sym e))

-- ---- a part that was lent, a up to e, and came back as ys

put_before : (a k i : ℕ) (p ys : List ℕ) → a ≤ length p → i < a → get_or (put_mid a k p ys) i 0 ≡ get_or p i 0
put_before a k i p ys h l =
    sym (get_or-take a (put_mid a k p ys) i 0 l) ∙ ap (λ (t : List ℕ). get_or t i 0) (take_put a k p ys h) ∙ get_or-take a p i 0 l

-- an element from e on, counted from e
from_on : (e i : ℕ) (t : List ℕ) → e ≤ i → get_or t i 0 ≡ get_or (drop e t) (i - e) 0
from_on e i t h = let q : i ≡ e + (i - e) = omega arith in ap (λ (n : ℕ). get_or t n 0) q ∙ sym (get_or-drop e t (i - e) 0)

put-after : (a e i : ℕ) (p ys : List ℕ) → a ≤ e → e ≤ length p → length ys ≡ e - a → e ≤ i → get_or (put_mid a (e - a) p ys) i 0 ≡ get_or p i 0
put-after a e i p ys h g l u =
    from_on e i (put_mid a (e - a) p ys) u ∙ ap (λ (t : List ℕ). get_or t (i - e) 0) (drop_put a e p ys h g l) ∙ sym (from_on e i p u)

put-part : (a e i : ℕ) (p s : List ℕ) → e ≤ length s → a ≤ length p → a ≤ i → i < e → get_or (put_mid a (e - a) p (mid_of a (e - a) s)) i 0 ≡ get_or s i 0
put-part a e i p s g h l u =
    from_on a i (put_mid a (e - a) p (mid_of a (e - a) s)) l
    ∙ ap (λ (t : List ℕ). get_or t (i - a) 0) (drop_at (take a p) _ a (length-take-le a p h))
    ∙ get_or-append (mid_of a (e - a) s) _ 0 (i - a) (omega (arith, mid_len a e s g))
    ∙ get_or-take (e - a) (drop a s) (i - a) 0 (omega arith) ∙ sym (from_on a i s l)

-- bytes a up to e, which are bytes k up to l of line y, lent and come back as the screen's
run-part : (st y k l a e : ℕ) (s p ys : List ℕ) → a ≡ st * y + k → e ≡ st * y + l → k ≤ l → l ≤ st → e ≤ length s → e ≤ length p
    → ys ≡ mid_of a (e - a) s → Bytes (put_mid a (e - a) p ys) → Run st y (8 * k) (8 * l) (taking st s y) p (put_mid a (e - a) p ys)
run-part st y k l a e s p ys ha he kl ls es ep hy hq =
    let ms : length ys ≡ e - a = ap length hy ∙ mid_len a e s es in
    run_bytes st y k l s p _ ls (same_len_mid a (e - a) p ys (ms ∙ sym (mid_len a e p ep))) hq
    (λ i u v. ap (λ (t : List ℕ). get_or (put_mid a (e - a) p t) i 0) hy ∙ put-part a e i p s es (omega arith) (omega arith) (omega arith))
    (λ i n. by_lt i a
    (λ u. put_before a (e - a) i p ys (omega arith) u)
    (λ u. put-after a e i p ys (omega arith) ep ms (by_lt i e (λ v. absurd (n (omega arith))) (λ v. v))))

-- ---- the line

-- its first byte and its last
abbrev first_byte : ℕ → Rect → ℕ
first_byte st r = st * r.top + r.left / 8

abbrev last_byte : ℕ → Rect → ℕ
last_byte st r = st * r.top + (r.right - 1) / 8

-- the panel p with the masked bits of byte i from the screen s
abbrev with_masked : ℕ → ℕ → List ℕ → List ℕ → List ℕ
with_masked i m s p = set p i (mixed m (get_or s i 0) (get_or p i 0))

module _ {st h : ℕ} {s p : List ℕ} {r : Rect} (l : LineOn st h s p r) (hs : FitBytes s) (hp : FitBytes p) where
  -- what a run from left to right leaves is the line copied by pixels
  is_line : (q : List ℕ) → Run st r.top r.left (r.right - 1 + 1) (taking st s r.top) p q → q ≡ copy_line st r s p
  unfolding copy_line
  is_line q f =
      run_equal st r.top r.left (r.right - 1 + 1) _ p q _ (omega arith) f
      (run-copy_run st r.top r.left (r.right - 1 + 1) (r.right - r.left) s p (omega arith) (omega arith) (omega (arith, row_in)) (are_bytes p hp))

  -- the line lies in one byte
  pub in_one_byte : {m n : ℕ} {q : List ℕ} → first_byte st r ≡ last_byte st r → m ≡ start_mask r.left → n ≡ end_mask (r.right - 1)
      → q ≡ with_masked (first_byte st r) (bit_and m n) s p → q ≡ copy_line st r s p
  in_one_byte {q = q} e f g i =
      is_line q
      (rw (i, f, g)
      (run-mixed st r.top (r.left / 8) r.left (r.right - 1 + 1) _ s p (both-masks r.left (r.right - 1) (omega arith)) (omega arith)
      (omega (arith, row_in)) (are_bytes s hs) (are_bytes p hp)))

  -- or in more: p₁ is left by the first, p₂ by the bytes between
  pub in_more_bytes : {m n : ℕ} {p₁ ys q : List ℕ} → (first_byte st r ≡ last_byte st r → ⊥) → m ≡ start_mask r.left → n ≡ end_mask (r.right - 1)
      → p₁ ≡ with_masked (first_byte st r) m s p → ys ≡ mid_of (first_byte st r + 1) (last_byte st r - (first_byte st r + 1)) s
      → FitBytes (put_mid (first_byte st r + 1) (last_byte st r - (first_byte st r + 1)) p₁ ys)
      → q ≡ with_masked (last_byte st r) n s (put_mid (first_byte st r + 1) (last_byte st r - (first_byte st r + 1)) p₁ ys) → q ≡ copy_line st r s p
  in_more_bytes {m} {n} {p₁} {ys} {q} d f g i j hk o =
      let k = r.left / 8 in
      let e = (r.right - 1) / 8 in
      let p₂ = put_mid (first_byte st r + 1) (last_byte st r - (first_byte st r + 1)) p₁ ys in
      let bs = are_bytes s hs in
      let f₁ : Run st r.top r.left (8 * (k + 1)) (taking st s r.top) p p₁ =
      rw (i, f) (run-mixed st r.top k r.left (8 * (k + 1)) _ s p (start-mask r.left) (omega arith) (omega (arith, row_in)) bs (are_bytes p hp)) in
      let f₂ : Run st r.top (8 * (k + 1)) (8 * e) (taking st s r.top) p₁ p₂ =
      run-part st r.top (k + 1) e (first_byte st r + 1) (last_byte st r) s p₁ ys (omega arith) refl (omega arith) (omega arith) (omega (arith, row_in)) (omega (arith, row_in))
      j (are_bytes p₂ hk) in
      let f₃ : Run st r.top (8 * e) (r.right - 1 + 1) (taking st s r.top) p₂ q =
      rw (o, g) (run-mixed st r.top e (8 * e) (r.right - 1 + 1) _ s p₂ (end-mask (r.right - 1)) (omega arith) (omega (arith, row_in)) bs (are_bytes p₂ hk)) in
      is_line q (run-line st r.top r.left (r.right - 1) _ p p₁ p₂ q (omega arith) (omega arith) f₁ f₂ f₃)

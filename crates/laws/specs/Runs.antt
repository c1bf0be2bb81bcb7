-- A run of a line drawn by bytes with masks is the run drawn pixel by pixel.
use Rattle.std.specs.Prelude.{◌≡◌, refl, Bool, true, false, cond, ◌&&◌, not, List, [], ◌∷◌, ◌++◌, ℕ, zero, suc, ◌+◌, ◌-◌, ◌*◌, ◌/◌, ◌≤◌, ◌<◌, length, get_or, set}
use Rattle.std.proofs.Common.{sym, inl, inr, add-zero, zero-add, suc-add, add-suc, arith, add-one}
use Rattle.std.specs.Bool.{beq}
use Rattle.std.proofs.Math.Bool.{xor}
use Rattle.std.specs.Int.Bits.{bit_and, and_lt, bit_xor}
use Rattle.std.proofs.lemmas.Nat.{xor_lt, and_le_l}
use Rattle.model.specs.Bits.{bit_at}
use Rattle.model.specs.Pixels.{write_pixel, draw, Screen, seen}
use Rattle.model.specs.Bytes.{Bytes}
use Rattle.model.specs.declared.DrawMode.{DrawMode}
use Rattle.model.specs.declared.DrawMode.TheVariants.{Clear, Or, Xor, Unknown}
use Rattle.model.specs.Points.{point_op, point_write}
use Rattle.model.specs.Lines.{is_unknown, run_op, pixel_run}
use Rattle.laws.specs.Tests.{clash, by_test}
use Rattle.laws.specs.Bits.{same_bool, every-at}
use Rattle.laws.specs.Bytes.{bit_at-and, Masked, bytes_set, bit_at-xor, bit_at-not}
use Rattle.laws.specs.Pixels.{row_below}
use Rattle.laws.specs.Writes.{draw-append, drawn-append, screen_draw}
use Rattle.laws.specs.Points.{mask_of, seen_one, seen_none}
use Rattle.laws.specs.Lines.{on_is, off_is}
use Rattle.laws.specs.Masks.{start_mask, end_mask, Mask, start-mask, end-mask, both-masks, point_mask, whole_mask, run_equal, run-masked, run-draw}

-- ---- a byte with the pixels of a mask drawn, without a branch

-- whether a mode clears the pixels first
abbrev pub clears : DrawMode → Bool
clears Clear = true
clears Or = true
clears Xor = false
clears Unknown = false

-- whether it then inverts them
abbrev pub flips : DrawMode → Bool
flips Clear = false
flips Or = true
flips Xor = true
flips Unknown = true

-- all pixels of a byte, or none
abbrev pub all_or_none : Bool → ℕ
all_or_none true = 255
all_or_none false = 0

unfoldable pub mask_byte : DrawMode → ℕ → ℕ → ℕ
mask_byte d b m = bit_xor (bit_and b (255 - bit_and m (all_or_none (clears d)))) (bit_and m (all_or_none (flips d)))

alike-bit : (t : Bool) (k : ℕ) → k < 8 → bit_at (all_or_none t) k ≡ t
unfolding bit_at
alike-bit true k h = every-at 8 (bit_at 255) refl k h
alike-bit false k h = same_bool _ _ (every-at 8 (λ k. beq (bit_at 0 k) false) refl k h)

-- one bit b under the mask's bit m
drawn-bit : (d : DrawMode) (b m : Bool) → xor (b && not (m && clears d)) (m && flips d) ≡ cond m (run_op d b) b
unfolding xor run_op
drawn-bit d b false = by_test b (λ e. rw e) (λ e. rw e)
drawn-bit Clear b true = by_test b (λ e. rw e) (λ e. rw e)
drawn-bit Or b true = by_test b (λ e. rw e) (λ e. rw e)
drawn-bit Xor b true = by_test b (λ e. rw e) (λ e. rw e)
drawn-bit Unknown b true = by_test b (λ e. rw e) (λ e. rw e)

masked_by : (d : DrawMode) (b m : ℕ) → b < 256 → m < 256 → Masked m (λ k v. run_op d v) b (mask_byte d b m)
unfolding mask_byte
masked_by d b m hb hm = record {
  small = xor_lt 8 _ _ (and_lt 8 b _ hb (omega arith)) (inked flips);
  bits = λ k h. cc (bit_at-xor _ _ k, bit_at-and b _ k, bit_at-not _ k (inked clears) h, part clears k h, part flips k h, drawn-bit d (bit_at b k) (bit_at m k));
}
  where
    inked : (f : DrawMode → Bool) → bit_and m (all_or_none (f d)) < 256
    inked f = omega (arith, and_le_l m (all_or_none (f d)))

    part : (f : DrawMode → Bool) (k : ℕ) → k < 8 → bit_at (bit_and m (all_or_none (f d))) k ≡ (bit_at m k && f d)
    part f k h = cc (bit_at-and m (all_or_none (f d)) k, alike-bit (f d) k h)

-- s with byte i so drawn
unfoldable pub masked : List ℕ → ℕ → ℕ → DrawMode → List ℕ
masked s i m d = set s i (mask_byte d (get_or s i 0) m)

-- a run of one pixel
run-point : (st x y : ℕ) (d : DrawMode) (s : List ℕ) → is_unknown d ≡ false → draw st (pixel_run x y 1 d) s ≡ write_pixel st s (point_write x y d)
unfolding pixel_run draw is_unknown run_op point_op
run-point st x y Clear s k = refl
run-point st x y Or s k = refl
run-point st x y Xor s k = refl
run-point st x y Unknown s k = absurd (clash true refl k)

pub line_in : (st h y : ℕ) {s : List ℕ} → Screen st h s → y < h → st * y + st ≤ length s
line_in st h y r hy = omega (arith, r.sized, row_below st h y hy)

-- n pixels within byte k of line y, by their mask
pub mask_run : (st h y k a b m n : ℕ) (d : DrawMode) (s : List ℕ) → Screen st h s → Bytes s → y < h → k < st → Mask k a b m → a + n ≡ b
    → masked s (st * y + k) m d ≡ draw st (pixel_run a y n d) s
unfolding masked Bytes
mask_run st h y k a b m n d s r hs hy hk hm e =
    let i = line_in st h y r hy in
    run_equal st y a b (λ x v. run_op d v) s _ _ r.wide
    (run-masked st y k a b m (λ j v. run_op d v) (λ x v. run_op d v) s _ hm hk (omega arith) hs (masked_by d _ m (hs (st * y + k)) hm.small) (λ x t q l u. refl))
    (run-draw st y a b n d s e (omega arith) i hs)

-- a point of a line of the screen, drawn so where it is not beside it
pub beside_drawn : (st h x y : ℕ) (d : DrawMode) (s e : List ℕ) {m : ℕ} → Screen st h s → Bytes s → x < 8 * st → y < h → is_unknown d ≡ false → m ≡ mask_of x
    → e ≡ masked s (st * y + x / 8) m d → e ≡ draw st (seen st h (point_write x y d ∷ [])) s
beside_drawn st h x y d s e r hs hx hy k p w =
    seen_one st h x y d s e (sym (on_is st h x y hx hy)) refl
    (cc (mask_run st h y (x / 8) x (x + 1) (mask_of x) 1 d s r hs hy (omega arith) (point_mask x) refl, run-point st x y d s k))

pub beside_none : (st h x y : ℕ) (d : DrawMode) (s : List ℕ) → 8 * st ≤ x → s ≡ draw st (seen st h (point_write x y d ∷ [])) s
beside_none st h x y d s o = seen_none st h x y d s (sym (off_is st h x y (inl o))) refl

-- two points of one line
pub pair_drawn : (st h x₁ x₂ y : ℕ) (d : DrawMode) (s s₁ e : List ℕ) → s₁ ≡ draw st (seen st h (point_write x₁ y d ∷ [])) s
    → e ≡ draw st (seen st h (point_write x₂ y d ∷ [])) s₁ → e ≡ draw st (seen st h (point_write x₁ y d ∷ point_write x₂ y d ∷ [])) s
pair_drawn st h x₁ x₂ y d s s₁ e k₁ k = cc (drawn-append st h (point_write x₁ y d ∷ []) (point_write x₂ y d ∷ []) s)

pub pair_below : (st h x₁ x₂ y : ℕ) (d : DrawMode) (s : List ℕ) → h ≤ y → s ≡ draw st (seen st h (point_write x₁ y d ∷ point_write x₂ y d ∷ [])) s
pair_below st h x₁ x₂ y d s o =
    pair_drawn st h x₁ x₂ y d s s s (seen_none st h x₁ y d s (sym (off_is st h x₁ y (inr o))) refl) (seen_none st h x₂ y d s (sym (off_is st h x₂ y (inr o))) refl)

-- two runs that meet are one
pub run-append : (x y n m : ℕ) (d : DrawMode) → pixel_run x y (n + m) d ≡ pixel_run x y n d ++ pixel_run (x + n) y m d
unfolding pixel_run
run-append x y zero m d = rw (zero-add m, add-zero x)
run-append x y (suc n) m d = cc (suc-add n m, add-suc x n, suc-add x n, run-append (suc x) y n m d)

pub draw-run-append : (st x y z n m : ℕ) (d : DrawMode) (s : List ℕ) → x + n ≡ z → draw st (pixel_run z y m d) (draw st (pixel_run x y n d) s) ≡ draw st (pixel_run x y (n + m) d) s
draw-run-append st x y z n m d s e = cc (run-append x y n m d, draw-append st (pixel_run x y n d) (pixel_run (x + n) y m d) s)

-- ---- whole bytes, one after another

-- n bytes from byte i on
unfoldable pub masked_bytes : List ℕ → ℕ → ℕ → DrawMode → List ℕ
masked_bytes s i zero d = s
masked_bytes s i (suc n) d = masked_bytes (masked s i 255 d) (suc i) n d

-- as a loop draws them: what is left, drawn on what stands, gives the whole
pub bytes_turn : (k to : ℕ) (d : DrawMode) (s e t : List ℕ) → k < to → e ≡ masked s k 255 d → masked_bytes s k (to - k) d ≡ t
    → masked_bytes e (k + 1) (to - (k + 1)) d ≡ t
unfolding masked_bytes
bytes_turn k to d s e t h w q = let l : to - k ≡ suc (to - (k + 1)) = omega arith in cc (add-one k)

pub bytes_end : (k to : ℕ) (d : DrawMode) (s t : List ℕ) → to ≤ k → masked_bytes s k (to - k) d ≡ t → s ≡ t
unfolding masked_bytes
bytes_end k to d s t h q = let l : to - k ≡ zero = omega arith in rw l at q

pub bytes_append : (i n m : ℕ) (d : DrawMode) (s : List ℕ) → masked_bytes s i (n + m) d ≡ masked_bytes (masked_bytes s i n d) (i + n) m d
unfolding masked_bytes
bytes_append i zero m d s = rw (zero-add m, add-zero i)
bytes_append i (suc n) m d s = cc (suc-add n m, add-suc i n, suc-add i n, bytes_append (suc i) n m d (masked s i 255 d))

bytes_masked : (s : List ℕ) (i m : ℕ) (d : DrawMode) → Bytes s → m < 256 → Bytes (masked s i m d)
unfolding masked Bytes
bytes_masked s i m d hs hm = bytes_set s i _ hs (masked_by d _ m (hs i) hm).small

-- they are the pixels that they hold: within a line
pub bytes_run : (st h y k n : ℕ) (d : DrawMode) (s : List ℕ) → Screen st h s → Bytes s → y < h → k + n ≤ st
    → masked_bytes s (st * y + k) n d ≡ draw st (pixel_run (8 * k) y (8 * n) d) s
unfolding masked_bytes draw pixel_run
bytes_run st h y k zero d s r hs hy hk = refl
bytes_run st h y k (suc n) d s r hs hy hk =
    let e : masked s (st * y + k) 255 d ≡ draw st (pixel_run (8 * k) y 8 d) s = mask_run st h y k (8 * k) (8 * (k + 1)) 255 8 d s r hs hy (omega arith) (whole_mask k) (omega arith) in
    let i : suc (st * y + k) ≡ st * y + suc k = omega arith in
    let l : 8 + 8 * n ≡ 8 * suc n = omega arith in
    let rest = bytes_run st h y (suc k) n d (masked s (st * y + k) 255 d) (screen_draw st h (pixel_run (8 * k) y 8 d) r e) (bytes_masked s (st * y + k) 255 d hs (omega arith)) hy (omega arith) in
    cc (draw-run-append st (8 * k) y (8 * suc k) 8 (8 * n) d s (omega arith))

pub bytes_kept : (i n : ℕ) (d : DrawMode) (s : List ℕ) → Bytes s → Bytes (masked_bytes s i n d)
unfolding masked_bytes
bytes_kept i zero d s hs = hs
bytes_kept i (suc n) d s hs = bytes_kept (suc i) n d (masked s i 255 d) (bytes_masked s i 255 d hs (omega arith))

-- ---- a whole run: within one byte, or from one byte to another

pub one_byte : (st h left right y : ℕ) (d : DrawMode) (s e : List ℕ) {a b : ℕ} → Screen st h s → Bytes s → (left ≤ right) × (right < 8 * st) × (y < h)
    → a ≡ start_mask left → b ≡ end_mask right → left / 8 ≡ right / 8 → e ≡ masked s (st * y + left / 8) (bit_and a b) d
    → e ≡ draw st (pixel_run left y (suc (right - left)) d) s
one_byte st h left right y d s e r hs o p q k w =
    cc (mask_run st h y (left / 8) left (right + 1) _ (suc (right - left)) d s r hs o.2 (omega arith) (both-masks left right k) (omega arith))

pub many_bytes : (st h left right y : ℕ) (d : DrawMode) (s s₁ s₂ e : List ℕ) {a b : ℕ} → Screen st h s → Bytes s
    → (left ≤ right) × (right < 8 * st) × (y < h) → a ≡ start_mask left → b ≡ end_mask right → (left / 8 ≡ right / 8 → ⊥)
    → s₁ ≡ masked s (st * y + left / 8) a d
    → s₂ ≡ masked_bytes s₁ (st * y + left / 8 + 1) (st * y + right / 8 - (st * y + left / 8 + 1)) d
    → e ≡ masked s₂ (st * y + right / 8) b d
    → e ≡ draw st (pixel_run left y (suc (right - left)) d) s
many_bytes st h left right y d s s₁ s₂ e {a} {b} r hs o p q k w₁ w₂ w₃ =
    let n = 8 * (left / 8) + 8 - left in
    let m = right / 8 - (left / 8 + 1) in
    let v = suc (right - 8 * (right / 8)) in
    let g₁ : s₁ ≡ draw st (pixel_run left y n d) s =
    cc (mask_run st h y (left / 8) left (8 * (left / 8 + 1)) _ n d s r hs o.2 (omega arith) (start-mask left) (omega arith)) in
    let hs₁ : Bytes s₁ = rw (w₁, p) (bytes_masked s (st * y + left / 8) (start_mask left) d hs (start-mask left).small) in
    let i : st * y + left / 8 + 1 ≡ st * y + (left / 8 + 1) = omega arith in
    let j : st * y + right / 8 - (st * y + left / 8 + 1) ≡ m = omega arith in
    let g₂ : s₂ ≡ draw st (pixel_run left y (n + 8 * m) d) s =
    cc (bytes_run st h y (left / 8 + 1) m d s₁ (screen_draw st h (pixel_run left y n d) r g₁) hs₁ o.2 (omega arith), draw-run-append st left y (8 * (left / 8 + 1)) n (8 * m) d s (omega arith)) in
    let hs₂ : Bytes s₂ = rw w₂ (bytes_kept _ _ d s₁ hs₁) in
    let t : (n + 8 * m) + v ≡ suc (right - left) = omega arith in
    let last = mask_run st h y (right / 8) (8 * (right / 8)) (right + 1) _ v d s₂ (screen_draw st h (pixel_run left y (n + 8 * m) d) r g₂) hs₂ o.2 (omega arith) (end-mask right) (omega arith) in
    cc (draw-run-append st left y (8 * (right / 8)) (n + 8 * m) v d s (omega arith))

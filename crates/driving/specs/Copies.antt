-- The copy of a line changes the bytes that hold its pixels and no others, so these bytes, put into the old panel, make the new one.
use Rattle.std.specs.Prelude.{◌≡◌, refl, List, ◌++◌, ℕ, zero, suc, ◌+◌, ◌-◌, ◌*◌, ◌/◌, ◌≤◌, ◌<◌, max}
use Rattle.std.proofs.Math.Path.{sym}
use Rattle.std.proofs.Common.{◌∙◌, arith, drop-set-lt}
use Rattle.std.proofs.Math.ListN.{length, take, drop}
use Rattle.std.proofs.lemmas.List.{take-set-le}
use Rattle.model.specs.Pixels.{place, bit, put, copy_run}
use Rattle.model.specs.Memory.{window, with_window}
use Rattle.model.specs.Driver.{first_byte, byte_count}
use Rattle.laws.specs.Memory.{length-window, window_back}
use Rattle.laws.specs.Pixels.{length-copy_run}

-- ---- bytes before and behind a run of pixels

before_run : (st : ℕ) (s : List ℕ) (y x n a : ℕ) (p : List ℕ) → a ≤ place st x y → take a (copy_run st s y x n p) ≡ take a p
unfolding copy_run put
before_run st s y x zero a p h = refl
before_run st s y x (suc n) a p h = before_run st s y (suc x) n a (put st p x y (bit st s x y)) (omega arith) ∙ take-set-le a p (place st x y) _ h

behind_run : (st : ℕ) (s : List ℕ) (y x n e : ℕ) (p : List ℕ) → st * y + (x + n - 1) / 8 < e → drop e (copy_run st s y x n p) ≡ drop e p
unfolding copy_run put
behind_run st s y x zero e p h = refl
behind_run st s y x (suc n) e p h =
    let k : suc x + n ≡ x + suc n = omega arith in
    behind_run st s y (suc x) n e (put st p x y (bit st s x y)) (rw k h) ∙ drop-set-lt e p (place st x y) _ (omega arith)

-- ---- the bytes that hold the pixels from left to right of line y: byte a and those after it, n in all

abbrev pub line_at : ℕ → ℕ → ℕ → ℕ
line_at st y left = st * y + first_byte left

-- the first of these pixels in byte i
abbrev pub pixel_of : ℕ → ℕ → ℕ → ℕ → ℕ
pixel_of st y left i = max left (8 * (i - st * y))

module _ (st y left right : ℕ) (wide : left < right) where
  abbrev a : ℕ
  a = line_at st y left

  abbrev n : ℕ
  n = byte_count left right

  -- each of the pixels is in one of them ..
  pub pixel_in : (x : ℕ) → left ≤ x → x < right → (a ≤ place st x y) × (place st x y < a + n)
  pixel_in x l u = (omega arith, omega arith)

  -- .. and each of them has one of the pixels
  pub pixel-of : (i : ℕ) → a ≤ i → i < a + n → (left ≤ pixel_of st y left i) × (pixel_of st y left i < right) × (place st (pixel_of st y left i) y ≡ i)
  pixel-of i l u = (omega arith, omega arith, omega arith)

  -- the copied panel is the old one with these bytes of it
  pub copied_bytes : (s p : List ℕ) → a + n ≤ length p
      → let q = copy_run st s y left (right - left) p in with_window a (window a (n) q) p ≡ q
  unfolding with_window
  copied_bytes s p h =
      let q = copy_run st s y left (right - left) p in
      let long = length-copy_run st s y left (right - left) p in
      let w = window a n q in
      let size : length w ≡ n = length-window a n q (rw long h) in
      let first : take a q ≡ take a p = before_run st s y left (right - left) a p (omega arith) in
      let last : drop (a + length w) q ≡ drop (a + length w) p = behind_run st s y left (right - left) (a + length w) p (rw size (omega arith)) in
      (λ i. sym first i ++ (w ++ sym last i)) ∙ window_back a n q (rw long h)

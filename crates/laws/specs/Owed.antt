-- The owed rectangles on the bytes: one joined with a mark's part; band after band, the first taken from them, and the test of them. In these two loops what is left, done to what
-- stands, gives the whole.
use Rattle.std.specs.Prelude.{◌≡◌, Bool, true, false, cond, not, ◌&&◌, List, [], ◌∷◌, ◌++◌, ℕ, zero, suc, ◌+◌, ◌-◌, ◌*◌, ◌<◌, ◌≤◌, min, max, eqb, length, get_or, drop}
use Rattle.std.proofs.Math.Path.{refl}
use Rattle.std.proofs.Common.{sym, ap, ◌∙◌, append_assoc, take-append-drop, length-append, ne_eqb}
use native.Mathlib.Omega.{arith}
use Rattle.std.proofs.lemmas.Bool.{not-true, not-false}
use Rattle.model.specs.declared.Rect.{Rect}
use Rattle.model.specs.Memory.{with_window}
use Rattle.model.specs.Rects.{none, every, is_empty, fits, join}
use Rattle.model.specs.Bytes.{two_bytes, rect_at, rects_at, rect_bytes, rects_bytes, Bytes}
use Rattle.model.specs.Record.{bands_fit}
use Rattle.model.specs.Sends.{first_owed, rest_owed}
use Rattle.laws.specs.Rects.{is_join_right, is_join}
use Rattle.laws.specs.Memory.{window_extend}
use Rattle.laws.specs.Layout.{rects_again, length_read}

-- the band that comes ends within the lines of the bands that are left
pub band_in : (lo band left h : ℕ) → 0 < left → lo + left * band ≤ h → lo + band ≤ h
band_in lo band zero h p l = absurd (omega arith)
band_in lo band (suc n) h p l = omega arith

window-nothing : (a : ℕ) (r : List ℕ) → with_window a [] r ≡ r
unfolding with_window
window-nothing a r = let e : a + 0 ≡ a = omega arith in cc (take-append-drop a r)

-- rectangles that stand there, stored again
pub owed_again : (n a : ℕ) (r : List ℕ) → Bytes r → a + 8 * n ≤ length r → with_window a (rects_bytes (rects_at n r a)) r ≡ r
unfolding with_window
owed_again n a r b h = cc (length_read n r a, rects_again n r a b h, take-append-drop a r)

-- a window whose last bytes stand there
pub window_tail : (a n k : ℕ) (s t r : List ℕ) → length s ≡ n → length t ≡ k → t ++ drop (a + n + k) r ≡ drop (a + n) r → with_window a (s ++ t) r ≡ with_window a s r
unfolding with_window
window_tail a n k s t r e f h =
    let l : a + length (s ++ t) ≡ a + n + k = omega (arith, length-append s t) in
    cc (append_assoc s t (drop (a + n + k) r))

-- ---- four zeros, tested by bytes

both_zero : (a b : ℕ) → eqb (a + 256 * b) 0 ≡ (eqb a 0 && eqb b 0)
both_zero zero zero = refl
both_zero zero (suc b) = cc (ne_eqb (0 + 256 * suc b) 0 (λ e. omega arith), ne_eqb (suc b) 0 (λ e. omega arith))
both_zero (suc a) b = cc (ne_eqb (suc a + 256 * b) 0 (λ e. omega arith), ne_eqb (suc a) 0 (λ e. omega arith))

and_group : (s t u : Bool) → (s && (t && u)) ≡ (s && t && u)
and_group true t u = refl
and_group false t u = refl

-- byte i is zero
abbrev clear_at : List ℕ → ℕ → Bool
clear_at r i = eqb (get_or r i 0) 0

pub is_clear : (r : List ℕ) (a : ℕ)
    → every (clear_at r a ∷ clear_at r (a + 1) ∷ clear_at r (a + 2) ∷ clear_at r (a + 3) ∷ clear_at r (a + 4) ∷ clear_at r (a + 5) ∷ clear_at r (a + 6) ∷ clear_at r (a + 7) ∷ []) ≡ is_empty (rect_at r a)
unfolding is_empty
is_clear r a =
    let c : a + 2 + 1 ≡ a + 3 = omega arith in
    let d : a + 4 + 1 ≡ a + 5 = omega arith in
    let e : a + 6 + 1 ≡ a + 7 = omega arith in
    let left = clear_at r a && clear_at r (a + 1) in
    let top = left && clear_at r (a + 2) && clear_at r (a + 3) in
    let right = top && clear_at r (a + 4) && clear_at r (a + 5) in
    cc (
      both_zero (get_or r a 0) (get_or r (a + 1) 0),
      both_zero (get_or r (a + 2) 0) (get_or r (a + 2 + 1) 0),
      both_zero (get_or r (a + 4) 0) (get_or r (a + 4 + 1) 0),
      both_zero (get_or r (a + 6) 0) (get_or r (a + 6 + 1) 0),
      and_group left (clear_at r (a + 2)) (clear_at r (a + 3)),
      and_group top (clear_at r (a + 4)) (clear_at r (a + 5)),
      and_group right (clear_at r (a + 6)) (clear_at r (a + 7)),
    )

-- ---- a rectangle joined to one that stands there

unfoldable pub joined_at : ℕ → Rect → List ℕ → List ℕ
joined_at a q r = with_window a (rect_bytes (join (rect_at r a) q)) r

-- or stored over it, where it is a whole band
unfoldable pub owed_at : Bool → ℕ → Rect → List ℕ → List ℕ
owed_at whole a q r = cond whole (with_window a (rect_bytes q) r) (joined_at a q r)

pub owes-whole : (a : ℕ) (q : Rect) (r : List ℕ) {t : Bool} {r' : List ℕ} → t ≡ true → r' ≡ with_window a (rect_bytes q) r → r' ≡ owed_at t a q r
unfolding owed_at
owes-whole a q r e f = rw e f

pub owes-part : (a : ℕ) (q : Rect) (r : List ℕ) {t : Bool} {r' : List ℕ} → t ≡ false → r' ≡ joined_at a q r → r' ≡ owed_at t a q r
unfolding owed_at
owes-part a q r e f = rw e f

-- where nothing stands a join stores it
pub joins_clear : (a : ℕ) (q : Rect) (r : List ℕ) {t : Bool} {r' : List ℕ} → t ≡ is_empty (rect_at r a) → t ≡ true → r' ≡ with_window a (rect_bytes q) r → r' ≡ joined_at a q r
unfolding joined_at
joins_clear a q r e f g = cc (is_join_right (rect_at r a) q e f)

-- and else side by side
pub joins_sides : (a : ℕ) (q : Rect) (r : List ℕ) {t : Bool} {s : Rect} {left top right bottom : ℕ} {r1 r2 r3 r4 : List ℕ} → a + 8 ≤ length r → is_empty q ≡ false → t ≡ is_empty (rect_at r a) → t ≡ false
    → s ≡ rect_at r a → left ≡ min s.left q.left → top ≡ min s.top q.top → right ≡ max s.right q.right → bottom ≡ max s.bottom q.bottom
    → r1 ≡ with_window a (two_bytes left) r → r2 ≡ with_window (a + 2) (two_bytes top) r1 → r3 ≡ with_window (a + 4) (two_bytes right) r2 → r4 ≡ with_window (a + 6) (two_bytes bottom) r3
    → r4 ≡ joined_at a q r
unfolding joined_at
joins_sides a q r {t} {s} {left} {top} {right} {bottom} h n e f g c1 c2 c3 c4 d1 d2 d3 d4 =
    let j : Rect = record { left = left; top = top; right = right; bottom = bottom } in
    let some : t ≡ is_empty s = e ∙ ap is_empty (sym g) in
    let joined : j ≡ join s q = is_join s q some f refl n c1 c2 c3 c4 in
    let two = window_extend a 2 (two_bytes left) (two_bytes top) r refl (omega arith) in
    let three = window_extend a 4 (two_bytes left ++ two_bytes top) (two_bytes right) r refl (omega arith) in
    let four = window_extend a 6 (two_bytes left ++ two_bytes top ++ two_bytes right) (two_bytes bottom) r refl (omega arith) in
    cc

-- ---- the first taken

-- the bytes r without the first band that owes anything
unfoldable pub rested : ℕ → ℕ → List ℕ → List ℕ
rested left a r = with_window a (rects_bytes (rest_owed (rects_at left r a))) r

-- what is taken and what is left
pub record Took (left a : ℕ) (r : List ℕ) (q : Rect) (r' : List ℕ) : Type 0 where
  pub first : q ≡ first_owed (rects_at left r a)
  pub rest : r' ≡ rested left a r

-- where the loop stands: the bands before i owe nothing
pub record Taking (bands at : ℕ) (r₀ r : List ℕ) (i : ℕ) : Type 0 where
  pub kept : r ≡ r₀
  pub sized : length r ≡ length r₀
  pub room : at + 8 * bands ≤ length r₀
  pub some : i ≤ bands
  pub first : first_owed (rects_at (bands - i) r (at + 8 * i)) ≡ first_owed (rects_at bands r₀ at)
  pub rest : rested (bands - i) (at + 8 * i) r ≡ rested bands at r₀

pub take_starts : (bands at : ℕ) (r : List ℕ) → at + 8 * bands ≤ length r → Taking bands at r r 0
take_starts bands at r h =
    let e : at + 8 * 0 ≡ at = omega arith in
    let f : bands - 0 ≡ bands = omega arith in
    record { kept = refl; sized = refl; room = h; some = omega arith; first = rw (e, f) refl; rest = rw (e, f) refl }

-- the next band lies in the bytes
pub take_room : (bands at : ℕ) (r₀ r : List ℕ) (i : ℕ) → Taking bands at r₀ r i → i < bands → at + 8 * i + 8 ≤ length r
take_room bands at r₀ r i k h = omega arith

module _ {bands at : ℕ} {r₀ r : List ℕ} {i a : ℕ} {t : Bool} (k : Taking bands at r₀ r i) (h : i < bands) (b : (j : ℕ) → get_or r₀ j 0 < 256)
    (p : a ≡ at + 8 * i) (f : t ≡ is_empty (rect_at r a)) where
  left : bands - i ≡ suc (bands - (i + 1))
  left = omega arith

  -- a band that owes nothing is passed
  pub take_goes : t ≡ true → Taking bands at r₀ r (i + 1)
  unfolding rested rest_owed first_owed Bytes
  take_goes g =
      let n = bands - (i + 1) in
      let c : at + 8 * (i + 1) ≡ at + 8 * i + 8 = omega arith in
      let l = left in
      let again = owed_again 1 a r (rw k.kept b) (omega arith) in
      let w = window_extend a 8 (rect_bytes (rect_at r a)) (rects_bytes (rest_owed (rects_at n r (a + 8)))) r refl (omega arith) in
      record { kept = k.kept; sized = k.sized; room = k.room; some = omega arith; first = cc k.first; rest = cc k.rest }

  -- the first that owes anything
  pub take_finds : {q z : Rect} {r' : List ℕ} → t ≡ false → q ≡ rect_at r a → z ≡ none → r' ≡ with_window a (rect_bytes z) r → Took bands at r₀ q r'
  unfolding rested rest_owed first_owed Bytes
  take_finds g e o w =
      let n = bands - (i + 1) in
      let l = left in
      let v = window_tail a 8 (8 * n) (rect_bytes none) (rects_bytes (rects_at n r (a + 8))) r refl (length_read n r (a + 8)) (rects_again n r (a + 8) (rw k.kept b) (omega arith)) in
      record { first = cc k.first; rest = cc k.rest }

pub take_ends : (bands at : ℕ) (r₀ r : List ℕ) (i : ℕ) {z : Rect} → Taking bands at r₀ r i → bands ≤ i → z ≡ none → Took bands at r₀ z r
unfolding rested rest_owed first_owed
take_ends bands at r₀ r i k n e = let z : bands - i ≡ 0 = omega arith in record { first = cc k.first; rest = cc (k.rest, window-nothing (at + 8 * i) r) }

-- ---- STATE's test

-- where the loop stands: `left` bands are to come, the first from byte a and line lo; those before have passed
pub record Testing (w band bands at : ℕ) (r : List ℕ) (a lo left : ℕ) : Type 0 where
  pub room : a + 8 * left ≤ length r
  pub lines : lo + left * band ≤ 65535
  pub same : bands_fit w band lo (rects_at left r a) ≡ bands_fit w band 0 (rects_at bands r at)

pub test_starts : (w band bands at : ℕ) (r : List ℕ) → at + 8 * bands ≤ length r → bands * band ≤ 65535 → Testing w band bands at r at 0 bands
test_starts w band bands at r h l = record { room = h; lines = omega arith; same = refl }

pub test_goes : {w band bands at : ℕ} {r : List ℕ} {a lo left : ℕ} {t : Bool} → Testing w band bands at r a lo left → 0 < left
    → t ≡ fits w lo (lo + band) (rect_at r a) → not t ≡ false → Testing w band bands at r (a + 8) (lo + band) (left - 1)
unfolding bands_fit
test_goes {left = zero} k p f y = absurd (omega arith)
test_goes {left = suc n} {t = t} k p f y =
    let z : suc n - 1 ≡ n = omega arith in
    let passed = not-false t y in
    record { room = omega arith; lines = rw z (omega arith); same = cc k.same }

pub test_fails : {w band bands at : ℕ} {r : List ℕ} {a lo left : ℕ} {t : Bool} → Testing w band bands at r a lo left → 0 < left
    → t ≡ fits w lo (lo + band) (rect_at r a) → not t ≡ true → false ≡ bands_fit w band 0 (rects_at bands r at)
unfolding bands_fit
test_fails {left = zero} k p f y = absurd (omega arith)
test_fails {left = suc n} {t = t} k p f y = let failed = not-true t y in cc k.same

pub test_ends : (w band bands at : ℕ) (r : List ℕ) (a lo left : ℕ) → Testing w band bands at r a lo left → left ≤ 0
    → true ≡ bands_fit w band 0 (rects_at bands r at)
unfolding bands_fit
test_ends w band bands at r a lo left k z = let e : left ≡ 0 = omega arith in cc

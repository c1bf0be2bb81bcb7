-- The page of text: how it scrolls, that it stays a page whatever is printed, and what the loops of printing do.
use Rattle.std.specs.Prelude.{◌≡◌, Bool, ◌&&◌, true, not, ◌⊎◌, get_or, set, take, drop, replicate, leb, ltb}
use Rattle.std.proofs.Math.Path.{refl, ap}
use Rattle.std.proofs.Common.{sym, ◌∙◌, inl, inr, zero-mul, zero-add, length-append, length-drop, drop_of_length-le, get_or-append-add, get_or-drop, length-take-le, take_all, ext_get_or}
use mathlib.Core.List.{List, ◌++◌, append-nil, [], ◌∷◌}
use Rattle.std.proofs.Math.Bool.{false}
use Prim.Native.Nat.{ℕ, zero, suc, ◌+◌, ◌-◌, ◌*◌, ◌<◌, ◌≤◌, min}
use Rattle.std.proofs.Math.Nat.{mul-le-mul_right}
use native.Mathlib.Omega.{arith}
use Rattle.std.proofs.Math.Numerals.{add-one}
use Rattle.std.proofs.Math.ListN.{length, length-set, get_or-eq_default}
use Rattle.std.proofs.lemmas.List.{length-replicate}
use Rattle.std.proofs.Math.Seq.{drop-cons}
use Rattle.std.proofs.Math.Arith.{digits_lt}
use Rattle.std.proofs.Math.Dec.{eqb}
use borrow.Author.Tests.{eqb-false, leb-true, le-leb, ltb-true, not-true, not-false}
use Rattle.model.specs.Memory.{with_window, zeros}
use Rattle.model.specs.Print.{scrolled, scrolled_times, Page, scroll_page, next_row, newline_on, cell_of, write_cell, space, wrap, end_row, print_byte, print_pair, print_bytes, clear_until, clear_from, clear_after, print_on}
use Rattle.laws.specs.Memory.{append-window}
use Rattle.laws.specs.Tests.{by_lt, if_cases, and-true, and-false, tests, either}
use Rattle.laws.specs.Loops.{copy_turn, length-zeros}

-- Scrolling: the loop that moves bytes up, several scrolls at once, and flags.

-- ---- the loop

-- the first i of the bytes after n are moved up
abbrev pub scrolling : ℕ → ℕ → List ℕ → List ℕ
scrolling n i d = take i (drop n d) ++ drop i d

pub scroll_turn : (n i : ℕ) (d l : List ℕ) → i + n < length d → l ≡ scrolling n i d → set l i (get_or l (i + n) 0) ≡ scrolling n (i + 1) d
scroll_turn n i d l h e =
    let s = drop n d in
    let k : i < length s = simp length-drop (omega arith) in
    let m : length (take i s) ≡ i = length-take-le i s (omega arith) in
    let c : n + i ≡ i + n = omega arith in
    let v : get_or l (i + n) 0 ≡ get_or s i 0 = cc (get_or-append-add (take i s) (drop i d) n 0, get_or-drop i d n 0, get_or-drop n d i 0) in
    cc (copy_turn s d i k (omega arith))

-- all are moved, and zeros are put over the last n
pub scroll_end : (n i : ℕ) (d l : List ℕ) → n ≤ length d → i ≡ length d - n → l ≡ scrolling n i d → with_window i (zeros n) l ≡ scrolled n 0 d
unfolding scrolled zeros
scroll_end n i d l h k e =
    let s = drop n d in
    let m : length s ≡ i = simp length-drop (omega arith) in
    let gone = drop_of_length-le (drop i d) {i = length (zeros n)} (rw (length-zeros n) (simp length-drop (omega arith))) in
    cc (take_all i s (omega arith), append-window s (zeros n) (drop i d) i m, append-nil (zeros n))

pub length-scrolled : {A : Type 0} (n : ℕ) (a : A) (l : List A) → n ≤ length l → length (scrolled n a l) ≡ length l
unfolding scrolled
length-scrolled n a l h = simp (length-append, length-drop, length-replicate) (omega arith)

-- ---- several at once

pub length_times : (n k : ℕ) (s : List ℕ) → k ≤ length s → length (scrolled_times n k s) ≡ length s
unfolding scrolled_times
length_times zero k s h = refl
length_times (suc n) k s h = length_times n k (scrolled k 0 s) (rw (length-scrolled k 0 s h) h) ∙ length-scrolled k 0 s h

-- past the end of a list every element reads as 0, so zeros after it change nothing that is read
zeros-after : (l : List ℕ) (k i : ℕ) → get_or (l ++ replicate k 0) i 0 ≡ get_or l i 0
zeros-after [] zero i = refl
zeros-after [] (suc k) zero = refl
zeros-after [] (suc k) (suc i) = zeros-after [] k i
zeros-after (x ∷ l) k zero = refl
zeros-after (x ∷ l) k (suc i) = zeros-after l k i

scrolled-at : (k : ℕ) (s : List ℕ) (i : ℕ) → get_or (scrolled k 0 s) i 0 ≡ get_or s (k + i) 0
unfolding scrolled
scrolled-at k s i = zeros-after (drop k s) k i ∙ get_or-drop k s i 0

times_at : (n k : ℕ) (s : List ℕ) (i : ℕ) → get_or (scrolled_times n k s) i 0 ≡ get_or s (n * k + i) 0
unfolding scrolled_times
times_at zero k s i = rw (zero-mul, zero-add)
times_at (suc n) k s i = let e : k + (n * k + i) ≡ suc n * k + i = omega arith in cc (times_at n k (scrolled k 0 s) i, scrolled-at k s (n * k + i))

-- on a screen of m text rows: after m scrolls nothing changes
pub times_most : (n m k : ℕ) (s : List ℕ) → length s ≡ m * k → 0 < m → scrolled_times n k s ≡ scrolled (min n m * k) 0 s
times_most n m k s h p =
    let some = mul-le-mul_right {m = 1} {n = m} k p in
    let fits = mul-le-mul_right {m = min n m} {n = m} k (omega arith) in
    ext_get_or 0 _ _ (length_times n k s (omega arith) ∙ sym (length-scrolled (min n m * k) 0 s (omega arith)))
    (λ i l. by_lt n m
    (λ o. let e : n ≡ min n m = omega arith in cc (times_at n k s i, scrolled-at (min n m * k) s i))
    (λ o. let e : m ≡ min n m = omega arith in
    cc (times_at n k s i, scrolled-at (min n m * k) s i, get_or-eq_default s 0 {n = n * k + i} (omega (arith, mul-le-mul_right k o)), get_or-eq_default s 0 {n = m * k + i} (omega arith))))

-- Pages: whatever is printed, a page keeps its size, its next cell lies on it, and each step scrolls at most once.

-- a page of rows of at least two columns, with room for n more cells in its row
pub record Sheet (rows columns n : ℕ) (p : Page) : Type 0 where
  pub wide : 2 ≤ columns
  pub text : length p.text ≡ rows * columns
  pub flags : length p.flags ≡ rows * columns
  pub row : p.row < rows
  pub room : p.column + n ≤ columns

length_until : (n i : ℕ) (t : List ℕ) → length (clear_until n i t) ≡ length t
unfolding clear_until
length_until zero i t = refl
length_until (suc n) i t =
    if_cases (λ (l : List ℕ). length l ≡ length t) (eqb (get_or t i 0) 0) (λ e. refl) (λ e. length_until n (suc i) (set t i 0) ∙ length-set t i 0)

pub length-clear : (i : ℕ) (t : List ℕ) → length (clear_from i t) ≡ length t
unfolding clear_from
length-clear i t = length_until (length t - suc i) (suc i) (set t i 0) ∙ length-set t i 0

module _ (rows columns : ℕ) where
  -- the next cell lies on the page
  pub cell_in : (n : ℕ) (p : Page) → Sheet rows columns (suc n) p → cell_of columns p < rows * columns
  cell_in n p s = digits_lt {r = p.column} {c = columns} s.row (omega (arith, s.room))

  -- ---- newline

  pub newline_sheet : (m n : ℕ) (p : Page) → n ≤ columns → Sheet rows columns m p → Sheet rows columns n (newline_on rows columns p)
  unfolding newline_on scroll_page next_row
  newline_sheet m n p h s =
      let one-row = mul-le-mul_right {m = 1} {n = rows} columns (omega arith) in
      if_cases (Sheet rows columns n) (eqb p.column 0) (λ e. omega (arith, tests))
      (λ e. if_cases (Sheet rows columns n) (eqb (p.row + 1) rows)
      (λ f. omega (arith, length-scrolled columns 0 p.text (omega arith), length-scrolled columns false p.flags (omega arith)))
      (λ f. omega (arith, tests)))

  pub end_sheet : (p : Page) → Sheet rows columns 0 p → Sheet rows columns 1 (end_row rows columns p)
  unfolding end_row
  end_sheet p s =
      if_cases (Sheet rows columns 1) (eqb p.column columns) (λ e. newline_sheet 0 1 p (omega arith) s) (λ e. omega (arith, tests))

  -- ---- print

  module _ (v : Bool) where
    pub write_sheet : (n b : ℕ) (p : Page) → Sheet rows columns (suc n) p → Sheet rows columns n (write_cell columns v b p)
    unfolding write_cell
    write_sheet n b p s = omega (arith, length-set p.text (cell_of columns p) b, length-set p.flags (cell_of columns p) v)

    pub wrap_sheet : (b : ℕ) (p : Page) → Sheet rows columns 1 p → Sheet rows columns 1 (wrap rows columns v b p)
    unfolding wrap
    wrap_sheet b p s =
        if_cases (Sheet rows columns 1) (leb 128 b && eqb (p.column + 1) columns)
        (λ e. newline_sheet 0 1 (write_cell columns v space p) (omega (arith, s.wide)) (write_sheet 0 space p s)) (λ e. s)

    -- a byte >= 128 has room for another
    pub wrap_pair : (b : ℕ) (p : Page) → 128 ≤ b → Sheet rows columns 1 p → Sheet rows columns 2 (wrap rows columns v b p)
    unfolding wrap
    wrap_pair b p h s =
        rw (le-leb 128 b h)
        (if_cases (Sheet rows columns 2) (eqb (p.column + 1) columns)
        (λ e. newline_sheet 0 2 (write_cell columns v space p) s.wide (write_sheet 0 space p s)) (λ e. omega (arith, tests)))

    pub byte_sheet : (b : ℕ) (p : Page) → Sheet rows columns 1 p → Sheet rows columns 1 (print_byte rows columns v b p)
    unfolding print_byte
    byte_sheet b p s = end_sheet (write_cell columns v b (wrap rows columns v b p)) (write_sheet 0 b (wrap rows columns v b p) (wrap_sheet b p s))

    pub pair_sheet : (b c : ℕ) (p : Page) → 128 ≤ b → Sheet rows columns 1 p → Sheet rows columns 1 (print_pair rows columns v b c p)
    unfolding print_pair
    pair_sheet b c p h s =
        let q = wrap rows columns v b p in
        end_sheet (write_cell columns v c (write_cell columns v b q)) (write_sheet 0 c (write_cell columns v b q) (write_sheet 1 b q (wrap_pair b p h s)))

    pub bytes_sheet : (bs : List ℕ) (p : Page) → Sheet rows columns 1 p → Sheet rows columns 1 (print_bytes rows columns v bs p)
    unfolding print_bytes
    bytes_sheet [] p s = s
    bytes_sheet (b ∷ []) p s = byte_sheet b p s
    bytes_sheet (b ∷ c ∷ bs) p s =
        if_cases (Sheet rows columns 1) (leb 128 b)
        (λ e. bytes_sheet bs (print_pair rows columns v b c p) (pair_sheet b c p (leb-true 128 b e) s))
        (λ e. bytes_sheet (c ∷ bs) (print_byte rows columns v b p) (byte_sheet b p s))

    pub print_sheet : (bs : List ℕ) (p : Page) → Sheet rows columns 1 p → Sheet rows columns 1 (print_on rows columns v bs p)
    unfolding print_on clear_after
    print_sheet bs p s =
        let q = print_bytes rows columns v bs p in
        let k = bytes_sheet bs p s in
        omega (arith, length-clear (cell_of columns q) q.text)

-- What the loops of printing do, turn by turn: the bytes of a text, and the clearing after them.

-- ---- the bytes of a text

module _ (rows columns : ℕ) (v : Bool) where
  -- a byte that takes none with it
  alone : (b : ℕ) (l : List ℕ) (p : Page) → (leb 128 b ≡ false) ⊎ (l ≡ []) → print_bytes rows columns v (b ∷ l) p ≡ print_bytes rows columns v l (print_byte rows columns v b p)
  unfolding print_bytes
  alone b [] p o = refl
  alone b (c ∷ l) p (inl e) = rw e
  alone b (c ∷ l) p (inr e) = absurd (let z = ap length e in omega arith)

  pub byte_turn : (bs : List ℕ) (i : ℕ) (p : Page) → i < length bs → (leb 128 (get_or bs i 0) && ltb (i + 1) (length bs)) ≡ false
      → print_bytes rows columns v (drop i bs) p ≡ print_bytes rows columns v (drop (i + 1) bs) (print_byte rows columns v (get_or bs i 0) p)
  byte_turn bs i p h e =
      let b = get_or bs i 0 in
      let last = either (and-false (leb 128 b) (ltb (i + 1) (length bs)) e) inl (λ f. inr (drop_of_length-le bs {i = suc i} (omega (arith, tests)))) in
      cc (drop-cons bs i 0 h, alone b (drop (suc i) bs) p last, add-one i)

  pub pair_turn : (bs : List ℕ) (i : ℕ) (p : Page) → (leb 128 (get_or bs i 0) && ltb (i + 1) (length bs)) ≡ true
      → print_bytes rows columns v (drop i bs) p ≡ print_bytes rows columns v (drop (i + 2) bs) (print_pair rows columns v (get_or bs i 0) (get_or bs (i + 1) 0) p)
  unfolding print_bytes
  pair_turn bs i p e =
      let a = and-true (leb 128 (get_or bs i 0)) (ltb (i + 1) (length bs)) e in
      let l : i + 1 < length bs = ltb-true (i + 1) (length bs) a.1 in
      let k : suc (i + 1) ≡ i + 2 = omega arith in
      cc (drop-cons bs i 0 (omega arith), add-one i, drop-cons bs (i + 1) 0 l, a.0)

  pub bytes_end : (bs : List ℕ) (i : ℕ) (p : Page) → length bs ≤ i → print_bytes rows columns v (drop i bs) p ≡ p
  unfolding print_bytes
  bytes_end bs i p h = ap (λ (x : List ℕ). print_bytes rows columns v x p) (drop_of_length-le bs {i = i} h)

-- ---- the clearing

-- the cell is there and not 0
abbrev pub cell_written : List ℕ → ℕ → Bool
cell_written t i = not (eqb (get_or t i 0) 0)

pub set_in : (t : List ℕ) (i : ℕ) {b : Bool} → b ≡ cell_written t i → b ≡ true → i < length t
set_in t i e f =
    by_lt i (length t) (λ l. l)
    (λ l. absurd (eqb-false (get_or t i 0) 0 (not-true (eqb (get_or t i 0) 0) (sym e ∙ f)) (get_or-eq_default t 0 {n = i} l)))

pub until_start : (at : ℕ) (t : List ℕ) → clear_until (length t - (at + 1)) (at + 1) (set t at 0) ≡ clear_from at t
unfolding clear_from
until_start at t = ap (λ (k : ℕ). clear_until (length t - k) k (set t at 0)) (add-one at)

pub until_turn : (n i : ℕ) (t : List ℕ) {b : Bool} → i < n → b ≡ cell_written t i → b ≡ true → clear_until (n - (i + 1)) (i + 1) (set t i 0) ≡ clear_until (n - i) i t
unfolding clear_until
until_turn n i t h e f =
    let k : n - i ≡ suc (n - (i + 1)) = omega arith in
    cc (add-one i, not-true (eqb (get_or t i 0) 0) (sym e ∙ f))

pub until_end : (n i : ℕ) (t : List ℕ) {b : Bool} → b ≡ cell_written t i → b ≡ false → clear_until n i t ≡ t
unfolding clear_until
until_end zero i t e f = refl
until_end (suc n) i t e f = rw (not-false (eqb (get_or t i 0) 0) (sym e ∙ f))

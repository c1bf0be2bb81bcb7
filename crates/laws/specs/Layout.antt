-- Numbers, rectangles and words as bytes: what is read and written again, and what is written and read again.
use Rattle.std.specs.Prelude.{◌≡◌, refl, List, [], ◌∷◌, ◌++◌, ℕ, zero, suc, ◌+◌, ◌*◌, ◌/◌, ◌%◌, ◌<◌, ◌≤◌, length, get_or, set, take, drop}
use Rattle.std.proofs.Common.{sym, ap, ◌∙◌, add-zero, zero-add, add_assoc, arith, length-take, length-drop, take-append-drop, length-take-le, take_all, drop-drop, ext_get_or, get_or-take, get_or-drop}
use Rattle.std.proofs.Math.Nat.{div-div-eq-div-mul}
use Rattle.std.proofs.Math.ListN.{get_or-eq_default}
use Rattle.model.specs.declared.Rect.{Rect}
use Rattle.model.specs.Rects.{none}
use Rattle.model.specs.Memory.{with_window}
use Rattle.model.specs.Bytes.{two, four, rect_at, rects_at, words_at, four_bytes, rect_bytes, rects_bytes, words_bytes, Bytes, Words}
use Rattle.model.specs.Record.{listing}
use Rattle.laws.specs.Tests.{by_lt, either}
use Rattle.laws.specs.Rects.{Fits, rect_equal}
use Rattle.laws.specs.Memory.{window_past}
use Rattle.laws.specs.Bands.{BandsFit}

-- ---- bytes

pub bytes_drop : (n : ℕ) (l : List ℕ) → Bytes l → Bytes (drop n l)
unfolding Bytes
bytes_drop n l b i = rw get_or-drop (b _)

pub bytes_nil : Bytes []
unfolding Bytes
bytes_nil i = omega arith

pub bytes_cons : (x : ℕ) (l : List ℕ) → x < 256 → Bytes l → Bytes (x ∷ l)
unfolding Bytes
bytes_cons x l h b zero = h
bytes_cons x l h b (suc i) = b i

pub bytes_append : (a b : List ℕ) → Bytes a → Bytes b → Bytes (a ++ b)
unfolding Bytes
bytes_append [] b p q = q
bytes_append (x ∷ a) b p q = bytes_cons x (a ++ b) (p 0) (bytes_append a b (λ i. p (suc i)) q)

pub bytes_take : (n : ℕ) (l : List ℕ) → Bytes l → Bytes (take n l)
unfolding Bytes
bytes_take n l b i = by_lt i n (λ h. rw (get_or-take n l i 0 h) (b i)) (λ h. rw (get_or-eq_default (take n l) 0 {n = i} (simp length-take (omega arith))) (omega arith))

-- elements that are each a byte
abbrev pub AllBytes : List ℕ → Type 0
AllBytes [] = Unit {0}
AllBytes (x ∷ l) = (x < 256) × AllBytes l

pub bytes_all : (l : List ℕ) → AllBytes l → Bytes l
bytes_all [] a = bytes_nil
bytes_all (x ∷ l) a = bytes_cons x l a.0 (bytes_all l a.1)

pub bytes_rect : (q : Rect) → Bytes (rect_bytes q)
bytes_rect q = bytes_all (rect_bytes q) (omega arith)

-- ---- where the same bytes stand, the same is read

-- the n bytes from i on in r stand from j on in s
pub record Alike (n : ℕ) (r : List ℕ) (i : ℕ) (s : List ℕ) (j : ℕ) : Type 0 where
  pub each : (k : ℕ) → k < n → get_or r (i + k) 0 ≡ get_or s (j + k) 0

module _ {n : ℕ} {r : List ℕ} {i : ℕ} {s : List ℕ} {j : ℕ} (a : Alike n r i s j) where
  two-alike : (k : ℕ) → k + 2 ≤ n → two r (i + k) ≡ two s (j + k)
  two-alike k h = cc (a.each k (omega arith), a.each (k + 1) (omega arith), add_assoc i k 1, add_assoc j k 1)

  next-alike : (k c : ℕ) → k + c + 2 ≤ n → two r (i + k + c) ≡ two s (j + k + c)
  next-alike k c h = cc (two-alike (k + c) h, add_assoc i k c, add_assoc j k c)

  pub four-alike : (k : ℕ) → k + 4 ≤ n → four r (i + k) ≡ four s (j + k)
  four-alike k h = cc (two-alike k (omega arith), next-alike k 2 (omega arith))

  pub rect-alike : (k : ℕ) → k + 8 ≤ n → rect_at r (i + k) ≡ rect_at s (j + k)
  rect-alike k h = cc (two-alike k (omega arith), next-alike k 2 (omega arith), next-alike k 4 (omega arith), next-alike k 6 (omega arith))

  pub rects_alike : (m k : ℕ) → k + 8 * m ≤ n → rects_at m r (i + k) ≡ rects_at m s (j + k)
  rects_alike zero k h = refl
  rects_alike (suc m) k h = cc (rect-alike k (omega arith), rects_alike m (k + 8) (omega arith), add_assoc i k 8, add_assoc j k 8)

  pub words_alike : (m k : ℕ) → k + 4 * m ≤ n → words_at m r (i + k) ≡ words_at m s (j + k)
  words_alike zero k h = refl
  words_alike (suc m) k h = cc (four-alike k (omega arith), words_alike m (k + 4) (omega arith), add_assoc i k 4, add_assoc j k 4)

-- so a place read is the start of what is left from there
module _ (r : List ℕ) (i : ℕ) where
  left-alike : (n : ℕ) → Alike n r i (drop i r) 0
  left-alike n = record { each = λ k h. rw (zero-add k, get_or-drop i r k 0) }

  pub four_from : four r i ≡ four (drop i r) 0
  four_from = cc (four-alike (left-alike 4) 0 (omega arith), add-zero i)

  pub rect_from : rect_at r i ≡ rect_at (drop i r) 0
  rect_from = cc (rect-alike (left-alike 8) 0 (omega arith), add-zero i)

  pub rects_from : (n : ℕ) → rects_at n r i ≡ rects_at n (drop i r) 0
  rects_from n = cc (rects_alike (left-alike (8 * n)) n 0 (omega arith), add-zero i)

  words_from : (n : ℕ) → words_at n r i ≡ words_at n (drop i r) 0
  words_from n = cc (words_alike (left-alike (4 * n)) n 0 (omega arith), add-zero i)

-- ---- read, then written: the bytes again

pub get_d_listing : {A : Type 0} (f : ℕ → A) (k n i : ℕ) (d : A) → i < n → get_or (listing f k n) i d ≡ f (k + i)
unfolding listing
get_d_listing f k zero i d h = absurd (omega arith)
get_d_listing f k (suc n) zero d h = ap f (sym (add-zero k))
get_d_listing f k (suc n) (suc i) d h = let e : suc k + i ≡ k + suc i = omega arith in get_d_listing f (suc k) n i d (omega arith) ∙ ap f e

pub length-listing : {A : Type 0} (f : ℕ → A) (k n : ℕ) → length (listing f k n) ≡ n
unfolding listing
length-listing f k zero = refl
length-listing f k (suc n) = ap suc (length-listing f (suc k) n)

-- the first n elements, written out
listed : (n : ℕ) (l : List ℕ) → n ≤ length l → listing (λ i. get_or l i 0) 0 n ≡ take n l
listed n l h =
    let s = length-listing (λ i. get_or l i 0) 0 n in
    ext_get_or 0 (listing (λ i. get_or l i 0) 0 n) (take n l) (s ∙ sym (length-take-le n l h))
    (λ i b. let c : i < n = omega arith in cc (get_d_listing (λ i. get_or l i 0) 0 n i 0 c, zero-add i, get_or-take n l i 0 c))

pub low : (a b : ℕ) → a < 256 → (a + 256 * b) % 256 ≡ a
low a b h = omega arith

pub high : (a b : ℕ) → a < 256 → b < 256 → (a + 256 * b) / 256 % 256 ≡ b
high a b h k = omega arith

pub byte0 : (a b c d : ℕ) → a < 256 → (a + 256 * b + 65536 * (c + 256 * d)) % 256 ≡ a
byte0 a b c d h = omega arith

pub byte1 : (a b c d : ℕ) → a < 256 → b < 256 → (a + 256 * b + 65536 * (c + 256 * d)) / 256 % 256 ≡ b
byte1 a b c d h k = omega arith

pub byte2 : (a b c d : ℕ) → a < 256 → b < 256 → c < 256 → (a + 256 * b + 65536 * (c + 256 * d)) / 65536 % 256 ≡ c
byte2 a b c d h k l = omega arith

pub byte3 : (a b c d : ℕ) → a < 256 → b < 256 → c < 256 → d < 256 → (a + 256 * b + 65536 * (c + 256 * d)) / 16777216 % 256 ≡ d
byte3 a b c d h k l m = omega arith

again : (n : ℕ) (x r : List ℕ) (i : ℕ) → x ≡ listing (λ k. get_or (drop i r) k 0) 0 n → i + n ≤ length r → x ++ drop (i + n) r ≡ drop i r
again n x r i e h = cc (listed n (drop i r) (simp length-drop (omega arith)), take-append-drop n (drop i r), drop-drop n i r)

pub all_again : (n : ℕ) (x c : List ℕ) → length c ≡ n → x ≡ listing (λ k. get_or c k 0) 0 n → x ≡ c
all_again n x c l e = cc (listed n c (omega arith), take_all n c (omega arith))

pub rect_again : (r : List ℕ) (i : ℕ) → Bytes r → i + 8 ≤ length r → rect_bytes (rect_at r i) ++ drop (i + 8) r ≡ drop i r
unfolding Bytes listing
rect_again r i b h = let d = bytes_drop i r b in again 8 (rect_bytes (rect_at r i)) r i (ap rect_bytes (rect_from r i) ∙ simp (low, high, d)) h

pub four_again : (r : List ℕ) (i : ℕ) → Bytes r → i + 4 ≤ length r → four_bytes (four r i) ++ drop (i + 4) r ≡ drop i r
unfolding Bytes listing
four_again r i b h = let d = bytes_drop i r b in again 4 (four_bytes (four r i)) r i (ap four_bytes (four_from r i) ∙ simp (byte0, byte1, byte2, byte3, d)) h

pub rects_again : (n : ℕ) (r : List ℕ) (i : ℕ) → Bytes r → i + 8 * n ≤ length r → rects_bytes (rects_at n r i) ++ drop (i + 8 * n) r ≡ drop i r
rects_again zero r i b h = let e : i + 8 * 0 ≡ i = omega arith in ap (λ (k : ℕ). drop k r) e
rects_again (suc n) r i b h =
    let e : i + 8 * suc n ≡ i + 8 + 8 * n = omega arith in
    cc (rects_again n r (i + 8) b (omega arith), rect_again r i b (omega arith))

-- ---- written, then read: the fields again

pub two_back : (n : ℕ) → n < 65536 → n % 256 + 256 * (n / 256 % 256) ≡ n
two_back n h = omega arith

pub four_back : (n : ℕ) → n < 4294967296 → n % 256 + 256 * (n / 256 % 256) + 65536 * (n / 65536 % 256 + 256 * (n / 16777216 % 256)) ≡ n
four_back n h =
    let k : n / 65536 % 256 + 256 * (n / 16777216 % 256) ≡ n / 65536 = cc (div-div-eq-div-mul n 65536 256, two_back (n / 65536) (omega arith)) in
    omega (arith, div-div-eq-div-mul n 256 256)

-- rectangles within limits of two bytes
pub rect_back : (w lo hi : ℕ) (q : Rect) (l : List ℕ) → w < 65536 → hi < 65536 → Fits w lo hi q → rect_at (rect_bytes q ++ l) 0 ≡ q
rect_back w lo hi q l hw hh f = either f (λ z. rw z)
    (λ p. rect_equal (two_back q.left (omega arith)) (two_back q.top (omega arith)) (two_back q.right (omega arith)) (two_back q.bottom (omega arith)))

pub rects_back : (w b lo : ℕ) (qs : List Rect) (l : List ℕ) → w < 65536 → lo + length qs * b < 65536 → BandsFit w b lo qs → rects_at (length qs) (rects_bytes qs ++ l) 0 ≡ qs
rects_back w b lo [] l hw h f = refl
rects_back w b lo (q ∷ qs) l hw h f =
    let rest = rects_bytes qs ++ l in
    let first : rect_at (rect_bytes q ++ rest) 0 ≡ q = rect_back w lo (lo + b) q rest hw (omega arith) f.0 in
    let others : rects_at (length qs) (rect_bytes q ++ rest) 8 ≡ qs = rects_from (rect_bytes q ++ rest) 8 (length qs) ∙ rects_back w b (lo + b) qs l hw (omega arith) f.1 in
    ap (λ (z : Rect). z ∷ rects_at (length qs) (rect_bytes q ++ rest) 8) first ∙ ap (λ (zs : List Rect). q ∷ zs) others

pub words_back : (ws : List ℕ) (l : List ℕ) → Words ws → words_at (length ws) (words_bytes ws ++ l) 0 ≡ ws
words_back [] l b = refl
words_back (w ∷ ws) l b = cc (four_back w b.0, words_from (four_bytes w ++ (words_bytes ws ++ l)) 4 (length ws), words_back ws l b.1)

-- ---- how long

pub length_rects : (qs : List Rect) → length (rects_bytes qs) ≡ 8 * length qs
length_rects [] = refl
length_rects (q ∷ qs) = omega (arith, length_rects qs)

pub length-rects_at : (n : ℕ) (r : List ℕ) (a : ℕ) → length (rects_at n r a) ≡ n
length-rects_at zero r a = refl
length-rects_at (suc n) r a = ap suc (length-rects_at n r (a + 8))

pub length_read : (n : ℕ) (r : List ℕ) (a : ℕ) → length (rects_bytes (rects_at n r a)) ≡ 8 * n
length_read n r a = cc (length_rects (rects_at n r a), length-rects_at n r a)

pub length_words : (ws : List ℕ) → length (words_bytes ws) ≡ 4 * length ws
length_words [] = refl
length_words (w ∷ ws) = omega (arith, length_words ws)

-- ---- one rectangle of several

pub rect_of : (n : ℕ) (r : List ℕ) (a i : ℕ) → i < n → get_or (rects_at n r a) i none ≡ rect_at r (a + 8 * i)
rect_of zero r a i h = absurd (omega arith)
rect_of (suc n) r a zero h = let e : a ≡ a + 8 * 0 = omega arith in ap (rect_at r) e
rect_of (suc n) r a (suc i) h = let e : a + 8 + 8 * i ≡ a + 8 * suc i = omega arith in rect_of n r (a + 8) i (omega arith) ∙ ap (rect_at r) e

-- another in its place
pub rects_set : (qs : List Rect) (l : List ℕ) (i : ℕ) (q : Rect) → i < length qs → with_window (8 * i) (rect_bytes q) (rects_bytes qs ++ l) ≡ rects_bytes (set qs i q) ++ l
unfolding with_window
rects_set [] l i q h = absurd (omega arith)
rects_set (x ∷ qs) l zero q h = refl
rects_set (x ∷ qs) l (suc i) q h =
    let e : 8 * suc i ≡ 8 + 8 * i = omega arith in
    cc (window_past (rect_bytes x) (rects_bytes qs ++ l) (rect_bytes q) 8 (8 * i) refl, rects_set qs l i q (omega arith))

-- ---- one word of several

pub word_at : (n : ℕ) (r : List ℕ) (k i : ℕ) → i < n → get_or (words_at n r k) i 0 ≡ four r (k + 4 * i)
word_at zero r k i h = absurd (omega arith)
word_at (suc n) r k zero h = let e : k ≡ k + 4 * 0 = omega arith in ap (four r) e
word_at (suc n) r k (suc i) h = let e : k + 4 + 4 * i ≡ k + 4 * suc i = omega arith in word_at n r (k + 4) i (omega arith) ∙ ap (four r) e

-- one word more
pub words_more : (ws : List ℕ) (i : ℕ) → i < length ws → words_bytes (take (i + 1) ws) ≡ words_bytes (take i ws) ++ four_bytes (get_or ws i 0)
words_more [] i h = absurd (omega arith)
words_more (w ∷ ws) zero h = refl
words_more (w ∷ ws) (suc i) h = let e : suc i + 1 ≡ suc (i + 1) = omega arith in rw e (cc (words_more ws i (omega arith)))

-- The flags of the text cells in their bytes: there and back, one written, all scrolled, none set. Laws, code and definitions beside these know no form of a flag.
use Rattle.std.specs.Prelude.{◌≡◌, refl, Bool, true, ◌&&◌, List, [], ◌∷◌, ◌++◌, map, ℕ, zero, suc, ◌+◌, ◌-◌, ◌<◌, ◌≤◌, leb, eqb, length, get_or, set, drop, replicate}
use Rattle.std.proofs.Common.{sym, ap, ◌∙◌, add-one, arith, leb-true, take_all, drop-cons}
use Rattle.std.proofs.Math.Bool.{false, and_assoc, and-true as and_last}
use Rattle.std.proofs.lemmas.List.{map-append, length-map, length-replicate}
use Rattle.std.proofs.Math.ListN.{get_or-map, get_or-eq_default}
use Rattle.model.specs.Memory.{zeros}
use Rattle.model.specs.Bytes.{Bytes}
use Rattle.model.specs.Flags.{flag_bytes, flag_of, flag_byte, flags_in, bytes_of_flags, flags_fit}
use Rattle.model.specs.Flush.{flag_at}
use Rattle.model.specs.Print.{scrolled}
use Rattle.laws.specs.Tests.{and-true}
use Rattle.laws.specs.ListLaws.{map-replicate}
use Rattle.laws.specs.Layout.{bytes_cons, bytes_nil}

-- the bytes c hold the flags of n cells
pub record HasFlags (n : ℕ) (c : List ℕ) : Type 0 where
  pub sized : length c ≡ flag_bytes n
  pub fit : flags_fit n c ≡ true

-- ---- there and back

flag_again : (f : ℕ) → f ≤ 1 → flag_byte (flag_of f) ≡ f
flag_again zero h = refl
flag_again (suc zero) h = refl
flag_again (suc (suc f)) h = absurd (omega arith)

pub flags_read : (n : ℕ) (c : List ℕ) → length c ≡ flag_bytes n → flags_fit n c ≡ true → bytes_of_flags (flags_in n c) ≡ c
unfolding flags_in bytes_of_flags flags_fit
flags_read zero [] l e = refl
flags_read zero (b ∷ c) l e = absurd (omega arith)
flags_read (suc n) [] l e = absurd (omega arith)
flags_read (suc n) (b ∷ c) l e =
    let p = and-true (leb b 1) (flags_fit n c) e in
    λ i. flag_again b (leb-true b 1 p.0) i ∷ flags_read n c (omega arith) p.1 i

flag_back : (f : Bool) → flag_of (flag_byte f) ≡ f
flag_back true = refl
flag_back false = refl

flags_back : (fs : List Bool) → map flag_of (map flag_byte fs) ≡ fs
flags_back [] = refl
flags_back (f ∷ fs) = λ i. flag_back f i ∷ flags_back fs i

pub length_flags : (fs : List Bool) → length (bytes_of_flags fs) ≡ flag_bytes (length fs)
unfolding bytes_of_flags
length_flags fs = length-map fs flag_byte

pub flags_written : (n : ℕ) (fs : List Bool) → length fs ≡ n → flags_in n (bytes_of_flags fs) ≡ fs
unfolding flags_in bytes_of_flags
flags_written n fs e = ap (map flag_of) (take_all n (map flag_byte fs) (rw (length-map fs flag_byte) (omega arith))) ∙ flags_back fs

pub length-flags_in : (n : ℕ) (c : List ℕ) → length c ≡ flag_bytes n → length (flags_in n c) ≡ n
unfolding flags_in
length-flags_in n c e = ap (λ (l : List ℕ). length (map flag_of l)) (take_all n c (omega arith)) ∙ length-map c flag_of ∙ e

pub flags-fit : (fs : List Bool) → flags_fit (length fs) (bytes_of_flags fs) ≡ true
unfolding flags_fit bytes_of_flags
flags-fit [] = refl
flags-fit (true ∷ fs) = flags-fit fs
flags-fit (false ∷ fs) = flags-fit fs

pub flags_bytes : (fs : List Bool) → Bytes (bytes_of_flags fs)
unfolding bytes_of_flags
flags_bytes [] = bytes_nil
flags_bytes (true ∷ fs) = bytes_cons 1 _ (omega arith) (flags_bytes fs)
flags_bytes (false ∷ fs) = bytes_cons 0 _ (omega arith) (flags_bytes fs)

-- ---- none set

pub no_flags : (n : ℕ) → zeros (flag_bytes n) ≡ bytes_of_flags (replicate n false)
unfolding zeros bytes_of_flags
no_flags zero = refl
no_flags (suc n) = ap (λ (l : List ℕ). 0 ∷ l) (no_flags n)

pub length_no_flags : (n : ℕ) → length (replicate n false) ≡ n
length_no_flags n = length-replicate n false

pub flags_of : (fs : List Bool) → HasFlags (length fs) (bytes_of_flags fs)
flags_of fs = record { sized = length_flags fs; fit = flags-fit fs }

-- ---- one read

pub flag_read : (n : ℕ) (c : List ℕ) (i : ℕ) → length c ≡ flag_bytes n → eqb (get_or c i 0) 1 ≡ flag_at (flags_in n c) i
unfolding flags_in
flag_read n c i e = sym (get_or-map flag_of c i 0) ∙ ap (λ (l : List ℕ). flag_at (map flag_of l) i) (sym (take_all n c (omega arith)))

pub flag_past : (n : ℕ) (c : List ℕ) (i : ℕ) → length c ≡ flag_bytes n → n ≤ i → false ≡ flag_at (flags_in n c) i
flag_past n c i e h = sym (get_or-eq_default (flags_in n c) false (rw (length-flags_in n c e) h))

-- ---- one written, and all scrolled: what the code does to the bytes, and what that means for the flags

-- for how many flags there is room
abbrev pub flag_room : List ℕ → ℕ
flag_room c = length c

unfoldable pub with_flag : ℕ → Bool → List ℕ → List ℕ
with_flag i v c = set c i (flag_byte v)

unfoldable pub flags_scrolled : ℕ → List ℕ → List ℕ
flags_scrolled n c = scrolled n 0 c

pub flag-room : {n : ℕ} {c : List ℕ} → HasFlags n c → n ≤ flag_room c
flag-room h = omega arith

map-set : {A B : Type 0} (f : A → B) (l : List A) (i : ℕ) (a : A) → map f (set l i a) ≡ set (map f l) i (f a)
map-set f [] i a = refl
map-set f (x ∷ l) zero a = refl
map-set f (x ∷ l) (suc i) a = ap (λ m. f x ∷ m) (map-set f l i a)

map-drop : {A B : Type 0} (f : A → B) (n : ℕ) (l : List A) → map f (drop n l) ≡ drop n (map f l)
map-drop f zero l = refl
map-drop f (suc n) [] = refl
map-drop f (suc n) (x ∷ l) = map-drop f n l

map-scrolled : {A B : Type 0} (f : A → B) (n : ℕ) (a : A) (l : List A) → map f (scrolled n a l) ≡ scrolled n (f a) (map f l)
unfolding scrolled
map-scrolled f n a l = map-append f (drop n l) (replicate n a) ∙ (λ i. map-drop f n l i ++ map-replicate f n a i)

module _ (n : ℕ) (c : List ℕ) (h : HasFlags n c) where
  pub flag-written : (i : ℕ) (v : Bool) → with_flag i v c ≡ bytes_of_flags (set (flags_in n c) i v)
  unfolding with_flag bytes_of_flags
  flag-written i v = cc (flags_read n c h.sized h.fit, map-set flag_byte (flags_in n c) i v)

  pub flags-scrolled : (k : ℕ) → flags_scrolled k c ≡ bytes_of_flags (scrolled k false (flags_in n c))
  unfolding flags_scrolled bytes_of_flags
  flags-scrolled k = cc (flags_read n c h.sized h.fit, map-scrolled flag_byte k false (flags_in n c))

-- ---- the test, byte after byte

pub flags_turn : (ok : Bool) (n : ℕ) (c : List ℕ) (i : ℕ) → length c ≡ flag_bytes n → i < n
    → ((ok && leb (get_or c i 0) 1) && flags_fit (n - (i + 1)) (drop (i + 1) c)) ≡ (ok && flags_fit (n - i) (drop i c))
unfolding flags_fit
flags_turn ok n c i l h =
    let k : n - i ≡ suc (n - suc i) = omega arith in
    cc (add-one i, and_assoc ok _ _, drop-cons c i 0 (omega arith))

pub flags_end : (ok : Bool) (n : ℕ) (c : List ℕ) (i : ℕ) → n ≤ i → (ok && flags_fit (n - i) (drop i c)) ≡ ok
unfolding flags_fit
flags_end ok n c i h = let z : n - i ≡ 0 = omega arith in ap (λ (j : ℕ). ok && flags_fit j (drop i c)) z ∙ and_last ok

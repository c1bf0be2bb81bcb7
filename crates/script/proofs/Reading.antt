-- What digits and words take of the front of a line.
use Rattle.std.proofs.Common.{◌≡◌, ℕ, ◌+◌, ◌-◌, ◌*◌, ◌<◌, ◌≤◌, List, [], ◌∷◌, Bool, true, false, cond, length, get_or, take, drop, refl, ap, sym, ◌∙◌, add-one, drop-cons, drop_of_length-le, length-drop, arith}
use Prim.Native.Char.{code}
use Rattle.std.proofs.Math.Seq.{take_all}
use Rattle.std.proofs.Math.Dec.{eqb}
use Rattle.std.proofs.lemmas.Bool.{eq-eqb, eqb-true, eqb-false, ne_eqb}
use Rattle.std.specs.Prelude.{nat_eq, Option, None, Some, MatchOption}
use denote.Ref.{Bor}
use lib.Pointwise.{pointwise}
use Rattle.laws.specs.Tests.{by_test}
use Rattle.model.specs.Script.Read.{Taken, took_none, took, goes_on, take_digits, take_word, or_taken, take_mode}
use Rattle.model.specs.Characters.{bytes_of}
use Rattle.script.specs.Meaning.{taken_of}

-- ---- the digits that follow those of v, from i on: they end at the line's end or at a byte that does not go on

pub digits_end : (v i : ℕ) (s : List ℕ) {w : Taken} → take_digits v (drop i s) ≡ w → length s ≤ i → took v [] ≡ w
unfolding take_digits
digits_end v i s e h = rw (drop_of_length-le s h) at e

pub digits_stop : (v i : ℕ) (s : List ℕ) {w : Taken} → take_digits v (drop i s) ≡ w → i < length s → {t : Bool} → t ≡ goes_on v (get_or s i 0) → t ≡ false → took v (take (length s - i) (drop i s)) ≡ w
unfolding take_digits
digits_stop v i s e h g f = ap (took v) (take_all _ (drop i s) (omega (arith, length-drop i s)) ∙ drop-cons s i 0 h) ∙ rw (drop-cons s i 0 h, sym g ∙ f) at e

pub digits_turn : (v i : ℕ) (s : List ℕ) {w : Taken} → take_digits v (drop i s) ≡ w → i < length s → goes_on v (get_or s i 0) ≡ true
    → take_digits (10 * v + (get_or s i 0 - code "0")) (drop (i + 1) s) ≡ w
unfolding take_digits
digits_turn v i s e h f = rw (add-one i) (rw (drop-cons s i 0 h, f) at e)

-- ---- a word stands at the front, or does not

pub word_is : (v : ℕ) (w s : List ℕ) → take_word v w s ≡ cond (pointwise nat_eq (take (length w) s) w) (took v (drop (length w) s)) took_none
unfolding take_word
word_is v [] s = refl
word_is v (x ∷ w) [] = refl
word_is v (x ∷ w) (y ∷ s) =
    by_test (eqb x y) (λ e. rw (e, eq-eqb y x (sym (eqb-true x y e))) (word_is v w s)) (λ e. rw (e, ne_eqb y x (λ q. eqb-false x y e (sym q))))

-- ---- a mode: each word is tried where none before it stands

else_word : (v : ℕ) (w s : List ℕ) (r o : Option (ℕ × Bor (List ℕ))) → MatchOption r (taken_of o ≡ take_word v w s) (λ x. o ≡ Some x) → taken_of o ≡ or_taken (taken_of r) (take_word v w s)
unfolding or_taken
else_word v w s None o e = e
else_word v w s (Some x) o e = ap taken_of e

pub mode_is : (s : List ℕ) (a b c d : Option (ℕ × Bor (List ℕ))) → taken_of a ≡ take_word 0 (bytes_of "clear") s
    → MatchOption a (taken_of b ≡ take_word 1 (bytes_of "or") s) (λ x. b ≡ Some x)
    → MatchOption b (taken_of c ≡ take_word 2 (bytes_of "xor") s) (λ x. c ≡ Some x)
    → MatchOption c (taken_of d ≡ take_word 3 (bytes_of "unknown") s) (λ x. d ≡ Some x) → taken_of d ≡ take_mode s
unfolding take_mode
mode_is s a b c d e f g h =
    else_word 3 (bytes_of "unknown") s c d h
    ∙ ap (λ (x : Taken). or_taken x (take_word 3 (bytes_of "unknown") s)) (else_word 2 (bytes_of "xor") s b c g
    ∙ ap (λ (x : Taken). or_taken x (take_word 2 (bytes_of "xor") s)) (else_word 1 (bytes_of "or") s a b f ∙ ap (λ (x : Taken). or_taken x (take_word 1 (bytes_of "or") s)) e))

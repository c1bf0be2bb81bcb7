-- A line held against a pattern, byte by byte of the pattern.
use Rattle.std.proofs.Common.{◌≡◌, ℕ, ◌+◌, ◌<◌, List, [], ◌∷◌, Bool, true, false, length, get_or, drop, ap, sym, ◌∙◌, add-one, drop-cons, arith}
use Rattle.std.proofs.lemmas.Grind.{common_steps}
use Rattle.laws.specs.Tests.{by_test}
use Rattle.model.specs.Script.Read.{took_none, took, Match, unmatched, is_field, with_field, take_piece, and_then, matched}

-- what is left of the pattern from i on, where t is left of the line
module _ (ps t fs : List ℕ) (i : ℕ) {w : Match} (e : matched (drop i ps) t fs ≡ w) (h : i < length ps) where
  step : and_then (take_piece (get_or ps i 0) t) (λ v u. matched (drop (i + 1) ps) u (with_field (get_or ps i 0) v fs)) ≡ w
  unfolding matched
  step = rw (add-one i) (rw (drop-cons ps i 0 h) at e)

  pub match_none : took_none ≡ take_piece (get_or ps i 0) t → unmatched ≡ w
  unfolding and_then
  match_none p = rw (sym p) at step

  pub match_turn : (v : ℕ) (u gs : List ℕ) → took v u ≡ take_piece (get_or ps i 0) t → gs ≡ with_field (get_or ps i 0) v fs → matched (drop (i + 1) ps) u gs ≡ w
  unfolding and_then
  match_turn v u gs p k = ap (matched (drop (i + 1) ps) u) k ∙ (rw (sym p) at step)

-- a number is put in front of the last six
pub with_six : (p v : ℕ) (f : List ℕ) {t : Bool} → length f ≡ 6 → t ≡ is_field p → t ≡ true
    → v ∷ get_or f 0 0 ∷ get_or f 1 0 ∷ get_or f 2 0 ∷ get_or f 3 0 ∷ get_or f 4 0 ∷ [] ≡ with_field p v f
unfolding with_field
with_six p v f n e k = rw (sym e ∙ k) (grind (arith, common_steps))

pub with_none : (p v : ℕ) (f : List ℕ) {t : Bool} → t ≡ is_field p → t ≡ false → f ≡ with_field p v f
unfolding with_field
with_none p v f e k = rw (sym e ∙ k)

pub length-with_field : (p v : ℕ) (f : List ℕ) → length f ≡ 6 → length (with_field p v f) ≡ 6
unfolding with_field
length-with_field p v f n = by_test (is_field p) (λ e. rw e (grind (arith, common_steps))) (λ e. rw e n)

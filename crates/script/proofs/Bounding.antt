-- The numbers that a pattern takes are within their limits.
use Rattle.std.proofs.Common.{◌≡◌, ℕ, zero, suc, ◌-◌, ◌≤◌, ◌<◌, List, [], ◌∷◌, Bool, true, false, cond, get_or, take, ap, sym, ◌∙◌, arith}
use Prim.Native.Char.{code}
use Rattle.std.proofs.Math.Dec.{eqb, leb}
use Rattle.std.proofs.lemmas.Bool.{leb-true}
use Rattle.std.specs.Prelude.{Option, Some}
use Rattle.model.specs.Characters.{bytes_of}
use Rattle.model.specs.Script.Read.{Taken, took_none, took, is_digit, take_digits, at_most, take_number, take_word, or_taken, take_mode, take_piece, is_field, with_field, matched_with, no_fields, and_then, matched, point_pattern, line_pattern, poke_pattern}
use Rattle.laws.specs.Tests.{by_test}
use Rattle.script.specs.Meaning.{match_of}

-- what was taken is at most m
abbrev Most : ℕ → Taken → Type 0
Most m took_none = Unit {0}
Most m (took v s) = v ≤ m

at-most : (m : ℕ) (t : Taken) → Most m (at_most m t)
unfolding at_most
at-most m took_none = tt
at-most m (took v s) = by_test {P = Most m (cond (leb v m) (took v s) took_none)} (leb v m) (λ e. rw e (leb-true v m e)) (λ e. rw e tt)

number_most : (m : ℕ) (s : List ℕ) → Most m (take_number m s)
unfolding take_number
number_most m [] = tt
number_most m (d ∷ s) =
    by_test {P = Most m (take_number m (d ∷ s))} (is_digit d)
    (λ e. by_test {P = Most m (take_number m (d ∷ s))} (eqb d (code "0")) (λ f. rw (e, f) (omega arith)) (λ f. rw (e, f) (at-most m (take_digits (d - code "0") s))))
    (λ e. rw e tt)

word_most : (m v : ℕ) (w s : List ℕ) → v ≤ m → Most m (take_word v w s)
unfolding take_word
word_most m v [] s h = h
word_most m v (x ∷ w) [] h = tt
word_most m v (x ∷ w) (y ∷ s) h = by_test {P = Most m (take_word v (x ∷ w) (y ∷ s))} (eqb x y) (λ e. rw e (word_most m v w s h)) (λ e. rw e tt)

else_most : (m : ℕ) (t u : Taken) → Most m t → Most m u → Most m (or_taken t u)
unfolding or_taken
else_most m took_none u a b = b
else_most m (took v s) u a b = a

mode_most : (s : List ℕ) → Most 3 (take_mode s)
unfolding take_mode
mode_most s =
    else_most 3 _ _ (else_most 3 _ _ (else_most 3 _ _ (word_most 3 0 (bytes_of "clear") s (omega arith)) (word_most 3 1 (bytes_of "or") s (omega arith))) (word_most 3 2 (bytes_of "xor") s (omega arith)))
    (word_most 3 3 (bytes_of "unknown") s (omega arith))

-- the limit of what a byte of a pattern stands for
abbrev limit : ℕ → ℕ
limit p = cond (eqb p (code "#")) 255 (cond (eqb p (code "@")) 65535 3)

piece_most : (p : ℕ) (s : List ℕ) → is_field p ≡ true → Most (limit p) (take_piece p s)
unfolding take_piece is_field
piece_most p s f =
    by_test {P = Most (limit p) (take_piece p s)} (eqb p (code "#")) (λ e. rw e (number_most 255 s))
    (λ e. by_test {P = Most (limit p) (take_piece p s)} (eqb p (code "@")) (λ g. rw (e, g) (number_most 65535 s))
    (λ g. by_test {P = Most (limit p) (take_piece p s)} (eqb p (code "*")) (λ h. rw (e, g, h) (mode_most s)) (λ h. absurd (let z : ◌≡◌ {A = Bool} false true = rw (e, g, h) at f in let y : ◌≡◌ {A = ℕ} 0 1 = cc in omega arith))))

-- ---- a whole pattern

abbrev Under : List ℕ → List ℕ → Type 0
Under bs fs = (i : ℕ) → get_or fs i 0 ≤ get_or bs i 0

unfoldable bounds : List ℕ → List ℕ → List ℕ
bounds [] bs = bs
bounds (p ∷ ps) bs = bounds ps (cond (is_field p) (limit p ∷ take 5 bs) bs)

take_none : (n : ℕ) (fs : List ℕ) → ((i : ℕ) → get_or fs i 0 ≤ 0) → (i : ℕ) → get_or (take n fs) i 0 ≤ 0
take_none zero fs u i = omega arith
take_none (suc n) [] u i = omega arith
take_none (suc n) (f ∷ fs) u zero = u 0
take_none (suc n) (f ∷ fs) u (suc i) = take_none n fs (λ j. u (suc j)) i

take-under : (n : ℕ) (bs fs : List ℕ) → Under bs fs → Under (take n bs) (take n fs)
take-under zero bs fs u i = omega arith
take-under (suc n) [] [] u i = omega arith
take-under (suc n) [] (f ∷ fs) u i = take_none (suc n) (f ∷ fs) u i
take-under (suc n) (b ∷ bs) [] u i = omega arith
take-under (suc n) (b ∷ bs) (f ∷ fs) u zero = u 0
take-under (suc n) (b ∷ bs) (f ∷ fs) u (suc i) = take-under n bs fs (λ j. u (suc j)) i

push_under : (v m : ℕ) (bs fs : List ℕ) → v ≤ m → Under bs fs → Under (m ∷ bs) (v ∷ fs)
push_under v m bs fs h u zero = h
push_under v m bs fs h u (suc i) = u i

kept_under : (p v : ℕ) (bs fs : List ℕ) → (is_field p ≡ true → v ≤ limit p) → Under bs fs → Under (cond (is_field p) (limit p ∷ take 5 bs) bs) (with_field p v fs)
unfolding with_field
kept_under p v bs fs h u =
    by_test {P = Under (cond (is_field p) (limit p ∷ take 5 bs) bs) (cond (is_field p) (v ∷ take 5 fs) fs)} (is_field p)
    (λ e. rw e (push_under v (limit p) (take 5 bs) (take 5 fs) (h e) (take-under 5 bs fs u)))
    (λ e. rw e u)

same_under : (bs fs gs : List ℕ) → matched_with fs ≡ matched_with gs → Under bs fs → Under bs gs
same_under bs fs gs e u i = let p : fs ≡ gs = cc in rw (← p) (u i)

matched-under : (ps s bs fs gs : List ℕ) → Under bs fs → matched ps s fs ≡ matched_with gs → Under (bounds ps bs) gs
unfolding matched bounds and_then
matched-under [] [] bs fs gs u e = same_under bs fs gs e u
matched-under [] (x ∷ s) bs fs gs u e = absurd (let z : ◌≡◌ {A = ℕ} 0 1 = cc in omega arith)
matched-under (p ∷ ps) s bs fs gs u e = go (take_piece p s) (λ f. piece_most p s f) (λ v r k q. matched-under ps r (cond (is_field p) (limit p ∷ take 5 bs) bs) (with_field p v fs) gs k q) e
  where
    go : (t : Taken) → (is_field p ≡ true → Most (limit p) t)
        → ((v : ℕ) (r : List ℕ) → Under (cond (is_field p) (limit p ∷ take 5 bs) bs) (with_field p v fs) → matched ps r (with_field p v fs) ≡ matched_with gs → Under (bounds ps (cond (is_field p) (limit p ∷ take 5 bs) bs)) gs)
        → and_then t (λ v r. matched ps r (with_field p v fs)) ≡ matched_with gs → Under (bounds ps (cond (is_field p) (limit p ∷ take 5 bs) bs)) gs
    go took_none h next q = absurd (let z : ◌≡◌ {A = ℕ} 0 1 = cc in omega arith)
    go (took v r) h next q = next v r (kept_under p v bs fs h u) q

none-under : Under no_fields no_fields
none-under i = omega arith

fields_under : (ps s f : List ℕ) (m : Option (List ℕ)) → match_of m ≡ matched ps s no_fields → m ≡ Some f → Under (bounds ps no_fields) f
fields_under ps s f m e k = matched-under ps s no_fields no_fields f none-under (sym e ∙ ap match_of k)

-- ---- the forms

pub point-fits : (s f : List ℕ) (m : Option (List ℕ)) → match_of m ≡ matched point_pattern s no_fields → m ≡ Some f → (get_or f 0 0 < 256) × (get_or f 1 0 < 256) × (get_or f 2 0 < 256)
unfolding bounds is_field
point-fits s f m e k =
    let u = fields_under point_pattern s f m e k in
    (omega (arith, u 0), omega (arith, u 1), omega (arith, u 2))

pub line-fits : (s f : List ℕ) (m : Option (List ℕ)) → match_of m ≡ matched line_pattern s no_fields → m ≡ Some f
    → (get_or f 0 0 < 256) × (get_or f 1 0 < 256) × (get_or f 2 0 < 256) × (get_or f 3 0 < 256) × (get_or f 4 0 < 256)
unfolding bounds is_field
line-fits s f m e k =
    let u = fields_under line_pattern s f m e k in
    (omega (arith, u 0), omega (arith, u 1), omega (arith, u 2), omega (arith, u 3), omega (arith, u 4))

pub poke_fits : (s f : List ℕ) (m : Option (List ℕ)) → match_of m ≡ matched poke_pattern s no_fields → m ≡ Some f → get_or f 0 0 < 256
unfolding bounds is_field
poke_fits s f m e k = omega (arith, fields_under poke_pattern s f m e k 0)

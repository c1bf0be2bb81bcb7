-- Refusals: a call is accepted exactly where all its tests pass.
use Rattle.std.specs.Prelude.{◌≡◌, refl, ◌≢◌, true, List, [], ◌∷◌, ◌++◌, ℕ, ◌<◌, eqb, length}
use Rattle.std.proofs.Common.{sym, ap, append-nil, arith, eqb-true, eq-eqb}
use Rattle.model.specs.Geometry.{Geometry}
use Rattle.model.specs.Record.{record_bytes}
use Rattle.model.specs.Refusals.{Test, refusal, ruled}
use Rattle.model.specs.Calls.{Call, Lent, Lending, to_open, record_only, with_memory, with_fonts, with-panel, takes, lengths_fit, state_tests, entry_tests, own_tests, refusals, refused, done, outcome}
use Rattle.model.specs.Lists.{accepted}
use Rattle.laws.specs.Tests.{by_test, and-true}

abbrev pub AllPass : List Test → Type 0
AllPass [] = Unit {0}
AllPass (t ∷ ts) = (t.passes ≡ true) × AllPass ts

-- no test's number is 0, which means done
abbrev pub Numbered : List Test → Type 0
Numbered [] = Unit {0}
Numbered (t ∷ ts) = (0 < t.number) × Numbered ts

-- tests before others: they refuse ..
pub refusal-first : (ts us : List Test) (k : ℕ) → refusal ts ≡ k → k ≢ 0 → refusal (ts ++ us) ≡ k
unfolding refusal
refusal-first [] us k e n = absurd (n (sym e))
refusal-first (t ∷ ts) us k e n = by_test t.passes (λ p. rw p (refusal-first ts us k (rw p at e) n)) (λ p. rw p (rw p at e))

-- .. or pass, and the others decide
pub refusal-append : (ts us : List Test) → AllPass ts → refusal (ts ++ us) ≡ refusal us
unfolding refusal
refusal-append [] us a = refl
refusal-append (t ∷ ts) us a = rw a.0 (refusal-append ts us a.1)

pub pass_accepted : (ts : List Test) → AllPass ts → refusal ts ≡ 0
unfolding refusal
pass_accepted ts a = cc (append-nil ts, refusal-append ts [] a)

-- they pass where none of all refuses
accepted-first : (ts us : List Test) → Numbered ts → refusal (ts ++ us) ≡ 0 → AllPass ts × (refusal us ≡ 0)
unfolding refusal
accepted-first [] us n e = (tt, e)
accepted-first (t ∷ ts) us n e =
    by_test t.passes
    (λ p. let k = accepted-first ts us n.1 (rw p at e) in ((p, k.0), k.1))
    (λ p. let z : t.number ≡ 0 = rw p at e in absurd (omega arith))

pub accepted_pass : (ts : List Test) → Numbered ts → refusal ts ≡ 0 → AllPass ts
accepted_pass ts n e = (accepted-first ts [] n (rw append-nil e)).0

-- ---- the tests of a call

-- the record and what is lent beside it have their lengths, and the record passes STATE where the call reads it
pub record Tested (g : Geometry) (c : Call) (l : Lent) : Type 0 where
  pub sized : length l.rec ≡ record_bytes g
  pub lengths : lengths_fit g (takes c) l ≡ true
  pub state : AllPass (state_tests g (takes c) l)

-- then the call's own tests decide
pub own_decide : (g : Geometry) (c : Call) (l : Lent) → Tested g c l → refusal (refusals g c l) ≡ refusal (own_tests g c l)
unfolding refusals refusal
own_decide g c l e = rw (eq-eqb (length l.rec) (record_bytes g) e.sized, e.lengths) (refusal-append (state_tests g (takes c) l) (own_tests g c l) e.state)

pub numbered_entry : (g : Geometry) (t : Lending) (l : Lent) → Numbered (entry_tests g t l)
numbered_entry g to_open l = (omega arith, tt)
numbered_entry g record_only l = (omega arith, (omega arith, tt))
numbered_entry g with_memory l = (omega arith, (omega arith, tt))
numbered_entry g (with_fonts f) l = (omega arith, (omega arith, tt))
numbered_entry g (with-panel k) l = (omega arith, (omega arith, tt))

-- and an accepted call has passed them all
pub accepted_call : (g : Geometry) (c : Call) (l : Lent) → Numbered (own_tests g c l) → accepted g c l → Tested g c l × AllPass (own_tests g c l)
unfolding refusals
accepted_call g c l n a =
    let p = accepted-first (entry_tests g (takes c) l) (own_tests g c l) (numbered_entry g (takes c) l) a in
    let k = and-true (eqb (length l.rec) (record_bytes g)) (lengths_fit g (takes c) l) p.0.0 in
    (record { sized = eqb-true (length l.rec) (record_bytes g) k.0; lengths = k.1; state = p.0.1 }, accepted_pass (own_tests g c l) n p.1)

pub outcome-done : (g : Geometry) (c : Call) (l : Lent) → accepted g c l → outcome g c l ≡ done g c l
unfolding outcome ruled
outcome-done g c l a = ap (λ (n : ℕ). ruled n (refused c l) (done g c l)) a

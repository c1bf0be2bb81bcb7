-- The ends of a call, once for all calls: refused at the entry, refused by a test of its own, done. All over the glass that the record's length tells.
use Rattle.std.proofs.Common.{◌≡◌, ◌≢◌, refl, sym, ap, subst, ◌∙◌, List, [], ◌∷◌, Bool, true, false, not, ◌&&◌, ℕ, zero, suc, ◌%◌, ◌<◌, ◌≤◌, arith, eqb-true, lt-ltb, le-ltb, eqb, ltb, length, Result, Ok, Err, IsErrAnd}
use Rattle.std.proofs.lemmas.Bool.{not-true, not-false}
use Rattle.std.proofs.lemmas.Result.{err_from_is_err_and}
use Rattle.model.specs.declared.refusal.Refusal.{Refusal}
use Rattle.model.specs.declared.refusal.Refusal.TheVariants as refusals
use Rattle.model.specs.declared.glass.Glass.{Glass}
use Rattle.model.specs.Geometry.{Geometry, screen_bytes}
use Rattle.model.specs.Glass.{geometry, glass_of}
use Rattle.model.specs.Record.{record_bytes}
use Rattle.model.specs.Refusals.{Test, test, code_of, number_of, refusal, ruled}
use Rattle.model.specs.Calls.{Call, Lent, Outcome, answered, takes, lengths_fit, lent_test, state_test, entry_tests, own_tests, refusals, numbers, nought, numbers_beside, refused, done, outcome}
use Rattle.laws.specs.Tests.{and-true}
use Rattle.laws.specs.Calls.{AllPass, refusal-first, refusal-append, accepted_pass}
use Rattle.record.specs.Entry.{Chosen, Entered}
use Rattle.record.specs.Given.{Given}

-- ---- tests

-- the first test fails; it passes, and the others decide
pub fails : {n : ℕ} {b : Bool} (ts : List Test) → b ≡ false → refusal (test n b ∷ ts) ≡ n
unfolding refusal
fails ts e = rw e

pub passes : (n : ℕ) {b : Bool} (ts : List Test) {k : ℕ} → b ≡ true → refusal ts ≡ k → refusal (test n b ∷ ts) ≡ k
unfolding refusal
passes n ts e r = rw e r

pub none_left : refusal [] ≡ 0
unfolding refusal
none_left = refl

-- the test b as a function's answer t, refused where t is false
pub failed : {b t : Bool} → t ≡ b → not t ≡ true → b ≡ false
failed {t = t} e f = sym e ∙ not-true t f

pub passed : {b t : Bool} → t ≡ b → not t ≡ false → b ≡ true
passed {t = t} e f = sym e ∙ not-false t f

-- ---- outcomes by the refusal's number

pub is_refused : (g : Geometry) (c : Call) (l : Lent) (k : ℕ) → refusal (refusals g c l) ≡ k → k ≢ 0 → answered k (nought (numbers c)) l ≡ outcome g c l
unfolding outcome ruled refused
is_refused g c l zero e n = absurd (n refl)
is_refused g c l (suc k) e n = rw e

pub is_number : (x : Refusal) → number_of x ≢ 0
is_number refusals.Lent e = absurd (omega arith)
is_number refusals.State e = absurd (omega arith)
is_number refusals.Window e = absurd (omega arith)
is_number refusals.Value e = absurd (omega arith)
is_number refusals.Source e = absurd (omega arith)
is_number refusals.Radius e = absurd (omega arith)
is_number refusals.Glyph e = absurd (omega arith)
is_number refusals.Panel e = absurd (omega arith)
is_number refusals.Register e = absurd (omega arith)

pub refused_by : (g : Geometry) (c : Call) (l : Lent) (x : Refusal) → refusal (refusals g c l) ≡ number_of x → answered (number_of x) (nought (numbers c)) l ≡ outcome g c l
refused_by g c l x e = is_refused g c l (number_of x) e (is_number x)

pub is_done : (g : Geometry) (c : Call) (l : Lent) → refusal (refusals g c l) ≡ 0 → done g c l ≡ outcome g c l
unfolding outcome ruled
is_done g c l e = rw e

-- ---- every call but open

-- what the entry tests, of a record that is read and what is lent beside it
abbrev pub entered : List ℕ → Bool → List Test
entered r others = let g = glass_of (length r) in lent_test g r others ∷ state_test g r ∷ []

-- of a record that passes
pub enters : {others : Bool} {r : List ℕ} {u : Unit {0}} → Entered others r (Ok u) → AllPass (entered r others)
enters {others} {r} e = accepted_pass (entered r others) (omega arith, (omega arith, tt)) (sym e.code)

-- what is lent beside the record has its length
pub beside : {others : Bool} {r : List ℕ} {u : Unit {0}} → Entered others r (Ok u) → others ≡ true
beside {others} {r} e = (and-true (eqb (length r) (record_bytes (glass_of (length r)))) others (enters e).0).1

-- and a memory beside it makes what an accepted call is given
pub given : {r : List ℕ} (m : List ℕ) {u : Unit {0}} → Entered (eqb (length m) 65536) r (Ok u) → Given r m
given m e = record { passing = e.passing; memory = eqb-true (length m) 65536 (beside e) }

-- as a memory and an extra list of whole entries do
pub given_list : {r : List ℕ} (m list : List ℕ) {u : Unit {0}} → Entered (eqb (length m) 65536 && eqb (length list % 6) 0) r (Ok u) → Given r m
given_list m list e = record { passing = e.passing; memory = eqb-true (length m) 65536 (and-true (eqb (length m) 65536) (eqb (length list % 6) 0) (beside e)).0 }

-- the entry makes the tests that stand first in a call's list
abbrev pub Reads : Call → Lent → Type 0
Reads c l = let g = glass_of (length l.rec) in entry_tests g (takes c) l ≡ entered l.rec (lengths_fit g (takes c) l)

module _ (c : Call) (l : Lent) (s : Reads c l) where
  abbrev g : Geometry
  g = glass_of (length l.rec)

  abbrev At : Result (Unit {0}) Refusal → Type 0
  At answer = Entered (lengths_fit (glass_of (length l.rec)) (takes c) l) l.rec answer

  -- refused at the entry, by whichever number
  pub stops_first : (k : ℕ) → k ≡ refusal (entered l.rec (lengths_fit g (takes c) l)) → k ≢ 0 → answered k (nought (numbers c)) l ≡ outcome g c l
  unfolding refusals
  stops_first k e n = is_refused g c l k (refusal-first (entry_tests g (takes c) l) (own_tests g c l) k (ap refusal s ∙ sym e) n) n

  refused_first : {x : Refusal} → At (Err x) → answered (number_of x) (nought (numbers c)) l ≡ outcome g c l
  refused_first {x} e = stops_first (number_of x) e.code (is_number x)

  -- what `?` hands on of the entry
  pub stops : {x : Refusal} {A : Type 0} (r : Result A Refusal) → IsErrAnd r (λ y. y ≡ x) → At (Err x) → answered (code_of r) (nought (numbers c)) l ≡ outcome g c l
  stops r h e = let p = err_from_is_err_and r h in rw (p.1, p.2) (refused_first e)

  -- the same with the numbers beside the code
  pub stops_beside : {x : Refusal} {A : Type 0} (f : A → List ℕ) (r : Result A Refusal) → IsErrAnd r (λ y. y ≡ x) → At (Err x)
      → answered (code_of r) (numbers_beside (numbers c) f r) l ≡ outcome g c l
  stops_beside f r h e = let p = err_from_is_err_and r h in rw (p.1, p.2) (refused_first e)

  module _ {u : Unit {0}} (e : At (Ok u)) where
    own : refusal (refusals g c l) ≡ refusal (own_tests g c l)
    unfolding refusals
    own = refusal-append (entry_tests g (takes c) l) (own_tests g c l) (subst AllPass (sym s) (enters e))

    -- refused by a test of its own
    pub stops_later : (k : ℕ) → refusal (own_tests g c l) ≡ k → k ≢ 0 → answered k (nought (numbers c)) l ≡ outcome g c l
    stops_later k t n = is_refused g c l k (own ∙ t) n

    pub refused_later : (x : Refusal) → refusal (own_tests g c l) ≡ number_of x → answered (number_of x) (nought (numbers c)) l ≡ outcome g c l
    refused_later x t = stops_later (number_of x) t (is_number x)

    pub finishes : {o : Outcome} → refusal (own_tests g c l) ≡ 0 → o ≡ done g c l → o ≡ outcome g c l
    finishes t d = d ∙ is_done g c l (own ∙ t)

-- ---- a number against a limit of the glass: its rows, its columns, its panels

module _ {n : ℕ} {v : Glass} (k : Chosen n v) (f : Geometry → ℕ) {limit : ℕ} (e : limit ≡ f (geometry v)) where
  limit_of : limit ≡ f (glass_of n)
  limit_of = e ∙ ap f k.glass

  pub beyond : (i : ℕ) → limit ≤ i → ltb i (f (glass_of n)) ≡ false
  beyond i h = le-ltb i (f (glass_of n)) (rw (← limit_of) h)

  pub below : (i : ℕ) → i < limit → ltb i (f (glass_of n)) ≡ true
  below i h = lt-ltb i (f (glass_of n)) (rw (← limit_of) h)

-- ---- a send: the panel's length is the glass's

module _ {r : List ℕ} (m p : List ℕ) {answer : Result (Unit {0}) Refusal} {v : Glass} (k : Chosen (length r) v) (e : Entered (eqb (length m) 65536 && eqb (length p) v.screen) r answer) where
  pub entered_panel : Entered (eqb (length m) 65536 && eqb (length p) (screen_bytes (glass_of (length r)))) r answer
  entered_panel = rw (k.suits.is_screen ∙ ap screen_bytes k.glass) at e

pub given_panel : {r : List ℕ} (m p : List ℕ) {u : Unit {0}} → Entered (eqb (length m) 65536 && eqb (length p) (screen_bytes (glass_of (length r)))) r (Ok u)
    → Given r m × (length p ≡ screen_bytes (glass_of (length r)))
given_panel {r} m p e =
    let l = and-true (eqb (length m) 65536) (eqb (length p) (screen_bytes (glass_of (length r)))) (beside e) in
    (record { passing = e.passing; memory = eqb-true (length m) 65536 l.0 }, eqb-true (length p) (screen_bytes (glass_of (length r))) l.1)

-- The glass that a record's length tells, and what the entry of a call answers: a refusal, or nothing for a record that passes.
use Rattle.std.specs.Prelude.{◌≡◌, List, [], ◌∷◌, Bool, ℕ, length, Result, OnOk}
use Rattle.model.specs.declared.refusal.Refusal.{Refusal}
use Rattle.model.specs.declared.glass.Glass.{Glass}
use Rattle.model.specs.Glass.{geometry, glass_of, Suits}
use Rattle.model.specs.Refusals.{code_of, refusal}
use Rattle.model.specs.Calls.{lent_test, state_test}
use Rattle.laws.specs.Record.{Passing}

-- the glass of a record of n bytes
pub record Chosen (n : ℕ) (v : Glass) : Type 0 where
  pub suits : Suits v
  pub glass : geometry v ≡ glass_of n

-- `others`: the other lent buffers have their lengths
pub record Entered (others : Bool) (r : List ℕ) (answer : Result (Unit {0}) Refusal) : Type 0 where
  pub code : code_of answer ≡ refusal (lent_test (glass_of (length r)) r others ∷ state_test (glass_of (length r)) r ∷ [])
  pub passing : OnOk answer (Passing (glass_of (length r)) r)

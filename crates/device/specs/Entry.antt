-- What the entry of a device call tells: a refusal, or the registers of a device that passes.
use Rattle.std.specs.Prelude.{◌≡◌, refl, List, [], ◌∷◌, Bool, true, false, ◌&&◌, ℕ, eqb, length, Result, Ok, Err, IfOk}
use Rattle.std.proofs.Common.{sym, ap, ◌∙◌, eqb-true}
use Rattle.model.specs.Geometry.{base, screen_bytes}
use Rattle.model.specs.Refusals.{LENT, STATE, code_of, test, refusal}
use Rattle.model.specs.Controller.{register_bytes, registers_of, registers_fit}
use Rattle.model.specs.declared.Registers.{Registers}
use Rattle.model.specs.declared.refusal.Refusal.{Refusal}
use Rattle.model.specs.declared.refusal.Refusal.TheVariants.{Lent, State}
use Rattle.laws.specs.Tests.{and-true}

abbrev pub lengths : List ℕ → ℕ → Bool
lengths b n = eqb (length b) register_bytes && eqb n (screen_bytes base)

-- the registers r of a device that passes, with its bytes b and a panel of n bytes
pub record DevicePasses (b : List ℕ) (n : ℕ) (r : Registers) : Type 0 where
  pub bytes : length b ≡ register_bytes
  pub panel : n ≡ screen_bytes base
  pub registers : r ≡ registers_of b
  pub fits : registers_fit base (registers_of b) ≡ true

-- a panel of n bytes is lent beside the registers b
pub record DeviceEntered (b : List ℕ) (n : ℕ) (answer : Result Registers Refusal) : Type 0 where
  pub code : code_of answer ≡ refusal (test LENT (lengths b n) ∷ test STATE (registers_fit base (registers_of b)) ∷ [])
  pub passes : IfOk answer (DevicePasses b n)

-- ---- as the code goes

module _ (b : List ℕ) (n : ℕ) where
  pub sized : lengths b n ≡ true → (length b ≡ register_bytes) × (n ≡ screen_bytes base)
  sized l =
      let t = and-true (eqb (length b) register_bytes) (eqb n (screen_bytes base)) l in
      (eqb-true (length b) register_bytes t.0, eqb-true n (screen_bytes base) t.1)

  pub wrong_length : lengths b n ≡ false → DeviceEntered b n (Err Lent)
  unfolding refusal
  wrong_length l = record { code = rw l refl; passes = tt }

  module _ (l : lengths b n ≡ true) {r : Registers} (k : r ≡ registers_of b) {t : Bool} (f : t ≡ registers_fit base r) where
    here : t ≡ registers_fit base (registers_of b)
    here = f ∙ ap (registers_fit base) k

    pub damaged : t ≡ false → DeviceEntered b n (Err State)
    unfolding refusal
    damaged z = record { code = rw (l, sym here ∙ z) refl; passes = tt }

    pub entered : t ≡ true → DeviceEntered b n (Ok r)
    unfolding refusal
    entered z =
        let s = sized l in
        record {
          code = rw (l, sym here ∙ z) refl;
          passes = record { bytes = s.0; panel = s.1; registers = k; fits = sym here ∙ z };
        }

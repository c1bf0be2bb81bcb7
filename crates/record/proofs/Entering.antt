-- The ends of the entry: LENT refused, STATE refused, entered.
use Rattle.std.proofs.Common.{◌≡◌, sym, ap, ◌∙◌, List, Bool, true, false, ◌&&◌, ℕ, ◌<◌, eqb-true, eqb, length, get_or, Ok, Err}
use Rattle.model.specs.declared.glass.Glass.{Glass}
use Rattle.model.specs.Geometry.{Geometry}
use Rattle.model.specs.Glass.{geometry, glass_of}
use Rattle.model.specs.Bytes.{Bytes}
use Rattle.model.specs.Record.{record_bytes, valid}
use Rattle.model.specs.Refusals.{refusal}
use Rattle.model.specs.declared.refusal.Refusal.TheVariants.{Lent, State}
use Rattle.laws.specs.Tests.{and-true}
use Rattle.record.specs.Entry.{Chosen, Entered}

pub lent_sized : {v : Glass} (others : Bool) (r : List ℕ) → Chosen (length r) v → (eqb (length r) v.bytes && others) ≡ true → length r ≡ record_bytes (geometry v)
lent_sized {v} others r k e = eqb-true (length r) v.bytes (and-true (eqb (length r) v.bytes) others e).0 ∙ k.suits.is_bytes

module _ {v : Glass} (others : Bool) (r : List ℕ) (k : Chosen (length r) v) where
  -- LENT as the definitions test it
  pub lent_as : {t : Bool} → (eqb (length r) v.bytes && others) ≡ t → (eqb (length r) (record_bytes (glass_of (length r))) && others) ≡ t
  lent_as e = ap (λ (x : ℕ). eqb (length r) x && others) (sym (k.suits.is_bytes ∙ ap record_bytes k.glass)) ∙ e

  valid_as : {t u : Bool} → t ≡ valid (geometry v) r → t ≡ u → valid (glass_of (length r)) r ≡ u
  valid_as g j = ap (λ (x : Geometry). valid x r) (sym k.glass) ∙ sym g ∙ j

  pub enters : {t : Bool} → ((i : ℕ) → get_or r i 0 < 256) → (eqb (length r) v.bytes && others) ≡ true → t ≡ valid (geometry v) r → t ≡ true → Entered others r (Ok tt)
  unfolding refusal Bytes
  enters b e g j =
      record {
        code = rw (lent_as e, valid_as g j);
        passing = record { glass = rw k.glass at k.suits.glass; sized = lent_sized others r k e ∙ ap record_bytes k.glass; bytes = b; passes = valid_as g j };
      }

  pub breaks_state : {t : Bool} → (eqb (length r) v.bytes && others) ≡ true → t ≡ valid (geometry v) r → t ≡ false → Entered others r (Err State)
  unfolding refusal
  breaks_state s g j = record { code = rw (lent_as s, valid_as g j); passing = tt }

  pub breaks_lent : (eqb (length r) v.bytes && others) ≡ false → Entered others r (Err Lent)
  unfolding refusal
  breaks_lent s = record { code = rw (lent_as s); passing = tt }

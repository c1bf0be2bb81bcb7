-- What a record's length tells: its glass, that it passes for that glass, that its head is there.
use mathlib.Core.Path.{◌≡◌, sym, ap, subst, ◌∙◌}
use mathlib.Core.List.{List}
use Prim.Native.Nat.{ℕ, ◌≤◌}
use lib.ListN.{length}
use Rattle.model.specs.declared.glass.Glass.{Glass}
use Rattle.model.specs.Geometry.{Geometry}
use Rattle.model.specs.Glass.{geometry, glass_of}
use Rattle.model.specs.Record.{head_bytes, record_bytes}
use Rattle.laws.specs.Record.{Passing}
use Rattle.laws.specs.Updates.{head_in}
use Rattle.record.specs.Entry.{Chosen}

-- what is as long has the same glass
pub chosen_as : {v : Glass} {n m : ℕ} → m ≡ n → Chosen n v → Chosen m v
chosen_as e k = rw e k

pub passes_as : {v : Glass} {n : ℕ} (s : List ℕ) → Chosen n v → length s ≡ n → Passing (geometry v) s → Passing (glass_of (length s)) s
passes_as s k e p = subst (λ (g : Geometry). Passing g s) (k.glass ∙ ap glass_of (sym e)) p

-- and its record the same length
pub sized_for : {v : Glass} (r : List ℕ) → Chosen (length r) v → length r ≡ record_bytes (glass_of (length r)) → length r ≡ record_bytes (geometry v)
sized_for r k e = e ∙ sym (ap record_bytes k.glass)

pub passes_for : {v : Glass} {r : List ℕ} → Chosen (length r) v → Passing (glass_of (length r)) r → Passing (geometry v) r
passes_for k p = rw k.glass p

pub head_there : {r : List ℕ} → Passing (glass_of (length r)) r → head_bytes ≤ length r
head_there {r} p = rw p.sized (head_in (glass_of (length r)))

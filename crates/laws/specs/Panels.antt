-- Where the panels' parts stand in a record, for the glass by value.
use Rattle.std.specs.Prelude.{◌≡◌, refl, List, ℕ, zero, suc, ◌+◌, ◌-◌, ◌*◌, ◌<◌, ◌≤◌, length}
use Rattle.std.proofs.Common.{arith}
use Rattle.model.specs.declared.glass.Glass.{Glass}
use Rattle.model.specs.Geometry.{Geometry}
use Rattle.model.specs.Glass.{geometry}
use Rattle.model.specs.Record.{head_bytes, panel, last_parts, offset, at, record_bytes, pending_bytes}
use Rattle.laws.specs.Record.{later, panel_from, has_panel, part-in}

pub is_first_at : (g : Geometry) (k : ℕ) → k ≡ 0 → head_bytes ≡ at g (panel k)
unfolding offset
is_first_at g k e = rw e

pub is_others_at : (v : Glass) (k : ℕ) → k < v.panels → (k ≡ 0 → ⊥) → v.others + (k - 1) * v.pending ≡ at (geometry v) (panel k)
is_others_at v zero h n = absurd (n refl)
is_others_at v (suc k) h n =
    let g = geometry v in
    let z = v.suits in
    cc ((later g k).1, (panel_from g (suc k) 1 (g.panels - 1) last_parts (omega arith) (omega arith)).1)

-- a panel's part ends within the record, which is short
pub panel_room : (v : Glass) (k : ℕ) → k < v.panels → at (geometry v) (panel k) + pending_bytes (geometry v) ≤ record_bytes (geometry v)
panel_room v k h = part-in (geometry v) (panel k) (has_panel (geometry v) k h)

pub others_room : (v : Glass) (k : ℕ) → k < v.panels → (k ≡ 0 → ⊥) → v.others + (k - 1) * v.pending ≤ 65535
others_room v k h n =
    let r = panel_room v k h in
    let e = is_others_at v k h n in
    let z = v.suits in omega arith

-- what a loop over the bands of a panel asks
pub bands_room : (v : Glass) (r : List ℕ) {k a : ℕ} → length r ≡ record_bytes (geometry v) → k < v.panels → a ≡ at (geometry v) (panel k)
    → (a + 8 * v.bands ≤ length r) × (v.bands * v.band ≤ 65535)
bands_room v r {k} n h e =
    let p = panel_room v k h in
    let z = v.suits in (omega arith, omega arith)

-- and what follows the bands
pub hand_room : (v : Glass) (r : List ℕ) {k a : ℕ} → length r ≡ record_bytes (geometry v) → k < v.panels → a ≡ at (geometry v) (panel k)
    → a + 8 * v.bands + 12 ≤ length r
hand_room v r {k} n h e = let p = panel_room v k h in omega arith

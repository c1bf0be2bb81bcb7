-- What a write asks, and what it leaves.
use Rattle.std.specs.Prelude.{◌≡◌, refl, List, Bool, true, false, ◌||◌, ℕ, ◌+◌, ◌-◌, ◌<◌, length, set, Option, Some}
use Rattle.std.proofs.Common.{ap, ◌∙◌, arith, eq-eqb, ne_eqb}
use Rattle.std.proofs.Math.Arith.{digits_lt}
use Rattle.model.specs.declared.Registers.{Registers}
use Rattle.model.specs.declared.Register.{Register}
use Rattle.model.specs.declared.Register.TheVariants.{Command, Data}
use Rattle.model.specs.Geometry.{Geometry, screen_bytes}
use Rattle.model.specs.Memory.{zeros}
use Rattle.model.specs.Controller.{registers, interrupt, enabled, status_of, data_place, registers_fit, takes_write, registers_after, panel_after}
use Rattle.device.specs.Registers.{LineIn, passes}

-- registers that pass STATE take the write, beside a panel of its length
pub record Ready (g : Geometry) (r : Registers) (n : Option Register) (v : ℕ) (p : List ℕ) : Type 0 where
  pub passes : registers_fit g r ≡ true
  pub taken : takes_write g r n v ≡ true
  pub panel : length p ≡ screen_bytes g

pub record Written (g : Geometry) (r : Registers) (n : Option Register) (v : ℕ) (p : List ℕ) (s : Registers) (q : List ℕ) : Type 0 where
  pub registers : s ≡ registers_after r n v
  pub panel : q ≡ panel_after g r n v p

-- ---- as the code goes

module _ (g : Geometry) (r : Registers) (v : ℕ) (p : List ℕ) where
  pub clears : {q : List ℕ} → v ≡ 1 → length p ≡ screen_bytes g → q ≡ zeros (length p) → Written g r (Some Command) v p (registers v r.line r.first r.count r.byte r.status r.enable r.reset) q
  unfolding registers_after panel_after
  clears e l z = record { registers = rw e refl; panel = rw e (z ∙ ap zeros l) }

  pub starts : {i : Bool} {s : ℕ} → (v ≡ 1 → ⊥) → v ≡ 2 → i ≡ interrupt r → s ≡ status_of true i → Written g r (Some Command) v p (registers v r.line r.first r.count r.byte s r.enable r.reset) p
  unfolding registers_after panel_after
  starts n e h f = record { registers = rw (e, f, h) refl; panel = rw (ne_eqb v 1 n) refl }

  pub nothing : (v ≡ 1 → ⊥) → (v ≡ 2 → ⊥) → Written g r (Some Command) v p (registers v r.line r.first r.count r.byte r.status r.enable r.reset) p
  unfolding registers_after panel_after
  nothing n m = record { registers = rw (ne_eqb v 2 m) refl; panel = rw (ne_eqb v 1 n) refl }

  -- a data byte has its place on the panel
  pub in_panel : Ready g r (Some Data) v p → LineIn g r.line r.first r.count × (data_place g r < length p)
  unfolding takes_write
  in_panel d =
      let l = (passes g r d.passes).line d.taken in
      (l, rw d.panel (let f : r.first < g.stride = omega arith in omega (arith, digits_lt l.on f)))

  -- the last one, or one before it
  pub ends : {i : Bool} {s : ℕ} → r.count - 1 ≡ 0 → i ≡ interrupt r → s ≡ status_of false (i || enabled r)
      → Written g r (Some Data) v p (registers r.command r.line (r.first + 1) (r.count - 1) v s r.enable r.reset) (set p (data_place g r) v)
  unfolding registers_after panel_after
  ends e h f = record { registers = rw (eq-eqb (r.count - 1) 0 e, f, h) refl; panel = refl }

  pub goes_on : (r.count - 1 ≡ 0 → ⊥) → Written g r (Some Data) v p (registers r.command r.line (r.first + 1) (r.count - 1) v r.status r.enable r.reset) (set p (data_place g r) v)
  unfolding registers_after panel_after
  goes_on n = record { registers = rw (ne_eqb (r.count - 1) 0 n) refl; panel = refl }

-- the writes that store their byte in a register and no more, reset, and those that there are not
pub written : (g : Geometry) (r : Registers) (n : Option Register) (v : ℕ) (p : List ℕ) {m : Option Register} {s : Registers} {q : List ℕ} → n ≡ m → s ≡ registers_after r m v → q ≡ panel_after g r m v p → Written g r n v p s q
written g r n v p e f h = rw e (record { registers = f; panel = h })

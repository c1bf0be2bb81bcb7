-- What registers that pass STATE are, and that an accepted write or read leaves registers that pass.
use Rattle.std.specs.Prelude.{◌≡◌, refl, List, [], ◌∷◌, Bool, true, false, not, ◌&&◌, ◌||◌, ℕ, ◌+◌, ◌-◌, ◌/◌, ◌%◌, ◌≤◌, ◌<◌, leb, eqb, length, Option, Some, None}
use Rattle.std.proofs.Common.{sym, ◌∙◌, arith, lt-ltb, le-leb, leb-true, eq-eqb, ne_eqb, eqb-true}
use Rattle.std.proofs.lemmas.Bool.{not-true}
use Rattle.model.specs.declared.Registers.{Registers}
use Rattle.model.specs.declared.Register.{Register}
use Rattle.model.specs.declared.Register.TheVariants.{Command, Line, First, Count, Data, Status, Enable, Reset}
use Rattle.model.specs.Geometry.{Geometry, height}
use Rattle.model.specs.Controller.{register_bytes, registers_of, bytes_of_registers, busy, interrupt, enabled, status_of, line_tests, line_fits, register_tests, registers_fit, takes_write, registers_after, registers_read}
use Rattle.laws.specs.Tests.{if_cases, by_test, by_eq, either, clash, tests, all_true, true_all, and-true, or_cases, or_left, or_right}

-- a line of the panel, and bytes of it: what command 2 takes
pub record LineIn (g : Geometry) (line first count : ℕ) : Type 0 where
  pub on : line < height g
  pub within : first + count ≤ g.stride
  pub some : 1 ≤ count

pub line_in : (g : Geometry) (r : Registers) → line_fits g r ≡ true → LineIn g r.line r.first r.count
unfolding line_fits
line_in g r e = let t = all_true (line_tests g r) e in search (arith, tests)

pub line-fits : (g : Geometry) (r : Registers) → LineIn g r.line r.first r.count → line_fits g r ≡ true
unfolding line_fits
line-fits g r l = true_all (line_tests g r) (lt-ltb _ _ l.on, (le-leb _ _ l.within, (le-leb _ _ l.some, tt)))

-- registers that pass
pub record Passes (g : Geometry) (r : Registers) : Type 0 where
  pub command : r.command ≤ 2
  pub status : r.status ≤ 3
  pub enable : r.enable ≤ 1
  pub reset : r.reset ≡ 0
  pub line : busy r ≡ true → LineIn g r.line r.first r.count

pub passes : (g : Geometry) (r : Registers) → registers_fit g r ≡ true → Passes g r
unfolding registers_fit
passes g r e =
    let t = all_true (register_tests g r) e in
    record {
      command = omega (arith, tests);
      status = omega (arith, tests);
      enable = omega (arith, tests);
      reset = omega (arith, tests);
      line = λ b. either (or_cases (not (busy r)) (line_fits g r) t.1.1.1.1.0) (λ n. clash (busy r) b (not-true (busy r) n)) (line_in g r);
    }

pub fits : (g : Geometry) (r : Registers) → Passes g r → registers_fit g r ≡ true
unfolding registers_fit
fits g r p =
    true_all (register_tests g r) (
      le-leb _ _ p.command,
      (
        le-leb _ _ p.status,
        (
          le-leb _ _ p.enable,
          (
            eq-eqb _ _ p.reset,
            (by_test (busy r) (λ b. or_right (not (busy r)) (line-fits g r (p.line b))) (λ b. or_left (line_fits g r) (λ i. not (b i))), tt),
          ),
        ),
      ),
    )

-- ---- bits of status

pub status_busy : (b i : Bool) → eqb (status_of b i % 2) 1 ≡ b
status_busy true true = refl
status_busy true false = refl
status_busy false true = refl
status_busy false false = refl

pub status_interrupt : (b i : Bool) → eqb (status_of b i / 2 % 2) 1 ≡ i
status_interrupt true true = refl
status_interrupt true false = refl
status_interrupt false true = refl
status_interrupt false false = refl

status_small : (b i : Bool) → status_of b i ≤ 3
status_small true true = omega arith
status_small true false = omega arith
status_small false true = omega arith
status_small false false = omega arith

-- ---- what is left passes

-- an accepted command
command_passes : (g : Geometry) (r : Registers) (v : ℕ) → Passes g r → takes_write g r (Some Command) v ≡ true → Passes g (registers_after r (Some Command) v)
unfolding takes_write registers_after
command_passes g r v p t =
    let k = and-true (not (busy r)) (leb v 1 || (eqb v 2 && line_fits g r)) t in
    let idle : busy r ≡ false = not-true (busy r) k.0 in
    by_eq v 2
    (λ e. rw e (record {
      command = omega arith;
      status = status_small true (interrupt r);
      enable = p.enable;
      reset = p.reset;
      line = λ b. either (or_cases (leb v 1) (eqb v 2 && line_fits g r) k.1) (λ s. absurd (omega (arith, tests)))
          (λ s. line_in g r (and-true (eqb v 2) (line_fits g r) s).1);
    }))
    (λ n. rw (ne_eqb v 2 n) (record {
      command = either (or_cases (leb v 1) (eqb v 2 && line_fits g r) k.1) (λ s. omega (arith, tests)) (λ s. absurd (n (eqb-true v 2 (and-true (eqb v 2) (line_fits g r) s).0)));
      status = p.status;
      enable = p.enable;
      reset = p.reset;
      line = λ b. clash (busy r) b idle;
    }))

-- a data byte
data_passes : (g : Geometry) (r : Registers) (v : ℕ) → Passes g r → busy r ≡ true → Passes g (registers_after r (Some Data) v)
unfolding registers_after
data_passes g r v p t =
    let l = p.line t in
    by_eq (r.count - 1) 0
    (λ e. rw (eq-eqb (r.count - 1) 0 e) (record {
      command = p.command;
      status = status_small false (interrupt r || enabled r);
      enable = p.enable;
      reset = p.reset;
      line = λ b. clash false (sym (status_busy false (interrupt r || enabled r)) ∙ b) refl;
    }))
    (λ n. rw (ne_eqb (r.count - 1) 0 n) (record {
      command = p.command;
      status = p.status;
      enable = p.enable;
      reset = p.reset;
      line = λ b. record { on = l.on; within = omega arith; some = omega arith };
    }))

-- a write of the host
pub write_passes : (g : Geometry) (r : Registers) (n : Option Register) (v : ℕ) → Passes g r → takes_write g r n v ≡ true → Passes g (registers_after r n v)
unfolding takes_write registers_after
write_passes g r (Some Command) v p t = command_passes g r v p t
write_passes g r (Some Line) v p t = let i = not-true (busy r) t in record { command = p.command; status = p.status; enable = p.enable; reset = p.reset; line = λ b. clash (busy r) b i }
write_passes g r (Some First) v p t = let i = not-true (busy r) t in record { command = p.command; status = p.status; enable = p.enable; reset = p.reset; line = λ b. clash (busy r) b i }
write_passes g r (Some Count) v p t = let i = not-true (busy r) t in record { command = p.command; status = p.status; enable = p.enable; reset = p.reset; line = λ b. clash (busy r) b i }
write_passes g r (Some Data) v p t = data_passes g r v p t
write_passes g r (Some Status) v p t = p
write_passes g r (Some Enable) v p t = record { command = p.command; status = p.status; enable = leb-true v 1 t; reset = p.reset; line = p.line }
write_passes g r (Some Reset) v p t = record { command = omega arith; status = omega arith; enable = omega arith; reset = refl; line = λ b. clash false b refl }
write_passes g r None v p t = p

-- and a read
pub read_passes : (g : Geometry) (r : Registers) (n : ℕ) → Passes g r → Passes g (registers_read r n)
unfolding registers_read
read_passes g r n p =
    if_cases (Passes g) (eqb n 5)
    (λ e. record {
      command = p.command;
      status = status_small (busy r) false;
      enable = p.enable;
      reset = p.reset;
      line = λ b. p.line (sym (status_busy (busy r) false) ∙ b);
    })
    (λ e. p)

-- ---- bytes and fields

pub bytes_back : (b : List ℕ) → length b ≡ register_bytes → bytes_of_registers (registers_of b) ≡ b
bytes_back [] z = absurd (omega arith)
bytes_back (a ∷ []) z = absurd (omega arith)
bytes_back (a ∷ b ∷ []) z = absurd (omega arith)
bytes_back (a ∷ b ∷ c ∷ []) z = absurd (omega arith)
bytes_back (a ∷ b ∷ c ∷ d ∷ []) z = absurd (omega arith)
bytes_back (a ∷ b ∷ c ∷ d ∷ e ∷ []) z = absurd (omega arith)
bytes_back (a ∷ b ∷ c ∷ d ∷ e ∷ f ∷ []) z = absurd (omega arith)
bytes_back (a ∷ b ∷ c ∷ d ∷ e ∷ f ∷ g ∷ []) z = absurd (omega arith)
bytes_back (a ∷ b ∷ c ∷ d ∷ e ∷ f ∷ g ∷ h ∷ []) z = refl
bytes_back (a ∷ b ∷ c ∷ d ∷ e ∷ f ∷ g ∷ h ∷ i ∷ l) z = absurd (omega arith)

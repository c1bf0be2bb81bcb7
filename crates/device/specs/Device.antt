-- Lists of device calls: the registers pass STATE after every list, a line of n bytes is done after n data writes, and a write to register 7 clears the registers and
-- leaves the panel.
use Rattle.std.specs.Prelude.{◌≡◌, refl, true, false, cond, List, [], ◌∷◌, ℕ, eqb, length, Option, Some, None}
use Rattle.std.proofs.Common.{sym, ◌∙◌, length-set, eq-eqb}
use Rattle.model.specs.declared.Registers.{Registers}
use Rattle.model.specs.declared.Register.{Register}
use Rattle.model.specs.declared.Register.TheVariants.{Command, Line, First, Count, Data, Status, Enable, Reset}
use Rattle.model.specs.Geometry.{Geometry, screen_bytes}
use Rattle.model.specs.Refusals.{refusal, ruled}
use Rattle.model.specs.Controller.{register_bytes, register_of, registers_of, bytes_of_registers, registers_fit, takes_write, registers_after, panel_after, registers_read, DeviceCall, write, read, Device, device, Answer, answer, takes_call, device_refusals, device_numbers, device_done, device_outcome, run_device}
use Rattle.laws.specs.Tests.{if_cases, by_test}
use Rattle.laws.specs.Loops.{length-zeros}
use Rattle.device.specs.Writing.{Ready, Written}
use Rattle.device.specs.Registers.{Passes, passes, fits, write_passes, read_passes}

-- ---- a device that passes LENT and STATE

pub record Sound (g : Geometry) (d : Device) : Type 0 where
  pub registers : length d.registers ≡ register_bytes
  pub panel : length d.panel ≡ screen_bytes g
  pub passes : registers_fit g (registers_of d.registers) ≡ true

abbrev pub fields_of : Device → Registers
fields_of d = registers_of d.registers

-- then the last test decides
module _ (g : Geometry) (c : DeviceCall) (d : Device) where
  pub last_decides : Sound g d → refusal (device_refusals g c d) ≡ cond (takes_call g (fields_of d) c) 0 10
  unfolding device_refusals refusal
  last_decides s = rw (eq-eqb (length d.registers) register_bytes s.registers, eq-eqb (length d.panel) (screen_bytes g) s.panel, s.passes) refl

  pub taken : Sound g d → takes_call g (fields_of d) c ≡ true → device_outcome g c d ≡ device_done g c d
  unfolding device_outcome ruled
  taken s t = let e : refusal (device_refusals g c d) ≡ 0 = last_decides s ∙ rw t refl in rw e refl

  pub not_taken : Sound g d → takes_call g (fields_of d) c ≡ false → device_outcome g c d ≡ answer 10 (device_numbers c) d
  unfolding device_outcome ruled
  not_taken s t = let e : refusal (device_refusals g c d) ≡ 10 = last_decides s ∙ rw t refl in rw e refl

-- what a call that is taken leaves
abbrev pub registers_left : DeviceCall → Registers → Registers
registers_left (write n v) r = registers_after r (register_of n) v
registers_left (read n) r = registers_read r n

abbrev pub panel_left : Geometry → DeviceCall → Registers → List ℕ → List ℕ
panel_left g (write n v) r p = panel_after g r (register_of n) v p
panel_left g (read n) r p = p

done-left : (g : Geometry) (c : DeviceCall) (d : Device) → (device_done g c d).left ≡ device (bytes_of_registers (registers_left c (fields_of d))) (panel_left g c (fields_of d) d.panel)
unfolding device_done answer
done-left g (write n v) d = refl
done-left g (read n) d = refl

left_passes : (g : Geometry) (c : DeviceCall) (r : Registers) → Passes g r → takes_call g r c ≡ true → Passes g (registers_left c r)
left_passes g (write n v) r p t = write_passes g r (register_of n) v p t
left_passes g (read n) r p t = read_passes g r n p

panel_long : (g : Geometry) (r : Registers) (n : Option Register) (v : ℕ) (p : List ℕ) → length p ≡ screen_bytes g → length (panel_after g r n v p) ≡ screen_bytes g
unfolding panel_after
panel_long g r (Some Command) v p l = if_cases (λ (q : List ℕ). length q ≡ screen_bytes g) (eqb v 1) (λ e. length-zeros (screen_bytes g)) (λ e. l)
panel_long g r (Some Line) v p l = l
panel_long g r (Some First) v p l = l
panel_long g r (Some Count) v p l = l
panel_long g r (Some Data) v p l = length-set p _ v ∙ l
panel_long g r (Some Status) v p l = l
panel_long g r (Some Enable) v p l = l
panel_long g r (Some Reset) v p l = l
panel_long g r None v p l = l

left_long : (g : Geometry) (c : DeviceCall) (r : Registers) (p : List ℕ) → length p ≡ screen_bytes g → length (panel_left g c r p) ≡ screen_bytes g
left_long g (write n v) r p l = panel_long g r (register_of n) v p l
left_long g (read n) r p l = l

-- ---- after every list of calls, accepted or refused, the device passes

pub sound_done : (g : Geometry) (c : DeviceCall) (d : Device) → Sound g d → takes_call g (fields_of d) c ≡ true → Sound g (device_done g c d).left
sound_done g c d s t =
    rw (done-left g c d) (record {
      registers = refl;
      panel = left_long g c (fields_of d) d.panel s.panel;
      passes = fits g _ (left_passes g c (fields_of d) (passes g (fields_of d) s.passes) t);
    })

pub sound_call : (g : Geometry) (c : DeviceCall) (d : Device) → Sound g d → Sound g (device_outcome g c d).left
unfolding answer
sound_call g c d s =
    by_test (takes_call g (fields_of d) c) (λ t. rw (taken g c d s t) (sound_done g c d s t)) (λ t. rw (not_taken g c d s t) s)

pub sound_run : (g : Geometry) (cs : List DeviceCall) (d : Device) → Sound g d → Sound g (run_device g cs d)
unfolding run_device
sound_run g [] d s = s
sound_run g (c ∷ cs) d s = sound_run g cs (device_outcome g c d).left (sound_call g c d s)

-- ---- reset

pub record Cleared (g : Geometry) (d : Device) (o : Answer Device) : Type 0 where
  pub code : o.code ≡ 0
  pub registers : o.left.registers ≡ 0 ∷ 0 ∷ 0 ∷ 0 ∷ 0 ∷ 0 ∷ 0 ∷ 0 ∷ []
  pub panel : o.left.panel ≡ d.panel

-- a write of any value to register 7, busy or not
pub reset_clears : (g : Geometry) (v : ℕ) (d : Device) → Sound g d → Cleared g d (device_outcome g (write 7 v) d)
unfolding device_done answer takes_write registers_after panel_after
reset_clears g v d s = rw (taken g (write 7 v) d s refl) (record { code = refl; registers = refl; panel = refl })

-- ---- a write by the device's function is the call

pub write_outcome : (g : Geometry) (k v : ℕ) {r s : Registers} {p q : List ℕ} → Ready g r (register_of k) v p → Written g r (register_of k) v p s q
    → device_outcome g (write k v) (device (bytes_of_registers r) p) ≡ answer 0 [] (device (bytes_of_registers s) q)
unfolding device_done
write_outcome g k v {r} {p = p} t w =
    let d = device (bytes_of_registers r) p in
    let s : Sound g d = record { registers = refl; panel = t.panel; passes = t.passes } in
    taken g (write k v) d s t.taken ∙ (λ i. answer 0 [] (device (bytes_of_registers (sym w.registers i)) (sym w.panel i)))

-- The glass controller: a device of eight byte registers and a panel. What STATE asks of the registers, and what a write and a read do.
use Rattle.std.specs.Prelude.{Bool, true, false, cond, not, ◌&&◌, ◌||◌, List, [], ◌∷◌, ℕ, zero, suc, ◌+◌, ◌-◌, ◌*◌, ◌/◌, ◌%◌, leb, ltb, eqb, length, get_or, set, Option, Some, None}
use Rattle.model.specs.declared.Registers.{Registers}
use Rattle.model.specs.declared.Register.{Register}
use Rattle.model.specs.declared.Register.TheVariants.{Command, Line, First, Count, Data, Status, Enable, Reset}
use Rattle.model.specs.Geometry.{Geometry, height, screen_bytes}
use Rattle.model.specs.Memory.{zeros}
use Rattle.model.specs.Rects.{every}
use Rattle.model.specs.Refusals.{LENT, STATE, REGISTER, Test, test, refusal, ruled}

-- ---- the registers

-- a number above 7 names none
abbrev pub register_of : ℕ → Option Register
register_of zero = Some Command
register_of (suc zero) = Some Line
register_of (suc (suc zero)) = Some First
register_of (suc (suc (suc zero))) = Some Count
register_of (suc (suc (suc (suc zero)))) = Some Data
register_of (suc (suc (suc (suc (suc zero))))) = Some Status
register_of (suc (suc (suc (suc (suc (suc zero)))))) = Some Enable
register_of (suc (suc (suc (suc (suc (suc (suc zero))))))) = Some Reset
register_of (suc (suc (suc (suc (suc (suc (suc (suc n)))))))) = None

abbrev pub register_bytes : ℕ
register_bytes = 8

-- command, line, first byte, byte count, data, status, interrupt enable, reset
abbrev pub registers : ℕ → ℕ → ℕ → ℕ → ℕ → ℕ → ℕ → ℕ → Registers
registers c l f n d s e z = record { command = c; line = l; first = f; count = n; byte = d; status = s; enable = e; reset = z }

abbrev pub registers_of : List ℕ → Registers
registers_of b = registers (get_or b 0 0) (get_or b 1 0) (get_or b 2 0) (get_or b 3 0) (get_or b 4 0) (get_or b 5 0) (get_or b 6 0) (get_or b 7 0)

abbrev pub bytes_of_registers : Registers → List ℕ
bytes_of_registers r = r.command ∷ r.line ∷ r.first ∷ r.count ∷ r.byte ∷ r.status ∷ r.enable ∷ r.reset ∷ []

-- status: bit 0 is busy, bit 1 the interrupt
abbrev pub busy : Registers → Bool
busy r = eqb (r.status % 2) 1

abbrev pub interrupt : Registers → Bool
interrupt r = eqb (r.status / 2 % 2) 1

abbrev pub status_of : Bool → Bool → ℕ
status_of b i = cond b 1 0 + 2 * cond i 1 0

abbrev pub enabled : Registers → Bool
enabled r = eqb r.enable 1

-- ---- STATE

-- what command 2 needs: a line on the panel, and first byte plus count within it, with count at least 1
abbrev pub line_tests : Geometry → Registers → List Bool
line_tests g r = ltb r.line (height g) ∷ leb (r.first + r.count) g.stride ∷ leb 1 r.count ∷ []

unfoldable pub line_fits : Geometry → Registers → Bool
line_fits g r = every (line_tests g r)

abbrev pub register_tests : Geometry → Registers → List Bool
register_tests g r = leb r.command 2 ∷ leb r.status 3 ∷ leb r.enable 1 ∷ eqb r.reset 0 ∷ (not (busy r) || line_fits g r) ∷ []

unfoldable pub registers_fit : Geometry → Registers → Bool
registers_fit g r = every (register_tests g r)

-- ---- a write of v: which the device takes, and what it leaves

-- command, line, first byte and count only while not busy, data only while busy; status never
unfoldable pub takes_write : Geometry → Registers → Option Register → ℕ → Bool
takes_write g r (Some Command) v = not (busy r) && (leb v 1 || (eqb v 2 && line_fits g r))
takes_write g r (Some Line) v = not (busy r)
takes_write g r (Some First) v = not (busy r)
takes_write g r (Some Count) v = not (busy r)
takes_write g r (Some Data) v = busy r
takes_write g r (Some Status) v = false
takes_write g r (Some Enable) v = leb v 1
takes_write g r (Some Reset) v = true
takes_write g r None v = false

-- command 2 sets busy
abbrev pub command_status : Registers → ℕ → ℕ
command_status r v = cond (eqb v 2) (status_of true (interrupt r)) r.status

-- where the count reaches 0, busy clears, and the interrupt bit rises if enabled
abbrev pub data_status : Registers → ℕ
data_status r = cond (eqb (r.count - 1) 0) (status_of false (interrupt r || enabled r)) r.status

-- the byte stays in its register; data raises the first byte and lowers the count; reset clears all
unfoldable pub registers_after : Registers → Option Register → ℕ → Registers
registers_after r (Some Command) v = registers v r.line r.first r.count r.byte (command_status r v) r.enable r.reset
registers_after r (Some Line) v = registers r.command v r.first r.count r.byte r.status r.enable r.reset
registers_after r (Some First) v = registers r.command r.line v r.count r.byte r.status r.enable r.reset
registers_after r (Some Count) v = registers r.command r.line r.first v r.byte r.status r.enable r.reset
registers_after r (Some Data) v = registers r.command r.line (r.first + 1) (r.count - 1) v (data_status r) r.enable r.reset
registers_after r (Some Status) v = r
registers_after r (Some Enable) v = registers r.command r.line r.first r.count r.byte r.status v r.reset
registers_after r (Some Reset) v = registers 0 0 0 0 0 0 0 0
registers_after r None v = r

-- the panel byte that data goes to
abbrev pub data_place : Geometry → Registers → ℕ
data_place g r = g.stride * r.line + r.first

-- command 1 clears the panel, data stores one byte
unfoldable pub panel_after : Geometry → Registers → Option Register → ℕ → List ℕ → List ℕ
panel_after g r (Some Command) v p = cond (eqb v 1) (zeros (screen_bytes g)) p
panel_after g r (Some Line) v p = p
panel_after g r (Some First) v p = p
panel_after g r (Some Count) v p = p
panel_after g r (Some Data) v p = set p (data_place g r) v
panel_after g r (Some Status) v p = p
panel_after g r (Some Enable) v p = p
panel_after g r (Some Reset) v p = p
panel_after g r None v p = p

-- ---- a read of register n: it reads as it stands; status, which is 5, then has its interrupt bit cleared

unfoldable pub registers_read : Registers → ℕ → Registers
registers_read r n =
    cond (eqb n 5) (registers r.command r.line r.first r.count r.byte (status_of (busy r) false) r.enable r.reset) r

-- ---- the calls

pub data DeviceCall : Type 0 where
  -- register, value
  write : ℕ → ℕ → DeviceCall
  -- register
  read : ℕ → DeviceCall

-- the bytes that a device call is lent
pub record Device : Type 0 where
  pub registers : List ℕ
  pub panel : List ℕ

abbrev pub device : List ℕ → List ℕ → Device
device b p = record { registers = b; panel = p }

-- what a call that is lent such bytes answers, its code and its other numbers, and what it leaves
pub record Answer (A : Type 0) : Type 0 where
  pub code : ℕ
  pub numbers : List ℕ
  pub left : A

unfoldable pub answer : {A : Type 0} → ℕ → List ℕ → A → Answer A
answer k ns l = record { code = k; numbers = ns; left = l }

abbrev pub takes_call : Geometry → Registers → DeviceCall → Bool
takes_call g r (write n v) = takes_write g r (register_of n) v
takes_call g r (read n) = ltb n register_bytes

abbrev pub device_fits : Geometry → Device → Bool
device_fits g d = eqb (length d.registers) register_bytes && eqb (length d.panel) (screen_bytes g)

unfoldable pub device_refusals : Geometry → DeviceCall → Device → List Test
device_refusals g c d =
    let r = registers_of d.registers in
    test LENT (device_fits g d) ∷ test STATE (registers_fit g r) ∷ test REGISTER (takes_call g r c) ∷ []

-- how many numbers stand beside the code
abbrev pub device_numbers : DeviceCall → List ℕ
device_numbers (write n v) = []
device_numbers (read n) = 0 ∷ []

unfoldable pub device_done : Geometry → DeviceCall → Device → Answer Device
device_done g (write n v) d =
    let r = registers_of d.registers in
    answer 0 [] (device (bytes_of_registers (registers_after r (register_of n) v)) (panel_after g r (register_of n) v d.panel))
device_done g (read n) d =
    answer 0 (get_or d.registers n 0 ∷ []) (device (bytes_of_registers (registers_read (registers_of d.registers) n)) d.panel)

-- on every input: a refusal leaves all bytes, and its other numbers are 0
unfoldable pub device_outcome : Geometry → DeviceCall → Device → Answer Device
device_outcome g c d = ruled (refusal (device_refusals g c d)) (λ k. answer k (device_numbers c) d) (device_done g c d)

-- what a list of device calls leaves
unfoldable pub run_device : Geometry → List DeviceCall → Device → Device
run_device g [] d = d
run_device g (c ∷ cs) d = run_device g cs (device_outcome g c d).left

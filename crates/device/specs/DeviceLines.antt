-- A line that command 2 starts: it is done after as many data writes as it has bytes, whatever other calls stand between them, and not before. And what a row of data
-- writes leaves.
use Rattle.std.specs.Prelude.{◌≡◌, ◌≢◌, refl, true, false, cond, not, ◌||◌, List, [], ◌∷◌, ℕ, zero, suc, ◌+◌, ◌-◌, ◌<◌, leb, ltb, eqb, Some}
use Rattle.std.proofs.Common.{◌∙◌, arith, eq-eqb, ne_eqb}
use Rattle.model.specs.declared.Register.TheVariants.{Command}
use Rattle.model.specs.Geometry.{Geometry}
use Rattle.model.specs.Controller.{busy, interrupt, enabled, takes_write, registers_after, panel_after, registers_read, DeviceCall, write, read, Device, takes_call, device_done, answer, device_outcome, run_device}
use Rattle.laws.specs.Tests.{by_test}
use Rattle.device.specs.Registers.{status_busy, status_interrupt}
use Rattle.device.specs.Device.{Sound, fields_of, taken, not_taken, sound_call}

-- a data write, and how many stand in a list
abbrev pub data_write : DeviceCall → ℕ
data_write (write n v) = cond (eqb n 4) 1 0
data_write (read n) = 0

unfoldable pub data_writes : List DeviceCall → ℕ
data_writes [] = 0
data_writes (c ∷ cs) = data_write c + data_writes cs

-- no write to register 7
abbrev pub KeepsLine : DeviceCall → Type 0
KeepsLine (write n v) = n ≢ 7
KeepsLine (read n) = Unit {0}

abbrev pub AllKeep : List DeviceCall → Type 0
AllKeep [] = Unit {0}
AllKeep (c ∷ cs) = KeepsLine c × AllKeep cs

-- m bytes of a line of n have gone out, which begins at byte f of line l
pub record InLine (g : Geometry) (l f n m : ℕ) (d : Device) : Type 0 where
  pub sound : Sound g d
  pub busy : busy (fields_of d) ≡ true
  pub line : (fields_of d).line ≡ l
  pub first : (fields_of d).first ≡ f + m
  pub count : (fields_of d).count + m ≡ n

-- command 2 starts it
pub starts : (g : Geometry) (d : Device) → Sound g d → takes_write g (fields_of d) (Some Command) 2 ≡ true
    → InLine g (fields_of d).line (fields_of d).first (fields_of d).count 0 (device_outcome g (write 0 2) d).left
unfolding device_done answer registers_after panel_after
starts g d s t =
    let next = sound_call g (write 0 2) d s in
    rw (taken g (write 0 2) d s t) (record {
      sound = rw (taken g (write 0 2) d s t) at next;
      busy = status_busy true (interrupt (fields_of d));
      line = refl;
      first = omega arith;
      count = omega arith;
    })

module _ (g : Geometry) {l f n m : ℕ} (d : Device) (i : InLine g l f n m d) where
  -- a call that is refused, or changes none of these fields
  unmoved : (c : DeviceCall) → takes_call g (fields_of d) c ≡ false → InLine g l f n (m + 0) (device_outcome g c d).left
  unfolding answer
  unmoved c t = rw (not_taken g c d i.sound t) (record { sound = i.sound; busy = i.busy; line = i.line; first = omega (arith, i.first); count = omega (arith, i.count) })

  -- a data write before the last
  pub data_goes : (v : ℕ) → m + 1 < n → InLine g l f n (m + 1) (device_outcome g (write 4 v) d).left
  unfolding device_done answer takes_write registers_after panel_after
  data_goes v h =
      let next = sound_call g (write 4 v) d i.sound in
      let o = taken g (write 4 v) d i.sound i.busy in
      let more : (fields_of d).count - 1 ≢ 0 = λ e. omega (arith, i.count) in
      rw o (record {
        sound = rw o at next;
        busy = rw (ne_eqb ((fields_of d).count - 1) 0 more) i.busy;
        line = i.line;
        first = omega (arith, i.first);
        count = omega (arith, i.count);
      })

  -- the enable bit may change
  enable_call : (v : ℕ) → InLine g l f n (m + 0) (device_outcome g (write 6 v) d).left
  unfolding device_done answer takes_write registers_after panel_after
  enable_call v =
      let next = sound_call g (write 6 v) d i.sound in
      by_test (leb v 1)
      (λ t. let o = taken g (write 6 v) d i.sound t in rw o (record { sound = rw o at next; busy = i.busy; line = i.line; first = omega (arith, i.first); count = omega (arith, i.count) }))
      (λ t. unmoved (write 6 v) t)

  -- and so may the interrupt bit
  read_call : (j : ℕ) → InLine g l f n (m + 0) (device_outcome g (read j) d).left
  unfolding device_done answer registers_read
  read_call j =
      let next = sound_call g (read j) d i.sound in
      by_test (ltb j 8)
      (λ t. let o = taken g (read j) d i.sound t in
      by_test (eqb j 5)
      (λ e. rw (o, e) (record { sound = rw (o, e) at next; busy = status_busy (busy (fields_of d)) false ∙ i.busy; line = i.line; first = omega (arith, i.first); count = omega (arith, i.count) }))
      (λ e. rw (o, e) (record { sound = rw (o, e) at next; busy = i.busy; line = i.line; first = omega (arith, i.first); count = omega (arith, i.count) })))
      (λ t. unmoved (read j) t)

  busy-not : not (busy (fields_of d)) ≡ false
  busy-not = rw i.busy refl

  -- any call but reset and the last data write
  pub line_call : (c : DeviceCall) → KeepsLine c → m + data_write c < n → InLine g l f n (m + data_write c) (device_outcome g c d).left
  unfolding takes_write
  line_call (write zero v) k h = unmoved (write 0 v) (rw busy-not refl)
  line_call (write (suc zero) v) k h = unmoved (write 1 v) busy-not
  line_call (write (suc (suc zero)) v) k h = unmoved (write 2 v) busy-not
  line_call (write (suc (suc (suc zero))) v) k h = unmoved (write 3 v) busy-not
  line_call (write (suc (suc (suc (suc zero)))) v) k h = data_goes v h
  line_call (write (suc (suc (suc (suc (suc zero))))) v) k h = unmoved (write 5 v) refl
  line_call (write (suc (suc (suc (suc (suc (suc zero)))))) v) k h = enable_call v
  line_call (write (suc (suc (suc (suc (suc (suc (suc zero))))))) v) k h = absurd (k refl)
  line_call (write (suc (suc (suc (suc (suc (suc (suc (suc j)))))))) v) k h =
      let e = ne_eqb (suc (suc (suc (suc (suc (suc (suc (suc j)))))))) 4 (λ z. omega arith) in
      rw e (unmoved (write (suc (suc (suc (suc (suc (suc (suc (suc j)))))))) v) refl)
  line_call (read j) k h = read_call j

-- so it goes on over every list of calls without a reset, as long as bytes are left ..
pub line_goes : (g : Geometry) {l f n m : ℕ} (cs : List DeviceCall) (d : Device) → AllKeep cs → InLine g l f n m d → m + data_writes cs < n → InLine g l f n (m + data_writes cs) (run_device g cs d)
unfolding data_writes run_device
line_goes g {m = m} [] d k i h = let e : m + 0 ≡ m = omega arith in rw e i
line_goes g {m = m} (c ∷ cs) d k i h =
    let e : m + (data_write c + data_writes cs) ≡ m + data_write c + data_writes cs = omega arith in
    rw e (line_goes g {m = m + data_write c} cs (device_outcome g c d).left k.1 (line_call g d i c k.0 (omega arith)) (omega arith))

-- .. and the last data write ends it: the device is not busy, and the interrupt bit is set where it was, or where it is enabled now
pub record Finished (g : Geometry) (d d' : Device) : Type 0 where
  pub sound : Sound g d'
  pub not_busy : busy (fields_of d') ≡ false
  pub count : (fields_of d').count ≡ 0
  pub interrupts : interrupt (fields_of d') ≡ (interrupt (fields_of d) || enabled (fields_of d))

pub line_ends : (g : Geometry) {l f n m : ℕ} (d : Device) → InLine g l f n m d → m + 1 ≡ n → (v : ℕ) → Finished g d (device_outcome g (write 4 v) d).left
unfolding device_done answer takes_write registers_after panel_after
line_ends g d i h v =
    let r = fields_of d in
    let next = sound_call g (write 4 v) d i.sound in
    let o = taken g (write 4 v) d i.sound i.busy in
    let last : r.count - 1 ≡ 0 = omega (arith, i.count) in
    let e = eq-eqb (r.count - 1) 0 last in
    rw (o, e) (record {
      sound = rw (o, e) at next;
      not_busy = status_busy false (interrupt r || enabled r);
      count = last;
      interrupts = status_interrupt false (interrupt r || enabled r);
    })

-- The whole of it: a line of n bytes, started by an accepted command 2, is busy while fewer than n data writes have followed, and done with the n-th, whatever other
-- calls stand between them but a reset.
pub line-busy : (g : Geometry) (d : Device) → Sound g d → takes_write g (fields_of d) (Some Command) 2 ≡ true → (cs : List DeviceCall) → AllKeep cs → data_writes cs < (fields_of d).count
    → busy (fields_of (run_device g (write 0 2 ∷ cs) d)) ≡ true
unfolding run_device
line-busy g d s t cs k h = (line_goes g cs (device_outcome g (write 0 2) d).left k (starts g d s t) (omega arith)).busy

pub line-done : (g : Geometry) (d : Device) → Sound g d → takes_write g (fields_of d) (Some Command) 2 ≡ true → (cs : List DeviceCall) → AllKeep cs → data_writes cs + 1 ≡ (fields_of d).count → (v : ℕ)
    → busy (fields_of (device_outcome g (write 4 v) (run_device g (write 0 2 ∷ cs) d)).left) ≡ false
unfolding run_device
line-done g d s t cs k h v =
    (line_ends g (run_device g (write 0 2 ∷ cs) d) (line_goes g cs (device_outcome g (write 0 2) d).left k (starts g d s t) (omega arith)) (omega arith) v).not_busy

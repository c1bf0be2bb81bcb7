-- The ends of a device call and of a driver call: refused at the entry, refused by a test of its own, done.
use Rattle.std.proofs.Common.{◌≡◌, ◌≢◌, refl, sym, ap, ◌∙◌, Bool, true, false, not, ◌&&◌, List, [], ◌∷◌, ℕ, zero, suc, ◌<◌, ◌≤◌, arith, eqb-true, ltb-true, lt-ltb, le-ltb, eqb, ltb, length, get_or, Option, None, Result, Ok, Err, IsErrAnd}
use Rattle.std.proofs.lemmas.Bool.{not-true, not-false}
use Rattle.std.proofs.lemmas.Result.{err_from_is_err_and}
use Rattle.model.specs.declared.refusal.Refusal.{Refusal}
use Rattle.model.specs.declared.Registers.{Registers}
use Rattle.model.specs.declared.Register.{Register}
use Rattle.model.specs.declared.glass.Glass.{Glass}
use Rattle.model.specs.Geometry.{base, screen_bytes, memory_bytes}
use Rattle.model.specs.Refusals.{STATE, REGISTER, Test, test, code_of, number_of, refusal, ruled}
use Rattle.model.specs.declared.SentLine.{SentLine}
use Rattle.model.specs.Calls.{line_sent_numbers, numbers_beside}
use Rattle.model.specs.Controller.{register_bytes, register_of, registers_of, bytes_of_registers, registers_fit, busy, takes_write, registers_read, DeviceCall, write, read, device, Device, Answer, answer, device_refusals, device_numbers, device_done, device_outcome}
use Rattle.model.specs.Driver.{Driven, driven, beside_fits, driver_tests, drive_refusals, drive_done, drive_outcome}
use Rattle.laws.specs.Tests.{by_test, and-true}
use Rattle.record.specs.Entry.{Chosen, Entered}
use Rattle.record.specs.Given.{Given}
use Rattle.device.specs.Registers.{bytes_back}
use Rattle.device.specs.Entry.{DeviceEntered, lengths}
use Rattle.device.specs.Writing.{Ready, Written}
use Rattle.device.specs.Device.{Sound, taken, not_taken, write_outcome}
use Rattle.driver.specs.Line.{Idle}
use Rattle.laws.specs.Calls.{refusal-first, refusal-append}
use Rattle.caption.proofs.Calls.{entered, enters, beside, is_number}

-- ---- a device call

device-refused : (c : DeviceCall) (d : Device) (k : ℕ) → refusal (device_refusals base c d) ≡ k → k ≢ 0 → answer k (device_numbers c) d ≡ device_outcome base c d
unfolding device_outcome ruled
device-refused c d zero e n = absurd (n refl)
device-refused c d (suc k) e n = rw e refl

device_refused_by : (c : DeviceCall) (d : Device) (x : Refusal) → refusal (device_refusals base c d) ≡ number_of x → answer (number_of x) (device_numbers c) d ≡ device_outcome base c d
device_refused_by c d x e = device-refused c d (number_of x) e (is_number x)

module _ (b p : List ℕ) where
  device_refused_first : (c : DeviceCall) {x : Refusal} → DeviceEntered b (length p) (Err x) → answer (number_of x) (device_numbers c) (device b p) ≡ device_outcome base c (device b p)
  unfolding device_refusals
  device_refused_first c {x} n =
      device_refused_by c (device b p) x (refusal-first (test 1 (lengths b (length p)) ∷ test STATE (registers_fit base (registers_of b)) ∷ []) _ (number_of x) (sym n.code) (is_number x))

  -- refused at the entry: what `?` hands on
  pub device_stops : (c : DeviceCall) {x : Refusal} {A : Type 0} (r : Result A Refusal) → IsErrAnd r (λ y. y ≡ x) → DeviceEntered b (length p) (Err x)
      → answer (code_of r) (device_numbers c) (device b p) ≡ device_outcome base c (device b p)
  device_stops c r h n = let q = err_from_is_err_and r h in rw (q.1, q.2) (device_refused_first c n)

  -- the same of a read, with its number beside the code
  pub device_stops_beside : (k : ℕ) {x : Refusal} (r : Result ℕ Refusal) → IsErrAnd r (λ y. y ≡ x) → DeviceEntered b (length p) (Err x)
      → answer (code_of r) (numbers_beside 1 (λ v. v ∷ []) r) (device b p) ≡ device_outcome base (read k) (device b p)
  device_stops_beside k r h n = let q = err_from_is_err_and r h in rw (q.1, q.2) (device_refused_first (read k) n)

  module _ {r : Registers} (n : DeviceEntered b (length p) (Ok r)) where
    sound : Sound base (device b p)
    sound = record { registers = n.passes.bytes; panel = n.passes.panel; passes = n.passes.fits }

    -- a write that is not taken
    pub write_refused : (k v : ℕ) {i : Option Register} {t : Bool} → i ≡ register_of k → t ≡ takes_write base r i v → not t ≡ true → answer REGISTER [] (device b p) ≡ device_outcome base (write k v) (device b p)
    write_refused k v {t = t} f o h =
        sym (not_taken base (write k v) (device b p) sound ((λ j. takes_write base (sym (n.passes.registers) j) (sym f j) v) ∙ sym o ∙ not-true t h))

    -- a number above 7
    pub no_register : (k v : ℕ) → None ≡ register_of k → answer REGISTER [] (device b p) ≡ device_outcome base (write k v) (device b p)
    unfolding takes_write
    no_register k v f = sym (not_taken base (write k v) (device b p) sound (rw (← f) refl))

    pub write_ready : (v : ℕ) {i : Option Register} {t : Bool} → t ≡ takes_write base r i v → not t ≡ false → Ready base r i v p
    write_ready v {t = t} o h = record { passes = rw n.passes.registers n.passes.fits; taken = sym o ∙ not-false t h; panel = n.passes.panel }

    -- and one that is
    pub write_done : (k v : ℕ) {i : Option Register} {s : Registers} {b' q : List ℕ} → i ≡ register_of k → Ready base r i v p → Written base r i v p s q → b' ≡ bytes_of_registers s
        → answer 0 [] (device b' q) ≡ device_outcome base (write k v) (device b p)
    write_done k v {q = q} f t w g =
        let back : bytes_of_registers r ≡ b = ap bytes_of_registers n.passes.registers ∙ bytes_back b n.passes.bytes in
        ap (λ (x : List ℕ). answer 0 [] (device x q)) g
        ∙ sym (write_outcome base k v (rw f at t) (rw f at w)) ∙ ap (λ (x : List ℕ). device_outcome base (write k v) (device x p)) back

    pub read_refused : (k : ℕ) → 8 ≤ k → answer REGISTER (0 ∷ []) (device b p) ≡ device_outcome base (read k) (device b p)
    read_refused k h = sym (not_taken base (read k) (device b p) sound (le-ltb k 8 h))

    pub read_done : (k : ℕ) {s : Registers} {b' : List ℕ} → k < 8 → s ≡ registers_read r k → b' ≡ bytes_of_registers s
        → answer 0 (get_or b k 0 ∷ []) (device b' p) ≡ device_outcome base (read k) (device b p)
    unfolding device_done
    read_done k h f g =
        (λ j. answer 0 (get_or b k 0 ∷ []) (device ((g ∙ ap bytes_of_registers (f ∙ ap (λ (x : Registers). registers_read x k) (n.passes.registers))) j) p))
        ∙ sym (taken base (read k) (device b p) sound (lt-ltb k 8 h))

-- ---- a driver call

drive_refused : (k : ℕ) (l : Driven) (c : ℕ) → refusal (drive_refusals base k l) ≡ c → c ≢ 0 → answer c (0 ∷ 0 ∷ 0 ∷ 0 ∷ []) l ≡ drive_outcome base k l
unfolding drive_outcome ruled
drive_refused k l zero e n = absurd (n refl)
drive_refused k l (suc c) e n = rw e refl

-- what a device that is tested is
pub record Tested (k : ℕ) (x : Registers) : Type 0 where
  pub fits : registers_fit base x ≡ true
  pub there : k < base.panels
  pub not_busy : busy x ≡ false

pub tested : (k : ℕ) (x : Registers) → 0 ≡ refusal (driver_tests base k x) → Tested k x
unfolding refusal
tested k x e =
    let q : refusal (driver_tests base k x) ≡ 0 = sym e in
    by_test (registers_fit base x)
    (λ f. by_test (ltb k base.panels)
    (λ h. by_test (busy x) (λ y. absurd (let w : 10 ≡ 0 = rw (f, h, y) at q in omega arith)) (λ y. record { fits = f; there = ltb-true k base.panels h; not_busy = y }))
    (λ h. absurd (let w : 9 ≡ 0 = rw (f, h) at q in omega arith)))
    (λ f. absurd (let w : 2 ≡ 0 = rw f at q in omega arith))

module _ (r m b p i : List ℕ) (k : ℕ) {v : Glass} (c : Chosen (length r) v) where
  abbrev l : Driven
  l = driven r m (device b p) i

  abbrev Entered_with : Result (Unit {0}) Refusal → Type 0
  Entered_with answer = Entered (eqb (length m) memory_bytes && ((eqb (length b) register_bytes && eqb (length p) v.screen) && eqb (length i) v.screen)) r answer

  size : v.screen ≡ screen_bytes base
  size = c.suits.is_screen ∙ ap screen_bytes c.glass

  here : {answer : Result (Unit {0}) Refusal} → Entered_with answer → Entered (beside_fits base l) r answer
  here o = rw size at o

  abbrev rest : List Test
  rest = driver_tests base k (registers_of b)

  drive_refused_first : {x : Refusal} → Entered_with (Err x) → answer (number_of x) (0 ∷ 0 ∷ 0 ∷ 0 ∷ []) l ≡ drive_outcome base k l
  unfolding drive_refusals
  drive_refused_first {x} o =
      drive_refused k l (number_of x) (refusal-first (entered r (beside_fits base l)) rest (number_of x) (sym (here o).code) (is_number x)) (is_number x)

  -- refused at the entry: what `?` hands on
  pub drive_stops : {x : Refusal} (a : Result (Option SentLine) Refusal) → IsErrAnd a (λ y. y ≡ x) → Entered_with (Err x)
      → answer (code_of a) (numbers_beside 4 line_sent_numbers a) l ≡ drive_outcome base k l
  drive_stops a h o = let q = err_from_is_err_and a h in rw (q.1, q.2) (drive_refused_first o)

  module _ {u : Unit {0}} (o : Entered_with (Ok u)) where
    lengths_fit : (length m ≡ memory_bytes) × (length b ≡ register_bytes) × (length p ≡ screen_bytes base) × (length i ≡ screen_bytes base)
    lengths_fit =
        let t = and-true (eqb (length m) memory_bytes) _ (beside (here o)) in
        let s = and-true _ (eqb (length i) (screen_bytes base)) t.1 in
        let w = and-true (eqb (length b) register_bytes) (eqb (length p) (screen_bytes base)) s.0 in
        (eqb-true _ _ t.0, eqb-true _ _ w.0, eqb-true _ _ w.1, eqb-true _ _ s.1)

    pub registers-lent : length b ≡ register_bytes
    registers-lent = lengths_fit.1

    own : refusal (drive_refusals base k l) ≡ refusal rest
    unfolding drive_refusals
    own = refusal-append (entered r (beside_fits base l)) rest (enters (here o))

    module _ {x : Registers} (f : x ≡ registers_of b) where
      is_rest : {n : ℕ} → n ≡ refusal (driver_tests base k x) → refusal rest ≡ n
      is_rest q = sym (q ∙ ap (λ (y : Registers). refusal (driver_tests base k y)) f)

      -- refused by a test of its own
      pub drive_stops_later : (y : Refusal) (a : Result (Option SentLine) Refusal) → IsErrAnd a (λ z. z ≡ y) → number_of y ≡ refusal (driver_tests base k x)
          → answer (code_of a) (numbers_beside 4 line_sent_numbers a) l ≡ drive_outcome base k l
      drive_stops_later y a h q = let w = err_from_is_err_and a h in rw (w.1, w.2) (drive_refused k l (number_of y) (own ∙ is_rest q) (is_number y))

      pub drive_ends : {a : Answer Driven} → 0 ≡ refusal (driver_tests base k x) → a ≡ drive_done base k l → a ≡ drive_outcome base k l
      unfolding drive_outcome ruled
      drive_ends q d = let s : refusal (drive_refusals base k l) ≡ 0 = own ∙ is_rest q in d ∙ rw s refl

      pub drive_given : Given r m
      drive_given = record { passing = o.passing; memory = lengths_fit.0 }

      pub drive_image : length i ≡ screen_bytes base
      drive_image = lengths_fit.3

      pub drive_idle : 0 ≡ refusal (driver_tests base k x) → Idle base x p
      drive_idle q =
          let d = tested k x q in
          record { sound = record { registers = refl; panel = lengths_fit.2; passes = d.fits }; not_busy = d.not_busy }

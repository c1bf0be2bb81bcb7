-- The accepted driver call: the send's answer and record, and the image as the send leaves it; then nothing, where the send is idle, or the writes of its line.
use Rattle.std.proofs.Common.{◌≡◌, refl, sym, ap, ◌∙◌, Bool, true, false, not, List, ℕ, ◌≤◌, ◌<◌, arith, length, lt-ltb, le-ltb, Option}
use Rattle.std.proofs.lemmas.Bool.{not-true, not-false}
use Rattle.model.specs.declared.Rect.{Rect}
use Rattle.model.specs.declared.SentLine.{SentLine}
use Rattle.model.specs.declared.Registers.{Registers}
use Rattle.model.specs.Geometry.{base}
use Rattle.model.specs.Rects.{is_empty}
use Rattle.model.specs.Record.{Pending, panel_of, decode}
use Rattle.model.specs.Refusals.{STATE, PANEL, REGISTER, refusal}
use Rattle.model.specs.Sends.{take_owed}
use Rattle.model.specs.Calls.{answered, line_sent_numbers, Outcome}
use Rattle.model.specs.Controller.{register_bytes, Device, device, registers_of, bytes_of_registers, registers_fit, busy, answer, run_device}
use Rattle.model.specs.Driver.{driven, driver_tests, line_writes, driver_writes, drive_done}
use Rattle.laws.specs.Record.{Passing}
use Rattle.laws.specs.States.{well_formed}
use Rattle.laws.specs.Bands.{to-send}
use Rattle.device.specs.Registers.{bytes_back}
use Rattle.accepted.specs.LineSent.{LineSent, numbers_of}
use Rattle.accepted.proofs.Sending.{send_done}
use Rattle.driver.specs.Line.{OnGlass, LineWritten}

module _ {r m i : List ℕ} {k : ℕ} {q : Rect} {r' i' : List ℕ} (s : LineSent base k r m i q r' i') where
  abbrev pending : Pending
  pending = panel_of base (decode base r) k

  empty_as : {t u : Bool} → t ≡ is_empty q → t ≡ u → is_empty (take_owed pending).hand ≡ u
  empty_as e f = ap is_empty (sym s.line) ∙ sym e ∙ f

  -- the line lies on the glass
  pub on_glass : {t : Bool} → Passing base r → k < base.panels → t ≡ is_empty q → t ≡ false → OnGlass base q.top q.left q.right
  on_glass w there e f =
      let p = to-send base pending ((well_formed base r w).panels k there) (empty_as e f) in
      rw s.line (record { on = omega arith; wide = p.wide; within = p.right_in })

  module _ (a : Option SentLine) (n : line_sent_numbers a ≡ numbers_of q) where
    -- the device as the writes leave it
    drives : (d d' : Device) → d' ≡ run_device base (driver_writes base pending i') d → answer 0 (line_sent_numbers a) (driven r' m d' i') ≡ drive_done base k (driven r m d i)
    unfolding answered drive_done
    drives d d' e =
        ap (λ (x : Device). answer 0 (line_sent_numbers a) (driven r' m x i')) e
        ∙ ap (λ (o : Outcome). answer o.code o.numbers (driven o.left.rec m (run_device base (driver_writes base pending o.left.panel) d) o.left.panel)) (send_done base k r m i a s n)

    -- idle: no write
    pub drives_idle : (d : Device) {t : Bool} → t ≡ is_empty q → t ≡ true → answer 0 (line_sent_numbers a) (driven r' m d i') ≡ drive_done base k (driven r m d i)
    unfolding driver_writes run_device
    drives_idle d e f = drives d d (rw (empty_as e f) refl)

    -- a line
    pub drives_line : {x y : Registers} (b b' p p' : List ℕ) {t : Bool} → length b ≡ register_bytes → x ≡ registers_of b → t ≡ is_empty q → t ≡ false → LineWritten base x p i' q y p'
        → b' ≡ bytes_of_registers y → answer 0 (line_sent_numbers a) (driven r' m (device b' p') i') ≡ drive_done base k (driven r m (device b p) i)
    unfolding driver_writes
    drives_line {x} b b' p p' z o e f w u =
        let back : bytes_of_registers x ≡ b = ap bytes_of_registers o ∙ bytes_back b z in
        drives (device b p) (device b' p')
        (ap (λ (c : List ℕ). device c p') u ∙ w.left ∙ ap (λ (c : List ℕ). run_device base (line_writes base q.top q.left q.right i') (device c p)) back
        ∙ rw (empty_as e f) (ap (λ (c : Rect). run_device base (line_writes base c.top c.left c.right i') (device b p)) s.line))

-- ---- what is tested after the record

module _ (k : ℕ) (r : Registers) {t : Bool} (f : t ≡ registers_fit base r) where
  pub damaged : not t ≡ true → STATE ≡ refusal (driver_tests base k r)
  unfolding refusal
  damaged n = rw (sym f ∙ not-true t n) refl

  module _ (n : not t ≡ false) where
    fit : registers_fit base r ≡ true
    fit = sym f ∙ not-false t n

    pub no_panel : base.panels ≤ k → PANEL ≡ refusal (driver_tests base k r)
    unfolding refusal
    no_panel h = rw (fit, le-ltb k base.panels h) refl

    module _ (h : k < base.panels) {b : Bool} (o : b ≡ busy r) where
      pub still_busy : b ≡ true → REGISTER ≡ refusal (driver_tests base k r)
      unfolding refusal
      still_busy e = rw (fit, lt-ltb k base.panels h, sym o ∙ e) refl

      pub may_drive : b ≡ false → 0 ≡ refusal (driver_tests base k r)
      unfolding refusal
      may_drive e = rw (fit, lt-ltb k base.panels h, sym o ∙ e) refl

-- One send, driven and direct: from one record and memory, and from panel, image and direct panel that are equal, both answer the same and leave the same.
use Rattle.std.specs.Prelude.{◌≡◌, Bool, true, false, ◌&&◌, List, [], ◌∷◌, eqb, length}
use Rattle.std.proofs.Math.Path.{refl}
use Rattle.std.proofs.Common.{◌∙◌, arith, eq-eqb, eqb-true, ltb-true}
use Prim.Native.Nat.{ℕ, zero, suc, ◌<◌}
use Rattle.std.proofs.lemmas.Bool.{not-true}
use Rattle.model.specs.Geometry.{Geometry, width, height, screen_bytes, memory_bytes}
use Rattle.model.specs.Glass.{IsGlass}
use Rattle.model.specs.Bytes.{Bytes}
use Rattle.model.specs.Memory.{screen_of}
use Rattle.model.specs.declared.Rect.{Rect}
use Rattle.model.specs.Rects.{is_empty}
use Rattle.model.specs.Record.{panel_of, decode, record_bytes}
use Rattle.model.specs.Refusals.{refusal, ruled}
use Rattle.model.specs.Sends.{take_owed, copy_line, send_panel}
use Rattle.model.specs.Calls.{send, lent, Outcome, answered, refusals, refused, done, outcome}
use Rattle.model.specs.Controller.{register_bytes, registers_fit, busy, Device, device, Answer, answer, device_fits, run_device}
use Rattle.model.specs.Driver.{Driven, driven, driver_writes, beside_fits, drive_refusals, drive_done, drive_outcome}
use Rattle.laws.specs.Tests.{by_test, and-true}
use Rattle.laws.specs.Rects.{Proper}
use Rattle.laws.specs.Bands.{to-send}
use Rattle.laws.specs.Calls.{accepted_pass}
use Rattle.device.specs.Device.{Sound, fields_of}
use Rattle.order.specs.Held.{length_send}
use Rattle.order.specs.Step.{Lendable, known}
use Rattle.order.specs.Opens.{send_step}
use Rattle.driving.specs.Copies.{copied_bytes}
use Rattle.driving.specs.Writes.{line-done, line_room}

-- a device that the driver may use: its registers pass STATE, and it is not busy
pub record Free (g : Geometry) (d : Device) : Type 0 where
  pub registers : length d.registers ≡ register_bytes
  pub passes : registers_fit g (fields_of d) ≡ true
  pub not_busy : busy (fields_of d) ≡ false

-- ---- what an accepted driver call has passed

pub record Drivable (g : Geometry) (k : ℕ) (l : Driven) : Type 0 where
  pub lendable : Lendable g (lent l.rec l.memory l.image)
  pub there : k < g.panels
  pub sound : Sound g l.device
  pub not_busy : busy (fields_of l.device) ≡ false

pub drivable : (g : Geometry) → IsGlass g → (k : ℕ) (l : Driven) → Bytes l.rec → refusal (drive_refusals g k l) ≡ 0 → Drivable g k l
unfolding drive_refusals
drivable g glass k l bytes a =
    let t = accepted_pass (drive_refusals g k l) (omega arith) a in
    let n = and-true (eqb (length l.rec) (record_bytes g)) (beside_fits g l) t.0 in
    let o = and-true (eqb (length l.memory) memory_bytes) (device_fits g l.device && eqb (length l.image) (screen_bytes g)) n.1 in
    let i = and-true (device_fits g l.device) (eqb (length l.image) (screen_bytes g)) o.1 in
    let d = and-true (eqb (length l.device.registers) register_bytes) (eqb (length l.device.panel) (screen_bytes g)) i.0 in
    record {
      lendable = record {
        passing = record { glass = glass; sized = eqb-true (length l.rec) (record_bytes g) n.0; bytes = bytes; passes = t.1.0 };
        memory = eqb-true (length l.memory) memory_bytes o.0;
        panel = eqb-true (length l.image) (screen_bytes g) i.1;
      };
      there = ltb-true k g.panels t.1.1.1.0;
      sound = record { registers = eqb-true (length l.device.registers) register_bytes d.0; panel = eqb-true (length l.device.panel) (screen_bytes g) d.1; passes = t.1.1.0 };
      not_busy = not-true (busy (fields_of l.device)) t.1.1.1.1.0;
    }

-- the rectangle whose top line the call sends, and the image as it leaves it
abbrev pub to_send : Geometry → ℕ → Driven → Rect
to_send g k l = (take_owed (panel_of g (decode g l.rec) k)).hand

abbrev pub image_left : Geometry → ℕ → Driven → List ℕ
image_left g k l = let s = decode g l.rec in send_panel g.stride (panel_of g s k) (screen_of g s.head.graphics l.memory) l.image

module _ (g : Geometry) (k : ℕ) (l : Driven) (t : Drivable g k l) where
  pub line_lies : is_empty (to_send g k l) ≡ false → Proper (width g) 0 (height g) (to_send g k l)
  line_lies e = to-send g _ ((known g (lent l.rec l.memory l.image) t.lendable).panels k t.there) e

  pub image_long : length (image_left g k l) ≡ screen_bytes g
  image_long = length_send g.stride _ l.image _ ∙ t.lendable.panel

-- ---- driven and direct

-- a driven send answers a, a direct one o: the answers are the same, and so are record and memory; panel and image are as the direct panel; the device is free again
pub record Same (g : Geometry) (a : Answer Driven) (o : Outcome) : Type 0 where
  pub code : a.code ≡ o.code
  pub numbers : a.numbers ≡ o.numbers
  pub rec : a.left.rec ≡ o.left.rec
  pub memory : a.left.memory ≡ o.left.memory
  pub panel : a.left.device.panel ≡ o.left.panel
  pub image : a.left.image ≡ o.left.panel
  pub free : Free g a.left.device
  pub bytes : Bytes o.left.rec

module _ (g : Geometry) (glass : IsGlass g) (k : ℕ) (r m b p : List ℕ) (free : Free g (device b p)) (bytes : Bytes r) where
  abbrev l : Driven
  l = driven r m (device b p) p

  twice : (x : Bool) → ((true && x) && x) ≡ x
  twice true = refl
  twice false = refl

  -- both are refused alike
  same_refusal : refusal (refusals g (send k) (lent r m p)) ≡ refusal (drive_refusals g k l)
  unfolding drive_refusals refusals refusal
  same_refusal =
      rw (eq-eqb (length b) register_bytes free.registers, free.passes, free.not_busy, twice (eqb (length p) (screen_bytes g))) refl

  module _ (t : Drivable g k l) where
    -- the device after the driver's writes
    abbrev after : Device
    after = run_device g (driver_writes g (panel_of g (decode g r) k) (image_left g k l)) (device b p)

    driven_panel : (after.panel ≡ image_left g k l) × Free g after
    unfolding driver_writes run_device send_panel copy_line
    driven_panel =
        let q = to_send g k l in
        let screen = screen_of g (decode g r).head.graphics m in
        let long = image_long g k l t in
        by_test (is_empty q)
        (λ e. rw e (refl, free))
        (λ e.
        let h = line_lies g k l t e in
        let room = line_room g q.top q.left q.right (omega arith) h.wide h.right_in in
        let d = line-done g q.top q.left q.right (copy_line g.stride q screen p) (device b p) t.sound free.not_busy (omega arith) h.wide h.right_in (rw e at long) in
        let c = copied_bytes g.stride q.top q.left q.right h.wide screen p (rw t.lendable.panel room) in
        rw e (d.panel ∙ c, record { registers = d.sound.registers; passes = d.sound.passes; not_busy = d.not_busy }))

    same_done : Same g (drive_done g k l) (done g (send k) (lent r m p))
    unfolding drive_done answer done answered
    same_done =
        record {
          code = refl;
          numbers = refl;
          rec = refl;
          memory = refl;
          panel = driven_panel.0;
          image = refl;
          free = driven_panel.1;
          bytes = (send_step g k t.there (lent r m p) t.lendable k t.there _ refl).lendable.passing.bytes;
        }

  same_ruled : (n : ℕ) → refusal (drive_refusals g k l) ≡ n
      → Same g (ruled n (λ c. answer c (0 ∷ 0 ∷ 0 ∷ 0 ∷ []) l) (drive_done g k l)) (ruled n (refused (send k) (lent r m p)) (done g (send k) (lent r m p)))
  unfolding ruled answer refused answered
  same_ruled zero e = same_done (drivable g glass k l bytes e)
  same_ruled (suc n) e = record { code = refl; numbers = refl; rec = refl; memory = refl; panel = refl; image = refl; free = free; bytes = bytes }

  pub same_send : Same g (drive_outcome g k l) (outcome g (send k) (lent r m p))
  unfolding drive_outcome outcome
  same_send = rw same_refusal (same_ruled (refusal (drive_refusals g k l)) refl)

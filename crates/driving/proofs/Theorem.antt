-- The theorems of specs/Theorem.antt: driven sends are as direct ones, and a driver call stores just the bytes of its line.
use Rattle.std.specs.Prelude.{◌≡◌, refl, false, List, ◌∷◌, ℕ, zero, suc, ◌≤◌, ◌<◌, length}
use Rattle.std.proofs.Common.{ap, ◌∙◌, arith}
use Rattle.model.specs.Geometry.{Geometry, width, height, screen_bytes}
use Rattle.model.specs.Glass.{IsGlass}
use Rattle.model.specs.Bytes.{Bytes}
use Rattle.model.specs.Refusals.{refusal, ruled}
use Rattle.model.specs.Record.{listing}
use Rattle.model.specs.Calls.{send, lent, answered, done, outcome}
use Rattle.model.specs.Controller.{busy, Device, device, answer, run_device}
use Rattle.model.specs.Driver.{byte_count, Driven, driven, driver_writes, drive_refusals, drive_done, drive_outcome}
use Rattle.laws.specs.Memory.{length-window}
use Rattle.device.specs.Device.{Sound, fields_of}
use Rattle.driving.specs.Copies.{line_at, pixel_in, pixel-of}
use Rattle.driving.specs.Writes.{line-done, line_room}
use Rattle.driving.specs.Sends.{Free, drivable, to_send, line_lies, image_long, same_send}
use Rattle.driving.specs.Theorem.{driven_answers, driven_left, sent_answers, sent_left, DrivenAsSent, LineBytes, JustTheBytes}

-- The theorem: from one record r and one memory m of any bytes, panel, image and direct panel p, and a device whose registers b pass STATE and are not busy, for every
-- number k and every count n of sends. Where the sends are refused, both are refused alike.
pub driven_as_sent : (g : Geometry) → IsGlass g → (k n : ℕ) (r m b p : List ℕ) → Free g (device b p) → Bytes r → DrivenAsSent g k n (driven r m (device b p) p) (lent r m p)
unfolding driven_answers driven_left sent_answers sent_left
driven_as_sent g z k zero r m b p f h = record { answers = refl; rec = refl; memory = refl; panel = refl; image = refl; free = f }
driven_as_sent g z k (suc n) r m b p f h =
    let a = drive_outcome g k (driven r m (device b p) p) in
    let o = outcome g (send k) (lent r m p) in
    let s = same_send g z k r m b p f h in
    let b' = a.left.device.registers in
    let q = o.left.panel in
    -- what is left is again one record and memory, and three equal panels
    let left : a.left ≡ driven o.left.rec o.left.memory (device b' q) q = λ i. driven (s.rec i) (s.memory i) (device b' (s.panel i)) (s.image i) in
    let next : DrivenAsSent g k n a.left o.left =
    rw left (driven_as_sent g z k n o.left.rec o.left.memory b' q (rw (← s.panel) s.free) s.bytes) in
    record {
      answers = λ i. (s.code i ∷ s.numbers i) ∷ next.answers i;
      rec = next.rec;
      memory = next.memory;
      panel = next.panel;
      image = next.image;
      free = next.free;
    }

-- ---- the bytes of a driven line

pub line_bytes : (g : Geometry) (y left right : ℕ) (image : List ℕ) (d : Device) → Sound g d → busy (fields_of d) ≡ false → y < height g → left < right → right ≤ width g
    → length image ≡ screen_bytes g → LineBytes g y left right image d
line_bytes g y left right image d s f hy hx hw hi =
    let l = line-done g y left right image d s f hy hx hw hi in
    let size = length-window (line_at g.stride y left) (byte_count left right) image (rw hi (line_room g y left right hy hx hw)) in
    record {
      done = l.all;
      stored = l.bytes ∙ ap (listing (λ i. i) (line_at g.stride y left)) size;
      each = pixel_in g.stride y left right hx;
      no_other = pixel-of g.stride y left right hx;
    }

-- so every accepted driver call, whatever device and image it is lent
pub just_the_bytes_or_nothing : (g : Geometry) → IsGlass g → (k : ℕ) (l : Driven) → Bytes l.rec → refusal (drive_refusals g k l) ≡ 0
    → JustTheBytes g (to_send g k l) l (drive_outcome g k l).left
unfolding drive_outcome ruled drive_done answer driver_writes run_device done answered
just_the_bytes_or_nothing g z k l b a =
    let q = to_send g k l in
    let t = drivable g z k l b a in
    rw a (record {
      nothing = λ e. rw e refl;
      writes = λ e. rw e refl;
      bytes = λ e. let h = line_lies g k l t e in line_bytes g q.top q.left q.right _ l.device t.sound t.not_busy (omega arith) h.wide h.right_in (image_long g k l t);
    })

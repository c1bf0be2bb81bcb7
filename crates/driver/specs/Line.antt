-- What the driver asks of the device, and what its writes leave.
use Rattle.std.specs.Prelude.{◌≡◌, ◌≢◌, refl, true, false, not, List, [], ◌∷◌, map, ℕ, ◌+◌, ◌-◌, ◌*◌, ◌≤◌, ◌<◌, length, get_or, take, drop, Option, Some}
use Rattle.std.proofs.Common.{sym, ap, subst, ◌∙◌, arith, add-one, drop-cons, ne_eqb}
use Rattle.std.proofs.Math.ListN.{drop_of_length-le}
use Rattle.model.specs.declared.Rect.{Rect}
use Rattle.model.specs.declared.Registers.{Registers}
use Rattle.model.specs.Geometry.{Geometry, width, height, screen_bytes}
use Rattle.model.specs.declared.Register.{Register}
use Rattle.model.specs.declared.Register.TheVariants.{Command, Line, First, Count, Data}
use Rattle.model.specs.Controller.{register_of, busy, interrupt, takes_write, registers_after, bytes_of_registers, DeviceCall, write, Device, device, Answer, answer, run_device}
use Rattle.model.specs.Memory.{window}
use Rattle.model.specs.Driver.{first_byte, byte_count, line_writes}
use Rattle.device.specs.Registers.{LineIn, line-fits, status_busy}
use Rattle.device.specs.Writing.{Ready, Written}
use Rattle.device.specs.Device.{Sound, sound_call, write_outcome}

-- a device that passes and is not busy
pub record Idle (g : Geometry) (r : Registers) (p : List ℕ) : Type 0 where
  pub sound : Sound g (device (bytes_of_registers r) p)
  pub not_busy : busy r ≡ false

-- pixels of a line
pub record OnGlass (g : Geometry) (y left right : ℕ) : Type 0 where
  pub on : y < height g
  pub wide : left < right
  pub within : right ≤ width g

-- busy with n bytes to come
pub record Begun (g : Geometry) (r : Registers) (p : List ℕ) (n : ℕ) : Type 0 where
  pub sound : Sound g (device (bytes_of_registers r) p)
  pub busy : busy r ≡ true
  pub count : r.count ≡ n

-- the writes that start a line
abbrev pub start_writes : ℕ → ℕ → ℕ → List DeviceCall
start_writes line first count = write 1 line ∷ write 2 first ∷ write 3 count ∷ write 0 2 ∷ []

pub record Started (g : Geometry) (r : Registers) (p : List ℕ) (line first count : ℕ) (s : Registers) (q : List ℕ) : Type 0 where
  pub left : device (bytes_of_registers s) q ≡ run_device g (start_writes line first count) (device (bytes_of_registers r) p)
  pub begun : Begun g s q count

pub record DataWritten (g : Geometry) (r : Registers) (p bs : List ℕ) (s : Registers) (q : List ℕ) : Type 0 where
  pub left : device (bytes_of_registers s) q ≡ run_device g (map (write 4) bs) (device (bytes_of_registers r) p)
  pub long : length q ≡ length p

-- the writes of the top line of q
pub record LineWritten (g : Geometry) (r : Registers) (p image : List ℕ) (q : Rect) (s : Registers) (p' : List ℕ) : Type 0 where
  pub left : device (bytes_of_registers s) p' ≡ run_device g (line_writes g q.top q.left q.right image) (device (bytes_of_registers r) p)

-- ---- as the code goes

-- one write of the device's function, before others
module _ (g : Geometry) (k v : ℕ) {r s : Registers} {p q : List ℕ} (t : Ready g r (register_of k) v p) (w : Written g r (register_of k) v p s q) where
  pub then_run : (cs : List DeviceCall) → run_device g (write k v ∷ cs) (device (bytes_of_registers r) p) ≡ run_device g cs (device (bytes_of_registers s) q)
  unfolding run_device answer
  then_run cs = ap (λ (o : Answer Device). run_device g cs o.left) (write_outcome g k v t w)

  pub next_sound : Sound g (device (bytes_of_registers s) q)
  unfolding answer
  next_sound =
      let d = device (bytes_of_registers r) p in
      subst (λ (o : Answer Device). Sound g o.left) (write_outcome g k v t w) (sound_call g (write k v) d (record { registers = refl; panel = t.panel; passes = t.passes }))

-- ---- a line started: its three fields, while the device is not busy, and command 2

module _ (g : Geometry) {r : Registers} {p : List ℕ} (i : Idle g r p) where
  -- a register that takes any byte then, and leaves status
  pub ready_field : (n : Option Register) (v : ℕ) → takes_write g r n v ≡ not (busy r) → Ready g r n v p
  ready_field n v t = record { passes = i.sound.passes; taken = t ∙ rw i.not_busy refl; panel = i.sound.panel }

  pub after_field : (k v : ℕ) → takes_write g r (register_of k) v ≡ not (busy r) → (registers_after r (register_of k) v).status ≡ r.status
      → {s : Registers} {q : List ℕ} → Written g r (register_of k) v p s q → Idle g s q
  after_field k v t e w = record { sound = next_sound g k v (ready_field (register_of k) v t) w; not_busy = rw (w.registers, e) i.not_busy }

  pub ready_command : LineIn g r.line r.first r.count → Ready g r (Some Command) 2 p
  unfolding takes_write
  ready_command l = record { passes = i.sound.passes; taken = rw (i.not_busy, line-fits g r l) refl; panel = i.sound.panel }

module _ (g : Geometry) {r a b c : Registers} {p pa pb pc : List ℕ} {line first count : ℕ} (i : Idle g r p) (l : LineIn g line first count)
    (w₁ : Written g r (Some Line) line p a pa) (w₂ : Written g a (Some First) first pa b pb) (w₃ : Written g b (Some Count) count pb c pc) where
  set_fields : (c.line ≡ line) × (c.first ≡ first) × (c.count ≡ count)
  unfolding registers_after
  set_fields = rw (w₃.registers, w₂.registers, w₁.registers) (refl, refl, refl)

  idle₁ : Idle g a pa
  unfolding takes_write registers_after
  idle₁ = after_field g i 1 line refl refl w₁

  idle₂ : Idle g b pb
  unfolding takes_write registers_after
  idle₂ = after_field g idle₁ 2 first refl refl w₂

  pub ready_start : Ready g c (Some Command) 2 pc
  unfolding takes_write registers_after
  ready_start = ready_command g (after_field g idle₂ 3 count refl refl w₃) (let f = set_fields in rw (f.0, f.1, f.2) l)

  pub line_starts : {s : Registers} {q : List ℕ} → Written g c (Some Command) 2 pc s q → Started g r p line first count s q
  unfolding takes_write registers_after run_device
  line_starts w₄ =
      record {
        left =
            sym (then_run g 1 line (ready_field g i (Some Line) line refl) w₁ (write 2 first ∷ write 3 count ∷ write 0 2 ∷ []) ∙ then_run g 2 first (ready_field g idle₁ (Some First) first refl) w₂ (write 3 count ∷ write 0 2 ∷ [])
            ∙ then_run g 3 count (ready_field g idle₂ (Some Count) count refl) w₃ (write 0 2 ∷ []) ∙ then_run g 0 2 ready_start w₄ []);
        begun = record { sound = next_sound g 0 2 ready_start w₄; busy = rw w₄.registers (status_busy true (interrupt c)); count = rw w₄.registers set_fields.2 };
      }

-- ---- its bytes, one after another: s and q stand when i of them are written

pub record BytesTo (g : Geometry) (r : Registers) (p bs : List ℕ) (i : ℕ) (s : Registers) (q : List ℕ) : Type 0 where
  pub same : run_device g (map (write 4) (drop i bs)) (device (bytes_of_registers s) q) ≡ run_device g (map (write 4) bs) (device (bytes_of_registers r) p)
  pub sound : Sound g (device (bytes_of_registers s) q)
  pub upto : i ≤ length bs
  pub more : i < length bs → (busy s ≡ true) × (s.count ≡ length bs - i)

pub bytes_start : (g : Geometry) {r : Registers} {p bs : List ℕ} → Begun g r p (length bs) → BytesTo g r p bs 0 r p
bytes_start g {bs = bs} b = record { same = refl; sound = b.sound; upto = omega arith; more = λ h. (b.busy, omega (arith, b.count)) }

module _ (g : Geometry) {r s : Registers} {p q bs : List ℕ} {i : ℕ} (b : BytesTo g r p bs i s q) where
  pub bytes_ready : (v : ℕ) → i < length bs → Ready g s (Some Data) v q
  unfolding takes_write
  bytes_ready v h = record { passes = b.sound.passes; taken = (b.more h).0; panel = b.sound.panel }

  pub bytes_turn : {s' : Registers} {q' : List ℕ} → i < length bs → Written g s (Some Data) (get_or bs i 0) q s' q' → BytesTo g r p bs (i + 1) s' q'
  unfolding registers_after
  bytes_turn h w =
      let v = get_or bs i 0 in
      let t = bytes_ready v h in
      let here : map (write 4) (drop i bs) ≡ write 4 v ∷ map (write 4) (drop (i + 1) bs) = ap (map (write 4)) (drop-cons bs i 0 h ∙ ap (λ (j : ℕ). v ∷ drop j bs) (sym (add-one i))) in
      record {
        same = sym (ap (λ (cs : List DeviceCall). run_device g cs (device (bytes_of_registers s) q)) here ∙ then_run g 4 v t w _) ∙ b.same;
        sound = next_sound g 4 v t w;
        upto = omega arith;
        more = λ l.
            let m = b.more h in
            let n : s.count - 1 ≢ 0 = λ e. omega (arith, m.1) in
            rw (w.registers, ne_eqb (s.count - 1) 0 n) (m.0, omega (arith, m.1));
      }

  pub bytes_end : length p ≡ screen_bytes g → length bs ≤ i → DataWritten g r p bs s q
  unfolding run_device
  bytes_end l h =
      let none : drop i bs ≡ [] = drop_of_length-le bs h in
      record { left = sym (ap (λ (cs : List ℕ). run_device g (map (write 4) cs) (device (bytes_of_registers s) q)) none) ∙ b.same; long = b.sound.panel ∙ sym l }

-- ---- a whole line

-- the bytes are lent as a part of the image, `from` up to `to`
pub line_made : (g : Geometry) (y left right first count : ℕ) (r a s : Registers) (p pa q image : List ℕ)
    → device (bytes_of_registers a) pa ≡ run_device g (start_writes y first count) (device (bytes_of_registers r) p)
    → let from = g.stride * y + first in
    let to = from + count in
    device (bytes_of_registers s) q ≡ run_device g (map (write 4) (take (to - from) (drop from image))) (device (bytes_of_registers a) pa)
    → first ≡ first_byte left → count ≡ byte_count left right
    → device (bytes_of_registers s) q ≡ run_device g (line_writes g y left right image) (device (bytes_of_registers r) p)
unfolding line_writes run_device window
line_made g y left right first count r a s p pa q image e f u v =
    let from = g.stride * y + first in
    let n : from + count - from ≡ count = omega arith in
    f ∙ (λ i. run_device g (map (write 4) (take (n i) (drop from image))) (e i))
    ∙ (λ i. run_device g (map (write 4) (window (g.stride * y + u i) (v i) image)) (run_device g (start_writes y (u i) (v i)) (device (bytes_of_registers r) p)))

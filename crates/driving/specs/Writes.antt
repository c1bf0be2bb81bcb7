-- The writes of a line: each is done, the bytes of the line are stored and no others, and then the device is not busy.
use Rattle.std.specs.Prelude.{◌≡◌, refl, true, false, cond, not, List, [], ◌∷◌, ◌++◌, map, ℕ, suc, ◌+◌, ◌-◌, ◌*◌, ◌≤◌, ◌<◌, eqb, length, set, Some}
use Rattle.std.proofs.Common.{sym, ap, subst, ◌∙◌, arith, add-one}
use Rattle.std.proofs.Math.Arith.{digits_lt}
use Rattle.model.specs.declared.Registers.{Registers}
use Rattle.model.specs.declared.Register.TheVariants.{Command}
use Rattle.model.specs.Geometry.{Geometry, width, height, screen_bytes}
use Rattle.model.specs.Memory.{window, with_window}
use Rattle.model.specs.Record.{listing}
use Rattle.model.specs.Controller.{busy, takes_write, registers_after, panel_after, data_place, DeviceCall, write, read, Device, Answer, answer, takes_call, device_done, device_outcome, run_device}
use Rattle.model.specs.Driver.{first_byte, byte_count, line_writes}
use Rattle.laws.specs.Memory.{set-window, window_extend, length-window}
use Rattle.device.specs.Registers.{line-fits, passes}
use Rattle.device.specs.Device.{Sound, fields_of, taken, sound_done}
use Rattle.device.specs.DeviceLines.{InLine, starts, data_goes, line_ends}
use Rattle.driving.specs.Copies.{line_at}

-- every call of a list is done
abbrev pub AllDone : Geometry → List DeviceCall → Device → Type 0
AllDone g [] d = Unit {0}
AllDone g (c ∷ cs) d = ((device_outcome g c d).code ≡ 0) × AllDone g cs (device_outcome g c d).left

-- the panel byte that a data write stores
abbrev pub data_byte : Geometry → DeviceCall → Registers → List ℕ
data_byte g (write n v) r = cond (eqb n 4) (data_place g r ∷ []) []
data_byte g (read n) r = []

-- the panel bytes that the accepted data writes of a list store, one after another
unfoldable pub stored_bytes : Geometry → List DeviceCall → Device → List ℕ
stored_bytes g [] d = []
stored_bytes g (c ∷ cs) d = cond (eqb (device_outcome g c d).code 0) (data_byte g c (fields_of d)) [] ++ stored_bytes g cs (device_outcome g c d).left

-- what is said of the writes of a line whose bytes bs begin at panel byte a: each is done, each byte is stored once and no other, and the device is ready again
pub record LineDone (g : Geometry) (cs : List DeviceCall) (d : Device) (a : ℕ) (bs : List ℕ) : Type 0 where
  pub all : AllDone g cs d
  pub bytes : stored_bytes g cs d ≡ listing (λ i. i) a (length bs)
  pub panel : (run_device g cs d).panel ≡ with_window a bs d.panel
  pub sound : Sound g (run_device g cs d)
  pub not_busy : busy (fields_of (run_device g cs d)) ≡ false

-- ---- one call in front of others

module _ (g : Geometry) (c : DeviceCall) (cs : List DeviceCall) (d : Device) (s : Sound g d) (t : takes_call g (fields_of d) c ≡ true) where
  abbrev next : Device
  next = (device_done g c d).left

  done_code : (device_outcome g c d).code ≡ 0
  unfolding device_done answer
  done_code = ap (λ (o : Answer Device). o.code) (taken g c d s t) ∙ code_of c
    where
      code_of : (c : DeviceCall) → (device_done g c d).code ≡ 0
      code_of (write n v) = refl
      code_of (read n) = refl

  run-first : run_device g (c ∷ cs) d ≡ run_device g cs next
  unfolding run_device
  run-first = ap (λ (o : Answer Device). run_device g cs o.left) (taken g c d s t)

  all_first : AllDone g cs next → AllDone g (c ∷ cs) d
  all_first h = (done_code, subst (λ (o : Answer Device). AllDone g cs o.left) (sym (taken g c d s t)) h)

  bytes_first : stored_bytes g (c ∷ cs) d ≡ data_byte g c (fields_of d) ++ stored_bytes g cs next
  unfolding stored_bytes
  bytes_first = rw done_code (ap (λ (o : Answer Device). data_byte g c (fields_of d) ++ stored_bytes g cs o.left) (taken g c d s t))

-- a call that stores nothing and leaves the panel
quiet_first : (g : Geometry) (c : DeviceCall) (cs : List DeviceCall) (d : Device) {a : ℕ} {bs : List ℕ} → Sound g d → takes_call g (fields_of d) c ≡ true → data_byte g c (fields_of d) ≡ []
    → (device_done g c d).left.panel ≡ d.panel → LineDone g cs (device_done g c d).left a bs → LineDone g (c ∷ cs) d a bs
quiet_first g c cs d {a} {bs} s t n p k =
    let r = run-first g c cs d s t in
    record {
      all = all_first g c cs d s t k.all;
      bytes = bytes_first g c cs d s t ∙ ap (λ (x : List ℕ). x ++ stored_bytes g cs (device_done g c d).left) n ∙ k.bytes;
      panel = ap (λ (x : Device). x.panel) r ∙ k.panel ∙ ap (with_window a bs) p;
      sound = rw r k.sound;
      not_busy = rw r k.not_busy;
    }

-- ---- the data bytes

module _ (g : Geometry) {l f n m : ℕ} (d : Device) (i : InLine g l f n m d) where
  goes_to : data_place g (fields_of d) ≡ g.stride * l + (f + m)
  goes_to = λ j. g.stride * i.line j + i.first j

  -- the byte lies on the panel
  on_panel : g.stride * l + (f + m) < length d.panel
  on_panel =
      let r = fields_of d in
      let k = (passes g r i.sound.passes).line i.busy in
      let h : r.first < g.stride = omega arith in
      rw (← goes_to) (rw i.sound.panel (omega (arith, digits_lt k.on h)))

  data_panel : (v : ℕ) → (device_done g (write 4 v) d).left.panel ≡ with_window (g.stride * l + (f + m)) (v ∷ []) d.panel
  unfolding device_done answer panel_after
  data_panel v = ap (λ (a : ℕ). set d.panel a v) goes_to ∙ set-window (g.stride * l + (f + m)) v d.panel on_panel

-- a data write for each byte of a line, which has as many bytes left
pub data_done : (g : Geometry) {l f n m : ℕ} (b : ℕ) (bs : List ℕ) (d : Device) → InLine g l f n m d → m + suc (length bs) ≡ n
    → LineDone g (map (write 4) (b ∷ bs)) d (g.stride * l + (f + m)) (b ∷ bs)
unfolding takes_write run_device stored_bytes listing
data_done g b [] d i h =
    let o = taken g (write 4 b) d i.sound i.busy in
    let e = line_ends g d i (omega arith) b in
    let r = run-first g (write 4 b) [] d i.sound i.busy in
    record {
      all = all_first g (write 4 b) [] d i.sound i.busy tt;
      bytes = bytes_first g (write 4 b) [] d i.sound i.busy ∙ ap (λ (a : ℕ). a ∷ []) (goes_to g d i);
      panel = ap (λ (x : Device). x.panel) r ∙ data_panel g d i b;
      sound = e.sound;
      not_busy = e.not_busy;
    }
data_done g {l} {f} {n} {m} b (c ∷ bs) d i h =
    let a = g.stride * l + (f + m) in
    let s = i.sound in
    let cs = map (write 4) (c ∷ bs) in
    let r = run-first g (write 4 b) cs d s i.busy in
    let next : InLine g l f n (m + 1) (device_done g (write 4 b) d).left =
    subst (λ (o : Answer Device). InLine g l f n (m + 1) o.left) (taken g (write 4 b) d s i.busy) (data_goes g d i b (omega arith)) in
    let k = data_done g {l = l} {f = f} {n = n} {m = m + 1} c bs (device_done g (write 4 b) d).left next (omega arith) in
    let up : g.stride * l + (f + (m + 1)) ≡ a + 1 = omega arith in
    record {
      all = all_first g (write 4 b) cs d s i.busy k.all;
      bytes = bytes_first g (write 4 b) cs d s i.busy ∙ (λ j. goes_to g d i j ∷ k.bytes j) ∙ ap (λ (x : ℕ). a ∷ listing (λ j. j) x (suc (length bs))) (up ∙ add-one a);
      panel =
          ap (λ (x : Device). x.panel) r ∙ k.panel ∙ (λ j. with_window (up j) (c ∷ bs) (data_panel g d i b j))
          ∙ window_extend a 1 (b ∷ []) (c ∷ bs) d.panel refl (omega (arith, on_panel g d i));
      sound = rw r k.sound;
      not_busy = rw r k.not_busy;
    }

data_all : (g : Geometry) {l f n m : ℕ} (bs : List ℕ) (d : Device) → InLine g l f n m d → 1 ≤ length bs → m + length bs ≡ n → LineDone g (map (write 4) bs) d (g.stride * l + (f + m)) bs
data_all g [] d i h e = absurd (omega arith)
data_all g (b ∷ bs) d i h e = data_done g b bs d i e

-- ---- the whole line

-- its bytes lie on the panel
pub line_room : (g : Geometry) (y left right : ℕ) → y < height g → left < right → right ≤ width g → line_at g.stride y left + byte_count left right ≤ screen_bytes g
line_room g y left right hy hx hw =
    let h : first_byte left + byte_count left right - 1 < g.stride = omega arith in
    omega (arith, digits_lt hy h)

module _ (g : Geometry) (y left right : ℕ) (image : List ℕ) (d : Device) (s : Sound g d) (idle : busy (fields_of d) ≡ false) (hy : y < height g) (hx : left < right) (hw : right ≤ width g)
    (long : length image ≡ screen_bytes g) where
  abbrev first : ℕ
  first = first_byte left

  abbrev count : ℕ
  count = byte_count left right

  abbrev line_bytes : List ℕ
  line_bytes = window (line_at g.stride y left) count image

  pub line-done : LineDone g (line_writes g y left right image) d (line_at g.stride y left) line_bytes
  unfolding line_writes takes_write device_done answer registers_after panel_after
  line-done =
      let t : not (busy (fields_of d)) ≡ true = rw idle refl in
      let d₁ = (device_done g (write 1 y) d).left in
      let s₁ = sound_done g (write 1 y) d s t in
      let d₂ = (device_done g (write 2 first) d₁).left in
      let s₂ = sound_done g (write 2 first) d₁ s₁ t in
      let d₃ = (device_done g (write 3 count) d₂).left in
      let s₃ = sound_done g (write 3 count) d₂ s₂ t in
      let fits = line-fits g (fields_of d₃) (record { on = hy; within = omega arith; some = omega arith }) in
      let t₃ : takes_write g (fields_of d₃) (Some Command) 2 ≡ true = rw (idle, fits) refl in
      let d₄ = (device_done g (write 0 2) d₃).left in
      let i : InLine g y first count 0 d₄ = subst (λ (o : Answer Device). InLine g y first count 0 o.left) (taken g (write 0 2) d₃ s₃ t₃) (starts g d₃ s₃ t₃) in
      let size : length line_bytes ≡ count = length-window (line_at g.stride y left) count image (rw long (line_room g y left right hy hx hw)) in
      let here : g.stride * y + (first + 0) ≡ line_at g.stride y left = omega arith in
      let k : LineDone g (map (write 4) line_bytes) d₄ (line_at g.stride y left) line_bytes =
      subst (λ (x : ℕ). LineDone g (map (write 4) line_bytes) d₄ x line_bytes) here (data_all g line_bytes d₄ i (rw size (omega arith)) (omega arith)) in
      quiet_first g (write 1 y) _ d s t refl refl (quiet_first g (write 2 first) _ d₁ s₁ t refl refl (quiet_first g (write 3 count) _ d₂ s₂ t refl refl (quiet_first g (write 0 2) _ d₃ s₃ t₃ refl refl k)))

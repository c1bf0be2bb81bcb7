-- The line driver: a send through the device. It has the send's answer and record, and writes the line's bytes to the controller.
use Rattle.std.specs.Prelude.{Bool, cond, not, ◌&&◌, List, [], ◌∷◌, map, ℕ, ◌+◌, ◌-◌, ◌*◌, ◌/◌, ltb, eqb, length}
use Rattle.model.specs.declared.Registers.{Registers}
use Rattle.model.specs.Geometry.{Geometry, screen_bytes, memory_bytes}
use Rattle.model.specs.Memory.{window}
use Rattle.model.specs.Rects.{is_empty}
use Rattle.model.specs.Record.{Pending, decode, panel_of}
use Rattle.model.specs.Refusals.{STATE, PANEL, REGISTER, Test, test, refusal, ruled}
use Rattle.model.specs.Sends.{take_owed}
use Rattle.model.specs.Calls.{send, lent, lent_test, state_test, done}
use Rattle.model.specs.Controller.{registers_of, registers_fit, busy, DeviceCall, write, Device, Answer, answer, device_fits, run_device}

-- what a driver call is lent: the image is the driver's own, of the panel's length
pub record Driven : Type 0 where
  pub rec : List ℕ
  pub memory : List ℕ
  pub device : Device
  pub image : List ℕ

abbrev pub driven : List ℕ → List ℕ → Device → List ℕ → Driven
driven r m d i = record { rec = r; memory = m; device = d; image = i }

-- ---- the writes that send the pixels from left to right of line y

-- the bytes of the line that hold these pixels: the first, and how many
abbrev pub first_byte : ℕ → ℕ
first_byte left = left / 8

abbrev pub byte_count : ℕ → ℕ → ℕ
byte_count left right = (right - 1) / 8 + 1 - left / 8

-- registers 1 to 3, command 2, and these bytes as the image has them
unfoldable pub line_writes : Geometry → ℕ → ℕ → ℕ → List ℕ → List DeviceCall
line_writes g y left right image =
    write 1 y ∷ write 2 (first_byte left) ∷ write 3 (byte_count left right) ∷ write 0 2 ∷
    map (write 4) (window (g.stride * y + first_byte left) (byte_count left right) image)

-- those of a send: the top line of what is in hand; idle: no write
unfoldable pub driver_writes : Geometry → Pending → List ℕ → List DeviceCall
driver_writes g p image = let q = (take_owed p).hand in cond (is_empty q) [] (line_writes g q.top q.left q.right image)

-- ---- the call

-- what is lent beside the record has its length
abbrev pub beside_fits : Geometry → Driven → Bool
beside_fits g l = eqb (length l.memory) memory_bytes && (device_fits g l.device && eqb (length l.image) (screen_bytes g))

-- what is tested after the record: the registers, the panel's number, and that the device is not busy
abbrev pub driver_tests : Geometry → ℕ → Registers → List Test
driver_tests g k r = test STATE (registers_fit g r) ∷ test PANEL (ltb k g.panels) ∷ test REGISTER (not (busy r)) ∷ []

unfoldable pub drive_refusals : Geometry → ℕ → Driven → List Test
drive_refusals g k l = lent_test g l.rec (beside_fits g l) ∷ state_test g l.rec ∷ driver_tests g k (registers_of l.device.registers)

-- The send's answer and record, with the image as its panel: the line's pixels come from the screen, all other bits stay. Then the device is sent the line's bytes
-- as the image has them now.
unfoldable pub drive_done : Geometry → ℕ → Driven → Answer Driven
drive_done g k l =
    let sent = done g (send k) (lent l.rec l.memory l.image) in
    let image = sent.left.panel in
    answer sent.code sent.numbers
    (driven sent.left.rec l.memory (run_device g (driver_writes g (panel_of g (decode g l.rec) k) image) l.device) image)

unfoldable pub drive_outcome : Geometry → ℕ → Driven → Answer Driven
drive_outcome g k l = ruled (refusal (drive_refusals g k l)) (λ c. answer c (0 ∷ 0 ∷ 0 ∷ 0 ∷ []) l) (drive_done g k l)

-- Driven sends leave what direct sends leave. docs/THEOREM.md says it in words. The device, its calls and `run_device` stand in crates/model/specs/Controller.antt, the
-- driver in Driver.antt there; Free, a device that the driver may use, and to_send in Sends.antt here.
use Rattle.std.specs.Prelude.{◌≡◌, true, false, List, [], ◌∷◌, ℕ, zero, suc, ◌+◌, ◌≤◌, ◌<◌}
use Rattle.model.specs.Geometry.{Geometry}
use Rattle.model.specs.declared.Rect.{Rect}
use Rattle.model.specs.Rects.{is_empty}
use Rattle.model.specs.Pixels.{place}
use Rattle.model.specs.Record.{listing}
use Rattle.model.specs.Calls.{send, Lent, outcome}
use Rattle.model.specs.Controller.{Device, run_device}
use Rattle.model.specs.Driver.{byte_count, Driven, line_writes, drive_outcome}
use Rattle.driving.specs.Copies.{line_at, pixel_of}
use Rattle.driving.specs.Writes.{AllDone, stored_bytes}
use Rattle.driving.specs.Sends.{Free}

-- ---- n sends to panel k, driven or direct: what they answer, codes first, and what they leave

unfoldable pub driven_answers : Geometry → ℕ → ℕ → Driven → List (List ℕ)
driven_answers g k zero l = []
driven_answers g k (suc n) l = let a = drive_outcome g k l in (a.code ∷ a.numbers) ∷ driven_answers g k n a.left

unfoldable pub driven_left : Geometry → ℕ → ℕ → Driven → Driven
driven_left g k zero l = l
driven_left g k (suc n) l = driven_left g k n (drive_outcome g k l).left

unfoldable pub sent_answers : Geometry → ℕ → ℕ → Lent → List (List ℕ)
sent_answers g k zero l = []
sent_answers g k (suc n) l = let o = outcome g (send k) l in (o.code ∷ o.numbers) ∷ sent_answers g k n o.left

unfoldable pub sent_left : Geometry → ℕ → ℕ → Lent → Lent
sent_left g k zero l = l
sent_left g k (suc n) l = sent_left g k n (outcome g (send k) l).left

-- the answers are the same, and so are record and memory; the device's panel and the image are as the direct panel
pub record DrivenAsSent (g : Geometry) (k n : ℕ) (l : Driven) (o : Lent) : Type 0 where
  pub answers : driven_answers g k n l ≡ sent_answers g k n o
  pub rec : (driven_left g k n l).rec ≡ (sent_left g k n o).rec
  pub memory : (driven_left g k n l).memory ≡ (sent_left g k n o).memory
  pub panel : (driven_left g k n l).device.panel ≡ (sent_left g k n o).panel
  pub image : (driven_left g k n l).image ≡ (sent_left g k n o).panel
  pub free : Free g (driven_left g k n l).device

-- ---- the bytes of a driven line

-- Each write is done; the data writes store bytes line_at, line_at + 1, .. of the panel, once each; these are the bytes that hold a pixel of the line, and no others.
pub record LineBytes (g : Geometry) (y left right : ℕ) (image : List ℕ) (d : Device) : Type 0 where
  pub done : AllDone g (line_writes g y left right image) d
  pub stored : stored_bytes g (line_writes g y left right image) d ≡ listing (λ i. i) (line_at g.stride y left) (byte_count left right)
  pub each : (x : ℕ) → left ≤ x → x < right → (line_at g.stride y left ≤ place g.stride x y) × (place g.stride x y < line_at g.stride y left + byte_count left right)
  pub no_other : (i : ℕ) → line_at g.stride y left ≤ i → i < line_at g.stride y left + byte_count left right
      → (left ≤ pixel_of g.stride y left i) × (pixel_of g.stride y left i < right) × (place g.stride (pixel_of g.stride y left i) y ≡ i)

-- a driver call that was lent l and leaves l' stores just the bytes that hold the pixels of the top line of q, or nothing when idle
pub record JustTheBytes (g : Geometry) (q : Rect) (l l' : Driven) : Type 0 where
  -- idle: the device stands as it was
  pub nothing : is_empty q ≡ true → l'.device ≡ l.device
  -- a line: the device is sent its bytes as the image has them now, and these writes store no other byte
  pub writes : is_empty q ≡ false → l'.device ≡ run_device g (line_writes g q.top q.left q.right l'.image) l.device
  pub bytes : is_empty q ≡ false → LineBytes g q.top q.left q.right l'.image l.device

-- Driven panels, in any order of calls: the driver's calls in the place of the sends to them, and every other call as it is. Each driven panel has a device of its own. Record,
-- memory and all buffers stand as with direct sends, and each device's panel is as its panel's buffer there: what crates/order promises of that buffer holds of it.
use Rattle.std.specs.Prelude.{◌≡◌, ◌≢◌, ◌⊎◌, Bool, true, false, ℕ, ◌-◌, ◌≤◌, ◌<◌, length, get_or, set, replicate}
use Rattle.std.proofs.Math.Path.{refl, ap}
use mathlib.Core.List.{List, [], ◌∷◌, map}
use Rattle.model.specs.Geometry.{Geometry, width, height, screen_bytes}
use Rattle.model.specs.Rects.{In}
use Rattle.model.specs.Calls.{opening, send, Lending, to_open, record_only, with_memory, with_fonts, with-panel, takes}
use Rattle.model.specs.Lists.{Typed, Item, here, elsewhere, Buffers, buffers, panel_buffer, after, run, own_band, Differs, differing}
use Rattle.model.specs.Controller.{Device, device}
use Rattle.model.specs.Driver.{driven, drive_outcome}
use Rattle.laws.specs.Tests.{clash}
use Rattle.order.specs.Accepted.{accepted_calls, named}
use Rattle.order.specs.Theorem.{pending_in, lines_in, most_lines, screen_in, Promised}
use Rattle.driving.specs.Sends.{Free}

-- what stands between the calls: the buffers, of which those of driven panels are the driver's images, and a device for each panel's number; that of a panel that is not
-- driven is never used
pub record Driving : Type 0 where
  pub buffers : Buffers
  pub devices : List Device

-- the device of panel k, without registers where there is none
abbrev pub device_of : ℕ → Driving → Device
device_of k w = get_or w.devices k (device [] [])

-- P of each driven panel
abbrev pub Each : (ℕ → Bool) → (ℕ → Type 0) → Type 0
Each drives P = (j : ℕ) → drives j ≡ true → P j

-- ---- the calls of such a list

-- no send to a driven panel
abbrev pub NotTo : (g : Geometry) → (ℕ → Bool) → Item g → Type 0
NotTo g drives (here c t) = Each drives (λ j. takes c ≢ with-panel j)
NotTo g drives (elsewhere c l r) = Unit {0}

pub data DrivenItem (g : Geometry) (drives : ℕ → Bool) : Type 0 where
  -- the driver, for a driven panel
  drive : (j : ℕ) → Typed (send j) → drives j ≡ true → DrivenItem g drives
  other : (i : Item g) → NotTo g drives i → DrivenItem g drives

-- what the driver leaves for panel j
unfoldable pub leaves_driven : Geometry → ℕ → Driving → Driving
leaves_driven g j w =
    let b = w.buffers in
    let a = drive_outcome g j (driven b.rec b.memory (device_of j w) (panel_buffer j b)) in
    record { buffers = buffers a.left.rec a.left.memory (set b.panels j a.left.image); devices = set w.devices j a.left.device }

unfoldable pub after_driven : (g : Geometry) (drives : ℕ → Bool) → Driving → DrivenItem g drives → Driving
after_driven g drives w (drive j t d) = leaves_driven g j w
after_driven g drives w (other i n) = record { buffers = after g w.buffers i; devices = w.devices }

unfoldable pub run_driven : (g : Geometry) (drives : ℕ → Bool) → Driving → List (DrivenItem g drives) → Driving
run_driven g drives w [] = w
run_driven g drives w (i ∷ is) = run_driven g drives (after_driven g drives w i) is

-- the same list with direct sends
unfoldable pub as_sent : (g : Geometry) (drives : ℕ → Bool) → DrivenItem g drives → Item g
as_sent g drives (drive j t d) = here (send j) t
as_sent g drives (other i n) = i

-- ---- one call

-- a device that the driver may use, with panel p
pub record Behind (g : Geometry) (p : List ℕ) (d : Device) : Type 0 where
  pub panel : d.panel ≡ p
  pub free : Free g d

-- what stands on the driven side, beside the buffers b of direct sends
pub record Beside (g : Geometry) (drives : ℕ → Bool) (w : Driving) (b : Buffers) : Type 0 where
  pub buffers : w.buffers ≡ b
  pub each : Each drives (λ j. Behind g (panel_buffer j b) (device_of j w))

-- ---- from an accepted open on

-- an open is no send
pub opens_no_panel : (k : ℕ) → to_open ≢ with-panel k
opens_no_panel k e = clash false (ap is_panel e) refl
  where
    is_panel : Lending → Bool
    is_panel to_open = false
    is_panel record_only = false
    is_panel with_memory = false
    is_panel (with_fonts f) = false
    is_panel (with-panel j) = true

-- so it may stand in such a list
abbrev pub open_item : (g : Geometry) (drives : ℕ → Bool) (graphics text version : ℕ) (keys : List ℕ) (edge : ℕ) → Typed (opening graphics text version keys edge) → DrivenItem g drives
open_item g drives graphics text version keys edge t = other (here (opening graphics text version keys edge) t) (λ j d. opens_no_panel j)

-- what demand 3 promises, of the panel behind driven panel k's controller; w is what stands
pub record PanelPromised (g : Geometry) (drives : ℕ → Bool) (k : ℕ) (w : Driving) : Type 0 where
  -- L is at most 95 on the base
  pub bound : lines_in g k w.buffers ≤ most_lines g
  -- a pixel that differs on screen and panel lies in hand or in what its own band owes
  pub places : (x y : ℕ) → x < width g → y < height g → Differs g (screen_in g w.buffers) (device_of k w).panel x y
      → In (pending_in g k w.buffers).hand x y ⊎ In (own_band g (pending_in g k w.buffers).owed y) x y
  -- refused calls, accepted sends to panels that are not driven and driver calls may follow, in any order, to the panels js: each that names k lowers L by one until
  -- it is 0 ..
  pub lines : (more : List (DrivenItem g drives)) (js : List ℕ) → accepted_calls g w.buffers (map (as_sent g drives) more) ≡ map send js
      → lines_in g k (run_driven g drives w more).buffers ≡ lines_in g k w.buffers - named k js
  -- .. and no pixel differs after them where L or more of them name k
  pub level : (more : List (DrivenItem g drives)) (js : List ℕ) → accepted_calls g w.buffers (map (as_sent g drives) more) ≡ map send js → lines_in g k w.buffers ≤ named k js
      → let w' = run_driven g drives w more in differing g (screen_in g w'.buffers) (device_of k w').panel ≡ 0
  -- L driver calls for k in a row are such a list
  pub level_row : (t : Typed (send k)) (d : drives k ≡ true) → let w' = run_driven g drives w (replicate (lines_in g k w.buffers) (drive k t d)) in
      differing g (screen_in g w'.buffers) (device_of k w').panel ≡ 0

-- what is promised after a list whose first call finds start
pub record PromisedDriven (g : Geometry) (drives : ℕ → Bool) (start : Driving) (list : List (DrivenItem g drives)) : Type 0 where
  -- record, memory and buffers are those of direct sends, and the panel behind each driven panel's controller is its buffer there
  pub beside : Beside g drives (run_driven g drives start list) (run g start.buffers (map (as_sent g drives) list))
  -- so all that is promised of direct sends holds of every panel's buffer, driven or not
  pub promised : (j : ℕ) → j < g.panels → length (panel_buffer j start.buffers) ≡ screen_bytes g
      → Promised g j start.buffers (map (as_sent g drives) list) (run_driven g drives start list).buffers
  -- and demand 3 of the panels behind the controllers
  pub behind : Each drives (λ k. PanelPromised g drives k (run_driven g drives start list))

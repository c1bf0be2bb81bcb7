-- Each call leaves the driven side beside the direct one, so every list does; what crates/order promises of a buffer then holds of the panel behind its controller.
use Rattle.std.specs.Prelude.{◌≡◌, ◌≢◌, Bool, true, ℕ, zero, suc, ◌≤◌, ◌<◌, length, get_or, set, replicate}
use Rattle.std.proofs.Math.Path.{refl, sym, ap, subst}
use Rattle.std.proofs.Common.{◌∙◌, arith}
use mathlib.Core.List.{List, [], ◌∷◌, map}
use Rattle.std.proofs.Math.Seq.{get_or-set_same, get_or-set_other}
use Rattle.model.specs.Geometry.{Geometry, base, screen_bytes}
use Rattle.model.specs.Glass.{IsGlass}
use Rattle.model.specs.Calls.{opening, send, Lent, lent, Lending, to_open, record_only, with_memory, with_fonts, with-panel, takes, outcome}
use Rattle.model.specs.Lists.{accepted, Typed, Item, here, elsewhere, Buffers, buffers, panel_buffer, lent_to_send, lent_to, given_back, leaves, after, run, differing}
use Rattle.model.specs.Controller.{register_bytes, Device, device}
use Rattle.model.specs.Driver.{Driven, driven, drive_outcome}
use Rattle.laws.specs.Tests.{by_eq}
use Rattle.laws.specs.ListLaws.{map-replicate}
use Rattle.laws.specs.Glasses.{base_glass}
use Rattle.order.specs.Step.{Lendable}
use Rattle.order.specs.EachCall.{buffer_there, item_step}
use Rattle.order.specs.Order.{standing-opened}
use Rattle.order.specs.Theorem.{lines_in, screen_in, Promised}
use Rattle.driving.specs.Sends.{Free, Same, same_send}
use Rattle.order.proofs.Theorem.{calls_on_any_glass}
use Rattle.driving.specs.InAnyOrder.{Driving, device_of, Each, NotTo, DrivenItem, drive, other, leaves_driven, after_driven, run_driven, as_sent, Behind, Beside, opens_no_panel, open_item, PanelPromised, PromisedDriven}

-- ---- one call

-- a call that is no send to panel k leaves that panel's buffer
given-back : (k : ℕ) (t : Lending) (b : Buffers) (l : Lent) → t ≢ with-panel k → panel_buffer k (given_back t b l) ≡ panel_buffer k b
unfolding given_back
given-back k to_open b l n = refl
given-back k record_only b l n = refl
given-back k with_memory b l n = refl
given-back k (with_fonts f) b l n = refl
given-back k (with-panel j) b l n = get_or-set_other b.panels j k l.panel [] (λ e. n (ap with-panel (sym e)))

-- a device with its registers is there
device_there : (ds : List Device) (k : ℕ) → length (get_or ds k (device [] [])).registers ≡ register_bytes → k < length ds
device_there [] k h = absurd (omega arith)
device_there (d ∷ ds) zero h = omega arith
device_there (d ∷ ds) (suc k) h = omega (arith, device_there ds k h)

module _ (g : Geometry) (drives : ℕ → Bool) where
  other_leaves : (b : Buffers) (i : Item g) → NotTo g drives i → Each drives (λ j. panel_buffer j (after g b i) ≡ panel_buffer j b)
  unfolding after leaves
  other_leaves b (here c t) n j d = given-back j (takes c) b (outcome g c (lent_to (takes c) b)).left (n j d)
  other_leaves b (elsewhere c l r) n j d = refl

  module _ (there : Each drives (λ j. j < g.panels)) where
    beside_item : (w : Driving) (b : Buffers) (i : DrivenItem g drives) → Each drives (λ j. Lendable g (lent_to_send j b)) → Beside g drives w b
        → Beside g drives (after_driven g drives w i) (after g b (as_sent g drives i))
    unfolding after_driven as_sent leaves_driven after leaves lent_to given_back
    beside_item w b (other i n) l e = record {
      buffers = ap (λ (x : Buffers). after g x i) e.buffers;
      each = λ j d. record { panel = (e.each j d).panel ∙ sym (other_leaves b i n j d); free = (e.each j d).free };
    }
    -- the driver and the direct send find the same bytes
    beside_item w b (drive j t d) l e =
        let u = w.buffers in
        let p = panel_buffer j b in
        let f = e.each j d in
        let c = (device_of j w).registers in
        let q = l j d in
        let o = outcome g (send j) (lent_to_send j b) in
        let found : driven u.rec u.memory (device_of j w) (panel_buffer j u) ≡ driven b.rec b.memory (device c p) p =
        λ i. driven (e.buffers i).rec (e.buffers i).memory (device c (f.panel i)) (panel_buffer j (e.buffers i)) in
        let s : Same g (drive_outcome g j (driven u.rec u.memory (device_of j w) (panel_buffer j u))) o =
        subst (λ (x : Driven). Same g (drive_outcome g j x) o) (sym found)
        (same_send g q.passing.glass j b.rec b.memory c p (subst (λ (x : List ℕ). Free g (device c x)) f.panel f.free) q.passing.bytes) in
        record {
          buffers = λ i. buffers (s.rec i) (s.memory i) (set (e.buffers i).panels j (s.image i));
          each = λ i h. by_eq i j
              (λ z. rw (z, get_or-set_same w.devices j _ (device [] []) (device_there w.devices j f.free.registers), get_or-set_same b.panels j o.left.panel [] (buffer_there g j (there j d) b q)) (record { panel = s.panel; free = s.free }))
              (λ n. rw (get_or-set_other w.devices j i _ (device [] []) n, get_or-set_other b.panels j i o.left.panel [] n) (e.each i h));
        }

    pub beside_run : (w : Driving) (b : Buffers) (is : List (DrivenItem g drives)) → Each drives (λ j. Lendable g (lent_to_send j b)) → Beside g drives w b
        → Beside g drives (run_driven g drives w is) (run g b (map (as_sent g drives) is))
    unfolding run_driven run
    beside_run w b [] l e = e
    beside_run w b (i ∷ is) l e =
        beside_run (after_driven g drives w i) (after g b (as_sent g drives i)) is (λ j d. (item_step g j (there j d) b (l j d) (as_sent g drives i)).lendable) (beside_item w b i l e)

-- ---- from an accepted open on

-- the lists that follow go on beside direct sends from the buffers of w
panel_promised : (g : Geometry) (drives : ℕ → Bool) → Each drives (λ j. j < g.panels) → (w : Driving) {start : Buffers} {items : List (Item g)} → Each drives (λ j. Lendable g (lent_to_send j w.buffers))
    → Beside g drives w w.buffers → (k : ℕ) → drives k ≡ true → Promised g k start items w.buffers → PanelPromised g drives k w
unfolding as_sent
panel_promised g drives there w l e k d p =
    let b = w.buffers in
    let more : (is : List (DrivenItem g drives)) → Beside g drives (run_driven g drives w is) (run g b (map (as_sent g drives) is)) = λ is. beside_run g drives there w b is l e in
    let levels : (is : List (DrivenItem g drives)) → differing g (screen_in g (run g b (map (as_sent g drives) is))) (panel_buffer k (run g b (map (as_sent g drives) is))) ≡ 0
    → differing g (screen_in g (run_driven g drives w is).buffers) (device_of k (run_driven g drives w is)).panel ≡ 0 =
    λ is h. (λ i. differing g (screen_in g ((more is).buffers i)) (((more is).each k d).panel i)) ∙ h in
    record {
      bound = p.bound;
      places = λ x y hx hy. rw (e.each k d).panel (p.places x y hx hy);
      lines = λ is js a. ap (lines_in g k) (more is).buffers ∙ p.lines (map (as_sent g drives) is) js a;
      level = λ is js a h. levels is (p.level (map (as_sent g drives) is) js a h);
      level_row = λ t h. levels (replicate (lines_in g k b) (drive k t h)) (rw (map-replicate (as_sent g drives) (lines_in g k b) (drive k t h)) (p.level_row t));
    }

-- The theorem, for each glass and for any of its panels that are driven: an accepted open, lent any record and any memory, beside panel buffers of which those of driven
-- panels have their length and are the driver's images; for each of these a device of its own whose registers pass and are not busy, with a panel of the same bytes; and
-- then every list of driver calls for driven panels and of other calls, accepted or refused.
pub driven_in_any_order : (g : Geometry) → IsGlass g → (drives : ℕ → Bool) → Each drives (λ j. j < g.panels)
    → (graphics text version : ℕ) (keys : List ℕ) (edge : ℕ) (t : Typed (opening graphics text version keys edge)) (w : Driving)
    → accepted g (opening graphics text version keys edge) (lent w.buffers.rec w.buffers.memory [])
    → Each drives (λ j. length (panel_buffer j w.buffers) ≡ screen_bytes g) → Each drives (λ j. Behind g (panel_buffer j w.buffers) (device_of j w))
    → (is : List (DrivenItem g drives)) → PromisedDriven g drives w (open_item g drives graphics text version keys edge t ∷ is)
unfolding run_driven run after_driven as_sent
driven_in_any_order g z drives there graphics text version keys edge t w a n f is =
    let b = w.buffers in
    let first = here (opening graphics text version keys edge) t in
    let sent = map (as_sent g drives) is in
    let stands : (items : List (Item g)) → Each drives (λ j. Lendable g (lent_to_send j (run g b (first ∷ items)))) =
    λ items j d. (standing-opened g j (there j d) z graphics text version keys edge t b a (n j d) items).lendable in
    let opened : Driving = record { buffers = after g b first; devices = w.devices } in
    let e : Beside g drives (run_driven g drives opened is) (run g b (first ∷ sent)) =
    beside_run g drives there opened (after g b first) is (stands [])
    (record { buffers = refl; each = λ j d. record { panel = (f j d).panel ∙ sym (other_leaves g drives b first (λ i h. opens_no_panel i) j d); free = (f j d).free } }) in
    let promised : (j : ℕ) → j < g.panels → length (panel_buffer j b) ≡ screen_bytes g → Promised g j b (first ∷ sent) (run_driven g drives opened is).buffers =
    λ j h m. rw e.buffers (calls_on_any_glass g z j h graphics text version keys edge t b.rec b.memory b.panels a m sent) in
    record {
      beside = e;
      promised = promised;
      behind = λ k d.
          panel_promised g drives there (run_driven g drives opened is) (λ j h. rw e.buffers (stands sent j h)) (rw e.buffers e) k d (promised k (there k d) (n k d));
    }

-- document 01's glass, in numbers. One driven panel k with one device: drives is `eqb k`, and the device stands in place k
pub driven_on_base : (drives : ℕ → Bool) → Each drives (λ j. j < 4) → (graphics text version : ℕ) (keys : List ℕ) (edge : ℕ) (t : Typed (opening graphics text version keys edge)) (w : Driving)
    → accepted base (opening graphics text version keys edge) (lent w.buffers.rec w.buffers.memory [])
    → Each drives (λ j. length (panel_buffer j w.buffers) ≡ 1600) → Each drives (λ j. Behind base (panel_buffer j w.buffers) (device_of j w)) → (is : List (DrivenItem base drives))
    → let list = open_item base drives graphics text version keys edge t ∷ is in
    PromisedDriven base drives w list × Each drives (λ k. lines_in base k (run_driven base drives w list).buffers ≤ 95)
driven_on_base drives there graphics text version keys edge t w a n f is =
    let p = driven_in_any_order base base_glass drives there graphics text version keys edge t w a n f is in
    (p, λ k d. omega (arith, (p.behind k d).bound))

-- One panel's state, what an effect makes of it, and what holds of it after every call, whatever its effect is.
use Rattle.std.specs.Prelude.{◌≡◌, refl, ◌≢◌, ◌⊎◌, cond, List, ℕ, ◌+◌, ◌-◌, ◌/◌, ◌≤◌, ◌<◌, ltb, eqb, length}
use Rattle.std.proofs.Common.{sym, ap, ◌∙◌, inl, inr, arith}
use Rattle.model.specs.declared.Rect.{Rect}
use Rattle.model.specs.Geometry.{Geometry, width, height, screen_bytes}
use Rattle.model.specs.Rects.{none, In, is_empty, lines_of}
use Rattle.model.specs.Record.{Pending, nothing_pending, WellPending}
use Rattle.model.specs.Marks.{whole, owing}
use Rattle.model.specs.Open.{open_pending}
use Rattle.model.specs.Sends.{take_owed, next_line, line_sent, send_pending, copy_line, send_panel}
use Rattle.model.specs.Lists.{Effect, nothing, marks, opens, sends, affected, own_band, Differs, lines_left, differing}
use Rattle.laws.specs.Tests.{tests, if_cases, by_test, by_eq, by_lt, clash, either}
use Rattle.laws.specs.Pixels.{place-lt, length-copy_run, copy_run_other, copy_run_same}
use Rattle.laws.specs.Rects.{Proper, dec_in, in_not_none, not_in_none}
use Rattle.laws.specs.Bands.{owing_keeps, owing_marks, in_split, in_lines, well_nothing, well_owing, well_open, well_send, low_send, to-send}
use Rattle.laws.specs.Writes.{AgreeOutside}
use Rattle.laws.specs.Counts.{none_differ}

-- the screen, the panel, and what the panel has still to be sent
pub record PanelState : Type 0 where
  pub screen : List ℕ
  pub panel : List ℕ
  pub pending : Pending

-- where the screen may change: inside the mark; anywhere where all of it is owed
abbrev pub touched : Geometry → Effect → Rect
touched g nothing = none
touched g (marks m) = m
touched g (opens edge) = whole g.stride (height g)
touched g (sends j) = none

-- a send to panel k copies its line there, and nothing else writes there
abbrev pub panel_after : Geometry → ℕ → PanelState → Effect → List ℕ
panel_after g k s nothing = s.panel
panel_after g k s (marks m) = s.panel
panel_after g k s (opens edge) = s.panel
panel_after g k s (sends j) = cond (eqb j k) (send_panel g.stride s.pending s.screen s.panel) s.panel

-- t is what stands of panel k after an effect on s
pub record Follows (g : Geometry) (k : ℕ) (s : PanelState) (e : Effect) (t : PanelState) : Type 0 where
  pub pending : t.pending ≡ affected g k s.pending e
  pub panel : t.panel ≡ panel_after g k s e
  pub screen : AgreeOutside g.stride (height g) (touched g e) s.screen t.screen

-- ---- what holds

-- every pixel that differs lies in hand or is owed in its own band
abbrev pub Covered : Geometry → List ℕ → List ℕ → Pending → Type 0
Covered g s p q = (x y : ℕ) → x < width g → y < height g → Differs g s p x y → In q.hand x y ⊎ In (own_band g q.owed y) x y

-- between calls a line of the band in hand has been sent, so its height is at most that of a band less one
pub record Held (g : Geometry) (s : PanelState) : Type 0 where
  pub long : length s.panel ≡ screen_bytes g
  pub well : WellPending g s.pending
  pub low : lines_of s.pending.hand ≤ g.band - 1
  pub covered : Covered g s.screen s.panel s.pending

-- ---- a send

covered_take : (g : Geometry) (s p : List ℕ) (q : Pending) → Covered g s p q → Covered g s p (take_owed q)
unfolding take_owed
covered_take g s p q c =
    if_cases (Covered g s p) (is_empty q.hand)
    (λ e x y hx hy d. either (c x y hx hy d) (λ i. clash (is_empty q.hand) e (in_not_none q.hand x y i)) (in_split q.owed (y / g.band) x y))
    (λ e. c)

-- a pixel of r below its top line is one of what is left
next_in : (r : Rect) (x y : ℕ) → In r x y → y ≢ r.top → In (next_line r) x y
unfolding next_line
next_in r x y i n = if_cases (λ (q : Rect). In q x y) (ltb (r.top + 1) r.bottom) (λ e. omega arith) (λ e. omega (arith, tests))

-- a pixel that differs after the top line of r is sent differed before, and is not one of the line
line-differs : (g : Geometry) (r : Rect) → Proper (width g) 0 (height g) r → (s p : List ℕ) → length p ≡ screen_bytes g → (x y : ℕ) → x < width g
    → Differs g s (copy_line g.stride r s p) x y → Differs g s p x y × (In r x y → y ≢ r.top)
unfolding copy_line
line-differs g r w s p l x y hx d =
    by_eq y r.top
    (λ e. by_lt x r.left
    (λ b. (elsewhere (inr (inl b)), λ i. absurd (omega arith)))
    (λ b. by_lt x r.right
    (λ u. absurd (d (rw e (sym (copy_run_same g.stride s r.top r.left (r.right - r.left) p x (omega arith)
    (λ j h. rw l (place-lt g.stride (height g) j r.top h (omega arith))) b (omega arith))))))
    (λ u. (elsewhere (inr (inr (omega arith))), λ i. absurd (omega arith)))))
    (λ n. (elsewhere (inl n), λ i. n))
  where
    elsewhere : (y ≢ r.top) ⊎ ((x < r.left) ⊎ (r.left + (r.right - r.left) ≤ x)) → Differs g s p x y
    elsewhere o e = d (e ∙ sym (copy_run_other g.stride s r.top r.left (r.right - r.left) p x y (omega arith) hx o))

pub length_send : (st : ℕ) (s p : List ℕ) (q : Pending) → length (send_panel st q s p) ≡ length p
unfolding send_panel copy_line
length_send st s p q =
    if_cases (λ (l : List ℕ). length l ≡ length p) (is_empty (take_owed q).hand) (λ e. refl) (λ e. length-copy_run st s _ _ _ p)

held_send : (g : Geometry) (s : PanelState) → Held g s → Held g (record { screen = s.screen; panel = send_panel g.stride s.pending s.screen s.panel; pending = send_pending s.pending })
unfolding send_panel send_pending line_sent
held_send g s h =
    let q = s.pending in
    let r = (take_owed q).hand in
    record {
      long = length_send g.stride s.screen s.panel q ∙ h.long;
      well = well_send g q h.well;
      low = low_send g q h.well h.low;
      covered = by_test (is_empty r) (λ e. rw e h.covered)
          (λ e. rw e (λ x y hx hy d.
          let k = line-differs g r (to-send g q h.well e) s.screen s.panel h.long x y hx d in
          either (covered_take g s.screen s.panel q h.covered x y hx hy k.0) (λ i. inl (next_in r x y i (k.1 i))) inr));
    }

-- ---- every effect

-- an opening owes every pixel: it needs nothing of what stood before but the panel's length
pub held_open : (g : Geometry) (t : PanelState) → length t.panel ≡ screen_bytes g → t.pending ≡ open_pending g → Held g t
unfolding open_pending owing nothing_pending
held_open g t l e =
    let c : Covered g t.screen t.panel (open_pending g) = λ x y hx hy d.
    inr (owing_marks g (whole g.stride (height g)) (nothing_pending g) (well_nothing g).bands x y hy hx (omega arith)) in
    record { long = l; well = rw e (well_open g); low = rw e (omega arith); covered = rw e c }

-- what holds of s holds of t with the same panel and pending lines, where the screens agree
held_same : (g : Geometry) (s t : PanelState) → Held g s → AgreeOutside g.stride (height g) none s.screen t.screen → t.panel ≡ s.panel → t.pending ≡ s.pending → Held g t
held_same g s t h a e f =
    let c : Covered g t.screen s.panel s.pending = λ x y hx hy d. h.covered x y hx hy (λ i. d (a x y hx hy (not_in_none x y) ∙ i)) in
    record { long = rw e h.long; well = rw f h.well; low = rw f h.low; covered = rw (e, f) c }

pub held_after : (g : Geometry) (k : ℕ) (s : PanelState) (e : Effect) (t : PanelState) → Held g s → Follows g k s e t → Held g t
unfolding affected owing
held_after g k s nothing t h f = held_same g s t h f.screen f.panel f.pending
held_after g k s (marks m) t h f =
    let q = s.pending in
    let c : Covered g t.screen s.panel (owing g m q) = λ x y hx hy d.
    either (dec_in m x y) (λ i. inr (owing_marks g m q h.well.bands x y hy hx i))
    (λ n. either (h.covered x y hx hy (λ e. d (f.screen x y hx hy n ∙ e))) inl (λ i. inr (owing_keeps g m q h.well.bands x y hy i))) in
    record { long = rw f.panel h.long; well = rw f.pending (well_owing g m q h.well); low = rw f.pending h.low; covered = rw (f.panel, f.pending) c }
held_after g k s (opens edge) t h f = held_open g t (ap length f.panel ∙ h.long) f.pending
held_after g k s (sends j) t h f =
    by_test (eqb j k)
    (λ e. held_same g _ t (held_send g s h) f.screen (rw e at f.panel) (rw e at f.pending))
    (λ e. held_same g s t h f.screen (rw e at f.panel) (rw e at f.pending))

-- ---- no line left: no pixel differs

pub none_left : (g : Geometry) (s : PanelState) → Held g s → lines_left s.pending ≡ 0 → differing g s.screen s.panel ≡ 0
unfolding lines_left
none_left g s h z =
    none_differ g s.screen s.panel
    (λ x y hx hy d. either (h.covered x y hx hy d) (λ i. omega arith) (λ i. omega (arith, in_lines s.pending.owed (y / g.band) x y i)))

-- What belongs to one panel alone: a send touches the part and the buffer of the panel that it names, a mark touches no rectangle in hand and no count, and a
-- number that names no panel is refused.
use Rattle.std.specs.Prelude.{◌≡◌, refl, ◌≢◌, ◌⊎◌, List, [], ◌++◌, ℕ, ◌+◌, ◌≤◌, ◌<◌, eqb, length}
use Rattle.std.proofs.Common.{sym, ap, ◌∙◌, arith, length-append, get_or-set_other, ltb-true, le-ltb, ne_eqb}
use Rattle.model.specs.Geometry.{Geometry}
use Rattle.model.specs.Glass.{IsGlass}
use Rattle.model.specs.Memory.{window, with_window}
use Rattle.model.specs.Bytes.{rect_bytes, rects_bytes, four_bytes, Bytes}
use Rattle.model.specs.Record.{Pending, panel, at, part_in, pending_bytes, bytes_of_pending, nothing_pending, part_bytes, panel_of, decode, encode, with_panel}
use Rattle.model.specs.Refusals.{PANEL, refusal}
use Rattle.model.specs.Marks.{owing}
use Rattle.model.specs.Sends.{send_pending}
use Rattle.model.specs.Calls.{Call, opening, reset, draw, check_point, print, newline, cls, write_byte, flush, get_row, get_column, set_row, set_column, set_screen_mode, set_print_mode, blink_cursor, clear_cursor, take_dirty_area, send, Lent, takes, refusals, answered, done}
use Rattle.model.specs.Lists.{accepted, Typed, Buffers, panel_buffer, lent_to_send, lent_to, given_back, leaves, Effect, blinks, effect, affected}
use Rattle.laws.specs.Tests.{if_cases}
use Rattle.laws.specs.Memory.{window_other}
use Rattle.laws.specs.Layout.{length_rects}
use Rattle.laws.specs.Record.{Passing, has_panel, part-in, part-encode, put_panel, sized_panel, encode-decode, sized_decode, count-decode}
use Rattle.laws.specs.States.{well_formed}
use Rattle.laws.specs.Bands.{well_send}
use Rattle.laws.specs.Calls.{Tested, accepted_call, own_decide}
use Rattle.order.specs.Step.{Lendable}
use Rattle.order.specs.Accepted.{done_on, leaves-done}
use Rattle.order.specs.EachCall.{call_step}

-- ---- a send

-- what a send to panel j leaves as it was: every window of the record that lies outside panel j's part, so the part of every other panel; all of memory; the buffer of
-- every other panel
pub record SentApart (g : Geometry) (j : ℕ) (b b' : Buffers) : Type 0 where
  pub outside : (c n : ℕ) → (c + n ≤ at g (panel j)) ⊎ (at g (panel j) + pending_bytes g ≤ c) → window c n b'.rec ≡ window c n b.rec
  pub parts : (k : ℕ) → k < g.panels → k ≢ j → part_in g (panel k) b'.rec ≡ part_in g (panel k) b.rec
  pub memory : b'.memory ≡ b.memory
  pub others : (k : ℕ) → k ≢ j → panel_buffer k b' ≡ panel_buffer k b

length-pending : (g : Geometry) (p : Pending) → length p.owed ≡ g.bands → length (bytes_of_pending p) ≡ pending_bytes g
length-pending g p e = omega (arith, length-append (rects_bytes p.owed) (rect_bytes p.hand ++ four_bytes p.sent), length_rects p.owed)

pub send_apart : (g : Geometry) → IsGlass g → (j : ℕ) (b : Buffers) → Bytes b.rec → accepted g (send j) (lent_to_send j b) → SentApart g j b (leaves g (send j) b)
unfolding lent_to given_back done answered part_bytes
send_apart g z j b bytes a =
    let l = lent_to_send j b in
    let r = b.rec in
    let s = decode g r in
    let tested = accepted_call g (send j) l (omega arith) a in
    let there : j < g.panels = ltb-true j g.panels tested.1.0 in
    let passing : Passing g r = record { glass = z; sized = tested.0.sized; bytes = bytes; passes = tested.0.state.0 } in
    let p = send_pending (panel_of g s j) in
    let w = well_send g (panel_of g s j) ((well_formed g r passing).panels j there) in
    let room = part-in g (panel j) (has_panel g j there) in
    let sized = sized_decode g r tested.0.sized in
    let sent = sized_panel g j p s sized (omega (arith, count-decode g r)) w.bands in
    let put : encode g (with_panel j p s) ≡ with_window (at g (panel j)) (bytes_of_pending p) r =
    sym (put_panel g j p s z sized there (count-decode g r) w.bands) ∙ ap (with_window (at g (panel j)) (bytes_of_pending p)) (encode-decode g r passing) in
    let long = length-pending g p w.bands in
    rw (leaves-done g (send j) b a)
    (record {
      outside = λ c n o. ap (window c n) put ∙ window_other (at g (panel j)) (bytes_of_pending p) r c n (rw long (omega arith)) (rw long o);
      parts = λ k h n.
          part-encode g (with_panel j p s) sent (panel k) (has_panel g k h) ∙ ap bytes_of_pending (get_or-set_other s.panels j k p (nothing_pending g) n)
          ∙ sym (part-encode g s sized (panel k) (has_panel g k h)) ∙ ap (part_in g (panel k)) (encode-decode g r passing);
      memory = refl;
      others = λ k n. get_or-set_other b.panels j k _ [] n;
    })

-- ---- a mark

-- the rectangle in hand and the lines sent of panel k, after an effect
abbrev HandKept : Geometry → ℕ → Pending → Effect → Type 0
HandKept g k p e = ((affected g k p e).hand ≡ p.hand) × ((affected g k p e).sent ≡ p.sent)

module _ (g : Geometry) (k : ℕ) (p : Pending) (l : Lent) where
  hand_kept : (c : Call) → ((graphics text version : ℕ) (keys : List ℕ) (edge : ℕ) → c ≢ opening graphics text version keys edge) → c ≢ send k → HandKept g k p (effect g c l)
  unfolding effect blinks affected owing
  hand_kept (opening graphics text version keys edge) o n = absurd (o graphics text version keys edge refl)
  hand_kept reset o n = (refl, refl)
  hand_kept (draw s) o n = (refl, refl)
  hand_kept (check_point x y) o n = (refl, refl)
  hand_kept (print bs) o n = (refl, refl)
  hand_kept newline o n = (refl, refl)
  hand_kept cls o n = (refl, refl)
  hand_kept (write_byte i v) o n = (refl, refl)
  hand_kept (flush f) o n = (refl, refl)
  hand_kept get_row o n = (refl, refl)
  hand_kept get_column o n = (refl, refl)
  hand_kept (set_row i) o n = (refl, refl)
  hand_kept (set_column i) o n = (refl, refl)
  hand_kept (set_screen_mode i) o n = (refl, refl)
  hand_kept (set_print_mode i) o n = (refl, refl)
  hand_kept blink_cursor o n = if_cases (HandKept g k p) (eqb (decode g l.rec).head.screen 0) (λ e. (refl, refl)) (λ e. (refl, refl))
  hand_kept clear_cursor o n =
      let h = (decode g l.rec).head in
      if_cases (HandKept g k p) (eqb h.cursor 0) (λ e. (refl, refl)) (λ e. if_cases (HandKept g k p) (eqb h.screen 0) (λ e. (refl, refl)) (λ e. (refl, refl)))
  hand_kept take_dirty_area o n = (refl, refl)
  hand_kept (send j) o n = rw (ne_eqb j k (λ e. n (ap send e))) (refl, refl)

-- every accepted call but open and a send to panel k leaves them: every mark, that of reset too, and a send to another panel
pub hand_stays : (g : Geometry) (k : ℕ) → k < g.panels → (b : Buffers) → Lendable g (lent_to_send k b) → (c : Call) → Typed c → accepted g c (lent_to (takes c) b)
    → ((graphics text version : ℕ) (keys : List ℕ) (edge : ℕ) → c ≢ opening graphics text version keys edge) → c ≢ send k
    → let p = panel_of g (decode g b.rec) k in let p' = panel_of g (decode g (done_on g c b).rec) k in (p'.hand ≡ p.hand) × (p'.sent ≡ p.sent)
hand_stays g k there b q c t a o n =
    rw (call_step g k there b q c t a).follows.pending (hand_kept g k (panel_of g (decode g b.rec) k) (lent_to (takes c) b) c o n)

-- ---- a number that names no panel

-- it is refused whatever is lent ..
pub no_such_panel : (g : Geometry) (j : ℕ) (l : Lent) → g.panels ≤ j → accepted g (send j) l → ⊥
no_such_panel g j l h a = let t = ltb-true j g.panels (accepted_call g (send j) l (omega arith) a).1.0 in omega arith

-- .. and as PANEL where the lengths and STATE pass
pub panel_refused : (g : Geometry) (j : ℕ) (l : Lent) → g.panels ≤ j → Tested g (send j) l → refusal (refusals g (send j) l) ≡ PANEL
unfolding refusal
panel_refused g j l h t = own_decide g (send j) l t ∙ rw (le-ltb j g.panels h) refl

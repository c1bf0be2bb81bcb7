-- A send on the bytes of a panel's part: what is owed moves into hand, the hand loses a line, the count gains one.
use Rattle.std.specs.Prelude.{◌≡◌, refl, Bool, ℕ, ◌+◌, ◌*◌, ◌<◌, ◌≤◌, min, get_or}
use Rattle.std.proofs.Math.Path.{ap}
use Rattle.std.proofs.Common.{◌∙◌}
use Rattle.std.proofs.Math.Bool.{true, false}
use mathlib.Core.List.{List, ◌++◌, append_assoc}
use native.Mathlib.Omega.{arith}
use Rattle.std.proofs.Math.ListN.{length, length-append}
use Rattle.std.proofs.lemmas.List.{set-get_or}
use Rattle.model.specs.declared.Rect.{Rect}
use Rattle.model.specs.declared.glass.Glass.{Glass}
use Rattle.model.specs.Geometry.{Geometry, width, height}
use Rattle.model.specs.Glass.{geometry}
use Rattle.model.specs.Memory.{with_window}
use Rattle.model.specs.Rects.{is_empty}
use Rattle.model.specs.Bytes.{rect_at, rect_bytes, rects_bytes, four, four_bytes, Bytes}
use Rattle.model.specs.Record.{panel, at, Pending, decode, encode, pending_of, panel_of, nothing_pending, with_panel, with_panels, WellPending}
use Rattle.model.specs.Sends.{take_owed, next_line, line_sent, send_pending}
use Rattle.laws.specs.Tests.{if_cases, either}
use Rattle.laws.specs.Rects.{Proper}
use Rattle.laws.specs.Memory.{window_extend}
use Rattle.laws.specs.Layout.{length_rects}
use Rattle.laws.specs.Bands.{hand_fits, well_take, to-send, none_left}
use Rattle.laws.specs.Record.{Passing, encode-decode, panel_decoded, put_panel, sized_decode, count-decode}
use Rattle.laws.specs.Windows.{pending-part}
use Rattle.laws.specs.States.{well_formed}
use Rattle.laws.specs.Owed.{Took, rested, owed_again}
use Rattle.laws.specs.Panels.{panel_room}

-- ---- taken in hand

-- the hand, and the bytes with what is still owed
pub record InHand (g : Geometry) (a : ℕ) (r : List ℕ) (q : Rect) (r' : List ℕ) : Type 0 where
  pub hand : q ≡ (take_owed (pending_of g r a)).hand
  pub owed : r' ≡ with_window a (rects_bytes (take_owed (pending_of g r a)).owed) r

pub hand_full : (g : Geometry) (a : ℕ) (r : List ℕ) {q : Rect} {t : Bool} → ((i : ℕ) → get_or r i 0 < 256) → a + 8 * g.bands ≤ length r
    → q ≡ rect_at r (a + 8 * g.bands) → t ≡ is_empty q → t ≡ false → InHand g a r q r
unfolding take_owed Bytes
hand_full g a r b h e f k = record { hand = cc; owed = cc (owed_again g.bands a r b h) }

pub hand_taken : (g : Geometry) (a : ℕ) (r : List ℕ) {q p : Rect} {t : Bool} {r' : List ℕ} → q ≡ rect_at r (a + 8 * g.bands) → t ≡ is_empty q → t ≡ true
    → Took g.bands a r p r' → InHand g a r p r'
unfolding take_owed rested
hand_taken g a r e f k w = record { hand = cc; owed = cc }

taken_sent : (p : Pending) → (take_owed p).sent ≡ p.sent
unfolding take_owed
taken_sent p = if_cases (λ (q : Pending). q.sent ≡ p.sent) (is_empty p.hand) (λ t. refl) (λ t. refl)

-- ---- as the code goes, with the glass by value

module _ {r : List ℕ} (k : ℕ) (v : Glass) (w : Passing (geometry v) r) (h : k < v.panels) where
  -- the panel's part where it stands
  panel_here : panel_of (geometry v) (decode (geometry v) r) k ≡ pending_of (geometry v) r (at (geometry v) (panel k))
  panel_here = panel_decoded (geometry v) r k h ∙ pending-part (geometry v) r k

  well : WellPending (geometry v) (panel_of (geometry v) (decode (geometry v) r) k)
  well = (well_formed (geometry v) r w).panels k h

  pub line-sent : {a : ℕ} {q : Rect} {r' : List ℕ} → a ≡ at (geometry v) (panel k)
      → InHand (geometry v) a r q r' → q ≡ (take_owed (panel_of (geometry v) (decode (geometry v) r) k)).hand
  line-sent e i = cc panel_here

  -- what is in hand lies on the screen, so that a line can follow its top
  pub line_follows : {a : ℕ} {q : Rect} {r' : List ℕ} → a ≡ at (geometry v) (panel k) → InHand (geometry v) a r q r' → q.top < 65535
  line_follows e i = rw (line-sent e i) (either (hand_fits _ _ (well_take _ _ well)) (λ z. rw z (omega arith)) (λ z. omega arith))

  -- idle: the record stays
  pub idle : {a : ℕ} {q : Rect} {r' : List ℕ} {t : Bool} → a ≡ at (geometry v) (panel k) → InHand (geometry v) a r q r' → t ≡ is_empty q → t ≡ true
      → r' ≡ encode (geometry v) (with_panel k (send_pending (panel_of (geometry v) (decode (geometry v) r) k)) (decode (geometry v) r))
  unfolding send_pending
  idle {a} {q} {r'} e i f y =
      let g = geometry v in
      let s = decode g r in
      let p = panel_of g s k in
      let c = at g (panel k) in
      let room = panel_room v k h in
      let none : is_empty (take_owed p).hand ≡ true = cc (line-sent e i) in
      let same = owed_again g.bands c r w.bytes (omega arith) in
      let kept = ap (λ (l : List Pending). encode g (with_panels l s)) (set-get_or s.panels k (nothing_pending g)) in
      cc (panel_here, (none_left g p well none).1, encode-decode g r w)

  -- a line sent
  pub sends : {a b : ℕ} {q n : Rect} {c : ℕ} {r' s t : List ℕ} {u : Bool} → a ≡ at (geometry v) (panel k) → InHand (geometry v) a r q r' → u ≡ is_empty q → u ≡ false
      → n ≡ next_line q → s ≡ with_window (a + 8 * v.bands) (rect_bytes n) r' → b ≡ a + 8 * v.bands + 8 → c ≡ min (four r b + 1) 4294967295
      → t ≡ with_window b (four_bytes c) s
      → t ≡ encode (geometry v) (with_panel k (send_pending (panel_of (geometry v) (decode (geometry v) r) k)) (decode (geometry v) r))
  unfolding send_pending line_sent
  sends {a} {b} {q} {n} {c} e i f y m s o j t =
      let g = geometry v in
      let st = decode g r in
      let p = panel_of g st k in
      let d = at g (panel k) in
      let room = panel_room v k h in
      let some : is_empty (take_owed p).hand ≡ false = cc (line-sent e i) in
      let owed = (take_owed p).owed in
      let count : length owed ≡ g.bands = (well_take g p well).bands in
      let long : length (rects_bytes owed) ≡ 8 * v.bands = cc (length_rects owed) in
      let l : d + 8 * v.bands + 8 ≡ d + (8 * v.bands + 8) = omega arith in
      let starts : d ≤ length r = omega arith in
      let two = window_extend d (8 * v.bands) (rects_bytes owed) (rect_bytes n) r long starts in
      let three = window_extend d (8 * v.bands + 8) (rects_bytes owed ++ rect_bytes n) (four_bytes c) r (omega (arith, length-append (rects_bytes owed) (rect_bytes n))) starts in
      let put = put_panel g k (record { owed = owed; hand = n; sent = c }) st v.suits.glass (sized_decode g r w.sized) h (count-decode g r) count in
      cc (panel_here, line-sent e i, encode-decode g r w, taken_sent p, append_assoc (rects_bytes owed) (rect_bytes n) (four_bytes c))

-- the rectangle whose top line is sent, and the record
pub record SentOn (v : Glass) (k : ℕ) (r : List ℕ) (q : Rect) (r' : List ℕ) : Type 0 where
  pub line : q ≡ (take_owed (panel_of (geometry v) (decode (geometry v) r) k)).hand
  pub left : r' ≡ encode (geometry v) (with_panel k (send_pending (panel_of (geometry v) (decode (geometry v) r) k)) (decode (geometry v) r))

-- the line that is sent lies on the screen
pub sent_proper : {v : Glass} {k : ℕ} {r : List ℕ} {q : Rect} {r' : List ℕ} {t : Bool} → Passing (geometry v) r → k < v.panels → SentOn v k r q r' → t ≡ is_empty q → t ≡ false
    → Proper (width (geometry v)) 0 (height (geometry v)) q
sent_proper {v} {k} w h i e f = rw i.line (to-send _ _ (well k v w h) (cc))

-- A send: idle, or the line in hand copied and counted.
use Rattle.std.proofs.Common.{◌≡◌, refl, sym, ap, subst, ◌∙◌, List, Bool, true, false, ℕ, ◌*◌, ◌<◌, arith, length, Option, Some, None}
use Rattle.model.specs.declared.Canvas.{Canvas}
use Rattle.model.specs.declared.Rect.{Rect}
use Rattle.model.specs.declared.Head.{Head}
use Rattle.model.specs.declared.SentLine.{SentLine}
use Rattle.model.specs.declared.glass.Glass.{Glass}
use Rattle.model.specs.Geometry.{Geometry, screen_bytes}
use Rattle.model.specs.Glass.{geometry, canvas, glass_of}
use Rattle.model.specs.Memory.{window}
use Rattle.model.specs.Rects.{is_empty}
use Rattle.model.specs.Record.{decode, panel_of}
use Rattle.model.specs.Sends.{take_owed, line_numbers, send_numbers, copy_line, send_panel}
use Rattle.model.specs.Calls.{send, lent, answered, line_sent_numbers, done}
use Rattle.laws.specs.Sending.{SentOn, sent_proper}
use Rattle.send.specs.Line.{LineOn}
use Rattle.record.specs.Entry.{Chosen}
use Rattle.accepted.specs.LineSent.{LineSent, numbers_of}
use Rattle.updates.proofs.Drawing.{screen_part, Loaded, screen_is, screen-part}

-- for the glass that the code has asked for
pub panel_for : {v : Glass} {n k p : ℕ} → Chosen n v → (p ≡ screen_bytes (glass_of n)) × (k < (glass_of n).panels) → (p ≡ screen_bytes (geometry v)) × (k < v.panels)
panel_for {k = k} c l = (l.0 ∙ sym (ap screen_bytes c.glass), subst (λ (g : Geometry). k < g.panels) (sym c.glass) l.1)

pub sent_for : {v : Glass} (k : ℕ) (r m p : List ℕ) {q : Rect} {r' p' : List ℕ} → Chosen (length r) v → LineSent (geometry v) k r m p q r' p' → LineSent (glass_of (length r)) k r m p q r' p'
sent_for k r m p {q} {r'} {p'} c e = subst (λ (g : Geometry). LineSent g k r m p q r' p') c.glass e

-- panel j is sent to, which is the one that is named, k
module _ {v : Glass} {r : List ℕ} {h : Head} {m : List ℕ} (w : Loaded v r h m) (k : ℕ) {j : ℕ} {q : Rect} {s : List ℕ} (sent : SentOn v j r q s) (named : j ≡ k) {t : Bool}
    (e : t ≡ is_empty q) where
  i : SentOn v k r q s
  i = rw (← named) sent

  empty_as : {u : Bool} → t ≡ u → is_empty (take_owed (panel_of (geometry v) (decode (geometry v) r) k)).hand ≡ u
  empty_as f = ap is_empty (sym i.line) ∙ sym e ∙ f

  pub idles : (p : List ℕ) → t ≡ true → LineSent (geometry v) k r m p q s p
  unfolding send_panel
  idles p f = record { line = i.line; left = i.left; panel = rw (empty_as f) refl }

  pub may_copy : {a : Canvas} {p : List ℕ} → t ≡ false → a ≡ canvas v → (length p ≡ screen_bytes (geometry v)) × (k < v.panels)
      → LineOn a.stride a.height (screen_part v h m) p q
  may_copy f c l =
      let z = v.suits in
      let n = sent_proper w.passing l.1 i e f in
      rw c (record {
        screen = screen-part w {k = canvas v} refl;
        panel = l.0 ∙ ap (λ (x : ℕ). v.stride * x) (sym z.is_height);
        wide = n.wide;
        inside = n.right_in;
        above = omega (arith, n, z.is_height);
      })

  pub sends_line : (p : List ℕ) {d : Canvas} {b : List ℕ} → t ≡ false → d ≡ canvas v → b ≡ copy_line d.stride q (screen_part v h m) p → LineSent (geometry v) k r m p q s b
  unfolding send_panel
  sends_line p f c d =
      let g = geometry v in
      record {
        line = i.line;
        left = i.left;
        panel = rw (empty_as f) (d ∙ (λ y. copy_line (c y).stride q (screen_is w y) p)
            ∙ ap (λ (x : Head). copy_line v.stride q (window x.graphics (screen_bytes g) m) p) w.head
            ∙ ap (λ (x : Rect). copy_line v.stride x (window (decode g r).head.graphics (screen_bytes g) m) p) i.line);
      }

-- the answer of a line that is sent
pub answers_idle : (q : Rect) {t : Bool} → t ≡ is_empty q → t ≡ true → line_sent_numbers None ≡ numbers_of q
unfolding numbers_of
answers_idle q e f = rw (sym e ∙ f) refl

pub answers_line : (q : Rect) {t : Bool} {l : SentLine} → t ≡ is_empty q → t ≡ false → line_sent_numbers (Some l) ≡ line_numbers q → line_sent_numbers (Some l) ≡ numbers_of q
unfolding numbers_of
answers_line q e f o = rw (sym e ∙ f) o

-- and with it the whole of a send
pub send_done : (g : Geometry) (k : ℕ) (r m p : List ℕ) {q : Rect} {r' p' : List ℕ} (a : Option SentLine) → LineSent g k r m p q r' p' → line_sent_numbers a ≡ numbers_of q
    → answered 0 (line_sent_numbers a) (lent r' m p') ≡ done g (send k) (lent r m p)
unfolding done send_numbers numbers_of
send_done g k r m p a s n = λ j. answered 0 ((n ∙ ap numbers_of s.line) j) (lent (s.left j) m (s.panel j))

-- What a line prints and leaves, from what its call answers.
use Rattle.std.proofs.Common.{◌≡◌, ℕ, zero, suc, List, [], ◌∷◌, refl, sym, ap, ◌∙◌, Option, Some, None, Result, Ok, Err}
use Rattle.model.specs.declared.SentLine.{SentLine}
use Rattle.model.specs.declared.refusal.Refusal.{Refusal}
use Rattle.model.specs.Geometry.{base}
use Rattle.model.specs.Refusals.{code_of, number_of, refusal, ruled}
use Rattle.model.specs.Shapes.{Shape, point, line}
use Rattle.model.specs.Calls.{Call, draw, write_byte, send, Lent, lent, Outcome, answered, numbers_beside, line_sent_numbers, refusals, drawing_with, done, refused, outcome}
use Rattle.model.specs.Characters.{bytes_of}
use Rattle.model.specs.Script.Read.{call_line}
use Rattle.model.specs.Script.Output.{printed, spaced, said, line_prints, line_leaves}
use Rattle.script.specs.declared.Form.{Form}
use Rattle.script.specs.declared.Form.TheVariants.{Point, Line, Poke, Send, Bad}
use Rattle.script.specs.Meaning.{meaning}
use Rattle.script_run.specs.declared.output.Output.{Output}
use Rattle.script_run.specs.Buffers.{HasRoom, Appended, Answered}
use Rattle.caption.proofs.Calls.{is_number}
use Rattle.script_run.proofs.Writing.{appended_as, room_as}

-- ---- what a code and numbers print

abbrev done_text : List ℕ
done_text = bytes_of "(done)\n"

abbrev idle_text : List ℕ
idle_text = bytes_of "(idle)\n"

pub said-done : {a : Result (Unit {0}) Refusal} (u : Unit {0}) → a ≡ Ok u → said (code_of a) [] ≡ done_text
unfolding said printed spaced
said-done u e = rw e refl

is_refused : (k : ℕ) (ns : List ℕ) → (k ≡ 0 → ⊥) → said k ns ≡ printed (bytes_of "refused") (k ∷ [])
unfolding said
is_refused zero ns n = absurd (n refl)
is_refused (suc k) ns n = refl

pub said-refused : {A : Type 0} {a : Result A Refusal} (x : Refusal) (ns : List ℕ) {n : ℕ} → n ≡ number_of x → a ≡ Err x → said (code_of a) ns ≡ printed (bytes_of "refused") (n ∷ [])
said-refused x ns f e = rw (f, e) (is_refused (number_of x) ns (is_number x))

pub said_sent : {a : Result (Option SentLine) Refusal} {l : Option SentLine} (s : SentLine) → a ≡ Ok l → l ≡ Some s
    → said (code_of a) (numbers_beside 4 line_sent_numbers a) ≡ printed (bytes_of "sent") (s.line ∷ s.left ∷ s.right ∷ [])
unfolding said
said_sent s e f = rw (e, f) refl

pub said_idle : {a : Result (Option SentLine) Refusal} {l : Option SentLine} → a ≡ Ok l → l ≡ None → said (code_of a) (numbers_beside 4 line_sent_numbers a) ≡ idle_text
unfolding said printed spaced
said_idle e f = rw (e, f) refl

-- ---- a call that is not lent the panel leaves it

abbrev with_panel : List ℕ → Outcome → Outcome
with_panel p o = answered o.code o.numbers (lent o.left.rec o.left.memory p)

beside : (p : List ℕ) (n : ℕ) (f f' : ℕ → Outcome) (d d' : Outcome) → ((k : ℕ) → f k ≡ with_panel p (f' k)) → d ≡ with_panel p d' → ruled n f d ≡ with_panel p (ruled n f' d')
unfolding ruled
beside p zero f f' d d' h e = e
beside p (suc n) f f' d d' h e = h (suc n)

pub record Beside (c : Call) : Type 0 where
  same : (r m p : List ℕ) → outcome base c (lent r m p) ≡ with_panel p (outcome base c (lent r m []))

pub beside_draw : (z : Shape) → Beside (draw z)
unfolding outcome refusals refused done answered drawing_with
beside_draw z = record { same = λ r m p. beside p (refusal (refusals base (draw z) (lent r m []))) _ _ _ _ (λ k. refl) refl }

pub beside_poke : (a v : ℕ) → Beside (write_byte a v)
unfolding outcome refusals refused done answered
beside_poke a v = record { same = λ r m p. beside p (refusal (refusals base (write_byte a v) (lent r m []))) _ _ _ _ (λ k. refl) refl }

-- ---- one line

module _ (n k : ℕ) (ns : List ℕ) (c : Call) (l l' : Lent) (o : Output) (e : outcome base c l ≡ answered k ns l') where
  answer_is : line_prints n (call_line c) l ≡ said k ns
  unfolding line_prints answered
  answer_is = ap (λ (x : Outcome). said x.code x.numbers) e

  call_answered : (o' : Output) → Appended (said k ns) o o' → Answered n (call_line c) o l o' l'
  unfolding line_leaves answered
  call_answered o' a = record { printed = appended_as (sym answer_is) a; left = sym (ap (λ (x : Outcome). x.left) e) }

-- a line whose call is not lent the panel
module _ (f : Form) (c : Call) (n k : ℕ) (r m p r' m' : List ℕ) (o : Output) (a : answered k [] (lent r' m' []) ≡ outcome base c (lent r m [])) where
  plain : Beside c → outcome base c (lent r m p) ≡ answered k [] (lent r' m' p)
  unfolding answered
  plain b = b.same r m p ∙ ap (with_panel p) (sym a)

  pub plain_room : HasRoom (line_prints n (meaning f) (lent r m p)) o → meaning f ≡ call_line c → Beside c → HasRoom (said k []) o
  plain_room h e b = room_as o (answer_is n k [] c (lent r m p) (lent r' m' p) o (plain b)) (rw e at h)

  pub plain_answered : (o' : Output) → meaning f ≡ call_line c → Beside c → Appended (said k []) o o' → Answered n (meaning f) o (lent r m p) o' (lent r' m' p)
  plain_answered o' e b w = rw e (call_answered n k [] c (lent r m p) (lent r' m' p) o (plain b) o' w)

pub means_point : (f : Form) (x y md : ℕ) → f ≡ Point x y md → meaning f ≡ call_line (draw (point x y md))
unfolding meaning
means_point f x y md e = rw e

pub means_line : (f : Form) (x y z w md : ℕ) → f ≡ Line x y z w md → meaning f ≡ call_line (draw (line x y z w md))
unfolding meaning
means_line f x y z w md e = rw e

pub means_poke : (f : Form) (a v : ℕ) → f ≡ Poke a v → meaning f ≡ call_line (write_byte a v)
unfolding meaning
means_poke f a v e = rw e

module _ (f : Form) (n : ℕ) (r m p r' p' : List ℕ) (o : Output) (q : Result (Option SentLine) Refusal) where
  pub send_room : f ≡ Send → answered (code_of q) (numbers_beside 4 line_sent_numbers q) (lent r' m p') ≡ outcome base (send 0) (lent r m p)
      → HasRoom (line_prints n (meaning f) (lent r m p)) o → HasRoom (said (code_of q) (numbers_beside 4 line_sent_numbers q)) o
  unfolding meaning
  send_room e a h = room_as o (answer_is n (code_of q) (numbers_beside 4 line_sent_numbers q) (send 0) (lent r m p) (lent r' m p') o (sym a)) (rw e at h)

  pub send_answered : (o' : Output) → f ≡ Send → answered (code_of q) (numbers_beside 4 line_sent_numbers q) (lent r' m p') ≡ outcome base (send 0) (lent r m p)
      → Appended (said (code_of q) (numbers_beside 4 line_sent_numbers q)) o o' → Answered n (meaning f) o (lent r m p) o' (lent r' m p')
  unfolding meaning
  send_answered o' e a w = rw e (call_answered n (code_of q) (numbers_beside 4 line_sent_numbers q) (send 0) (lent r m p) (lent r' m p') o (sym a) o' w)

pub bad_room : (f : Form) (n : ℕ) (l : Lent) (o : Output) → f ≡ Bad → HasRoom (line_prints n (meaning f) l) o → HasRoom (printed (bytes_of "bad") (n ∷ [])) o
unfolding meaning line_prints
bad_room f n l o e h = rw e at h

pub bad_answered : (f : Form) (n : ℕ) (l : Lent) (o o' : Output) → f ≡ Bad → Appended (printed (bytes_of "bad") (n ∷ [])) o o' → Answered n (meaning f) o l o' l
unfolding meaning line_prints line_leaves
bad_answered f n l o o' e w = rw e (record { printed = w; left = refl })

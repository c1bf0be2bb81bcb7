-- A whole script: after each line what is written is the front of the text, and what is left of it is what the other lines print.
use Rattle.std.proofs.Common.{◌≡◌, ℕ, ◌+◌, ◌-◌, ◌*◌, ◌≤◌, ◌<◌, List, [], ◌∷◌, ◌++◌, length, take, drop, refl, sym, ap, ◌∙◌, arith, length-append, length-drop}
use Rattle.std.proofs.Math.ListN.{take-append-drop}
use Rattle.std.proofs.Math.Seq.{take-add, drop-drop, take-append_seam, drop-append_seam, length-take-le}
use Rattle.std.proofs.lemmas.Bool.{lt-ltb, le-ltb, eq-eqb}
use Rattle.model.specs.Geometry.{Geometry, base, memory_bytes, screen_bytes}
use Rattle.model.specs.Rects.{lines_of}
use Rattle.model.specs.Memory.{window, zeros}
use Rattle.model.specs.Bytes.{rect_at, rects_at}
use Rattle.model.specs.declared.glass.Glass.{Glass}
use Rattle.model.specs.Glass.{geometry}
use Rattle.model.specs.Record.{panel, at, Pending, pending_of, panel_of, decode, record_bytes, windows}
use Rattle.model.specs.Refusals.{refusal, ruled}
use Rattle.model.specs.Calls.{opening, Lent, lent, Outcome, answered, refusals, done, outcome}
use Rattle.model.specs.Lists.{owed_lines, lines_left, differing}
use Rattle.model.specs.Characters.{bytes_of}
use Rattle.model.specs.Script.Read.{ScriptLine, read_script}
use Rattle.model.specs.Script.Output.{printed, spaced, line_prints, line_leaves, graphics_base, text_base, no_keys, opened, ending, run_lines_from, run_lines, longest, script_text}
use Rattle.laws.specs.Record.{panel_decoded}
use Rattle.laws.specs.Windows.{pending-part}
use Rattle.laws.specs.Panels.{hand_room}
use Rattle.record.specs.Entry.{Chosen}
use Rattle.script.specs.Lines.{lines_from, reads_from}
use Rattle.script_run.specs.declared.output.Output.{Output}
use Rattle.script_run.specs.Buffers.{HasRoom, Appended, BuffersSized}
use Rattle.script_run.proofs.Writing.{appended_none, appended_then, appended_as, appended_length}

-- ---- the last line

-- panel 0's part where the code reads it
module _ (r : List ℕ) {v : Glass} (k : Chosen (length r) v) {a : ℕ} (e : a ≡ at (geometry v) (panel 0)) where
  pub part_room : length r ≡ record_bytes base → (a + 8 * v.bands + 12 ≤ length r) × (v.bands ≤ 256)
  part_room n = (hand_room v r (n ∙ ap record_bytes (sym k.glass)) v.suits.glass.one e, omega (arith, ap (λ (g : Geometry). g.bands) k.glass))

  pub lines_read : {l : ℕ} → l ≡ lines_of (rect_at r (a + 8 * v.bands)) + owed_lines (rects_at v.bands r a) → l ≡ lines_left (panel_of base (decode base r) 0)
  unfolding lines_left
  lines_read f =
      f ∙ ap (λ (i : ℕ). lines_of (rect_at r (i + 8 * v.bands)) + owed_lines (rects_at v.bands r i)) e
      ∙ ap (λ (g : Geometry). lines_of (pending_of g r (at g (panel 0))).hand + owed_lines (pending_of g r (at g (panel 0))).owed) k.glass
      ∙ sym (ap (λ (p : Pending). lines_of p.hand + owed_lines p.owed) (panel_decoded base r 0 (omega arith) ∙ pending-part base r 0))

pub ending_is : (r m p : List ℕ) (d k : ℕ) → d ≡ differing base (take (graphics_base + screen_bytes base - graphics_base) (drop graphics_base m)) p → k ≡ lines_left (panel_of base (decode base r) 0)
    → ending (lent r m p) ≡ printed (bytes_of "end") (d ∷ k ∷ [])
unfolding ending window
ending_is r m p d k e f = rw (e, f)

-- ---- after some lines: o₀ is the output at the start, the lines xs are to come, and n is the number of the first of them

pub record Ran (t : List ℕ) (o₀ o : Output) (l : Lent) (xs : List ScriptLine) (n : ℕ) : Type 0 where
  pub written : Appended (take o.at t) o₀ o
  pub left : drop o.at t ≡ run_lines_from n xs l
  pub within : o.at ≤ length t
  pub few : n + length xs ≤ longest + 1
  pub start : o₀.at ≡ 0
  pub room : HasRoom t o₀

pub reads_start : (s : List ℕ) → reads_from 0 s ≡ read_script s
unfolding read_script lines_from
reads_start s = refl

pub ran_start : (xs : List ScriptLine) (o : Output) (l : Lent) → length xs ≤ longest → o.at ≡ 0 → HasRoom (run_lines xs l) o → Ran (run_lines xs l) o o l xs 1
unfolding run_lines
ran_start xs o l h z r = record {
  written = appended_as (sym (ap (λ (k : ℕ). take k (run_lines_from 1 xs l)) z)) (appended_none o);
  left = ap (λ (k : ℕ). drop k (run_lines_from 1 xs l)) z;
  within = omega arith;
  few = omega arith;
  start = z;
  room = r;
}

module _ (t : List ℕ) (o₀ o : Output) (l : Lent) (n : ℕ) where
  front_room : (xs : List ScriptLine) → Ran t o₀ o l xs n → HasRoom (take o.at t) o₀
  front_room xs k = omega (arith, k.room, k.start, length-take-le o.at t k.within)

  -- what is left to write has its room
  rest_room : (xs : List ScriptLine) → Ran t o₀ o l xs n → HasRoom (run_lines_from n xs l) o
  rest_room xs k = omega (arith, k.within, k.room, k.start, length-drop o.at t, ap length k.left, appended_length (front_room xs k) k.written)

  -- no line is left: the last line is written
  module _ (xs : List ScriptLine) (k : Ran t o₀ o l xs n) (e : xs ≡ []) where
    ending_left : drop o.at t ≡ ending l
    unfolding run_lines_from
    ending_left = k.left ∙ ap (λ (ys : List ScriptLine). run_lines_from n ys l) e

    pub end_room : HasRoom (ending l) o
    end_room = omega (arith, rest_room xs k, ap length k.left, ap length ending_left)

    pub ran_end : (o' : Output) → Appended (ending l) o o' → Appended t o₀ o'
    ran_end o' w = appended_as (ap (λ (x : List ℕ). take o.at t ++ x) (sym ending_left) ∙ take-append-drop o.at t) (appended_then (front_room xs k) k.written w)

  -- the line x is next, and the lines xs follow it
  module _ (ys : List ScriptLine) (k : Ran t o₀ o l ys n) (x : ScriptLine) (xs : List ScriptLine) (next : ys ≡ x ∷ xs) where
    said : List ℕ
    said = line_prints n x l

    others : List ℕ
    others = run_lines_from (n + 1) xs (line_leaves x l)

    next_left : drop o.at t ≡ said ++ others
    unfolding run_lines_from said others
    next_left = k.left ∙ ap (λ (zs : List ScriptLine). run_lines_from n zs l) next

    pub next_room : HasRoom (line_prints n x l) o
    unfolding said others
    next_room = omega (arith, rest_room ys k, ap length k.left, ap length next_left, length-append said others)

    pub ran_turn : (o' : Output) (l' : Lent) → Appended (line_prints n x l) o o' → l' ≡ line_leaves x l → Ran t o₀ o' l' xs (n + 1)
    unfolding said others
    ran_turn o' l' w e =
        let counted : length t ≡ o.at + (length said + length others) = omega (arith, k.within, length-drop o.at t, ap length next_left, length-append said others) in
        let front : take o'.at t ≡ take o.at t ++ said =
        ap (λ (i : ℕ). take i t) w.wrote.end ∙ take-add o.at (length said) t
        ∙ ap (λ (y : List ℕ). take o.at t ++ take (length said) y) next_left ∙ ap (λ (y : List ℕ). take o.at t ++ y) (take-append_seam said others) in
        let back : drop o'.at t ≡ others =
        ap (λ (i : ℕ). drop i t) w.wrote.end ∙ sym (drop-drop (length said) o.at t) ∙ ap (drop (length said)) next_left ∙ drop-append_seam said others in
        record {
          written = appended_as (sym front) (appended_then (front_room ys k) k.written w);
          left = back ∙ ap (run_lines_from (n + 1) xs) (sym e);
          within = omega (arith, counted, w.wrote.end);
          few = omega (arith, k.few, ap length next);
          start = k.start;
          room = k.room;
        }

-- ---- the whole text

pub long_is : (s : List ℕ) → longest < length s → script_text s ≡ bytes_of "(long)\n"
unfolding script_text printed spaced
long_is s h = rw (lt-ltb longest (length s) h)

-- the lines of a script that is not too long, run from what the opening leaves
module _ (s r m p r' m' p' : List ℕ) (k : ℕ) (h : length s ≤ longest) (z : BuffersSized r m p) (c : p' ≡ zeros (length p)) (e : answered k [] (lent r' m' []) ≡ outcome base (opening graphics_base text_base 1 no_keys 0) (lent r m [])) where
  opens : lent r' m' p' ≡ opened
  unfolding opened outcome refusals refusal ruled done answered windows
  opens =
      let x = rw (eq-eqb (length r) (record_bytes base) z.rec, eq-eqb (length m) memory_bytes z.memory) at e in
      ap (λ (y : List ℕ). lent r' m' y) (c ∙ ap zeros z.panel) ∙ ap (λ (y : Outcome). lent y.left.rec y.left.memory (zeros (screen_bytes base))) x

  pub short_is : script_text s ≡ run_lines (read_script s) (lent r' m' p')
  unfolding script_text
  short_is = rw (le-ltb longest (length s) h, opens)

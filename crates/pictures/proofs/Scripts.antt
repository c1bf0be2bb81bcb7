-- The scripts: the record is found by its laws, the screen and the panel are computed.
use Rattle.std.specs.Prelude.{◌≡◌, ◌&&◌, ℕ, ◌+◌, ◌<◌, length}
use Rattle.std.proofs.Math.Path.{refl, ap}
use Rattle.std.proofs.Common.{◌∙◌, inr, arith, length-set}
use Rattle.std.proofs.Math.Bool.{true}
use mathlib.Core.List.{List, [], ◌∷◌, ◌++◌}
use Rattle.std.proofs.Math.Dec.{eqb}
use borrow.Author.Tests.{le-leb, lt-ltb, eq-eqb}
use Rattle.model.specs.Geometry.{base}
use Rattle.model.specs.Bits.{bit_at, with_bit}
use Rattle.model.specs.Pixels.{bit, put, on_screen, write_pixel, draw as drawPixels, seen, copy_run}
use Rattle.model.specs.Rects.{inside, is_empty, join, cut}
use Rattle.model.specs.Memory.{zeros, screen_of, with_screen}
use Rattle.model.specs.Record.{State, nothing_pending, panel_of, windows, encode, with_panel, WellFormed}
use Rattle.model.specs.Refusals.{refusal}
use Rattle.model.specs.Marks.{update_dirty, join_owed, owing, within, owes, marked, drawn_on}
use Rattle.model.specs.Open.{open_pending, open_state}
use Rattle.model.specs.Points.{point_op, point_rect, point as pointDrawing}
use Rattle.model.specs.Sends.{first_owed, rest_owed, take_owed, next_line, line_sent, send_pending, line_numbers, send_numbers, copy_line, send_panel}
use Rattle.model.specs.Shapes.{point}
use Rattle.model.specs.Calls.{Call, draw, send, Lent, lent, answered, drawing_with, done, outcome}
use Rattle.model.specs.Lists.{owed_lines, lines_left, differs, sum, differing}
use Rattle.model.specs.Characters.{bytes_of}
use Rattle.model.specs.Script.Read.{ScriptLine, call_line}
use Rattle.model.specs.Script.Output.{printed, said, line_prints, line_leaves, no_keys, ending, run_lines_from, run_lines}
use Rattle.laws.specs.Calls.{own_decide, outcome-done}
use Rattle.laws.specs.Glasses.{base_glass}
use Rattle.laws.specs.Record.{decode-encode}
use Rattle.laws.specs.States.{encode_passing}
use Rattle.laws.specs.Memory.{length-with_window, window_same}
use Rattle.laws.specs.Loops.{length-zeros}
use Rattle.laws.specs.Counts.{byte_differs, bytes_differ, differing_bytes}
use Rattle.laws.specs.Bands.{well_send}
use Rattle.laws.specs.Formed.{panel_formed, marked_formed}
use Rattle.laws.specs.Opening.{open_formed}
use Rattle.pictures.specs.Picture.{rect}

-- ---- the record

-- as the program opens it
unfoldable pub opened_state : State
opened_state = open_state base 4096 8192 1 no_keys 0

-- with the mark of point (3, y)
unfoldable pub pointed : ℕ → State → State
pointed y s = marked base (rect 3 y 4 (y + 1)) (rect 3 y 4 (y + 1)) s

unfoldable pub sent_of : State → State
sent_of s = with_panel 0 (send_pending (panel_of base s 0)) s

opened_formed : WellFormed base opened_state
unfolding opened_state windows
opened_formed = open_formed base base_glass 4096 8192 1 no_keys 0 (record { apart = refl; listed = refl; flag = refl; count = refl; words = omega arith })

pointed_formed : (y : ℕ) → y < 80 → (s : State) → WellFormed base s → WellFormed base (pointed y s)
unfolding pointed
pointed_formed y h s w = marked_formed base (rect 3 y 4 (y + 1)) (rect 3 y 4 (y + 1)) s (inr (omega arith)) w

sent_formed : (s : State) → WellFormed base s → WellFormed base (sent_of s)
unfolding sent_of
sent_formed s w = panel_formed base s w 0 (send_pending (panel_of base s 0)) (omega arith) (well_send base (panel_of base s 0) (w.panels 0 (omega arith)))

-- ---- the calls

-- point (3, y) on a screen, and in a memory
unfoldable pub dotted : ℕ → List ℕ → List ℕ
dotted y s = put 20 s 3 y true

unfoldable pub dotted_memory : ℕ → List ℕ → List ℕ
dotted_memory y m = with_screen 4096 (dotted y (screen_of base 4096 m)) m

module _ (s : State) (w : WellFormed base s) (m p : List ℕ) (hm : length m ≡ 65536) where
  point-done : (y : ℕ) → y < 80 → s.head.graphics ≡ 4096 → outcome base (draw (point 3 y 1)) (lent (encode base s) m p)
      ≡ answered 0 [] (lent (encode base (pointed y s)) (dotted_memory y m) p)
  unfolding refusal done drawing_with drawn_on pointDrawing point_rect point_op on_screen seen drawPixels write_pixel owes within inside dotted dotted_memory pointed
  point-done y h g =
      let l = lent (encode base s) m p in
      let q = encode_passing base base_glass s w in
      let t = own_decide base (draw (point 3 y 1)) l (record { sized = q.sized; lengths = eq-eqb (length m) 65536 hm; state = (q.passes, tt) }) in
      rw (outcome-done base (draw (point 3 y 1)) l t, decode-encode base s base_glass w, lt-ltb y 80 h, le-leb y y (omega arith), lt-ltb y (y + 1) (omega arith), g)

  send_done : length p ≡ 1600 → outcome base (send 0) (lent (encode base s) m p)
      ≡ answered 0 (send_numbers (panel_of base s 0)) (lent (encode base (sent_of s)) m (send_panel 20 (panel_of base s 0) (screen_of base s.head.graphics m) p))
  unfolding refusal done sent_of
  send_done hp =
      let l = lent (encode base s) m p in
      let q = encode_passing base base_glass s w in
      let n : (eqb (length m) 65536 && eqb (length p) 1600) ≡ true = λ i. eq-eqb (length m) 65536 hm i && eq-eqb (length p) 1600 hp i in
      rw (outcome-done base (send 0) l (own_decide base (send 0) l (record { sized = q.sized; lengths = n; state = (q.passes, tt) })), decode-encode base s base_glass w)

-- ---- the screen and the panel

-- the first line of a screen, sent to a panel of zeros
abbrev pub first_line : List ℕ → List ℕ
first_line s = copy_run 20 s 0 0 160 (zeros 1600)

-- the point drawn, then the first line sent: no pixel differs
none_left : differing base (dotted 0 (zeros 1600)) (first_line (dotted 0 (zeros 1600))) ≡ 0
unfolding dotted put zeros copy_run bytes_differ byte_differs sum differs with_bit bit bit_at
none_left = differing_bytes base (dotted 0 (zeros 1600)) (first_line (dotted 0 (zeros 1600))) refl refl

-- the line sent, then the point drawn: it differs
point-left : differing base (dotted 0 (zeros 1600)) (first_line (zeros 1600)) ≡ 1
unfolding dotted put zeros copy_run bytes_differ byte_differs sum differs with_bit bit bit_at
point-left = differing_bytes base (dotted 0 (zeros 1600)) (first_line (zeros 1600)) refl refl

-- and one in the last line
points_left : differing base (dotted 79 (dotted 0 (zeros 1600))) (first_line (zeros 1600)) ≡ 2
unfolding dotted put zeros copy_run bytes_differ byte_differs sum differs with_bit bit bit_at
points_left = differing_bytes base (dotted 79 (dotted 0 (zeros 1600))) (first_line (zeros 1600)) refl refl

-- the point leaves a screen's length
dotted-zeros : (y : ℕ) → length (dotted y (zeros 1600)) ≡ 1600
unfolding dotted put
dotted-zeros y = length-set (zeros 1600) _ _ ∙ length-zeros 1600

-- ---- what is printed

-- a line whose call is done, and then the others
line_then : (n : ℕ) (c : Call) (rest : List ScriptLine) (l k : Lent) (ms : List ℕ) → outcome base c l ≡ answered 0 ms k
    → run_lines_from n (call_line c ∷ rest) l ≡ said 0 ms ++ run_lines_from (n + 1) rest k
unfolding run_lines_from line_prints line_leaves answered
line_then n c rest l k ms e = rw (line_leaves, line_prints, e)

-- the end line, where the screen z stands at 4,096
end_line : (n : ℕ) (s : State) → WellFormed base s → (m p z : List ℕ) (different left : ℕ) → screen_of base 4096 m ≡ z → differing base z p ≡ different
    → lines_left (panel_of base s 0) ≡ left → run_lines_from n [] (lent (encode base s) m p) ≡ printed (bytes_of "end") (different ∷ left ∷ [])
unfolding run_lines_from ending
end_line n s w m p z different left e f g = rw (decode-encode base s base_glass w, e, f, g)

module _ (m : List ℕ) (hm : length m ≡ 65536) (z : List ℕ) (e : screen_of base 4096 m ≡ z) (hz : length z ≡ 1600) (y : ℕ) where
  dotted_long : length (dotted y (screen_of base 4096 m)) ≡ 1600
  unfolding dotted put
  dotted_long = rw e (length-set z _ _ ∙ hz)

  dotted_screen : screen_of base 4096 (dotted_memory y m) ≡ dotted y z
  unfolding dotted_memory
  dotted_screen = window_same 4096 1600 (dotted y (screen_of base 4096 m)) m dotted_long (omega arith) ∙ ap (dotted y) e

  dotted-memory : length (dotted_memory y m) ≡ 65536
  unfolding dotted_memory
  dotted-memory = length-with_window 4096 (dotted y (screen_of base 4096 m)) m (rw dotted_long (omega arith)) ∙ hm

-- ---- the scripts

-- what the first send answers
abbrev pub first_answer : List ℕ
first_answer = 1 ∷ 0 ∷ 0 ∷ 160 ∷ []

abbrev pub point_line : ℕ → ScriptLine
point_line y = call_line (draw (point 3 y 1))

abbrev pub send_line : ScriptLine
send_line = call_line (send 0)

module _ (m : List ℕ) (hm : length m ≡ 65536) (e : screen_of base 4096 m ≡ zeros 1600) where
  abbrev pub start : Lent
  start = lent (encode base opened_state) m (zeros 1600)

  -- the point, then the send
  pub point-first : run_lines (point_line 0 ∷ send_line ∷ []) start ≡ said 0 [] ++ (said 0 first_answer ++ printed (bytes_of "end") (0 ∷ 79 ∷ []))
  unfolding run_lines pointed marked update_dirty opened_state open_state open_pending nothing_pending owing join_owed join is_empty cut sent_of send_pending line_sent take_owed first_owed rest_owed next_line send_numbers line_numbers send_panel copy_line lines_left owed_lines
  point-first =
      let s = pointed 0 opened_state in
      let w = pointed_formed 0 (omega arith) opened_state opened_formed in
      let m' = dotted_memory 0 m in
      let screen = dotted_screen m hm (zeros 1600) e (length-zeros 1600) 0 in
      let memory = dotted-memory m hm (zeros 1600) e (length-zeros 1600) 0 in
      line_then 1 (draw (point 3 0 1)) (send_line ∷ []) start (lent (encode base s) m' (zeros 1600)) [] (point-done opened_state opened_formed m (zeros 1600) hm 0 (omega arith) refl)
      ∙ ap (λ (t : List ℕ). said 0 [] ++ t)
      (line_then 2 (send 0) [] (lent (encode base s) m' (zeros 1600)) (lent (encode base (sent_of s)) m' (first_line (screen_of base 4096 m'))) first_answer (send_done s w m' (zeros 1600) memory (length-zeros 1600))
      ∙ ap (λ (t : List ℕ). said 0 first_answer ++ t) (end_line 3 (sent_of s) (sent_formed s w) m' (first_line (screen_of base 4096 m')) (dotted 0 (zeros 1600)) 0 79 screen (rw screen none_left) refl))

  -- the send, then what follows it
  pub send_first : (rest : List ScriptLine) → run_lines (send_line ∷ rest) start ≡ said 0 first_answer ++ run_lines_from 2 rest (lent (encode base (sent_of opened_state)) m (first_line (zeros 1600)))
  unfolding run_lines opened_state open_state open_pending nothing_pending owing join_owed join is_empty cut sent_of send_pending line_sent take_owed first_owed rest_owed next_line send_numbers line_numbers send_panel copy_line
  send_first rest =
      line_then 1 (send 0) rest start (lent (encode base (sent_of opened_state)) m (first_line (screen_of base 4096 m))) first_answer (send_done opened_state opened_formed m (zeros 1600) hm (length-zeros 1600))
      ∙ ap (λ (z : List ℕ). said 0 first_answer ++ run_lines_from 2 rest (lent (encode base (sent_of opened_state)) m (first_line z))) e

  -- the point
  pub then_point : (rest : List ScriptLine) → run_lines_from 2 (point_line 0 ∷ rest) (lent (encode base (sent_of opened_state)) m (first_line (zeros 1600)))
      ≡ said 0 [] ++ run_lines_from 3 rest (lent (encode base (pointed 0 (sent_of opened_state))) (dotted_memory 0 m) (first_line (zeros 1600)))
  unfolding opened_state open_state sent_of
  then_point rest =
      line_then 2 (draw (point 3 0 1)) rest (lent (encode base (sent_of opened_state)) m (first_line (zeros 1600))) (lent (encode base (pointed 0 (sent_of opened_state))) (dotted_memory 0 m) (first_line (zeros 1600))) []
      (point-done (sent_of opened_state) (sent_formed opened_state opened_formed) m (first_line (zeros 1600)) hm 0 (omega arith) refl)

  abbrev pub after-point : State
  after-point = pointed 0 (sent_of opened_state)

  after_formed : WellFormed base after-point
  after_formed = pointed_formed 0 (omega arith) (sent_of opened_state) (sent_formed opened_state opened_formed)

  pub point_end : run_lines_from 3 [] (lent (encode base after-point) (dotted_memory 0 m) (first_line (zeros 1600))) ≡ printed (bytes_of "end") (1 ∷ 80 ∷ [])
  unfolding pointed marked update_dirty opened_state open_state open_pending nothing_pending owing join_owed join is_empty cut sent_of send_pending line_sent take_owed first_owed rest_owed next_line lines_left owed_lines
  point_end = end_line 3 after-point after_formed (dotted_memory 0 m) (first_line (zeros 1600)) (dotted 0 (zeros 1600)) 1 80 (dotted_screen m hm (zeros 1600) e (length-zeros 1600) 0) point-left refl

  -- a point in the last line
  pub last-point : run_lines_from 3 (point_line 79 ∷ []) (lent (encode base after-point) (dotted_memory 0 m) (first_line (zeros 1600))) ≡ said 0 [] ++ printed (bytes_of "end") (2 ∷ 80 ∷ [])
  unfolding pointed marked update_dirty opened_state open_state open_pending nothing_pending owing join_owed join is_empty cut sent_of send_pending line_sent take_owed first_owed rest_owed next_line lines_left owed_lines
  last-point =
      let p = first_line (zeros 1600) in
      let s = pointed 79 after-point in
      let m' = dotted_memory 0 m in
      let screen = dotted_screen m hm (zeros 1600) e (length-zeros 1600) 0 in
      let memory = dotted-memory m hm (zeros 1600) e (length-zeros 1600) 0 in
      line_then 3 (draw (point 3 79 1)) [] (lent (encode base after-point) m' p) (lent (encode base s) (dotted_memory 79 m') p) [] (point-done after-point after_formed m' p memory 79 (omega arith) refl)
      ∙ ap (λ (t : List ℕ). said 0 [] ++ t)
      (end_line 4 s (pointed_formed 79 (omega arith) after-point after_formed) (dotted_memory 79 m') p (dotted 79 (dotted 0 (zeros 1600))) 2 80
      (dotted_screen m' memory (dotted 0 (zeros 1600)) screen (dotted-zeros 0) 79) points_left refl)

-- How long a script's text can be: 40 bytes for a line, and no more lines than bytes.
use Rattle.std.proofs.Common.{ℕ, zero, suc, ◌+◌, ◌*◌, ◌/◌, ◌%◌, ◌≤◌, List, [], ◌∷◌, ◌++◌, length, map, arith, length-append}
use Prim.Native.Char.{code}
use Rattle.std.proofs.Math.Dec.{eqb, ltb}
use Rattle.std.proofs.lemmas.Bool.{lt-ltb, le-ltb}
use Rattle.model.specs.Record.{Pending}
use Rattle.model.specs.Geometry.{base}
use Rattle.model.specs.Rects.{is_empty}
use Rattle.model.specs.Refusals.{ruled}
use Rattle.model.specs.Sends.{take_owed, line_numbers, send_numbers}
use Rattle.model.specs.Shapes.{Shape}
use Rattle.model.specs.Calls.{draw, write_byte, send, Lent, Outcome, answered, done, refused, outcome}
use Rattle.model.specs.Characters.{bytes_of}
use Rattle.model.specs.Script.Read.{Match, unmatched, matched_with, ScriptLine, bad_line, if_matched, point_form, line_form, poke_form, send_form, read_line, script_lines, read_script}
use Rattle.model.specs.Script.Output.{spelled, decimal, spaced, printed, said, line_prints, line_leaves, opened, ending, run_lines_from, run_lines, longest, script_text}
use Rattle.laws.specs.Tests.{by_test, by_lt}
use Rattle.script.proofs.Splitting.{read_le}
use Rattle.script_run.specs.Buffers.{longest_text}

spelled-le : (k n : ℕ) → length (spelled k n) ≤ k
unfolding spelled
spelled-le zero n = omega arith
spelled-le (suc k) n =
    by_test {P = length (spelled (suc k) n) ≤ suc k} (ltb n 10) (λ e. rw e (omega arith))
    (λ e. rw e (omega (arith, spelled-le k (n / 10), length-append (spelled k (n / 10)) ((code "0" + n % 10) ∷ []))))

spaced-le : (ns : List ℕ) → length (spaced ns) ≤ 11 * length ns
unfolding spaced
spaced-le [] = omega arith
spaced-le (n ∷ ns) = omega (arith, spelled-le 10 n, spaced-le ns, length-append (decimal n) (spaced ns))

printed-le : (w ns : List ℕ) → length (printed w ns) ≤ 3 + length w + 11 * length ns
unfolding printed
printed-le w ns = omega (arith, spaced-le ns, length-append w (spaced ns ++ (bytes_of ")\n")), length-append (spaced ns) (bytes_of ")\n"))

said-le : (k : ℕ) (ns : List ℕ) → length ns ≤ 4 → length (said k ns) ≤ 40
unfolding said
said-le zero [] h = omega (arith, printed-le (bytes_of "done") [])
said-le zero (x ∷ ns) h =
    by_test {P = length (said zero (x ∷ ns)) ≤ 40} (eqb x 1) (λ e. rw e (omega (arith, printed-le (bytes_of "sent") ns))) (λ e. rw e (omega (arith, printed-le (bytes_of "idle") [])))
said-le (suc k) ns h = omega (arith, printed-le (bytes_of "refused") (suc k ∷ []))

-- ---- a call of a form answers four numbers at most

ruled-le : (n : ℕ) (f : ℕ → Outcome) (d : Outcome) → ((k : ℕ) → length (f k).numbers ≤ 4) → length d.numbers ≤ 4 → length (ruled n f d).numbers ≤ 4
unfolding ruled
ruled-le zero f d h e = e
ruled-le (suc n) f d h e = h (suc n)

draw-le : (z : Shape) (l : Lent) → length (outcome base (draw z) l).numbers ≤ 4
unfolding outcome refused done answered
draw-le z l = ruled-le _ _ _ (λ k. omega arith) (omega arith)

poke_le : (a v : ℕ) (l : Lent) → length (outcome base (write_byte a v) l).numbers ≤ 4
unfolding outcome refused done answered
poke_le a v l = ruled-le _ _ _ (λ k. omega arith) (omega arith)

sent_le : (p : Pending) → length (send_numbers p) ≤ 4
unfolding send_numbers line_numbers
sent_le p = by_test {P = length (send_numbers p) ≤ 4} (is_empty (take_owed p).hand) (λ e. rw e (omega arith)) (λ e. rw e (omega arith))

send_le : (l : Lent) → length (outcome base (send 0) l).numbers ≤ 4
unfolding outcome refused done answered
send_le l = ruled-le _ _ _ (λ k. omega arith) (sent_le _)

-- ---- lines

abbrev Short : ScriptLine → Type 0
Short x = (n : ℕ) (l : Lent) → length (line_prints n x l) ≤ 40

choose_short : (t : Match) (f : List ℕ → ScriptLine) (z : ScriptLine) → ((fs : List ℕ) → Short (f fs)) → Short z → Short (if_matched t f z)
unfolding if_matched
choose_short unmatched f z h k = k
choose_short (matched_with fs) f z h k = h fs

form_short : (s : List ℕ) → Short (read_line s)
unfolding read_line line_prints
form_short s =
    choose_short _ point_form _ (λ fs n l. said-le _ _ (draw-le _ l))
    (choose_short _ line_form _ (λ fs n l. said-le _ _ (draw-le _ l))
    (choose_short _ poke_form _ (λ fs n l. said-le _ _ (poke_le _ _ l))
    (choose_short _ send_form bad_line (λ fs n l. said-le _ _ (send_le l)) (λ n l. omega (arith, printed-le (bytes_of "bad") (n ∷ []))))))

ending-le : (l : Lent) → length (ending l) ≤ 28
unfolding ending
ending-le l = printed-le (bytes_of "end") _

run-le : (ls : List (List ℕ)) (n : ℕ) (l : Lent) → length (run_lines_from n (map read_line ls) l) ≤ 40 * length (map read_line ls) + 28
unfolding run_lines_from
run-le [] n l = omega (arith, ending-le l)
run-le (s ∷ ls) n l =
    omega (arith, form_short s n l, run-le ls (n + 1) (line_leaves (read_line s) l), length-append (line_prints n (read_line s) l) (run_lines_from (n + 1) (map read_line ls) (line_leaves (read_line s) l)))

pub text-le : (s : List ℕ) → length (script_text s) ≤ longest_text
unfolding script_text run_lines read_script
text-le s =
    by_lt longest (length s) (λ h. rw (lt-ltb longest (length s) h) (omega (arith, printed-le (bytes_of "long") [])))
    (λ h. rw (le-ltb longest (length s) h) (omega (arith, run-le (script_lines s) 1 opened, read_le s)))

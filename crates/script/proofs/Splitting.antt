-- A script's lines, one after another: the first line ends at the first newline, and the others follow it.
use Rattle.std.proofs.Common.{◌≡◌, ℕ, suc, ◌+◌, ◌-◌, ◌<◌, ◌≤◌, List, [], ◌∷◌, cond, length, get_or, take, drop, refl, ap, sym, ◌∙◌, arith, length-drop, drop-cons, drop_of_length-le}
use Prim.Native.Char.{code}
use Rattle.std.proofs.Math.Dec.{eqb, ltb}
use Rattle.std.proofs.Math.ListN.{length-map}
use Rattle.std.proofs.Math.Numerals.{one-add}
use Rattle.std.proofs.Math.Seq.{drop-drop, length-take-le, take_all}
use Rattle.std.proofs.lemmas.Bool.{ltb-false}
use Rattle.std.proofs.lemmas.List.Sums.{prefix_len-le-length}
use Rattle.std.proofs.lemmas.List.Recursion.{is_position_or_len}
use Rattle.std.specs.List.{position_or_len}
use Rattle.std.specs.Option.{unwrap_or}
use Rattle.std.specs.Prelude.{Option, None, Some, not}
use Rattle.model.specs.Script.Read.{on_first, script_lines, read_line, read_script}
use Rattle.laws.specs.Tests.{by_test}
use Rattle.script.specs.Lines.{line_length, lines_from}

-- a line is as long as the place of the first newline says
newline_ends : (s : List ℕ) → line_length s ≡ position_or_len (λ b. eqb b (code "\n")) s
unfolding line_length
newline_ends s = is_position_or_len line_length (λ b. eqb b (code "\n")) refl (λ b t. ap (λ (k : ℕ). cond (eqb b (code "\n")) 0 k) (sym (one-add (line_length t)))) s

pub ends_at : (s : List ℕ) (r : Option ℕ) → r ≡ cond (ltb (position_or_len (λ b. eqb b (code "\n")) s) (length s)) (Some (position_or_len (λ b. eqb b (code "\n")) s)) None → unwrap_or r (length s) ≡ line_length s
ends_at s r e =
    let n = position_or_len (λ b. eqb b (code "\n")) s in
    rw (newline_ends s, e)
    (by_test (ltb n (length s)) (λ h. rw h) (λ h. rw h (omega (arith, ltb-false n (length s) h, prefix_len-le-length (λ b. not (eqb b (code "\n"))) s))))

-- ---- the first line and the rest

first : (b : ℕ) (s : List ℕ) → script_lines (b ∷ s) ≡ take (line_length (b ∷ s)) (b ∷ s) ∷ script_lines (drop (suc (line_length (b ∷ s))) (b ∷ s))
unfolding script_lines line_length on_first
first b [] = by_test (eqb b (code "\n")) (λ e. rw e) (λ e. rw e)
first b (a ∷ s) = by_test (eqb b (code "\n")) (λ e. rw e) (λ e. rw e (ap (on_first b) (first a s)))

first-line : (s : List ℕ) (at : ℕ) → at < length s → lines_from at s ≡ take (line_length (drop at s)) (drop at s) ∷ lines_from (at + suc (line_length (drop at s))) s
unfolding lines_from
first-line s at h =
    let c = drop-cons s at 0 h in
    ap script_lines c ∙ first (get_or s at 0) (drop (suc at) s)
    ∙ sym (ap (λ (l : List ℕ). take (line_length l) l ∷ script_lines (drop (suc (line_length l)) l)) c)
    ∙ ap (λ (l : List ℕ). take (line_length (drop at s)) (drop at s) ∷ script_lines l) (drop-drop (suc (line_length (drop at s))) at s)

-- the line at a place and the lines behind it, where k is its length
module _ (s : List ℕ) (at k : ℕ) (h : at < length s) (e : k ≡ line_length (take (length s - at) (drop at s))) where
  whole : take (length s - at) (drop at s) ≡ drop at s
  whole = take_all _ (drop at s) (omega (arith, length-drop at s))

  long : k ≡ line_length (drop at s)
  long = e ∙ ap line_length whole

  pub line_here : ◌≡◌ {A = List (List ℕ)} (take k (take (length s - at) (drop at s)) ∷ []) (take 1 (lines_from at s))
  line_here = ap (λ (l : List ℕ). take k l ∷ []) whole ∙ ap (λ (i : ℕ). take i (drop at s) ∷ []) long ∙ sym (ap (take 1) (first-line s at h))

  pub lines_behind : k ≤ length (take (length s - at) (drop at s)) → (at + length (take k (take (length s - at) (drop at s))) ≤ length s) × (lines_from (at + length (take k (take (length s - at) (drop at s))) + 1) s ≡ drop 1 (lines_from at s))
  lines_behind b =
      let n : length (take k (take (length s - at) (drop at s))) ≡ k = length-take-le k _ b in
      let m : at + length (take k (take (length s - at) (drop at s))) + 1 ≡ at + suc (line_length (drop at s)) = omega (arith, long) in
      (omega (arith, ap length whole, length-drop at s), ap (λ (i : ℕ). lines_from i s) m ∙ sym (ap (drop 1) (first-line s at h)))

pub no_line : (s : List ℕ) (at : ℕ) → length s ≤ at → ◌≡◌ {A = List (List ℕ)} [] (take 1 (lines_from at s))
unfolding lines_from script_lines
no_line s at h = rw (drop_of_length-le s h)

-- ---- no more lines than bytes

first-le : (b : ℕ) (ls : List (List ℕ)) → length (on_first b ls) ≤ suc (length ls)
unfolding on_first
first-le b [] = omega arith
first-le b (l ∷ ls) = omega arith

lines_le : (s : List ℕ) → length (script_lines s) ≤ length s
unfolding script_lines
lines_le [] = omega arith
lines_le (b ∷ s) =
    by_test {P = length (cond (eqb b (code "\n")) ([] ∷ script_lines s) (on_first b (script_lines s))) ≤ suc (length s)} (eqb b (code "\n"))
    (λ e. rw e (omega (arith, lines_le s))) (λ e. rw e (omega (arith, lines_le s, first-le b (script_lines s))))

pub read_le : (s : List ℕ) → length (read_script s) ≤ length s
unfolding read_script
read_le s = omega (arith, length-map (script_lines s) read_line, lines_le s)

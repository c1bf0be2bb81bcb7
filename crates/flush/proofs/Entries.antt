-- The extra list entry by entry: an entry that is cut off what is left of the list has the offset that stands there, and what follows begins six bytes on.
use Rattle.std.proofs.Common.{◌≡◌, ℕ, ◌+◌, ◌*◌, ◌/◌, ◌<◌, ◌≤◌, List, ◌++◌, length, get_or, drop, sym, ◌∙◌, ap, get_or-drop, length-append, length-drop, arith}
use Rattle.std.proofs.lemmas.List.{get_or_append_left, drop-drop}
use Rattle.std.proofs.Math.Seq.{drop-append_seam}
use Rattle.model.specs.Bytes.{four}

-- entry k
module _ (list entry rest : List ℕ) (k : ℕ) (cut : drop (6 * k) list ≡ entry ++ rest) (six : length entry ≡ 6) where
  byte : (j at : ℕ) → j < 6 → at ≡ 6 * k + j → get_or entry j 0 ≡ get_or list at 0
  byte j at l e =
      sym (get_or_append_left entry rest 0 j (omega arith)) ∙ ap (λ (s : List ℕ). get_or s j 0) (sym cut) ∙ get_or-drop (6 * k) list j 0 ∙ ap (λ (n : ℕ). get_or list n 0) (sym e)

  pub entry_offset : four entry 2 ≡ four list (6 * k + 2)
  entry_offset =
      let i = 6 * k + 2 in
      let low = byte 2 i (omega arith) (omega arith) in
      let second = byte 3 (i + 1) (omega arith) (omega arith) in
      let third = byte 4 (i + 2) (omega arith) (omega arith) in
      let high = byte 5 (i + 2 + 1) (omega arith) (omega arith) in
      cc

  pub after_entry : (j : ℕ) → j ≡ k + 1 → rest ≡ drop (6 * j) list
  after_entry j e =
      let q : 6 * j ≡ 6 * k + length entry = omega arith in
      sym (drop-append_seam entry rest) ∙ ap (drop (length entry)) (sym cut) ∙ drop-drop (length entry) (6 * k) list ∙ ap (λ (n : ℕ). drop n list) (sym q)

  pub entry_there : k < length list / 6
  entry_there = omega (arith, length-drop (6 * k) list, ap length cut, length-append entry rest)

-- no entry is left
pub entries_over : (list rest : List ℕ) (k : ℕ) → rest ≡ drop (6 * k) list → length rest < 6 → length list / 6 ≤ k
entries_over list rest k e h = omega (arith, length-drop (6 * k) list, ap length e)

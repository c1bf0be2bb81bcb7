-- A list of parts, whatever they are: the bytes of each stand at its offset, a store there changes that part alone, and a record is made of its parts.
use Rattle.std.specs.Prelude.{◌≡◌, Bool, true, ◌&&◌, not, ℕ, ◌+◌, ◌-◌, get_or, take}
use Rattle.std.proofs.Math.Path.{refl, sym}
use Rattle.std.proofs.Common.{ap, ◌∙◌, zero-add, arith, length-append, drop_of_length-le, drop-drop, eqb-true, eq-eqb, ne_eqb}
use Rattle.std.proofs.Math.Bool.{false}
use mathlib.Core.List.{List, [], ◌∷◌, ◌++◌, append_assoc}
use Rattle.std.proofs.Math.Nat.{add_assoc}
use Rattle.std.proofs.Math.ListN.{length, drop, length-drop, take-append-drop}
use Rattle.std.proofs.Math.Seq.{take_at, drop_at, drop-append-add, take-append-add}
use Rattle.std.proofs.lemmas.Bool.{not-true}
use Rattle.model.specs.Memory.{window, with_window}
use Rattle.model.specs.Record.{RecordPart, head, panel, keys, flags, edge, tag, same_part, has, distinct, written, total, offset, all}
use Rattle.laws.specs.Tests.{tests, by_test, clash, and-true, or_left, or_right}

-- ---- parts with one number are one part

untag : ℕ → RecordPart
untag n = get_or (head ∷ keys ∷ flags ∷ edge ∷ []) n (panel (n - 4))

untag_tag : (p : RecordPart) → untag (tag p) ≡ p
unfolding untag
untag_tag head = refl
untag_tag keys = refl
untag_tag flags = refl
untag_tag edge = refl
untag_tag (panel k) = ap panel (omega arith)

pub same-part : (p q : RecordPart) → same_part p q ≡ true → p ≡ q
same-part p q e = sym (untag_tag p) ∙ ap untag (eqb-true (tag p) (tag q) e) ∙ untag_tag q

same_self : (p : RecordPart) → same_part p p ≡ true
same_self p = eq-eqb (tag p) (tag p) refl

-- ---- membership

-- a part of what follows is not the first
other : (p q : RecordPart) (ps : List RecordPart) → has p ps ≡ false → has q ps ≡ true → same_part q p ≡ false
other p q ps n h = by_test (same_part q p) (λ e. clash (has p ps) (cc (same-part q p e)) n) (λ e. e)

-- ---- what the parts give is the same where they are

pub written_same : (f f' : RecordPart → List ℕ) (ps : List RecordPart) → ((p : RecordPart) → has p ps ≡ true → f p ≡ f' p) → written f ps ≡ written f' ps
unfolding written has
written_same f f' [] e = refl
written_same f f' (p ∷ ps) e = λ i. e p (or_left (has p ps) (same_self p)) i ++ written_same f f' ps (λ q h. e q (or_right (same_part q p) h)) i

pub all-at : (t : RecordPart → Bool) (ps : List RecordPart) (p : RecordPart) → all t ps ≡ true → has p ps ≡ true → t p ≡ true
unfolding all has
all-at t [] p e h = clash false h refl
all-at t (q ∷ ps) p e h =
    let k = and-true (t q) (all t ps) e in
    by_test (same_part p q) (λ s. cc (same-part p q s)) (λ s. all-at t ps p k.1 (rw s at h))

pub all_of : (t : RecordPart → Bool) (ps : List RecordPart) → ((p : RecordPart) → has p ps ≡ true → t p ≡ true) → all t ps ≡ true
unfolding all has
all_of t [] f = refl
all_of t (p ∷ ps) f = λ i. f p (or_left (has p ps) (same_self p)) i && all_of t ps (λ q h. f q (or_right (same_part q p) h)) i

pub length-written : (n : RecordPart → ℕ) (f : RecordPart → List ℕ) (ps : List RecordPart) → ((p : RecordPart) → length (f p) ≡ n p) → length (written f ps) ≡ total n ps
unfolding written total
length-written n f [] e = refl
length-written n f (p ∷ ps) e = omega (arith, length-append (f p) (written f ps), e p, length-written n f ps e)

-- ---- the bytes of a part in those of all

module _ (n : RecordPart → ℕ) where
  -- the bytes of a part stand at its offset
  pub part-written : (f : RecordPart → List ℕ) (q : RecordPart) (ps : List RecordPart) → ((p : RecordPart) → length (f p) ≡ n p) → has q ps ≡ true
      → window (offset n q ps) (n q) (written f ps) ≡ f q
  unfolding written has offset window
  part-written f q [] s h = clash false h refl
  part-written f q (p ∷ ps) s h =
      by_test (same_part q p)
      (λ e. rw e (cc (same-part q p e, take_at (f p) (written f ps) (n p) (s p))))
      (λ e. rw e (cc (s p, drop-append-add (f p) (written f ps) (offset n q ps), part-written f q ps s (rw e at h))))

  -- a store of the bytes of one part leaves the others
  pub part-stored : (f f' : RecordPart → List ℕ) (q : RecordPart) (ps : List RecordPart) → ((p : RecordPart) → length (f p) ≡ n p) → length (f' q) ≡ n q
      → ((p : RecordPart) → same_part p q ≡ false → f p ≡ f' p) → has q ps ≡ true → distinct ps ≡ true
      → with_window (offset n q ps) (f' q) (written f ps) ≡ written f' ps
  unfolding written has offset distinct with_window
  part-stored f f' q [] s l k h d = clash false h refl
  part-stored f f' q (p ∷ ps) s l k h d =
      let a = and-true (not (has p ps)) (distinct ps) d in
      let rest = written f ps in
      let o = offset n q ps in
      let m = length (f' q) in
      by_test (same_part q p)
      (λ e. let same = same-part q p e in
      let long : length (f p) ≡ m = cc (s p) in
      let others = written_same f f' ps (λ x i. k x (other q x ps (cc (not-true (has p ps) a.0)) i)) in
      rw e (cc (zero-add m, drop_at (f p) rest m long)))
      (λ e. let here = k p (ne_eqb (tag p) (tag q) (λ t. omega (arith, tests))) in
      let past = append_assoc (f p) (take o rest) (f' q ++ drop (o + m) rest) in
      rw e (cc (s p, take-append-add (f p) rest o, add_assoc (n p) o m, drop-append-add (f p) rest (o + m), part-stored f f' q ps s l k (rw e at h) a.1)))

  -- a record is its parts, one after another
  pub parts-written : (r : List ℕ) (ps : List RecordPart) → distinct ps ≡ true → length r ≡ total n ps
      → written (λ p. window (offset n p ps) (n p) r) ps ≡ r
  unfolding written offset distinct total window
  parts-written r [] d l = sym (drop_of_length-le r {i = 0} (omega arith))
  parts-written r (p ∷ ps) d l =
      let a = and-true (not (has p ps)) (distinct ps) d in
      let rest = drop (n p) r in
      let same = written_same (λ q. window (offset n q (p ∷ ps)) (n q) r) (λ q. window (offset n q ps) (n q) rest) ps
      (λ q h. rw (other p q ps (not-true (has p ps) a.0) h) (ap (take (n q)) (sym (drop-drop (offset n q ps) (n p) r)))) in
      rw (same_self p) (cc (parts-written rest ps a.1 (simp length-drop (omega arith)), take-append-drop (n p) r))

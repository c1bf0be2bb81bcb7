use Rattle.std.proofs.Common.{◌≡◌, ◌∙◌, List, ℕ, ◌+◌, ◌<◌, arith, length, get_or, set, length-set}
use lib.Seq.{ext_get_or, get_or-set_same, get_or-set_other}
use Rattle.laws.specs.Tests.{by_eq}
use Rattle.slices.proofs.copy_bytes.Goals as goal

one_more : (from onto : List ℕ) (i : ℕ) → i < length onto → ((k : ℕ) → k < i → get_or onto k 0 ≡ get_or from k 0)
    → (k : ℕ) → k < i + 1 → get_or (set onto i (get_or from i 0)) k 0 ≡ get_or from k 0
one_more from onto i l h k m =
    by_eq k i (λ e. rw e (get_or-set_same onto i (get_or from i 0) 0 l)) (λ n. get_or-set_other onto i k (get_or from i 0) 0 n ∙ h k (omega arith))

pub loop-i-preserved : goal.loop-i-preserved
loop-i-preserved c =
    let a = c.args in
    let l = c.loop-i in
    (simp length-set (omega arith), one_more a.from.now l.onto l.i (omega arith) l.invariant.1)

pub returns : goal.returns
returns c = let l = c.loop-i in ext_get_or 0 l.onto _ l.invariant.0 (λ k h. l.invariant.1 k (omega arith))

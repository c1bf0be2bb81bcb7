-- The bytes behind the first n are moved to the start, and the part behind them is cleared.
use Rattle.std.proofs.Common.{◌≡◌, refl, List, ℕ, ◌-◌, ◌≤◌, length, take, drop, ap, ◌∙◌, arith, length-take, length-drop, length-set}
use borrow.Rule.Slice.PartMut.{put_mid}
use Rattle.model.specs.Memory.{with_window, zeros}
use Rattle.model.specs.Print.{scrolled}
use Rattle.laws.specs.Parts.{part_back}
use Rattle.laws.specs.Loops.{length-zeros}
use Rattle.laws.specs.Pages.{scrolling, scroll_turn, scroll_end}
use Rattle.slices.proofs.scroll.Goals as goal

moved-up : (n j : ℕ) (d m s : List ℕ) → n ≤ length d → j ≡ length d - n → length m ≡ length d → m ≡ scrolling n j d
    → s ≡ zeros (length (take (length m - j) (drop j m))) → put_mid j (length m - j) m s ≡ scrolled n 0 d
moved-up n j d m s h k l e f =
    let c : length (take (length m - j) (drop j m)) ≡ n = simp (length-take, length-drop) (omega arith) in
    let z : s ≡ zeros n = f ∙ ap zeros c in
    part_back j (length m) m s (omega arith) (ap length z ∙ length-zeros n ∙ omega arith)
    ∙ ap (λ (x : List ℕ). with_window j x m) z
    ∙ scroll_end n j d m h k e

pub loop-i-init : goal.loop-i-init
loop-i-init c = (refl, refl)

pub loop-i-preserved : goal.loop-i-preserved
loop-i-preserved c =
    let l = c.loop-i in
    let a = c.args in
    (simp length-set l.invariant.0, scroll_turn a.n l.i a.part.now l.part (omega arith) l.invariant.1)

pub returns : goal.returns
returns c =
    let l = c.loop-i in
    moved-up c.args.n (length c.args.part.now - c.args.n) c.args.part.now l.part c.clear.new.part c.requires refl l.invariant.0 (l.invariant.1 ∙ ap (λ i. scrolling c.args.n i c.args.part.now) (omega arith)) c.clear.ensures

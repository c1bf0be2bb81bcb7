-- The invariant: what is left of the text, printed on the page as it stands, gives what the whole text gives on the first page; each turn scrolls at most twice.
use Rattle.std.proofs.Common.{◌≡◌, ◌≤◌, ◌-◌, ◌*◌, length, drop}
use Rattle.model.specs.Print.{print_bytes}
use Rattle.text.specs.Written.{page, Ready}
use Rattle.text.proofs.print.print_bytes.Given as goal

abbrev pub invariant-loop-i : goal.invariant-loop-i
invariant-loop-i l =
    (l.i ≤ l.n) × (length l.text ≡ length l.initial.text) × (length l.flags ≡ length l.initial.flags) × Ready l.rows l.columns 1 l.text l.flags l.q × (l.q.scrolls ≤ 2 * l.i)
    × (print_bytes l.rows l.columns l.inverse (drop l.i l.from) (page l.text l.flags l.q) ≡ print_bytes l.rows l.columns l.inverse l.from (page l.initial.text l.initial.flags l.initial.q))

abbrev pub decreases-loop-i : goal.decreases-loop-i
decreases-loop-i l = l.n - l.i

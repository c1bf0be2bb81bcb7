-- The first i bytes are those that stood n places on, the others are as they were.
use Rattle.std.proofs.Common.{◌≡◌, length}
use Rattle.laws.specs.Pages.{scrolling}
use Rattle.slices.proofs.scroll.Given as goal

abbrev pub invariant-loop-i : goal.invariant-loop-i
invariant-loop-i l = (length l.part ≡ length l.initial.part) × (l.part ≡ scrolling l.n l.i l.initial.part)

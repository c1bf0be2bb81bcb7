-- Clearing on from here gives what clearing from the first cell gives.
use Rattle.std.proofs.Common.{◌≡◌, ◌-◌, length}
use Rattle.model.specs.Print.{clear_from, clear_until}
use Rattle.text.proofs.clear.clear_from.Given as goal

abbrev pub invariant-loop-i : goal.invariant-loop-i
invariant-loop-i l =
    (length l.text ≡ length l.initial.text) × (clear_until (length l.initial.text - l.i) l.i l.text ≡ clear_from l.at l.fn.text)

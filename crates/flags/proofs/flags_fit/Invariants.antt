-- What the flags so far have passed, and those that are left, decide as all do.
use Rattle.std.proofs.Common.{◌≡◌, ◌-◌, ◌&&◌, drop}
use Rattle.model.specs.Flags.{flags_fit}
use Rattle.flags.proofs.flags_fit.Given as goal

abbrev pub invariant-loop-flag : goal.invariant-loop-flag
invariant-loop-flag l = (l.ok && flags_fit (l.cells - l.flag-index) (drop l.flag-index l.flags)) ≡ flags_fit l.cells l.flags

-- The loop's invariant: the bytes before `at` are painted.
use Rattle.std.proofs.Common.{◌≡◌, ◌-◌, ◌*◌}
use Rattle.laws.specs.PaintedBits.{painted_bits}
use Rattle.bit_runs.proofs.paint_aligned.Given as goal

abbrev pub invariant-loop-at : goal.invariant-loop-at
invariant-loop-at l = l.memory ≡ painted_bits l.mode (8 * l.source) (8 * l.from) (8 * (l.at - l.from)) l.initial.memory

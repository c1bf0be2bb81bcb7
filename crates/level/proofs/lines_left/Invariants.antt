use Rattle.std.proofs.Common.{◌≡◌, ◌+◌, ◌-◌, ◌*◌, ◌≤◌}
use Rattle.model.specs.Bytes.{rects_at}
use Rattle.model.specs.Lists.{owed_lines}
use Rattle.level.proofs.lines_left.Given as goal

abbrev pub invariant-loop-i : goal.invariant-loop-i
invariant-loop-i l =
    (l.owed + owed_lines (rects_at (l.bands - l.i) l.rec (l.at + 8 * l.i)) ≡ owed_lines (rects_at l.bands l.rec l.at)) × (l.owed ≤ 65536 * l.i)

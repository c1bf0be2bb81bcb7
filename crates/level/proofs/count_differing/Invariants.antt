use Rattle.std.proofs.Common.{◌≡◌, ◌+◌, ◌*◌, ◌≤◌, length}
use Rattle.std.specs.Iterator.Adapters.{zip_first, zip_second}
use Rattle.std.specs.Slice.Iter.{iter_rest}
use Rattle.laws.specs.Counts.{bytes_differ}
use Rattle.level.proofs.count_differing.Given as goal

abbrev pub invariant-loop-a : goal.invariant-loop-a
invariant-loop-a l =
    (l.n + bytes_differ (iter_rest (zip_first l.a-iterator)) (iter_rest (zip_second l.a-iterator)) ≡ bytes_differ l.screen l.panel)
    × (length (iter_rest (zip_first l.a-iterator)) ≡ length (iter_rest (zip_second l.a-iterator)))
    × (l.n + 8 * length (iter_rest (zip_first l.a-iterator)) ≤ 8 * length l.screen)

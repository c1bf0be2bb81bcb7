-- The entries that are left pass exactly where the whole list does; one that fails decides.
use Rattle.std.proofs.Common.{◌≡◌, ◌-◌, ◌*◌, ◌/◌, length, drop}
use Rattle.std.specs.Slice.Iter.{chunks_exact_rest, chunks_exact_size}
use Rattle.flush.specs.Fits.{entries_fit_from, entries_fit}
use Rattle.flush.proofs.fit.entries_fit.Given as goal

abbrev pub invariant-loop-entry : goal.invariant-loop-entry
invariant-loop-entry l =
    (goal.iterator-loop-entry).can_next l.entry-iterator ×
    (goal.iterator-loop-entry).is_finite l.entry-iterator ×
    (chunks_exact_size l.entry-iterator ≡ 6) ×
    (chunks_exact_rest l.entry-iterator ≡ drop (6 * length l.yielded) l.list) ×
    (entries_fit_from l.list l.extra (6 * length l.yielded) (length l.list / 6 - length l.yielded) ≡ entries_fit l.list l.extra)

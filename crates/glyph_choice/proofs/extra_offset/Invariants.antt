-- The entries that are left, from the place that is reached, give what the whole list gives.
use Rattle.std.proofs.Common.{◌≡◌, ◌-◌, ◌*◌, ◌/◌, length}
use Rattle.model.specs.Codes.{extra_from, extra_offset}
use Rattle.glyph_choice.proofs.extra_offset.Given as goal

abbrev pub invariant-loop-k : goal.invariant-loop-k
invariant-loop-k l = extra_offset l.list l.code ≡ extra_from l.list l.code (6 * l.k) (length l.list / 6 - l.k)

-- After i turns the first i bytes are copied; the bytes after them are not spoken of.
use Rattle.std.proofs.Common.{◌≡◌, ℕ, ◌<◌, length, get_or}
use Rattle.slices.proofs.copy_bytes.Given as goal

abbrev pub invariant-loop-i : goal.invariant-loop-i
invariant-loop-i l = (length l.onto ≡ length l.from) × ((k : ℕ) → k < l.i → get_or l.onto k 0 ≡ get_or l.from k 0)

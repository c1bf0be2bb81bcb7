use Rattle.std.proofs.Common.{◌≡◌, take}
use Rattle.model.specs.Memory.{with_window}
use Rattle.model.specs.Bytes.{words_bytes}
use Rattle.updates.proofs.open.store_keys.Given as goal

abbrev pub invariant-loop-i : goal.invariant-loop-i
invariant-loop-i l = l.rec ≡ with_window l.at (words_bytes (take l.i l.fn.keys)) l.initial.rec

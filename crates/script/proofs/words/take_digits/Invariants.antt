use Rattle.std.proofs.Common.{◌≡◌, ◌<◌, drop}
use Rattle.model.specs.Script.Read.{take_digits}
use Rattle.script.proofs.words.take_digits.Given as goal

abbrev pub invariant-loop-i : goal.invariant-loop-i
invariant-loop-i l = (l.v < 100000) × (take_digits l.v (drop l.i l.s) ≡ take_digits l.first l.s)

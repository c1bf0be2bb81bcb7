use Rattle.std.proofs.Common.{take}
use Rattle.model.specs.Script.Output.{spaced}
use Rattle.script_run.specs.Buffers.{Appended}
use Rattle.script_run.proofs.output.Output.put_numbers.Given as goal

abbrev pub invariant-loop-n : goal.invariant-loop-n
invariant-loop-n l = Appended (spaced (take l.n-index l.numbers)) l.initial.self l.self

use Rattle.std.proofs.Common.{◌≡◌}
use Rattle.model.specs.Glass.{geometry}
use Rattle.model.specs.Record.{decode}
use Rattle.model.specs.Open.{with_keys}
use Rattle.record.proofs.keys.write_keys.Given as goal

abbrev pub invariant-loop-a : goal.invariant-loop-a
invariant-loop-a l = l.memory ≡ with_keys (decode (geometry l.glass) l.rec).keys l.a l.initial.memory

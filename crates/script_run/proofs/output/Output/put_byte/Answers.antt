use Rattle.std.proofs.Common.{refl}
use Rattle.script_run.proofs.Writing.{wrote_byte}
use Rattle.script_run.proofs.output.Output.put_byte.Goals as goal

pub returns : goal.returns
returns c = record { wrote = wrote_byte _ _ _ c.requires; same_bytes = refl }

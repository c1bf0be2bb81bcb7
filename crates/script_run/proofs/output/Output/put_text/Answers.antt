use Rattle.std.proofs.Common.{refl}
use Rattle.script_run.proofs.Writing.{wrote_text}
use Rattle.script_run.proofs.output.Output.put_text.Goals as goal

pub returns : goal.returns
returns c = record { wrote = wrote_text _ _ _ _ c.copy_from_slice.ensures.after; same_bytes = refl }

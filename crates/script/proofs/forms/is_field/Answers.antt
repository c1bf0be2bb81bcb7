use Rattle.std.proofs.Common.{arith}
use Rattle.std.proofs.lemmas.Grind.{common_steps}
use Rattle.model.specs.Script.Read.{is_field}
use Rattle.script.proofs.forms.is_field.Goals as goal

pub returns-in-35 : goal.returns-in-35
unfolding is_field
returns-in-35 c = grind (arith, common_steps)

pub returns-in_default : goal.returns-in_default
unfolding is_field
returns-in_default c = grind (arith, common_steps)

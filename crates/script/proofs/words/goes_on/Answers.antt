use Rattle.std.proofs.Common.{arith}
use Rattle.std.proofs.lemmas.Grind.{common_steps}
use Rattle.model.specs.Script.Read.{is_digit, goes_on}
use Rattle.script.proofs.words.goes_on.Goals as goal

pub returns-then-is_ascii_digit-clause-value : goal.returns-then-is_ascii_digit-clause-value
unfolding goes_on is_digit
returns-then-is_ascii_digit-clause-value c = grind (arith, common_steps)

pub returns-else-is_ascii_digit-clause-value : goal.returns-else-is_ascii_digit-clause-value
unfolding goes_on is_digit
returns-else-is_ascii_digit-clause-value c = grind (arith, common_steps)

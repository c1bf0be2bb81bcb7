use Rattle.std.proofs.Common.{arith}
use Rattle.std.proofs.lemmas.Grind.{common_steps}
use Rattle.model.specs.Script.Read.{is_digit, at_most, take_number}
use Rattle.script.proofs.words.take_number.Goals as goal

pub returns-in_err-d : goal.returns-in_err-d
unfolding take_number at_most is_digit
returns-in_err-d c = grind (arith, common_steps)

pub returns-then-not-is_ascii_digit : goal.returns-then-not-is_ascii_digit
unfolding take_number at_most is_digit
returns-then-not-is_ascii_digit c = grind (arith, common_steps)

pub returns-then-d-eq48 : goal.returns-then-d-eq48
unfolding take_number at_most is_digit
returns-then-d-eq48 c = grind (arith, common_steps)

pub returns-then-v-from : goal.returns-then-v-from
unfolding take_number at_most is_digit
returns-then-v-from c = grind (arith, common_steps)

pub returns : goal.returns
unfolding take_number at_most is_digit
returns c = grind (arith, common_steps)

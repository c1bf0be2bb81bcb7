use Rattle.std.proofs.Common.{arith}
use Rattle.std.proofs.lemmas.Grind.{common_steps}
use Rattle.script.proofs.Reading.{digits_end, digits_stop, digits_turn}
use Rattle.script.proofs.words.take_digits.Goals as goal

pub returns-then-not-goes_on : goal.returns-then-not-goes_on
returns-then-not-goes_on c = search digits_stop

pub loop-i-preserved : goal.loop-i-preserved
loop-i-preserved c = grind (arith, common_steps, digits_turn)

pub returns : goal.returns
returns c = search digits_end

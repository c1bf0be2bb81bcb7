use Rattle.std.proofs.Common.{arith}
use Rattle.std.proofs.lemmas.Grind.{common_steps}
use Rattle.script.proofs.Reading.{word_is}
use Rattle.script.proofs.words.take_word.Goals as goal

pub returns-in_err-rest : goal.returns-in_err-rest
returns-in_err-rest c = grind (arith, common_steps, word_is)

pub returns : goal.returns
returns c = grind (arith, common_steps, word_is)

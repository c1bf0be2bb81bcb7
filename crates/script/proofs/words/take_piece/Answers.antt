use Rattle.std.proofs.Common.{arith}
use Rattle.std.proofs.lemmas.Grind.{common_steps}
use Rattle.model.specs.Script.Read.{take_piece}
use Rattle.script.proofs.words.take_piece.Goals as goal

pub returns-in-35 : goal.returns-in-35
unfolding take_piece
returns-in-35 c = grind (arith, common_steps)

pub returns-in-64 : goal.returns-in-64
unfolding take_piece
returns-in-64 c = grind (arith, common_steps)

pub returns-in-42 : goal.returns-in-42
unfolding take_piece
returns-in-42 c = grind (arith, common_steps)

pub returns-in_default : goal.returns-in_default
unfolding take_piece
returns-in_default c = grind (arith, common_steps)

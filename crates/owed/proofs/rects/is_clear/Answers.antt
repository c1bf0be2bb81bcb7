-- A number of two bytes is zero where both are.
use Rattle.laws.specs.Owed.{is_clear}
use Rattle.owed.proofs.rects.is_clear.Goals as goal

pub returns : goal.returns
returns c = let a = c.args in is_clear a.bytes.now a.at

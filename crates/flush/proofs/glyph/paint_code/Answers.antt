use Rattle.flush.proofs.Painting.{code_painted}
use Rattle.flush.proofs.glyph.paint_code.Goals as goal

pub returns : goal.returns
returns c = search code_painted

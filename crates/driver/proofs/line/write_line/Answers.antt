-- A start and a data write for each byte: the list of the line's writes.
use Rattle.std.proofs.Common.{arith}
use Rattle.model.specs.Geometry.{base}
use Rattle.driver.specs.Line.{line_made}
use Rattle.driver.proofs.line.write_line.Goals as goal

pub returns : goal.returns
returns c =
    record { left = line_made base _ _ _ _ _ _ c.start_line-s.result c.write_bytes.result _ _ _ _ c.start_line-s.ensures.left c.write_bytes.ensures.left (omega arith) (omega arith) }

use Rattle.std.proofs.Common.{arith}
use Rattle.model.specs.Geometry.{base}
use Rattle.driver.specs.Line.{bytes_start, bytes_ready, bytes_turn, bytes_end}
use Rattle.driver.proofs.line.write_bytes.Goals as goal

pub loop-b-init : goal.loop-b-init
loop-b-init c = bytes_start base c.requires

pub write-r-requires : goal.write-r-requires
write-r-requires c = bytes_ready base c.loop-b.invariant _ (omega arith)

pub loop-b-preserved : goal.loop-b-preserved
loop-b-preserved c = bytes_turn base c.loop-b.invariant (omega arith) c.write-r.ensures

pub returns : goal.returns
returns c = bytes_end base c.loop-b.invariant c.requires.sound.panel (omega arith)

-- `BytesTo` says what is written of the bytes before b.
use Rattle.model.specs.Geometry.{base}
use Rattle.driver.specs.Line.{BytesTo}
use Rattle.driver.proofs.line.write_bytes.Given as goal

abbrev pub invariant-loop-b : goal.invariant-loop-b
invariant-loop-b l = BytesTo base l.initial.r l.initial.panel l.bytes l.b-index l.r l.panel

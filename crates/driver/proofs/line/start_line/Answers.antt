-- Each write finds the device not busy; the fourth finds a line that fits.
use Rattle.std.proofs.Common.{refl}
use Rattle.model.specs.Geometry.{base}
use Rattle.model.specs.Controller.{takes_write, registers_after}
use Rattle.driver.specs.Line.{ready_field, after_field, ready_start, line_starts}
use Rattle.driver.proofs.line.start_line.Goals as goal

pub write-a-requires : goal.write-a-requires
unfolding takes_write
write-a-requires c = ready_field base c.requires.idle _ _ refl

pub write-b-requires : goal.write-b-requires
unfolding takes_write registers_after
write-b-requires c = ready_field base (after_field base c.requires.idle 1 _ refl refl c.write-a.ensures) _ _ refl

pub write-c-requires : goal.write-c-requires
unfolding takes_write registers_after
write-c-requires c =
    ready_field base (after_field base (after_field base c.requires.idle 1 _ refl refl c.write-a.ensures) 2 _ refl refl c.write-b.ensures) _ _ refl

pub write-requires : goal.write-requires
write-requires c =
    ready_start base c.requires.idle c.requires.line_in c.write-a.ensures c.write-b.ensures c.write-c.ensures

pub returns : goal.returns
returns c =
    line_starts base c.requires.idle c.requires.line_in c.write-a.ensures c.write-b.ensures c.write-c.ensures c.write.ensures

-- Row after row: what is left of the walk, painted on the screen as it stands, gives what the whole gives on the cleared one.
use Rattle.std.proofs.Common.{◌-◌}
use Rattle.flush.specs.Lent.{fonts_of, flags_of}
use Rattle.model.specs.Flush.{spot}
use Rattle.flush.specs.Painted.{PaintedTo}
use Rattle.flush.proofs.screen.flush_screen.Given as goal

abbrev pub invariant-loop-s : goal.invariant-loop-s
invariant-loop-s l =
    PaintedTo l.style.columns l.style.rows l.text (flags_of l.style) l.style.version (fonts_of l.style.fonts) (spot 0 0 0) l.initial.screen l.s l.screen

abbrev pub decreases-loop-s : goal.decreases-loop-s
decreases-loop-s l = l.style.rows - l.s.row

-- What is left of the walk fits, and painted on the screen as it stands it gives what it gave at the row's first spot.
use Rattle.flush.specs.Lent.{fonts_of, flags_of}
use Rattle.laws.specs.FlushWalk.{places_left}
use Rattle.flush.specs.Painted.{PaintedTo}
use Rattle.flush.proofs.paint.paint_row.Given as goal

abbrev pub invariant-loop-s : goal.invariant-loop-s
invariant-loop-s l =
    PaintedTo l.style.columns l.style.rows l.text (flags_of l.style) l.style.version (fonts_of l.style.fonts) l.initial.s l.initial.screen l.s l.screen

abbrev pub decreases-loop-s : goal.decreases-loop-s
decreases-loop-s l = places_left l.style.columns l.style.rows l.s

-- What is left of the walk passes exactly where the whole does; a step that fails decides.
use Rattle.std.proofs.Common.{◌≡◌}
use Rattle.flush.specs.Lent.{fonts_of}
use Rattle.laws.specs.FlushWalk.{Within, places_left, rest}
use Rattle.flush.specs.Fits.{walk_fits, text_fits}
use Rattle.flush.proofs.fit.walk_fits.Given as goal

abbrev pub invariant-loop-s : goal.invariant-loop-s
invariant-loop-s l =
    Within l.style.columns l.style.rows l.s × (walk_fits l.style.version (fonts_of l.style.fonts) (rest l.style.columns l.style.rows l.text l.s) ≡ text_fits l.style.columns l.style.rows l.text l.style.version (fonts_of l.style.fonts))

abbrev pub decreases-loop-s : goal.decreases-loop-s
decreases-loop-s l = places_left l.style.columns l.style.rows l.s

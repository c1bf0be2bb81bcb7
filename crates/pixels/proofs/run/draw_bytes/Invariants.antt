-- The loop's invariant: the rest of the bytes, drawn on the screen as it stands, gives them all.
use Rattle.std.proofs.Common.{◌≡◌, ◌-◌}
use Rattle.laws.specs.Runs.{masked_bytes}
use Rattle.pixels.specs.Raster.{mode_of}
use Rattle.pixels.proofs.run.draw_bytes.Given as goal

abbrev pub invariant-loop-at : goal.invariant-loop-at
invariant-loop-at l =
    masked_bytes l.screen l.at (l.to - l.at) (mode_of l.op) ≡ masked_bytes l.initial.screen l.from (l.to - l.from) (mode_of l.op)

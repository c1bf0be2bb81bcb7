use native.Mathlib.Omega.{arith}
use Rattle.model.specs.Bytes.{Bytes}
use Rattle.laws.specs.Points.{plotted}
use Rattle.pixels.proofs.point.plot_mask.Goals as goal

pub returns : goal.returns
unfolding Bytes
returns c =
    plotted _ _ c.args.y _ _ (λ i. omega (arith, c.slice_known-2-1.given i)) c.requires.mask_value c.point_byte-b.ensures

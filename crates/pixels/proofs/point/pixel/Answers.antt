use Rattle.model.specs.Bytes.{Bytes}
use native.Mathlib.Omega.{arith}
use Rattle.laws.specs.Points.{seen-bit}
use Rattle.pixels.proofs.point.pixel.Goals as goal

pub returns : goal.returns
unfolding Bytes
returns c =
    seen-bit _ _ c.args.y _ (λ i. omega (arith, c.shared_slice_known-2-1.given i)) c.point_mask-mask.ensures

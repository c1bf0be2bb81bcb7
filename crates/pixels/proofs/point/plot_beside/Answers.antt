use native.Mathlib.Omega.{arith}
use Rattle.model.specs.Bytes.{Bytes}
use Rattle.laws.specs.Runs.{beside_drawn, beside_none}
use Rattle.pixels.specs.Raster.{op_known}
use Rattle.pixels.proofs.point.plot_beside.Goals as goal

pub returns-then-x-stride : goal.returns-then-x-stride
unfolding Bytes
returns-then-x-stride c =
    beside_drawn _ _ _ c.args.y _ _ _ c.requires.screen (λ i. omega (arith, c.slice_known-1.given i)) (omega arith) c.requires.y_lt_height (op_known c.args.op) c.requires.mask_value
    c.draw_mask.ensures

pub returns-else-x-stride : goal.returns-else-x-stride
returns-else-x-stride c = search beside_none

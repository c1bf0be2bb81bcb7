-- A draw mode as the two bytes that code draws with.
use Rattle.std.specs.Prelude.{◌≡◌, refl, false, ℕ, ◌-◌, eqb}
use Rattle.std.specs.Int.Bits.{bit_and, bit_xor}
use Rattle.model.specs.declared.DrawMode.{DrawMode}
use Rattle.model.specs.declared.DrawMode.TheVariants.{Clear, Or, Xor, Unknown}
use Rattle.model.specs.Lines.{is_unknown}
use Rattle.laws.specs.Tests.{if_cases}
use Rattle.laws.specs.Runs.{mask_byte}
use Rattle.laws.specs.Lines.{solid}
use Rattle.pixels.specs.Masks.{mode_by, IsMasks}
use Rattle.pixels.specs.declared.raster.RasterOp.{RasterOp}

-- the mode of the two bytes; never Unknown
unfoldable pub mode_of : RasterOp → DrawMode
mode_of k = mode_by k.clear k.flip

-- a byte with the pixels of the mask m drawn
pub op_byte : (k : RasterOp) (b m : ℕ) → bit_xor (bit_and b (255 - bit_and m k.clear)) (bit_and m k.flip) ≡ mask_byte (mode_of k) b m
unfolding mask_byte mode_of
op_byte k b m = λ i. bit_xor (bit_and b (255 - bit_and m (k.masks.clears i))) (bit_and m (k.masks.flips i))

-- of any two bytes
pub mode_known : (clear flip : ℕ) → is_unknown (mode_by clear flip) ≡ false
unfolding mode_by is_unknown
mode_known clear flip =
    if_cases (λ (d : DrawMode). is_unknown d ≡ false) (eqb clear 0) (λ t. refl)
    (λ t. if_cases (λ (d : DrawMode). is_unknown d ≡ false) (eqb flip 0) (λ u. refl) (λ u. refl))

pub op_known : (k : RasterOp) → is_unknown (mode_of k) ≡ false
unfolding mode_of
op_known k = mode_known k.clear k.flip

-- the bytes of each mode; Unknown has those of Xor
module _ {d : DrawMode} where
  pub op-clear : d ≡ Clear → IsMasks 255 0 × (mode_by 255 0 ≡ solid d)
  unfolding mode_by solid
  op-clear e = rw e (record { clears = refl; flips = refl }, refl)

  pub op-or : d ≡ Or → IsMasks 255 255 × (mode_by 255 255 ≡ solid d)
  unfolding mode_by solid
  op-or e = rw e (record { clears = refl; flips = refl }, refl)

  pub op-xor : d ≡ Xor → IsMasks 0 255 × (mode_by 0 255 ≡ solid d)
  unfolding mode_by solid
  op-xor e = rw e (record { clears = refl; flips = refl }, refl)

  pub op-unknown : d ≡ Unknown → IsMasks 0 255 × (mode_by 0 255 ≡ solid d)
  unfolding mode_by solid
  op-unknown e = rw e (record { clears = refl; flips = refl }, refl)

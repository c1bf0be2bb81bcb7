use Rattle.std.proofs.Common.{refl, inl, inr}
use Rattle.laws.specs.Lines.{solid}
use Rattle.pixels.specs.Masks.{mode_by}
use Rattle.pixels.specs.Raster.{mode_of}
use Rattle.pixels.proofs.raster.RasterOpFromDrawMode.from.Goals as goal
use Rattle.pixels.proofs.raster.RasterOpFromDrawMode.from.Goals.{in-Clear, in-Or, in-Xor}

pub invariant_of-result : goal.invariant_of-result
unfolding mode_by
invariant_of-result c =
    elim c.match-mode.branch [
      | in-Clear w ↦ rw w.result-is (record { masks = record { clears = refl; flips = refl } })
      | in-Or w ↦ rw w.result-is (record { masks = record { clears = refl; flips = refl } })
      | in-Xor w ↦ rw w.result-is (record { masks = record { clears = refl; flips = refl } })
    ]

pub returns : goal.returns
unfolding mode_of mode_by solid
returns c =
    elim c.match-mode.branch [
      | in-Clear w ↦ rw (w.result-is, w.in-Clear.is)
      | in-Or w ↦ rw (w.result-is, w.in-Or.is)
      | in-Xor w ↦ elim w.in-Xor.is [ inl e ↦ rw (w.result-is, e) | inr e ↦ rw (w.result-is, e) ]
    ]

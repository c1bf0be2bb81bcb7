use Rattle.std.proofs.Common.{◌≡◌, not, ℕ, ◌+◌, ◌*◌, ◌-◌, ◌∙◌, ap, arith}
use Rattle.model.specs.Rects.{fits}
use Rattle.model.specs.Bytes.{rect_at}
use Rattle.laws.specs.Owed.{test_goes, test_fails, test_ends}
use Rattle.owed.proofs.bands.bands_fit.Goals as goal

pub returns-then-not-rect_fits : goal.returns-then-not-rect_fits
returns-then-not-rect_fits c =
    let a = c.args in
    let l = c.loop-i in
    let here = ap (λ (k : ℕ). fits a.width l.lo (l.lo + a.band) (rect_at a.rec.now k)) c.band_at.ensures in
    test_fails l.invariant (omega arith) (c.rect_fits.ensures ∙ here) (ap not c.if-not-rect_fits.true)

pub loop-i-preserved : goal.loop-i-preserved
loop-i-preserved c =
    let a = c.args in
    let l = c.loop-i in
    let here = ap (λ (k : ℕ). fits a.width l.lo (l.lo + a.band) (rect_at a.rec.now k)) c.band_at.ensures in
    let next : a.at + 8 * l.i + 8 ≡ a.at + 8 * (l.i + 1) = omega arith in
    let rest : a.bands - l.i - 1 ≡ a.bands - (l.i + 1) = omega arith in
    rw (← next, ← rest) (test_goes l.invariant (omega arith) (c.rect_fits.ensures ∙ here) (ap not c.if-not-rect_fits.false))

pub returns : goal.returns
returns c = test_ends _ _ _ _ _ _ _ _ c.loop-i.invariant (omega arith)

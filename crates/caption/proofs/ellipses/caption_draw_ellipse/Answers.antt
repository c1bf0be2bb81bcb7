use Rattle.std.proofs.Common.{refl, []}
use Rattle.model.specs.declared.refusal.Refusal.TheVariants as refusals
use Rattle.model.specs.Refusals.{VALUE, RADIUS, ENDLESS}
use Rattle.laws.specs.EllipseMarks.{always_ends}
use Rattle.caption.proofs.Calls.{fails, passes, failed, passed, none_left, stops, refused_later, finishes, given}
use Rattle.caption.proofs.ellipses.caption_draw_ellipse.Goals as goal

pub returns-in_err-enter : goal.returns-in_err-enter
returns-in_err-enter c = stops _ _ refl c.from_residual.result c.from_residual.ensures.1 c.in_err-enter.ensures

pub returns-then-not-fill_fits : goal.returns-then-not-fill_fits
returns-then-not-fill_fits c =
    refused_later _ _ refl c.in_ok-enter.ensures refusals.Value (fails _ (failed c.fill_fits.ensures c.if-not-fill_fits.true-raw))

pub returns-then-not-radii_fit : goal.returns-then-not-radii_fit
returns-then-not-radii_fit c =
    refused_later _ _ refl c.in_ok-enter.ensures refusals.Radius (passes VALUE _ (passed c.fill_fits.ensures c.if-not-fill_fits.false-raw) (fails _ (failed c.radii_fit.ensures c.if-not-radii_fit.true-raw)))

pub draw_ellipse-requires : goal.draw_ellipse-requires
draw_ellipse-requires c =
    record {
      given = given _ c.in_ok-enter.ensures;
      radii_fit = passed c.radii_fit.ensures c.if-not-radii_fit.false-raw;
    }

pub returns : goal.returns
returns c =
    let radii = passed c.radii_fit.ensures c.if-not-radii_fit.false-raw in
    finishes _ _ refl c.in_ok-enter.ensures (passes VALUE _ (passed c.fill_fits.ensures c.if-not-fill_fits.false-raw) (passes RADIUS _ radii (passes ENDLESS [] (always_ends _ _ _ _ radii) none_left))) c.draw_ellipse.ensures

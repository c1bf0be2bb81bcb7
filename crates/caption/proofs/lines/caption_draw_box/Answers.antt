use Rattle.std.proofs.Common.{refl, []}
use Rattle.model.specs.declared.refusal.Refusal.TheVariants as refusals
use Rattle.model.specs.Refusals.{VALUE}
use Rattle.caption.proofs.Calls.{fails, passes, failed, passed, none_left, stops, refused_later, finishes, given}
use Rattle.caption.proofs.lines.caption_draw_box.Goals as goal

pub returns-in_err-enter : goal.returns-in_err-enter
returns-in_err-enter c = stops _ _ refl c.from_residual.result c.from_residual.ensures.1 c.in_err-enter.ensures

pub returns-then-not-fill_fits : goal.returns-then-not-fill_fits
returns-then-not-fill_fits c =
    refused_later _ _ refl c.in_ok-enter.ensures refusals.Value (fails [] (failed c.fill_fits.ensures c.if-not-fill_fits.true-raw))

pub draw_box-requires : goal.draw_box-requires
draw_box-requires c = given _ c.in_ok-enter.ensures

pub returns : goal.returns
returns c =
    finishes _ _ refl c.in_ok-enter.ensures (passes VALUE [] (passed c.fill_fits.ensures c.if-not-fill_fits.false-raw) none_left) c.draw_box.ensures

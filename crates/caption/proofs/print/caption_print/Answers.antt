use Rattle.std.proofs.Common.{refl}
use Rattle.caption.proofs.Calls.{none_left, stops, finishes, given}
use Rattle.caption.proofs.print.caption_print.Goals as goal

pub returns-in_err-enter : goal.returns-in_err-enter
returns-in_err-enter c = stops _ _ refl c.from_residual.result c.from_residual.ensures.1 c.in_err-enter.ensures

pub print-requires : goal.print-requires
print-requires c = given _ c.in_ok-enter.ensures

pub returns : goal.returns
returns c = finishes _ _ refl c.in_ok-enter.ensures none_left c.print.ensures

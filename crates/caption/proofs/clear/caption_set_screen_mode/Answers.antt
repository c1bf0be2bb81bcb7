use Rattle.std.proofs.Common.{refl, [], arith}
use Rattle.std.proofs.lemmas.Bool.{lt-leb, le-leb}
use Rattle.model.specs.declared.refusal.Refusal.TheVariants as refusals
use Rattle.model.specs.Refusals.{VALUE}
use Rattle.caption.proofs.Calls.{fails, passes, none_left, stops, refused_later, finishes, given}
use Rattle.caption.proofs.clear.caption_set_screen_mode.Goals as goal

pub returns-in_err-enter : goal.returns-in_err-enter
returns-in_err-enter c = stops _ _ refl c.from_residual.result c.from_residual.ensures.1 c.in_err-enter.ensures

pub returns-then-mode-gt1 : goal.returns-then-mode-gt1
returns-then-mode-gt1 c =
    refused_later _ _ refl c.in_ok-enter.ensures refusals.Value (fails [] (lt-leb c.args.mode 1 (omega (arith, c.if-mode-gt1.true))))

pub set_screen_mode-requires : goal.set_screen_mode-requires
set_screen_mode-requires c = given _ c.in_ok-enter.ensures

pub returns : goal.returns
returns c =
    finishes _ _ refl c.in_ok-enter.ensures (passes VALUE [] (le-leb c.args.mode 1 (omega (arith, c.if-mode-gt1.false))) none_left) c.set_screen_mode.ensures

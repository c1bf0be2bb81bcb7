use Rattle.std.proofs.Common.{refl, ap, List, [], ℕ, arith}
use Rattle.std.proofs.lemmas.Bool.{lt-leb, le-leb}
use Rattle.model.specs.declared.refusal.Refusal.TheVariants as refusals
use Rattle.model.specs.Refusals.{VALUE}
use Rattle.model.specs.Calls.{lent, answered, changed, done}
use Rattle.updates.specs.Update.{updated}
use Rattle.caption.proofs.Calls.{fails, passes, none_left, stops, refused_later, finishes}
use Rattle.caption.proofs.place.caption_set_print_mode.Goals as goal

pub returns-in_err-enter : goal.returns-in_err-enter
returns-in_err-enter c = stops _ _ refl c.from_residual.result c.from_residual.ensures.1 c.in_err-enter.ensures

pub returns-then-mode-gt2 : goal.returns-then-mode-gt2
returns-then-mode-gt2 c =
    refused_later _ _ refl c.in_ok-enter.ensures refusals.Value (fails [] (lt-leb c.args.mode 2 (omega (arith, c.if-mode-gt2.true))))

pub set_print_mode-requires : goal.set_print_mode-requires
set_print_mode-requires c = c.in_ok-enter.ensures.passing

pub returns : goal.returns
unfolding done changed updated
returns c =
    finishes _ _ refl c.in_ok-enter.ensures (passes VALUE [] (le-leb c.args.mode 2 (omega (arith, c.if-mode-gt2.false))) none_left) (ap (λ (r : List ℕ). answered 0 [] (lent r [] [])) c.set_print_mode.ensures)

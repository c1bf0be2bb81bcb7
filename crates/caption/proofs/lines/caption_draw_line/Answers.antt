use Rattle.std.proofs.Common.{refl, [], arith}
use Rattle.std.proofs.lemmas.Bool.{lt-leb, le-leb}
use Rattle.model.specs.declared.refusal.Refusal.TheVariants as refusals
use Rattle.model.specs.Refusals.{VALUE}
use Rattle.caption.proofs.Calls.{fails, passes, none_left, stops, refused_later, finishes, given}
use Rattle.caption.proofs.lines.caption_draw_line.Goals as goal

pub returns-in_err-enter : goal.returns-in_err-enter
returns-in_err-enter c = stops _ _ refl c.from_residual.result c.from_residual.ensures.1 c.in_err-enter.ensures

pub returns-then-mode-gt3 : goal.returns-then-mode-gt3
returns-then-mode-gt3 c =
    refused_later _ _ refl c.in_ok-enter.ensures refusals.Value (fails [] (lt-leb c.args.mode 3 (omega (arith, c.if-mode-gt3.true))))

pub draw_line-requires : goal.draw_line-requires
draw_line-requires c = given _ c.in_ok-enter.ensures

pub returns : goal.returns
returns c =
    finishes _ _ refl c.in_ok-enter.ensures (passes VALUE [] (le-leb c.args.mode 3 (omega (arith, c.if-mode-gt3.false))) none_left) c.draw_line.ensures

use Rattle.std.proofs.Common.{refl, ap, List, [], ℕ}
use Rattle.model.specs.declared.refusal.Refusal.TheVariants as refusals
use Rattle.model.specs.Geometry.{columns}
use Rattle.model.specs.Refusals.{VALUE}
use Rattle.model.specs.Calls.{lent, answered, changed, done}
use Rattle.updates.specs.Update.{updated}
use Rattle.caption.proofs.Calls.{fails, passes, none_left, stops, refused_later, finishes, beyond, below}
use Rattle.caption.proofs.place.caption_set_column.Goals as goal

pub returns-in_err-enter : goal.returns-in_err-enter
returns-in_err-enter c = stops _ _ refl c.from_residual.result c.from_residual.ensures.1 c.in_err-enter.ensures

pub returns-then-column-glass : goal.returns-then-column-glass
returns-then-column-glass c =
    refused_later _ _ refl c.in_ok-enter.ensures refusals.Value (fails [] (beyond c.glass_of-glass.ensures columns c.glass_of-glass.ensures.suits.is_columns _ c.if-column-glass.true))

pub set_column-requires : goal.set_column-requires
set_column-requires c = c.in_ok-enter.ensures.passing

pub returns : goal.returns
unfolding done changed updated
returns c =
    finishes _ _ refl c.in_ok-enter.ensures (passes VALUE [] (below c.glass_of-glass.ensures columns c.glass_of-glass.ensures.suits.is_columns _ c.if-column-glass.false) none_left) (ap (λ (r : List ℕ). answered 0 [] (lent r [] [])) c.set_column.ensures)

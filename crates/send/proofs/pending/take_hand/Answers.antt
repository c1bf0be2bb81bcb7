use native.Mathlib.Omega.{arith}
use Rattle.model.specs.Glass.{geometry}
use Rattle.laws.specs.Sending.{hand_taken, hand_full}
use Rattle.send.proofs.pending.take_hand.Goals as goal

pub returns-then-is_empty : goal.returns-then-is_empty
returns-then-is_empty c =
    hand_taken (geometry c.args.glass) _ _ c.load_rect-hand.ensures c.is_empty.ensures c.if-is_empty.true c.take_owed.ensures

pub returns : goal.returns
returns c =
    hand_full _ _ _ (λ i. (c.slice_known-1.given i).fits) (omega (arith, c.requires)) c.load_rect-hand.ensures c.is_empty.ensures c.if-is_empty.false

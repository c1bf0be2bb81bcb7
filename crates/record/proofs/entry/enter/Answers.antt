use Rattle.record.proofs.Entering.{enters, breaks_state, breaks_lent}
use Rattle.record.proofs.entry.enter.Goals as goal

pub returns-then-not-lent : goal.returns-then-not-lent
returns-then-not-lent c = let a = c.args in breaks_lent a.others a.rec.now c.glass_of-glass.ensures c.if-not-lent.true

pub returns-then-not-is_valid : goal.returns-then-not-is_valid
returns-then-not-is_valid c =
    let a = c.args in
    breaks_state a.others a.rec.now c.glass_of-glass.ensures c.if-not-lent.false c.is_valid.ensures c.if-not-is_valid.true

pub returns : goal.returns
returns c =
    let a = c.args in
    enters a.others a.rec.now c.glass_of-glass.ensures (λ i. (c.shared_slice_known-1.given i).fits) c.if-not-lent.false c.is_valid.ensures c.if-not-is_valid.false

use Rattle.std.proofs.Common.{rules}
use Rattle.laws.specs.Owed.{take_goes, take_finds, take_ends}
use Rattle.owed.proofs.bands.take_owed.Goals as goal

pub returns-then-not-is_clear : goal.returns-then-not-is_clear
returns-then-not-is_clear c =
    take_finds c.loop-i.invariant c.loop-i-test.true (λ j. search rules) c.band_at-a.ensures c.is_clear.ensures c.if-not-is_clear.true
    c.load_rect-q.ensures c.empty.ensures c.store_rect.ensures

pub loop-i-preserved : goal.loop-i-preserved
loop-i-preserved c =
    take_goes c.loop-i.invariant c.loop-i-test.true (λ j. search rules) c.band_at-a.ensures c.is_clear.ensures c.if-not-is_clear.false

pub returns : goal.returns
returns c = search take_ends

-- Where nothing stands q is stored; else the four sides are, two bytes each, one after another.
use Rattle.laws.specs.Owed.{joins_clear, joins_sides}
use Rattle.owed.proofs.rects.join_rect.Goals as goal

pub returns-then-is_clear : goal.returns-then-is_clear
returns-then-is_clear c =
    joins_clear c.args.at c.args.q c.args.bytes.now c.is_clear.ensures c.if-is_clear.true c.store_rect.ensures

pub returns : goal.returns
returns c =
    joins_sides c.args.at c.args.q c.args.bytes.now c.requires.at_in_bounds c.requires.q_value c.is_clear.ensures c.if-is_clear.false c.load_rect-stands.ensures
    c.min.ensures c.min-2.ensures c.max.ensures c.max-2.ensures
    c.store_two.ensures c.store_two-2.ensures c.store_two-3.ensures c.store_two-4.ensures

use Rattle.std.proofs.Common.{◌∙◌, rules, tests}
use Rattle.std.proofs.Math.Dec.{eqb}
use Rattle.std.proofs.lemmas.Iterator.{YieldsList-from_slice}
use Rattle.std.proofs.lemmas.Iterator.Search.{position_from_yields_List}
use Rattle.script.proofs.Splitting.{ends_at}
use Rattle.script.proofs.split.line_length.Goals as goal

pub returns-clause-is_length : goal.returns-clause-is_length
returns-clause-is_length c =
    c.unwrap_or.ensures
    ∙ ends_at c.args.s.now c.position.result (position_from_yields_List (λ b. eqb b 10) _ _ _ c.position.ensures.ran (YieldsList-from_slice c.args.s.now cc) (λ x b q k. search (rules, tests)))

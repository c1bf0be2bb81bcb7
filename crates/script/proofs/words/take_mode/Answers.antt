use Rattle.std.proofs.Common.{of_calls, rules}
use Rattle.script.proofs.Reading.{mode_is}
use Rattle.script.proofs.words.take_mode.Goals as goal

pub returns : goal.returns
returns c =
    mode_is c.args.s.now c.take_word.result c.or_else.result c.or_else-2.result c.or_else-3.result c.take_word.ensures (search (rules, of_calls)) (search (rules, of_calls)) (search (rules, of_calls))

use Rattle.std.proofs.Common.{arith}
use Rattle.script.proofs.Bounding.{point-fits, line-fits, poke_fits}
use Rattle.script.proofs.Choosing.{is_point, is_line, is_poke, is_send, is_bad}
use Rattle.script.proofs.forms.read_line.Goals as goal

pub overflow_cast-result : goal.overflow_cast-result
overflow_cast-result c = omega (arith, point-fits _ _ _ c.matched_line.ensures c.in-Some.is)

pub overflow_cast-result-in-Some : goal.overflow_cast-result-in-Some
overflow_cast-result-in-Some c = omega (arith, point-fits _ _ _ c.matched_line.ensures c.in-Some.is)

pub overflow_cast-result-in-Some-2 : goal.overflow_cast-result-in-Some-2
overflow_cast-result-in-Some-2 c = omega (arith, point-fits _ _ _ c.matched_line.ensures c.in-Some.is)

pub returns-in-Some : goal.returns-in-Some
returns-in-Some c = search is_point

pub overflow_cast-result-in-Some-matched_line : goal.overflow_cast-result-in-Some-matched_line
overflow_cast-result-in-Some-matched_line c = omega (arith, line-fits _ _ _ c.matched_line-2.ensures c.in-Some-matched_line.is)

pub overflow_cast-result-in-Some-matched_line-2 : goal.overflow_cast-result-in-Some-matched_line-2
overflow_cast-result-in-Some-matched_line-2 c = omega (arith, line-fits _ _ _ c.matched_line-2.ensures c.in-Some-matched_line.is)

pub overflow_cast-result-in-Some-matched_line-3 : goal.overflow_cast-result-in-Some-matched_line-3
overflow_cast-result-in-Some-matched_line-3 c = omega (arith, line-fits _ _ _ c.matched_line-2.ensures c.in-Some-matched_line.is)

pub overflow_cast-result-in-Some-matched_line-4 : goal.overflow_cast-result-in-Some-matched_line-4
overflow_cast-result-in-Some-matched_line-4 c = omega (arith, line-fits _ _ _ c.matched_line-2.ensures c.in-Some-matched_line.is)

pub overflow_cast-result-in-Some-matched_line-5 : goal.overflow_cast-result-in-Some-matched_line-5
overflow_cast-result-in-Some-matched_line-5 c = omega (arith, line-fits _ _ _ c.matched_line-2.ensures c.in-Some-matched_line.is)

pub returns-in-Some-matched_line : goal.returns-in-Some-matched_line
returns-in-Some-matched_line c = search is_line

pub overflow_cast-result-in-Some-matched_line-2-2 : goal.overflow_cast-result-in-Some-matched_line-2-2
overflow_cast-result-in-Some-matched_line-2-2 c = omega (arith, poke_fits _ _ _ c.matched_line-3.ensures c.in-Some-matched_line-2.is)

pub returns-in-Some-matched_line-2 : goal.returns-in-Some-matched_line-2
returns-in-Some-matched_line-2 c = search is_poke

pub returns-in-Some-matched_line-3 : goal.returns-in-Some-matched_line-3
returns-in-Some-matched_line-3 c = search is_send

pub returns-in-None : goal.returns-in-None
returns-in-None c = search is_bad

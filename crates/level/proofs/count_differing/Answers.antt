use Rattle.std.proofs.Common.{length, ap, arith}
use Rattle.std.proofs.lemmas.Iterator.{empty_from_Zip}
use Rattle.level.proofs.Counting.{count_turn, count_end}
use Rattle.level.proofs.count_differing.Goals as goal

pub loop-a-preserved : goal.loop-a-preserved
loop-a-preserved c =
    let l = c.loop-a.invariant in
    let a = c.in-Some.ensures.steps in
    (count_turn _ _ _ _ _ _ _ _ _ l.0 a.0 a.1 c.byte_differs-n.ensures.count, omega (arith, ap length a.0, ap length a.1), omega (arith, ap length a.0))

pub returns : goal.returns
returns c =
    let l = c.loop-a.invariant in
    count_end _ _ _ _ _ l.0 (empty_from_Zip c.loop-a.a-iterator c.next.new.self c.next.result c.in-None.is c.next.ensures.steps l.1).0 c.requires.0 c.requires.1

-- One turn: the two arms are the two ways in which the definition goes on.
use Rattle.std.proofs.Common.{arith, ltb-true}
use Rattle.text.proofs.Turning.{takes-next, last_alone, low_alone, pair_taken, byte_taken}
use Rattle.text.proofs.print.print_at.Goals as goal
use Rattle.text.proofs.print.print_at.Goals.{else-b-ge128-via-then-b-ge128+else-at-from, else-b-ge128-via-else-b-ge128}

pub bounds-from-at-then-at-from : goal.bounds-from-at-then-at-from
bounds-from-at-then-at-from c = omega (arith, ltb-true)

pub returns-then-at-from : goal.returns-then-at-from
returns-then-at-from c =
    pair_taken _ _ _ _ _ _ _ _ c.requires.ready (takes-next c.args.from.now c.args.at c.if-b-ge128.true c.if-at-from.true-raw) c.print_pair-q.ensures

pub returns : goal.returns
returns c =
    let bs = c.args.from.now in
    let i = c.args.at in
    byte_taken _ _ _ _ _ _ _ _ c.requires.ready c.requires.byte_there
    (elim c.else-b-ge128.branch [
      | else-b-ge128-via-then-b-ge128+else-at-from w ↦ last_alone bs i w.if-b-ge128.true w.if-at-from.false-raw
      | else-b-ge128-via-else-b-ge128 w ↦ low_alone bs i w.if-b-ge128.false
    ])
    c.print_byte-q.ensures

use Rattle.std.proofs.Common.{arith}
use Rattle.script.proofs.Splitting.{line_here, lines_behind, no_line}
use Rattle.script.proofs.split.line_at.Goals as goal

pub returns-then-at-s-clause-line_here : goal.returns-then-at-s-clause-line_here
returns-then-at-s-clause-line_here c = search no_line

pub returns-clause-line_here : goal.returns-clause-line_here
returns-clause-line_here c = search line_here

pub returns-clause-lines_behind : goal.returns-clause-lines_behind
returns-clause-lines_behind c = lines_behind c.args.s.now c.args.at c.line_length.result (omega arith) c.line_length.ensures.is_length c.line_length.ensures.within

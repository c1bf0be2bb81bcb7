use Rattle.std.proofs.Common.{refl}
use Rattle.model.specs.Sends.{line_numbers}
use Rattle.accepted.proofs.Sending.{answers_idle, answers_line}
use Rattle.accepted.proofs.sends.line_sent.Goals as goal

pub returns-then-is_empty : goal.returns-then-is_empty
returns-then-is_empty c = answers_idle c.args.q c.is_empty.ensures c.if-is_empty.true

pub returns : goal.returns
unfolding line_numbers
returns c = answers_line c.args.q c.is_empty.ensures c.if-is_empty.false refl

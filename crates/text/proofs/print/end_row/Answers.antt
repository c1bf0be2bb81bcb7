use Rattle.text.proofs.Writing.{row_ended, row_goes_on}
use Rattle.text.proofs.print.end_row.Goals as goal

pub returns-then-p-columns : goal.returns-then-p-columns
returns-then-p-columns c = search row_ended

pub returns : goal.returns
returns c = search row_goes_on

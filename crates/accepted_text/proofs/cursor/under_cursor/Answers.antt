use Rattle.std.proofs.Common.{arith}
use Rattle.accepted_text.proofs.Blinking.{cell_in, byte_under}
use Rattle.accepted_text.proofs.cursor.under_cursor.Goals as goal

pub overflow_mul-cell : goal.overflow_mul-cell
overflow_mul-cell c = omega (arith, cell_in c.args.glass c.requires.numbers, c.requires.text_in_memory)

pub overflow_add-cell : goal.overflow_add-cell
overflow_add-cell c = omega (arith, cell_in c.args.glass c.requires.numbers, c.requires.text_in_memory)

pub overflow_add-result : goal.overflow_add-result
overflow_add-result c = omega (arith, cell_in c.args.glass c.requires.numbers, c.requires.text_in_memory)

pub bounds-memory-text : goal.bounds-memory-text
bounds-memory-text c = omega (arith, cell_in c.args.glass c.requires.numbers, c.requires.text_in_memory)

pub returns : goal.returns
returns c = byte_under c.args.glass c.requires.numbers _

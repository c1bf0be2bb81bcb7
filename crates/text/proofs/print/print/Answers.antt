-- The next cell lies on the page that all bytes leave, so the clearing may start there.
use Rattle.std.proofs.Common.{arith}
use Rattle.text.proofs.Turning.{cell_after, text-printed}
use Rattle.text.proofs.print.print.Goals as goal

pub overflow_mul-cell : goal.overflow_mul-cell
overflow_mul-cell c =
    let a = c.args in
    omega (arith, cell_after a.rows a.columns a.inverse a.from.now a.text.now a.flags.now a.p c.print_bytes-q.ensures c.requires.ready)

pub overflow_add-cell : goal.overflow_add-cell
overflow_add-cell c =
    let a = c.args in
    omega (arith, cell_after a.rows a.columns a.inverse a.from.now a.text.now a.flags.now a.p c.print_bytes-q.ensures c.requires.ready)

pub clear_from-requires : goal.clear_from-requires
clear_from-requires c =
    let a = c.args in
    cell_after a.rows a.columns a.inverse a.from.now a.text.now a.flags.now a.p c.print_bytes-q.ensures c.requires.ready

pub returns : goal.returns
returns c =
    let a = c.args in
    text-printed a.rows a.columns a.inverse a.from.now a.text.now a.flags.now a.p c.print_bytes-q.ensures c.clear_from.ensures

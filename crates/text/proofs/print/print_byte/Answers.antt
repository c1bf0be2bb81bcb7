use Rattle.std.proofs.Common.{arith}
use Rattle.text.proofs.Writing.{cell_after_wrap, ready_after_byte, byte_printed}
use Rattle.text.proofs.print.print_byte.Goals as goal

pub write_cell-r-requires : goal.write_cell-r-requires
write_cell-r-requires c = search cell_after_wrap

pub end_row-requires : goal.end_row-requires
end_row-requires c =
    let a = c.args in record {
      ready = ready_after_byte a.rows a.columns a.text.now a.flags.now a.p a.inverse a.b c.requires.ready c.wrap_byte-q.ensures c.write_cell-r.ensures;
      scrolls_fit = omega (arith, c.write_cell-r.ensures.scrolls, c.wrap_byte-q.ensures.scrolls, c.requires.scrolls_fit);
    }

pub returns : goal.returns
returns c =
    let a = c.args in
    byte_printed a.rows a.columns a.text.now a.flags.now a.p a.inverse a.b c.wrap_byte-q.ensures c.write_cell-r.ensures c.end_row.ensures

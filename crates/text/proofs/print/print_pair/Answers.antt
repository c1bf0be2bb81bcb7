use Rattle.std.proofs.Common.{arith}
use Rattle.text.proofs.Writing.{cell_after_wrap, cell_of_pair, ready_after_pair, pair_printed}
use Rattle.text.proofs.print.print_pair.Goals as goal

pub write_cell-r-requires : goal.write_cell-r-requires
write_cell-r-requires c = search cell_after_wrap

pub write_cell-s-requires : goal.write_cell-s-requires
write_cell-s-requires c =
    let a = c.args in
    cell_of_pair a.rows a.columns a.text.now a.flags.now a.p a.inverse a.b a.c c.requires.takes_next c.requires.ready c.wrap_byte-q.ensures c.write_cell-r.ensures

pub end_row-requires : goal.end_row-requires
end_row-requires c =
    let a = c.args in record {
      ready = ready_after_pair a.rows a.columns a.text.now a.flags.now a.p a.inverse a.b a.c c.requires.takes_next c.requires.ready c.wrap_byte-q.ensures c.write_cell-r.ensures c.write_cell-s.ensures;
      scrolls_fit = omega (arith, c.write_cell-s.ensures.scrolls, c.write_cell-r.ensures.scrolls, c.wrap_byte-q.ensures.scrolls, c.requires.scrolls_fit);
    }

pub shape_of-text : goal.shape_of-text
shape_of-text c = omega (arith, c.wrap_byte-q.auto)

pub returns : goal.returns
returns c =
    let a = c.args in
    pair_printed a.rows a.columns a.text.now a.flags.now a.p a.inverse a.b a.c c.wrap_byte-q.ensures c.write_cell-r.ensures c.write_cell-s.ensures c.end_row.ensures

use Rattle.std.proofs.Common.{arith, rules}
use Rattle.text.proofs.Writing.{has_cell, after_cell, wrapped, not_wrapped}
use Rattle.text.proofs.print.wrap_byte.Goals as goal

pub write_cell-q-requires : goal.write_cell-q-requires
write_cell-q-requires c =
    let a = c.args in
    has_cell a.rows a.columns a.text.now a.flags.now a.p c.requires.ready

pub newline-requires : goal.newline-requires
newline-requires c =
    record {
      ready = search after_cell;
      scrolls_fit = search rules;
    }

pub returns-then-b-p : goal.returns-then-b-p
returns-then-b-p c =
    let a = c.args in
    wrapped a.rows a.columns a.text.now a.flags.now a.p a.inverse a.b c.if-b-p.true (omega arith) c.write_cell-q.ensures c.newline.ensures

pub returns : goal.returns
returns c = search not_wrapped

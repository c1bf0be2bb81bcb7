use Rattle.std.proofs.Common.{◌≡◌, ◌+◌, ◌-◌, arith}
use Rattle.laws.specs.Lines.{column_turn, column_end}
use Rattle.draw_lines.proofs.line.draw_column.Goals as goal

pub loop-y-preserved : goal.loop-y-preserved
loop-y-preserved c =
    let y = c.loop-y.y in
    let end = c.args.top + c.args.count in
    let less : end - (y + 1) ≡ end - y - 1 = omega arith in
    rw less (column_turn _ _ _ (end - y) _ _ _ _ (omega arith) c.plot_mask.ensures c.loop-y.invariant)

pub returns : goal.returns
returns c = column_end _ _ _ (c.args.top + c.args.count - c.loop-y.y) _ _ _ (omega arith) c.loop-y.invariant

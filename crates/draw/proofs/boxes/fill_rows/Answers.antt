use Rattle.std.proofs.Common.{◌≡◌, ◌+◌, ◌-◌, arith}
use Rattle.laws.specs.Boxes.{rows_start, rows_turn, rows_end}
use Rattle.draw.proofs.boxes.fill_rows.Goals as goal

pub loop-y-init : goal.loop-y-init
loop-y-init c =
    let q = c.args.q in
    let all : q.bottom + 1 - q.top ≡ q.bottom - q.top + 1 = omega arith in rw all (rows_start _ _ _ _ _ _ _ _)

pub loop-y-preserved : goal.loop-y-preserved
loop-y-preserved c =
    let y = c.loop-y.y in
    let end = c.args.q.bottom + 1 in
    let less : end - (y + 1) ≡ end - y - 1 = omega arith in
    rw less
    (rows_turn _ _ _ _ _ (end - y) _ _ _ _ (omega arith) c.args.q.across (omega arith)
    c.clamp-first.ensures c.clamp-last.ensures c.clamp-line.ensures c.draw_run.ensures c.loop-y.invariant)

pub returns : goal.returns
returns c = rows_end _ _ _ _ _ (c.args.q.bottom + 1 - c.loop-y.y) _ _ _ (omega arith) c.loop-y.invariant

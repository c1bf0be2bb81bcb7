use Rattle.std.proofs.Common.{arith}
use Rattle.model.specs.Bytes.{Bytes}
use Rattle.laws.specs.Boxes.{whole_in, box-whole}
use Rattle.draw.proofs.boxes.fill_clamped.Goals as goal

pub draw_bytes-requires : goal.draw_bytes-requires
draw_bytes-requires c =
    let q = c.args.q in whole_in _ _ q.top q.bottom _ _ c.requires q.down c.is_whole.ensures c.if-is_whole.true

pub returns-then-is_whole : goal.returns-then-is_whole
unfolding Bytes
returns-then-is_whole c =
    let q = c.args.q in
    box-whole _ _ _ _ _ _ _ _ _ c.requires (λ i. omega (arith, c.slice_known-1.given i)) (q.across, q.down)
    c.clamp-first.ensures c.clamp-last.ensures c.is_whole.ensures c.if-is_whole.true c.draw_bytes.ensures

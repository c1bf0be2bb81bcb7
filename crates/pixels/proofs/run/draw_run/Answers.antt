use native.Mathlib.Omega.{arith}
use Rattle.model.specs.Bytes.{Bytes}
use Rattle.laws.specs.Runs.{one_byte, many_bytes}
use Rattle.pixels.proofs.run.draw_run.Goals as goal

pub returns-then-first-last : goal.returns-then-first-last
unfolding Bytes
returns-then-first-last c =
    one_byte _ _ _ _ _ _ _ _ c.requires.screen (λ i. omega (arith, c.slice_known-1.given i)) c.requires.on_line
    c.start_mask-start.ensures c.end_mask-end.ensures c.if-first-last.true c.draw_mask.ensures

pub returns : goal.returns
unfolding Bytes
returns c =
    many_bytes _ _ _ _ _ _ _ _ _ _ c.requires.screen (λ i. omega (arith, c.slice_known-1.given i)) c.requires.on_line
    c.start_mask-start.ensures c.end_mask-end.ensures c.if-first-last.false
    c.draw_mask-2.ensures c.draw_bytes.ensures c.draw_mask-3.ensures

use native.Mathlib.Omega.{arith}
use Rattle.model.specs.Glass.{geometry}
use Rattle.laws.specs.Panels.{is_first_at, is_others_at, others_room}
use Rattle.record.proofs.panels.panel_at.Goals as goal

pub returns-then-k-eq0 : goal.returns-then-k-eq0
returns-then-k-eq0 c = is_first_at (geometry c.args.glass) c.args.k (omega (arith, c.if-k-eq0.true))

pub overflow_mul-result : goal.overflow_mul-result
overflow_mul-result c =
    omega (arith, others_room c.args.glass _ c.requires (λ e. omega (arith, c.if-k-eq0.false)))

pub overflow_add-result : goal.overflow_add-result
overflow_add-result c =
    omega (arith, others_room c.args.glass _ c.requires (λ e. omega (arith, c.if-k-eq0.false)))

pub returns : goal.returns
returns c = is_others_at c.args.glass _ c.requires (λ e. omega (arith, c.if-k-eq0.false))

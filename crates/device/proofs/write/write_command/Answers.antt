-- 1, and a number above 2.
use Rattle.std.proofs.Common.{◌∙◌}
use Rattle.model.specs.Geometry.{base}
use Rattle.model.specs.Memory.{zeros}
use Rattle.device.specs.Writing.{clears, nothing}
use Rattle.device.proofs.write.write_command.Goals as goal
use Rattle.device.proofs.write.write_command.Goals.{then-value-eq1, else-value-eq1}

pub returns-else-value-eq2 : goal.returns-else-value-eq2
unfolding zeros
returns-else-value-eq2 c =
    let a = c.args in
    elim c.if-value-eq1.branch [ then-value-eq1 w ↦ clears base a.r a.value a.panel.now w.if-value-eq1.true c.requires (w.panel-is ∙ w.fill.ensures.after (λ y e. e)) | else-value-eq1 w ↦ rw w.panel-is (nothing base a.r a.value a.panel.now w.if-value-eq1.false c.if-value-eq2.false) ]

-- The registers of a busy device name bytes of the panel.
use Rattle.std.proofs.Common.{arith}
use Rattle.device.specs.Writing.{in_panel}
use Rattle.device.proofs.write.write_data.Goals as goal

pub bounds-panel-r : goal.bounds-panel-r
bounds-panel-r c = omega (arith, (in_panel _ _ _ _ c.requires).1)

pub overflow_sub-s : goal.overflow_sub-s
overflow_sub-s c = omega (arith, (in_panel _ _ _ _ c.requires).0)

pub overflow_add-s : goal.overflow_add-s
overflow_add-s c = record { fits = omega (arith, (in_panel _ _ _ _ c.requires).0) }

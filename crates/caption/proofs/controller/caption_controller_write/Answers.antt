-- Four ends: refused at the entry, no such register, a write that the device does not take, and what the write leaves.
use Rattle.std.proofs.Common.{sym, ◌∙◌}
use Rattle.model.specs.Controller.{write}
use Rattle.caption.proofs.Devices.{device_stops, no_register, write_refused, write_ready, write_done}
use Rattle.caption.proofs.controller.caption_controller_write.Goals as goal

-- refused at the entry
pub returns-in_err-r : goal.returns-in_err-r
returns-in_err-r c =
    let a = c.args in
    device_stops a.registers.now a.panel.now (write a.register a.value) c.from_residual.result c.from_residual.ensures.1 c.in_err-r.ensures

-- no such register
pub returns-in_default : goal.returns-in_default
returns-in_default c =
    let a = c.args in
    no_register a.registers.now a.panel.now c.in_ok-r.ensures a.register a.value (sym c.in_default.is ∙ c.register_of.ensures)

-- not taken
pub returns-then-not-takes_write : goal.returns-then-not-takes_write
returns-then-not-takes_write c =
    let a = c.args in
    write_refused a.registers.now a.panel.now c.in_ok-r.ensures a.register a.value c.in-Some.ensures c.takes_write.ensures c.if-not-takes_write.true-raw

pub write-requires : goal.write-requires
write-requires c =
    let a = c.args in
    write_ready a.registers.now a.panel.now c.in_ok-r.ensures a.value c.takes_write.ensures c.if-not-takes_write.false-raw

pub store_registers-requires : goal.store_registers-requires
store_registers-requires c = c.in_ok-r.ensures.passes.bytes

-- done
pub returns : goal.returns
returns c =
    let a = c.args in
    let e = c.in_ok-r.ensures in
    let t = write_ready a.registers.now a.panel.now e a.value c.takes_write.ensures c.if-not-takes_write.false-raw in
    write_done a.registers.now a.panel.now e a.register a.value c.in-Some.ensures t c.write.ensures c.store_registers.ensures

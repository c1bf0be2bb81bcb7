-- Three ends: refused at the entry, no such register, and the register's byte.
use Rattle.std.proofs.Common.{arith}
use Rattle.caption.proofs.Devices.{device_stops_beside, read_refused, read_done}
use Rattle.caption.proofs.controller.caption_controller_read.Goals as goal

-- refused at the entry
pub returns-in_err-r : goal.returns-in_err-r
returns-in_err-r c =
    let a = c.args in device_stops_beside a.registers.now a.panel.now a.register c.from_residual.result c.from_residual.ensures.1 c.in_err-r.ensures

-- no such register
pub returns-then-i-ge-REGISTER_BYTES : goal.returns-then-i-ge-REGISTER_BYTES
returns-then-i-ge-REGISTER_BYTES c =
    let a = c.args in
    read_refused a.registers.now a.panel.now c.in_ok-r.ensures a.register (omega (arith, c.if-i-ge-REGISTER_BYTES.true))

pub bounds-registers-i : goal.bounds-registers-i
bounds-registers-i c = omega (arith, c.if-i-ge-REGISTER_BYTES.false, c.in_ok-r.ensures.passes.bytes)

pub store_registers-requires : goal.store_registers-requires
store_registers-requires c = c.in_ok-r.ensures.passes.bytes

-- read
pub returns : goal.returns
returns c =
    let a = c.args in
    read_done a.registers.now a.panel.now c.in_ok-r.ensures a.register (omega (arith, c.if-i-ge-REGISTER_BYTES.false)) c.read_registers.ensures c.store_registers.ensures

-- Three ends: refused at the entry, refused by the tests of device and panel, and what a driven send does.
use Rattle.caption.proofs.Devices.{drive_stops, registers-lent, drive_stops_later, tested, drive_given, drive_image, drive_idle, drive_ends}
use Rattle.caption.proofs.drive.caption_drive_line.Goals as goal

pub returns-in_err-enter : goal.returns-in_err-enter
returns-in_err-enter c =
    let a = c.args in drive_stops a.rec.now a.memory.now a.registers.now a.panel.now a.image.now a.number c.glass_of-glass.ensures c.from_residual.result c.from_residual.ensures.1 c.in_err-enter.ensures

pub load_registers-r-requires : goal.load_registers-r-requires
load_registers-r-requires c =
    let a = c.args in registers-lent a.rec.now a.memory.now a.registers.now a.panel.now a.image.now a.number c.glass_of-glass.ensures c.in_ok-enter.ensures

pub returns-in_err-test_device : goal.returns-in_err-test_device
returns-in_err-test_device c =
    let a = c.args in
    drive_stops_later a.rec.now a.memory.now a.registers.now a.panel.now a.image.now a.number c.glass_of-glass.ensures c.in_ok-enter.ensures c.load_registers-r.ensures _ c.from_residual-in_err-test_device.result c.from_residual-in_err-test_device.ensures.1 c.in_err-test_device.ensures

pub drive-requires : goal.drive-requires
drive-requires c =
    let a = c.args in
    let x = c.load_registers-r.ensures in
    let o = c.in_ok-enter.ensures in
    let q = c.in_ok-test_device.ensures in record {
      given = drive_given a.rec.now a.memory.now a.registers.now a.panel.now a.image.now a.number c.glass_of-glass.ensures o x;
      image_len = (drive_image a.rec.now a.memory.now a.registers.now a.panel.now a.image.now a.number c.glass_of-glass.ensures o x, (tested a.number c.load_registers-r.result q).there);
      registers_len = (registers-lent a.rec.now a.memory.now a.registers.now a.panel.now a.image.now a.number c.glass_of-glass.ensures o, x);
      idle = drive_idle a.rec.now a.memory.now a.registers.now a.panel.now a.image.now a.number c.glass_of-glass.ensures o x q;
    }

pub returns : goal.returns
returns c =
    let a = c.args in drive_ends a.rec.now a.memory.now a.registers.now a.panel.now a.image.now a.number c.glass_of-glass.ensures c.in_ok-enter.ensures c.load_registers-r.ensures c.in_ok-test_device.ensures c.drive.ensures

use Rattle.std.proofs.Common.{arith}
use Rattle.driver.proofs.Driving.{damaged, no_panel, still_busy, may_drive}
use Rattle.driver.proofs.drive.test_device.Goals as goal

pub returns-then-not-registers_fit : goal.returns-then-not-registers_fit
returns-then-not-registers_fit c = let a = c.args in damaged a.k a.r c.registers_fit.ensures c.if-not-registers_fit.true-raw

pub returns-then-k-glass : goal.returns-then-k-glass
returns-then-k-glass c =
    let a = c.args in no_panel a.k a.r c.registers_fit.ensures c.if-not-registers_fit.false-raw (omega (arith, c.if-k-glass.true))

pub returns-then-is_busy : goal.returns-then-is_busy
returns-then-is_busy c =
    let a = c.args in still_busy a.k a.r c.registers_fit.ensures c.if-not-registers_fit.false-raw (omega (arith, c.if-k-glass.false)) c.is_busy.ensures c.if-is_busy.true

pub returns : goal.returns
returns c =
    let a = c.args in may_drive a.k a.r c.registers_fit.ensures c.if-not-registers_fit.false-raw (omega (arith, c.if-k-glass.false)) c.is_busy.ensures c.if-is_busy.false

-- Eight stores into eight bytes.
use Rattle.std.proofs.Common.{refl}
use Rattle.device.specs.Registers.{bytes_back}
use Rattle.device.proofs.registers.store_registers.Goals as goal

pub returns : goal.returns
returns c = rw (← bytes_back c.args.bytes.now c.requires) refl

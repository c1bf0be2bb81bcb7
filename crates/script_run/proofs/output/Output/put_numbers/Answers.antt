use Rattle.std.proofs.Common.{arith}
use Rattle.script_run.proofs.Writing.{number_room, numbers_start, numbers_turn, numbers_end}
use Rattle.script_run.proofs.output.Output.put_numbers.Goals as goal

pub loop-n-init : goal.loop-n-init
loop-n-init c = numbers_start c.args.numbers.now c.args.self.now

pub put_number-requires : goal.put_number-requires
put_number-requires c = number_room _ c.args.numbers.now c.args.self.now c.loop-n.self (omega arith) c.requires c.loop-n.invariant

pub loop-n-preserved : goal.loop-n-preserved
loop-n-preserved c = numbers_turn _ c.args.numbers.now c.args.self.now c.loop-n.self (omega arith) c.requires c.loop-n.invariant c.put_number.new.self c.put_number.ensures

pub returns : goal.returns
returns c = numbers_end _ c.args.numbers.now c.args.self.now c.loop-n.self (omega arith) c.loop-n.invariant

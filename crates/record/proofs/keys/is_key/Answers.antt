use native.Mathlib.Omega.{arith}
use Rattle.laws.specs.Updates.{keys_room}
use Rattle.record.proofs.keys.is_key.Goals as goal

pub overflow_add-glass : goal.overflow_add-glass
overflow_add-glass c = omega (arith, keys_room c.args.glass, c.args.glass.suits.glass.long)

pub load_four-word-requires : goal.load_four-word-requires
load_four-word-requires c = omega (arith, keys_room c.args.glass, c.requires)

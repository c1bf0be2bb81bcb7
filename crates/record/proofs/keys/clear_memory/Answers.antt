use mathlib.Core.Path.{ap, ◌∙◌}
use native.Mathlib.Omega.{arith}
use lib.ListN.{length, set, length-set}
use Rattle.model.specs.Geometry.{Geometry}
use Rattle.model.specs.Glass.{glass_of}
use Rattle.model.specs.Record.{decode}
use Rattle.model.specs.Open.{with_keys}
use Rattle.laws.specs.Loops.{clears-memory}
use Rattle.record.proofs.Lengths.{sized_for}
use Rattle.record.proofs.keys.clear_memory.Goals as goal

pub write_keys-requires : goal.write_keys-requires
write_keys-requires c =
    (sized_for c.args.rec.now c.glass_of.ensures c.requires.0, simp length-set (omega (arith, c.clear.auto.part, c.requires.1)))

pub shape_of-memory : goal.shape_of-memory
shape_of-memory c = c.write_keys.auto.memory ∙ simp length-set c.clear.auto.part

pub returns : goal.returns
returns c =
    let r = c.args.rec.now in
    let m = set c.clear.new.part 65535 64 in
    clears-memory (decode (glass_of (length r)) r).keys c.args.memory.now c.requires.1 c.clear.ensures
    (c.write_keys.ensures ∙ ap (λ (g : Geometry). with_keys (decode g r).keys 256 m) c.glass_of.ensures.glass)

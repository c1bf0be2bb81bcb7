use Rattle.std.proofs.Common.{rules}
use Rattle.record.proofs.Lengths.{head_there}
use Rattle.updates.proofs.Drawing.{loaded}
use Rattle.accepted.proofs.Poking.{from_base, on_screen, poke_ignored, poke_elsewhere, poke_screen}
use Rattle.accepted.proofs.poke.write_byte.Goals as goal

pub returns-then-is_ignored : goal.returns-then-is_ignored
returns-then-is_ignored c =
    poke_ignored c.requires c.glass_of-glass.ensures c.args.address c.args.byte c.is_ignored.ensures c.if-is_ignored.true

pub load_head-graphics-requires : goal.load_head-graphics-requires
load_head-graphics-requires c = head_there c.requires.passing

pub returns-then-not-in_screen : goal.returns-then-not-in_screen
returns-then-not-in_screen c =
    poke_elsewhere (loaded c.requires c.glass_of-glass.ensures c.load_head-graphics.ensures) c.args.address c.args.byte c.is_ignored.ensures c.if-is_ignored.false c.in_screen.ensures (search rules)

pub overflow_sub-address : goal.overflow_sub-address
overflow_sub-address c =
    from_base c.glass_of-glass.result c.load_head-graphics.result.graphics c.args.address c.in_screen.ensures (search rules)

pub byte_rect-q-requires : goal.byte_rect-q-requires
byte_rect-q-requires c =
    on_screen c.glass_of-glass.result c.load_head-graphics.result.graphics c.args.address c.in_screen.ensures (search rules)

pub returns : goal.returns
returns c =
    poke_screen (loaded c.requires c.glass_of-glass.ensures c.load_head-graphics.ensures) c.args.address c.args.byte c.is_ignored.ensures c.if-is_ignored.false c.in_screen.ensures (search rules) c.byte_rect-q.ensures c.owed_as_is.ensures c.mark.ensures

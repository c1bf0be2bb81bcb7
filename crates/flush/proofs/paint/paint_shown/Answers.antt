-- One law for each kind: its room, its bytes, what it leaves.
use Rattle.std.proofs.Common.{refl}
use Rattle.flush.specs.Lent.{fonts_of}
use Rattle.flush.proofs.Showing.{room_at, single_in, pair_in, code_in, blank_shown, single_shown, pair_shown, code_shown}
use Rattle.flush.proofs.paint.paint_shown.Goals as goal

pub paint_single-requires : goal.paint_single-requires
paint_single-requires c =
    let a = c.args in
    let w = a.w in record {
      spot_room = c.requires.shown_room.spot;
      character_is_there = single_in a.style.version (fonts_of a.style.fonts) w.lead w.trail c.in-Single.is c.requires.bytes_are_there;
    }

pub paint_pair-requires : goal.paint_pair-requires
paint_pair-requires c =
    let a = c.args in
    let w = a.w in record {
      pair_room = c.requires.shown_room.pair c.in-Pair.is;
      glyph_is_there = pair_in a.style.version (fonts_of a.style.fonts) w.lead w.trail c.in-Pair.is c.requires.bytes_are_there;
    }

pub paint_code-requires : goal.paint_code-requires
paint_code-requires c =
    let a = c.args in
    let w = a.w in record {
      room = room_at a.style.columns a.screen.now a.screen.now 16 c.requires.shown_room.spot.left refl c.top_of-top.ensures.0;
      digits_are_there = code_in a.style.version (fonts_of a.style.fonts) w.lead w.trail c.in-Code.is c.requires.bytes_are_there;
    }

pub returns-in-Blank : goal.returns-in-Blank
returns-in-Blank c = search blank_shown

pub returns-in-Single : goal.returns-in-Single
returns-in-Single c = search single_shown

pub returns-in-Pair : goal.returns-in-Pair
returns-in-Pair c = search pair_shown

pub returns-in-Code : goal.returns-in-Code
returns-in-Code c = search code_shown

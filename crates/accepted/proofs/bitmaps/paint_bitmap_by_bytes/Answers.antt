use Rattle.std.proofs.Common.{refl, arith, w32}
use Rattle.std.proofs.Math.Facts.{to_z-of_z}
use Rattle.model.specs.Memory.{window}
use Rattle.model.specs.Bitmaps.{source_bytes, bitmap}
use Rattle.model.specs.Calls.{done}
use Rattle.record.proofs.Lengths.{head_there}
use Rattle.updates.proofs.Drawing.{loaded, screen_room, screen-bytes, screen_window, drew_in}
use Rattle.accepted.proofs.Painting.{is_source, screen_kept}
use Rattle.accepted.proofs.bitmaps.paint_bitmap_by_bytes.Goals as goal

pub load_head-from-requires : goal.load_head-from-requires
load_head-from-requires c = head_there c.requires.given.passing

pub paint_bitmap_by_bytes-m-requires : goal.paint_bitmap_by_bytes-m-requires
paint_bitmap_by_bytes-m-requires c =
    let w = loaded c.requires.given c.glass_of-glass.ensures c.load_head-from.ensures in
    let is = c.canvas_of.ensures in
    let o = is_source (c.requires.given, c.requires.source_fits) refl (omega arith) (omega arith) (omega arith) in
    let size = screen-bytes w is in record {
      holds = record {
        glass = screen_window w is;
        screen-in = omega (arith, size, screen_room w);
        source_in = o.inside;
        small = omega (arith, w.memory);
      };
      room = omega (arith, size, screen_kept w.chosen);
    }

pub returns : goal.returns
unfolding done
returns c =
    let a = c.args in
    let painted = rw (to_z-of_z {w = w32} {z = a.x} c.ranges.x, to_z-of_z {w = w32} {z = a.y} c.ranges.y) at c.paint_bitmap_by_bytes-m.ensures in
    drew_in (loaded c.requires.given c.glass_of-glass.ensures c.load_head-from.ensures) (λ st h d. bitmap st h (window a.address (source_bytes a.width a.height) a.memory.now) a.x a.y a.width a.height d) _ _
    c.from-mode.ensures c.canvas_of.ensures c.paint_bitmap_by_bytes-m.auto.memory painted c.mark.ensures

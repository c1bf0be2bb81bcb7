-- The send is idle, and nothing is written; or its line lies on the glass, goes to the image, and its writes are made.
use Rattle.std.proofs.Common.{refl, arith}
use Rattle.record.proofs.Lengths.{passes_for, head_there}
use Rattle.updates.proofs.Drawing.{loaded, screen_room}
use Rattle.accepted.proofs.Sending.{panel_for, sent_for, idles, may_copy, sends_line}
use Rattle.driver.proofs.Driving.{drives_idle, on_glass, drives_line}
use Rattle.driver.proofs.drive.drive.Goals as goal

pub load_head-from-requires : goal.load_head-from-requires
load_head-from-requires c = head_there c.requires.given.passing

pub panel_at-requires : goal.panel_at-requires
panel_at-requires c =
    (panel_for c.glass_of-glass.ensures c.requires.image_len).1

pub send_panel-q-requires : goal.send_panel-q-requires
send_panel-q-requires c =
    let k = c.glass_of-glass.ensures in record {
      passing = (passes_for k c.requires.given.passing, (panel_for k c.requires.image_len).1);
      start_value = c.panel_at.ensures;
    }

pub returns-then-is_empty : goal.returns-then-is_empty
returns-then-is_empty c =
    let k = c.glass_of-glass.ensures in
    let empty = c.is_empty.ensures in
    let sent = sent_for c.args.k _ _ _ k (idles (loaded c.requires.given k c.load_head-from.ensures) c.args.k c.send_panel-q.ensures refl empty _ c.if-is_empty.true) in
    drives_idle sent c.line_sent-sent.result c.line_sent-sent.ensures _ empty c.if-is_empty.true

pub overflow_add-to : goal.overflow_add-to
overflow_add-to c =
    record { fits = omega (arith, screen_room (loaded c.requires.given c.glass_of-glass.ensures c.load_head-from.ensures), c.requires.given.memory) }

pub slice_bounds-copy_line-end : goal.slice_bounds-copy_line-end
slice_bounds-copy_line-end c = screen_room (loaded c.requires.given c.glass_of-glass.ensures c.load_head-from.ensures)

pub copy_line-requires : goal.copy_line-requires
copy_line-requires c =
    let k = c.glass_of-glass.ensures in
    may_copy (loaded c.requires.given k c.load_head-from.ensures) c.args.k c.send_panel-q.ensures refl c.is_empty.ensures c.if-is_empty.false c.canvas_of.ensures (panel_for k c.requires.image_len)

pub write_line-requires : goal.write_line-requires
write_line-requires c =
    let k = c.glass_of-glass.ensures in
    let empty = c.is_empty.ensures in
    let some = c.if-is_empty.false in
    let sent = sent_for c.args.k _ _ _ k (sends_line (loaded c.requires.given k c.load_head-from.ensures) c.args.k c.send_panel-q.ensures refl empty _ some c.canvas_of.ensures c.copy_line.ensures) in record {
      idle = c.requires.idle;
      on_glass = on_glass sent c.requires.given.passing c.requires.image_len.1 empty some;
      image_len = omega arith;
    }

pub store_registers-requires : goal.store_registers-requires
store_registers-requires c = c.requires.registers_len.0

pub shape_of-rec : goal.shape_of-rec
shape_of-rec c = c.rec-1.given

pub returns : goal.returns
returns c =
    let k = c.glass_of-glass.ensures in
    let empty = c.is_empty.ensures in
    let some = c.if-is_empty.false in
    let sent = sent_for c.args.k _ _ _ k (sends_line (loaded c.requires.given k c.load_head-from.ensures) c.args.k c.send_panel-q.ensures refl empty _ some c.canvas_of.ensures c.copy_line.ensures) in
    drives_line sent c.line_sent-sent.result c.line_sent-sent.ensures _ _ _ _ c.requires.registers_len.0 c.requires.registers_len.1 empty some c.write_line.ensures c.store_registers.ensures

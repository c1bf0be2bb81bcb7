-- What the record gives is idle or a line; that line lies on the screen, so it can be copied.
use native.Mathlib.Omega.{arith}
use Rattle.record.proofs.Lengths.{passes_for, head_there}
use Rattle.updates.proofs.Drawing.{loaded, screen_room}
use Rattle.accepted.proofs.Sending.{panel_for, sent_for, idles, may_copy, sends_line}
use Rattle.accepted.proofs.sends.send_line.Goals as goal

pub load_head-from-requires : goal.load_head-from-requires
load_head-from-requires c = head_there c.requires.given.passing

pub panel_at-requires : goal.panel_at-requires
panel_at-requires c =
    omega (arith, (panel_for c.glass_of-glass.ensures c.requires.panel_len).1)

pub send_panel-q-requires : goal.send_panel-q-requires
send_panel-q-requires c =
    let k = c.glass_of-glass.ensures in record {
      passing = (passes_for k c.requires.given.passing, omega (arith, (panel_for k c.requires.panel_len).1));
      start_value = c.panel_at.ensures;
    }

pub returns-then-is_empty : goal.returns-then-is_empty
returns-then-is_empty c =
    let k = c.glass_of-glass.ensures in
    sent_for c.args.k _ _ _ k (idles (loaded c.requires.given k c.load_head-from.ensures) c.args.k c.send_panel-q.ensures (omega arith) c.is_empty.ensures _ c.if-is_empty.true)

pub slice_bounds-copy_line-end : goal.slice_bounds-copy_line-end
slice_bounds-copy_line-end c = screen_room (loaded c.requires.given c.glass_of-glass.ensures c.load_head-from.ensures)

pub copy_line-requires : goal.copy_line-requires
copy_line-requires c =
    let k = c.glass_of-glass.ensures in
    may_copy (loaded c.requires.given k c.load_head-from.ensures) c.args.k c.send_panel-q.ensures (omega arith) c.is_empty.ensures c.if-is_empty.false c.canvas_of.ensures (panel_for k c.requires.panel_len)

pub returns : goal.returns
returns c =
    let k = c.glass_of-glass.ensures in
    sent_for c.args.k _ _ _ k
    (sends_line (loaded c.requires.given k c.load_head-from.ensures) c.args.k c.send_panel-q.ensures (omega arith) c.is_empty.ensures _ c.if-is_empty.false c.canvas_of.ensures c.copy_line.ensures)

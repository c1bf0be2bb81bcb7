use Rattle.std.proofs.Common.{sym, ◌∙◌, arith}
use Rattle.laws.specs.StateTest.{flags_room}
use Rattle.record.proofs.Lengths.{head_there}
use Rattle.updates.proofs.Drawing.{loaded, screen_room, text_room, text-length}
use Rattle.updates.proofs.Kept.{kept, kept_length, kept_room}
use Rattle.accepted_text.proofs.Flushing.{glyphs_are, text_kept, text_screen, flush_drew}
use Rattle.accepted_text.proofs.flushes.flush.Goals as goal

pub load_head-h-requires : goal.load_head-h-requires
load_head-h-requires c = head_there c.requires.given.passing

pub slice_bounds-put_bytes-end-2 : goal.slice_bounds-put_bytes-end-2
slice_bounds-put_bytes-end-2 c = rw c.window.ensures (text_room (loaded c.requires.given c.glass_of-glass.ensures c.load_head-h.ensures))

pub put_bytes-requires : goal.put_bytes-requires
put_bytes-requires c =
    let w = loaded c.requires.given c.glass_of-glass.ensures c.load_head-h.ensures in rw c.window.ensures (omega (arith, text-length w, text_kept w))

pub slice_bounds-screen-end : goal.slice_bounds-screen-end
slice_bounds-screen-end c = rw c.window-2.ensures (screen_room (loaded c.requires.given c.glass_of-glass.ensures c.load_head-h.ensures))

pub slice_bounds-text-end : goal.slice_bounds-text-end
slice_bounds-text-end c =
    let w = loaded c.requires.given c.glass_of-glass.ensures c.load_head-h.ensures in kept_room _ _ (text-length w) (rw c.window.ensures at c.put_bytes.ensures) (omega (arith, text_kept w))

pub slice_bounds-flush_screen-end : goal.slice_bounds-flush_screen-end
slice_bounds-flush_screen-end c =
    sym (kept_length _ _ (text-length (loaded c.requires.given c.glass_of-glass.ensures c.load_head-h.ensures)) (rw c.window.ensures at c.put_bytes.ensures))

pub slice_bounds-style-end : goal.slice_bounds-style-end
slice_bounds-style-end c =
    let w = loaded c.requires.given c.glass_of-glass.ensures c.load_head-h.ensures in omega (arith, flags_room c.glass_of-glass.result, w.passing.sized)

pub flush_screen-requires : goal.flush_screen-requires
flush_screen-requires c =
    let w = loaded c.requires.given c.glass_of-glass.ensures c.load_head-h.ensures in record {
      text_screen = rw c.window-2.ensures (text_screen w);
      bytes_are_there = glyphs_are w _ (kept _ _ (text-length w) (rw c.window.ensures at c.put_bytes.ensures)) ∙ c.requires.glyphs_are_there;
    }

pub mark-requires : goal.mark-requires
mark-requires c = c.requires.given.passing

pub returns : goal.returns
returns c =
    let w = loaded c.requires.given c.glass_of-glass.ensures c.load_head-h.ensures in
    let painted = rw c.window-2.ensures at c.flush_screen.ensures in
    rw c.window-2.ensures (flush_drew w _ _ _ c.canvas_of.ensures c.whole_marks.ensures (kept _ _ (text-length w) (rw c.window.ensures at c.put_bytes.ensures)) painted c.mark.ensures)

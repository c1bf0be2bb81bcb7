use Rattle.std.proofs.Common.{refl, ◌∙◌, arith}
use Rattle.laws.specs.StateTest.{flags_room}
use Rattle.record.proofs.Lengths.{head_there}
use Rattle.updates.proofs.Drawing.{loaded, text_room}
use Rattle.accepted_text.proofs.Flushing.{glyphs_are}
use Rattle.accepted_text.proofs.flushes.glyphs_fit.Goals as goal

pub load_head-h-requires : goal.load_head-h-requires
load_head-h-requires c = head_there c.requires.passing

pub slice_bounds-style-end : goal.slice_bounds-style-end
slice_bounds-style-end c =
    let w = loaded c.requires c.glass_of-glass.ensures c.load_head-h.ensures in omega (arith, flags_room c.glass_of-glass.result, w.passing.sized)

pub slice_bounds-text_fits-end : goal.slice_bounds-text_fits-end
slice_bounds-text_fits-end c = rw c.window.ensures (text_room (loaded c.requires c.glass_of-glass.ensures c.load_head-h.ensures))

pub returns : goal.returns
returns c =
    (rw c.window.ensures at c.text_fits.ensures) ∙ glyphs_are (loaded c.requires c.glass_of-glass.ensures c.load_head-h.ensures) _ refl

-- o: the source lies in memory, and finds room in the array that keeps it.
use Rattle.std.proofs.Common.{ℕ, ap, ◌∙◌, arith, rules}
use Rattle.model.specs.Memory.{window}
use Rattle.model.specs.Calls.{done}
use Rattle.laws.specs.Parts.{part-window}
use Rattle.updates.proofs.Kept.{kept}
use Rattle.accepted.proofs.Painting.{is_source, source_length}
use Rattle.accepted.proofs.Screens.{drew_shape}
use Rattle.accepted.proofs.bitmaps.paint_bitmap.Goals as goal

pub slice_bounds-put_bytes-end-2 : goal.slice_bounds-put_bytes-end-2
slice_bounds-put_bytes-end-2 c = (is_source (c.requires.given, c.requires.source_fits) c.source_bytes-count.ensures (omega arith) (omega arith) (omega arith)).inside

pub returns : goal.returns
unfolding done
returns c =
    let a = c.args in
    let o = is_source (c.requires.given, c.requires.source_fits) c.source_bytes-count.ensures (omega arith) (omega arith) (omega arith) in
    let source = kept _ _ (source_length o) c.put_bytes.ensures ∙ part-window a.address _ a.memory.now ∙ ap (λ (k : ℕ). window a.address k a.memory.now) c.source_bytes-count.ensures in
    drew_shape _ c.draw_on_screen.ensures (λ s t k q. rw (← source) (search rules))

use Rattle.std.proofs.Common.{refl, sym, ap, ◌∙◌, [], length}
use Rattle.model.specs.declared.Rect.{Rect}
use Rattle.model.specs.Glass.{glass_of}
use Rattle.model.specs.Record.{decode, encode, with_head}
use Rattle.model.specs.Marks.{with_dirty}
use Rattle.model.specs.Calls.{lent, answered, rect_numbers, changed, done}
use Rattle.laws.specs.Updates.{head_decoded}
use Rattle.updates.specs.Update.{updated}
use Rattle.record.proofs.Lengths.{head_there}
use Rattle.caption.proofs.Calls.{none_left, stops_beside, finishes}
use Rattle.caption.proofs.dirty.caption_take_dirty_area.Goals as goal

pub returns-in_err-enter : goal.returns-in_err-enter
returns-in_err-enter c = stops_beside _ _ refl rect_numbers c.from_residual.result c.from_residual.ensures.1 c.in_err-enter.ensures

pub load_head-requires : goal.load_head-requires
load_head-requires c = head_there (c.in_ok-enter.ensures.passing)

pub set_dirty-requires : goal.set_dirty-requires
set_dirty-requires c = c.in_ok-enter.ensures.passing

pub returns : goal.returns
unfolding done changed updated
returns c =
    let r = c.args.rec.now in
    let g = glass_of (length r) in
    let h = c.load_head.ensures ∙ sym (head_decoded g r) in
    let s = c.set_dirty.ensures ∙ ap (λ (q : Rect). encode g (with_head (with_dirty q (decode g r).head) (decode g r))) c.empty.ensures in
    finishes _ _ refl c.in_ok-enter.ensures none_left (λ i. answered 0 (rect_numbers (h i).dirty) (lent (s i) [] []))

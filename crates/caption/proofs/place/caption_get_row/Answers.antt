use Rattle.std.proofs.Common.{refl, sym, ap, ◌∙◌, [], ◌∷◌, length}
use Rattle.model.specs.declared.Head.{Head}
use Rattle.model.specs.Glass.{glass_of}
use Rattle.model.specs.Calls.{lent, answered, done}
use Rattle.laws.specs.Updates.{head_decoded}
use Rattle.record.proofs.Lengths.{head_there}
use Rattle.caption.proofs.Calls.{none_left, stops_beside, finishes}
use Rattle.caption.proofs.place.caption_get_row.Goals as goal

pub returns-in_err-enter : goal.returns-in_err-enter
returns-in_err-enter c = stops_beside _ _ refl (λ v. v ∷ []) c.from_residual.result c.from_residual.ensures.1 c.in_err-enter.ensures

pub load_head-requires : goal.load_head-requires
load_head-requires c = head_there c.in_ok-enter.ensures.passing

pub returns : goal.returns
unfolding done
returns c =
    let r = c.args.rec.now in
    let n = c.load_head.ensures ∙ sym (head_decoded (glass_of (length r)) r) in
    finishes _ _ refl c.in_ok-enter.ensures none_left (ap (λ (h : Head). answered 0 (h.row ∷ []) (lent r [] [])) n)

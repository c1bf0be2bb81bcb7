use Rattle.std.proofs.Common.{refl, ap, [], ◌∷◌, Bool}
use mir.Syntax.{w32}
use mir.Facts.{to_z-of_z}
use Rattle.model.specs.Calls.{lent, answered, flag, done}
use Rattle.caption.proofs.Calls.{none_left, stops_beside, finishes, given}
use Rattle.caption.proofs.points.caption_check_point.Goals as goal

pub returns-in_err-enter : goal.returns-in_err-enter
returns-in_err-enter c = stops_beside _ _ refl (λ (set : Bool). flag set ∷ []) c.from_residual.result c.from_residual.ensures.1 c.in_err-enter.ensures

pub check_point-requires : goal.check_point-requires
check_point-requires c = given _ c.in_ok-enter.ensures

pub returns : goal.returns
unfolding done
returns c =
    let a = c.args in
    let set = rw (to_z-of_z {w = w32} {z = a.x} c.ranges.x, to_z-of_z {w = w32} {z = a.y} c.ranges.y) at c.check_point.ensures in
    finishes _ _ refl c.in_ok-enter.ensures none_left (ap (λ (b : Bool). answered 0 (flag b ∷ []) (lent a.rec.now a.memory.now [])) set)

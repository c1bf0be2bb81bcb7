use Rattle.std.proofs.Common.{◌≡◌, length, ap, ◌∙◌, get_or, arith, add-one, drop-cons, drop_of_length-le}
use Rattle.std.proofs.lemmas.Grind.{common_steps}
use Rattle.model.specs.Script.Read.{matched, and_then, with_field}
use Rattle.script.proofs.Matching.{length-with_field, match_turn, with_six, with_none}
use Rattle.script.proofs.forms.matched_line.Goals as goal
use Rattle.script.proofs.forms.matched_line.Goals.{then-is_field, else-is_field}

pub returns-in_err-v : goal.returns-in_err-v
unfolding matched and_then with_field
returns-in_err-v c = grind (arith, common_steps, add-one, drop-cons, drop_of_length-le)

pub loop-p-preserved : goal.loop-p-preserved
loop-p-preserved c =
    let l = c.loop-p in
    let p = get_or c.args.pattern.now l.p-index 0 in
    let k : c.if-is_field.fields ≡ with_field p c.in_ok-v.v l.fields = elim c.if-is_field.branch [
      | then-is_field w ↦ w.fields-is ∙ with_six p c.in_ok-v.v l.fields l.invariant.0 c.is_field.ensures w.if-is_field.true
      | else-is_field w ↦ w.fields-is ∙ with_none p c.in_ok-v.v l.fields c.is_field.ensures w.if-is_field.false
    ] in
    (ap length k ∙ length-with_field p c.in_ok-v.v l.fields l.invariant.0, match_turn c.args.pattern.now l.rest.now l.fields l.p-index l.invariant.1 (omega arith) c.in_ok-v.v c.in_ok-v.after.now _ c.in_ok-v.ensures k)

pub returns : goal.returns
unfolding matched
returns c = grind (arith, common_steps, drop_of_length-le)

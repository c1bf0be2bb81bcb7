use Rattle.std.proofs.Common.{◌≡◌, ◌∙◌, arith}
use Rattle.model.specs.Script.Read.{read_script}
use Rattle.script.specs.Lines.{reads_from}
use Rattle.script.proofs.Splitting.{read_le}
use Rattle.script_run.proofs.Whole.{reads_start, ran_start, end_room, ran_end, next_room, ran_turn}
use Rattle.script_run.proofs.runner.run_lines.Goals as goal

pub loop-form-init : goal.loop-form-init
loop-form-init c =
    let a = c.args in
    let r = c.into_iter-form-iterator.result in
    let e : reads_from r.at r.src.now ≡ read_script a.script.now = cc (reads_start a.script.now) in
    record {
      sized = c.requires.buffers_sized;
      ran = rw e (ran_start (read_script a.script.now) a.out.now _ (omega (arith, read_le a.script.now, c.requires.script_len_bound)) c.requires.at_start c.requires.text_fits);
    }

pub answer_line-requires : goal.answer_line-requires
answer_line-requires c = next_room _ _ _ _ _ _ c.loop-form.invariant.ran _ _ c.in-Some.ensures.steps

pub loop-form-preserved : goal.loop-form-preserved
loop-form-preserved c =
    let s = c.loop-form.invariant.sized in
    let l = c.answer_line.auto in
    record {
      sized = record { rec = l.rec ∙ s.rec; memory = l.memory ∙ s.memory; panel = l.panel ∙ s.panel };
      ran = ran_turn _ _ _ _ _ _ c.loop-form.invariant.ran _ _ c.in-Some.ensures.steps c.answer_line.new.out _ c.answer_line.ensures.printed c.answer_line.ensures.left;
    }

pub put_ending-requires-clause-text_fits : goal.put_ending-requires-clause-text_fits
put_ending-requires-clause-text_fits c = end_room _ _ _ _ _ _ c.loop-form.invariant.ran c.in-None.ensures.steps.0

pub returns : goal.returns
returns c = ran_end _ _ _ _ _ _ c.loop-form.invariant.ran c.in-None.ensures.steps.0 c.put_ending.new.out c.put_ending.ensures

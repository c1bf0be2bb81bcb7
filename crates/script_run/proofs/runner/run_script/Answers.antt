use Rattle.std.proofs.Common.{◌≡◌, sym, ap, length, arith, rules}
use Rattle.model.specs.Calls.{lent}
use Rattle.model.specs.Script.Read.{read_script}
use Rattle.model.specs.Script.Output.{run_lines, script_text}
use Rattle.script_run.proofs.Writing.{appended_as, wrote_behind}
use Rattle.script_run.proofs.Whole.{long_is, short_is}
use Rattle.script_run.proofs.runner.run_script.Goals as goal
use Rattle.script_run.proofs.runner.run_script.Goals.{After-caption_open}

the_text : (c : After-caption_open) → script_text c.args.script.now ≡ run_lines (read_script c.args.script.now) (lent c.caption_open.new.rec c.caption_open.new.memory c.clear.new.part)
the_text c = short_is c.args.script.now _ _ _ _ _ _ _ c.if-script-gt-LONGEST.false c.requires.buffers_sized c.clear.ensures c.caption_open.ensures

pub put_text-requires : goal.put_text-requires
put_text-requires c = omega (arith, ap length (long_is c.args.script.now c.if-script-gt-LONGEST.true), c.requires.script_in_bounds)

pub returns-then-script-gt-LONGEST : goal.returns-then-script-gt-LONGEST
returns-then-script-gt-LONGEST c = wrote_behind (appended_as (sym (long_is c.args.script.now c.if-script-gt-LONGEST.true)) c.put_text.ensures) (search rules)

pub run_lines-requires-clause-text_fits : goal.run_lines-requires-clause-text_fits
run_lines-requires-clause-text_fits c = omega (arith, ap length (the_text (goal.at.run_lines-requires-clause-text_fits c).After-caption_open), c.requires.script_in_bounds)

pub returns : goal.returns
returns c = wrote_behind (appended_as (sym (the_text (goal.at.returns c).After-caption_open)) c.run_lines.ensures) (search rules)

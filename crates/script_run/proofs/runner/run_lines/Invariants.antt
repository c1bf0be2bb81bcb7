-- After each line the text written so far is the front of the whole, and what is left of it is what the lines from the reader's place on print (`Ran`, Whole.antt).
use Rattle.model.specs.Calls.{lent}
use Rattle.model.specs.Script.Read.{read_script}
use Rattle.model.specs.Script.Output.{run_lines}
use Rattle.script.specs.Lines.{reads_from}
use Rattle.script_run.specs.Buffers.{BuffersSized}
use Rattle.script_run.proofs.Whole.{Ran}
use Rattle.script_run.proofs.runner.run_lines.Given as goal

abbrev pub invariant-loop-form : goal.invariant-loop-form
invariant-loop-form l = record {
  sized : BuffersSized l.rec l.memory l.panel;
  ran : Ran (run_lines (read_script l.script) (lent l.initial.rec l.initial.memory l.initial.panel)) l.initial.out l.out (lent l.rec l.memory l.panel) (reads_from l.form-iterator.at l.form-iterator.src.now) l.n;
}

-- The buffers have their lengths, and the output has room for every text.
use Rattle.std.proofs.Common.{ℕ, arith}
use Rattle.std.proofs.Math.ListN.{length-replicate}
use Rattle.model.specs.Record.{total}
use Rattle.script_run.proofs.Sizing.{text-le}
use Rattle.script_run.proofs.runner.run_alone.Goals as goal

pub run_script-requires : goal.run_script-requires
unfolding total
run_script-requires c =
    record {
      buffers_sized = record { rec = length-replicate {A = ℕ} _ 0; memory = length-replicate {A = ℕ} _ 0; panel = length-replicate {A = ℕ} _ 0 };
      script_in_bounds = omega (arith, text-le c.args.script.now);
    }

pub returns-clause-within : goal.returns-clause-within
returns-clause-within c = omega (arith, text-le c.args.script.now, c.run_script.ensures.end)

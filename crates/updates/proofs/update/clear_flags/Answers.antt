use native.Mathlib.Omega.{arith}
use Rattle.model.specs.Record.{with_flags}
use Rattle.model.specs.Open.{clear_flags}
use Rattle.laws.specs.StateTest.{flags_room}
use Rattle.laws.specs.Updates.{clears_flags}
use Rattle.record.proofs.Lengths.{passes_for}
use Rattle.updates.proofs.Updating.{updates}
use Rattle.updates.proofs.update.clear_flags.Goals as goal

pub slice_bounds-clear_flags-count : goal.slice_bounds-clear_flags-count
slice_bounds-clear_flags-count c = omega (arith, flags_room c.glass_of-glass.result)

pub slice_bounds-clear_flags-start : goal.slice_bounds-clear_flags-start
slice_bounds-clear_flags-start c = omega (arith, flags_room c.glass_of-glass.result)

pub slice_bounds-clear_flags-end : goal.slice_bounds-clear_flags-end
slice_bounds-clear_flags-end c =
    let k = c.glass_of-glass.ensures in omega (arith, flags_room c.glass_of-glass.result, (passes_for k c.requires).sized)

pub returns : goal.returns
returns c =
    let k = c.glass_of-glass.ensures in updates _ (λ g x. with_flags (clear_flags g) x) k (clears_flags c.glass_of-glass.result (passes_for k c.requires) c.clear_flags.ensures)

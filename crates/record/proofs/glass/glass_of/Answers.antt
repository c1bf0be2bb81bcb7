-- Each number of the glass follows from the geometry by computing.
use Rattle.std.proofs.Common.{refl, arith}
use Rattle.model.specs.Record.{total, offset}
use Rattle.laws.specs.Glasses.{base_glass}
use Rattle.record.proofs.glass.glass_of.Goals as goal

pub invariant_of-result : goal.invariant_of-result
unfolding total offset
invariant_of-result c =
    record {
      suits = record {
        glass = base_glass;
        is_reciprocal = omega arith;
        is_width = refl;
        is_height = refl;
        is_rows = refl;
        is_columns = refl;
        is_screen = refl;
        is_cells = refl;
        is_graphics = refl;
        is_text = refl;
        is_bytes = refl;
        is_pending = refl;
        is_keys = refl;
        is_flags = refl;
        is_others = refl;
        is_edge = refl;
      };
    }

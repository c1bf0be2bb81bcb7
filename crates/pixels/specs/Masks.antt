-- The two bytes that stand for a draw mode.
use Rattle.std.specs.Prelude.{◌≡◌, cond, ℕ, eqb}
use Rattle.model.specs.declared.DrawMode.{DrawMode}
use Rattle.model.specs.declared.DrawMode.TheVariants.{Clear, Or, Xor}
use Rattle.laws.specs.Runs.{clears, flips, all_or_none}

-- the mode of the two bytes; never Unknown
unfoldable pub mode_by : ℕ → ℕ → DrawMode
mode_by clear flip = cond (eqb clear 0) Xor (cond (eqb flip 0) Clear Or)

-- each byte has all its bits, or none, as the mode clears and inverts
pub record IsMasks (clear flip : ℕ) : Type 0 where
  pub clears : clear ≡ all_or_none (clears (mode_by clear flip))
  pub flips : flip ≡ all_or_none (flips (mode_by clear flip))

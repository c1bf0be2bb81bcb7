-- What an accepted call is given: a record that passes, for the glass that its length tells, and a memory of its length.
use Rattle.std.specs.Prelude.{◌≡◌, List, ℕ, length}
use Rattle.model.specs.Geometry.{memory_bytes}
use Rattle.model.specs.Glass.{glass_of}
use Rattle.laws.specs.Record.{Passing}

pub record Given (r m : List ℕ) : Type 0 where
  pub passing : Passing (glass_of (length r)) r
  pub memory : length m ≡ memory_bytes

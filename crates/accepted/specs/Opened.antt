-- What an accepted open is given: a record and a memory of their lengths, whatever their bytes, and what it is told.
use Rattle.std.specs.Prelude.{◌≡◌, List, ℕ, length}
use Rattle.model.specs.Geometry.{memory_bytes}
use Rattle.model.specs.Glass.{glass_of, IsGlass}
use Rattle.model.specs.Record.{record_bytes}
use Rattle.laws.specs.Opening.{Told}

pub record Opened (r m : List ℕ) (graphics text version : ℕ) (keys : List ℕ) (edge : ℕ) : Type 0 where
  pub glass : IsGlass (glass_of (length r))
  pub sized : length r ≡ record_bytes (glass_of (length r))
  pub memory : length m ≡ memory_bytes
  pub told : Told (glass_of (length r)) graphics text version keys edge

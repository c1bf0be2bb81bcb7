-- Bitmaps: the source that is kept before the first pixel is painted.
use Rattle.std.proofs.Common.{◌≡◌, ap, ◌∙◌, List, true, ℕ, ◌+◌, ◌-◌, ◌<◌, ◌≤◌, arith, length, take, drop}
use Rattle.model.specs.declared.glass.Glass.{Glass}
use Rattle.model.specs.Geometry.{base, screen_bytes}
use Rattle.model.specs.Bitmaps.{source_bytes, source_fits}
use Rattle.bitmap.proofs.Sources.{source_small, source_in}
use Rattle.record.specs.Entry.{Chosen}
use Rattle.record.specs.Given.{Given}
use Rattle.laws.specs.Parts.{part_length}

-- c bytes from a on are a source in memory m, and find room in the array that keeps them
pub record Source (m : List ℕ) (a c : ℕ) : Type 0 where
  pub inside : a + c ≤ length m
  pub short : c ≤ 8160

pub is_source : {r m : List ℕ} {a w n c : ℕ} → Given r m × (source_fits a w n ≡ true) → c ≡ source_bytes w n → a < 65536 → w < 256 → n < 256 → Source m a c
is_source {a = a} {w} {n} f e ha hw hn =
    record { inside = omega (arith, source_in a w n ha f.1, e, f.0.memory); short = omega (arith, source_small w n hw hn, e) }

pub source_length : {m : List ℕ} {a c : ℕ} → Source m a c → length (take (a + c - a) (drop a m)) ≡ c
source_length {m} {a} {c} o = part_length a c m o.inside

-- the screen finds room beside them
pub screen_kept : {n : ℕ} {v : Glass} → Chosen n v → v.screen ≤ screen_bytes base
screen_kept k = omega (arith, k.suits.is_screen ∙ ap screen_bytes k.glass)

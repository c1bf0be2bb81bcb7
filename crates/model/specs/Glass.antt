-- The glass by value, as the code has it: the geometry that it stands for, and that its other numbers follow from it.
use Rattle.std.specs.Prelude.{ℕ, ◌<◌, ◌≤◌}
use Rattle.std.proofs.Common.{arith}
use Rattle.model.specs.declared.glass.Glass.{Glass}
use Rattle.model.specs.declared.Canvas.{Canvas}
use Rattle.model.specs.Geometry.{Geometry, base, cells}
use Rattle.model.specs.Suits.{GlassNumbers}
pub use Rattle.model.specs.Suits.{IsGlass, line_parts, RoundedUp}

-- the glass that a record of n bytes is for: there is one
abbrev pub glass_of : ℕ → Geometry
glass_of n = base

-- the cells of the largest glass: a flush keeps its text in an array of them
abbrev pub text_bytes : ℕ
text_bytes = cells base

abbrev pub geometry : Glass → Geometry
geometry v = record { stride = v.stride; bands = v.bands; band = v.band; panels = v.panels }

pub canvas_size : (v : Glass) → (0 < v.stride) × (v.stride ≤ 32) × (0 < v.height) × (v.height ≤ 256)
canvas_size v =
    let z = v.suits in (omega (arith, z.glass.columns), omega (arith, z.glass.cursor), omega (arith, z.is_height, z.glass.row), omega (arith, z.is_height, z.glass.high))

abbrev pub canvas : Glass → Canvas
canvas v = record { stride = v.stride; height = v.height; size = canvas_size v }

-- every number of a glass follows from its geometry
abbrev pub Suits : Glass → Type 0
Suits v =
    GlassNumbers (geometry v) v.reciprocal v.width v.height v.screen v.rows v.columns v.cells v.graphics v.text v.bytes v.pending v.keys v.flags v.others v.edge

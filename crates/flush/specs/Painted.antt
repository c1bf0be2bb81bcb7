-- A text painted up to a spot.
use Rattle.std.specs.Prelude.{Bool, true, List, ◌≡◌, ℕ, ◌≤◌, length}
use Rattle.model.specs.declared.Spot.{Spot}
use Rattle.model.specs.Glyphs.{Fonts, Store, paint}
use Rattle.model.specs.Flush.{stores}
use Rattle.laws.specs.FlushWalk.{Within, rest}
use Rattle.flush.specs.Fits.{walk_fits}

-- a spot of the walk from which on every glyph is there
pub record LeftFits (st n : ℕ) (text : List ℕ) (version : ℕ) (f : Fonts) (s : Spot) : Type 0 where
  pub within : Within st n s
  pub glyphs : walk_fits version f (rest st n text s) ≡ true

-- what is left to paint from a spot on
abbrev pub left : ℕ → ℕ → List ℕ → List Bool → ℕ → Fonts → Spot → List Store
left st n text flags version f s = stores st flags version f (rest st n text s)

-- the screen was `old` at one spot; at another, no higher up, what is left gives the same
pub record PaintedTo (st n : ℕ) (text : List ℕ) (flags : List Bool) (version : ℕ) (f : Fonts) (from : Spot) (old : List ℕ) (s : Spot) (screen : List ℕ) : Type 0 where
  pub fits : LeftFits st n text version f s
  pub down : from.row ≤ s.row
  pub same : length screen ≡ length old
  pub painted : paint (left st n text flags version f s) screen ≡ paint (left st n text flags version f from) old

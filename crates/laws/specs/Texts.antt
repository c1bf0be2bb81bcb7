-- The text of a glass: its rows on the screen, and its page in record and memory.
use Rattle.std.specs.Prelude.{◌≡◌, List, ℕ, ◌+◌, ◌*◌, ◌≤◌, length}
use Rattle.std.proofs.Common.{ap, mul-le-mul_left}
use native.Mathlib.Omega.{arith}
use Rattle.model.specs.Geometry.{Geometry, height, glyph_height, rows, columns, cells, screen_bytes, row_bytes}
use Rattle.model.specs.Glass.{IsGlass}
use Rattle.model.specs.Record.{State, WellFormed}
use Rattle.model.specs.Print.{page_of}
use Rattle.laws.specs.Memory.{length-window}
use Rattle.laws.specs.Record.{head_tells}
use Rattle.laws.specs.Pages.{Sheet}

module _ (g : Geometry) (z : IsGlass g) where
  pub screen_rows : screen_bytes g ≡ rows g * row_bytes g
  screen_rows = omega (arith, ap (λ (n : ℕ). g.stride * n) z.filled)

  -- a text row of the screen lies on it
  pub row_room : row_bytes g ≤ screen_bytes g
  row_room = omega (arith, mul-le-mul_left {m = glyph_height} {n = height g} g.stride (omega (arith, z)))

  pub page_sheet : (s : State) (m : List ℕ) → WellFormed g s → s.head.text + cells g ≤ length m → (n : ℕ) → n ≤ 1 → Sheet (rows g) (columns g) n (page_of g s m)
  unfolding page_of
  page_sheet s m w h n k =
      let t = head_tells g s.head w.head in
      record { wide = z.columns; text = length-window s.head.text (cells g) m h; flags = w.flags; row = t.row; room = omega arith }

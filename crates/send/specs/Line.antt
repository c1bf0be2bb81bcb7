-- What the copy of a line asks.
use Rattle.std.specs.Prelude.{List, ◌≡◌, ℕ, ◌*◌, ◌≤◌, ◌<◌, length}
use Rattle.model.specs.Pixels.{Screen}
use Rattle.model.specs.declared.Rect.{Rect}

-- the top line of the rectangle r lies on the screen s and on a panel of the same size
pub record LineOn (st h : ℕ) (s p : List ℕ) (r : Rect) : Type 0 where
  pub screen : Screen st h s
  pub panel : length p ≡ st * h
  pub wide : r.left < r.right
  pub inside : r.right ≤ 8 * st
  pub above : r.top < h

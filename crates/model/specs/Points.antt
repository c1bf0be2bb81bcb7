-- Points: `draw_point` and `check_point`.
use Rattle.std.specs.Prelude.{Bool, true, false, not, cond, ◌&&◌, List, [], ◌∷◌, ℕ, zero, suc, ◌+◌, ℤ, pos, negsuc}
use Rattle.model.specs.declared.DrawMode.{DrawMode}
use Rattle.model.specs.declared.DrawMode.TheVariants.{Clear, Or, Xor, Unknown}
use Rattle.model.specs.Pixels.{PixelWrite, bit, on_screen}
use Rattle.model.specs.Rects.{Rect, none}
use Rattle.model.specs.Marks.{Drawing}

-- draw modes: 0 Clear, 1 Or, 2 Xor, 3 Unknown
abbrev pub draw_mode : ℕ → DrawMode
draw_mode zero = Clear
draw_mode (suc zero) = Or
draw_mode (suc (suc zero)) = Xor
draw_mode (suc (suc (suc n))) = Unknown

-- what a point makes of the bit that it finds
unfoldable pub point_op : DrawMode → Bool → Bool
point_op Clear v = false
point_op Or v = true
point_op Xor v = not v
point_op Unknown v = v

abbrev pub pixel_rect : ℕ → ℕ → Rect
pixel_rect x y = record { left = x; top = y; right = x + 1; bottom = y + 1 }

abbrev pub point_write : ℕ → ℕ → DrawMode → PixelWrite
point_write x y d = record { x = x; y = y; op = point_op d }

-- off screen it does nothing; Unknown on screen marks but draws nothing
unfoldable pub point_rect : ℕ → ℕ → ℕ → ℕ → Rect
point_rect st h x y = cond (on_screen st h x y) (pixel_rect x y) none

unfoldable pub point : ℕ → ℕ → ℕ → ℕ → DrawMode → Drawing
point st h x y d = record { writes = point_write x y d ∷ []; dirty = point_rect st h x y; owed = point_rect st h x y }

-- whether the pixel is set: no off screen, for every signed pair
unfoldable pub is_set : ℕ → ℕ → List ℕ → ℤ → ℤ → Bool
is_set st h s (pos x) (pos y) = on_screen st h x y && bit st s x y
is_set st h s (pos x) (negsuc y) = false
is_set st h s (negsuc x) y = false

-- Bitmaps: `paint_bitmap`.
use Rattle.std.specs.Prelude.{Bool, not, cond, ◌&&◌, ◌||◌, List, [], ◌∷◌, ◌++◌, ℕ, zero, suc, ◌+◌, ◌-◌, ◌*◌, ◌/◌, min, ltb, leb, eqb, ℤ, pos, negsuc, neg_ℤ, ◌+ℤ◌}
use Rattle.std.specs.Bool.{xor}
use Rattle.model.specs.declared.PaintMode.{PaintMode}
use Rattle.model.specs.declared.PaintMode.TheVariants.{Copy, Or, Not, And, Xor}
use Rattle.model.specs.declared.Visible.{Visible}
use Rattle.model.specs.Geometry.{memory_bytes}
use Rattle.model.specs.Pixels.{PixelWrite, bit}
use Rattle.model.specs.Rects.{Rect, none}
use Rattle.model.specs.Marks.{Drawing}

-- paint modes: 0 Copy, 1 Or, 2 Not, 3 And, 4 Xor
abbrev pub paint_mode : ℕ → PaintMode
paint_mode zero = Copy
paint_mode (suc zero) = Or
paint_mode (suc (suc zero)) = Not
paint_mode (suc (suc (suc zero))) = And
paint_mode (suc (suc (suc (suc n)))) = Xor

-- what a painted pixel makes of its source bit s and of the bit v that it finds
unfoldable pub paint_op : PaintMode → Bool → Bool → Bool
paint_op Copy s v = s
paint_op Or s v = s || v
paint_op Not s v = not s
paint_op And s v = s && v
paint_op Xor s v = xor s v

-- ---- the source: a bitmap's lines one after another, each of so many bytes

abbrev pub source_stride : ℕ → ℕ
source_stride w = (w + 7) / 8

abbrev pub source_bytes : ℕ → ℕ → ℕ
source_bytes w n = source_stride w * n

-- a bitmap of zero size has none; that of any other ends within memory
unfoldable pub source_fits : ℕ → ℕ → ℕ → Bool
source_fits address w n = (eqb w 0 || eqb n 0) || leb (address + source_bytes w n) memory_bytes

-- ---- clipping, axis by axis; sums are exact

-- z, or 0 where z is negative
abbrev pub max_zero : ℤ → ℕ
max_zero (pos z) = z
max_zero (negsuc z) = 0

-- what an axis of `size` places shows of n places from z on
unfoldable pub visible : ℤ → ℕ → ℕ → Visible
visible z n size = record { skip = max_zero (neg_ℤ z); from = max_zero z; to = min (max_zero (z +ℤ pos n)) size }

unfoldable pub visible_rect : Visible → Visible → Rect
visible_rect across down =
    cond (ltb across.from across.to && ltb down.from down.to)
    (record { left = across.from; top = down.from; right = across.to; bottom = down.to })
    none

-- ---- the pixels: line by line, left to right

-- pixel (x, y), by source pixel (i, j). k is the source's stride
abbrev pub painted_pixel : ℕ → List ℕ → PaintMode → ℕ → ℕ → ℕ → ℕ → PixelWrite
painted_pixel k source m i j x y = record { x = x; y = y; op = paint_op m (bit k source i j) }

-- n pixels of line y from x on, by source pixels of line j from i on
unfoldable pub painted_line : ℕ → List ℕ → PaintMode → ℕ → ℕ → ℕ → ℕ → ℕ → List PixelWrite
painted_line k source m i j x y zero = []
painted_line k source m i j x y (suc n) = painted_pixel k source m i j x y ∷ painted_line k source m (suc i) j (suc x) y n

-- n lines from y on, by source lines from j on
unfoldable pub painted_lines : ℕ → List ℕ → PaintMode → Visible → ℕ → ℕ → ℕ → List PixelWrite
painted_lines k source m across j y zero = []
painted_lines k source m across j y (suc n) =
    painted_line k source m across.skip j across.from y (across.to - across.from) ++ painted_lines k source m across (suc j) (suc y) n

-- a bitmap of w by n pixels at (x, y); its source bytes are those of before the call
unfoldable pub bitmap : ℕ → ℕ → List ℕ → ℤ → ℤ → ℕ → ℕ → PaintMode → Drawing
bitmap st h source x y w n m =
    let across = visible x w (8 * st) in
    let down = visible y n h in
    record {
      writes = painted_lines (source_stride w) source m across down.skip down.from (down.to - down.from);
      dirty = visible_rect across down;
      owed = visible_rect across down;
    }

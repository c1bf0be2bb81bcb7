-- Bitmaps: a painted pixel is a point in a draw mode; where the clipped lines lie; the lines as loops paint them; the marks.
use Rattle.std.specs.Prelude.{◌≡◌, ◌⊎◌, Bool, true, false, cond, List, [], ltb, ℤ, pos, negsuc}
use Rattle.std.proofs.Math.Path.{refl, ap}
use Rattle.std.proofs.Common.{sym, ◌∙◌, inr}
use Rattle.std.proofs.Math.Logic.{inl}
use Rattle.std.proofs.Math.Bool.{xor}
use Prim.Native.Nat.{ℕ, zero, suc, ◌+◌, ◌-◌, ◌*◌, ◌≤◌, ◌<◌, min}
use native.Mathlib.Omega.{arith}
use Rattle.std.proofs.Math.Numerals.{add-one}
use Rattle.std.proofs.Math.IntN.{sub_ℕ}
use borrow.Author.Tests.{lt-ltb, le-ltb}
use Rattle.model.specs.declared.Rect.{Rect}
use Rattle.model.specs.declared.Marks.{Marks}
use Rattle.model.specs.declared.Visible.{Visible}
use Rattle.model.specs.declared.DrawMode.{DrawMode}
use Rattle.model.specs.declared.DrawMode.TheVariants as Draw
use Rattle.model.specs.declared.PaintMode.{PaintMode}
use Rattle.model.specs.declared.PaintMode.TheVariants.{Copy, Or, Not, And, Xor}
use Rattle.model.specs.Pixels.{PixelWrite, bit, write_pixel, draw, seen}
use Rattle.model.specs.Rects.{none, fits}
use Rattle.model.specs.Marks.{within, drawn, drawn_on, whole, Drawing}
use Rattle.model.specs.Points.{point_op, point_write}
use Rattle.model.specs.Bitmaps.{paint_op, source_stride, max_zero, visible, visible_rect, painted_pixel, painted_line, painted_lines, bitmap}
use Rattle.laws.specs.Tests.{tests, if_cases, by_lt, by_test}
use Rattle.laws.specs.Rects.{fits_passes}
use Rattle.laws.specs.Writes.{draw-append, within-append, within_none, within_more, OwesItsMark, owes_mark, drawn_is}
use Rattle.laws.specs.Points.{both}
use Rattle.laws.specs.Lines.{all_seen}

-- ---- a painted pixel is a point

-- the draw mode that does what a paint mode does with a source bit
abbrev pub paint_as : PaintMode → Bool → DrawMode
paint_as Copy s = cond s Draw.Or Draw.Clear
paint_as Or s = cond s Draw.Or Draw.Unknown
paint_as Not s = cond s Draw.Clear Draw.Or
paint_as And s = cond s Draw.Unknown Draw.Clear
paint_as Xor s = cond s Draw.Xor Draw.Unknown

paint-point : (m : PaintMode) (s v : Bool) → point_op (paint_as m s) v ≡ paint_op m s v
unfolding point_op paint_op xor
paint-point Copy s v = by_test s (λ e. rw e) (λ e. rw e)
paint-point Or s v = by_test s (λ e. rw e) (λ e. rw e)
paint-point Not s v = by_test s (λ e. rw e) (λ e. rw e)
paint-point And s v = by_test s (λ e. rw e) (λ e. rw e)
paint-point Xor true v = by_test v (λ e. rw e) (λ e. rw e)
paint-point Xor false v = by_test v (λ e. rw e) (λ e. rw e)

paint_write : (x y : ℕ) (m : PaintMode) (s : Bool) → ◌≡◌ {A = PixelWrite} (point_write x y (paint_as m s)) (record { x = x; y = y; op = paint_op m s })
paint_write x y m s = λ i. record { x = x; y = y; op = λ v. paint-point m s v i }

pub painted-pixel : (st k : ℕ) (source : List ℕ) (m : PaintMode) (i j x y : ℕ) (s e : List ℕ) {b : Bool} {d : DrawMode} → b ≡ bit k source i j → d ≡ paint_as m b
    → e ≡ write_pixel st s (point_write x y d) → e ≡ write_pixel st s (painted_pixel k source m i j x y)
painted-pixel st k source m i j x y s e p q w = cc (paint_write x y m (bit k source i j))

-- ---- clipping

max-sub : (n k : ℕ) → max_zero (sub_ℕ n k) ≡ n - k
max-sub n k = if_cases (λ (z : ℤ). max_zero z ≡ n - k) (ltb n k) (λ e. omega (arith, tests)) (λ e. refl)

pub visible_before : (z n size : ℕ) → visible (negsuc z) n size ≡ record { skip = z + 1; from = 0; to = min (n - (z + 1)) size }
unfolding visible
visible_before z n size = rw (max-sub n (suc z), add-one z)

pub visible-after : (z n size : ℕ) → visible (pos z) n size ≡ record { skip = 0; from = z; to = min (z + n) size }
unfolding visible
visible-after zero n size = refl
visible-after (suc z) n size = refl

-- what is visible lies on the axis and among the n places
pub visible_in : (z : ℤ) (n size : ℕ) → (visible z n size).from < (visible z n size).to
    → ((visible z n size).skip + ((visible z n size).to - (visible z n size).from) ≤ n) × ((visible z n size).to ≤ size)
unfolding visible
visible_in (pos zero) n size h = omega arith
visible_in (pos (suc z)) n size h = omega arith
visible_in (negsuc z) n size h = let e = max-sub n (suc z) in omega arith

-- ---- one line

module _ (k : ℕ) (source : List ℕ) (m : PaintMode) where
  line-within : (r : Rect) (i j x y n : ℕ) → r.left ≤ x → x + n ≤ r.right → r.top ≤ y → y < r.bottom → within r (painted_line k source m i j x y n) ≡ true
  unfolding painted_line
  line-within r i j x y zero a b e f = within_none r
  line-within r i j x y (suc n) a b e f = within_more r _ (painted_line k source m (suc i) j (suc x) y n) (omega arith) (line-within r (suc i) j (suc x) y n (omega arith) (omega arith) e f)

  -- what is left of a line, painted on what stands, gives the whole
  pub line_turn : (st i j x y to : ℕ) (s e t : List ℕ) → x < to → e ≡ write_pixel st s (painted_pixel k source m i j x y)
      → draw st (painted_line k source m i j x y (to - x)) s ≡ t → draw st (painted_line k source m (i + 1) j (x + 1) y (to - (x + 1))) e ≡ t
  unfolding painted_line draw
  line_turn st i j x y to s e t h w g = let n : to - x ≡ suc (to - (x + 1)) = omega arith in cc (add-one i, add-one x)

  pub line_end : (st i j x y to : ℕ) (s t : List ℕ) → to ≤ x → draw st (painted_line k source m i j x y (to - x)) s ≡ t → s ≡ t
  unfolding painted_line draw
  line_end st i j x y to s t h g = let n : to - x ≡ zero = omega arith in rw n at g

  -- ---- all lines

  module _ (across : Visible) where
    lines_within : (r : Rect) (j y n : ℕ) → r.left ≤ across.from → across.from < across.to → across.to ≤ r.right → r.top ≤ y → y + n ≤ r.bottom
        → within r (painted_lines k source m across j y n) ≡ true
    unfolding painted_lines
    lines_within r j y zero a o b e f = within_none r
    lines_within r j y (suc n) a o b e f =
        within-append r _ (painted_lines k source m across (suc j) (suc y) n)
        (line-within r across.skip j across.from y (across.to - across.from) a (omega arith) e (omega arith))
        (lines_within r (suc j) (suc y) n a o b (omega arith) (omega arith))

    -- where the axis shows nothing there is no pixel
    lines_none : (j y n : ℕ) → across.to ≤ across.from → painted_lines k source m across j y n ≡ []
    unfolding painted_lines painted_line
    lines_none j y zero o = refl
    lines_none j y (suc n) o = let e : across.to - across.from ≡ zero = omega arith in rw e (lines_none (suc j) (suc y) n o)

    pub lines_turn : (st j y to : ℕ) (s e t : List ℕ) → y < to
        → e ≡ draw st (painted_line k source m across.skip j across.from y (across.to - across.from)) s
        → draw st (painted_lines k source m across j y (to - y)) s ≡ t → draw st (painted_lines k source m across (j + 1) (y + 1) (to - (y + 1))) e ≡ t
    unfolding painted_lines
    lines_turn st j y to s e t h w g = let n : to - y ≡ suc (to - (y + 1)) = omega arith in cc (add-one j, add-one y, draw-append st _ _ s)

    pub lines_end : (st j y to : ℕ) (s t : List ℕ) → to ≤ y → draw st (painted_lines k source m across j y (to - y)) s ≡ t → s ≡ t
    unfolding painted_lines draw
    lines_end st j y to s t h g = let n : to - y ≡ zero = omega arith in rw n at g

-- ---- the whole bitmap, with its marks

abbrev pub visible_mark : Visible → Visible → Rect
visible_mark across down = record { left = across.from; top = down.from; right = across.to; bottom = down.to }

rect-visible : (across down : Visible) → across.from < across.to → down.from < down.to → visible_rect across down ≡ visible_mark across down
unfolding visible_rect
rect-visible across down a b = rw (lt-ltb across.from across.to a, lt-ltb down.from down.to b)

module _ (st h : ℕ) (source : List ℕ) (x y : ℤ) (w n : ℕ) (m : PaintMode) where
  abbrev writes_of : Visible → Visible → List PixelWrite
  writes_of across down = painted_lines (source_stride w) source m across down.skip down.from (down.to - down.from)

  -- where an axis shows nothing there is no mark and no write
  hidden : (across down : Visible) → (across.to ≤ across.from) ⊎ (down.to ≤ down.from) → (visible_rect across down ≡ none) × (writes_of across down ≡ [])
  unfolding visible_rect painted_lines
  hidden across down (inl o) = (rw (le-ltb across.from across.to o), lines_none (source_stride w) source m across down.skip down.from (down.to - down.from) o)
  hidden across down (inr o) =
      let e : down.to - down.from ≡ zero = omega arith in
      (by_test (ltb across.from across.to) (λ t. rw (t, le-ltb down.from down.to o)) (λ t. rw t), rw e)

  by_visible : {P : Type 0} (across down : Visible) → (across.from < across.to → down.from < down.to → P)
      → ((visible_rect across down ≡ none) × (writes_of across down ≡ []) → P) → P
  by_visible across down f g =
      by_lt across.from across.to (λ a. by_lt down.from down.to (f a) (λ b. g (hidden across down (inr b)))) (λ a. g (hidden across down (inl a)))

  within-visible : (across down : Visible) → within (visible_rect across down) (writes_of across down) ≡ true
  within-visible across down =
      by_visible across down
      (λ a b. rw (rect-visible across down a b) (lines_within (source_stride w) source m across (visible_mark across down) down.skip down.from (down.to - down.from) (omega arith) a (omega arith) (omega arith) (omega arith)))
      (λ o. rw o.1 (within_none (visible_rect across down)))

  -- no write lies outside what the bitmap owes
  pub bitmap-owes : OwesItsMark st h (bitmap st h source x y w n m)
  unfolding bitmap
  bitmap-owes = owes_mark st h _ _ (within-visible (visible x w (8 * st)) (visible y n h))

  -- and STATE lets its mark pass
  pub bitmap-fits : 8 * st ≤ 256 → h ≤ 256 → fits 256 0 256 (bitmap st h source x y w n m).dirty ≡ true
  unfolding bitmap
  bitmap-fits a b =
      let across = visible x w (8 * st) in
      let down = visible y n h in
      fits_passes 256 0 256 (visible_rect across down)
      (by_visible across down (λ o u. rw (rect-visible across down o u) (inr (omega (arith, visible_in x w (8 * st) o, visible_in y n h u)))) (λ o. inl o.0))

  module _ (s : List ℕ) {across down : Visible} (p : across ≡ visible x w (8 * st)) (q : down ≡ visible y n h) where
    same_bitmap : (e : List ℕ) {k : Marks} → k ≡ both (visible_rect across down) → e ≡ draw st (seen st h (writes_of across down)) s
        → drawn k e ≡ drawn_on st h (bitmap st h source x y w n m) s
    unfolding bitmap
    same_bitmap e f g =
        let as-drawing : Visible → Visible → Drawing = λ a b. record { writes = writes_of a b; dirty = visible_rect a b; owed = visible_rect a b } in
        drawn_is st h (as-drawing across down) s e (within-visible across down) f g ∙ (λ i. drawn_on st h (as-drawing (p i) (q i)) s)

    pub bitmap-painted : (e : List ℕ) {k : Marks} → across.from < across.to → down.from < down.to → k ≡ both (visible_mark across down)
        → e ≡ draw st (writes_of across down) s → drawn k e ≡ drawn_on st h (bitmap st h source x y w n m) s
    bitmap-painted e a b f g =
        let i : across.to ≤ 8 * st = rw p (visible_in x w (8 * st) (rw p at a)).1 in
        let j : down.to ≤ h = rw q (visible_in y n h (rw q at b)).1 in
        let in-screen = lines_within (source_stride w) source m across (whole st h) down.skip down.from (down.to - down.from) (omega arith) a i (omega arith) (omega arith) in
        same_bitmap e (f ∙ ap both (sym (rect-visible across down a b))) (cc (all_seen st h (writes_of across down) in-screen))

    bitmap_hidden : {k : Marks} → (across.to ≤ across.from) ⊎ (down.to ≤ down.from) → k ≡ both none → drawn k s ≡ drawn_on st h (bitmap st h source x y w n m) s
    unfolding seen draw
    bitmap_hidden o f = let z = hidden across down o in same_bitmap s (f ∙ ap both (sym z.0)) (rw z.1)

    pub bitmap_beside : {k : Marks} → across.to ≤ across.from → k ≡ both none → drawn k s ≡ drawn_on st h (bitmap st h source x y w n m) s
    bitmap_beside a f = bitmap_hidden (inl a) f

    pub bitmap-below : {k : Marks} → across.from < across.to → down.to ≤ down.from → k ≡ both none → drawn k s ≡ drawn_on st h (bitmap st h source x y w n m) s
    bitmap-below a b f = bitmap_hidden (inr b) f

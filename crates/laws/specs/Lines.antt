-- Horizontal and vertical lines: where their writes lie, and which of them fall on the screen.
use Rattle.std.specs.Prelude.{◌≡◌, refl, Bool, true, false, not, List, ◌∷◌, ◌++◌, [], ◌⊎◌, ℕ, zero, suc, ◌+◌, ◌-◌, ◌*◌, ◌≤◌, ◌<◌, ltb}
use Rattle.std.proofs.Common.{sym, ap, ap₂, ◌∙◌, inr, inl, arith, add-one, lt-ltb, le-ltb}
use Rattle.std.proofs.lemmas.Bool.{not-true, not-false}
use Rattle.model.specs.declared.Edge.{Edge}
use Rattle.model.specs.declared.Edge.TheVariants.{Clamp, Stop}
use Rattle.model.specs.declared.DrawMode.{DrawMode}
use Rattle.model.specs.declared.DrawMode.TheVariants.{Clear, Or, Xor, Unknown}
use Rattle.model.specs.Pixels.{PixelWrite, draw, seen, Screen, on_screen, write_pixel}
use Rattle.model.specs.Lines.{is_unknown, run_op, pixel_run, clamped, stopped, horizontal, owed_by, span_rect, clamp, horizontal_line, pixel_column, vertical, vertical_line}
use Rattle.model.specs.Boxes.{box_rows, filled_box}
use Rattle.model.specs.declared.Rect.{Rect}
use Rattle.model.specs.declared.Marks.{Marks}
use Rattle.model.specs.Rects.{lowered, fits, inside}
use Rattle.model.specs.Marks.{within, drawn, drawn_on, whole}
use Rattle.model.specs.Points.{point_write}
use Rattle.laws.specs.Tests.{tests, clash, by_test, by_lt, either, and-true, and-false}
use Rattle.laws.specs.Rects.{fits_passes, inside_in}
use Rattle.laws.specs.Writes.{within_none, within_more, drawn_is}
use Rattle.laws.specs.Points.{on_true, both, marks_by}

-- Horizontals and fills draw Unknown as Xor: what is made of them is the same drawing in either mode.

-- the mode that a horizontal draws in
unfoldable pub solid : DrawMode → DrawMode
solid Clear = Clear
solid Or = Or
solid Xor = Xor
solid Unknown = Xor

pub run-solid : (x y n : ℕ) (d : DrawMode) → pixel_run x y n (solid d) ≡ pixel_run x y n d
unfolding pixel_run run_op solid
run-solid x y zero d = refl
run-solid x y (suc n) Clear = refl
run-solid x y (suc n) Or = refl
run-solid x y (suc n) Xor = refl
run-solid x y (suc n) Unknown = ap (λ (l : List PixelWrite). record { x = x; y = y; op = run_op Unknown } ∷ l) (run-solid (suc x) y n Unknown)

pub horizontal-solid : (st h : ℕ) (edge : Edge) (left right y : ℕ) (d : DrawMode) → horizontal st h edge left right y (solid d) ≡ horizontal st h edge left right y d
unfolding horizontal clamped stopped
horizontal-solid st h Clamp left right y d = run-solid _ _ _ d
horizontal-solid st h Stop left right y d = run-solid _ _ _ d

rows-solid : (st h : ℕ) (edge : Edge) (left right y n : ℕ) (d : DrawMode) → box_rows st h edge left right y n (solid d) ≡ box_rows st h edge left right y n d
unfolding box_rows
rows-solid st h edge left right y zero d = refl
rows-solid st h edge left right y (suc n) d = ap₂ ◌++◌ (horizontal-solid st h edge left right y d) (rows-solid st h edge left right (suc y) n d)

-- a known mode is itself
pub solid_known : (d : DrawMode) → is_unknown d ≡ false → solid d ≡ d
unfolding is_unknown solid
solid_known Clear k = refl
solid_known Or k = refl
solid_known Xor k = refl
solid_known Unknown k = absurd (clash true refl k)

-- ---- as the code draws them, in the mode k of its two bytes

module _ (st h : ℕ) (edge : Edge) {k : DrawMode} (d : DrawMode) (s e : List ℕ) (same : k ≡ solid d) where
  pub horizontal_in : (left right y : ℕ) → e ≡ draw st (seen st h (horizontal st h edge left right y k)) s → e ≡ draw st (seen st h (horizontal st h edge left right y d)) s
  horizontal_in left right y w = cc (horizontal-solid st h edge left right y d)

  pub filled_in : (left top right bottom : ℕ) → e ≡ draw st (seen st h (filled_box st h edge left top right bottom k)) s
      → e ≡ draw st (seen st h (filled_box st h edge left top right bottom d)) s
  unfolding filled_box
  filled_in left top right bottom w = cc (rows-solid st h edge left right top (suc (bottom - top)) d)

-- Horizontal and vertical lines: where their writes lie, and which of them fall on the screen.

-- a mark of bytes passes STATE
pub span_fits : (left top right bottom : ℕ) → left ≤ right → top ≤ bottom → right < 256 → bottom < 256 → fits 256 0 256 (span_rect left top right bottom) ≡ true
span_fits left top right bottom a b e f = fits_passes 256 0 256 (span_rect left top right bottom) (inr (omega arith))

-- ---- what falls on the screen

pub on_is : (st h x y : ℕ) → x < 8 * st → y < h → on_screen st h x y ≡ true
unfolding on_screen
on_is st h x y hx hy = rw (lt-ltb x (8 * st) hx, lt-ltb y h hy)

-- and what does not
pub off_is : (st h x y : ℕ) → (8 * st ≤ x) ⊎ (h ≤ y) → on_screen st h x y ≡ false
unfolding on_screen
off_is st h x y (inl o) = rw (le-ltb x (8 * st) o)
off_is st h x y (inr o) = by_test (ltb x (8 * st)) (λ e. rw (e, le-ltb y h o)) (λ e. rw e)

-- all of a list does where it lies in the screen
pub all_seen : (st h : ℕ) (ws : List PixelWrite) → within (whole st h) ws ≡ true → seen st h ws ≡ ws
unfolding within seen
all_seen st h [] e = refl
all_seen st h (w ∷ ws) e =
    let p = and-true (inside (whole st h) w.x w.y) (within (whole st h) ws) e in
    let k = inside_in (whole st h) w.x w.y p.0 in
    rw (on_is st h w.x w.y (omega arith) (omega arith), all_seen st h ws p.1)

-- ---- a run of a line

pub run-within : (r : Rect) (x y n : ℕ) (d : DrawMode) → r.left ≤ x → x + n ≤ r.right → r.top ≤ y → y < r.bottom → within r (pixel_run x y n d) ≡ true
unfolding pixel_run
run-within r x y zero d a b e f = within_none r
run-within r x y (suc n) d a b e f = within_more r _ (pixel_run (suc x) y n d) (omega arith) (run-within r (suc x) y n d (omega arith) (omega arith) e f)

run_off : (st h x y n : ℕ) (d : DrawMode) → (8 * st ≤ x) ⊎ (h ≤ y) → seen st h (pixel_run x y n d) ≡ []
unfolding pixel_run seen
run_off st h x y zero d o = refl
run_off st h x y (suc n) d o = rw (off_is st h x y o) (run_off st h (suc x) y n d (either o (λ l. inl (omega arith)) inr))

-- m of the n pixels lie on the screen
run-cut : (st h x y n m : ℕ) (d : DrawMode) → y < h → m ≤ n → x + m ≤ 8 * st → (m < n → x + m ≡ 8 * st) → seen st h (pixel_run x y n d) ≡ pixel_run x y m d
unfolding pixel_run seen
run-cut st h x y n zero d a b e f = by_lt 0 n (λ l. run_off st h x y n d (inl (omega (arith, f l)))) (λ l. let z : n ≡ zero = omega arith in rw z)
run-cut st h x y zero (suc m) d a b e f = absurd (omega arith)
run-cut st h x y (suc n) (suc m) d a b e f =
    rw (on_is st h x y (omega arith) a)
    (ap (λ (l : List PixelWrite). record { x = x; y = y; op = run_op d } ∷ l) (run-cut st h (suc x) y n m d a (omega arith) (omega arith) (λ k. omega (arith, f (omega arith)))))

-- ---- a horizontal

-- what is owed for a mark has what the mark has
pub owed_holds : (st h : ℕ) (edge : Edge) (r : Rect) → let q = owed_by st h edge r in (q.left ≤ r.left) × (q.top ≤ r.top) × (q.right ≡ r.right) × (q.bottom ≡ r.bottom)
unfolding owed_by lowered
owed_holds st h Clamp r = omega arith
owed_holds st h Stop r = omega arith

-- it lies in what is owed for any mark that reaches from its left to its right and has its line
pub horizontal-within : (st h : ℕ) (edge : Edge) (r : Rect) (left right y : ℕ) (d : DrawMode) → left ≤ right
    → r.left ≤ left → right < r.right → r.top ≤ y → y < r.bottom → within (owed_by st h edge r) (horizontal st h edge left right y d) ≡ true
unfolding horizontal clamped stopped owed_by lowered
horizontal-within st h Clamp r left right y d o a b e f =
    run-within _ (clamp left (8 * st)) (clamp y h) (suc (clamp right (8 * st) - clamp left (8 * st))) d (omega arith) (omega arith) (omega arith) (omega arith)
horizontal-within st h Stop r left right y d o a b e f = run-within r left y (suc (right - left)) d a (omega arith) e f

-- Stopped, it draws nothing below the screen or right of it, and else it is cut at the last column.

pub stopped-beyond : (st h left right y : ℕ) (d : DrawMode) → (8 * st ≤ left) ⊎ (h ≤ y) → seen st h (stopped left right y d) ≡ []
unfolding stopped
stopped-beyond st h left right y d o = run_off st h left y (suc (right - left)) d o

pub stopped-cut : (st h left right y : ℕ) (d : DrawMode) → left < 8 * st → y < h → left ≤ right
    → seen st h (stopped left right y d) ≡ pixel_run left y (suc (clamp right (8 * st) - left)) d
unfolding stopped
stopped-cut st h left right y d a b o = run-cut st h left y (suc (right - left)) (suc (clamp right (8 * st) - left)) d b (omega arith) (omega arith) (λ k. omega arith)

-- on the screen it is the clamped one
pub stopped-clamped : (st h left right y : ℕ) (d : DrawMode) → left < 8 * st → y < h → left ≤ right → seen st h (stopped left right y d) ≡ seen st h (clamped st h left right y d)
unfolding clamped
stopped-clamped st h left right y d a b o =
    let i : clamp left (8 * st) ≡ left = omega arith in
    let j : clamp y h ≡ y = omega arith in
    cc (stopped-cut st h left right y d a b o, all_seen st h (pixel_run left y (suc (clamp right (8 * st) - left)) d) (run-within (whole st h) left y (suc (clamp right (8 * st) - left)) d (omega arith) (omega arith) (omega arith) b))

-- nothing is drawn from (x, y) on: lines stop at the edge, and it lies off the screen
unfoldable pub beyond : ℕ → ℕ → Edge → ℕ → ℕ → Bool
beyond st h Clamp x y = false
beyond st h Stop x y = not (on_screen st h x y)

pub beyond_off : (st h x y : ℕ) → beyond st h Stop x y ≡ true → (8 * st ≤ x) ⊎ (h ≤ y)
unfolding beyond on_screen
beyond_off st h x y e = either (and-false (ltb x (8 * st)) (ltb y h) (not-true (on_screen st h x y) e)) (λ t. inl (omega (arith, tests))) (λ t. inr (omega (arith, tests)))

pub beyond_on : (st h x y : ℕ) → beyond st h Stop x y ≡ false → (x < 8 * st) × (y < h)
unfolding beyond
beyond_on st h x y e = on_true st h x y (not-false (on_screen st h x y) e)

-- ---- a column

pub column_within : (r : Rect) (x y n : ℕ) (d : DrawMode) → r.left ≤ x → x < r.right → r.top ≤ y → y + n ≤ r.bottom → within r (pixel_column x y n d) ≡ true
unfolding pixel_column
column_within r x y zero d a b e f = within_none r
column_within r x y (suc n) d a b e f = within_more r _ (pixel_column x (suc y) n d) (omega arith) (column_within r x (suc y) n d a b (omega arith) (omega arith))

column_off : (st h x y n : ℕ) (d : DrawMode) → (8 * st ≤ x) ⊎ (h ≤ y) → seen st h (pixel_column x y n d) ≡ []
unfolding pixel_column seen
column_off st h x y zero d o = refl
column_off st h x y (suc n) d o = rw (off_is st h x y o) (column_off st h x (suc y) n d (either o inl (λ l. inr (omega arith))))

-- m of the n pixels lie on the screen
column_cut : (st h x y n m : ℕ) (d : DrawMode) → x < 8 * st → m ≤ n → y + m ≤ h → (m < n → y + m ≡ h) → seen st h (pixel_column x y n d) ≡ pixel_column x y m d
unfolding pixel_column seen
column_cut st h x y n zero d a b e f = by_lt 0 n (λ l. column_off st h x y n d (inr (omega (arith, f l)))) (λ l. let z : n ≡ zero = omega arith in rw z)
column_cut st h x y zero (suc m) d a b e f = absurd (omega arith)
column_cut st h x y (suc n) (suc m) d a b e f =
    rw (on_is st h x y a (omega arith))
    (ap (λ (l : List PixelWrite). point_write x y d ∷ l) (column_cut st h x (suc y) n m d a (omega arith) (omega arith) (λ k. omega (arith, f (omega arith)))))

-- ---- a vertical

pub vertical-within : (r : Rect) (x top bottom : ℕ) (d : DrawMode) → top ≤ bottom → r.left ≤ x → x < r.right → r.top ≤ top → bottom < r.bottom
    → within r (vertical x top bottom d) ≡ true
unfolding vertical
vertical-within r x top bottom d o a b e f = column_within r x top (suc (bottom - top)) d a b e (omega arith)

pub vertical_beside : (st h x top bottom : ℕ) (d : DrawMode) (s : List ℕ) → 8 * st ≤ x → s ≡ draw st (seen st h (vertical x top bottom d)) s
unfolding vertical draw
vertical_beside st h x top bottom d s a = rw (column_off st h x top (suc (bottom - top)) d (inl a))

pub vertical-below : (st h x top bottom : ℕ) (d : DrawMode) (s : List ℕ) → x < 8 * st → h ≤ top → s ≡ draw st (seen st h (vertical x top bottom d)) s
unfolding vertical draw
vertical-below st h x top bottom d s a b = rw (column_off st h x top (suc (bottom - top)) d (inr b))

-- ---- as the code draws them

-- clamped, a horizontal never lies beside or below the screen
pub clamped-drawn : (st h left right y : ℕ) (d : DrawMode) (s e : List ℕ) {a b l : ℕ} → Screen st h s → left ≤ right
    → a ≡ clamp left (8 * st) → b ≡ clamp right (8 * st) → l ≡ clamp y h → e ≡ draw st (pixel_run a l (suc (b - a)) d) s
    → e ≡ draw st (seen st h (clamped st h left right y d)) s
unfolding clamped
clamped-drawn st h left right y d s e {a} {b} {l} r o p q k w =
    cc (all_seen st h (pixel_run a l (suc (b - a)) d) (run-within (whole st h) a l (suc (b - a)) d (omega arith) (omega arith) (omega arith) (omega arith)))

-- stopped, it draws nothing, or what it draws clamped
pub horizontal-beyond : (st h : ℕ) (edge : Edge) (left right y : ℕ) (d : DrawMode) (s : List ℕ) {t : Bool} → t ≡ beyond st h edge left y → t ≡ true
    → s ≡ draw st (seen st h (horizontal st h edge left right y d)) s
unfolding beyond horizontal draw
horizontal-beyond st h Clamp left right y d s p q = clash _ q p
horizontal-beyond st h Stop left right y d s p q = rw (stopped-beyond st h left right y d (beyond_off st h left y (sym p ∙ q)))

pub horizontal_on : (st h : ℕ) (edge : Edge) (left right y : ℕ) (d : DrawMode) (s e : List ℕ) {t : Bool} → left ≤ right → t ≡ beyond st h edge left y → t ≡ false
    → e ≡ draw st (seen st h (clamped st h left right y d)) s → e ≡ draw st (seen st h (horizontal st h edge left right y d)) s
unfolding horizontal
horizontal_on st h Clamp left right y d s e o p q w = w
horizontal_on st h Stop left right y d s e o p q w =
    let on = beyond_on st h left y (sym p ∙ q) in cc (stopped-clamped st h left right y d on.0 on.1 o)

-- of a vertical, the pixels down to the screen's last line are seen
pub vertical-drawn : (st h x top bottom : ℕ) (d : DrawMode) (s e : List ℕ) {last : ℕ} → x < 8 * st → top < h → top ≤ bottom → last ≡ clamp bottom h
    → e ≡ draw st (pixel_column x top (last - top + 1) d) s → e ≡ draw st (seen st h (vertical x top bottom d)) s
unfolding vertical
vertical-drawn st h x top bottom d s e {last} a b o p w = cc (column_cut st h x top (suc (bottom - top)) (last - top + 1) d a (omega arith) (omega arith) (λ k. omega arith))

-- what is left of a column, drawn on what stands, gives the whole
pub column_turn : (st x y n : ℕ) (d : DrawMode) (s e t : List ℕ) → 0 < n → e ≡ write_pixel st s (point_write x y d) → draw st (pixel_column x y n d) s ≡ t
    → draw st (pixel_column x (y + 1) (n - 1) d) e ≡ t
unfolding pixel_column draw
column_turn st x y n d s e t h w q = let l : n ≡ suc (n - 1) = omega arith in cc (add-one y)

pub column_end : (st x y n : ℕ) (d : DrawMode) (s t : List ℕ) → n ≤ 0 → draw st (pixel_column x y n d) s ≡ t → s ≡ t
unfolding pixel_column draw
column_end st x y n d s t h q = let z : n ≡ zero = omega arith in rw z at q

-- ---- with their marks

pub horizontal-marked : (st h : ℕ) (edge : Edge) (left right y : ℕ) (d : DrawMode) (s e : List ℕ) {m : Marks} {k : DrawMode} → left ≤ right → k ≡ solid d
    → m ≡ marks_by st h edge (span_rect left y right y) → e ≡ draw st (seen st h (horizontal st h edge left right y k)) s
    → drawn m e ≡ drawn_on st h (horizontal_line st h edge left right y d) s
unfolding horizontal_line
horizontal-marked st h edge left right y d s e l same p w =
    let lies = horizontal-within st h edge (span_rect left y right y) left right y d l (omega arith) (omega arith) (omega arith) (omega arith) in
    drawn_is st h (horizontal_line st h edge left right y d) s e lies p (horizontal_in st h edge d s e same left right y w)

pub vertical-marked : (st h x top bottom : ℕ) (d : DrawMode) (s e : List ℕ) {m : Marks} → top ≤ bottom
    → m ≡ both (span_rect x top x bottom) → e ≡ draw st (seen st h (vertical x top bottom d)) s
    → drawn m e ≡ drawn_on st h (vertical_line x top bottom d) s
unfolding vertical_line
vertical-marked st h x top bottom d s e l p w =
    drawn_is st h (vertical_line x top bottom d) s e (vertical-within (span_rect x top x bottom) x top bottom d l (omega arith) (omega arith) (omega arith) (omega arith)) p w

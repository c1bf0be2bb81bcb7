-- Points: what a drawing function answers for one is what the definition says.
use Rattle.std.specs.Prelude.{◌≡◌, refl, Bool, true, false, cond, not, List, [], ◌∷◌, ℕ, ◌-◌, ◌*◌, ◌/◌, ◌%◌, ◌^◌, ◌<◌, ◌≤◌, ltb, eqb, ℤ, pos, negsuc, length, get_or, set}
use Rattle.std.proofs.Math.Path.{sym}
use Rattle.std.proofs.Common.{ap, ◌∙◌, inl, inr, arith, eqb-true, lt-ltb, le-ltb}
use Rattle.std.specs.Int.Bits.{bit_and, bit_or, bit_xor}
use Rattle.model.specs.declared.Rect.{Rect}
use Rattle.model.specs.declared.Marks.{Marks}
use Rattle.model.specs.declared.Edge.{Edge}
use Rattle.model.specs.declared.DrawMode.{DrawMode}
use Rattle.model.specs.declared.DrawMode.TheVariants.{Clear, Or, Xor, Unknown}
use Rattle.model.specs.Bits.{bit_at, with_bit}
use Rattle.model.specs.Pixels.{Screen, place, bit, put, on_screen, write_pixel, draw, seen}
use Rattle.model.specs.Bytes.{Bytes}
use Rattle.model.specs.Rects.{none, fits}
use Rattle.model.specs.Marks.{drawn, drawn_on, within, owes}
use Rattle.model.specs.Points.{point_op, pixel_rect, point_write, point_rect, point, is_set}
use Rattle.model.specs.Lines.{owed_by}
use Rattle.laws.specs.Tests.{if_cases, by_test, by_lt, and-true, tests}
use Rattle.laws.specs.Pixels.{place-lt}
use Rattle.laws.specs.Bits.{every-at, see_is, every₂_at}
use Rattle.laws.specs.Rects.{fits_passes, in_inside}
use Rattle.laws.specs.Writes.{OwesItsMark}

-- the mask of pixel x in its byte
abbrev pub mask_of : ℕ → ℕ
mask_of x = 128 / 2 ^ (x % 8)

-- a byte after a point under the mask m, by the machine's operations
unfoldable pub point_byte : DrawMode → ℕ → ℕ → ℕ
point_byte Clear b m = bit_and b (255 - m)
point_byte Or b m = bit_or b m
point_byte Xor b m = bit_xor b m
point_byte Unknown b m = b

-- it is the pixel's change, computed over 256 bytes by 8 bits
abbrev point_rule : DrawMode → ℕ → ℕ → Bool
point_rule d b k = eqb (point_byte d b (128 / 2 ^ k)) (with_bit b (7 - k) (point_op d (bit_at b (7 - k))))

point-byte : (d : DrawMode) (b k : ℕ) → b < 256 → k < 8 → point_byte d b (128 / 2 ^ k) ≡ with_bit b (7 - k) (point_op d (bit_at b (7 - k)))
unfolding point_byte point_op with_bit bit_at
point-byte Clear b k hb hk = eqb-true _ _ (every₂_at 256 8 (point_rule Clear) refl b k hb hk)
point-byte Or b k hb hk = eqb-true _ _ (every₂_at 256 8 (point_rule Or) refl b k hb hk)
point-byte Xor b k hb hk = eqb-true _ _ (every₂_at 256 8 (point_rule Xor) refl b k hb hk)
point-byte Unknown b k hb hk = eqb-true _ _ (every₂_at 256 8 (point_rule Unknown) refl b k hb hk)

pub plotted : (st x y : ℕ) (d : DrawMode) (s : List ℕ) {m v : ℕ} → Bytes s → m ≡ mask_of x → v ≡ point_byte d (get_or s (place st x y) 0) m
    → set s (place st x y) v ≡ write_pixel st s (point_write x y d)
unfolding write_pixel put bit Bytes
plotted st x y d s {m} {v} h p q = cc (point-byte d (get_or s (place st x y) 0) (x % 8) (h (place st x y)) (omega arith))

pub seen-bit : (st x y : ℕ) (s : List ℕ) {m : ℕ} → Bytes s → m ≡ mask_of x
    → not (eqb (bit_and (get_or s (place st x y) 0) m) 0) ≡ bit st s x y
unfolding bit Bytes
seen-bit st x y s {m} h p = cc (see_is (get_or s (place st x y) 0) (x % 8) (h (place st x y)) (omega arith))

-- the code's table of masks
abbrev pub masks : List ℕ
masks = 128 ∷ 64 ∷ 32 ∷ 16 ∷ 8 ∷ 4 ∷ 2 ∷ 1 ∷ []

pub mask_at : (x : ℕ) → get_or masks (x % 8) 0 ≡ mask_of x
mask_at x = eqb-true _ _ (every-at 8 (λ k. eqb (get_or masks k 0) (128 / 2 ^ k)) refl (x % 8) (omega arith))

pub on_true : (st h x y : ℕ) → on_screen st h x y ≡ true → (x < 8 * st) × (y < h)
unfolding on_screen
on_true st h x y e = omega (arith, tests, and-true (ltb x (8 * st)) (ltb y h) e)

-- a pixel of the screen has its byte
pub place_in : (st h x y : ℕ) {s : List ℕ} → Screen st h s → (x < 8 * st) × (y < h) → place st x y < length s
place_in st h x y r o = omega (arith, place-lt st h x y o.0 o.1, r.sized)

-- one rectangle for both marks
abbrev pub both : Rect → Marks
both r = record { dirty = r; owed = r }

-- the mark of horizontals, owed by the edge flag
abbrev pub marks_by : ℕ → ℕ → Edge → Rect → Marks
marks_by st h edge r = record { dirty = r; owed = owed_by st h edge r }

-- STATE lets a point's mark pass in dirty
pub point-fits : (st h x y : ℕ) → x < 256 → y < 256 → fits 256 0 256 (point_rect st h x y) ≡ true
unfolding point_rect
point-fits st h x y hx hy =
    if_cases (λ (r : Rect). fits 256 0 256 r ≡ true) (on_screen st h x y)
    (λ e. fits_passes 256 0 256 (pixel_rect x y) (inr (omega arith))) (λ e. fits_passes 256 0 256 none (inl refl))

module _ (st h x y : ℕ) (d : DrawMode) where
  -- its write lies in that mark
  pub point-within : within (point_rect st h x y) (seen st h (point_write x y d ∷ [])) ≡ true
  unfolding within seen point_rect
  point-within = by_test (on_screen st h x y) (λ e. rw (e, in_inside (pixel_rect x y) x y (omega arith))) (λ e. rw e)

  pub point-owes : OwesItsMark st h (point st h x y d)
  unfolding point owes
  point-owes = rw point-within

  module _ (s : List ℕ) where
    -- one write, where it falls on the screen
    pub seen_one : (e : List ℕ) {t : Bool} → t ≡ on_screen st h x y → t ≡ true → e ≡ write_pixel st s (point_write x y d) → e ≡ draw st (seen st h (point_write x y d ∷ [])) s
    unfolding seen draw
    seen_one e p q w = rw (sym p ∙ q) w

    pub seen_none : {t : Bool} → t ≡ on_screen st h x y → t ≡ false → s ≡ draw st (seen st h (point_write x y d ∷ [])) s
    unfolding seen draw
    seen_none p q = rw (sym p ∙ q)

    -- ---- with its marks

    point-marked : (e : List ℕ) {m : Marks} → m ≡ both (point_rect st h x y) → e ≡ draw st (seen st h (point_write x y d ∷ [])) s → drawn m e ≡ drawn_on st h (point st h x y d) s
    unfolding drawn drawn_on point
    point-marked e r w = λ i. record { dirty = (r i).dirty; owed = ((λ j. (r j).owed) ∙ sym point-owes) i; screen = w i }

    pub point_on : (e : List ℕ) {t : Bool} {m : Marks} → t ≡ on_screen st h x y → t ≡ true → m ≡ both (pixel_rect x y)
        → e ≡ write_pixel st s (point_write x y d) → drawn m e ≡ drawn_on st h (point st h x y d) s
    unfolding point_rect
    point_on e p q r w = point-marked e (rw (sym p ∙ q) r) (seen_one e p q w)

    pub point_off : {t : Bool} {m : Marks} → t ≡ on_screen st h x y → t ≡ false → m ≡ both none → drawn m s ≡ drawn_on st h (point st h x y d) s
    unfolding point_rect
    point_off p q r = point-marked s (rw (sym p ∙ q) r) (seen_none p q)

-- ---- a signed coordinate

-- the coordinate where it lies on an axis of n places, else n
unfoldable pub on_axis : ℤ → ℕ → ℕ
on_axis (pos x) n = cond (ltb x n) x n
on_axis (negsuc x) n = n

axis_in : (n : ℕ) (z : ℤ) → on_axis z n < n → z ≡ pos (on_axis z n)
unfolding on_axis
axis_in n (pos x) h = by_lt x n (λ l. rw (lt-ltb x n l)) (λ l. absurd (let k : n < n = rw (le-ltb x n l) at h in omega arith))
axis_in n (negsuc x) h = absurd (omega arith)

pub check_on : (st h : ℕ) (s : List ℕ) (x y : ℤ) {c l : ℕ} {b : Bool} → c ≡ on_axis x (8 * st) → l ≡ on_axis y h → c < 8 * st → l < h
    → b ≡ bit st s c l → b ≡ is_set st h s x y
unfolding is_set on_screen
check_on st h s x y {c} {l} {b} p q hc hl e =
    let u : x ≡ pos c = axis_in (8 * st) x (rw (← p) hc) ∙ ap pos (sym p) in
    let v : y ≡ pos l = axis_in h y (rw (← q) hl) ∙ ap pos (sym q) in
    rw (u, v, lt-ltb c (8 * st) hc, lt-ltb l h hl) e

-- a coordinate off its axis
off_axis : (n : ℕ) (x : ℕ) → n ≤ on_axis (pos x) n → ltb x n ≡ false
unfolding on_axis
off_axis n x h = by_lt x n (λ l. absurd (let k : n ≤ x = rw (lt-ltb x n l) at h in omega arith)) (λ l. le-ltb x n l)

pub check_beside : (st h : ℕ) (s : List ℕ) (x y : ℤ) {c : ℕ} → c ≡ on_axis x (8 * st) → 8 * st ≤ c → false ≡ is_set st h s x y
unfolding is_set on_screen
check_beside st h s (pos x) (pos y) p l = rw (off_axis (8 * st) x (rw p at l))
check_beside st h s (pos x) (negsuc y) p l = refl
check_beside st h s (negsuc x) y p l = refl

pub check_below : (st h : ℕ) (s : List ℕ) (x y : ℤ) {c : ℕ} → c ≡ on_axis y h → h ≤ c → false ≡ is_set st h s x y
unfolding is_set on_screen
check_below st h s (pos x) (pos y) p l = by_test (ltb x (8 * st)) (λ e. rw (e, off_axis h y (rw p at l))) (λ e. rw e)
check_below st h s (pos x) (negsuc y) p l = refl
check_below st h s (negsuc x) y p l = refl

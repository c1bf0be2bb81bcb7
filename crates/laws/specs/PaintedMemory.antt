-- A bitmap painted in memory, its screen and its source windows that share no byte: each visible line is a run of memory's bits,
-- and lines that follow one another on the screen and in the source are one run.
use Rattle.std.specs.Prelude.{◌≡◌, refl, Bool, true, ◌||◌, ◌⊎◌, List, leb, ℤ, get_or, set, drop}
use Rattle.std.proofs.Math.Path.{sym}
use Rattle.std.proofs.Common.{ap, ◌∙◌, mul-le-mul_left, add-one, get_or-take}
use Rattle.std.proofs.Math.Logic.{inl, inr}
use Prim.Native.Nat.{ℕ, zero, suc, ◌+◌, ◌-◌, ◌*◌, ◌%◌, ◌≤◌, ◌<◌}
use native.Mathlib.Omega.{arith}
use Rattle.std.proofs.Math.ListN.{length}
use Rattle.std.proofs.Math.Seq.{get_or-drop, take-set-le, drop-set-lt}
use Rattle.model.specs.Bits.{with_bit}
use Rattle.model.specs.Bytes.{Bytes}
use Rattle.model.specs.Memory.{window, with_window}
use Rattle.model.specs.Pixels.{place, bit, put, write_pixel, draw}
use Rattle.model.specs.Marks.{Drawing, drawn, drawn_on}
use Rattle.model.specs.declared.Marks.{Marks}
use Rattle.model.specs.declared.PaintMode.{PaintMode}
use Rattle.model.specs.declared.Visible.{Visible}
use Rattle.model.specs.Bitmaps.{paint_op, source_stride, source_bytes, visible, painted_line, painted_lines, bitmap}
use Rattle.laws.specs.Tests.{tests, either, or_cases}
use Rattle.laws.specs.Memory.{length-window, length-with_window, window_set_in, window_same, window_back, window_other, window_again}
use Rattle.laws.specs.Pixels.{row_below, length-put, length-draw}
use Rattle.laws.specs.Writes.{draw-append}
use Rattle.laws.specs.Points.{both}
use Rattle.laws.specs.Bitmaps.{visible_mark, bitmap-painted}
use Rattle.laws.specs.PaintedBits.{painted_bits, length-painted, bytes_painted, Apart, bits_join}

-- pixel (x, y) of the lines of st bytes that begin at byte a, as a bit of memory
abbrev pub pixel_at : ℕ → ℕ → ℕ → ℕ → ℕ
pixel_at a st x y = 8 * (a + st * y) + x

module _ (a n st x y : ℕ) (m : List ℕ) (inside : place st x y < n) where
  same_place : place (length m) (pixel_at a st x y) 0 ≡ a + place st x y
  same_place = omega arith

  same_bit : 7 - pixel_at a st x y % 8 ≡ 7 - x % 8
  same_bit = omega arith

  same_byte : get_or m (a + place st x y) 0 ≡ get_or (window a n m) (place st x y) 0
  unfolding window
  same_byte = rw (get_or-take n (drop a m) (place st x y) 0 inside, get_or-drop a m (place st x y) 0)

  bit-window : bit (length m) m (pixel_at a st x y) 0 ≡ bit st (window a n m) x y
  unfolding bit
  bit-window = cc (same_place, same_bit, same_byte)

  -- the byte with that bit made v
  abbrev with_v : Bool → ℕ
  with_v v = with_bit (get_or m (a + place st x y) 0) (7 - x % 8) v

  put_is : (v : Bool) → put (length m) m (pixel_at a st x y) 0 v ≡ set m (a + place st x y) (with_v v)
  unfolding put
  put_is v = cc (same_place, same_bit)

  put-window : (v : Bool) → window a n (put (length m) m (pixel_at a st x y) 0 v) ≡ put st (window a n m) x y v
  unfolding put
  put-window v =
      let e : a + place st x y - a ≡ place st x y = omega arith in
      cc (put_is v, same_byte, window_set_in a n m (a + place st x y) (with_v v) (omega arith) (omega arith))

  -- what stands outside the window stays
  put_outside : (v : Bool) (t : List ℕ) → length t ≡ n → with_window a t (put (length m) m (pixel_at a st x y) 0 v) ≡ with_window a t m
  unfolding with_window
  put_outside v t e =
      cc (put_is v, take-set-le a m (a + place st x y) (with_v v) (omega arith), drop-set-lt (a + length t) m (a + place st x y) (with_v v) (omega arith))

-- n pixels of line y of the window at a, painted by those of line j of the window at b, which may be another memory's
line-window : (a size st b count k : ℕ) (m : List ℕ) (mode : PaintMode) (i j x y n : ℕ) (p : List ℕ) → length m ≡ length p → a + size ≤ length p
    → x + n ≤ 8 * st → st * y + st ≤ size → i + n ≤ 8 * k → k * j + k ≤ count
    → draw (length p) (painted_line (length m) m mode (pixel_at b k i j) 0 (pixel_at a st x y) 0 n) p
    ≡ with_window a (draw st (painted_line k (window b count m) mode i j x y n) (window a size p)) p
unfolding painted_line draw write_pixel
line-window a size st b count k m mode i j x y zero p e ha hx hy hi hj = sym (window_back a size p ha)
line-window a size st b count k m mode i j x y (suc n) p e ha hx hy hi hj =
    let L = length p in
    let v = paint_op mode (bit (length m) m (pixel_at b k i j) 0) (bit L p (pixel_at a st x y) 0) in
    let w = paint_op mode (bit k (window b count m) i j) (bit st (window a size p) x y) in
    let q = put L p (pixel_at a st x y) 0 v in
    let l : length q ≡ L = length-put L p (pixel_at a st x y) 0 v in
    let f : suc (pixel_at b k i j) ≡ pixel_at b k (suc i) j = omega arith in
    let g : suc (pixel_at a st x y) ≡ pixel_at a st (suc x) y = omega arith in
    let same : v ≡ w = cc (bit-window b count k i j m (omega arith), bit-window a size st x y p (omega arith)) in
    let ws = painted_line k (window b count m) mode (suc i) j (suc x) y n in
    let s = draw st ws (put st (window a size p) x y w) in
    let sized : length s ≡ size = length-draw st ws (put st (window a size p) x y w) ∙ length-put st (window a size p) x y w ∙ length-window a size p ha in
    let rest = line-window a size st b count k m mode (suc i) j (suc x) y n q (e ∙ sym l) (rw l ha) (omega arith) hy (omega arith) hj in
    let next : draw L (painted_line (length m) m mode (suc (pixel_at b k i j)) 0 (suc (pixel_at a st x y)) 0 n) q
    ≡ draw (length q) (painted_line (length m) m mode (pixel_at b k (suc i) j) 0 (pixel_at a st (suc x) y) 0 n) q = cc (f, g, l) in
    let drawn : window a size q ≡ put st (window a size p) x y w = put-window a size st x y p (omega arith) v ∙ ap (put st (window a size p) x y) same in
    let whole : with_window a (draw st ws (window a size q)) q ≡ with_window a s p =
    ap (λ (z : List ℕ). with_window a (draw st ws z) q) drawn ∙ put_outside a size st x y p (omega arith) v s sized in
    next ∙ rest ∙ whole

-- ---- all lines

-- a screen of `size` bytes at a, and a source of `count` bytes at b
pub record Placed (a size b count : ℕ) (m : List ℕ) : Type 0 where
  pub screen : a + size ≤ length m
  pub source : b + count ≤ length m
  pub apart : (a + size ≤ b) ⊎ (b + count ≤ a)

-- as the test finds them
pub placed : (a size b count : ℕ) (m : List ℕ) {k : ℕ} {t : Bool} → (a + size ≤ length m) × (b + count ≤ length m) → k ≡ count → t ≡ (leb (a + size) b || leb (b + k) a) → t ≡ true → Placed a size b count m
placed a size b count m {k} l e p q =
    record { screen = l.0; source = l.1; apart = either (or_cases (leb (a + size) b) (leb (b + k) a) (sym p ∙ q)) (λ h. inl (omega (arith, tests))) (λ h. inr (omega (arith, tests))) }

-- a line's runs of bits lie within memory, and have no bit in common
pub record LineLies (a st b k : ℕ) (across : Visible) (j y : ℕ) (m : List ℕ) : Type 0 where
  pub screen : pixel_at a st across.from y + (across.to - across.from) ≤ 8 * length m
  pub source : pixel_at b k across.skip j + (across.to - across.from) ≤ 8 * length m
  pub apart : Apart (pixel_at a st across.from y) (pixel_at b k across.skip j) (across.to - across.from)

pub line_lies : (a st h b k n : ℕ) (across : Visible) (j y : ℕ) (m : List ℕ) → Placed a (st * h) b (k * n) m
    → (across.from < across.to) × (across.to ≤ 8 * st) × (across.skip + (across.to - across.from) ≤ 8 * k) × (j < n) × (y < h) → LineLies a st b k across j y m
line_lies a st h b k n across j y m o i =
    let below = row_below st h y i.4 in
    let under = row_below k n j i.3 in
    record { screen = omega (arith, o.screen); source = omega (arith, o.source); apart = either o.apart (λ l. inl (omega arith)) (λ l. inr (omega arith)) }

-- line y of the screen, painted by line j of the source
abbrev pub line_in : ℕ → ℕ → ℕ → ℕ → PaintMode → Visible → ℕ → ℕ → List ℕ → List ℕ
line_in a b st k mode across j y m = painted_bits mode (pixel_at b k across.skip j) (pixel_at a st across.from y) (across.to - across.from) m

module _ (a size b count st k : ℕ) (mode : PaintMode) (across : Visible) where
  -- n lines of the screen from y on, painted by those of the source from j on; the rest of memory stays
  abbrev pub painted_in : ℕ → ℕ → ℕ → List ℕ → List ℕ
  painted_in j y n m = with_window a (draw st (painted_lines k (window b count m) mode across j y n) (window a size m)) m

  pub lines_none : (j y : ℕ) (m : List ℕ) → a + size ≤ length m → painted_in j y 0 m ≡ m
  unfolding painted_lines draw
  lines_none j y m h = window_back a size m h

  module _ (j y n : ℕ) (m : List ℕ) (o : Placed a size b count m) (hx : across.from + (across.to - across.from) ≤ 8 * st) (hy : st * y + st ≤ size)
      (hi : across.skip + (across.to - across.from) ≤ 8 * k) (hj : k * j + k ≤ count) where
    line_is : line_in a b st k mode across j y m ≡ with_window a (draw st (painted_line k (window b count m) mode across.skip j across.from y (across.to - across.from)) (window a size m)) m
    line_is = line-window a size st b count k m mode across.skip j across.from y (across.to - across.from) m refl o.screen hx hy hi hj

    -- what is left of the lines, painted on what stands, gives the whole
    pub lines_more : painted_in (suc j) (suc y) n (line_in a b st k mode across j y m) ≡ painted_in j y (suc n) m
    unfolding painted_lines
    lines_more =
        let source = window b count m in
        let screen = window a size m in
        let ws = painted_line k source mode across.skip j across.from y (across.to - across.from) in
        let vs = painted_lines k source mode across (suc j) (suc y) n in
        let s = draw st ws screen in
        let long : length screen ≡ size = length-window a size m o.screen in
        let sized : length s ≡ size = length-draw st ws screen ∙ long in
        let again : length s ≡ length (draw st vs s) = sym (length-draw st vs s) in
        let here : window a size (with_window a s m) ≡ s = window_same a size s m sized o.screen in
        let there : window b count (with_window a s m) ≡ source = window_other a s m b count (omega (arith, o.screen)) (either o.apart (λ h. inr (omega arith)) (λ h. inl h)) in
        cc (line_is, window_again a s (draw st vs s) m again (omega (arith, o.screen)), draw-append st ws vs screen)

    lines_placed : Placed a size b count (line_in a b st k mode across j y m)
    lines_placed =
        let e = length-painted mode (pixel_at b k across.skip j) (pixel_at a st across.from y) (across.to - across.from) m in
        record { screen = rw e o.screen; source = rw e o.source; apart = o.apart }

  -- as a loop paints them
  pub turn_in : (j y to : ℕ) (m e t : List ℕ) → Placed a size b count m → y < to → across.from + (across.to - across.from) ≤ 8 * st → st * y + st ≤ size
      → across.skip + (across.to - across.from) ≤ 8 * k → k * j + k ≤ count → e ≡ line_in a b st k mode across j y m
      → painted_in j y (to - y) m ≡ t → Placed a size b count e × (painted_in (j + 1) (y + 1) (to - (y + 1)) e ≡ t)
  turn_in j y to m e t o h hx hy hi hj w g =
      let n : to - y ≡ suc (to - (y + 1)) = omega arith in
      (rw w (lines_placed j y 0 m o hx hy hi hj), cc (add-one j, add-one y, lines_more j y (to - (y + 1)) m o hx hy hi hj))

  pub end_in : (j y to : ℕ) (m t : List ℕ) → Placed a size b count m → to ≤ y → painted_in j y (to - y) m ≡ t → m ≡ t
  end_in j y to m t o h g = let n : to - y ≡ 0 = omega arith in cc (lines_none j y m o.screen)

-- whole lines of the screen and of the source follow one another, so they are one run
module _ (a size b count st : ℕ) (across : Visible) (ek : across.skip ≡ 0) (ef : across.from ≡ 0) (et : across.to ≡ 8 * st) where
  run_lies : (j y n : ℕ) (m : List ℕ) → Placed a size b count m → st * (y + n) ≤ size → st * (j + n) ≤ count
      → (pixel_at a st across.from y + 8 * st * n ≤ 8 * length m) × (pixel_at b st across.skip j + 8 * st * n ≤ 8 * length m)
      × Apart (pixel_at a st across.from y) (pixel_at b st across.skip j) (8 * st * n)
  run_lies j y n m o hy hj = (omega (arith, o.screen), omega (arith, o.source), either o.apart (λ h. inl (omega arith)) (λ h. inr (omega arith)))

  whole_in : (mode : PaintMode) (j y n : ℕ) (m : List ℕ) → Placed a size b count m → Bytes m → st * (y + n) ≤ size → st * (j + n) ≤ count
      → painted_bits mode (pixel_at b st across.skip j) (pixel_at a st across.from y) (8 * st * n) m ≡ painted_in a size b count st st mode across j y n m
  unfolding draw painted_line
  whole_in mode j y zero m o hm hy hj = let z : 8 * st * 0 ≡ 0 = omega arith in rw z (sym (lines_none a size b count st st mode across j y m o.screen))
  whole_in mode j y (suc n) m o hm hy hj =
      let from = pixel_at b st across.skip j in
      let to = pixel_at a st across.from y in
      let c : across.to - across.from ≡ 8 * st = omega arith in
      let e = line_in a b st st mode across j y m in
      let placed = lines_placed a size b count st st mode across j y n m o (omega arith) (omega arith) (omega arith) (omega arith) in
      let bytes : Bytes e = bytes_painted mode from to (across.to - across.from) m (omega (arith, o.screen)) hm in
      let rest = whole_in mode (suc j) (suc y) n e placed bytes (omega arith) (omega arith) in
      let l : 8 * st + 8 * st * n ≡ 8 * st * suc n = omega arith in
      let p : from + 8 * st ≡ pixel_at b st across.skip (suc j) = omega arith in
      let q : to + 8 * st ≡ pixel_at a st across.from (suc y) = omega arith in
      let apart : Apart to from (8 * st + 8 * st * n) = rw l (run_lies j y (suc n) m o hy hj).2 in
      let joined = bits_join mode from to (8 * st) (8 * st * n) m hm apart (omega (arith, o.screen)) (omega (arith, o.source)) in
      cc (lines_more a size b count st st mode across j y n m o (omega arith) (omega arith) (omega arith) (omega arith))

-- as wide as the lines of both: `count` pixels of a line are all of it
pub record WholeLies (a st h b k n : ℕ) (across down : Visible) (m : List ℕ) : Type 0 where
  pub some : 0 < 8 * st * (down.to - down.from)
  pub screen : pixel_at a st across.from down.from + 8 * st * (down.to - down.from) ≤ 8 * length m
  pub source : pixel_at b k across.skip down.skip + 8 * st * (down.to - down.from) ≤ 8 * length m
  pub apart : Apart (pixel_at a st across.from down.from) (pixel_at b k across.skip down.skip) (8 * st * (down.to - down.from))
  pub painted : (mode : PaintMode) → Bytes m → painted_bits mode (pixel_at b k across.skip down.skip) (pixel_at a st across.from down.from) (8 * st * (down.to - down.from)) m
      ≡ painted_in a (st * h) b (k * n) st k mode across down.skip down.from (down.to - down.from) m

pub whole_lies : (a st h b k n : ℕ) (across down : Visible) (m : List ℕ) → Placed a (st * h) b (k * n) m
    → (across.from < across.to) × (across.to ≤ 8 * st) × (across.skip + (across.to - across.from) ≤ 8 * k) × (down.from < down.to) × (down.to ≤ h) × (down.skip + (down.to - down.from) ≤ n)
    → across.to - across.from ≡ 8 * st → k ≡ st → WholeLies a st h b k n across down m
whole_lies a st h b k n across down m o i c e =
    let lines = down.to - down.from in
    let below : st * (down.from + lines) ≤ st * h = mul-le-mul_left st (omega arith) in
    let under : st * (down.skip + lines) ≤ st * n = mul-le-mul_left st (omega arith) in
    let p : Placed a (st * h) b (st * n) m = rw e at o in
    rw e
    (let lies = run_lies a (st * h) b (st * n) st across (omega arith) (omega arith) (omega arith) down.skip down.from lines m p below under in
    record {
      some = omega (arith, mul-le-mul_left {m = 1} {n = lines} (8 * st) (omega arith));
      screen = lies.0;
      source = lies.1;
      apart = lies.2;
      painted = λ mode hm. whole_in a (st * h) b (st * n) st across (omega arith) (omega arith) (omega arith) mode down.skip down.from lines m p hm below under;
    })

-- ---- the bitmap, with its marks

-- of memory m, e has the screen of st by h at a with drawing d on it, whose marks are r; all its other bytes are those of m
pub record DrawnIn (a st h : ℕ) (d : Drawing) (r : Marks) (m e : List ℕ) : Type 0 where
  pub screen : drawn r (window a (st * h) e) ≡ drawn_on st h d (window a (st * h) m)
  pub others : e ≡ with_window a (window a (st * h) e) m

-- nothing is drawn
pub none_in : (a st h : ℕ) (d : Drawing) (m : List ℕ) {r : Marks} → a + st * h ≤ length m → drawn r (window a (st * h) m) ≡ drawn_on st h d (window a (st * h) m) → DrawnIn a st h d r m m
none_in a st h d m l e = record { screen = e; others = sym (window_back a (st * h) m l) }

-- its window of memory, and the rest
window_in : (a st h : ℕ) (d : Drawing) (m e s : List ℕ) {r : Marks} → a + st * h ≤ length m → length s ≡ st * h → e ≡ with_window a s m
    → drawn r s ≡ drawn_on st h d (window a (st * h) m) → DrawnIn a st h d r m e
window_in a st h d m e s l n w g =
    let here : window a (st * h) e ≡ s = cc (window_same a (st * h) s m n l) in
    record { screen = rw here g; others = rw here w }

module _ (a st h b w n : ℕ) (x y : ℤ) (mode : PaintMode) (m : List ℕ) where
  abbrev bitmap_in : Drawing
  bitmap_in = bitmap st h (window b (source_bytes w n) m) x y w n mode

  -- a bitmap's lines painted, and its marks
  pub painted-in : (e : List ℕ) {across down : Visible} {r : Marks} → a + st * h ≤ length m → across ≡ visible x w (8 * st) → down ≡ visible y n h
      → across.from < across.to → down.from < down.to → r ≡ both (visible_mark across down)
      → e ≡ painted_in a (st * h) b (source_bytes w n) st (source_stride w) mode across down.skip down.from (down.to - down.from) m → DrawnIn a st h bitmap_in r m e
  painted-in e {across} {down} l p q u v f g =
      let source = window b (source_bytes w n) m in
      let s = window a (st * h) m in
      let ws = painted_lines (source_stride w) source mode across down.skip down.from (down.to - down.from) in
      window_in a st h bitmap_in m e (draw st ws s) l (length-draw st ws s ∙ length-window a (st * h) m l) g (bitmap-painted st h source x y w n mode s p q (draw st ws s) u v f refl)

-- of memory m, a screen of n bytes at a and a source of c bytes at b were copied to the first bytes of z, one after the other: e
pub record Copied (a n b c : ℕ) (m z e : List ℕ) : Type 0 where
  pub long : length e ≡ length z
  pub screen_is : window 0 n e ≡ window a n m
  pub source_is : window n c e ≡ window b c m

pub copied : (a n b c : ℕ) (m z e₁ e₂ : List ℕ) → (a + n ≤ length m) × (b + c ≤ length m) × (n + c ≤ length z)
    → e₁ ≡ with_window 0 (window a n m) z → e₂ ≡ with_window n (window b c m) e₁ → Copied a n b c m z e₂
copied a n b c m z e₁ e₂ l w₁ w₂ =
    let screen = window a n m in
    let source = window b c m in
    let l₁ : length screen ≡ n = length-window a n m l.0 in
    let l₂ : length source ≡ c = length-window b c m l.1 in
    let k₁ : length e₁ ≡ length z = ap length w₁ ∙ length-with_window 0 screen z (omega arith) in
    record {
      long = ap length w₂ ∙ length-with_window n source e₁ (omega arith) ∙ k₁;
      screen_is = cc (window_other n source e₁ 0 n (omega arith) (inl (omega arith)), window_same 0 n screen z l₁ (omega arith));
      source_is = cc (window_same n c source e₁ l₂ (omega arith));
    }

-- the copy is painted, and its screen put back
pub copied_in : (a st h b c : ℕ) (d : List ℕ → Drawing) (m z e₂ e₃ e₄ : List ℕ) {r : Marks} → a + st * h ≤ length m → st * h ≤ length e₃ → Copied a (st * h) b c m z e₂
    → DrawnIn 0 st h (d (window (st * h) c e₂)) r e₂ e₃ → e₄ ≡ with_window a (window 0 (st * h) e₃) m → DrawnIn a st h (d (window b c m)) r m e₄
copied_in a st h b c d m z e₂ e₃ e₄ l k o p w = window_in a st h (d (window b c m)) m e₄ (window 0 (st * h) e₃) l (length-window 0 (st * h) e₃ (omega arith)) w (cc (p.screen, o.screen_is, o.source_is))

-- What a panel is owed, a rectangle for each band, and what it has in hand: a mark added, the first taken, a line sent. What STATE asks of them stays after every effect, and a send
-- lowers the lines that are left.
use Rattle.std.specs.Prelude.{◌≡◌, ◌⊎◌, ◌↔◌, true, false, ◌&&◌, List, [], ◌∷◌, ℕ, zero, suc, ◌+◌, ◌-◌, ◌*◌, ◌/◌, ◌≤◌, ◌<◌, length, get_or, replicate, ltb}
use Rattle.std.proofs.Math.Path.{refl, ap}
use Rattle.std.proofs.Common.{◌∙◌, inl, inr, div-mul-le_self, div-lt_iff_lt-mul}
use Rattle.std.proofs.Math.Nat.{lt-div-mul-add}
use native.Mathlib.Omega.{arith}
use Rattle.std.proofs.lemmas.List.{length-replicate}
use Rattle.model.specs.declared.Rect.{Rect}
use Rattle.model.specs.Rects.{none, In, is_empty, join, cut, lines_of, fits}
use Rattle.model.specs.Marks.{join_owed, whole, owing}
use Rattle.model.specs.Sends.{first_owed, rest_owed, take_owed, next_line, line_sent, send_pending, line_numbers, send_numbers}
use Rattle.model.specs.Lists.{owed_lines, own_band, lines_left}
use Rattle.model.specs.Geometry.{Geometry, width, height}
use Rattle.model.specs.Record.{Pending, nothing_pending, bands_fit, pending_fits, WellPending}
use Rattle.model.specs.Open.{open_pending}
use Rattle.laws.specs.Tests.{if_cases, clash, by_test, either, tests, and-true}
use Rattle.laws.specs.Rects.{Fits, join-none, empty_none, is_some, not_in_none, in_not_none, join-left, join_right, join-fits, cut_fits, cut_outside, cut_in, Proper, fits_passes, passes_fits}

-- each rectangle lies in its band, of b lines, the first from line lo
abbrev pub BandsFit : ℕ → ℕ → ℕ → List Rect → Type 0
BandsFit w b lo [] = Unit {0}
BandsFit w b lo (r ∷ rs) = Fits w lo (lo + b) r × BandsFit w b (lo + b) rs

-- ---- a mark

pub length-join_owed : (w b lo : ℕ) (m : Rect) (rs : List Rect) → length (join_owed w b lo m rs) ≡ length rs
unfolding join_owed
length-join_owed w b lo m [] = refl
length-join_owed w b lo m (r ∷ rs) = ap suc (length-join_owed w b (lo + b) m rs)

join_owed-fits : (w b lo : ℕ) (m : Rect) (rs : List Rect) → BandsFit w b lo rs → BandsFit w b lo (join_owed w b lo m rs)
unfolding join_owed
join_owed-fits w b lo m [] f = tt
join_owed-fits w b lo m (r ∷ rs) f = (join-fits w lo (lo + b) r (cut w lo (lo + b) m) f.0 (cut_fits w lo (lo + b) m), join_owed-fits w b (lo + b) m rs f.1)

-- band i has its own part of the mark
get_d_join_owed : (w b lo : ℕ) (m : Rect) (rs : List Rect) (i : ℕ) → i < length rs → get_or (join_owed w b lo m rs) i none ≡ join (get_or rs i none) (cut w (lo + i * b) (lo + i * b + b) m)
unfolding join_owed
get_d_join_owed w b lo m [] i h = absurd (omega arith)
get_d_join_owed w b lo m (r ∷ rs) zero h = let e : lo + 0 * b ≡ lo = omega arith in rw e refl
get_d_join_owed w b lo m (r ∷ rs) (suc i) h =
    let e : lo + b + i * b ≡ lo + suc i * b = omega arith in
    get_d_join_owed w b (lo + b) m rs i (omega arith) ∙ ap (λ (k : ℕ). join (get_or rs i none) (cut w k (k + b) m)) e

-- ---- a line's own band

-- line y is one of its band's
record OwnBand (g : Geometry) (y : ℕ) : Type 0 where
  there : y / g.band < g.bands
  from : 0 + y / g.band * g.band ≤ y
  to : y < 0 + y / g.band * g.band + g.band

pub band_some : (n b y : ℕ) → y < n * b → 0 < b
band_some n zero y h = absurd (omega arith)
band_some n (suc b) y h = omega arith

own-band : (g : Geometry) (y : ℕ) → y < height g → OwnBand g y
own-band g y h =
    let s = band_some g.bands g.band y h in
    record { there = (div-lt_iff_lt-mul s).1 h; from = omega (arith, div-mul-le_self y g.band); to = omega (arith, lt-div-mul-add {a = y} s) }

module _ (g : Geometry) (m : Rect) (p : Pending) (n : length p.owed ≡ g.bands) (x y : ℕ) (h : y < height g) where
  own : own_band g (owing g m p).owed y ≡ join (own_band g p.owed y) (cut (width g) (0 + y / g.band * g.band) (0 + y / g.band * g.band + g.band) m)
  unfolding owing
  own = get_d_join_owed (width g) g.band 0 m p.owed (y / g.band) (omega (arith, own-band g y h))

  -- a mark keeps the pixels that are owed in their own band ..
  pub owing_keeps : In (own_band g p.owed y) x y → In (own_band g (owing g m p).owed y) x y
  owing_keeps i = rw own (join-left _ _ x y i)

  -- .. and adds its own
  pub owing_marks : x < width g → In m x y → In (own_band g (owing g m p).owed y) x y
  owing_marks hx i = let b = own-band g y h in rw own (join_right _ _ x y (cut_in (width g) _ _ m x y hx b.from b.to i))

-- ---- owed_lines

owed_lines-le : (w b lo : ℕ) (rs : List Rect) → BandsFit w b lo rs → owed_lines rs ≤ length rs * b
unfolding owed_lines
owed_lines-le w b lo [] f = omega arith
owed_lines-le w b lo (r ∷ rs) f = let l = owed_lines-le w b (lo + b) rs f.1 in either f.0 (λ e. omega (arith, ap lines_of e)) (λ p. omega arith)

-- a mark that ends above the bands leaves them
join_owed_outside : (w b lo : ℕ) (m : Rect) (rs : List Rect) → m.bottom ≤ lo → join_owed w b lo m rs ≡ rs
unfolding join_owed
join_owed_outside w b lo m [] h = refl
join_owed_outside w b lo m (r ∷ rs) h = cc (cut_outside w lo (lo + b) m (inr h), join-none r, join_owed_outside w b (lo + b) m rs (omega arith))

-- one within band i adds that band's lines at most
join_owed_adds : (w b lo : ℕ) (m : Rect) (rs : List Rect) (i : ℕ) → BandsFit w b lo rs → lo + i * b ≤ m.top → m.bottom ≤ lo + i * b + b
    → owed_lines (join_owed w b lo m rs) ≤ owed_lines rs + b
unfolding join_owed owed_lines
join_owed_adds w b lo m [] i f t h = omega arith
join_owed_adds w b lo m (r ∷ rs) zero f t h =
    let j = join r (cut w lo (lo + b) m) in
    let low : lines_of j ≤ b = either (join-fits w lo (lo + b) r (cut w lo (lo + b) m) f.0 (cut_fits w lo (lo + b) m)) (λ e. omega (arith, ap lines_of e)) (λ p. omega arith) in
    omega (arith, ap owed_lines (join_owed_outside w b (lo + b) m rs (omega arith)))
join_owed_adds w b lo m (r ∷ rs) (suc i) f t h =
    let same : lines_of (join r (cut w lo (lo + b) m)) ≡ lines_of r = cc (cut_outside w lo (lo + b) m (inl (omega arith)), join-none r) in
    omega (arith, join_owed_adds w b (lo + b) m rs i f.1 (omega arith) (omega arith))

-- ---- the first taken

-- q is taken and qs is left: q is empty, or a rectangle of the screen no higher than a band, and its lines are taken from the sum
record Taken (w b lo hi : ℕ) (rs : List Rect) (q : Rect) (qs : List Rect) : Type 0 where
  count : length qs ≡ length rs
  rest : BandsFit w b lo qs
  first : Fits w 0 hi q
  low : lines_of q ≤ b
  sum : lines_of q + owed_lines qs ≡ owed_lines rs

taken : (w b lo hi : ℕ) (rs : List Rect) → BandsFit w b lo rs → lo + length rs * b ≤ hi → Taken w b lo hi rs (first_owed rs) (rest_owed rs)
unfolding first_owed rest_owed owed_lines
taken w b lo hi [] f l = record { count = refl; rest = tt; first = inl refl; low = omega arith; sum = refl }
taken w b lo hi (r ∷ rs) f l =
    by_test (is_empty r)
    (λ e. let t = taken w b (lo + b) hi rs f.1 (omega arith) in
    rw e (record { count = ap suc t.count; rest = (f.0, t.rest); first = t.first; low = t.low; sum = omega arith }))
    (λ e. let p = is_some w lo (lo + b) r f.0 e in
    rw e (record { count = refl; rest = (inl refl, f.1); first = inr (omega arith); low = omega arith; sum = omega arith }))

-- and no pixel is lost
pub in_split : (rs : List Rect) (i x y : ℕ) → In (get_or rs i none) x y → In (first_owed rs) x y ⊎ In (get_or (rest_owed rs) i none) x y
unfolding first_owed rest_owed
in_split [] i x y k = absurd (not_in_none x y k)
in_split (r ∷ rs) zero x y k = rw (in_not_none r x y k) (inl k)
in_split (r ∷ rs) (suc i) x y k = by_test (is_empty r) (λ e. rw e (in_split rs i x y k)) (λ e. rw e (inr k))

-- a pixel that is owed is one of a line that is owed
pub in_lines : (rs : List Rect) (i x y : ℕ) → In (get_or rs i none) x y → 0 < owed_lines rs
unfolding owed_lines
in_lines [] i x y k = absurd (not_in_none x y k)
in_lines (r ∷ rs) zero x y k = omega arith
in_lines (r ∷ rs) (suc i) x y k = omega (arith, in_lines rs i x y k)

-- nothing is taken only where nothing is owed
first-none : (rs : List Rect) → is_empty (first_owed rs) ≡ true → (owed_lines rs ≡ 0) × (rest_owed rs ≡ rs)
unfolding first_owed rest_owed owed_lines
first-none [] t = (refl, refl)
first-none (r ∷ rs) t =
    by_test (is_empty r)
    (λ e. let k = first-none rs (rw e at t) in rw e (omega (arith, k.0, ap lines_of (empty_none r e)), cc))
    (λ e. clash (is_empty r) (rw e at t) e)

-- ---- an empty mark adds nothing

pub join_owed-none : (w b lo : ℕ) (rs : List Rect) → join_owed w b lo none rs ≡ rs
join_owed-none w b lo rs = join_owed_outside w b lo none rs (omega arith)

-- ---- what STATE asks of a panel's owed and in hand, as facts

bands_in : (w b lo : ℕ) (rs : List Rect) → bands_fit w b lo rs ≡ true → BandsFit w b lo rs
unfolding bands_fit
bands_in w b lo [] e = tt
bands_in w b lo (r ∷ rs) e =
    let p = and-true (fits w lo (lo + b) r) (bands_fit w b (lo + b) rs) e in
    (passes_fits w lo (lo + b) r p.0, bands_in w b (lo + b) rs p.1)

bands_out : (w b lo : ℕ) (rs : List Rect) → BandsFit w b lo rs → bands_fit w b lo rs ≡ true
unfolding bands_fit
bands_out w b lo [] f = refl
bands_out w b lo (r ∷ rs) f = rw (fits_passes w lo (lo + b) r f.0) (bands_out w b (lo + b) rs f.1)

module _ (g : Geometry) (p : Pending) where
  pub owed_fits : WellPending g p → BandsFit (width g) g.band 0 p.owed
  unfolding pending_fits
  owed_fits w = bands_in (width g) g.band 0 p.owed (and-true (bands_fit (width g) g.band 0 p.owed) (fits (width g) 0 (height g) p.hand) w.passes).0

  pub hand_fits : WellPending g p → Fits (width g) 0 (height g) p.hand
  unfolding pending_fits
  hand_fits w = passes_fits (width g) 0 (height g) p.hand (and-true (bands_fit (width g) g.band 0 p.owed) (fits (width g) 0 (height g) p.hand) w.passes).1

  pub well_pending : length p.owed ≡ g.bands → BandsFit (width g) g.band 0 p.owed → Fits (width g) 0 (height g) p.hand → p.sent < 4294967296
      → WellPending g p
  unfolding pending_fits
  well_pending n o h c = record { passes = λ i. bands_out (width g) g.band 0 p.owed o i && fits_passes (width g) 0 (height g) p.hand h i; bands = n; counted = c }

-- ---- a mark

pub well_owing : (g : Geometry) (m : Rect) (p : Pending) → WellPending g p → WellPending g (owing g m p)
unfolding owing
well_owing g m p w =
    well_pending g (owing g m p) (length-join_owed (width g) g.band 0 m p.owed ∙ w.bands)
    (join_owed-fits (width g) g.band 0 m p.owed (owed_fits g p w)) (hand_fits g p w) w.counted

-- a mark within one band adds that band's lines to those that are left, at most
pub owing_adds : (g : Geometry) (m : Rect) (i : ℕ) (p : Pending) → WellPending g p → i * g.band ≤ m.top → m.bottom ≤ i * g.band + g.band → lines_left (owing g m p) ≤ lines_left p + g.band
unfolding owing lines_left
owing_adds g m i p w t h = omega (arith, join_owed_adds (width g) g.band 0 m p.owed i (owed_fits g p w) (omega arith) (omega arith))

bands_none : (w b lo n : ℕ) → BandsFit w b lo (replicate n none)
bands_none w b lo zero = tt
bands_none w b lo (suc n) = (inl refl, bands_none w b (lo + b) n)

pub well_nothing : (g : Geometry) → WellPending g (nothing_pending g)
unfolding nothing_pending
well_nothing g = well_pending g (nothing_pending g) (length-replicate g.bands none) (bands_none (width g) g.band 0 g.bands) (inl refl) (omega arith)

pub well_open : (g : Geometry) → WellPending g (open_pending g)
unfolding open_pending
well_open g = well_owing g (whole g.stride (height g)) (nothing_pending g) (well_nothing g)

-- ---- a send

module _ (g : Geometry) (p : Pending) (w : WellPending g p) where
  -- owed moves into hand: at most a band's lines are in hand then, and as many lines are left
  moved : WellPending g (take_owed p) × (lines_of p.hand ≤ g.band - 1 → lines_of (take_owed p).hand ≤ g.band) × (lines_left (take_owed p) ≡ lines_left p)
  unfolding take_owed lines_left
  moved =
      let t = taken (width g) g.band 0 (height g) p.owed (owed_fits g p w) (rw w.bands (omega arith)) in
      let new = well_pending g (record { owed = rest_owed p.owed; hand = first_owed p.owed; sent = p.sent }) (t.count ∙ w.bands) t.rest t.first w.counted in
      if_cases (λ (q : Pending). WellPending g q × (lines_of p.hand ≤ g.band - 1 → lines_of q.hand ≤ g.band) × (lines_left q ≡ lines_left p)) (is_empty p.hand)
      (λ e. (new, λ l. t.low, omega (arith, ap lines_of (empty_none p.hand e)))) (λ e. (w, λ l. omega arith, refl))

  pub well_take : WellPending g (take_owed p)
  well_take = moved.0

  -- what is in hand then is a rectangle with a line, where it is not empty
  pub to-send : is_empty (take_owed p).hand ≡ false → Proper (width g) 0 (height g) (take_owed p).hand
  to-send e = is_some (width g) 0 (height g) (take_owed p).hand (hand_fits g (take_owed p) well_take) e

  -- and loses its line
  next : is_empty (take_owed p).hand ≡ false → Fits (width g) 0 (height g) (next_line (take_owed p).hand) × (lines_of (next_line (take_owed p).hand) + 1 ≡ lines_of (take_owed p).hand)
  unfolding next_line
  next e =
      let r = (take_owed p).hand in
      let k = to-send e in
      if_cases (λ (q : Rect). Fits (width g) 0 (height g) q × (lines_of q + 1 ≡ lines_of r)) (ltb (r.top + 1) r.bottom)
      (λ t. (inr (omega (arith, tests)), omega (arith, tests))) (λ t. (inl refl, omega (arith, tests)))

  -- the count of lines stays in its four bytes
  pub well_send : WellPending g (send_pending p)
  unfolding send_pending line_sent
  well_send =
      if_cases (WellPending g) (is_empty (take_owed p).hand) (λ e. w)
      (λ e. well_pending g (line_sent (take_owed p)) well_take.bands (owed_fits g (take_owed p) well_take) (next e).0 (omega arith))

  pub low_send : lines_of p.hand ≤ g.band - 1 → lines_of (send_pending p).hand ≤ g.band - 1
  unfolding send_pending line_sent
  low_send l = if_cases (λ (q : Pending). lines_of q.hand ≤ g.band - 1) (is_empty (take_owed p).hand) (λ e. l) (λ e. omega (arith, (next e).1, moved.1 l))

  -- nothing to send: no line is left, and what is owed stays
  pub none_left : is_empty (take_owed p).hand ≡ true → (lines_left p ≡ 0) × ((take_owed p).owed ≡ p.owed)
  unfolding take_owed lines_left
  none_left t =
      by_test (is_empty p.hand)
      (λ e. let k = first-none p.owed (rw e at t) in rw e (omega (arith, k.0, ap lines_of (empty_none p.hand e)), k.1))
      (λ e. clash (is_empty p.hand) (rw e at t) e)

  -- a send lowers the lines that are left by one, as long as there are any
  pub lines_send : lines_left (send_pending p) ≡ lines_left p - 1
  unfolding send_pending line_sent lines_left
  lines_send =
      if_cases (λ (q : Pending). lines_left q ≡ lines_left p - 1) (is_empty (take_owed p).hand)
      (λ e. omega (arith, (none_left e).0)) (λ e. omega (arith, (next e).1, moved.2))

  -- the answer: four zeros exactly where no line is left
  pub idle_iff : (send_numbers p ≡ 0 ∷ 0 ∷ 0 ∷ 0 ∷ []) ↔ (lines_left p ≡ 0)
  unfolding send_numbers line_numbers lines_left
  idle_iff =
      by_test (is_empty (take_owed p).hand)
      (λ e. rw e (λ x. (none_left e).0, λ z. refl))
      (λ e. rw e (λ x. cc, λ z. absurd (omega (arith, to-send e, moved.2))))

  -- how many lines are left at most
  pub lines_bound : lines_of p.hand ≤ g.band - 1 → lines_left p ≤ (g.band - 1) + height g
  unfolding lines_left
  lines_bound l = omega (arith, owed_lines-le (width g) g.band 0 p.owed (owed_fits g p w), ap (λ (n : ℕ). n * g.band) w.bands)

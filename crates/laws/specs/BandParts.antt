-- A mark's part in one band of what a panel is owed; the parts in all bands, one after another, are the whole mark.
use Rattle.std.specs.Prelude.{◌≡◌, refl, List, [], ◌∷◌, ◌++◌, ℕ, zero, suc, ◌+◌, ◌*◌, ◌<◌, length, get_or, set}
use Rattle.std.proofs.Common.{◌∙◌, arith, length-set, length-append}
use Rattle.std.proofs.lemmas.List.{set_at, get_or_at}
use Rattle.std.proofs.Math.Seq.{append_snoc}
use Rattle.model.specs.declared.Rect.{Rect}
use Rattle.model.specs.Rects.{none, join, cut}
use Rattle.model.specs.Marks.{join_owed, owing}
use Rattle.model.specs.Geometry.{Geometry, width}
use Rattle.model.specs.Record.{Pending, WellPending}
use Rattle.laws.specs.Rects.{Fits, join-whole, join-fits, cut_fits}
use Rattle.laws.specs.Bands.{BandsFit, owed_fits, hand_fits, well_pending}

-- ---- one band

-- the rectangle of one band, and another in its place
bands_at : (w b lo : ℕ) (rs : List Rect) (i : ℕ) → i < length rs → BandsFit w b lo rs → Fits w (lo + i * b) (lo + i * b + b) (get_or rs i none)
bands_at w b lo [] i h f = absurd (omega arith)
bands_at w b lo (r ∷ rs) zero h f = let e : lo + 0 * b ≡ lo = omega arith in rw e f.0
bands_at w b lo (r ∷ rs) (suc i) h f = let e : lo + suc i * b ≡ lo + b + i * b = omega arith in rw e (bands_at w b (lo + b) rs i (omega arith) f.1)

bands_set : (w b lo : ℕ) (rs : List Rect) (i : ℕ) (q : Rect) → i < length rs → Fits w (lo + i * b) (lo + i * b + b) q → BandsFit w b lo rs → BandsFit w b lo (set rs i q)
bands_set w b lo [] i q h n f = absurd (omega arith)
bands_set w b lo (r ∷ rs) zero q h n f = let e : lo + 0 * b ≡ lo = omega arith in (rw e at n, f.1)
bands_set w b lo (r ∷ rs) (suc i) q h n f = let e : lo + suc i * b ≡ lo + b + i * b = omega arith in (f.0, bands_set w b (lo + b) rs i q (omega arith) (rw e at n) f.1)

-- the part of a mark in band i
abbrev pub band_part : Geometry → Rect → ℕ → Rect
band_part g m i = cut (width g) (i * g.band) (i * g.band + g.band) m

-- it is joined to what a panel is owed there
unfoldable pub owing_in : Geometry → Rect → ℕ → Pending → Pending
owing_in g m i p = record { owed = set p.owed i (join (get_or p.owed i none) (band_part g m i)); hand = p.hand; sent = p.sent }

pub well_in : (g : Geometry) (m : Rect) (i : ℕ) → i < g.bands → (p : Pending) → WellPending g p → WellPending g (owing_in g m i p)
unfolding owing_in
well_in g m i h p w =
    let f = owed_fits g p w in
    let there : i < length p.owed = omega (arith, w.bands) in
    let e : 0 + i * g.band ≡ i * g.band = omega arith in
    let stands = bands_at (width g) g.band 0 p.owed i there f in
    let new = join-fits (width g) (i * g.band) (i * g.band + g.band) (get_or p.owed i none) (band_part g m i) (rw e at stands) (cut_fits (width g) (i * g.band) (i * g.band + g.band) m) in
    well_pending g (owing_in g m i p) (length-set p.owed i _ ∙ w.bands) (bands_set (width g) g.band 0 p.owed i _ there (rw e new) f) (hand_fits g p w) w.counted

-- where the mark has the whole band, that is what is owed there
abbrev pub whole_band : Geometry → ℕ → Rect
whole_band g i = record { left = 0; top = i * g.band; right = width g; bottom = i * g.band + g.band }

pub join_band : (g : Geometry) (i : ℕ) → 0 < width g → 0 < g.band → i < g.bands → (p : Pending) → WellPending g p → join (get_or p.owed i none) (whole_band g i) ≡ whole_band g i
join_band g i a b h p w =
    let e : 0 + i * g.band ≡ i * g.band = omega arith in
    let stands = bands_at (width g) g.band 0 p.owed i (omega (arith, w.bands)) (owed_fits g p w) in
    join-whole (width g) (i * g.band) (i * g.band + g.band) (get_or p.owed i none) a (omega arith) (rw e at stands)

-- ---- all bands

-- the parts in the bands from i on, n of them, one after another
unfoldable pub owing_from : Geometry → Rect → ℕ → ℕ → Pending → Pending
owing_from g m i zero p = p
owing_from g m i (suc n) p = owing_from g m (suc i) n (owing_in g m i p)

from_owed : (g : Geometry) (m : Rect) (a b : List Rect) (i : ℕ) (p : Pending) → p.owed ≡ a ++ b → length a ≡ i
    → owing_from g m i (length b) p ≡ record { owed = a ++ join_owed (width g) g.band (i * g.band) m b; hand = p.hand; sent = p.sent }
unfolding owing_from owing_in join_owed
from_owed g m a [] i p e n = λ j. record { owed = e j; hand = p.hand; sent = p.sent }
from_owed g m a (q ∷ b) i p e n =
    let new = join q (band_part g m i) in
    let next : suc i * g.band ≡ i * g.band + g.band = omega arith in
    let here : (owing_in g m i p).owed ≡ (a ++ (new ∷ [])) ++ b = cc (set_at a q b new i n, get_or_at a q b none i n, append_snoc a new b) in
    cc (from_owed g m (a ++ (new ∷ [])) b (suc i) (owing_in g m i p) here (omega (arith, length-append a (new ∷ []))), append_snoc a new (join_owed (width g) g.band (i * g.band + g.band) m b))

-- in all of them: the whole mark
pub owing_bands : (g : Geometry) (m : Rect) (p : Pending) → length p.owed ≡ g.bands → owing_from g m 0 g.bands p ≡ owing g m p
unfolding owing
owing_bands g m p n = let e : 0 * g.band ≡ 0 = omega arith in cc (from_owed g m [] p.owed 0 p refl refl)

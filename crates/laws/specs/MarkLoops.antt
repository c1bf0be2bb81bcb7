-- The loops that mark the panels, with the glass by value: over the panels in one band, and over the bands.
use Rattle.std.specs.Prelude.{◌≡◌, refl, true, false, eqb, leb, length}
use Rattle.std.proofs.Math.Path.{sym, ap}
use Rattle.std.proofs.Common.{◌∙◌, div-mul-le_self, lt_of_mul-lt-mul_right, add-one}
use mathlib.Core.List.{List, [], ◌∷◌, map}
use Prim.Native.Nat.{ℕ, suc, ◌+◌, ◌-◌, ◌*◌, ◌/◌, ◌<◌, ◌≤◌, min}
use Rattle.std.proofs.Math.Nat.{mul-le-mul_right}
use native.Mathlib.Omega.{arith}
use Rattle.model.specs.declared.Rect.{Rect}
use Rattle.model.specs.declared.glass.Glass.{Glass}
use Rattle.model.specs.Geometry.{Geometry, width}
use Rattle.model.specs.Glass.{geometry}
use Rattle.model.specs.Rects.{is_empty, cut, every}
use Rattle.model.specs.Record.{panel, at, record_bytes, Pending, State, decode, encode, panel_of, nothing_pending, with_panels}
use Rattle.model.specs.Marks.{owing, owing_each}
use Rattle.laws.specs.Tests.{tests, by_lt, all_true}
use Rattle.laws.specs.Rects.{rect_equal, in_not_none, cut-whole}
use Rattle.laws.specs.ListLaws.{map-map, map_same, map_agree}
use Rattle.laws.specs.Record.{Passing, encode-decode, well_sized}
use Rattle.laws.specs.States.{well_formed}
use Rattle.laws.specs.Bands.{band_some}
use Rattle.laws.specs.BandParts.{band_part, owing_in, whole_band, owing_from, owing_bands}
use Rattle.laws.specs.Panels.{panel_room}
use Rattle.laws.specs.Marking.{each_from, BandMarked, skip_above, skip_below}

-- ---- the loop over the panels, in one band: those from k on are to come

pub record Owing (g : Geometry) (i : ℕ) (f : ℕ → List ℕ → List ℕ) (r₀ r : List ℕ) (panels k : ℕ) : Type 0 where
  pub counted : panels ≡ g.panels
  pub some : k ≤ panels
  pub sized : length r ≡ length r₀
  pub same : each_from g i f k (panels - k) r ≡ each_from g i f 0 g.panels r₀

pub owe_room : (v : Glass) (r : List ℕ) {i k a : ℕ} → length r ≡ record_bytes (geometry v) → i < v.bands → k < v.panels → a ≡ at (geometry v) (panel k)
    → a + 8 * i + 8 ≤ length r
owe_room v r {k = k} n h j e = let p = panel_room v k j in let z = v.suits in omega arith

pub owe_starts : (g : Geometry) (i : ℕ) (f : ℕ → List ℕ → List ℕ) (r : List ℕ) (panels : ℕ) → panels ≡ g.panels → Owing g i f r r panels 0
owe_starts g i f r panels c = let e : panels - 0 ≡ g.panels = omega arith in record { counted = c; some = omega arith; sized = refl; same = rw e refl }

pub owe_goes : {g : Geometry} {i : ℕ} {f : ℕ → List ℕ → List ℕ} {r₀ r : List ℕ} {panels k a c : ℕ} {r' : List ℕ} → Owing g i f r₀ r panels k → k < panels → length r' ≡ length r
    → a ≡ at g (panel k) → c ≡ a + 8 * i → r' ≡ f c r → Owing g i f r₀ r' panels (k + 1)
unfolding each_from
owe_goes {panels = panels} {k} j h n e b f =
    let left : panels - k ≡ suc (panels - (k + 1)) = omega arith in
    record { counted = j.counted; some = omega arith; sized = n ∙ j.sized; same = cc (add-one k) }

pub owe_ends : {g : Geometry} {i : ℕ} {f : ℕ → List ℕ → List ℕ} {r₀ r : List ℕ} {panels k : ℕ} → Owing g i f r₀ r panels k → panels ≤ k → r ≡ each_from g i f 0 g.panels r₀
unfolding each_from
owe_ends {panels = panels} {k} j h = let z : panels - k ≡ 0 = omega arith in cc

-- ---- the loop over the bands: the one from line lo on, band i, is the next

-- the record r with the parts of m in the bands from i on, n of them, owed to each panel
abbrev owed_after : Geometry → Rect → ℕ → ℕ → List ℕ → State
owed_after g m i n r = with_panels (map (owing_from g m i n) (decode g r).panels) (decode g r)

-- of a screen of so many lines
pub record Marking (g : Geometry) (lines : ℕ) (m : Rect) (r₀ r : List ℕ) (bottom lo i : ℕ) : Type 0 where
  pub line : lo ≡ i * g.band
  pub end : bottom ≡ min m.bottom lines
  pub passing : Passing g r
  pub sized : length r ≡ length r₀
  pub same : owed_after g m i (g.bands - i) r ≡ owing_each g m (decode g r₀)

pub glass_band : (v : Glass) → 0 < v.band
glass_band v = let z = v.suits in band_some v.bands v.band 0 (omega (arith, z.glass.row, z.glass.filled))

-- a band's lines are the glass's
pub band_low : (v : Glass) (i lo : ℕ) → i < v.bands → lo ≡ i * v.band → lo + v.band ≤ 256
band_low v i lo h e = let t : suc i * v.band ≤ v.bands * v.band = mul-le-mul_right v.band h in omega (arith, v.suits.glass.high)

pub is_part : (v : Glass) (m : Rect) (i : ℕ) {lo hi : ℕ} {q : Rect} → lo ≡ i * v.band → hi ≡ lo + v.band → q ≡ cut v.width lo hi m → q ≡ band_part (geometry v) m i
is_part v m i e f g = cc v.suits.is_width

pub is_band : (v : Glass) (i : ℕ) {lo hi : ℕ} → lo ≡ i * v.band → hi ≡ lo + v.band → record { left = 0; top = lo; right = v.width; bottom = hi } ≡ whole_band (geometry v) i
is_band v i e f = rect_equal refl e v.suits.is_width (f ∙ ap (λ (n : ℕ). n + v.band) e)

-- and has a pixel
pub band_full : (v : Glass) (lo : ℕ) {hi : ℕ} → hi ≡ lo + v.band → is_empty (record { left = 0; top = lo; right = v.width; bottom = hi }) ≡ false
band_full v lo {hi} e = let z = v.suits in in_not_none (record { left = 0; top = lo; right = v.width; bottom = hi }) 0 lo (omega (arith, z.is_width, z.glass.columns, glass_band v))

-- a part is its whole band where the mark has all of it
pub is_whole : (v : Glass) (m : Rect) (i : ℕ) {lo hi : ℕ} → lo ≡ i * v.band → hi ≡ lo + v.band
    → every (eqb m.left 0 ∷ leb v.width m.right ∷ leb m.top lo ∷ leb hi m.bottom ∷ []) ≡ true → band_part (geometry v) m i ≡ whole_band (geometry v) i
is_whole v m i {lo} {hi} e f t =
    let g = geometry v in
    let z = v.suits in
    let a = all_true (eqb m.left 0 ∷ leb v.width m.right ∷ leb m.top lo ∷ leb hi m.bottom ∷ []) t in
    let w = z.is_width in
    cut-whole (width g) (i * g.band) (i * g.band + g.band) m (omega (arith, z.glass.columns)) (omega (arith, glass_band v)) (omega (arith, tests)) (omega (arith, tests)) (omega (arith, tests)) (omega (arith, tests))

-- the first band that is marked is that of the mark's top line
pub mark_starts : (g : Geometry) (lines : ℕ) (m : Rect) (r : List ℕ) {bottom first : ℕ} → Passing g r → bottom ≡ min m.bottom lines → first ≡ m.top / g.band
    → Marking g lines m r r bottom (first * g.band) first
unfolding owing_from
mark_starts g lines m r {first = first} p e f =
    let s = decode g r in
    let top : first * g.band ≤ m.top = rw f (div-mul-le_self m.top g.band) in
    let start : (q : Pending) → owing_from g m first (g.bands - first) q ≡ owing_from g m 0 g.bands q = λ q.
    by_lt first g.bands
    (λ h. let a : first + (g.bands - first) ≡ g.bands = omega arith in
    let c : 0 + first ≡ first = omega arith in cc (skip_above g m first 0 (g.bands - first) q (omega arith)))
    (λ h. let a : g.bands - first ≡ 0 = omega arith in
    let low : g.bands * g.band ≤ first * g.band = mul-le-mul_right g.band h in
    let c : g.bands + 0 ≡ g.bands = omega arith in cc (skip_above g m g.bands 0 0 q (omega arith))) in
    record {
      line = refl;
      end = e;
      passing = p;
      sized = refl;
      same = ap (λ (ps : List Pending). with_panels ps s)
          (map_agree (owing_from g m first (g.bands - first)) (owing g m) s.panels (nothing_pending g)
          (λ k h. start (panel_of g s k) ∙ owing_bands g m (panel_of g s k) ((well_sized g s (well_formed g r p)).owed k)));
    }

module _ (v : Glass) {m : Rect} {r₀ r : List ℕ} {bottom lo i : ℕ} (k : Marking (geometry v) v.height m r₀ r bottom lo i) where
  -- the next is there, and its lines are the glass's
  pub band_there : lo < bottom → i < v.bands
  band_there h = lt_of_mul-lt-mul_right v.band (omega (arith, k.line, k.end, v.suits.is_height))

  pub band_ends : lo < bottom → lo + v.band ≤ 256
  band_ends h = band_low v i lo (band_there h) k.line

  pub mark_goes : {hi : ℕ} {r' : List ℕ} → lo < bottom → hi ≡ lo + v.band → length r' ≡ length r → BandMarked (geometry v) m i r r' → Marking (geometry v) v.height m r₀ r' bottom hi (i + 1)
  unfolding owing_from
  mark_goes h e l b =
      let g = geometry v in
      let s = decode g r in
      let n = v.bands - (i + 1) in
      let there = band_there h in
      let left : v.bands - i ≡ suc n = omega arith in
      record {
        line = omega (arith, k.line);
        end = k.end;
        passing = b.passing;
        sized = l ∙ k.sized;
        same = ap (λ (x : State). with_panels (map (owing_from g m (i + 1) n) x.panels) x) b.state ∙ ap (λ (ps : List Pending). with_panels ps s) (map-map (owing_from g m (i + 1) n) (owing_in g m i) s.panels)
            ∙ ap (λ (j : ℕ). with_panels (map (λ x. owing_from g m j n (owing_in g m i x)) s.panels) s) (add-one i) ∙ ap (λ (j : ℕ). with_panels (map (owing_from g m i j) s.panels) s) (sym left) ∙ k.same;
      }

  pub mark_ends : bottom ≤ lo → r ≡ encode (geometry v) (owing_each (geometry v) m (decode (geometry v) r₀))
  unfolding owing_from
  mark_ends h =
      let g = geometry v in
      let s = decode g r in
      let rest : (p : Pending) → owing_from g m i (v.bands - i) p ≡ p = λ p.
      by_lt i v.bands
      (λ j. let t : suc i * v.band ≤ v.bands * v.band = mul-le-mul_right v.band j in
      let some = glass_band v in
      skip_below g m (v.bands - i) i p (omega (arith, k.line, k.end, v.suits.is_height)))
      (λ j. let e : v.bands - i ≡ 0 = omega arith in cc) in
      sym (encode-decode g r k.passing) ∙ ap (λ (ps : List Pending). encode g (with_panels ps s)) (sym (map_same (owing_from g m i (v.bands - i)) s.panels rest)) ∙ ap (encode g) k.same

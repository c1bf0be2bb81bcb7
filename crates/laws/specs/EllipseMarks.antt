-- Ellipses: the mark passes STATE, no write on the screen lies outside what is owed, a shape that RADIUS lets pass is never ENDLESS, and the code draws what is defined.
use Rattle.std.specs.Prelude.{◌≡◌, refl, Bool, cond, ◌||◌, ℕ, ◌+◌, ◌-◌, ◌*◌, ◌≤◌, ◌<◌, max, ltb, leb, eqb}
use Rattle.std.proofs.Math.Path.{sym}
use Rattle.std.proofs.Common.{ap, ap₂, ◌∙◌, inl, inr, arith, le-ltb}
use Rattle.std.proofs.Math.Bool.{true, false}
use mathlib.Core.List.{List, [], ◌∷◌, ◌++◌}
use Rattle.model.specs.declared.Rect.{Rect}
use Rattle.model.specs.declared.Edge.{Edge}
use Rattle.model.specs.declared.Edge.TheVariants.{Clamp}
use Rattle.model.specs.declared.DrawMode.{DrawMode}
use Rattle.model.specs.Pixels.{PixelWrite, on_screen, seen, draw}
use Rattle.model.specs.Rects.{none, fits, In}
use Rattle.model.specs.Marks.{whole, within, owes, drawn, drawn_on}
use Rattle.model.specs.Points.{point, point_write}
use Rattle.model.specs.Ellipses.{Part, parts, up, down, corners, chord, chords, part_writes, parts_writes, wraps, ellipse_mark, ellipse_drawn, is_point, is_nothing, ellipse, radii_fit, steps_fit, part}
use Rattle.model.specs.declared.Marks.{Marks}
use Rattle.model.specs.Lines.{clamped, horizontal, owed_by}
use Rattle.laws.specs.Tests.{tests, if_cases, by_test, either, and-true, and-false, or_right, neither, clash}
use Rattle.laws.specs.Rects.{fits_passes}
use Rattle.laws.specs.Pixels.{Each}
use Rattle.laws.specs.Writes.{within_none, within_more, within-append, within-seen, OwesItsMark, drawn-append}
use Rattle.laws.specs.Points.{on_true, point-within, point-fits, both, marks_by}
use Rattle.laws.specs.Lines.{horizontal-within, owed_holds, solid, horizontal-solid, solid_known}
use Rattle.laws.specs.Ellipses.{Round, Inner, parts_in, never_endless}
use Rattle.laws.specs.EllipseWalks.{painted}

-- ---- the mark

-- no radius exceeds its centre, and no sum exceeds 255
pub record Inside (x y rx ry : ℕ) : Type 0 where
  pub left : rx ≤ x
  pub top : ry ≤ y
  pub right : x + rx ≤ 255
  pub bottom : y + ry ≤ 255

pub unwrapped : (x y rx ry : ℕ) → wraps x y rx ry ≡ false → Inside x y rx ry
unfolding wraps
unwrapped x y rx ry e =
    let p = neither (ltb x rx || ltb y ry) (ltb 255 (x + rx) || ltb 255 (y + ry)) e in
    let q = neither (ltb x rx) (ltb y ry) p.0 in
    let r = neither (ltb 255 (x + rx)) (ltb 255 (y + ry)) p.1 in
    omega (arith, tests)

-- the mark of an ellipse that does not wrap
abbrev around : ℕ → ℕ → ℕ → ℕ → ℕ → ℕ → Rect
around st h x y rx ry = record { left = x - rx; top = y - ry; right = max (x + rx + 1) (8 * st); bottom = max (y + ry + 1) h }

pub mark_fits : (st h x y rx ry : ℕ) → 0 < st → st ≤ 32 → 0 < h → h ≤ 256 → fits 256 0 256 (ellipse_mark st h x y rx ry) ≡ true
unfolding ellipse_mark
mark_fits st h x y rx ry a b c d =
    if_cases (λ (m : Rect). fits 256 0 256 m ≡ true) (wraps x y rx ry)
    (λ e. fits_passes 256 0 256 (whole st h) (inr (omega arith)))
    (λ e. let i = unwrapped x y rx ry e in fits_passes 256 0 256 (around st h x y rx ry) (inr (omega arith)))

-- ---- no write lies outside

-- what falls on the screen lies in whatever has all of it
whole-within : (st h : ℕ) (r : Rect) (ws : List PixelWrite) → ((x y : ℕ) → x < 8 * st → y < h → In r x y) → within r (seen st h ws) ≡ true
unfolding seen
whole-within st h r [] k = within_none r
whole-within st h r (w ∷ ws) k =
    if_cases (λ (l : List PixelWrite). within r l ≡ true) (on_screen st h w.x w.y)
    (λ e. let o = on_true st h w.x w.y e in within_more r w (seen st h ws) (k w.x w.y o.0 o.1) (whole-within st h r ws k))
    (λ e. whole-within st h r ws k)

module _ (st h : ℕ) (edge : Edge) (x y rx ry : ℕ) (d : DrawMode) (i : Inside x y rx ry) where
  chord-within : (a z : ℕ) → a ≤ rx → y - ry ≤ z → z ≤ y + ry → within (owed_by st h edge (around st h x y rx ry)) (chord st h edge x a z d) ≡ true
  unfolding chord
  chord-within a z l u v =
      rw (le-ltb (up x a) (down x a) (omega arith))
      (horizontal-within st h edge (around st h x y rx ry) (down x a) (up x a) z d (omega arith) (omega arith) (omega arith) (omega arith) (omega arith))

  part-within : (fill : Bool) (q : Part) → Inner rx ry q
      → within (cond fill (owed_by st h edge (around st h x y rx ry)) (around st h x y rx ry)) (part_writes st h edge x y fill d q) ≡ true
  unfolding part_writes chords corners
  part-within true q n =
      within-append _ (chord st h edge x q.a (down y q.b) d) (chord st h edge x q.a (up y q.b) d)
      (chord-within q.a (down y q.b) n.0 (omega arith) (omega arith)) (chord-within q.a (up y q.b) n.0 (omega arith) (omega arith))
  part-within false q n =
      within_more _ _ _ (omega arith) (within_more _ _ _ (omega arith) (within_more _ _ _ (omega arith) (within_more _ _ _ (omega arith) (within_none _))))

  parts_within : (fill : Bool) (qs : List Part) → Each (Inner rx ry) qs
      → within (cond fill (owed_by st h edge (around st h x y rx ry)) (around st h x y rx ry)) (parts_writes st h edge x y fill d qs) ≡ true
  unfolding parts_writes
  parts_within fill [] n = within_none _
  parts_within fill (q ∷ qs) n =
      within-append _ (part_writes st h edge x y fill d q) (parts_writes st h edge x y fill d qs) (part-within fill q n.0) (parts_within fill qs n.1)

-- ---- an ellipse with parts

drawn-within : (st h : ℕ) (edge : Edge) (x y rx ry : ℕ) (fill : Bool) (d : DrawMode) → Round rx ry
    → within (ellipse_drawn st h edge x y rx ry fill d).owed (seen st h (ellipse_drawn st h edge x y rx ry fill d).writes) ≡ true
unfolding ellipse_drawn ellipse_mark
drawn-within st h edge x y rx ry fill d o =
    by_test (wraps x y rx ry)
    (λ e. rw e (whole-within st h _ _ (λ x y hx hy. if_cases (λ (r : Rect). In r x y) fill (λ f. let q = owed_holds st h edge (whole st h) in omega arith) (λ f. omega arith))))
    (λ e. rw e (within-seen st h _ _ (parts_within st h edge x y rx ry d (unwrapped x y rx ry e) fill (parts rx ry) (parts_in rx ry o))))

-- ---- what RADIUS lets pass

not-both : (rx ry : ℕ) → is_point rx ry ≡ false → 0 < max rx ry
unfolding is_point
not-both rx ry e = either (and-false (eqb rx 0) (eqb ry 0) e) (λ f. omega (arith, tests)) (λ f. omega (arith, tests))

-- a point, nothing, or an ellipse that is walked
pub shape : {P : Type 0} (rx ry : ℕ) (fill : Bool) (d : DrawMode) → radii_fit rx ry fill d ≡ true → (is_point rx ry ≡ true → P)
    → (is_point rx ry ≡ false → is_nothing fill d ≡ true → P) → (is_point rx ry ≡ false → is_nothing fill d ≡ false → Round rx ry → P) → P
unfolding radii_fit
shape rx ry fill d e dot void walked =
    by_test (is_point rx ry) dot
    (λ p. by_test (is_nothing fill d) (void p)
    (λ n. let q = and-true (leb rx 127) (leb ry 127) (rw (p, n) at e) in walked p n (omega (arith, tests, not-both rx ry p))))

-- ENDLESS is never due
pub always_ends : (rx ry : ℕ) (fill : Bool) (d : DrawMode) → radii_fit rx ry fill d ≡ true → steps_fit rx ry fill d ≡ true
unfolding steps_fit
always_ends rx ry fill d e = shape rx ry fill d e (λ p. rw p) (λ p n. rw (p, n)) (λ p n o. or_right (is_point rx ry || is_nothing fill d) (never_endless rx ry o))

-- ---- every ellipse

module _ (st h : ℕ) (edge : Edge) (x y rx ry : ℕ) (fill : Bool) (d : DrawMode) where
  pub ellipse-within : radii_fit rx ry fill d ≡ true
      → within (ellipse st h edge x y rx ry fill d).owed (seen st h (ellipse st h edge x y rx ry fill d).writes) ≡ true
  unfolding ellipse point
  ellipse-within e =
      shape rx ry fill d e (λ p. rw p (point-within st h x y d)) (λ p n. rw (p, n) (within-seen st h none [] (within_none none)))
      (λ p n o. rw (p, n) (drawn-within st h edge x y rx ry fill d o))

  -- so the last clause of Marks never applies
  pub ellipse-owes : radii_fit rx ry fill d ≡ true → OwesItsMark st h (ellipse st h edge x y rx ry fill d)
  unfolding owes
  ellipse-owes e = rw (ellipse-within e)

  pub ellipse-fits : 0 < st → st ≤ 32 → 0 < h → h ≤ 256 → x < 256 → y < 256 → fits 256 0 256 (ellipse st h edge x y rx ry fill d).dirty ≡ true
  unfolding ellipse ellipse_drawn point
  ellipse-fits a b c e hx hy =
      by_test (is_point rx ry)
      (λ p. rw p (point-fits st h x y hx hy))
      (λ p. by_test (is_nothing fill d)
      (λ n. rw (p, n) (fits_passes 256 0 256 none (inl refl)))
      (λ n. rw (p, n) (mark_fits st h x y rx ry a b c e)))

-- Ellipses as the code draws and marks them: each law's premises are what the functions below ensure and what the branches say.

-- ---- a part

pub corners-drawn : (st h x y a b : ℕ) (d : DrawMode) (s s₁ e : List ℕ) {l r t m : ℕ} → l ≡ down x a → r ≡ up x a → t ≡ down y b → m ≡ up y b
    → s₁ ≡ draw st (seen st h (point_write l t d ∷ point_write r t d ∷ [])) s → e ≡ draw st (seen st h (point_write l m d ∷ point_write r m d ∷ [])) s₁
    → e ≡ draw st (seen st h (corners x y d (part a b))) s
unfolding corners
corners-drawn st h x y a b d s s₁ e {l} {r} {t} {m} pl pr pt pm k₁ k =
    cc (drawn-append st h (point_write l t d ∷ point_write r t d ∷ []) (point_write l m d ∷ point_write r m d ∷ []) s)

pub chord_order : (left right : ℕ) {l : ℕ} → l ≡ cond (ltb right left) 0 left → l ≤ right
chord_order left right e = rw e (if_cases (λ (n : ℕ). n ≤ right) (ltb right left) (λ t. omega arith) (λ t. omega (arith, tests)))

-- of the part (a, b): two horizontals one after the other, from f to r of the lines t and m
module _ (st h : ℕ) (edge : Edge) (x y a b : ℕ) (d : DrawMode) (s s₁ e : List ℕ) {l f r t m : ℕ}
    (pr : r ≡ up x a) (pl : l ≡ down x a) (pf : f ≡ cond (ltb r l) 0 l) (pt : t ≡ down y b) (pm : m ≡ up y b) where
  pub chords-drawn : s₁ ≡ draw st (seen st h (horizontal st h edge f r t d)) s → e ≡ draw st (seen st h (horizontal st h edge f r m d)) s₁
      → e ≡ draw st (seen st h (chords st h edge x y d (part a b))) s
  unfolding chords chord
  chords-drawn k₁ k = cc (drawn-append st h (horizontal st h edge f r t d) (horizontal st h edge f r m d) s)

  pub chords-clamped : edge ≡ Clamp → s₁ ≡ draw st (seen st h (clamped st h f r t d)) s → e ≡ draw st (seen st h (clamped st h f r m d)) s₁
      → e ≡ draw st (seen st h (chords st h edge x y d (part a b))) s
  unfolding horizontal
  chords-clamped c k₁ k = chords-drawn (rw c k₁) (rw c k)

pub part_filled : (st h : ℕ) (edge : Edge) (x y : ℕ) (d : DrawMode) (q : Part) (s e : List ℕ) {fill : Bool} → fill ≡ true
    → e ≡ draw st (seen st h (chords st h edge x y d q)) s → e ≡ draw st (seen st h (part_writes st h edge x y fill d q)) s
unfolding part_writes
part_filled st h edge x y d q s e f k = rw f k

pub part-outlined : (st h : ℕ) (edge : Edge) (x y : ℕ) (d : DrawMode) (q : Part) (s e : List ℕ) {fill : Bool} → fill ≡ false
    → e ≡ draw st (seen st h (corners x y d q)) s → e ≡ draw st (seen st h (part_writes st h edge x y fill d q)) s
unfolding part_writes
part-outlined st h edge x y d q s e f k = rw f k

-- ---- a filled one is the same in Unknown and in Xor

parts-solid : (st h : ℕ) (edge : Edge) (x y : ℕ) (d : DrawMode) (qs : List Part) → parts_writes st h edge x y true (solid d) qs ≡ parts_writes st h edge x y true d qs
unfolding parts_writes part_writes chords chord
parts-solid st h edge x y d [] = refl
parts-solid st h edge x y d (q ∷ qs) = ap₂ ◌++◌ (ap₂ ◌++◌ (horizontal-solid st h edge _ _ _ d) (horizontal-solid st h edge _ _ _ d)) (parts-solid st h edge x y d qs)

-- an ellipse that is drawn: filled, or in a known mode
pub painted-solid : (st h : ℕ) (edge : Edge) (x y : ℕ) (fill : Bool) (d : DrawMode) (qs : List Part) (s : List ℕ) → is_nothing fill d ≡ false
    → painted st h edge x y fill (solid d) qs s ≡ painted st h edge x y fill d qs s
unfolding is_nothing
painted-solid st h edge x y true d qs s k = ap (λ (l : List PixelWrite). draw st (seen st h l) s) (parts-solid st h edge x y d qs)
painted-solid st h edge x y false d qs s k = ap (λ (m : DrawMode). painted st h edge x y false m qs s) (solid_known d k)

-- ---- marks

module _ (st h x y rx ry : ℕ) {t : Bool} {q : Rect} (screen : q ≡ whole st h) (told : t ≡ wraps x y rx ry) where
  pub mark_whole : t ≡ true → q ≡ ellipse_mark st h x y rx ry
  unfolding ellipse_mark
  mark_whole f = rw (sym told ∙ f) screen

  pub mark_around : {r b : ℕ} → t ≡ false → r ≡ max (x + rx + 1) q.right → b ≡ max (y + ry + 1) q.bottom
      → ◌≡◌ {A = Rect} (record { left = x - rx; top = y - ry; right = r; bottom = b }) (ellipse_mark st h x y rx ry)
  unfolding ellipse_mark
  mark_around f p b = rw (sym told ∙ f, p, b, screen)

pub not_wrapped : (x y rx ry : ℕ) {t : Bool} → t ≡ wraps x y rx ry → t ≡ false → Inside x y rx ry
not_wrapped x y rx ry e f = unwrapped x y rx ry (sym e ∙ f)

-- ---- the whole

-- what is left after the two early returns
pub is_round : (rx ry : ℕ) (fill : Bool) (d : DrawMode) {t u : Bool} → radii_fit rx ry fill d ≡ true → t ≡ is_point rx ry → t ≡ false → u ≡ is_nothing fill d → u ≡ false
    → Round rx ry
is_round rx ry fill d f p q n o =
    shape rx ry fill d f (λ e. clash (is_point rx ry) e (sym p ∙ q)) (λ e g. clash (is_nothing fill d) g (sym n ∙ o)) (λ e g r. r)

module _ (st h : ℕ) (edge : Edge) (x y rx ry : ℕ) (fill : Bool) (d : DrawMode) (s e : List ℕ) (m : Marks) where
  pub ellipse-point : {t : Bool} → t ≡ is_point rx ry → t ≡ true → drawn m e ≡ drawn_on st h (point st h x y d) s
      → drawn m e ≡ drawn_on st h (ellipse st h edge x y rx ry fill d) s
  unfolding ellipse
  ellipse-point p q k = rw (sym p ∙ q) k

  pub ellipse-nothing : {t u : Bool} → t ≡ is_point rx ry → t ≡ false → u ≡ is_nothing fill d → u ≡ true → m ≡ both none
      → drawn m s ≡ drawn_on st h (ellipse st h edge x y rx ry fill d) s
  unfolding ellipse drawn drawn_on owes within seen draw
  ellipse-nothing p q n o k = rw (sym p ∙ q, sym n ∙ o) (λ i. record { dirty = (k i).dirty; owed = (k i).owed; screen = s })

  -- neither a point nor nothing
  ellipse-marked : {t u : Bool} → radii_fit rx ry fill d ≡ true → t ≡ is_point rx ry → t ≡ false → u ≡ is_nothing fill d → u ≡ false
      → m.dirty ≡ ellipse_mark st h x y rx ry → m.owed ≡ cond fill (owed_by st h edge (ellipse_mark st h x y rx ry)) (ellipse_mark st h x y rx ry)
      → (k : DrawMode) → k ≡ solid d → e ≡ painted st h edge x y fill k (parts rx ry) s → drawn m e ≡ drawn_on st h (ellipse st h edge x y rx ry fill d) s
  unfolding drawn drawn_on ellipse ellipse_drawn
  ellipse-marked f p q n o a b k same w =
      let u : OwesItsMark st h (ellipse_drawn st h edge x y rx ry fill d) = rw (sym p ∙ q, sym n ∙ o) at (ellipse-owes st h edge x y rx ry fill d f) in
      let v : e ≡ painted st h edge x y fill d (parts rx ry) s = cc (painted-solid st h edge x y fill d (parts rx ry) s (sym n ∙ o)) in
      rw (sym p ∙ q, sym n ∙ o) (λ i. record { dirty = a i; owed = (b ∙ sym u) i; screen = v i })

  pub ellipse-filled : {t u : Bool} {k : DrawMode} {q : Rect} → fill ≡ true → m ≡ marks_by st h edge q → q ≡ ellipse_mark st h x y rx ry
      → radii_fit rx ry fill d ≡ true → t ≡ is_point rx ry → t ≡ false → u ≡ is_nothing fill d → u ≡ false
      → k ≡ solid d → e ≡ painted st h edge x y fill k (parts rx ry) s → drawn m e ≡ drawn_on st h (ellipse st h edge x y rx ry fill d) s
  ellipse-filled g b a f p q n o same w = ellipse-marked f p q n o ((λ i. (b i).dirty) ∙ a) (rw g ((λ i. (b i).owed) ∙ ap (owed_by st h edge) a)) _ same w

  pub ellipse-outlined : {t u : Bool} {k : DrawMode} {q : Rect} → fill ≡ false → m ≡ both q → q ≡ ellipse_mark st h x y rx ry
      → radii_fit rx ry fill d ≡ true → t ≡ is_point rx ry → t ≡ false → u ≡ is_nothing fill d → u ≡ false
      → k ≡ solid d → e ≡ painted st h edge x y fill k (parts rx ry) s → drawn m e ≡ drawn_on st h (ellipse st h edge x y rx ry fill d) s
  ellipse-outlined g b a f p q n o same w = ellipse-marked f p q n o ((λ i. (b i).dirty) ∙ a) (rw g ((λ i. (b i).owed) ∙ a)) _ same w

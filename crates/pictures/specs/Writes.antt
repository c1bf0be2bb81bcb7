-- The pixels that a list of writes changes: a write that names a pixel makes its bit what it says, one after another, and a test of the list's own places
-- finds what each pixel becomes.
use Rattle.std.specs.Prelude.{◌≡◌, refl, ◌≢◌, ◌⊎◌, Bool, true, false, cond, ◌&&◌, ◌||◌, List, [], ◌∷◌, ℕ, ◌<◌, ltb, eqb, length}
use Rattle.std.proofs.Common.{ap, ◌∙◌, arith}
use Rattle.std.proofs.Math.Logic.{inl, inr}
use Rattle.std.specs.Bool.{beq}
use Rattle.std.proofs.lemmas.Bool.{eqb-false}
use Rattle.model.specs.Pixels.{bit, on_screen, PixelWrite, write_pixel, draw}
use Rattle.laws.specs.Tests.{by_test, either, tests, clash, and-true, or_cases}
use Rattle.laws.specs.Bits.{same_bool}
use Rattle.laws.specs.Pixels.{place-lt, length-put, put_same, put_other, Each, draw_other}
use Rattle.pictures.specs.Picture.{Changed}

-- ---- what becomes of one pixel

-- w writes pixel (x, y)
unfoldable pub hits : PixelWrite → ℕ → ℕ → Bool
hits w x y = eqb x w.x && eqb y w.y

module _ (w : PixelWrite) (x y : ℕ) where
  hit : hits w x y ≡ true → (x ≡ w.x) × (y ≡ w.y)
  unfolding hits
  hit e = let p = and-true (eqb x w.x) (eqb y w.y) e in omega (arith, tests)

  miss : hits w x y ≡ false → (x ≢ w.x) ⊎ (y ≢ w.y)
  unfolding hits
  miss e = by_test (eqb x w.x) (λ p. inr (eqb-false y w.y (rw p at e))) (λ p. inl (eqb-false x w.x p))

  missed : (x ≢ w.x) ⊎ (y ≢ w.y) → hits w x y ≡ false
  missed n = by_test (hits w x y) (λ e. either n (λ k. absurd (k (hit e).0)) (λ k. absurd (k (hit e).1))) (λ e. e)

-- what the writes make of the bit v of pixel (x, y)
unfoldable pub made : List PixelWrite → ℕ → ℕ → Bool → Bool
made [] x y v = v
made (w ∷ ws) x y v = made ws x y (cond (hits w x y) (w.op v) v)

-- a write on the screen
abbrev On : PixelWrite → Type 0
On w = (w.x < 160) × (w.y < 80)

write_made : (w : PixelWrite) (s : List ℕ) (x y : ℕ) → length s ≡ 1600 → On w → x < 160
    → bit 20 (write_pixel 20 s w) x y ≡ cond (hits w x y) (w.op (bit 20 s x y)) (bit 20 s x y)
unfolding write_pixel
write_made w s x y n o hx =
    by_test (hits w x y)
    (λ e. rw (e, (hit w x y e).0, (hit w x y e).1) (put_same 20 s w.x w.y (w.op (bit 20 s w.x w.y)) (omega (arith, place-lt 20 80 w.x w.y o.0 o.1))))
    (λ e. rw e (put_other 20 s w.x w.y (w.op (bit 20 s w.x w.y)) x y o.0 hx (miss w x y e)))

draw-made : (ws : List PixelWrite) (s : List ℕ) (x y : ℕ) → length s ≡ 1600 → Each On ws → x < 160 → bit 20 (draw 20 ws s) x y ≡ made ws x y (bit 20 s x y)
unfolding draw made write_pixel
draw-made [] s x y n o hx = refl
draw-made (w ∷ ws) s x y n o hx =
    draw-made ws (write_pixel 20 s w) x y (length-put 20 s w.x w.y (w.op (bit 20 s w.x w.y)) ∙ n) o.1 hx
    ∙ ap (made ws x y) (write_made w s x y n o.0 hx)

-- ---- the test

-- two functions make the same of every bit
unfoldable pub alike : (Bool → Bool) → (Bool → Bool) → Bool
alike f g = beq (f true) (g true) && beq (f false) (g false)

alike_same : (f g : Bool → Bool) → alike f g ≡ true → (v : Bool) → f v ≡ g v
unfolding alike
alike_same f g e true = same_bool (f true) (g true) (and-true (beq (f true) (g true)) (beq (f false) (g false)) e).0
alike_same f g e false = same_bool (f false) (g false) (and-true (beq (f true) (g true)) (beq (f false) (g false)) e).1

unfoldable pub names : List PixelWrite → ℕ → ℕ → Bool
names [] x y = false
names (p ∷ ps) x y = hits p x y || names ps x y

-- a pixel that ps does not name
unnamed : (ps : List PixelWrite) (x y : ℕ) → Each (λ p. (x ≢ p.x) ⊎ (y ≢ p.y)) ps → names ps x y ≡ false
unfolding names
unnamed [] x y n = refl
unnamed (p ∷ ps) x y n = rw (missed p x y n.0) (unnamed ps x y n.1)

-- all pass the test t
unfoldable pub all_of : (PixelWrite → Bool) → List PixelWrite → Bool
all_of t [] = true
all_of t (w ∷ ws) = t w && all_of t ws

each : {P : PixelWrite → Type 0} (t : PixelWrite → Bool) (ws : List PixelWrite) → ((w : PixelWrite) → t w ≡ true → P w) → all_of t ws ≡ true → Each P ws
unfolding all_of
each t [] f e = tt
each t (w ∷ ws) f e = let p = and-true (t w) (all_of t ws) e in (f w p.0, each t ws f p.1)

-- one of ws writes pixel (x, y), or none does
hit_or_missed : {A : Type 0} (ws : List PixelWrite) (x y : ℕ) → Each On ws → Each (λ w. hits w x y ≡ true → A) ws
    → (Each (λ w. (w.x < 160) × ((x ≢ w.x) ⊎ (y ≢ w.y))) ws → A) → A
hit_or_missed [] x y o f g = g tt
hit_or_missed (w ∷ ws) x y o f g = by_test (hits w x y) f.0 (λ e. hit_or_missed ws x y o.1 f.1 (λ n. g ((o.0.0, miss w x y e), n)))

abbrev is_on : PixelWrite → Bool
is_on w = on_screen 20 80 w.x w.y

-- p lies on the screen, and ws makes it what it says
abbrev is_made : List PixelWrite → PixelWrite → Bool
is_made ws p = is_on p && alike (made ws p.x p.y) p.op

-- ps names the pixel of w, or ws leaves it as it was
abbrev is_kept : List PixelWrite → List PixelWrite → PixelWrite → Bool
is_kept ws ps w = names ps w.x w.y || alike (made ws w.x w.y) (λ v. v)

-- ws lies on the screen, makes each pixel of ps what ps says, and leaves the others
unfoldable pub pictured : List PixelWrite → List PixelWrite → Bool
pictured ws ps = all_of is_on ws && (all_of (is_made ws) ps && all_of (is_kept ws ps) ws)

-- ---- and what it shows

on : (w : PixelWrite) → is_on w ≡ true → On w
unfolding on_screen
on w e = let p = and-true (ltb w.x 160) (ltb w.y 80) e in omega (arith, tests)

pub pictured-changed : (ws ps : List PixelWrite) (s : List ℕ) → length s ≡ 1600 → pictured ws ps ≡ true → Changed ps s (draw 20 ws s)
unfolding pictured
pictured-changed ws ps s n e =
    let p = and-true (all_of is_on ws) (all_of (is_made ws) ps && all_of (is_kept ws ps) ws) e in
    let q = and-true (all_of (is_made ws) ps) (all_of (is_kept ws ps) ws) p.1 in
    let o : Each On ws = each is_on ws on p.0 in
    record {
      made = each (is_made ws) ps (λ w t.
          let r = and-true (is_on w) (alike (made ws w.x w.y) w.op) t in
          draw-made ws s w.x w.y n o (on w r.0).0 ∙ alike_same (made ws w.x w.y) w.op r.1 (bit 20 s w.x w.y)) q.0;
      others = λ x y hx hy k.
          hit_or_missed ws x y o (each (is_kept ws ps) ws (λ w t h.
          let r = hit w x y h in
          draw-made ws s x y n o hx
          ∙ either (or_cases (names ps w.x w.y) (alike (made ws w.x w.y) (λ v. v)) t)
          (λ a. clash (names ps x y) (rw (r.0, r.1) a) (unnamed ps x y k)) (λ a. rw (r.0, r.1) (alike_same (made ws w.x w.y) (λ v. v) a _))) q.1)
          (draw_other 20 ws s x y hx);
    }

-- Pixel writes: what a drawing owes, and lists of writes.
use Rattle.std.specs.Prelude.{◌≡◌, refl, ◌≢◌, ◌⊎◌, true, ◌&&◌, List, [], ◌∷◌, ◌++◌, ℕ, ◌+◌, ◌*◌, ◌/◌, ◌%◌, ◌<◌, set, length, ltb}
use Rattle.std.proofs.Common.{ap, ◌∙◌, sym, inl, inr, arith, get_or-set_other, ltb-true}
use Rattle.std.proofs.Math.Arith.{digits_div, digits_mod}
use Rattle.model.specs.declared.Rect.{Rect}
use Rattle.model.specs.Pixels.{bit, place, on_screen, PixelWrite, draw, seen, Screen, write_pixel}
use Rattle.model.specs.Rects.{In, inside}
use Rattle.model.specs.Marks.{whole, within, owes, Drawing, drawn, drawn_on}
use Rattle.model.specs.Poke.{byte_rect}
use Rattle.model.specs.declared.Marks.{Marks}
use Rattle.laws.specs.Tests.{if_cases, and-true, by_test, by_eq}
use Rattle.laws.specs.Pixels.{Each, draw_other, length-draw}
use Rattle.laws.specs.Rects.{inside_in, in_inside}

-- What a drawing owes: its mark, or the whole screen where it writes outside that.

-- two screens agree at every pixel that lies not in r
abbrev pub AgreeOutside : ℕ → ℕ → Rect → List ℕ → List ℕ → Type 0
AgreeOutside st h r s t = (x y : ℕ) → x < 8 * st → y < h → (In r x y → ⊥) → bit st t x y ≡ bit st s x y

-- anything agrees outside the whole screen
pub whole_agrees : (st h : ℕ) (s t : List ℕ) → AgreeOutside st h (whole st h) s t
whole_agrees st h s t x y hx hy n = absurd (n (omega arith))

-- a write of the screen's width that lies in r is no pixel outside r
away : (st : ℕ) (r : Rect) (ws : List PixelWrite) (x y : ℕ) → within r ws ≡ true → Each (λ w. w.x < 8 * st) ws → (In r x y → ⊥)
    → Each (λ w. (w.x < 8 * st) × ((x ≢ w.x) ⊎ (y ≢ w.y))) ws
unfolding within
away st r [] x y i e n = tt
away st r (w ∷ ws) x y i e n =
    let p = and-true (inside r w.x w.y) (within r ws) i in
    let k = inside_in r w.x w.y p.0 in
    ((e.0, by_eq x w.x (λ q. inr (λ l. n (omega arith))) inl), away st r ws x y p.1 e.1 n)

-- so a drawing changes no pixel that it does not owe: no geometry of any shape is needed
pub owes_agrees : (st h : ℕ) (m : Rect) (ws : List PixelWrite) (s : List ℕ) → Each (λ w. w.x < 8 * st) ws
    → AgreeOutside st h (owes st h m ws) s (draw st ws s)
unfolding owes
owes_agrees st h m ws s e =
    if_cases (λ (r : Rect). AgreeOutside st h r s (draw st ws s)) (within m ws)
    (λ w x y hx hy n. draw_other st ws s x y hx (away st m ws x y w e n)) (λ w. whole_agrees st h s (draw st ws s))

-- ---- the writes that fall on the screen

pub seen_on : (st h : ℕ) (ws : List PixelWrite) → Each (λ w. w.x < 8 * st) (seen st h ws)
unfolding seen on_screen
seen_on st h [] = tt
seen_on st h (w ∷ ws) =
    if_cases (Each (λ (v : PixelWrite). v.x < 8 * st)) (ltb w.x (8 * st) && ltb w.y h)
    (λ e. (ltb-true w.x (8 * st) (and-true (ltb w.x (8 * st)) (ltb w.y h) e).0, seen_on st h ws)) (λ e. seen_on st h ws)

-- ---- a byte of the screen is poked

in_byte : (st i x y : ℕ) → x < 8 * st → place st x y ≡ i → In (byte_rect st i) x y
in_byte st i x y hx e =
    let q : i ≡ y * st + x / 8 = omega arith in
    let d : i / st ≡ y = ap (λ (n : ℕ). n / st) q ∙ digits_div y {m = st} {r = x / 8} (omega arith) in
    let m : i % st ≡ x / 8 = ap (λ (n : ℕ). n % st) q ∙ digits_mod y {m = st} {r = x / 8} (omega arith) in
    omega arith

pub poke_agrees : (st h : ℕ) (s : List ℕ) (i v : ℕ) → AgreeOutside st h (byte_rect st i) s (set s i v)
unfolding bit
poke_agrees st h s i v x y hx hy n = cc (get_or-set_other s i (place st x y) v 0 (λ e. n (in_byte st i x y hx e)))

-- Lists of pixel writes: two lists one after the other, the writes that fall on the screen, and a drawing whose writes all lie in what it owes.

-- ---- one list after another

pub draw-append : (st : ℕ) (ws vs : List PixelWrite) (s : List ℕ) → draw st (ws ++ vs) s ≡ draw st vs (draw st ws s)
unfolding draw
draw-append st [] vs s = refl
draw-append st (w ∷ ws) vs s = draw-append st ws vs (write_pixel st s w)

pub seen-append : (st h : ℕ) (ws vs : List PixelWrite) → seen st h (ws ++ vs) ≡ seen st h ws ++ seen st h vs
unfolding seen
seen-append st h [] vs = refl
seen-append st h (w ∷ ws) vs =
    by_test (on_screen st h w.x w.y)
    (λ e. rw e (ap (λ (l : List PixelWrite). w ∷ l) (seen-append st h ws vs))) (λ e. rw e (seen-append st h ws vs))

pub drawn-append : (st h : ℕ) (ws vs : List PixelWrite) (s : List ℕ)
    → draw st (seen st h (ws ++ vs)) s ≡ draw st (seen st h vs) (draw st (seen st h ws) s)
drawn-append st h ws vs s = ap (λ (l : List PixelWrite). draw st l s) (seen-append st h ws vs) ∙ draw-append st (seen st h ws) (seen st h vs) s

pub within-append : (r : Rect) (ws vs : List PixelWrite) → within r ws ≡ true → within r vs ≡ true → within r (ws ++ vs) ≡ true
unfolding within
within-append r [] vs e f = f
within-append r (w ∷ ws) vs e f =
    let p = and-true (inside r w.x w.y) (within r ws) e in
    λ i. p.0 i && within-append r ws vs p.1 f i

-- ---- writes that lie in a rectangle

pub within_none : (r : Rect) → within r [] ≡ true
unfolding within
within_none r = refl

pub within_more : (r : Rect) (w : PixelWrite) (ws : List PixelWrite) → In r w.x w.y → within r ws ≡ true → within r (w ∷ ws) ≡ true
unfolding within
within_more r w ws k e = λ i. in_inside r w.x w.y k i && e i

-- and so do those that fall on the screen
pub within-seen : (st h : ℕ) (r : Rect) (ws : List PixelWrite) → within r ws ≡ true → within r (seen st h ws) ≡ true
unfolding within seen
within-seen st h r [] e = refl
within-seen st h r (w ∷ ws) e =
    let p = and-true (inside r w.x w.y) (within r ws) e in
    if_cases (λ (l : List PixelWrite). within r l ≡ true) (on_screen st h w.x w.y)
    (λ k. λ i. p.0 i && within-seen st h r ws p.1 i) (λ k. within-seen st h r ws p.1)

-- ---- drawings

-- a drawing owes its mark, and not the whole screen in its place
abbrev pub OwesItsMark : ℕ → ℕ → Drawing → Type 0
OwesItsMark st h g = owes st h g.owed (seen st h g.writes) ≡ g.owed

-- so it does where all its writes lie in the mark
pub owes_mark : (st h : ℕ) (r : Rect) (ws : List PixelWrite) → within r ws ≡ true → owes st h r (seen st h ws) ≡ r
unfolding owes
owes_mark st h r ws e = rw (within-seen st h r ws e)

-- and a function that returns the mark without a test answers as the definition says
pub drawn_is : (st h : ℕ) (g : Drawing) (s e : List ℕ) {m : Marks} → within g.owed g.writes ≡ true → m ≡ record { dirty = g.dirty; owed = g.owed }
    → e ≡ draw st (seen st h g.writes) s → drawn m e ≡ drawn_on st h g s
unfolding drawn drawn_on
drawn_is st h g s e w p k = λ i. record { dirty = (p i).dirty; owed = ((λ j. (p j).owed) ∙ sym (owes_mark st h g.owed g.writes w)) i; screen = k i }

-- ---- a screen stays one

pub screen_draw : (st h : ℕ) (ws : List PixelWrite) {s e : List ℕ} → Screen st h s → e ≡ draw st ws s → Screen st h e
screen_draw st h ws {s} {e} r k = omega (arith, ap length k, length-draw st ws s)

pub screen_write : (st h : ℕ) (w : PixelWrite) {s e : List ℕ} → Screen st h s → e ≡ write_pixel st s w → Screen st h e
unfolding draw
screen_write st h w r k = screen_draw st h (w ∷ []) r k

-- What the small functions of the walk return is, put together, what the definitions say. Each law's premises are what those functions ensure.
use Rattle.std.proofs.Common.{◌≡◌, ℕ, ◌+◌, ◌-◌, ◌*◌, ◌%◌, Bool, true, false, cond, not, ◌&&◌, eqb, ltb, [], ◌∷◌, sym, ap, ◌∙◌}
use Rattle.model.specs.Ellipses.{Axis, Walk, part, start, fed, moves, advanced, turns, turned, apart, early, x_step, y_step, x_parts, y_parts, step, step_parts}
use Rattle.ellipse_walk.specs.declared.EllipseAxis.{EllipseAxis}
use Rattle.ellipse_walk.specs.declared.EllipseWalk.{EllipseWalk}
use Rattle.ellipse_walk.specs.declared.EllipsePart.{EllipsePart}
use Rattle.ellipse_walk.specs.declared.EllipseStep.{EllipseStep}
use Rattle.ellipse_walk.specs.Walk.{axis_of, walk_of, parts_of, Stepped}

abbrev starting : ℕ → ℕ → Walk
starting f rx = record {
  x = record { f = f; neg = true; delta = 0; tmp = rx; inc = 255 };
  y = record { f = 1; neg = false; delta = 0; tmp = 0; inc = 1 };
  fxy = 0;
  neg = false;
  started = false;
}

pub start_is : (r rx : ℕ) {f : ℕ} → f ≡ (2 * r + 255) % 256 → starting f rx ≡ start r rx
unfolding start
start_is r rx e = ap (λ (f : ℕ). starting f rx) e

-- ---- an axis

-- f with its sign, raised by 2
abbrev raised : Axis → ℕ
raised a = cond a.neg (cond (ltb 2 a.f) (a.f - 2) (2 - a.f)) ((a.f + 2) % 256)

pub advance_moves : (a : Axis) (r radius : ℕ) {f delta tmp : ℕ} {t : Bool} → t ≡ moves r radius a → t ≡ true → f ≡ raised a
    → delta ≡ (fed radius a + 256 - r) % 256 → tmp ≡ (a.tmp + a.inc) % 256
    → record { f = f; neg = a.neg && ltb 2 a.f; delta = delta; tmp = tmp; inc = a.inc } ≡ advanced r radius a
unfolding advanced
advance_moves a r radius m t f d s =
    rw (sym m ∙ t) (λ i. record { f = f i; neg = a.neg && ltb 2 a.f; delta = d i; tmp = s i; inc = a.inc })

pub advance_stays : (a : Axis) (r radius : ℕ) {f delta : ℕ} {t : Bool} → t ≡ moves r radius a → t ≡ false → f ≡ raised a → delta ≡ fed radius a
    → record { f = f; neg = a.neg && ltb 2 a.f; delta = delta; tmp = a.tmp; inc = a.inc } ≡ advanced r radius a
unfolding advanced
advance_stays a r radius m t f d =
    rw (sym m ∙ t) (λ i. record { f = f i; neg = a.neg && ltb 2 a.f; delta = d i; tmp = a.tmp; inc = a.inc })

pub turn_back : (a : Axis) {f inc : ℕ} {t : Bool} → t ≡ true → f ≡ (258 - a.f) % 256 → inc ≡ (256 - a.inc) % 256
    → record { f = f; neg = a.neg; delta = a.delta; tmp = a.tmp; inc = inc } ≡ turned t a
unfolding turned
turn_back a e f n = rw e (λ i. record { f = f i; neg = a.neg; delta = a.delta; tmp = a.tmp; inc = n i })

pub turn_not : (a : Axis) {t : Bool} → t ≡ false → a ≡ turned t a
unfolding turned
turn_not a e = rw e

-- ---- a step

pub x_stepped : (w : EllipseWalk) (r rx : ℕ) {x' y' : EllipseAxis} {fxy : ℕ} {moved t neg : Bool} {q : EllipsePart}
    → moved ≡ moves r rx (axis_of w.x) → axis_of x' ≡ advanced r rx (axis_of w.x) → t ≡ turns (axis_of x') → axis_of y' ≡ turned t (axis_of w.y)
    → fxy ≡ apart w.fxy w.x.f → neg ≡ cond t (not (ltb w.fxy w.x.f)) (ltb w.fxy w.x.f)
    → parts_of q ≡ cond (moved && not (eqb ((x'.tmp + 1) % 256) rx)) (part x'.tmp w.y.tmp ∷ []) []
    → Stepped (x_step r rx (walk_of w)) (x_parts r rx (walk_of w)) (record { walk = record { x = x'; y = y'; fxy = fxy; neg = neg; started = w.started }; part = q })
unfolding x_step x_parts
x_stepped w r rx {t = t} d x t' y m n p =
    let e : t ≡ turns (advanced r rx (axis_of w.x)) = t' ∙ ap turns x in
    let y'' = y ∙ ap (λ (b : Bool). turned b (axis_of w.y)) e in
    let n'' = n ∙ ap (λ (b : Bool). cond b (not (ltb w.fxy w.x.f)) (ltb w.fxy w.x.f)) e in
    record {
      walk = λ i. record { x = x i; y = y'' i; fxy = m i; neg = n'' i; started = w.started };
      part = p ∙ (λ i. cond (d i && not (eqb (((x i).tmp + 1) % 256) rx)) (part (x i).tmp w.y.tmp ∷ []) []);
    }

pub y_stepped : (w : EllipseWalk) (r rx ry : ℕ) {x' y' : EllipseAxis} {m fxy : ℕ} {moved t soon started : Bool} {q : EllipsePart}
    → moved ≡ moves r ry (axis_of w.y) → axis_of y' ≡ advanced r ry (axis_of w.y) → t ≡ turns (axis_of y') → axis_of x' ≡ turned t (axis_of w.x)
    → m ≡ apart w.y.f w.fxy → fxy ≡ cond t ((256 - m) % 256) m
    → soon ≡ early w.started y'.tmp → started ≡ cond moved (not soon) w.started
    → parts_of q ≡ cond moved (part (cond soon rx w.x.tmp) y'.tmp ∷ []) []
    → Stepped (y_step r ry (walk_of w)) (y_parts r rx ry (walk_of w))
    (record { walk = record { x = x'; y = y'; fxy = fxy; neg = ltb w.y.f w.fxy; started = started }; part = q })
unfolding y_step y_parts
y_stepped w r rx ry {t = t} {soon} d y t' x m f s b p =
    let e : t ≡ turns (advanced r ry (axis_of w.y)) = t' ∙ ap turns y in
    let x'' = x ∙ ap (λ (b : Bool). turned b (axis_of w.x)) e in
    let f'' = f ∙ (λ i. cond (e i) ((256 - m i) % 256) (m i)) in
    let s'' : soon ≡ early w.started (advanced r ry (axis_of w.y)).tmp = s ∙ ap (λ (a : Axis). early w.started a.tmp) y in
    let b'' = b ∙ (λ i. cond (d i) (not (s'' i)) w.started) in
    record {
      walk = λ i. record { x = x'' i; y = y i; fxy = f'' i; neg = ltb w.y.f w.fxy; started = b'' i };
      part = p ∙ (λ i. cond (d i) (part (cond (s'' i) rx w.x.tmp) (y i).tmp ∷ []) []);
    }

-- one step, along y where fxy is negative
pub stepped_y : (w : Walk) (r rx ry : ℕ) {s : EllipseStep} → w.neg ≡ true → Stepped (y_step r ry w) (y_parts r rx ry w) s → Stepped (step r rx ry w) (step_parts r rx ry w) s
unfolding step step_parts
stepped_y w r rx ry n k = record {
  walk = k.walk ∙ sym (ap (λ (b : Bool). cond b (y_step r ry w) (x_step r rx w)) n);
  part = k.part ∙ sym (ap (λ (b : Bool). cond b (y_parts r rx ry w) (x_parts r rx w)) n);
}

pub stepped_x : (w : Walk) (r rx ry : ℕ) {s : EllipseStep} → w.neg ≡ false → Stepped (x_step r rx w) (x_parts r rx w) s → Stepped (step r rx ry w) (step_parts r rx ry w) s
unfolding step step_parts
stepped_x w r rx ry n k = record {
  walk = k.walk ∙ sym (ap (λ (b : Bool). cond b (y_step r ry w) (x_step r rx w)) n);
  part = k.part ∙ sym (ap (λ (b : Bool). cond b (y_parts r rx ry w) (x_parts r rx w)) n);
}

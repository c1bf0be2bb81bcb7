-- A drawing by a function that is handed the screen: what `draw_on_screen` leaves, and that it is the call's where the function draws its shape; and a check of the screen.
use Rattle.std.proofs.Common.{◌≡◌, Bool, List, [], ℕ, ℤ, ◌+◌, ◌-◌, ◌∙◌, ap, arith, length, MutBor}
use borrow.Rule.Slice.PartMut.{put_mid}
use Rattle.model.specs.declared.Canvas.{Canvas}
use Rattle.model.specs.declared.Head.{Head}
use Rattle.model.specs.declared.Marks.{Marks}
use Rattle.model.specs.declared.glass.Glass.{Glass}
use Rattle.model.specs.Geometry.{Geometry, height, screen_bytes}
use Rattle.model.specs.Glass.{geometry, canvas, glass_of}
use Rattle.model.specs.Memory.{window, screen_of, with_window}
use Rattle.model.specs.Record.{decode, encode}
use Rattle.model.specs.Marks.{Drawing, drawn, drawn_on, marked}
use Rattle.model.specs.Points.{is_set}
use Rattle.model.specs.Calls.{lent, answered, drawing_with, drawing}
use Rattle.laws.specs.Parts.{part_back}
use Rattle.laws.specs.Updates.{canvas_equal}
use Rattle.updates.specs.Update.{updated}
use Rattle.updates.proofs.Drawing.{Loaded, screen_part, screen_is, screen_length}
use Rattle.accepted.specs.OnScreen.{canvas_for, state, Drew}

-- the canvas of the chosen glass is that of the glass which the length tells
pub is_canvas : {v : Glass} {r m : List ℕ} {h : Head} {k : Canvas} → Loaded v r h m → k ≡ canvas v → k ≡ canvas_for (length r)
is_canvas {v} w p = p ∙ canvas_equal (ap (λ (g : Geometry). g.stride) w.chosen.glass) (v.suits.is_height ∙ ap height w.chosen.glass)

-- as the code has it, for the glass that it has chosen
pub drew_there : {Q : Canvas → MutBor (List ℕ) → Marks → MutBor (List ℕ) → Type 0} {v : Glass} {r m : List ℕ} {h : Head} {k : Canvas} (c : Marks) (s t : MutBor (List ℕ)) {r' : List ℕ}
    → Loaded v r h m → k ≡ canvas v → s.now ≡ screen_part v h m → Q k s c t → length t.now ≡ length s.now
    → r' ≡ updated (λ g x. marked g c.dirty c.owed x) r → Drew Q r m r' (put_mid h.graphics (h.graphics + v.screen - h.graphics) m t.now)
drew_there {Q} {v} {r} {m} {h} {k} c s t w p o q l u =
    let at = h.graphics in
    let base : at ≡ (state r).head.graphics = ap (λ (x : Head). x.graphics) w.head ∙ ap (λ (g : Geometry). (decode g r).head.graphics) w.chosen.glass in
    let size : screen_bytes (geometry v) ≡ screen_bytes (glass_of (length r)) = ap screen_bytes w.chosen.glass in
    let is = is_canvas w p in
    let long : length t.now ≡ at + v.screen - at = l ∙ ap length o ∙ screen_length w ∙ omega arith in record {
      found = s;
      left = t;
      marks = c;
      screen = o ∙ screen_is w ∙ (λ i. window (base i) (size i) m);
      drew = rw (← is) q;
      marked-by = u;
      memory = part_back at (at + v.screen) m t.now (omega arith) long ∙ ap (λ (n : ℕ). with_window n t.now m) base;
    }

-- as its definition has it, where the function draws d
pub drew_shape : {Q : Canvas → MutBor (List ℕ) → Marks → MutBor (List ℕ) → Type 0} {r m r' m' : List ℕ} (d : Drawing) → Drew Q r m r' m'
    → ((s t : MutBor (List ℕ)) (k : Marks) → Q (canvas_for (length r)) s k t → drawn k t.now ≡ drawn_on (glass_of (length r)).stride (height (glass_of (length r))) d s.now)
    → answered 0 [] (lent r' m' []) ≡ answered 0 [] (drawing (glass_of (length r)) d (lent r m []))
unfolding drawing_with drawn updated
drew_shape {r = r} {m} d w f =
    let g = glass_of (length r) in
    let o : drawn w.marks w.left.now ≡ drawn_on g.stride (height g) d (screen_of g (state r).head.graphics m) = f w.found w.left w.marks w.drew ∙ ap (drawn_on g.stride (height g) d) w.screen in
    λ i. answered 0 [] (lent ((w.marked-by ∙ (λ j. encode g (marked g (o j).dirty (o j).owed (decode g r)))) i) ((w.memory ∙ (λ j. with_window (state r).head.graphics (o j).screen m)) i) [])

-- what a check of the screen tells
pub point_set : {v : Glass} {r m : List ℕ} {h : Head} (x y : ℤ) {k : Canvas} {b : Bool} → Loaded v r h m → k ≡ canvas v → b ≡ is_set k.stride k.height (screen_part v h m) x y
    → let g = glass_of (length r) in b ≡ is_set g.stride (height g) (screen_of g (state r).head.graphics m) x y
point_set {v} {r} {m} x y w p e =
    e ∙ (λ i. is_set (p i).stride (p i).height (screen_is w i) x y)
    ∙ (λ i. is_set v.stride (v.suits.is_height i) (screen_of (geometry v) (w.head i).graphics m) x y)
    ∙ ap (λ (g : Geometry). is_set g.stride (height g) (screen_of g (decode g r).head.graphics m) x y) w.chosen.glass

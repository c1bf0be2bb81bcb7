-- The cursor: the byte under it, and what a blink leaves.
use Rattle.std.proofs.Common.{◌≡◌, sym, ap, ◌∙◌, Bool, true, false, List, [], ℕ, ◌+◌, ◌-◌, ◌*◌, ◌<◌, arith, eq-eqb, ne_eqb, le-leb, eqb, length, get_or}
use borrow.Rule.Slice.PartMut.{put_mid}
use Rattle.model.specs.declared.Canvas.{Canvas}
use Rattle.model.specs.declared.Head.{Head}
use Rattle.model.specs.declared.Edge.TheVariants.{Clamp}
use Rattle.model.specs.declared.Marks.{Marks}
use Rattle.model.specs.declared.glass.Glass.{Glass}
use Rattle.model.specs.Geometry.{Geometry, height}
use Rattle.model.specs.Glass.{geometry, glass_of, canvas}
use Rattle.model.specs.Record.{head_of, head_fits, decode, WellFormed}
use Rattle.model.specs.Marks.{drawn, drawn_on, marked}
use Rattle.model.specs.Text.{with_cursor}
use Rattle.model.specs.Cursor.{blink_of, blink_next, cursor_box, under_cursor, blink_head, blink_drawing}
use Rattle.model.specs.Calls.{blink_cursor, clear_cursor, lent, answered, edge_in, changed, drawing_with, blinked, cursor_cleared, done}
use Rattle.laws.specs.Record.{Passing, Numbers}
use Rattle.laws.specs.Cursors.{cell_of, byte_of, blink_fits, next_most, cursor_either}
use Rattle.laws.specs.States.{well_formed}
use Rattle.laws.specs.Formed.{still_fits, head_formed}
use Rattle.laws.specs.Updates.{head_decoded}
use Rattle.updates.specs.Update.{updated, on_head}
use Rattle.updates.proofs.Updating.{still_passes, then_updated}
use Rattle.updates.proofs.Drawing.{Loaded, screen_part, numbers, drew_with}

-- ---- the cell under it

module _ (v : Glass) {h : Head} (n : Numbers (geometry v) h) where
  pub cell_in : h.row * v.columns + h.column < v.cells
  cell_in = rw (v.suits.is_cells, v.suits.is_columns) (cell_of n)

  pub byte_under : (m : List ℕ) → get_or m (h.text + (h.row * v.columns + h.column)) 0 ≡ under_cursor (geometry v) h m
  byte_under m = ap (λ (k : ℕ). get_or m (h.text + (h.row * k + h.column)) 0) v.suits.is_columns ∙ byte_of n m

-- ---- where nothing is drawn

module _ (r m : List ℕ) {h : Head} (e : h ≡ head_of r) where
  -- a test of the head is one of the record's
  told : (t : Head → Bool) {b : Bool} → t h ≡ b → t (decode (glass_of (length r)) r).head ≡ b
  told t f = ap t (head_decoded (glass_of (length r)) r ∙ sym e) ∙ f

  in_text : h.screen ≡ 0 → eqb (decode (glass_of (length r)) r).head.screen 0 ≡ true
  in_text z = told (λ x. eqb x.screen 0) (eq-eqb h.screen 0 z)

  in_graph : (h.screen ≡ 0 → ⊥) → eqb (decode (glass_of (length r)) r).head.screen 0 ≡ false
  in_graph z = told (λ x. eqb x.screen 0) (ne_eqb h.screen 0 z)

  -- in Graph a blink does nothing
  pub blink_graph : (h.screen ≡ 0 → ⊥) → answered 0 [] (lent r m []) ≡ done (glass_of (length r)) blink_cursor (lent r m [])
  unfolding done blinked
  blink_graph z = rw (in_graph z)

  -- none is shown
  pub clear_none : h.cursor ≡ 0 → answered 0 [] (lent r m []) ≡ done (glass_of (length r)) clear_cursor (lent r m [])
  unfolding done cursor_cleared
  clear_none z = rw (told (λ x. eqb x.cursor 0) (eq-eqb h.cursor 0 z))

  module _ (z : h.cursor ≡ 0 → ⊥) where
    is_shown : eqb (decode (glass_of (length r)) r).head.cursor 0 ≡ false
    is_shown = told (λ x. eqb x.cursor 0) (ne_eqb h.cursor 0 z)

    pub clear-blinks : h.screen ≡ 0 → done (glass_of (length r)) blink_cursor (lent r m []) ≡ done (glass_of (length r)) clear_cursor (lent r m [])
    unfolding done cursor_cleared
    clear-blinks q = rw (is_shown, in_text q)

    pub clear_graph : {t : List ℕ} → (h.screen ≡ 0 → ⊥) → t ≡ updated (on_head (with_cursor 0)) r → answered 0 [] (lent t m []) ≡ done (glass_of (length r)) clear_cursor (lent r m [])
    unfolding done cursor_cleared changed updated
    clear_graph q f = rw (is_shown, in_graph q) (ap (λ (x : List ℕ). answered 0 [] (lent x m [])) f)

-- ---- in Text: another cursor, and a drawing

module _ {r s : List ℕ} (cursor b : ℕ) {d : ℕ} (p : Passing (glass_of (length r)) r) (e : d ≡ blink_next cursor b) (f : s ≡ updated (on_head (with_cursor d)) r) where
  next_formed : let g = glass_of (length r) in WellFormed g (on_head (with_cursor d) g (decode g r))
  unfolding head_fits
  next_formed =
      let g = glass_of (length r) in
      let w = well_formed g r p in
      head_formed g (decode g r) w (with_cursor d (decode g r).head) (still_fits g (decode g r).head w.head 5 (le-leb d 2 (rw e (next_most cursor b))))

  pub next_passes : Passing (glass_of (length s)) s
  next_passes = still_passes (on_head (with_cursor d)) p next_formed f

module _ {v : Glass} {r : List ℕ} {h : Head} {m : List ℕ} (p : Passing (glass_of (length r)) r) (w : Loaded v r h m) where
  pub blink_drew : (c : Marks) (s : List ℕ) {b k d : ℕ} {a : Canvas} {t u : List ℕ} → h.screen ≡ 0 → b ≡ under_cursor (geometry v) h m → k ≡ blink_of h.cursor b → a ≡ canvas v
      → drawn c s ≡ drawn_on a.stride a.height (cursor_box a.stride a.height Clamp h.row h.column k) (screen_part v h m)
      → d ≡ blink_next h.cursor b → t ≡ updated (on_head (with_cursor d)) r → u ≡ updated (λ g x. marked g c.dirty c.owed x) t
      → answered 0 [] (lent u (put_mid h.graphics (h.graphics + v.screen - h.graphics) m s) []) ≡ done (glass_of (length r)) blink_cursor (lent r m [])
  unfolding done blinked drawing_with blink_head blink_drawing
  blink_drew c s {b} {k = i} {d = n} {a = a} z u k q e d f t =
      let g = glass_of (length r) in
      let edge = edge_in g (lent r m []) in
      let l = v.suits in
      let at = numbers w in
      let here = w.head ∙ ap (λ (y : Geometry). (decode y r).head) w.chosen.glass in
      let under : b ≡ under_cursor g (decode g r).head m = u ∙ (λ j. under_cursor (w.chosen.glass j) (here j) m) in
      let same = cursor_either a.stride a.height edge h.row h.column i (screen_part v h m) (blink_fits h.cursor _ at.cursor k).0 (rw q at.column) (rw q (omega (arith, at.row, l.glass.filled, l.is_height))) in
      rw (ap (λ (x : Head). eqb x.screen 0) (sym here) ∙ eq-eqb h.screen 0 z)
      (ap (answered 0 []) (drew_with w (with_cursor n) (λ st y x. cursor_box st y edge h.row h.column x) c s (k ∙ (λ j. blink_of (here j).cursor (under j))) q (e ∙ same) (then_updated (on_head (with_cursor n)) p (next_formed h.cursor b p d f) f (λ y x. marked y c.dirty c.owed x) t)
      ∙ (λ j. drawing_with g (with_cursor ((d ∙ (λ y. blink_next (here y).cursor (under y))) j)) (cursor_box g.stride (height g) edge (here j).row (here j).column (blink_of (decode g r).head.cursor (under_cursor g (decode g r).head m))) (lent r m []))))

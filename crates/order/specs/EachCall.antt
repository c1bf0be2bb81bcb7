-- Every accepted call, lent what it takes: one clause says that it leaves bytes that can be lent again and that the state of panel k follows by its effect.
use Rattle.std.specs.Prelude.{◌≡◌, true, ◌&&◌, length, get_or}
use Rattle.std.proofs.Math.Path.{refl}
use Rattle.std.proofs.Common.{sym, mul-pos, arith, get_or-set_same, get_or-set_other}
use mathlib.Core.List.{List, [], ◌∷◌}
use Prim.Native.Nat.{ℕ, zero, suc, ◌<◌}
use Rattle.std.proofs.Math.Dec.{leb, eqb}
use borrow.Author.Tests.{le-leb, ltb-true, eq-eqb, ne_eqb}
use Rattle.model.specs.Geometry.{Geometry, height, columns, rows}
use Rattle.model.specs.Glass.{IsGlass}
use Rattle.model.specs.Rects.{none, is_empty, fits}
use Rattle.model.specs.Marks.{with_dirty}
use Rattle.model.specs.Points.{draw_mode, point as pointDrawing}
use Rattle.model.specs.declared.Edge.{Edge}
use Rattle.model.specs.declared.Head.{Head}
use Rattle.model.specs.Bitmaps.{paint_mode, source_bytes}
use Rattle.model.specs.Memory.{window}
use Rattle.model.specs.Shapes.{Shape, point, line, box, circle, ellipse, bitmap, TypedShape, filled, drawing_of}
use Rattle.model.specs.Text.{with_row, with_column, with_cursor, print_mode, with_print_mode}
use Rattle.model.specs.Calls.{Call, opening, reset, draw, check_point, print, newline, cls, write_byte, flush, get_row, get_column, set_row, set_column, set_screen_mode, set_print_mode, blink_cursor, clear_cursor, take_dirty_area, send, Lent, record_only, with_memory, takes, edge_in, answered, drawing_with, changed, cleared, with_page, blinked, cursor_cleared, done}
use Rattle.model.specs.Print.{is_inverse}
use Rattle.model.specs.Record.{panel_of, head_fits}
use Rattle.model.specs.Sends.{send_panel}
use Rattle.model.specs.Lists.{accepted, Typed, Item, Buffers, panel_buffer, lent_to_send, lent_to, given_back, after, sends, blinks, effect, item_effect}
use Rattle.laws.specs.Tests.{if_cases, by_test, by_eq}
use Rattle.laws.specs.Record.{head_tells}
use Rattle.laws.specs.Points.{point-fits}
use Rattle.laws.specs.Slopes.{line-fits}
use Rattle.laws.specs.Boxes.{box-fits}
use Rattle.laws.specs.EllipseMarks.{ellipse-fits}
use Rattle.laws.specs.Bitmaps.{bitmap-fits}
use Rattle.laws.specs.Pages.{newline_sheet, print_sheet}
use Rattle.laws.specs.Calls.{accepted_call}
use Rattle.laws.specs.Writes.{AgreeOutside}
use Rattle.order.specs.Held.{touched}
use Rattle.laws.specs.Formed.{still_fits}
use Rattle.order.specs.Step.{Lendable, old, screen_held, Step, known, same_step, changed-step}
use Rattle.order.specs.Accepted.{done_on, by_item}
use Rattle.order.specs.Opens.{opening_step, reset_step, send_step}
use Rattle.order.specs.MarkSteps.{poke_step, flush_step, drawing-step, blink_step, cleared-step, page-step}

-- a shape's dirty rectangle fits
module _ (g : Geometry) (z : IsGlass g) (edge : Edge) (m : List ℕ) where
  ellipse_in : (x y rx ry fill mode : ℕ) → x < 256 → y < 256 → fits 256 0 256 (drawing_of g edge m (ellipse x y rx ry fill mode)).dirty ≡ true
  ellipse_in x y rx ry fill mode =
      ellipse-fits g.stride (height g) edge x y rx ry (filled fill) (draw_mode mode) (omega (arith, z.columns)) (omega (arith, z.cursor)) (omega (arith, z.row)) z.high

  shape_fits : (s : Shape) → TypedShape s → fits 256 0 256 (drawing_of g edge m s).dirty ≡ true
  unfolding pointDrawing
  shape_fits (point x y mode) t = point-fits g.stride (height g) x y t.0 t.1
  shape_fits (line x1 y1 x2 y2 mode) t = line-fits g.stride (height g) edge x1 y1 x2 y2 (draw_mode mode) t.0 t.1 t.2 t.3
  shape_fits (box x1 y1 x2 y2 fill mode) t = box-fits g.stride (height g) edge x1 y1 x2 y2 (filled fill) (draw_mode mode) t.0 t.1 t.2 t.3
  shape_fits (circle x y r fill mode) t = ellipse_in x y r r fill mode t.0 t.1
  shape_fits (ellipse x y rx ry fill mode) t = ellipse_in x y rx ry fill mode t.0 t.1
  shape_fits (bitmap i x y w n mode) t =
      bitmap-fits g.stride (height g) (window i (source_bytes w n) m) x y w n (paint_mode mode) (omega (arith, z.cursor)) z.high

-- a panel whose buffer holds anything is there
has-buffer : (ps : List (List ℕ)) (k : ℕ) → 0 < length (get_or ps k []) → k < length ps
has-buffer [] k h = absurd (omega arith)
has-buffer (p ∷ ps) zero h = omega arith
has-buffer (p ∷ ps) (suc k) h = omega (arith, has-buffer ps k h)

module _ (g : Geometry) (k : ℕ) (there : k < g.panels) (b : Buffers) (q : Lendable g (lent_to_send k b)) where
  -- the record, memory, and panel k's buffer
  abbrev l : Lent
  l = lent_to_send k b

  abbrev z : IsGlass g
  z = q.passing.glass

  pub buffer_there : k < length b.panels
  buffer_there = has-buffer b.panels k (rw q.panel (mul-pos (omega (arith, z.columns)) (omega (arith, z.row, z.filled))))

  abbrev h : Head
  h = (old g l).head

  -- what panel k sees of what stands after a call that is done
  abbrev next : Call → Lent
  next c = lent_to_send k (done_on g c b)

  -- a send to panel k, and one to another
  sent_step : (j : ℕ) → accepted g (send j) (lent_to_send j b) → Step g k l (sends j) (next (send j))
  unfolding done answered lent_to given_back
  sent_step j a =
      let s = old g l in
      let copied : ℕ → List ℕ = λ i. send_panel g.stride (panel_of g s i) (screen_held g l) (panel_buffer i b) in
      send_step g k there l q j (ltb-true j g.panels (accepted_call g (send j) (lent_to_send j b) (omega arith) a).1.0) _
      (by_eq j k (λ e. rw (e, eq-eqb k k refl) (get_or-set_same b.panels k (copied k) [] buffer_there))
      (λ n. rw (ne_eqb j k n) (get_or-set_other b.panels j k (copied j) [] (λ e. n (sym e)))))

  pub call_step : (c : Call) → Typed c → accepted g c (lent_to (takes c) b) → Step g k l (effect g c (lent_to (takes c) b)) (next c)
  unfolding effect blinks done answered drawing_with changed cleared with_page blinked cursor_cleared lent_to given_back head_fits fits is_empty print_mode with_print_mode
  call_step (opening graphics text version keys edge) t a = opening_step g k there z graphics text version keys edge b.rec b.memory (panel_buffer k b) t a q.panel
  call_step reset t a = reset_step g k there l q
  call_step (draw s) t a = drawing-step g k there l q _ (shape_fits g z (edge_in g l) b.memory s t)
  call_step (check_point x y) t a = same_step g k there l q
  call_step (print bs) t a = page-step g k there l q _ (print_sheet (rows g) (columns g) (is_inverse h.print) bs)
  call_step newline t a = page-step g k there l q _ (λ p. newline_sheet (rows g) (columns g) 1 1 p (omega (arith, z.columns)))
  call_step cls t a = cleared-step g k there l q h.screen (le-leb h.screen 1 (head_tells g h (known g l q).head).screen)
  call_step (write_byte i v) t a = poke_step g k there l q i v
  call_step (flush f) t a = flush_step g k there l q f
  call_step get_row t a = same_step g k there l q
  call_step get_column t a = same_step g k there l q
  call_step (set_row n) t a = changed-step g k there l q (with_row n) (still_fits g h (known g l q).head 1 (accepted_call g (set_row n) (lent_to record_only b) (omega arith) a).1.0) refl
  call_step (set_column n) t a = changed-step g k there l q (with_column n) (still_fits g h (known g l q).head 2 (accepted_call g (set_column n) (lent_to record_only b) (omega arith) a).1.0) refl
  call_step (set_screen_mode n) t a = cleared-step g k there l q n (accepted_call g (set_screen_mode n) (lent_to with_memory b) (omega arith) a).1.0
  -- Flash while Inverse gives Normal: a listed mode too
  call_step (set_print_mode n) t a =
      changed-step g k there l q (with_print_mode n) (still_fits g h (known g l q).head 4
      (if_cases (λ (m : ℕ). leb m 2 ≡ true) (eqb h.print 1 && eqb n 2) (λ e. refl) (λ e. (accepted_call g (set_print_mode n) (lent_to record_only b) (omega arith) a).1.0))) refl
  call_step blink_cursor t a = by_test (eqb h.screen 0) (λ e. rw e (blink_step g k there l q)) (λ e. rw e (same_step g k there l q))
  call_step clear_cursor t a =
      by_test (eqb h.cursor 0) (λ e. rw e (same_step g k there l q))
      (λ e. by_test (eqb h.screen 0) (λ f. rw (e, f) (blink_step g k there l q))
      (λ f. rw (e, f) (changed-step g k there l q (with_cursor 0) (still_fits g h (known g l q).head 5 refl) refl)))
  call_step take_dirty_area t a = changed-step g k there l q (with_dirty none) (still_fits g h (known g l q).head 7 refl) refl
  call_step (send j) t a = sent_step j a

  -- so no accepted call changes a pixel outside what it owes: the last clause of Marks never applies
  pub no_pixel_outside : (c : Call) → Typed c → accepted g c (lent_to (takes c) b)
      → AgreeOutside g.stride (height g) (touched g (effect g c (lent_to (takes c) b))) (screen_held g l) (screen_held g (next c))
  no_pixel_outside c t a = (call_step c t a).follows.screen

  -- a refused call leaves all as it was, and so does one that was lent other buffers
  pub item_step : (i : Item g) → Step g k l (item_effect g b i) (lent_to_send k (after g b i))
  item_step i = by_item g (λ d e cs. Step g k l e (lent_to_send k d)) b i call_step (same_step g k there l q)

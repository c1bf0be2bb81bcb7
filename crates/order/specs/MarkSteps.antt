-- Calls whose effect is a mark: `write_byte`, `flush`, drawings, the cursor's blink, clearing and pages. What they change on the screen lies in the mark.
use Rattle.std.specs.Prelude.{◌≡◌, ℕ, ◌+◌, ◌-◌, ◌*◌, ◌/◌, ◌%◌, ◌≤◌, ◌<◌, leb, ltb, eqb}
use Rattle.std.proofs.Math.Path.{refl, ap}
use Rattle.std.proofs.Common.{◌∙◌, mod-lt, div-lt_iff_lt-mul, mul_comm, arith, lt-ltb, le-leb, leb-false, ltb-false, eqb-true}
use Rattle.std.proofs.Math.Logic.{inl, inr}
use Rattle.std.proofs.Math.Bool.{true}
use mathlib.Core.List.{List}
use Rattle.std.proofs.Math.ListN.{length, length-set}
use Rattle.model.specs.declared.Rect.{Rect}
use Rattle.model.specs.declared.Head.{Head}
use Rattle.model.specs.declared.DrawMode.TheVariants.{Xor}
use Rattle.model.specs.Geometry.{Geometry, height, screen_bytes, columns, rows, cells, row_bytes}
use Rattle.model.specs.Glass.{IsGlass}
use Rattle.model.specs.Rects.{none, fits}
use Rattle.model.specs.Memory.{zeros, screen_of, with_screen, with_text}
use Rattle.model.specs.Pixels.{draw, seen}
use Rattle.model.specs.Record.{State, window_tests, windows, head_tests, head_fits, encode, with_head, with_flags}
use Rattle.model.specs.Marks.{whole, owes, marked, Drawing, drawn_on}
use Rattle.model.specs.Open.{clear_flags}
use Rattle.model.specs.Text.{with_row, at_place, with_screen_mode, cleared_state, cleared_memory}
use Rattle.model.specs.Print.{Page, scrolled_times, page_of, screen_scrolls, scroll_mark, state_with_page, scrolled_memory, memory_with_page}
use Rattle.model.specs.Cursor.{blink_of, blink_next, cursor_box, under_cursor, blink_drawing, blink_head}
use Rattle.model.specs.Glyphs.{Fonts}
use Rattle.model.specs.Flush.{flush_stores, cleared_in_text, flushed}
use Rattle.model.specs.Poke.{ignored, poked, in_screen, poke_mark}
use Rattle.model.specs.Calls.{write_byte, flush, Lent, lent, edge_in, answered, drawing_with, drawing, cleared, with_page, done}
use Rattle.model.specs.Lists.{marks, draws, prints, effect}
use Rattle.laws.specs.Tests.{if_cases, by_test, either, tests, and-true, and-false, all_true, or_cases}
use Rattle.laws.specs.Rects.{Fits, passes_fits}
use Rattle.laws.specs.Pixels.{length-draw}
use Rattle.laws.specs.Memory.{window_set_in, window_set_out, length-with_window, window_other}
use Rattle.laws.specs.Loops.{length-zeros}
use Rattle.laws.specs.Flags.{length_no_flags}
use Rattle.laws.specs.Pages.{length_times, Sheet}
use Rattle.laws.specs.Writes.{AgreeOutside, whole_agrees, owes_agrees, seen_on, poke_agrees}
use Rattle.laws.specs.Texts.{row_room, page_sheet}
use Rattle.laws.specs.Record.{head_tells}
use Rattle.laws.specs.Cursors.{blink_fits, next_most}
use Rattle.laws.specs.Boxes.{box-fits}
use Rattle.laws.specs.Glyphs.{length-paint}
use Rattle.laws.specs.Formed.{still_fits, head_formed, page_formed}
use Rattle.order.specs.Step.{Lendable, old, screen_held, Step, screen_long, known, rewritten_step, painted-step}

-- the whole screen as a dirty rectangle
whole-fits : (g : Geometry) → IsGlass g → Fits 256 0 256 (whole g.stride (height g))
whole-fits g z = inr (omega (arith, z.columns, z.row, z.cursor, z.high))

-- ---- a poked byte: where it is one of the screen, it lies in the eight pixels that are owed; any other changes no pixel

poked_mark : (g : Geometry) → IsGlass g → (keys : List ℕ) (graphics a v : ℕ) (m : List ℕ) → let r = poke_mark g keys graphics a in
    Fits 256 0 256 r × AgreeOutside g.stride (height g) r (screen_of g graphics m) (screen_of g graphics (poked keys a v m))
unfolding poked poke_mark in_screen
poked_mark g z keys graphics a v m =
    by_test (ignored keys a) (λ i. rw i (inl refl, λ x y hx hy n. refl))
    (λ i. by_test (in_screen g graphics a)
    (λ e.
    let p = and-true (leb graphics a) (ltb a (graphics + screen_bytes g)) e in
    let wide : 0 < g.stride = omega (arith, z.columns) in
    let column : (a - graphics) % g.stride < g.stride = mod-lt (a - graphics) wide in
    let line : (a - graphics) / g.stride < height g = (div-lt_iff_lt-mul {k = g.stride} wide).1 (rw (mul_comm (height g) g.stride) (omega (arith, tests))) in
    rw (i, e, window_set_in graphics (screen_bytes g) m a v (omega (arith, tests)) (omega (arith, tests)))
    (inr (omega (arith, z.cursor, z.high)), poke_agrees g.stride (height g) (screen_of g graphics m) (a - graphics) v))
    (λ e.
    let o = either (and-false (leb graphics a) (ltb a (graphics + screen_bytes g)) e) (λ n. inl (leb-false graphics a n)) (λ n. inr (ltb-false a (graphics + screen_bytes g) n)) in
    rw (i, e, window_set_out graphics (screen_bytes g) m a v o) (inl refl, λ x y hx hy n. refl)))

module _ (g : Geometry) (k : ℕ) (there : k < g.panels) (l : Lent) (q : Lendable g l) where
  abbrev s : State
  s = old g l

  pub poke_step : (a v : ℕ) → Step g k l (effect g (write_byte a v) l) (done g (write_byte a v) l).left
  unfolding effect done answered poked
  poke_step a v =
      let m = poke_mark g s.keys s.head.graphics a in
      let r = poked_mark g q.passing.glass s.keys s.head.graphics a v l.memory in
      rewritten_step g k there l q m m s (poked s.keys a v l.memory) (known g l q)
      (if_cases (λ (n : List ℕ). length n ≡ length l.memory) (ignored s.keys a) (λ e. refl) (λ e. length-set l.memory a v) ∙ q.memory) refl refl refl r.0 r.1

  -- ---- a new screen

  long : length (screen_held g l) ≡ screen_bytes g
  long = screen_long g q.passing.glass s.head (known g l q).head l.memory q.memory

  -- flush: the screen changes anywhere, and the whole of it is owed
  pub flush_step : (f : Fonts) → Step g k l (effect g (flush f) l) (done g (flush f) l).left
  unfolding effect done answered flushed
  flush_step f =
      let m = whole g.stride (height g) in
      painted-step g k there l q m m s l.memory (flushed g f s l.memory) (known g l q) q.memory refl refl refl (whole-fits g q.passing.glass)
      (length-paint (flush_stores g f s l.memory) (cleared_in_text s.head.screen (screen_held g l) (screen_bytes g))
      ∙ if_cases (λ (n : List ℕ). length n ≡ screen_bytes g) (eqb s.head.screen 0) (λ t. length-zeros (screen_bytes g)) (λ t. long))
      (whole_agrees g.stride (height g) _ _)

  -- a drawing whose dirty rectangle fits, and the head that f makes
  drawing-with : (f : Head → Head) (d : Drawing) → head_fits g (f s.head) ≡ true → (f s.head).graphics ≡ s.head.graphics
      → fits 256 0 256 d.dirty ≡ true → Step g k l (draws g d) (drawing_with g f d l)
  unfolding drawing_with drawn_on
  drawing-with f d h b e =
      let ws = seen g.stride (height g) d.writes in
      painted-step g k there l q d.dirty (owes g.stride (height g) d.owed ws) (with_head (f s.head) s) l.memory (draw g.stride ws (screen_held g l))
      (head_formed g s (known g l q) (f s.head) h) q.memory b refl refl (passes_fits 256 0 256 d.dirty e)
      (length-draw g.stride ws (screen_held g l) ∙ long) (owes_agrees g.stride (height g) d.owed ws (screen_held g l) (seen_on g.stride (height g) d.writes))

  pub drawing-step : (d : Drawing) → fits 256 0 256 d.dirty ≡ true → Step g k l (draws g d) (drawing g d l)
  drawing-step d e = drawing-with (λ h. h) d (known g l q).head refl e

  -- ---- the cursor: a blink in Text is a drawing, and changes the head besides

  -- what it marks fits, also a full one at the last column
  box_in : fits 256 0 256 (blink_drawing g (edge_in g l) s.head l.memory).dirty ≡ true
  unfolding blink_drawing cursor_box
  box_in =
      let z = q.passing.glass in
      let h = s.head in
      let t = head_tells g h (known g l q).head in
      let c = blink_of h.cursor (under_cursor g h l.memory) in
      let n : c ≤ 2 = (blink_fits h.cursor (under_cursor g h l.memory) t.cursor refl).1 in
      box-fits g.stride (height g) (edge_in g l) (8 * h.column) (16 * h.row) (8 * h.column + 8 * c - 1) (16 * h.row + 15) true Xor
      (omega (arith, z.cursor, t.column)) (omega (arith, z.high, t.row)) (omega (arith, z.cursor, t.column)) (omega (arith, z.high, t.row))

  pub blink_step : let d = blink_drawing g (edge_in g l) s.head l.memory in Step g k l (draws g d) (drawing_with g (blink_head g l.memory) d l)
  unfolding head_fits blink_head
  blink_step =
      let h = s.head in
      let u = under_cursor g h l.memory in
      drawing-with (blink_head g l.memory) (blink_drawing g (edge_in g l) h l.memory) (still_fits g h (known g l q).head 5 (le-leb (blink_next h.cursor u) 2 (next_most h.cursor u))) refl box_in

  -- ---- text: clearing and each scroll in Graph owe the whole screen; a page that has not scrolled there changes no pixel

  text_room : s.head.text + cells g ≤ length l.memory
  text_room = rw q.memory (omega (arith, (head_tells g s.head (known g l q).head).text, q.passing.glass.text))

  -- the screen is not the text's: it stays with another text
  screen_stays : (t : List ℕ) → length t ≡ cells g → screen_of g s.head.graphics (with_text s.head.text t l.memory) ≡ screen_held g l
  unfolding head_fits windows
  screen_stays t n =
      let b = s.head.graphics in
      let c = s.head.text in
      window_other c t l.memory b (screen_bytes g) (rw n text_room)
      (rw n (either (or_cases (leb (b + screen_bytes g) c) (leb (c + cells g) b) (all_true (window_tests g b c) (all_true (head_tests g s.head) (known g l q).head).0).1.1.0)
      (λ e. inl (omega (arith, tests))) (λ e. inr (omega (arith, tests)))))

  -- a page p takes the place of the old one, with the head h beside its place, and then a screen is written; the screen agrees with the old one outside what is owed
  text-step : (dirty owed : Rect) (h : Head) (p : Page) (screen : List ℕ) → head_fits g h ≡ true → h.graphics ≡ s.head.graphics → Sheet (rows g) (columns g) 1 p
      → length screen ≡ screen_bytes g → Fits 256 0 256 dirty → AgreeOutside g.stride (height g) owed (screen_held g l) screen
      → Step g k l (marks owed) (lent (encode g (marked g dirty owed (with_head (at_place p.row p.column h) (with_flags p.flags s))))
      (with_screen s.head.graphics screen (with_text s.head.text p.text l.memory)) l.panel)
  unfolding head_fits
  text-step dirty owed h p screen e b t n d a =
      painted-step g k there l q dirty owed (with_head (at_place p.row p.column h) (with_flags p.flags s)) (with_text s.head.text p.text l.memory) screen
      (page_formed g s (known g l q) (at_place p.row p.column h) p.flags
      (still_fits g (with_row p.row h) (still_fits g h e 1 (lt-ltb p.row (rows g) t.row)) 2 (lt-ltb p.column (columns g) (omega (arith, t.room)))) t.flags)
      (length-with_window s.head.text p.text l.memory (rw t.text text_room) ∙ q.memory) b refl refl d n a

  pub cleared-step : (n : ℕ) → leb n 1 ≡ true → Step g k l (marks (whole g.stride (height g))) (cleared g n l)
  unfolding head_fits cleared cleared_state cleared_memory
  cleared-step n e =
      let z = q.passing.glass in
      let m = whole g.stride (height g) in
      text-step m m (with_screen_mode n s.head) (record { text = zeros (cells g); flags = clear_flags g; row = 0; column = 0; scrolls = 0 }) (zeros (screen_bytes g))
      (still_fits g s.head (known g l q).head 3 e) refl
      (record { wide = z.columns; text = length-zeros (cells g); flags = length_no_flags (cells g); row = z.row; room = omega (arith, z.columns) })
      (length-zeros (screen_bytes g)) (whole-fits g z) (whole_agrees g.stride (height g) _ _)

  -- a screen that scrolls is owed whole, another stays
  pub page-step : (f : Page → Page) → ((p : Page) → Sheet (rows g) (columns g) 1 p → Sheet (rows g) (columns g) 1 (f p))
      → let p = f (page_of g s l.memory) in Step g k l (prints g p l) (with_page g p l)
  unfolding with_page state_with_page memory_with_page scrolled_memory scroll_mark scrolled_times
  page-step f h =
      let z = q.passing.glass in
      let p = f (page_of g s l.memory) in
      let t = h (page_of g s l.memory) (page_sheet g z s l.memory (known g l q) text_room 1 (omega arith)) in
      let n = screen_scrolls s.head.screen p.scrolls in
      let screen = screen_of g s.head.graphics (with_text s.head.text p.text l.memory) in
      let stays : screen ≡ screen_held g l = screen_stays p.text t.text in
      let size : length screen ≡ screen_bytes g = ap length stays ∙ long in
      text-step none (scroll_mark g.stride (height g) n) s.head p (scrolled_times n (row_bytes g) screen) (known g l q).head refl t
      (length_times n (row_bytes g) screen (rw size (row_room g z)) ∙ size) (inl refl)
      (by_test (eqb n 0) (λ e. rw (eqb-true n 0 e, stays) (λ x y hx hy o. refl)) (λ e. rw e (whole_agrees g.stride (height g) _ _)))

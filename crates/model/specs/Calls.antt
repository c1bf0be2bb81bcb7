-- The exported calls: for each its refusals in testing order, and what it answers and leaves. Every exported contract cites `outcome`.
use Rattle.std.specs.Prelude.{Bool, true, cond, ◌&&◌, List, [], ◌∷◌, ◌++◌, ℕ, zero, suc, ◌%◌, leb, ltb, eqb, ℤ, length, Option, Some, None, Result, Ok, Err}
use Rattle.model.specs.declared.Head.{Head}
use Rattle.model.specs.declared.Edge.{Edge}
use Rattle.model.specs.declared.Value.{Value}
use Rattle.model.specs.declared.Area.{Area}
use Rattle.model.specs.declared.Sent.{Sent}
use Rattle.model.specs.declared.SentLine.{SentLine}
use Rattle.model.specs.declared.refusal.Refusal.{Refusal}
use Rattle.model.specs.Geometry.{Geometry, height, rows, columns, screen_bytes, memory_bytes}
use Rattle.model.specs.Rects.{Rect, none}
use Rattle.model.specs.Memory.{screen_of, with_screen}
use Rattle.model.specs.Record.{decode, encode, valid, windows, edge_fits, record_bytes, panel_of, with_head, with_panel}
use Rattle.model.specs.Refusals.{LENT, STATE, WINDOW, VALUE, GLYPH, PANEL, Test, test, refusal, ruled}
use Rattle.model.specs.Marks.{Drawing, whole, drawn_on, marked, with_dirty}
use Rattle.model.specs.Open.{clear_memory, open_state, reset_state}
use Rattle.model.specs.Points.{is_set}
use Rattle.model.specs.Lines.{edge_of}
use Rattle.model.specs.Shapes.{Shape, shape_tests, drawing_of}
use Rattle.model.specs.Text.{with_row, with_column, with_print_mode, with_cursor, cleared_state, cleared_memory}
use Rattle.model.specs.Print.{Page, newline_on, is_inverse, print_on, page_of, state_with_page, memory_with_page}
use Rattle.model.specs.Cursor.{blink_head, blink_drawing}
use Rattle.model.specs.Poke.{poked, poke_mark}
use Rattle.model.specs.Glyphs.{Fonts, fonts_fit}
use Rattle.model.specs.Flush.{flush_stores, flushed}
use Rattle.model.specs.Sends.{send_pending, send_numbers, send_panel}

-- every exported call that is lent the record, with the numbers that it is told
pub data Call : Type 0 where
  -- graphics base, text base, version, key words, edge flag
  opening : ℕ → ℕ → ℕ → List ℕ → ℕ → Call
  reset : Call
  draw : Shape → Call
  check_point : ℤ → ℤ → Call
  -- the text's bytes
  print : List ℕ → Call
  newline : Call
  cls : Call
  -- address, byte
  write_byte : ℕ → ℕ → Call
  flush : Fonts → Call
  get_row : Call
  get_column : Call
  set_row : ℕ → Call
  set_column : ℕ → Call
  set_screen_mode : ℕ → Call
  set_print_mode : ℕ → Call
  blink_cursor : Call
  clear_cursor : Call
  take_dirty_area : Call
  -- the panel's number
  send : ℕ → Call

-- the bytes that a call is lent; `[]` stands for what it is not lent
pub record Lent : Type 0 where
  pub rec : List ℕ
  pub memory : List ℕ
  pub panel : List ℕ

abbrev pub lent : List ℕ → List ℕ → List ℕ → Lent
lent r m p = record { rec = r; memory = m; panel = p }

-- what a call answers, its code and its other numbers, and what it leaves
pub record Outcome : Type 0 where
  pub code : ℕ
  pub numbers : List ℕ
  pub left : Lent

unfoldable pub answered : ℕ → List ℕ → Lent → Outcome
answered k ns l = record { code = k; numbers = ns; left = l }

-- the numbers of a result beside its code, in the order of its fields
abbrev pub value_numbers : Value → List ℕ
value_numbers v = v.value ∷ []

abbrev pub area_numbers : Area → List ℕ
area_numbers a = a.left ∷ a.top ∷ a.right ∷ a.bottom ∷ []

abbrev pub sent_numbers : Sent → List ℕ
sent_numbers s = s.sent ∷ s.line ∷ s.left ∷ s.right ∷ []

-- those of a send: 1 and the line, or 0 for idle
abbrev pub line_sent_numbers : Option SentLine → List ℕ
line_sent_numbers None = 0 ∷ 0 ∷ 0 ∷ 0 ∷ []
line_sent_numbers (Some s) = 1 ∷ s.line ∷ s.left ∷ s.right ∷ []

-- those of what may be refused: with a refusal n zeros
abbrev pub nought : ℕ → List ℕ
nought zero = []
nought (suc n) = 0 ∷ nought n

abbrev pub numbers_beside : {A : Type 0} → ℕ → (A → List ℕ) → Result A Refusal → List ℕ
numbers_beside n f (Ok x) = f x
numbers_beside n f (Err e) = nought n

-- ---- what a call is lent

-- record and memory, whatever they hold; the record alone; record and memory; these and the fonts, whose extra list is tested; these and the buffer of panel k
pub data Lending : Type 0 where
  to_open : Lending
  record_only : Lending
  with_memory : Lending
  with_fonts : Fonts → Lending
  with-panel : ℕ → Lending

abbrev pub takes : Call → Lending
takes (opening graphics text version keys edge) = to_open
takes reset = with_memory
takes (draw s) = with_memory
takes (check_point x y) = with_memory
takes (print bs) = with_memory
takes newline = with_memory
takes cls = with_memory
takes (write_byte a v) = with_memory
takes (flush f) = with_fonts f
takes get_row = record_only
takes get_column = record_only
takes (set_row n) = record_only
takes (set_column n) = record_only
takes (set_screen_mode n) = with_memory
takes (set_print_mode n) = record_only
takes blink_cursor = with_memory
takes clear_cursor = with_memory
takes take_dirty_area = record_only
takes (send k) = with-panel k

-- ---- refusals: LENT, STATE, then the call's own tests

abbrev pub memory_fits : Lent → Bool
memory_fits l = eqb (length l.memory) memory_bytes

abbrev pub panel_fits : Geometry → Lent → Bool
panel_fits g l = eqb (length l.panel) (screen_bytes g)

-- the extra list holds whole entries
abbrev pub list_fits : Fonts → Bool
list_fits f = eqb (length f.extra_list % 6) 0

-- what is lent beside the record has its length
abbrev pub lengths_fit : Geometry → Lending → Lent → Bool
lengths_fit g to_open l = memory_fits l
lengths_fit g record_only l = true
lengths_fit g with_memory l = memory_fits l
lengths_fit g (with_fonts f) l = memory_fits l && list_fits f
lengths_fit g (with-panel k) l = memory_fits l && panel_fits g l

-- LENT: the record has its length, and so has what is lent beside it
abbrev pub lent_test : Geometry → List ℕ → Bool → Test
lent_test g r others = test LENT (eqb (length r) (record_bytes g) && others)

abbrev pub state_test : Geometry → List ℕ → Test
state_test g r = test STATE (valid g r)

-- open doesn't read the old record
abbrev pub state_tests : Geometry → Lending → Lent → List Test
state_tests g to_open l = []
state_tests g record_only l = state_test g l.rec ∷ []
state_tests g with_memory l = state_test g l.rec ∷ []
state_tests g (with_fonts f) l = state_test g l.rec ∷ []
state_tests g (with-panel k) l = state_test g l.rec ∷ []

abbrev pub own_tests : Geometry → Call → Lent → List Test
own_tests g (opening graphics text version keys edge) l = test WINDOW (windows g graphics text) ∷ test VALUE (leb version 1 && edge_fits edge) ∷ []
own_tests g reset l = []
own_tests g (draw s) l = shape_tests s
own_tests g (check_point x y) l = []
own_tests g (print bs) l = []
own_tests g newline l = []
own_tests g cls l = []
own_tests g (write_byte a v) l = []
own_tests g (flush f) l = test GLYPH (fonts_fit (flush_stores g f (decode g l.rec) l.memory)) ∷ []
own_tests g get_row l = []
own_tests g get_column l = []
own_tests g (set_row n) l = test VALUE (ltb n (rows g)) ∷ []
own_tests g (set_column n) l = test VALUE (ltb n (columns g)) ∷ []
own_tests g (set_screen_mode n) l = test VALUE (leb n 1) ∷ []
own_tests g (set_print_mode n) l = test VALUE (leb n 2) ∷ []
own_tests g blink_cursor l = []
own_tests g clear_cursor l = []
own_tests g take_dirty_area l = []
own_tests g (send k) l = test PANEL (ltb k g.panels) ∷ []

-- what each call tests first
abbrev pub entry_tests : Geometry → Lending → Lent → List Test
entry_tests g t l = lent_test g l.rec (lengths_fit g t l) ∷ state_tests g t l

unfoldable pub refusals : Geometry → Call → Lent → List Test
refusals g c l = entry_tests g (takes c) l ++ own_tests g c l

-- how many numbers stand beside the code in a call's result
abbrev pub numbers : Call → ℕ
numbers (opening graphics text version keys edge) = 0
numbers reset = 0
numbers (draw s) = 0
numbers (check_point x y) = 1
numbers (print bs) = 0
numbers newline = 0
numbers cls = 0
numbers (write_byte a v) = 0
numbers (flush f) = 0
numbers get_row = 1
numbers get_column = 1
numbers (set_row n) = 0
numbers (set_column n) = 0
numbers (set_screen_mode n) = 0
numbers (set_print_mode n) = 0
numbers blink_cursor = 0
numbers clear_cursor = 0
numbers take_dirty_area = 4
numbers (send k) = 4

-- ---- what an accepted call does

-- what horizontal lines do at the edge, by the record that is lent
abbrev pub edge_in : Geometry → Lent → Edge
edge_in g l = edge_of (decode g l.rec).edge

-- a drawing over the screen in memory, and the head that f makes
unfoldable pub drawing_with : Geometry → (Head → Head) → Drawing → Lent → Lent
drawing_with g f d l =
    let s = decode g l.rec in
    let o = drawn_on g.stride (height g) d (screen_of g s.head.graphics l.memory) in
    lent (encode g (marked g o.dirty o.owed (with_head (f s.head) s))) (with_screen s.head.graphics o.screen l.memory) l.panel

abbrev pub drawing : Geometry → Drawing → Lent → Lent
drawing g d l = drawing_with g (λ h. h) d l

-- the head alone changes
unfoldable pub changed : Geometry → (Head → Head) → Lent → Lent
changed g f l = let s = decode g l.rec in lent (encode g (with_head (f s.head) s)) l.memory l.panel

-- `cls`, with the screen mode n
unfoldable pub cleared : Geometry → ℕ → Lent → Lent
cleared g n l = let s = decode g l.rec in lent (encode g (cleared_state g n s)) (cleared_memory g s.head l.memory) l.panel

-- the page p takes the place of the old one
unfoldable pub with_page : Geometry → Page → Lent → Lent
with_page g p l = let s = decode g l.rec in lent (encode g (state_with_page g p s)) (memory_with_page g p s.head l.memory) l.panel

-- in Graph a blink does nothing
unfoldable pub blinked : Geometry → Lent → Lent
blinked g l =
    let h = (decode g l.rec).head in
    cond (eqb h.screen 0) (drawing_with g (blink_head g l.memory) (blink_drawing g (edge_in g l) h l.memory) l) l

-- without a cursor nothing; else a blink, which in Text leaves none shown, and in Graph none is shown all the same
unfoldable pub cursor_cleared : Geometry → Lent → Lent
cursor_cleared g l =
    let h = (decode g l.rec).head in
    cond (eqb h.cursor 0) l (cond (eqb h.screen 0) (blinked g l) (changed g (with_cursor 0) l))

abbrev pub flag : Bool → ℕ
flag b = cond b 1 0

abbrev pub rect_numbers : Rect → List ℕ
rect_numbers q = q.left ∷ q.top ∷ q.right ∷ q.bottom ∷ []

unfoldable pub done : Geometry → Call → Lent → Outcome
done g (opening graphics text version keys edge) l =
    answered 0 [] (lent (encode g (open_state g graphics text version keys edge)) (clear_memory keys) l.panel)
done g reset l =
    let s = decode g l.rec in
    answered 0 [] (lent (encode g (reset_state g s)) (clear_memory s.keys) l.panel)
done g (draw s) l = answered 0 [] (drawing g (drawing_of g (edge_in g l) l.memory s) l)
done g (check_point x y) l =
    answered 0 (flag (is_set g.stride (height g) (screen_of g (decode g l.rec).head.graphics l.memory) x y) ∷ []) l
done g (print bs) l =
    let s = decode g l.rec in
    answered 0 [] (with_page g (print_on (rows g) (columns g) (is_inverse s.head.print) bs (page_of g s l.memory)) l)
done g newline l = answered 0 [] (with_page g (newline_on (rows g) (columns g) (page_of g (decode g l.rec) l.memory)) l)
done g cls l = answered 0 [] (cleared g (decode g l.rec).head.screen l)
done g (write_byte a v) l =
    let s = decode g l.rec in
    let m = poke_mark g s.keys s.head.graphics a in
    answered 0 [] (lent (encode g (marked g m m s)) (poked s.keys a v l.memory) l.panel)
done g (flush f) l =
    let s = decode g l.rec in
    let m = whole g.stride (height g) in
    answered 0 [] (lent (encode g (marked g m m s)) (with_screen s.head.graphics (flushed g f s l.memory) l.memory) l.panel)
done g get_row l = answered 0 ((decode g l.rec).head.row ∷ []) l
done g get_column l = answered 0 ((decode g l.rec).head.column ∷ []) l
done g (set_row n) l = answered 0 [] (changed g (with_row n) l)
done g (set_column n) l = answered 0 [] (changed g (with_column n) l)
done g (set_screen_mode n) l = answered 0 [] (cleared g n l)
done g (set_print_mode n) l = answered 0 [] (changed g (with_print_mode n) l)
done g blink_cursor l = answered 0 [] (blinked g l)
done g clear_cursor l = answered 0 [] (cursor_cleared g l)
done g take_dirty_area l = answered 0 (rect_numbers (decode g l.rec).head.dirty) (changed g (with_dirty none) l)
done g (send k) l =
    let s = decode g l.rec in
    let p = panel_of g s k in
    answered 0 (send_numbers p)
    (lent (encode g (with_panel k (send_pending p) s)) l.memory (send_panel g.stride p (screen_of g s.head.graphics l.memory) l.panel))

-- ---- the outcome on every input: a refusal leaves all bytes, and its other numbers are 0

unfoldable pub refused : Call → Lent → ℕ → Outcome
refused c l k = answered k (nought (numbers c)) l

unfoldable pub outcome : Geometry → Call → Lent → Outcome
outcome g c l = ruled (refusal (refusals g c l)) (refused c l) (done g c l)

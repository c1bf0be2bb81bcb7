-- Calls in any order: what a list of calls leaves, and what is said of it.
use Rattle.std.specs.Prelude.{Bool, true, false, cond, List, [], ◌∷◌, ◌≢◌, ◌≡◌, ℕ, zero, suc, ◌+◌, ◌/◌, ◌<◌, eqb, length, get_or, set}
use Rattle.model.specs.Geometry.{Geometry, width, height, rows, columns}
use Rattle.model.specs.Pixels.{bit, seen}
use Rattle.model.specs.Rects.{Rect, none, lines_of}
use Rattle.model.specs.Record.{Pending, decode}
use Rattle.model.specs.Bytes.{Bytes, Words}
use Rattle.model.specs.Refusals.{refusal}
use Rattle.model.specs.Marks.{Drawing, whole, owing, owes}
use Rattle.model.specs.Open.{open_pending}
use Rattle.model.specs.Shapes.{TypedShape, drawing_of}
use Rattle.model.specs.Poke.{poke_mark}
use Rattle.model.specs.Sends.{send_pending}
use Rattle.model.specs.Calls.{Call, opening, reset, draw, check_point, write_byte, flush, get_row, get_column, set_row, set_column, set_print_mode, take_dirty_area, send, Lent, lent, Lending, to_open, record_only, with_memory, with_fonts, with-panel, takes, edge_in, refusals, outcome, print, newline, cls, set_screen_mode, blink_cursor, clear_cursor}
use Rattle.model.specs.Print.{Page, newline_on, is_inverse, print_on, page_of, screen_scrolls, scroll_mark}
use Rattle.model.specs.Cursor.{blink_drawing}

-- ---- lists of calls

abbrev pub accepted : Geometry → Call → Lent → Type 0
accepted g c l = refusal (refusals g c l) ≡ 0

-- the numbers of a call are numbers of the types that the C interface gives them
abbrev pub Typed : Call → Type 0
Typed (opening graphics text version keys edge) = (length keys ≡ 8) × Words keys
Typed reset = Unit {0}
Typed (draw s) = TypedShape s
Typed (check_point x y) = Unit {0}
Typed (print bs) = Bytes bs
Typed newline = Unit {0}
Typed cls = Unit {0}
Typed (write_byte a v) = (a < 65536) × (v < 256)
Typed (flush f) = Unit {0}
Typed get_row = Unit {0}
Typed get_column = Unit {0}
Typed (set_row n) = n < 256
Typed (set_column n) = n < 256
Typed (set_screen_mode n) = n < 256
Typed (set_print_mode n) = n < 256
Typed blink_cursor = Unit {0}
Typed clear_cursor = Unit {0}
Typed take_dirty_area = Unit {0}
Typed (send k) = k < 256

-- An item of a list: a call that is lent what it takes of what the last accepted call left, and may be accepted or refused; or a refused call that is lent other
-- buffers.
pub data Item (g : Geometry) : Type 0 where
  here : (c : Call) → Typed c → Item g
  elsewhere : (c : Call) (l : Lent) → (accepted g c l → ⊥) → Item g

-- what stands between the calls of a list: a record, a memory, and a buffer for each panel
pub record Buffers : Type 0 where
  pub rec : List ℕ
  pub memory : List ℕ
  pub panels : List (List ℕ)

abbrev pub buffers : List ℕ → List ℕ → List (List ℕ) → Buffers
buffers r m ps = record { rec = r; memory = m; panels = ps }

-- the buffer of panel k, `[]` where there is none
abbrev pub panel_buffer : ℕ → Buffers → List ℕ
panel_buffer k b = get_or b.panels k []

-- what a send to panel k is lent
abbrev pub lent_to_send : ℕ → Buffers → Lent
lent_to_send k b = lent b.rec b.memory (panel_buffer k b)

-- what a call takes of them: a send the buffer of the panel that it names, any other call none
unfoldable pub lent_to : Lending → Buffers → Lent
lent_to to_open b = lent b.rec b.memory []
lent_to record_only b = lent b.rec [] []
lent_to with_memory b = lent b.rec b.memory []
lent_to (with_fonts f) b = lent b.rec b.memory []
lent_to (with-panel k) b = lent_to_send k b

-- these given back as the call left them, l; what it was not lent stands as before
unfoldable pub given_back : Lending → Buffers → Lent → Buffers
given_back to_open b l = buffers l.rec l.memory b.panels
given_back record_only b l = buffers l.rec b.memory b.panels
given_back with_memory b l = buffers l.rec l.memory b.panels
given_back (with_fonts f) b l = buffers l.rec l.memory b.panels
given_back (with-panel k) b l = buffers l.rec l.memory (set b.panels k l.panel)

-- what stands after a call that is lent what it takes
unfoldable pub leaves : Geometry → Call → Buffers → Buffers
leaves g c b = given_back (takes c) b (outcome g c (lent_to (takes c) b)).left

-- what stands after an item
unfoldable pub after : (g : Geometry) → Buffers → Item g → Buffers
after g b (here c t) = leaves g c b
after g b (elsewhere c l r) = b

unfoldable pub run : (g : Geometry) → Buffers → List (Item g) → Buffers
run g b [] = b
run g b (i ∷ is) = run g (after g b i) is

-- ---- owed, in hand and lines sent of a panel, reckoned from the list

-- what an accepted call does to those of the panels
pub data Effect : Type 0 where
  nothing : Effect
  marks : Rect → Effect
  -- with the edge flag
  opens : ℕ → Effect
  -- to the panel of that number
  sends : ℕ → Effect

-- a drawing adds what it owes
abbrev pub draws : Geometry → Drawing → Effect
draws g d = marks (owes g.stride (height g) d.owed (seen g.stride (height g) d.writes))

-- a page that has scrolled in Graph
abbrev pub prints : Geometry → Page → Lent → Effect
prints g p l = marks (scroll_mark g.stride (height g) (screen_scrolls (decode g l.rec).head.screen p.scrolls))

-- a blink in Text
unfoldable pub blinks : Geometry → Lent → Effect
blinks g l =
    let h = (decode g l.rec).head in
    cond (eqb h.screen 0) (draws g (blink_drawing g (edge_in g l) h l.memory)) nothing

-- what each call does where it is accepted, in the state that the calls before it leave
unfoldable pub effect : Geometry → Call → Lent → Effect
effect g (opening graphics text version keys edge) l = opens edge
effect g reset l = marks (whole g.stride (height g))
effect g (draw s) l = draws g (drawing_of g (edge_in g l) l.memory s)
effect g (check_point x y) l = nothing
effect g (print bs) l =
    let s = decode g l.rec in prints g (print_on (rows g) (columns g) (is_inverse s.head.print) bs (page_of g s l.memory)) l
effect g newline l = prints g (newline_on (rows g) (columns g) (page_of g (decode g l.rec) l.memory)) l
effect g cls l = marks (whole g.stride (height g))
effect g (write_byte a v) l = let s = decode g l.rec in marks (poke_mark g s.keys s.head.graphics a)
effect g (flush f) l = marks (whole g.stride (height g))
effect g get_row l = nothing
effect g get_column l = nothing
effect g (set_row n) l = nothing
effect g (set_column n) l = nothing
effect g (set_screen_mode n) l = marks (whole g.stride (height g))
effect g (set_print_mode n) l = nothing
effect g blink_cursor l = blinks g l
effect g clear_cursor l = cond (eqb (decode g l.rec).head.cursor 0) nothing (blinks g l)
effect g take_dirty_area l = nothing
effect g (send j) l = sends j

-- a send reaches the panel that it names alone
unfoldable pub affected : Geometry → ℕ → Pending → Effect → Pending
affected g k p nothing = p
affected g k p (marks m) = owing g m p
affected g k p (opens edge) = open_pending g
affected g k p (sends j) = cond (eqb j k) (send_pending p) p

-- a refused call does nothing to them
unfoldable pub effect_at : ℕ → Effect → Effect
effect_at zero e = e
effect_at (suc k) e = nothing

unfoldable pub item_effect : (g : Geometry) → Buffers → Item g → Effect
item_effect g b (here c t) = let l = lent_to (takes c) b in effect_at (refusal (refusals g c l)) (effect g c l)
item_effect g b (elsewhere c l r) = nothing

unfoldable pub reckoned : (g : Geometry) → ℕ → Pending → Buffers → List (Item g) → Pending
reckoned g k p b [] = p
reckoned g k p b (i ∷ is) = reckoned g k (affected g k p (item_effect g b i)) (after g b i) is

-- ---- the edge flag, from the list: open alone changes it

unfoldable pub edge_after : Effect → ℕ → ℕ
edge_after nothing n = n
edge_after (marks m) n = n
edge_after (opens edge) n = edge
edge_after (sends j) n = n

unfoldable pub last_edge : (g : Geometry) → ℕ → Buffers → List (Item g) → ℕ
last_edge g n b [] = n
last_edge g n b (i ∷ is) = last_edge g (edge_after (item_effect g b i) n) (after g b i) is

-- ---- L, and the pixels that differ

unfoldable pub owed_lines : List Rect → ℕ
owed_lines [] = 0
owed_lines (r ∷ rs) = lines_of r + owed_lines rs

-- L: the heights of what is in hand and of what each band owes
unfoldable pub lines_left : Pending → ℕ
lines_left p = lines_of p.hand + owed_lines p.owed

-- what is owed in line y's own band
abbrev pub own_band : Geometry → List Rect → ℕ → Rect
own_band g owed y = get_or owed (y / g.band) none

-- a pixel differs when its bits on screen and panel do
abbrev pub Differs : Geometry → List ℕ → List ℕ → ℕ → ℕ → Type 0
Differs g s p x y = bit g.stride s x y ≢ bit g.stride p x y

unfoldable pub differs : Bool → Bool → ℕ
differs true true = 0
differs true false = 1
differs false true = 1
differs false false = 0

unfoldable pub sum : ℕ → (ℕ → ℕ) → ℕ
sum zero f = 0
sum (suc n) f = sum n f + f n

-- how many pixels differ
unfoldable pub differing : Geometry → List ℕ → List ℕ → ℕ
differing g s p = sum (height g) (λ y. sum (width g) (λ x. differs (bit g.stride s x y) (bit g.stride p x y)))

-- The record: a list of parts, in the order in which they stand. Each part has its size, its reader, its writer and its STATE test; where a part begins, the
-- record's length, `decode`, `encode` and `valid` follow from the list. No other file has an offset as a number.
use Rattle.std.specs.Prelude.{Bool, true, false, cond, ◌&&◌, ◌||◌, not, List, [], ◌∷◌, ◌++◌, ℕ, zero, suc, ◌+◌, ◌-◌, ◌*◌, ◌<◌, ◌≡◌, leb, ltb, eqb, length, get_or, set, replicate}
use Rattle.model.specs.declared.Head.{Head}
use Rattle.model.specs.Geometry.{Geometry, width, height, screen_bytes, rows, columns, cells}
use Rattle.model.specs.Memory.{window}
use Rattle.model.specs.Rects.{Rect, none, every, fits}
use Rattle.model.specs.Bytes.{two, four, rect_at, rects_at, words_at, two_bytes, four_bytes, rect_bytes, rects_bytes, words_bytes, Words}
use Rattle.model.specs.Flags.{flag_bytes, flags_in, bytes_of_flags, flags_fit}

-- what one panel has still to be sent: the owed area, a rectangle for each band, the rectangle in hand and the count of lines sent
pub record Pending : Type 0 where
  pub owed : List Rect
  pub hand : Rect
  pub sent : ℕ

-- what the bytes of a record mean
pub record State : Type 0 where
  pub head : Head
  -- one for each panel
  pub panels : List Pending
  -- eight words of 32 bits
  pub keys : List ℕ
  -- one for each text cell
  pub flags : List Bool
  -- what horizontal lines do at the edge of the screen
  pub edge : ℕ

-- ---- the parts, and the order in which they stand

pub data RecordPart : Type 0 where
  -- bases, row, column, modes, cursor, version, dirty
  head : RecordPart
  -- owed, in hand and lines sent of a panel
  panel : ℕ → RecordPart
  keys : RecordPart
  flags : RecordPart
  edge : RecordPart

-- n panels, the first of them k
abbrev pub panels_from : ℕ → ℕ → List RecordPart
panels_from k zero = []
panels_from k (suc n) = panel k ∷ panels_from (suc k) n

-- what stands behind the panels
abbrev pub last_parts : List RecordPart
last_parts = edge ∷ []

abbrev pub layout : Geometry → List RecordPart
layout g = head ∷ panel 0 ∷ keys ∷ flags ∷ (panels_from 1 (g.panels - 1) ++ last_parts)

-- ---- sizes

abbrev pub head_bytes : ℕ
head_bytes = 18

abbrev pub pending_bytes : Geometry → ℕ
pending_bytes g = 8 * g.bands + 12

abbrev pub size : Geometry → RecordPart → ℕ
size g head = head_bytes
size g (panel k) = pending_bytes g
size g keys = 32
size g flags = flag_bytes (cells g)
size g edge = 1

-- ---- readers: the bytes of a part to its fields

abbrev pub head_of : List ℕ → Head
head_of r = record {
  graphics = two r 0;
  text = two r 2;
  row = get_or r 4 0;
  column = get_or r 5 0;
  screen = get_or r 6 0;
  print = get_or r 7 0;
  cursor = get_or r 8 0;
  version = get_or r 9 0;
  dirty = rect_at r 10;
}

-- the pending part that begins at byte i
abbrev pub pending_of : Geometry → List ℕ → ℕ → Pending
pending_of g r i = record {
  owed = rects_at g.bands r i;
  hand = rect_at r (i + 8 * g.bands);
  sent = four r (i + 8 * g.bands + 8);
}

abbrev pub keys_of : List ℕ → List ℕ
keys_of r = words_at 8 r 0

abbrev pub edge_byte : List ℕ → ℕ
edge_byte r = get_or r 0 0

-- ---- writers: the fields of a part to its bytes

abbrev pub bytes_of_head : Head → List ℕ
bytes_of_head h =
    two_bytes h.graphics ++ two_bytes h.text ++
    (h.row ∷ h.column ∷ h.screen ∷ h.print ∷ h.cursor ∷ h.version ∷ []) ++
    rect_bytes h.dirty

abbrev pub bytes_of_pending : Pending → List ℕ
bytes_of_pending p = rects_bytes p.owed ++ (rect_bytes p.hand ++ four_bytes p.sent)

-- nothing owed, nothing in hand, nothing sent
unfoldable pub nothing_pending : Geometry → Pending
nothing_pending g = record { owed = replicate g.bands none; hand = none; sent = 0 }

abbrev pub panel_of : Geometry → State → ℕ → Pending
panel_of g s k = get_or s.panels k (nothing_pending g)

unfoldable pub part_bytes : Geometry → State → RecordPart → List ℕ
part_bytes g s head = bytes_of_head s.head
part_bytes g s (panel k) = bytes_of_pending (panel_of g s k)
part_bytes g s keys = words_bytes s.keys
part_bytes g s flags = bytes_of_flags s.flags
part_bytes g s edge = s.edge ∷ []

-- ---- tests: what STATE asks of the bytes of a part

-- WINDOW: both windows end before the last byte of memory and share no byte
abbrev pub window_tests : Geometry → ℕ → ℕ → List Bool
window_tests g graphics text =
    leb graphics (65535 - screen_bytes g) ∷ leb text (65535 - cells g) ∷
    (leb (graphics + screen_bytes g) text || leb (text + cells g) graphics) ∷ []

unfoldable pub windows : Geometry → ℕ → ℕ → Bool
windows g graphics text = every (window_tests g graphics text)

abbrev pub head_tests : Geometry → Head → List Bool
head_tests g h =
    windows g h.graphics h.text ∷
    ltb h.row (rows g) ∷ ltb h.column (columns g) ∷
    leb h.screen 1 ∷ leb h.print 2 ∷ leb h.cursor 2 ∷ leb h.version 1 ∷
    fits 256 0 256 h.dirty ∷ []

unfoldable pub head_fits : Geometry → Head → Bool
head_fits g h = every (head_tests g h)

-- the edge flag is listed
abbrev pub edge_fits : ℕ → Bool
edge_fits n = leb n 1

-- each rectangle lies in its band; the first band begins at line lo
unfoldable pub bands_fit : ℕ → ℕ → ℕ → List Rect → Bool
bands_fit w band lo [] = true
bands_fit w band lo (q ∷ qs) = fits w lo (lo + band) q && bands_fit w band (lo + band) qs

unfoldable pub pending_fits : Geometry → Pending → Bool
pending_fits g p = bands_fit (width g) g.band 0 p.owed && fits (width g) 0 (height g) p.hand

unfoldable pub part_fits : Geometry → RecordPart → List ℕ → Bool
part_fits g head c = head_fits g (head_of c)
part_fits g (panel k) c = pending_fits g (pending_of g c 0)
part_fits g keys c = true
part_fits g flags c = flags_fit (cells g) c
part_fits g edge c = edge_fits (edge_byte c)

-- ---- what follows from a list of parts, whatever they are

-- a number for each part, no number twice
abbrev pub tag : RecordPart → ℕ
tag head = 0
tag keys = 1
tag flags = 2
tag edge = 3
tag (panel k) = suc (suc (suc (suc k)))

abbrev pub same_part : RecordPart → RecordPart → Bool
same_part p q = eqb (tag p) (tag q)

unfoldable pub has : RecordPart → List RecordPart → Bool
has q [] = false
has q (p ∷ ps) = same_part q p || has q ps

-- no part stands twice
unfoldable pub distinct : List RecordPart → Bool
distinct [] = true
distinct (p ∷ ps) = not (has p ps) && distinct ps

-- the bytes of all parts, one after another
unfoldable pub written : (RecordPart → List ℕ) → List RecordPart → List ℕ
written f [] = []
written f (p ∷ ps) = f p ++ written f ps

unfoldable pub total : (RecordPart → ℕ) → List RecordPart → ℕ
total n [] = 0
total n (p ∷ ps) = n p + total n ps

-- where the part q begins
unfoldable pub offset : (RecordPart → ℕ) → RecordPart → List RecordPart → ℕ
offset n q [] = 0
offset n q (p ∷ ps) = cond (same_part q p) 0 (n p + offset n q ps)

-- every part passes
unfoldable pub all : (RecordPart → Bool) → List RecordPart → Bool
all t [] = true
all t (p ∷ ps) = t p && all t ps

-- ---- the record

abbrev pub record_bytes : Geometry → ℕ
record_bytes g = total (size g) (layout g)

abbrev pub at : Geometry → RecordPart → ℕ
at g p = offset (size g) p (layout g)

-- the bytes of a part
abbrev pub part_in : Geometry → RecordPart → List ℕ → List ℕ
part_in g p r = window (at g p) (size g p) r

-- f k ∷ f (k + 1) ∷ .., n of them
unfoldable pub listing : {A : Type 0} → (ℕ → A) → ℕ → ℕ → List A
listing f k zero = []
listing f k (suc n) = f k ∷ listing f (suc k) n

unfoldable pub decode : Geometry → List ℕ → State
decode g r = record {
  head = head_of (part_in g head r);
  panels = listing (λ k. pending_of g (part_in g (panel k) r) 0) 0 g.panels;
  keys = keys_of (part_in g keys r);
  flags = flags_in (cells g) (part_in g flags r);
  edge = edge_byte (part_in g edge r);
}

unfoldable pub encode : Geometry → State → List ℕ
encode g s = written (part_bytes g s) (layout g)

-- the bytes of a record pass STATE
unfoldable pub valid : Geometry → List ℕ → Bool
valid g r = all (λ p. part_fits g p (part_in g p r)) (layout g)

-- ---- the state with one part changed

abbrev pub with_head : Head → State → State
with_head h s = record { head = h; panels = s.panels; keys = s.keys; flags = s.flags; edge = s.edge }

abbrev pub with_panels : List Pending → State → State
with_panels ps s = record { head = s.head; panels = ps; keys = s.keys; flags = s.flags; edge = s.edge }

abbrev pub with_panel : ℕ → Pending → State → State
with_panel k p s = with_panels (set s.panels k p) s

abbrev pub with_key_words : List ℕ → State → State
with_key_words ks s = record { head = s.head; panels = s.panels; keys = ks; flags = s.flags; edge = s.edge }

abbrev pub with_flags : List Bool → State → State
with_flags fs s = record { head = s.head; panels = s.panels; keys = s.keys; flags = fs; edge = s.edge }

abbrev pub with_edge : ℕ → State → State
with_edge n s = record { head = s.head; panels = s.panels; keys = s.keys; flags = s.flags; edge = n }

-- ---- a state that is what some record that passes STATE means

pub record WellPending (g : Geometry) (p : Pending) : Type 0 where
  pub passes : pending_fits g p ≡ true
  pub bands : length p.owed ≡ g.bands
  pub counted : p.sent < 4294967296

pub record WellFormed (g : Geometry) (s : State) : Type 0 where
  pub head : head_fits g s.head ≡ true
  pub count : length s.panels ≡ g.panels
  pub panels : (k : ℕ) → k < g.panels → WellPending g (panel_of g s k)
  pub words : length s.keys ≡ 8
  pub keys : Words s.keys
  pub flags : length s.flags ≡ cells g
  pub edge : edge_fits s.edge ≡ true

-- Calls in any order, on any glass: what is promised of panel k, of the record, the memory and its buffer, after an accepted open and every list of calls.
-- BaseNumbers has the sizes and the bound in numbers, for document 01's glass, `base`.
-- Call, takes and outcome stand in crates/model/specs/Calls.antt; Buffers, Item, lent_to, run, reckoned, last_edge, lines_left, own_band, Differs and differing in Lists.antt there;
-- IsGlass, what is asked of a glass, in Glass.antt there; accepted_calls, left_by and named in Accepted.antt here. docs/THEOREM.md says it in words.
use Rattle.std.specs.Prelude.{◌≡◌, ◌⊎◌, ◌↔◌, true, List, [], ◌∷◌, map, ℕ, ◌+◌, ◌-◌, ◌≤◌, ◌<◌, length, replicate}
use Rattle.model.specs.Geometry.{Geometry, base, width, height, screen_bytes, memory_bytes}
use Rattle.model.specs.Memory.{screen_of}
use Rattle.model.specs.Rects.{In}
use Rattle.model.specs.Record.{Pending, nothing_pending, panel_of, decode, record_bytes, valid}
use Rattle.model.specs.Calls.{send, outcome}
use Rattle.model.specs.Lists.{accepted, Typed, Item, here, Buffers, panel_buffer, lent_to_send, run, reckoned, last_edge, lines_left, own_band, Differs, differing}
use Rattle.order.specs.Accepted.{accepted_calls, left_by, named}

-- owed, in hand and lines sent of panel k as the record has them
abbrev pub pending_in : Geometry → ℕ → Buffers → Pending
pending_in g k b = panel_of g (decode g b.rec) k

-- its L
abbrev pub lines_in : Geometry → ℕ → Buffers → ℕ
lines_in g k b = lines_left (pending_in g k b)

-- all lines owed, and a band in hand of which a line has been sent
abbrev pub most_lines : Geometry → ℕ
most_lines g = (g.band - 1) + height g

abbrev pub screen_in : Geometry → Buffers → List ℕ
screen_in g b = screen_of g (decode g b.rec).head.graphics b.memory

-- what is promised of panel k and the bytes b that stand after a list of items, the first of which was lent what it takes of the bytes start
pub record Promised (g : Geometry) (k : ℕ) (start : Buffers) (items : List (Item g)) (b : Buffers) : Type 0 where
  -- the bytes have the lengths that LENT asks for
  pub record_length : length b.rec ≡ record_bytes g
  pub memory_length : length b.memory ≡ memory_bytes
  pub panel_length : length (panel_buffer k b) ≡ screen_bytes g
  -- the record passes STATE
  pub passes : valid g b.rec ≡ true
  -- so a send to panel k that is lent these bytes is accepted
  pub sendable : accepted g (send k) (lent_to_send k b)
  -- owed, in hand and lines sent are those reckoned from the list, which start from nothing
  pub pending : pending_in g k b ≡ reckoned g k (nothing_pending g) start items
  -- record, memory and all panels are what the accepted calls leave, one after another; refused ones leave all bytes
  pub left-by : b ≡ left_by g start (accepted_calls g start items)
  -- the edge flag is that of the last accepted open: no other call changes it
  pub edge : (decode g b.rec).edge ≡ last_edge g 0 start items
  -- L is at most most_lines, on the base 95
  pub bound : lines_in g k b ≤ most_lines g
  -- a pixel that differs on screen and panel lies in hand or in what its own band owes
  pub places : (x y : ℕ) → x < width g → y < height g → Differs g (screen_in g b) (panel_buffer k b) x y
      → In (pending_in g k b).hand x y ⊎ In (own_band g (pending_in g k b).owed y) x y
  -- refused calls and accepted sends to the panels js may follow, in any order: the first that names k is done, and answers idle, which is four zeros, exactly
  -- when L is 0 ..
  pub idle : (more : List (Item g)) (js : List ℕ) → accepted_calls g b more ≡ map send js → named k js ≡ 0
      → let o = outcome g (send k) (lent_to_send k (run g b more)) in (o.code ≡ 0) × ((o.numbers ≡ 0 ∷ 0 ∷ 0 ∷ 0 ∷ []) ↔ (lines_in g k b ≡ 0))
  -- .. each that names k lowers L by one until it is 0 ..
  pub lines : (more : List (Item g)) (js : List ℕ) → accepted_calls g b more ≡ map send js → lines_in g k (run g b more) ≡ lines_in g k b - named k js
  -- .. and no pixel differs after them where L or more of them name k
  pub level : (more : List (Item g)) (js : List ℕ) → accepted_calls g b more ≡ map send js → lines_in g k b ≤ named k js
      → differing g (screen_in g (run g b more)) (panel_buffer k (run g b more)) ≡ 0
  -- L sends to k in a row are such a list
  pub level_row : (t : Typed (send k)) → let b' = run g b (replicate (lines_in g k b) (here (send k) t)) in differing g (screen_in g b') (panel_buffer k b') ≡ 0

-- ---- document 01's glass

-- what is said in numbers there
pub record BaseNumbers : Type 0 where
  pub record-bytes : record_bytes base ≡ 359
  pub memory-bytes : memory_bytes ≡ 65536
  pub screen-bytes : screen_bytes base ≡ 1600
  pub wide : width base ≡ 160
  pub high : height base ≡ 80
  pub panels : base.panels ≡ 4
  pub most-lines : most_lines base ≡ 95

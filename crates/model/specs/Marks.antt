-- Marks: what a call adds to dirty, and what each panel is owed for it.
use Rattle.std.specs.Prelude.{Bool, true, cond, ◌&&◌, List, [], ◌∷◌, map, ℕ, ◌+◌, ◌*◌}
use Rattle.model.specs.declared.Head.{Head}
use Rattle.model.specs.Geometry.{Geometry, width}
use Rattle.model.specs.declared.Marks.{Marks}
use Rattle.model.specs.Pixels.{PixelWrite, draw, seen}
use Rattle.model.specs.Rects.{Rect, inside, join, cut}
use Rattle.model.specs.Record.{Pending, State, with_head, with_panels}

abbrev pub whole : ℕ → ℕ → Rect
whole st h = record { left = 0; top = 0; right = 8 * st; bottom = h }

-- ---- dirty

abbrev pub with_dirty : Rect → Head → Head
with_dirty q h = record {
  graphics = h.graphics;
  text = h.text;
  row = h.row;
  column = h.column;
  screen = h.screen;
  print = h.print;
  cursor = h.cursor;
  version = h.version;
  dirty = q;
}

-- `update_dirty_area`
unfoldable pub update_dirty : Rect → Head → Head
update_dirty m h = with_dirty (join h.dirty m) h

-- ---- owed

-- the mark m cut at the edges of the screen and of its bands, the first from line lo, and each part joined to its band's rectangle
unfoldable pub join_owed : ℕ → ℕ → ℕ → Rect → List Rect → List Rect
join_owed w band lo m [] = []
join_owed w band lo m (r ∷ rs) = join r (cut w lo (lo + band) m) ∷ join_owed w band (lo + band) m rs

unfoldable pub owing : Geometry → Rect → Pending → Pending
owing g m p = record { owed = join_owed (width g) g.band 0 m p.owed; hand = p.hand; sent = p.sent }

-- every write lies in r
unfoldable pub within : Rect → List PixelWrite → Bool
within r [] = true
within r (w ∷ ws) = inside r w.x w.y && within r ws

-- what a call owes for its writes on the screen: m, or the whole screen where one of them lies outside m
unfoldable pub owes : ℕ → ℕ → Rect → List PixelWrite → Rect
owes st h m ws = cond (within m ws) m (whole st h)

-- ---- a state marked: dirty in the head, and what is owed to each panel

abbrev pub owing_each : Geometry → Rect → State → State
owing_each g m s = with_panels (map (owing g m) s.panels) s

unfoldable pub marked : Geometry → Rect → Rect → State → State
marked g dirty owed s = with_head (update_dirty dirty s.head) (owing_each g owed s)

-- A drawing: its pixel writes in their order, those off the screen too, which draw nothing; the dirty rectangle that it marks, empty where it marks
-- nothing; and what it owes for that, lowered where document 01 lowers it.
pub record Drawing : Type 0 where
  pub writes : List PixelWrite
  pub dirty : Rect
  pub owed : Rect

-- what a drawing leaves on a screen: its marks, and the screen
pub record Drawn : Type 0 where
  pub dirty : Rect
  pub owed : Rect
  pub screen : List ℕ

unfoldable pub drawn_on : ℕ → ℕ → Drawing → List ℕ → Drawn
drawn_on st h d s = record { dirty = d.dirty; owed = owes st h d.owed (seen st h d.writes); screen = draw st (seen st h d.writes) s }

-- the marks that a drawing function returns, and the screen that it leaves
unfoldable pub drawn : Marks → List ℕ → Drawn
drawn m s = record { dirty = m.dirty; owed = m.owed; screen = s }

-- The place of the next cell as the head has it, and a page that has been written up to a place.
use Rattle.std.specs.Prelude.{◌≡◌, List, ℕ}
use Rattle.model.specs.declared.Head.{Head}
use Rattle.model.specs.Geometry.{Geometry, height}
use Rattle.model.specs.Rects.{none}
use Rattle.model.specs.Record.{decode, encode, with_head}
use Rattle.model.specs.Marks.{marked}
use Rattle.model.specs.Text.{at_place}
use Rattle.model.specs.Print.{screen_scrolls, scroll_mark, scrolled_memory}
use Rattle.text.specs.declared.page.Place.{Place}

abbrev pub place_of : Head → Place
place_of h = record { row = h.row; column = h.column; scrolls = 0 }

-- record and memory with the head at p, and with the screen scrolled and owed where p says so
pub record PageStored (g : Geometry) (r m : List ℕ) (p : Place) (s n : List ℕ) : Type 0 where
  pub rec : let x = decode g r in
      s ≡ encode g (marked g none (scroll_mark g.stride (height g) (screen_scrolls x.head.screen p.scrolls)) (with_head (at_place p.row p.column x.head) x))
  pub memory : let h = (decode g r).head in n ≡ scrolled_memory g h.graphics (screen_scrolls h.screen p.scrolls) m

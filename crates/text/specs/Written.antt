-- The page that lent text and flags hold with a place in it, and what printing asks of it and leaves.
use Rattle.std.specs.Prelude.{◌≡◌, List, ℕ, ◌+◌, ◌*◌, ◌<◌, ◌≤◌, length}
use Rattle.model.specs.Flags.{flags_in}
use Rattle.model.specs.Print.{Page}
use Rattle.laws.specs.Flags.{HasFlags}
use Rattle.laws.specs.Pages.{Sheet}
use Rattle.text.specs.declared.page.Place.{Place}

abbrev pub page : List ℕ → List ℕ → Place → Page
page t f p = record { text = t; flags = flags_in (length t) f; row = p.row; column = p.column; scrolls = p.scrolls }

-- the next cell lies in the text
pub record Cell (columns : ℕ) (t f : List ℕ) (p : Place) : Type 0 where
  pub text : p.row * columns + p.column < length t
  pub flags : HasFlags (length t) f

-- a page with room for n more cells in its row
pub record Ready (rows columns n : ℕ) (t f : List ℕ) (p : Place) : Type 0 where
  pub sheet : Sheet rows columns n (page t f p)
  pub flags : HasFlags (length t) f

-- the page that is left, scrolled at most so often
pub record Written (q : Page) (most : ℕ) (t f : List ℕ) (p : Place) : Type 0 where
  pub page : page t f p ≡ q
  pub flags : HasFlags (length t) f
  pub scrolls : p.scrolls ≤ most

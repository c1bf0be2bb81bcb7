-- Printing: `print`, `newline` and the scrolling of text, flags and screen.
use Rattle.std.specs.Prelude.{Bool, false, not, cond, ◌&&◌, List, [], ◌∷◌, ◌++◌, ℕ, zero, suc, ◌+◌, ◌-◌, ◌*◌, leb, eqb, length, get_or, set, drop, replicate}
use Rattle.model.specs.declared.Head.{Head}
use Rattle.model.specs.declared.Rect.{Rect}
use Rattle.model.specs.Geometry.{Geometry, height, row_bytes}
use Rattle.model.specs.Rects.{none}
use Rattle.model.specs.Memory.{screen_of, with_screen, text_of, with_text}
use Rattle.model.specs.Record.{State, with_head, with_flags}
use Rattle.model.specs.Marks.{whole, marked}
use Rattle.model.specs.Text.{at_place}

-- What printing works on: the text cells and their inverse flags, row by row, where the next cell is written, and how often the text has scrolled.
pub record Page : Type 0 where
  pub text : List ℕ
  pub flags : List Bool
  pub row : ℕ
  pub column : ℕ
  pub scrolls : ℕ

-- ---- scrolling

-- the first n leave, and n blank ones follow
unfoldable pub scrolled : {A : Type 0} → ℕ → A → List A → List A
scrolled n blank l = drop n l ++ replicate n blank

-- a screen whose text rows have k bytes, scrolled n times
unfoldable pub scrolled_times : ℕ → ℕ → List ℕ → List ℕ
scrolled_times zero k s = s
scrolled_times (suc n) k s = scrolled_times n k (scrolled k 0 s)

-- ---- newline

-- text and flags move up by a row
unfoldable pub scroll_page : ℕ → Page → Page
scroll_page columns p = record {
  text = scrolled columns 0 p.text;
  flags = scrolled columns false p.flags;
  row = p.row;
  column = 0;
  scrolls = p.scrolls + 1;
}

unfoldable pub next_row : Page → Page
next_row p = record { text = p.text; flags = p.flags; row = p.row + 1; column = 0; scrolls = p.scrolls }

-- at column 0 it does nothing; at the last row it scrolls
unfoldable pub newline_on : ℕ → ℕ → Page → Page
newline_on rows columns p = cond (eqb p.column 0) p (cond (eqb (p.row + 1) rows) (scroll_page columns p) (next_row p))

-- ---- print

-- the cell that is written next
abbrev pub cell_of : ℕ → Page → ℕ
cell_of columns p = p.row * columns + p.column

-- a byte and its flag are written
unfoldable pub write_cell : ℕ → Bool → ℕ → Page → Page
write_cell columns inverse b p = record {
  text = set p.text (cell_of columns p) b;
  flags = set p.flags (cell_of columns p) inverse;
  row = p.row;
  column = p.column + 1;
  scrolls = p.scrolls;
}

abbrev pub space : ℕ
space = 32

-- a byte >= 128 met at the last column: a space there, then newline
unfoldable pub wrap : ℕ → ℕ → Bool → ℕ → Page → Page
wrap rows columns inverse b p = cond (leb 128 b && eqb (p.column + 1) columns) (newline_on rows columns (write_cell columns inverse space p)) p

-- after the last column: newline
unfoldable pub end_row : ℕ → ℕ → Page → Page
end_row rows columns p = cond (eqb p.column columns) (newline_on rows columns p) p

-- one byte
unfoldable pub print_byte : ℕ → ℕ → Bool → ℕ → Page → Page
print_byte rows columns inverse b p = end_row rows columns (write_cell columns inverse b (wrap rows columns inverse b p))

-- a byte with the next
unfoldable pub print_pair : ℕ → ℕ → Bool → ℕ → ℕ → Page → Page
print_pair rows columns inverse b c p =
    end_row rows columns (write_cell columns inverse c (write_cell columns inverse b (wrap rows columns inverse b p)))

-- a byte >= 128 that isn't the last takes the next with it
unfoldable pub print_bytes : ℕ → ℕ → Bool → List ℕ → Page → Page
print_bytes rows columns inverse [] p = p
print_bytes rows columns inverse (b ∷ []) p = print_byte rows columns inverse b p
print_bytes rows columns inverse (b ∷ c ∷ bs) p =
    cond (leb 128 b) (print_bytes rows columns inverse bs (print_pair rows columns inverse b c p))
    (print_bytes rows columns inverse (c ∷ bs) (print_byte rows columns inverse b p))

-- up to n cells from i on become 0, until one is 0 already; past the last cell none is there, which counts as 0
unfoldable pub clear_until : ℕ → ℕ → List ℕ → List ℕ
clear_until zero i t = t
clear_until (suc n) i t = cond (eqb (get_or t i 0) 0) t (clear_until n (suc i) (set t i 0))

-- the cell becomes 0, and those after it until the next is 0 already or the last is done
unfoldable pub clear_from : ℕ → List ℕ → List ℕ
clear_from i t = clear_until (length t - suc i) (suc i) (set t i 0)

unfoldable pub clear_after : ℕ → Page → Page
clear_after columns p = record { text = clear_from (cell_of columns p) p.text; flags = p.flags; row = p.row; column = p.column; scrolls = p.scrolls }

-- the flag of a print mode: 0 in Normal, 1 otherwise
unfoldable pub is_inverse : ℕ → Bool
is_inverse mode = not (eqb mode 0)

-- the bytes, then the clearing from the cursor
unfoldable pub print_on : ℕ → ℕ → Bool → List ℕ → Page → Page
print_on rows columns inverse bs p = clear_after columns (print_bytes rows columns inverse bs p)

-- ---- the page in a state and a memory

unfoldable pub page_of : Geometry → State → List ℕ → Page
page_of g s m = record { text = text_of g s.head.text m; flags = s.flags; row = s.head.row; column = s.head.column; scrolls = 0 }

-- in Graph the screen scrolls with the text
unfoldable pub screen_scrolls : ℕ → ℕ → ℕ
screen_scrolls mode n = cond (eqb mode 1) n 0

-- each scroll in Graph owes the whole screen, and marks nothing
unfoldable pub scroll_mark : ℕ → ℕ → ℕ → Rect
scroll_mark st h n = cond (eqb n 0) none (whole st h)

unfoldable pub state_with_page : Geometry → Page → State → State
state_with_page g p s =
    marked g none (scroll_mark g.stride (height g) (screen_scrolls s.head.screen p.scrolls))
    (with_head (at_place p.row p.column s.head) (with_flags p.flags s))

unfoldable pub scrolled_memory : Geometry → ℕ → ℕ → List ℕ → List ℕ
scrolled_memory g graphics n m = with_screen graphics (scrolled_times n (row_bytes g) (screen_of g graphics m)) m

unfoldable pub memory_with_page : Geometry → Page → Head → List ℕ → List ℕ
memory_with_page g p h m = scrolled_memory g h.graphics (screen_scrolls h.screen p.scrolls) (with_text h.text p.text m)

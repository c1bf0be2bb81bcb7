-- `write_byte`: a byte of memory is set from outside.
use Rattle.std.specs.Prelude.{Bool, cond, ◌&&◌, ◌||◌, List, ℕ, ◌+◌, ◌-◌, ◌*◌, ◌/◌, ◌%◌, ltb, leb, set}
use Rattle.model.specs.Geometry.{Geometry, screen_bytes}
use Rattle.model.specs.Rects.{Rect, none}
use Rattle.model.specs.Open.{is_key}

-- addresses from 0xe000 on and key addresses
unfoldable pub ignored : List ℕ → ℕ → Bool
ignored keys a = leb 57344 a || is_key keys a

unfoldable pub poked : List ℕ → ℕ → ℕ → List ℕ → List ℕ
poked keys a v m = cond (ignored keys a) m (set m a v)

-- the eight pixels of screen byte i
abbrev pub byte_rect : ℕ → ℕ → Rect
byte_rect st i = record { left = 8 * (i % st); top = i / st; right = 8 * (i % st) + 8; bottom = i / st + 1 }

unfoldable pub in_screen : Geometry → ℕ → ℕ → Bool
in_screen g graphics a = leb graphics a && ltb a (graphics + screen_bytes g)

-- the byte's eight pixels where it lies on the screen
unfoldable pub poke_mark : Geometry → List ℕ → ℕ → ℕ → Rect
poke_mark g keys graphics a = cond (ignored keys a) none (cond (in_screen g graphics a) (byte_rect g.stride (a - graphics)) none)

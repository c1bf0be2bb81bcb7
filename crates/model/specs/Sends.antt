-- Sends: what the record gives, and the copy of one line.
use Rattle.std.specs.Prelude.{cond, List, [], ◌∷◌, ℕ, ◌+◌, ◌-◌, min, ltb}
use Rattle.model.specs.Record.{Pending}
use Rattle.model.specs.Rects.{Rect, none, is_empty}
use Rattle.model.specs.Pixels.{copy_run}

-- ---- what the record gives

-- the first band that owes anything, and what is owed without it
unfoldable pub first_owed : List Rect → Rect
first_owed [] = none
first_owed (r ∷ rs) = cond (is_empty r) (first_owed rs) r

unfoldable pub rest_owed : List Rect → List Rect
rest_owed [] = []
rest_owed (r ∷ rs) = cond (is_empty r) (r ∷ rest_owed rs) (none ∷ rs)

-- with nothing in hand, owed moves into hand
unfoldable pub take_owed : Pending → Pending
take_owed p = cond (is_empty p.hand) (record { owed = rest_owed p.owed; hand = first_owed p.owed; sent = p.sent }) p

-- the top raised: empty after the last line
unfoldable pub next_line : Rect → Rect
next_line r = cond (ltb (r.top + 1) r.bottom) (record { left = r.left; top = r.top + 1; right = r.right; bottom = r.bottom }) none

-- one line sent, a count that stays at 4,294,967,295
unfoldable pub line_sent : Pending → Pending
line_sent p = record { owed = p.owed; hand = next_line p.hand; sent = min (p.sent + 1) 4294967295 }

unfoldable pub send_pending : Pending → Pending
send_pending p = cond (is_empty (take_owed p).hand) p (line_sent (take_owed p))

-- sent, line, left, right: idle is four zeros
unfoldable pub line_numbers : Rect → List ℕ
line_numbers r = 1 ∷ r.top ∷ r.left ∷ r.right ∷ []

unfoldable pub send_numbers : Pending → List ℕ
send_numbers p = cond (is_empty (take_owed p).hand) (0 ∷ 0 ∷ 0 ∷ 0 ∷ []) (line_numbers (take_owed p).hand)

-- ---- the copy of one line: the pixels from left to right of the rectangle's top line, from screen to panel

unfoldable pub copy_line : ℕ → Rect → List ℕ → List ℕ → List ℕ
copy_line st r s p = copy_run st s r.top r.left (r.right - r.left) p

unfoldable pub send_panel : ℕ → Pending → List ℕ → List ℕ → List ℕ
send_panel st p s panel = cond (is_empty (take_owed p).hand) panel (copy_line st (take_owed p).hand s panel)

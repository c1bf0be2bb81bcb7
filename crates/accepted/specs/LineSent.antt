-- What a send to panel k does: the rectangle q whose top line it sends, empty where there is none, the record, and the panel with that line.
use Rattle.std.specs.Prelude.{◌≡◌, cond, List, [], ◌∷◌, ℕ}
use Rattle.model.specs.declared.Rect.{Rect}
use Rattle.model.specs.Geometry.{Geometry}
use Rattle.model.specs.Memory.{screen_of}
use Rattle.model.specs.Rects.{is_empty}
use Rattle.model.specs.Record.{decode, encode, panel_of, with_panel}
use Rattle.model.specs.Sends.{take_owed, send_pending, send_panel, line_numbers}

pub record LineSent (g : Geometry) (k : ℕ) (r m p : List ℕ) (q : Rect) (r' p' : List ℕ) : Type 0 where
  pub line : q ≡ (take_owed (panel_of g (decode g r) k)).hand
  pub left : r' ≡ encode g (with_panel k (send_pending (panel_of g (decode g r) k)) (decode g r))
  pub panel : p' ≡ send_panel g.stride (panel_of g (decode g r) k) (screen_of g (decode g r).head.graphics m) p

-- the numbers of its answer
unfoldable pub numbers_of : Rect → List ℕ
numbers_of q = cond (is_empty q) (0 ∷ 0 ∷ 0 ∷ 0 ∷ []) (line_numbers q)

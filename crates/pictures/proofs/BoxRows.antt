-- A box whose rows lie beyond line 79.
use Rattle.std.specs.Prelude.{◌≡◌, ◌≢◌, ℕ, ◌<◌}
use Rattle.std.proofs.Common.{inr, arith}
use Rattle.model.specs.Geometry.{base}
use Rattle.model.specs.Pixels.{bit}
use Rattle.model.specs.Shapes.{box}
use Rattle.model.specs.Calls.{draw, Lent, outcome}
use Rattle.pictures.specs.Picture.{screen_in, edge_flag, Unmarked}
use Rattle.pictures.proofs.Shapes.{box_past_bottom}

-- each of its rows beyond 79 lands there, and inverts what the row before it did
pub box_row : (l : Lent) → Unmarked l → edge_flag l ≡ 0 → (x : ℕ) → x < 160 → bit 20 (screen_in (outcome base (draw (box 0 78 7 80 1 2)) l).left) x 79 ≡ bit 20 (screen_in l) x 79
box_row l u e x h =
    let n : ◌≢◌ {A = ℕ} 79 78 = λ i. omega arith in
    (box_past_bottom l u e).screen.others x 79 h (omega arith) (inr n, (inr n, (inr n, (inr n, (inr n, (inr n, (inr n, (inr n, tt))))))))

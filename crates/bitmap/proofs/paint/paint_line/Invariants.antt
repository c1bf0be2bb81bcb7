-- The loop's invariant: the rest of the line, painted on the screen as it stands, gives the whole line.
use Rattle.std.proofs.Common.{ℕ, ◌≡◌, ◌+◌, ◌-◌}
use Rattle.model.specs.Pixels.{Screen, draw}
use Rattle.model.specs.Bitmaps.{painted_line}
use Rattle.bitmap.proofs.paint.paint_line.Given as goal

abbrev pub invariant-loop-x : goal.invariant-loop-x
invariant-loop-x l =
    let a = l.clip.across in
    let rest = λ (from x : ℕ). painted_line l.clip.picture.stride l.source l.mode from l.j x l.y (a.to - x) in
    Screen l.clip.canvas.stride l.clip.canvas.height l.screen
    × (draw l.clip.canvas.stride (rest (a.skip + (l.x - a.from)) l.x) l.screen ≡ draw l.clip.canvas.stride (rest a.skip a.from) l.initial.screen)

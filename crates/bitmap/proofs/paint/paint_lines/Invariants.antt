-- The loop's invariant: the rest of the lines, painted on the screen as it stands, gives the whole bitmap.
use Rattle.std.proofs.Common.{ℕ, ◌≡◌, ◌+◌, ◌-◌}
use Rattle.model.specs.Pixels.{Screen, draw}
use Rattle.model.specs.Bitmaps.{painted_lines}
use Rattle.bitmap.proofs.paint.paint_lines.Given as goal

abbrev pub invariant-loop-y : goal.invariant-loop-y
invariant-loop-y l =
    let a = l.clip.down in
    let rest = λ (from y : ℕ). painted_lines l.clip.picture.stride l.source l.mode l.clip.across from y (a.to - y) in
    Screen l.clip.canvas.stride l.clip.canvas.height l.screen
    × (draw l.clip.canvas.stride (rest (a.skip + (l.y - a.from)) l.y) l.screen ≡ draw l.clip.canvas.stride (rest a.skip a.from) l.initial.screen)

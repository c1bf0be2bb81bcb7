-- What is left of the glyph, painted on the screen as it stands, gives what the whole gives.
use Rattle.std.proofs.Common.{◌≡◌, ◌+◌, ◌-◌, ◌*◌, ◌<◌, length, drop}
use Rattle.laws.specs.Glyphs.{paint_lines}
use Rattle.flush.proofs.glyph.paint_glyph.Given as goal

abbrev pub invariant-loop-line : goal.invariant-loop-line
invariant-loop-line l =
    (length l.screen ≡ length l.initial.screen) × (l.l + l.stride * (16 - l.line-index) < length l.initial.screen + l.stride) × (l.r + l.stride * (16 - l.line-index) < length l.initial.screen + l.stride) × (paint_lines l.stride l.l l.r l.inverse l.inverse2 (drop l.line-index l.fn.g) l.screen ≡ paint_lines l.stride l.left l.right l.inverse l.inverse2 l.fn.g l.initial.screen)

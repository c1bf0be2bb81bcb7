-- What is left of the column, painted on the screen as it stands, gives what the whole gives.
use Rattle.std.proofs.Common.{◌≡◌, ◌+◌, ◌-◌, ◌*◌, ◌<◌, length}
use Rattle.model.specs.Glyphs.{paint, column_stores}
use Rattle.flush.proofs.glyph.paint_column.Given as goal

abbrev pub invariant-loop-b : goal.invariant-loop-b
invariant-loop-b l =
    (length l.screen ≡ length l.initial.screen) × (l.place + l.stride * (l.height - l.b-index) < length l.initial.screen + l.stride) × (paint (column_stores l.stride l.font l.place (l.from + l.b-index) l.inverse (l.height - l.b-index)) l.screen ≡ paint (column_stores l.stride l.font l.top l.from l.inverse l.height) l.initial.screen)

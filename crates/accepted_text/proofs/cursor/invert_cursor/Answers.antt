use Rattle.std.proofs.Common.{◌∙◌}
use Rattle.model.specs.declared.Edge.TheVariants.{Clamp}
use Rattle.laws.specs.Cursors.{is_cursor_box}
use Rattle.accepted_text.proofs.cursor.invert_cursor.Goals as goal

pub returns : goal.returns
returns c =
    c.draw_filled_box.ensures ∙ is_cursor_box _ _ Clamp c.args.row c.args.column c.args.cursor _ c.requires.box_fits.2

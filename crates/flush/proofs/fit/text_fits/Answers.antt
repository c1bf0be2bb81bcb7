use Rattle.std.proofs.Common.{sym, ◌∙◌}
use Rattle.flush.specs.Lent.{fonts_of}
use Rattle.flush.proofs.Whole.{text-whole}
use Rattle.flush.proofs.fit.text_fits.Goals as goal

pub returns-then-fonts_whole : goal.returns-then-fonts_whole
returns-then-fonts_whole c =
    let a = c.args in
    let t = c.if-fonts_whole.true in
    t ∙ text-whole (fonts_of a.style.fonts) (sym c.fonts_whole.ensures ∙ t) a.style.columns a.style.rows a.style.version a.text.now c.type_inv.text

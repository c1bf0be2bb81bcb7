use Rattle.std.proofs.Common.{◌∙◌, arith}
use Rattle.flush.specs.Lent.{fonts_of, flags_of}
use Rattle.model.specs.Flush.{text_stores}
use Rattle.flush.proofs.Texts.{same_screen, painted_on, painted-start, painted_then, painted_end}
use Rattle.flush.proofs.screen.flush_screen.Goals as goal

pub start-s-requires : goal.start-s-requires
start-s-requires c = tt

pub loop-s-init : goal.loop-s-init
loop-s-init c =
    let a = c.args in
    painted-start a.style.columns a.style.rows a.text.now (flags_of a.style) a.style.version (fonts_of a.style.fonts) _ c.requires.text_screen.text.wide c.requires.bytes_are_there c.start-s.ensures

pub paint_row-s-requires : goal.paint_row-s-requires
paint_row-s-requires c =
    let a = c.args in
    let l = c.loop-s in record {
      text_screen = same_screen a.style.columns a.style.rows a.screen.now c.requires.text_screen (l.invariant.same ∙ c.clear_text_screen.auto.screen);
      left_fits = l.invariant.fits;
      row_left = c.loop-s-test.true;
    }

pub loop-s-smaller : goal.loop-s-smaller
loop-s-smaller c = omega (arith, c.loop-s-test.true, c.paint_row-s.ensures.1)

pub loop-s-preserved : goal.loop-s-preserved
loop-s-preserved c =
    let a = c.args in
    painted_then a.style.columns a.style.rows a.text.now (flags_of a.style) a.style.version (fonts_of a.style.fonts) c.loop-s.invariant c.paint_row-s.ensures.0

pub shape_of-screen : goal.shape_of-screen
shape_of-screen c = c.loop-s.invariant.same ∙ c.clear_text_screen.auto.screen

pub returns : goal.returns
returns c =
    let a = c.args in
    let l = c.loop-s in
    painted_on (text_stores a.style.columns a.style.rows a.text.now (flags_of a.style) a.style.version (fonts_of a.style.fonts)) (painted_end a.style.columns a.style.rows a.text.now (flags_of a.style) a.style.version (fonts_of a.style.fonts) l.screen _ l.s l.invariant c.loop-s-test.false) c.clear_text_screen.ensures

use Rattle.std.proofs.Common.{◌<◌, arith}
use Rattle.flush.specs.Lent.{fonts_of, flags_of}
use Rattle.flush.proofs.Walking.{cell_small, spot_few, spot_small, left_turn}
use Rattle.flush.proofs.Fitting.{fits_here}
use Rattle.flush.proofs.Showing.{shown_room}
use Rattle.flush.proofs.Texts.{on_screen, painted-none, painted_turn, row_blank}
use Rattle.flush.proofs.paint.paint_row.Goals as goal

pub overflow_sub-count : goal.overflow_sub-count
overflow_sub-count c = omega (arith, c.requires.left_fits.within.column)

pub are_blank-requires : goal.are_blank-requires
are_blank-requires c =
    let few = spot_few c.args.style.columns c.args.style.rows c.args.from c.requires.left_fits.within c.args.style.size in
    (few.0, omega arith)

pub spot_after-requires : goal.spot_after-requires
spot_after-requires c =
    let few = spot_few c.args.style.columns c.args.style.rows c.args.from c.requires.left_fits.within c.args.style.size in
    few

pub returns-then-are_blank : goal.returns-then-are_blank
returns-then-are_blank c =
    let a = c.args in
    row_blank a.style.columns a.style.rows a.text.now (flags_of a.style) a.style.version (fonts_of a.style.fonts) _ a.from a.screen.now c.requires.left_fits c.requires.row_left (omega arith) c.are_blank.ensures c.if-are_blank.true c.spot_after.ensures

pub loop-s-init : goal.loop-s-init
loop-s-init c =
    let a = c.args in
    painted-none a.style.columns a.style.rows a.text.now (flags_of a.style) a.style.version (fonts_of a.style.fonts) a.from a.screen.now c.requires.left_fits

pub shown_at-w-requires : goal.shown_at-w-requires
shown_at-w-requires c =
    let l = c.loop-s in
    let h = l.invariant.fits.within in
    (h.column, omega (arith, c.loop-s-test.true, c.requires.row_left), omega (arith, cell_small _ _ l.s h c.requires.text_screen.text.narrow c.requires.text_screen.text.low))

pub paint_shown-requires : goal.paint_shown-requires
paint_shown-requires c =
    let a = c.args in
    let l = c.loop-s in
    let t : l.s.row < a.style.rows = omega (arith, c.loop-s-test.true, c.requires.row_left) in
    let e = c.shown_at-w.ensures in
    let h = l.invariant.fits in record {
      shown_room = shown_room a.style.columns a.style.rows l.screen l.s (on_screen a.style.columns a.style.rows a.screen.now l.screen l.s c.requires.text_screen l.invariant.same h.within t) a.text.now e;
      bytes_are_there = fits_here a.style.columns a.style.rows a.text.now a.style.version (fonts_of a.style.fonts) l.s h.within t e h.glyphs;
    }

pub next_spot-s-requires : goal.next_spot-s-requires
next_spot-s-requires c =
    let a = c.args in
    let l = c.loop-s in
    spot_small a.style.columns a.style.rows a.text.now l.s l.invariant.fits.within (omega (arith, c.loop-s-test.true, c.requires.row_left)) c.shown_at-w.ensures c.requires.text_screen.text

pub loop-s-smaller : goal.loop-s-smaller
loop-s-smaller c =
    let a = c.args in
    let l = c.loop-s in
    left_turn a.style.columns a.style.rows a.text.now l.s l.invariant.fits.within (omega (arith, c.loop-s-test.true, c.requires.row_left)) c.shown_at-w.ensures c.next_spot-s.ensures

pub loop-s-preserved : goal.loop-s-preserved
loop-s-preserved c =
    let a = c.args in
    let l = c.loop-s in
    painted_turn a.style.columns a.style.rows a.text.now (flags_of a.style) a.style.version (fonts_of a.style.fonts) l.s l.screen l.invariant (omega (arith, c.loop-s-test.true, c.requires.row_left)) c.shown_at-w.ensures c.paint_shown.ensures c.next_spot-s.ensures

pub shape_of-screen : goal.shape_of-screen
shape_of-screen c = c.loop-s.invariant.same

pub returns : goal.returns
returns c =
    let l = c.loop-s in
    (l.invariant, omega (arith, l.invariant.down, c.loop-s-test.false))

use Rattle.std.proofs.Common.{sym, ◌∙◌, arith}
use Rattle.flush.specs.Lent.{fonts_of}
use Rattle.flush.proofs.Walking.{cell_small, within-start, spot_small, within_turn, left_turn}
use Rattle.flush.proofs.Fitting.{fits-start, fits_turn, fits-stop, fits_end}
use Rattle.flush.proofs.fit.walk_fits.Goals as goal

pub start-s-requires : goal.start-s-requires
start-s-requires c = tt

pub loop-s-init : goal.loop-s-init
loop-s-init c =
    let a = c.args in
    (rw c.start-s.ensures (within-start a.style.columns a.style.rows a.style.size.wide), fits-start a.style.columns a.style.rows a.text.now a.style.version (fonts_of a.style.fonts) c.start-s.ensures)

pub shown_at-w-requires : goal.shown_at-w-requires
shown_at-w-requires c =
    let l = c.loop-s in
    let z = c.args.style.size in
    (l.invariant.0.column, c.loop-s-test.true, omega (arith, cell_small _ _ l.s l.invariant.0 z.narrow z.low))

pub shown_fits-requires : goal.shown_fits-requires
shown_fits-requires c = tt

pub next_spot-s-requires : goal.next_spot-s-requires
next_spot-s-requires c =
    let a = c.args in
    let l = c.loop-s in
    spot_small a.style.columns a.style.rows a.text.now l.s l.invariant.0 c.loop-s-test.true c.shown_at-w.ensures a.style.size

pub loop-s-smaller : goal.loop-s-smaller
loop-s-smaller c =
    let a = c.args in
    let l = c.loop-s in
    left_turn a.style.columns a.style.rows a.text.now l.s l.invariant.0 c.loop-s-test.true c.shown_at-w.ensures c.next_spot-s.ensures

pub loop-s-preserved : goal.loop-s-preserved
loop-s-preserved c =
    let a = c.args in
    let l = c.loop-s in
    let t = c.loop-s-test.true in
    let e = c.shown_at-w.ensures in (
      within_turn a.style.columns a.style.rows a.text.now l.s l.invariant.0 t e c.next_spot-s.ensures,
      fits_turn a.style.columns a.style.rows a.text.now a.style.version (fonts_of a.style.fonts) l.s l.invariant.0 t e c.shown_fits.ensures c.if-not-shown_fits.false c.next_spot-s.ensures l.invariant.1,
    )

pub returns-then-not-shown_fits : goal.returns-then-not-shown_fits
returns-then-not-shown_fits c =
    let a = c.args in
    let l = c.loop-s in
    fits-stop a.style.columns a.style.rows a.text.now a.style.version (fonts_of a.style.fonts) l.s l.invariant.0 c.loop-s-test.true c.shown_at-w.ensures c.shown_fits.ensures c.if-not-shown_fits.true l.invariant.1

pub returns : goal.returns
returns c =
    let a = c.args in
    let l = c.loop-s in
    sym (fits_end a.style.columns a.style.rows a.text.now a.style.version (fonts_of a.style.fonts) l.s c.loop-s-test.false) ∙ l.invariant.1

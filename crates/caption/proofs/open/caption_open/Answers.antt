use Rattle.std.proofs.Common.{refl}
use Rattle.caption.proofs.Opening.{may_open, open_ends, open_value, open_window, open_lent}
use Rattle.caption.proofs.open.caption_open.Goals as goal

pub returns-then-not-lent : goal.returns-then-not-lent
returns-then-not-lent c = open_lent _ _ _ _ _ _ _ c.glass_of-glass.ensures c.if-not-lent.true

pub returns-then-not-windows_fit : goal.returns-then-not-windows_fit
returns-then-not-windows_fit c =
    open_window _ _ _ _ _ _ _ c.glass_of-glass.ensures c.if-not-lent.false c.windows_fit.ensures c.if-not-windows_fit.true

pub returns-then-not-listed : goal.returns-then-not-listed
returns-then-not-listed c =
    open_value _ _ _ _ _ _ c.args.edge c.glass_of-glass.ensures c.if-not-lent.false c.windows_fit.ensures c.if-not-windows_fit.false c.edge_fits.ensures c.if-not-listed.true

pub open-requires : goal.open-requires
open-requires c =
    let a = c.args in
    let f = c.ranges in
    may_open a.rec.now a.memory.now a.graphics a.text a.version _ a.edge c.glass_of-glass.ensures c.if-not-lent.false c.windows_fit.ensures c.if-not-windows_fit.false
    c.edge_fits.ensures c.if-not-listed.false refl
    (f.keys0.fits, (f.keys1.fits, (f.keys2.fits, (f.keys3.fits, (f.keys4.fits, (f.keys5.fits, (f.keys6.fits, (f.keys7.fits, tt))))))))

pub returns : goal.returns
returns c =
    open_ends _ _ _ _ _ _ c.args.edge c.glass_of-glass.ensures c.if-not-lent.false c.windows_fit.ensures c.if-not-windows_fit.false c.edge_fits.ensures c.if-not-listed.false c.«open».ensures

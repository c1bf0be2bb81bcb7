-- What is owed fails, or what is in hand decides.
use Rattle.std.proofs.Common.{not, ◌∙◌, ap, arith}
use Rattle.laws.specs.Panels.{bands_room, hand_room}
use Rattle.laws.specs.StateTest.{pending_fails, pending_is}
use Rattle.record.proofs.state.pending_fits.Goals as goal

pub bands_fit-requires : goal.bands_fit-requires
bands_fit-requires c =
    bands_room c.args.glass c.args.rec.now c.requires.0 c.requires.1 c.panel_at-a.ensures

pub returns-else-bands_fit : goal.returns-else-bands_fit
returns-else-bands_fit c =
    c.if-bands_fit.false
    ∙ pending_fails c.args.glass c.args.rec.now c.args.k _ c.panel_at-a.ensures c.bands_fit.ensures (ap not c.if-bands_fit.false)

pub overflow_add-a : goal.overflow_add-a
overflow_add-a c =
    omega (arith, hand_room c.args.glass c.args.rec.now c.requires.0 c.requires.1 c.panel_at-a.ensures)

pub rect_fits-requires : goal.rect_fits-requires
rect_fits-requires c =
    omega (arith, hand_room c.args.glass c.args.rec.now c.requires.0 c.requires.1 c.panel_at-a.ensures)

pub returns-then-bands_fit : goal.returns-then-bands_fit
returns-then-bands_fit c =
    pending_is c.args.glass c.args.rec.now c.args.k _ c.panel_at-a.ensures c.bands_fit.ensures (ap not c.if-bands_fit.true) c.rect_fits.ensures

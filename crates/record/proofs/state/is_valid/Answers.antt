-- Head, edge flag, panels, flags: the first that fails decides, and where the others pass the flags do.
use Rattle.std.proofs.Common.{not, ap, arith}
use Rattle.model.specs.Glass.{geometry}
use Rattle.laws.specs.Updates.{head_in}
use Rattle.laws.specs.StateTest.{flags_room, flags_sized, edge_room, head_fails, edge_fails, panel_fails, flags_decide}
use Rattle.record.proofs.state.is_valid.Goals as goal

pub load_head-requires : goal.load_head-requires
load_head-requires c = omega (arith, head_in (geometry c.args.glass), c.requires)

pub returns-then-not-head_fits : goal.returns-then-not-head_fits
returns-then-not-head_fits c =
    head_fails c.args.glass c.args.rec.now c.load_head.ensures c.head_fits.ensures (ap not c.if-not-head_fits.true)

pub bounds-rec-at : goal.bounds-rec-at
bounds-rec-at c = omega (arith, edge_room c.args.glass, c.requires)

pub returns-then-not-edge_fits : goal.returns-then-not-edge_fits
returns-then-not-edge_fits c =
    edge_fails c.args.glass c.args.rec.now c.load_head.ensures c.head_fits.ensures (ap not c.if-not-head_fits.false) c.edge_fits.ensures (ap not c.if-not-edge_fits.true)

pub returns-then-not-panels_fit : goal.returns-then-not-panels_fit
returns-then-not-panels_fit c =
    panel_fails c.args.glass c.args.rec.now c.load_head.ensures c.head_fits.ensures (ap not c.if-not-head_fits.false) c.edge_fits.ensures (ap not c.if-not-edge_fits.false)
    c.panels_fit.ensures (ap not c.if-not-panels_fit.true)

pub slice_bounds-flags_fit-start : goal.slice_bounds-flags_fit-start
slice_bounds-flags_fit-start c = omega (arith, flags_room c.args.glass)

pub slice_bounds-flags_fit-end : goal.slice_bounds-flags_fit-end
slice_bounds-flags_fit-end c = omega (arith, flags_room c.args.glass, c.requires)

pub flags_fit-requires : goal.flags_fit-requires
flags_fit-requires c = flags_sized c.args.glass c.args.rec.now c.requires

pub returns : goal.returns
returns c =
    flags_decide c.args.glass c.args.rec.now c.load_head.ensures c.head_fits.ensures (ap not c.if-not-head_fits.false) c.edge_fits.ensures (ap not c.if-not-edge_fits.false)
    c.panels_fit.ensures (ap not c.if-not-panels_fit.false) c.flags_fit.ensures

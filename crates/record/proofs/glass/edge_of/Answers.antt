use mathlib.Core.Path.{ap, ◌∙◌}
use native.Mathlib.Omega.{arith}
use Rattle.model.specs.Geometry.{Geometry}
use Rattle.model.specs.Record.{decode}
use Rattle.model.specs.Lines.{edge_of}
use Rattle.laws.specs.StateTest.{edge_room, edge_clamps, edge_stops}
use Rattle.record.proofs.Lengths.{sized_for}
use Rattle.record.proofs.glass.edge_of.Goals as goal

pub bounds-rec-at : goal.bounds-rec-at
bounds-rec-at c =
    let k = c.glass_of-at.ensures in omega (arith, edge_room c.glass_of-at.result, sized_for c.args.rec.now k c.requires)

pub returns-then-rec-at-eq0 : goal.returns-then-rec-at-eq0
returns-then-rec-at-eq0 c =
    let r = c.args.rec.now in
    let k = c.glass_of-at.ensures in
    edge_clamps c.glass_of-at.result r c.if-rec-at-eq0.true ∙ ap (λ (g : Geometry). edge_of (decode g r).edge) k.glass

pub returns-else-rec-at-eq0 : goal.returns-else-rec-at-eq0
returns-else-rec-at-eq0 c =
    let r = c.args.rec.now in
    let k = c.glass_of-at.ensures in
    edge_stops c.glass_of-at.result r c.if-rec-at-eq0.false ∙ ap (λ (g : Geometry). edge_of (decode g r).edge) k.glass

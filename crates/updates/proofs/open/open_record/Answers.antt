use mathlib.Core.Path.{ap, sym, subst, ◌∙◌}
use native.Mathlib.Omega.{arith}
use lib.ListN.{length}
use Rattle.model.specs.Geometry.{Geometry}
use Rattle.model.specs.Glass.{glass_of}
use Rattle.model.specs.Record.{encode}
use Rattle.model.specs.Marks.{owing_each}
use Rattle.model.specs.Open.{open_state}
use Rattle.laws.specs.Updates.{head_in, keys_room}
use Rattle.laws.specs.StateTest.{edge_room}
use Rattle.laws.specs.Opening.{Told, opening_passes, opens}
use Rattle.record.proofs.Lengths.{chosen_as, sized_for, passes_as}
use Rattle.updates.proofs.Updating.{updated_for, whole_canvas}
use Rattle.updates.proofs.open.open_record.Goals as goal

pub store_head-requires : goal.store_head-requires
store_head-requires c = omega (arith, head_in (glass_of (length c.args.rec.now)), c.requires.0, c.clear.auto.part)

pub store_keys-requires : goal.store_keys-requires
store_keys-requires c =
    let k = c.glass_of-glass.ensures in
    let sized = sized_for c.args.rec.now k c.requires.0 in
    (omega (arith, keys_room c.glass_of-glass.result, sized, c.clear.auto.part, c.store_head.auto.rec), c.requires.1.count)

pub store_edge-requires : goal.store_edge-requires
store_edge-requires c =
    let k = c.glass_of-glass.ensures in
    let sized = sized_for c.args.rec.now k c.requires.0 in
    omega (arith, edge_room c.glass_of-glass.result, sized, c.clear.auto.part, c.store_head.auto.rec, c.store_keys.auto.rec)

pub mark_panels-requires : goal.mark_panels-requires
mark_panels-requires c =
    let a = c.args in
    let k = c.glass_of-glass.ensures in
    let told = subst (λ (g : Geometry). Told g a.graphics a.text a.version a.keys a.edge) (sym k.glass) c.requires.1 in
    passes_as _ k (c.store_edge.auto.rec ∙ c.store_keys.auto.rec ∙ c.store_head.auto.rec ∙ c.clear.auto.part)
    (opening_passes a.rec.now a.graphics a.text a.version a.keys a.edge c.glass_of-glass.result (sized_for a.rec.now k c.requires.0) told
    c.clear.ensures c.clear_head.ensures c.store_head.ensures c.store_keys.ensures c.store_edge.ensures)

pub returns : goal.returns
returns c =
    let a = c.args in
    let v = c.glass_of-glass.result in
    let k = c.glass_of-glass.ensures in
    let told = subst (λ (g : Geometry). Told g a.graphics a.text a.version a.keys a.edge) (sym k.glass) c.requires.1 in
    let long = c.store_edge.auto.rec ∙ c.store_keys.auto.rec ∙ c.store_head.auto.rec ∙ c.clear.auto.part in
    opens a.rec.now a.graphics a.text a.version a.keys a.edge v (sized_for a.rec.now k c.requires.0) told
    c.clear.ensures c.clear_head.ensures c.store_head.ensures c.store_keys.ensures c.store_edge.ensures
    (c.whole_screen.ensures ∙ whole_canvas v c.canvas_of.ensures) (updated_for _ (λ g x. owing_each g _ x) (chosen_as long k) c.mark_panels.ensures)
    ∙ ap (λ (g : Geometry). encode g (open_state g a.graphics a.text a.version a.keys a.edge)) k.glass

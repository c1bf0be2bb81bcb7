use lib.ListN.{length}
use Rattle.model.specs.Glass.{glass_of}
use Rattle.model.specs.Record.{decode}
use Rattle.model.specs.Marks.{update_dirty, owing_each, marked}
use Rattle.laws.specs.States.{well_formed}
use Rattle.laws.specs.Formed.{owing_formed}
use Rattle.updates.specs.Update.{on_head}
use Rattle.updates.proofs.Updating.{still_passes, then_updated}
use Rattle.updates.proofs.update.mark.Goals as goal

pub update_dirty-requires : goal.update_dirty-requires
update_dirty-requires c =
    let r = c.args.rec.now in
    still_passes (λ g x. owing_each g c.args.m.owed x) c.requires (owing_formed (glass_of (length r)) c.args.m.owed (decode (glass_of (length r)) r) (well_formed (glass_of (length r)) r c.requires)) c.mark_panels.ensures

pub returns : goal.returns
unfolding marked
returns c =
    let r = c.args.rec.now in
    then_updated (λ g x. owing_each g c.args.m.owed x) c.requires (owing_formed (glass_of (length r)) c.args.m.owed (decode (glass_of (length r)) r) (well_formed (glass_of (length r)) r c.requires)) c.mark_panels.ensures
    (on_head (update_dirty c.args.m.dirty)) c.update_dirty.ensures

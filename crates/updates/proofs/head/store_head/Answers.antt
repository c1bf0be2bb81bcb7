-- What is stored piece after piece is one window.
use Rattle.std.proofs.Common.{[], ◌∷◌, ◌++◌, refl, arith}
use Rattle.model.specs.Bytes.{two_bytes, rect_bytes}
use Rattle.laws.specs.Memory.{window_extend}
use Rattle.updates.proofs.head.store_head.Goals as goal

pub returns : goal.returns
returns c =
    let h = c.args.h in
    let r = c.args.rec.now in
    let bases = two_bytes h.graphics ++ two_bytes h.text in
    let fields = h.row ∷ h.column ∷ h.screen ∷ h.print ∷ h.cursor ∷ h.version ∷ [] in
    let text = window_extend 0 2 (two_bytes h.graphics) (two_bytes h.text) r refl (omega arith) in
    let row = window_extend 0 4 bases fields r refl (omega arith) in
    let dirty = window_extend 0 10 (bases ++ fields) (rect_bytes h.dirty) r refl (omega arith) in
    cc

use Rattle.std.proofs.Common.{◌+◌, length, List, ℕ, ◌∙◌, ap, arith}
use Rattle.model.specs.Memory.{with_window}
use Rattle.laws.specs.Parts.{part_back}
use Rattle.slices.proofs.put_bytes.Goals as goal

pub returns : goal.returns
returns c =
    let a = c.args in
    let copied = c.copy_from_slice.ensures.after in
    part_back a.at (a.at + length a.from.now) a.onto.now c.copy_from_slice.new.self (omega arith) (omega (arith, ap length copied))
    ∙ ap (λ (s : List ℕ). with_window a.at s a.onto.now) copied

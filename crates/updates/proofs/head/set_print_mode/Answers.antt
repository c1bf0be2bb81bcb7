use mathlib.Core.Path.{refl, ap, sym, ◌∙◌}
use mathlib.Core.List.{List}
use Prim.Native.Nat.{ℕ}
use native.Mathlib.Omega.{arith}
use lib.ListN.{length, set}
use Rattle.model.specs.declared.Head.{Head}
use Rattle.model.specs.Glass.{glass_of}
use Rattle.model.specs.Memory.{with_window}
use Rattle.model.specs.Record.{written, part_bytes, decode, encode}
use Rattle.model.specs.Text.{print_mode, with_print_mode}
use Rattle.laws.specs.Updates.{head_decoded, in_head}
use Rattle.updates.specs.Update.{updated}
use Rattle.record.proofs.Lengths.{head_there}
use Rattle.updates.proofs.head.set_print_mode.Goals as goal

pub bounds-rec-7 : goal.bounds-rec-7
bounds-rec-7 c = omega (arith, head_there c.requires)

pub bounds-rec-7-2 : goal.bounds-rec-7-2
bounds-rec-7-2 c = omega (arith, head_there c.requires)

-- the mode that was read is the head's
pub returns : goal.returns
unfolding updated encode written part_bytes with_window with_print_mode
returns c =
    let r = c.args.rec.now in
    let g = glass_of (length r) in
    let mode = c.print_mode.ensures ∙ ap (λ (h : Head). print_mode h.print c.args.mode) (sym (head_decoded g r)) in
    ap (set r 7) mode ∙ in_head g r c.requires (λ (x : List ℕ). set x 7 (print_mode (decode g r).head.print c.args.mode)) (with_print_mode c.args.mode) refl

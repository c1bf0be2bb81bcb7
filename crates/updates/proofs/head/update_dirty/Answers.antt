-- An empty mark leaves all; any other is joined to the rectangle that stands in the head.
use mathlib.Core.Path.{refl, sym, ap, ◌∙◌}
use mathlib.Core.List.{List}
use Prim.Native.Nat.{ℕ}
use native.Mathlib.Omega.{arith}
use lib.ListN.{length}
use Rattle.model.specs.declared.Head.{Head}
use Rattle.model.specs.Glass.{glass_of}
use Rattle.model.specs.Memory.{with_window}
use Rattle.model.specs.Rects.{join}
use Rattle.model.specs.Bytes.{rect_at, rect_bytes}
use Rattle.model.specs.Record.{written, part_bytes, decode, encode, with_head}
use Rattle.model.specs.Marks.{with_dirty, update_dirty}
use Rattle.laws.specs.Owed.{joined_at}
use Rattle.laws.specs.Updates.{head_decoded, in_head, empty_dirty}
use Rattle.updates.specs.Update.{updated}
use Rattle.record.proofs.Lengths.{head_there}
use Rattle.updates.proofs.head.update_dirty.Goals as goal

pub returns-then-is_empty : goal.returns-then-is_empty
unfolding updated
returns-then-is_empty c =
    empty_dirty (glass_of (length c.args.rec.now)) c.args.rec.now c.args.m c.requires c.is_empty.ensures c.if-is_empty.true

pub join_rect-requires : goal.join_rect-requires
join_rect-requires c =
    record {
      at_in_bounds = omega (arith, head_there c.requires);
      q_value = sym c.is_empty.ensures ∙ c.if-is_empty.false;
    }

pub returns : goal.returns
unfolding updated encode written part_bytes with_window joined_at update_dirty
returns c =
    let r = c.args.rec.now in
    let g = glass_of (length r) in
    let q = join (rect_at r 10) c.args.m in
    c.join_rect.ensures ∙ in_head g r c.requires (λ (x : List ℕ). with_window 10 (rect_bytes q) x) (with_dirty q) refl
    ∙ ap (λ (h : Head). encode g (with_head (with_dirty (join h.dirty c.args.m) (decode g r).head) (decode g r))) (sym (head_decoded g r))

-- No flags, then the whole screen owed, then a clear head: each leaves a state that is well formed.
use mathlib.Core.Path.{◌≡◌, sym, ap, ◌∙◌}
use mathlib.Core.List.{List}
use Prim.Native.Nat.{ℕ}
use lib.ListN.{length}
use Rattle.model.specs.declared.Head.{Head}
use Rattle.model.specs.declared.Rect.{Rect}
use Rattle.model.specs.Geometry.{height}
use Rattle.model.specs.Glass.{glass_of}
use Rattle.model.specs.Memory.{with_window}
use Rattle.model.specs.Record.{bytes_of_head, decode, encode, with_head, WellFormed}
use Rattle.model.specs.Marks.{whole, owing_each}
use Rattle.model.specs.Open.{clear_head, reset_state}
use Rattle.laws.specs.Record.{Passing}
use Rattle.laws.specs.Formed.{owing_formed}
use Rattle.laws.specs.Updates.{head_decoded}
use Rattle.updates.specs.Update.{updated, on_head}
use Rattle.record.proofs.Lengths.{head_there}
use Rattle.updates.proofs.Updating.{whole_for, unflagged, unflagged_formed, sets_head, still_passes, then_updated}
use Rattle.updates.proofs.update.reset_record.Goals as goal

module _ {r s t : List ℕ} (q : Rect) (p : Passing (glass_of (length r)) r) (e : s ≡ updated unflagged r) (f : t ≡ updated (λ g x. owing_each g q x) s) where
  owing-all : WellFormed (glass_of (length r)) (owing_each (glass_of (length r)) q (unflagged (glass_of (length r)) (decode (glass_of (length r)) r)))
  owing-all = owing_formed (glass_of (length r)) q _ (unflagged_formed r p)

  owed : t ≡ updated (λ g x. owing_each g q (unflagged g x)) r
  owed = then_updated unflagged p (unflagged_formed r p) e (λ g x. owing_each g q x) f

  owed_passes : Passing (glass_of (length t)) t
  owed_passes = still_passes (λ g x. owing_each g q (unflagged g x)) p owing-all owed

  -- and the head
  resets : {h : Head} {u : List ℕ} → let g = glass_of (length r) in q ≡ whole g.stride (height g) → h ≡ (let x = (decode g r).head in clear_head x.graphics x.text x.version)
      → u ≡ with_window 0 (bytes_of_head h) t → u ≡ updated reset_state r
  unfolding updated reset_state
  resets {h} w n d =
      let g = glass_of (length r) in
      let s = decode g r in
      then_updated (λ g x. owing_each g q (unflagged g x)) p owing-all owed (on_head (λ x. h)) (sets_head h owed_passes d)
      ∙ (λ i. encode g (with_head (n i) (owing_each g (w i) (unflagged g s))))

pub load_head-h-requires : goal.load_head-h-requires
load_head-h-requires c = head_there c.requires

pub mark_panels-requires : goal.mark_panels-requires
mark_panels-requires c = still_passes unflagged c.requires (unflagged_formed c.args.rec.now c.requires) c.clear_flags.ensures

pub store_head-requires : goal.store_head-requires
store_head-requires c =
    head_there (owed_passes c.whole_screen.result c.requires c.clear_flags.ensures c.mark_panels.ensures)

pub returns : goal.returns
returns c =
    let r = c.args.rec.now in
    let g = glass_of (length r) in
    let k = c.glass_of-glass.ensures in
    let q = c.whole_screen.ensures ∙ whole_for k c.canvas_of.ensures in
    let h = c.clear_head.ensures ∙ ap (λ (x : Head). clear_head x.graphics x.text x.version) (c.load_head-h.ensures ∙ sym (head_decoded g r)) in
    resets c.whole_screen.result c.requires c.clear_flags.ensures c.mark_panels.ensures q h c.store_head.ensures

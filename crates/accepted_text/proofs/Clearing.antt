-- Text and screen cleared in memory, and the record with them.
use Rattle.std.proofs.Common.{inr, ◌≡◌, sym, ap, ◌∙◌, List, [], ℕ, ◌+◌, ◌-◌, ◌≤◌, arith, length, take, drop}
use borrow.Rule.Slice.PartMut.{put_mid}
use Rattle.model.specs.declared.Canvas.{Canvas}
use Rattle.model.specs.declared.Head.{Head}
use Rattle.model.specs.declared.Marks.{Marks}
use Rattle.model.specs.declared.glass.Glass.{Glass}
use Rattle.model.specs.Glass.{geometry, glass_of, canvas}
use Rattle.model.specs.Memory.{zeros, with_window}
use Rattle.model.specs.Record.{head_of, decode, encode, WellFormed}
use Rattle.model.specs.Marks.{whole, update_dirty, marked}
use Rattle.model.specs.Text.{at_place, with_screen_mode, cleared_state, cleared_memory}
use Rattle.model.specs.Calls.{Outcome, cls, set_screen_mode, lent, answered, cleared, done}
use Rattle.laws.specs.Parts.{part_length, part_back}
use Rattle.laws.specs.Loops.{length-zeros}
use Rattle.laws.specs.Memory.{length-with_window}
use Rattle.laws.specs.Record.{Passing}
use Rattle.laws.specs.States.{well_formed}
use Rattle.laws.specs.Formed.{marked_formed}
use Rattle.laws.specs.Updates.{head_decoded}
use Rattle.record.specs.Entry.{Chosen}
use Rattle.updates.specs.Update.{updated, on_head}
use Rattle.updates.proofs.Updating.{whole_for, unflagged, unflagged_formed, still_passes, then_updated}

-- a part that was lent and cleared
cleared-part : (a n : ℕ) (m : List ℕ) {s : List ℕ} → a + n ≤ length m → s ≡ zeros (length (take (a + n - a) (drop a m)))
    → put_mid a (a + n - a) m s ≡ with_window a (zeros n) m
cleared-part a n m h e =
    let z = e ∙ ap zeros (part_length a n m h) in
    part_back a (a + n) m _ (omega arith) (ap length z ∙ length-zeros n ∙ omega arith) ∙ ap (λ (x : List ℕ). with_window a x m) z

pub windows-cleared : (v : Glass) (h : Head) (m : List ℕ) {s t : List ℕ} → h.text + v.cells ≤ length m → h.graphics + v.screen ≤ length m
    → s ≡ zeros (length (take (h.text + v.cells - h.text) (drop h.text m)))
    → t ≡ zeros (length (take (h.graphics + v.screen - h.graphics) (drop h.graphics (put_mid h.text (h.text + v.cells - h.text) m s))))
    → put_mid h.graphics (h.graphics + v.screen - h.graphics) (put_mid h.text (h.text + v.cells - h.text) m s) t ≡ cleared_memory (geometry v) h m
unfolding cleared_memory
windows-cleared v h m {s} p q e f =
    let z = v.suits in
    let a = cleared-part h.text v.cells m p e in
    let l : length (put_mid h.text (h.text + v.cells - h.text) m s) ≡ length m =
    ap length a ∙ length-with_window h.text (zeros v.cells) m (rw (length-zeros v.cells) p) in
    cleared-part h.graphics v.screen (put_mid h.text (h.text + v.cells - h.text) m s) (omega arith) f
    ∙ (λ i. with_window h.graphics (zeros (z.is_screen i)) ((a ∙ ap (λ (n : ℕ). with_window h.text (zeros n) m) z.is_cells) i))

-- ---- the record: no flags, the whole screen marked, then another head

module _ {r s : List ℕ} (p : Passing (glass_of (length r)) r) (e : s ≡ updated unflagged r) where
  pub flagless : Passing (glass_of (length s)) s
  flagless = still_passes unflagged p (unflagged_formed r p) e

  module _ {v : Glass} {k : Canvas} (c : Marks) {t : List ℕ} (w : Chosen (length r) v) (q : k ≡ canvas v)
      (n : (c.dirty ≡ whole k.stride k.height) × (c.owed ≡ whole k.stride k.height)) (f : t ≡ updated (λ g x. marked g c.dirty c.owed x) s) where
    all_formed : let g = glass_of (length s) in WellFormed g (marked g c.dirty c.owed (decode g s))
    all_formed =
        let g = glass_of (length s) in
        let z = p.glass in
        marked_formed g c.dirty c.owed (decode g s) (rw (n.0 ∙ whole_for w q) (inr (omega (arith, z.columns, z.cursor, z.row, z.filled, z.high)))) (well_formed g s flagless)

    pub all-marked : Passing (glass_of (length t)) t
    all-marked = still_passes (λ g x. marked g c.dirty c.owed x) flagless all_formed f

    pub was_cleared : (mode : ℕ) {h : Head} (m : List ℕ) {n u : List ℕ} → h ≡ head_of r → n ≡ cleared_memory (geometry v) h m → u ≡ updated (on_head (λ x. at_place 0 0 (with_screen_mode mode x))) t
        → answered 0 [] (lent u n []) ≡ done (glass_of (length r)) (set_screen_mode mode) (lent r m [])
    unfolding done cleared cleared_state updated marked update_dirty
    was_cleared mode m h o u =
        let g = glass_of (length r) in
        let set = on_head (λ x. at_place 0 0 (with_screen_mode mode x)) in
        let all = whole_for w q in
        let two = then_updated (λ y x. marked y c.dirty c.owed x) flagless all_formed f set u in
        let rec = then_updated unflagged p (unflagged_formed r p) e (λ y x. set y (marked y c.dirty c.owed x)) two ∙ (λ i. encode g (set g (marked g ((n.0 ∙ all) i) ((n.1 ∙ all) i) (unflagged g (decode g r))))) in
        λ i. answered 0 [] (lent (rec i) ((o ∙ (λ j. cleared_memory (w.glass j) ((h ∙ sym (head_decoded g r)) j) m)) i) [])

-- the screen mode stays
pub keeps_mode : (r m : List ℕ) {h : Head} {o : Outcome} → h ≡ head_of r → o ≡ done (glass_of (length r)) (set_screen_mode h.screen) (lent r m []) → o ≡ done (glass_of (length r)) cls (lent r m [])
unfolding done
keeps_mode r m e o = let g = glass_of (length r) in o ∙ ap (λ (x : Head). answered 0 [] (cleared g x.screen (lent r m []))) (e ∙ sym (head_decoded g r))

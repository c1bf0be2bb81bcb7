-- States that stay well formed when a part of them changes.
use Rattle.std.specs.Prelude.{◌≡◌, Bool, true, List, [], ◌∷◌, ℕ, zero, suc, ◌<◌, length, get_or, set}
use Rattle.std.proofs.Common.{◌∙◌, arith, length-set, get_or-set_same, get_or-set_other}
use Rattle.model.specs.declared.Rect.{Rect}
use Rattle.model.specs.declared.Head.{Head}
use Rattle.model.specs.Geometry.{Geometry, cells}
use Rattle.model.specs.Rects.{every}
use Rattle.model.specs.Record.{Pending, State, nothing_pending, head_tests, head_fits, with_head, with_panels, with_panel, with_flags, WellPending, WellFormed}
use Rattle.model.specs.Marks.{update_dirty, owing, owing_each, marked}
use Rattle.laws.specs.Tests.{by_eq, AllTrue, all_true, true_all}
use Rattle.laws.specs.Rects.{Fits, join-fits, fits_passes, passes_fits}
use Rattle.laws.specs.Record.{head_tells}
use Rattle.laws.specs.Bands.{well_owing}
use Rattle.laws.specs.Marking.{each_formed}

-- ---- a head that passes STATE

-- tests that pass, with another in place i that does
all_set : (l : List Bool) (i : ℕ) {t : Bool} → AllTrue l → t ≡ true → AllTrue (set l i t)
all_set [] i h e = h
all_set (s ∷ l) zero h e = (e, h.1)
all_set (s ∷ l) (suc i) h e = (h.0, all_set l i h.1 e)

-- it passes with another number where the test that reads it passes: row 1, column 2, screen mode 3, print mode 4, cursor 5 and dirty 7 are their places in `head_tests`
pub still_fits : (g : Geometry) (h : Head) → head_fits g h ≡ true → (i : ℕ) {t : Bool} → t ≡ true → every (set (head_tests g h) i t) ≡ true
unfolding head_fits
still_fits g h e i {t} p = true_all (set (head_tests g h) i t) (all_set (head_tests g h) i (all_true (head_tests g h) e) p)

-- ---- states

module _ (g : Geometry) (s : State) (w : WellFormed g s) where
  pub head_formed : (h : Head) → head_fits g h ≡ true → WellFormed g (with_head h s)
  head_formed h e = record { head = e; count = w.count; panels = w.panels; words = w.words; keys = w.keys; flags = w.flags; edge = w.edge }

  pub flags_formed : (fs : List Bool) → length fs ≡ cells g → WellFormed g (with_flags fs s)
  flags_formed fs n = record { head = w.head; count = w.count; panels = w.panels; words = w.words; keys = w.keys; flags = n; edge = w.edge }

  pub panels_formed : (ps : List Pending) → length ps ≡ g.panels → ((k : ℕ) → k < g.panels → WellPending g (get_or ps k (nothing_pending g))) → WellFormed g (with_panels ps s)
  panels_formed ps n f = record { head = w.head; count = n; panels = f; words = w.words; keys = w.keys; flags = w.flags; edge = w.edge }

  -- another panel k, and no other
  pub panel_formed : (k : ℕ) (p : Pending) → k < g.panels → WellPending g p → WellFormed g (with_panel k p s)
  panel_formed k p h f =
      panels_formed (set s.panels k p) (length-set s.panels k p ∙ w.count)
      (λ i j. by_eq i k
      (λ e. rw (e, get_or-set_same s.panels k p (nothing_pending g) (omega (arith, w.count))) f)
      (λ n. rw (get_or-set_other s.panels k i p (nothing_pending g) n) (w.panels i j)))

-- another head and other flags
pub page_formed : (g : Geometry) (s : State) → WellFormed g s → (h : Head) (fs : List Bool) → head_fits g h ≡ true → length fs ≡ cells g → WellFormed g (with_head h (with_flags fs s))
page_formed g s w h fs e n = head_formed g (with_flags fs s) (flags_formed g s w fs n) h e

-- a mark is owed to each panel
pub owing_formed : (g : Geometry) (m : Rect) (s : State) → WellFormed g s → WellFormed g (owing_each g m s)
owing_formed g m s w = each_formed g (owing g m) s (well_owing g m) w

-- a state marked: what is joined to dirty fits, and so does the whole
pub marked_formed : (g : Geometry) (dirty owed : Rect) (s : State) → Fits 256 0 256 dirty → WellFormed g s → WellFormed g (marked g dirty owed s)
unfolding marked update_dirty head_fits
marked_formed g dirty owed s d w =
    head_formed g (owing_each g owed s) (owing_formed g owed s w) (update_dirty dirty s.head)
    (still_fits g s.head w.head 7
    (fits_passes 256 0 256 _ (join-fits 256 0 256 s.head.dirty dirty (passes_fits 256 0 256 s.head.dirty (head_tells g s.head w.head).dirty) d)))

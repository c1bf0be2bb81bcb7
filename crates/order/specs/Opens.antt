-- Open and reset: memory is cleared, and the whole screen is owed to each panel. Send: the pending part of the panel that it names and its buffer change as the
-- effect says, and nothing of another panel.
use Rattle.std.specs.Prelude.{◌≡◌, ℕ, ◌<◌, leb, eqb, set}
use Rattle.std.proofs.Math.Path.{refl}
use Rattle.std.proofs.Common.{sym, ◌∙◌, arith, length-set, get_or-set_same, get_or-set_other}
use mathlib.Core.List.{List, []}
use Rattle.std.proofs.Math.ListN.{length}
use Rattle.std.proofs.lemmas.List.{get_or-replicate}
use borrow.Author.Tests.{le-leb, eq-eqb, ne_eqb}
use Rattle.model.specs.Geometry.{Geometry, height, screen_bytes, cells, memory_bytes}
use Rattle.model.specs.Glass.{IsGlass}
use Rattle.model.specs.Memory.{zeros}
use Rattle.model.specs.Rects.{none, is_empty, join}
use Rattle.model.specs.Record.{nothing_pending, panel_of, head_tests, head_fits, edge_fits, encode, with_head, with_panel, with_flags}
use Rattle.model.specs.Marks.{whole, update_dirty, marked}
use Rattle.model.specs.Open.{clear_memory, clear_head, clear_flags, open_pending, open_state, reset_state}
use Rattle.model.specs.Sends.{send_pending}
use Rattle.model.specs.Calls.{opening, Lent, lent, answered, done}
use Rattle.model.specs.Lists.{accepted, Typed, marks, opens, sends, affected, edge_after}
use Rattle.laws.specs.Tests.{if_cases, by_eq, and-true, all_true}
use Rattle.laws.specs.Calls.{accepted_call}
use Rattle.laws.specs.Rects.{none-fits}
use Rattle.laws.specs.Writes.{whole_agrees}
use Rattle.laws.specs.Loops.{length-zeros, length-with_keys}
use Rattle.laws.specs.Record.{head_tells}
use Rattle.laws.specs.Flags.{length_no_flags}
use Rattle.laws.specs.Bands.{well_send}
use Rattle.laws.specs.Opening.{clear-fits, open_formed}
use Rattle.order.specs.Held.{panel_after, length_send}
use Rattle.laws.specs.Formed.{panel_formed, page_formed}
use Rattle.order.specs.Step.{Lendable, old, screen_held, view, Step, known, stored, rewritten_step}

pub length-clear-memory : (keys : List ℕ) → length (clear_memory keys) ≡ memory_bytes
unfolding clear_memory
length-clear-memory keys =
    length-with_keys keys 256 (set (zeros memory_bytes) 65535 64) ∙ length-set (zeros memory_bytes) 65535 64 ∙ length-zeros memory_bytes

-- an opening needs nothing of what stood before it but the panel's length
pub opening_step : (g : Geometry) (k : ℕ) → k < g.panels → IsGlass g → (graphics text version : ℕ) (keys : List ℕ) (edge : ℕ) (r m p : List ℕ) → Typed (opening graphics text version keys edge)
    → accepted g (opening graphics text version keys edge) (lent r m []) → length p ≡ screen_bytes g
    → Step g k (lent r m p) (opens edge) (done g (opening graphics text version keys edge) (lent r m p)).left
unfolding open_state affected edge_after done answered
opening_step g k there z graphics text version keys edge r m p t a n =
    let b = (accepted_call g (opening graphics text version keys edge) (lent r m []) (omega arith) a).1 in
    let v = and-true (leb version 1) (edge_fits edge) b.1.0 in
    stored g k z (lent r m p) (opens edge) (open_state g graphics text version keys edge) (clear_memory keys) p
    (open_formed g z graphics text version keys edge (record { apart = b.0; listed = v.0; flag = v.1; count = t.0; words = t.1 })) (length-clear-memory keys) n
    (record { pending = get_or-replicate g.panels k (open_pending g) (nothing_pending g) there; panel = refl; screen = whole_agrees g.stride (height g) _ _ }) refl

module _ (g : Geometry) (k : ℕ) (there : k < g.panels) (l : Lent) (q : Lendable g l) where
  pub reset_step : Step g k l (marks (whole g.stride (height g))) (lent (encode g (reset_state g (old g l))) (clear_memory (old g l).keys) l.panel)
  unfolding head_fits reset_state marked update_dirty join is_empty
  reset_step =
      let s = old g l in
      let w = known g l q in
      let h = s.head in
      let n = clear_head h.graphics h.text h.version in
      rewritten_step g k there l q none (whole g.stride (height g)) (with_head n (with_flags (clear_flags g) s)) (clear_memory s.keys)
      (page_formed g s w n (clear_flags g)
      (clear-fits g q.passing.glass h.graphics h.text h.version (all_true (head_tests g h) w.head).0 (le-leb h.version 1 (head_tells g h w.head).version))
      (length_no_flags (cells g)))
      (length-clear-memory s.keys) refl refl refl (none-fits 256 0 256) (whole_agrees g.stride (height g) _ _)

  -- a send to panel j: its part of the record changes, and the buffer `new` of panel k where j is k
  pub send_step : (j : ℕ) → j < g.panels → (new : List ℕ) → new ≡ panel_after g k (view g k l) (sends j)
      → Step g k l (sends j) (lent (encode g (with_panel j (send_pending (panel_of g (old g l) j)) (old g l))) l.memory new)
  unfolding affected edge_after
  send_step j i new e =
      let s = old g l in
      let w = known g l q in
      let p = send_pending (panel_of g s j) in
      stored g k q.passing.glass l (sends j) (with_panel j p s) l.memory new (panel_formed g s w j p i (well_send g (panel_of g s j) (w.panels j i))) q.memory
      (rw e (if_cases (λ (b : List ℕ). length b ≡ screen_bytes g) (eqb j k) (λ t. length_send g.stride (screen_held g l) l.panel (panel_of g s k) ∙ q.panel) (λ t. q.panel)))
      (record {
        pending = by_eq j k
            (λ t. rw (t, eq-eqb k k refl) (get_or-set_same s.panels k (send_pending (panel_of g s k)) (nothing_pending g) (omega (arith, w.count))))
            (λ n. rw (ne_eqb j k n) (get_or-set_other s.panels j k p (nothing_pending g) (λ t. n (sym t))));
        panel = e;
        screen = λ x y hx hy n. refl;
      }) refl

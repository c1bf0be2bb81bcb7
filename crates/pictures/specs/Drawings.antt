-- Lent bytes with dirty and owed empty: there are such bytes; and a drawing call on them is done, its own marks are what stands, and the pixels are those that
-- its writes change.
use Rattle.std.specs.Prelude.{◌≡◌, true, ℕ, ◌+◌, ◌≤◌, length, replicate}
use Rattle.std.proofs.Math.Path.{refl, ap}
use Rattle.std.proofs.Common.{sym, ◌∙◌, arith, eq-eqb, le-leb}
use mathlib.Core.List.{List, [], map}
use Rattle.std.proofs.lemmas.List.{get_or-replicate}
use Rattle.model.specs.declared.Rect.{Rect}
use Rattle.model.specs.Geometry.{base}
use Rattle.model.specs.Pixels.{PixelWrite, draw as drawPixels, seen}
use Rattle.model.specs.Rects.{is_empty, join}
use Rattle.model.specs.Memory.{screen_of, with_screen}
use Rattle.model.specs.Record.{Pending, State, nothing_pending, panel_of, windows, total, decode, encode, with_head, with_panels, WellFormed}
use Rattle.model.specs.Marks.{with_dirty, update_dirty, join_owed, owing, owes, marked, Drawing, drawn_on}
use Rattle.model.specs.Open.{open_state}
use Rattle.model.specs.Lines.{edge_of}
use Rattle.model.specs.Shapes.{Shape, shape_tests, drawing_of}
use Rattle.model.specs.Calls.{Call, draw, Lent, lent, answered, Lending, with_memory, takes, lengths_fit, own_tests, drawing_with, drawing, done, outcome}
use Rattle.model.specs.Script.Output.{no_keys}
use Rattle.laws.specs.Rects.{Fits}
use Rattle.laws.specs.Calls.{AllPass, pass_accepted, Tested, own_decide, outcome-done}
use Rattle.laws.specs.ListLaws.{get_d_map, map_agree}
use Rattle.laws.specs.Memory.{window_same}
use Rattle.laws.specs.Pixels.{length-draw}
use Rattle.laws.specs.Record.{Passing, decode-encode}
use Rattle.laws.specs.Glasses.{base_glass}
use Rattle.laws.specs.States.{well_formed, encode_passing}
use Rattle.laws.specs.Bands.{well_nothing}
use Rattle.laws.specs.Formed.{panels_formed, marked_formed}
use Rattle.order.specs.Step.{screen-in, screen_long}
use Rattle.laws.specs.Opening.{open_formed}
use Rattle.pictures.specs.Picture.{nothing, screen_in, graphics_in, edge_flag, Unmarked, with_owed, with_marks, Changed, Leaves, Drew}
use Rattle.pictures.specs.Writes.{pictured, pictured-changed}

-- ---- bytes to start from: a record as it is opened, but with nothing owed, and a memory

abbrev clear_state : ℕ → State
clear_state edge = with_panels (replicate 4 (nothing_pending base)) (open_state base 4096 8192 1 no_keys edge)

unfoldable pub clear_bytes : ℕ → List ℕ → Lent
clear_bytes edge m = lent (encode base (clear_state edge)) m []

clear_formed : (edge : ℕ) → edge ≤ 1 → WellFormed base (clear_state edge)
unfolding open_state nothing_pending windows
clear_formed edge h =
    panels_formed base _ (open_formed base base_glass 4096 8192 1 no_keys edge (record { apart = refl; listed = refl; flag = le-leb edge 1 h; count = refl; words = omega arith })) (replicate 4 (nothing_pending base)) refl
    (λ k h. rw (get_or-replicate 4 k (nothing_pending base) (nothing_pending base) h) (well_nothing base))

pub clear-state : (edge : ℕ) → edge ≤ 1 → (m : List ℕ) → decode base (clear_bytes edge m).rec ≡ clear_state edge
unfolding clear_bytes
clear-state edge h m = decode-encode base (clear_state edge) base_glass (clear_formed edge h)

pub clear_edge : (edge : ℕ) → edge ≤ 1 → (m : List ℕ) → edge_flag (clear_bytes edge m) ≡ edge
unfolding open_state
clear_edge edge h m = ap (λ (s : State). s.edge) (clear-state edge h m)

pub clear_unmarked : (edge : ℕ) → edge ≤ 1 → (m : List ℕ) → length m ≡ 65536 → Unmarked (clear_bytes edge m)
unfolding clear_bytes open_state nothing_pending total
clear_unmarked edge h m n =
    let p = encode_passing base base_glass (clear_state edge) (clear_formed edge h) in
    let e = clear-state edge h m in
    record {
      sized = p.sized;
      bytes = p.bytes;
      passes = p.passes;
      memory = n;
      dirty = ap (λ (s : State). s.head.dirty) e;
      owed = λ k h. ap (λ (s : State). (panel_of base s k).owed) e ∙ ap (λ (p : Pending). p.owed) (get_or-replicate 4 k (nothing_pending base) (nothing_pending base) h);
    }

-- ---- a drawing call

-- what a drawing owes on the screen
abbrev pub owed_on_screen : Drawing → Rect
owed_on_screen d = owes 20 80 d.owed (seen 20 80 d.writes)

-- a mark by bands, where nothing was owed
abbrev pub by_bands : Rect → List Rect
by_bands o = join_owed 160 16 0 o nothing

module _ (l : Lent) (u : Unmarked l) where
  abbrev s : State
  s = decode base l.rec

  pub passing : Passing base l.rec
  unfolding total
  passing = record { glass = base_glass; sized = u.sized; bytes = u.bytes; passes = u.passes }

  formed : WellFormed base s
  formed = well_formed base l.rec passing

  pub screen_fits : graphics_in l + 1600 ≤ length l.memory
  screen_fits = rw u.memory (screen-in base base_glass s.head formed.head)

  pub entered : (c : Call) → takes c ≡ with_memory → Tested base c l
  entered c e = record {
    sized = passing.sized;
    lengths = ap (λ (t : Lending). lengths_fit base t l) e ∙ eq-eqb (length l.memory) 65536 u.memory;
    state = rw e (u.passes, tt);
  }

  -- a call is done where its own tests pass
  pub done_where : (c : Call) → Tested base c l → AllPass (own_tests base c l) → outcome base c l ≡ done base c l
  done_where c t a = outcome-done base c l (own_decide base c l t ∙ pass_accepted (own_tests base c l) a)

  pub done_on : (c : Call) → takes c ≡ with_memory → AllPass (own_tests base c l) → outcome base c l ≡ done base c l
  done_on c e a = done_where c (entered c e) a

  -- nothing was marked, so its own marks are what stands
  panels_only : (o : Rect) (owed : List Rect) → by_bands o ≡ owed → map (owing base o) s.panels ≡ map (with_owed owed) s.panels
  unfolding owing
  panels_only o owed f =
      map_agree (owing base o) (with_owed owed) s.panels (nothing_pending base)
      (λ k h. λ i. record {
        owed = (ap (join_owed 160 16 0 o) (u.owed k (omega (arith, formed.count))) ∙ f) i;
        hand = (panel_of base s k).hand;
        sent = (panel_of base s k).sent;
      })

  marks_only : (m o dirty : Rect) (owed : List Rect) → m ≡ dirty → by_bands o ≡ owed → marked base m o s ≡ with_marks dirty owed s
  unfolding marked update_dirty join is_empty
  marks_only m o dirty owed e f = λ i. with_head (with_dirty ((ap (λ (q : Rect). join q m) u.dirty ∙ e) i) s.head) (with_panels (panels_only o owed f i) s)

  -- a done call that leaves a screen `new`, with what it marked
  pub leaves : (c : Call) (P : List ℕ → Type 0) (new : List ℕ) (m o dirty : Rect) (owed : List Rect)
      → outcome base c l ≡ answered 0 [] (lent (encode base (marked base m o s)) (with_screen (graphics_in l) new l.memory) l.panel)
      → length new ≡ 1600 → Fits 256 0 256 dirty → m ≡ dirty → by_bands o ≡ owed → P new → Leaves l P dirty owed (outcome base c l)
  unfolding answered
  leaves c P new m o dirty owed d n f e b p =
      let only = marks_only m o dirty owed e b in
      let left = lent (encode base (marked base m o s)) (with_screen (graphics_in l) new l.memory) l.panel in
      let state : decode base left.rec ≡ with_marks dirty owed s =
      decode-encode base (marked base m o s) base_glass (marked_formed base m o s (rw e f) formed) ∙ only in
      let screen : screen_in left ≡ new = ap (λ (z : State). screen_of base z.head.graphics left.memory) state
      ∙ window_same (graphics_in l) 1600 new l.memory n screen_fits in
      rw d
      (record {
        code = refl;
        numbers = refl;
        dirty = ap (λ (z : State). z.head.dirty) state;
        owed = λ k h.
            ap (λ (z : State). (panel_of base z k).owed) state
            ∙ ap (λ (q : Pending). q.owed) (get_d_map (with_owed owed) s.panels k (nothing_pending base) (omega (arith, formed.count)));
        screen = rw screen p;
        rec = ap (encode base) only;
        memory = ap (λ (z : List ℕ). with_screen (graphics_in l) z l.memory) (sym screen);
        panel = refl;
      })

  -- a shape, with the edge flag n, and the drawing d that this is
  pub drew_as : {n : ℕ} (z : Shape) (d : Drawing) {ps : List PixelWrite} {dirty : Rect} {owed : List Rect} → drawing_of base (edge_of n) l.memory z ≡ d
      → edge_flag l ≡ n → AllPass (shape_tests z) → Fits 256 0 256 dirty → d.dirty ≡ dirty → by_bands (owed_on_screen d) ≡ owed
      → pictured (seen 20 80 d.writes) ps ≡ true → Drew l ps dirty owed (outcome base (draw z) l)
  unfolding done drawing_with drawn_on
  drew_as {n} z d {ps} {dirty} {owed} k i a f e o p =
      let ws = seen 20 80 d.writes in
      let long = screen_long base base_glass s.head formed.head l.memory u.memory in
      let drawn : drawing_of base (edge_of (edge_flag l)) l.memory z ≡ d = ap (λ (j : ℕ). drawing_of base (edge_of j) l.memory z) i ∙ k in
      leaves (draw z) (Changed ps (screen_in l)) (drawPixels 20 ws (screen_in l)) d.dirty (owed_on_screen d) dirty owed
      (done_on (draw z) refl a ∙ ap (λ (d : Drawing). answered 0 [] (drawing base d l)) drawn)
      (length-draw 20 ws (screen_in l) ∙ long) f e o (pictured-changed ws ps (screen_in l) long p)

  pub drew : {n : ℕ} (z : Shape) {ps : List PixelWrite} {dirty : Rect} {owed : List Rect} → let d = drawing_of base (edge_of n) l.memory z in
      edge_flag l ≡ n → AllPass (shape_tests z) → Fits 256 0 256 dirty → d.dirty ≡ dirty → by_bands (owed_on_screen d) ≡ owed
      → pictured (seen 20 80 d.writes) ps ≡ true → Drew l ps dirty owed (outcome base (draw z) l)
  drew {n} z = drew_as z (drawing_of base (edge_of n) l.memory z) refl

-- What each accepted call is to show: it leaves bytes that can be lent again, and the state of a panel follows by its effect.
use Rattle.std.specs.Prelude.{◌≡◌, true, List, ℕ, ◌+◌, ◌≤◌, ◌<◌, length}
use Rattle.std.proofs.Math.Path.{refl}
use Rattle.std.proofs.Common.{◌∙◌, arith}
use Rattle.model.specs.declared.Rect.{Rect}
use Rattle.model.specs.declared.Head.{Head}
use Rattle.model.specs.Geometry.{Geometry, height, screen_bytes, memory_bytes}
use Rattle.model.specs.Glass.{IsGlass}
use Rattle.model.specs.Memory.{screen_of, with_screen}
use Rattle.model.specs.Record.{State, nothing_pending, panel_of, head_fits, decode, encode, with_head, WellFormed}
use Rattle.model.specs.Marks.{update_dirty, owing, marked}
use Rattle.model.specs.Calls.{Lent, lent, changed}
use Rattle.model.specs.Lists.{Effect, nothing, marks, affected, edge_after}
use Rattle.laws.specs.Rects.{Fits}
use Rattle.laws.specs.ListLaws.{get_d_map}
use Rattle.laws.specs.Memory.{length-window, length-with_window, window_same}
use Rattle.laws.specs.Writes.{AgreeOutside}
use Rattle.laws.specs.Record.{Passing, head_tells, decode-encode}
use Rattle.laws.specs.States.{well_formed, encode_passing}
use Rattle.laws.specs.Formed.{head_formed, marked_formed}
use Rattle.order.specs.Held.{PanelState, Follows}

-- ---- what a call is to show

-- lent bytes as an accepted call leaves them: the record passes, memory and panel have their lengths
pub record Lendable (g : Geometry) (l : Lent) : Type 0 where
  pub passing : Passing g l.rec
  pub memory : length l.memory ≡ memory_bytes
  pub panel : length l.panel ≡ screen_bytes g

-- the state that the record means, and the screen
abbrev pub old : Geometry → Lent → State
old g l = decode g l.rec

abbrev pub screen_held : Geometry → Lent → List ℕ
screen_held g l = screen_of g (old g l).head.graphics l.memory

-- the state of panel k, where the panel that is lent is that one
abbrev pub view_of : Geometry → ℕ → State → List ℕ → List ℕ → PanelState
view_of g k s m p = record { screen = screen_of g s.head.graphics m; panel = p; pending = panel_of g s k }

abbrev pub view : Geometry → ℕ → Lent → PanelState
view g k l = view_of g k (old g l) l.memory l.panel

pub record Step (g : Geometry) (k : ℕ) (l : Lent) (e : Effect) (l' : Lent) : Type 0 where
  pub lendable : Lendable g l'
  pub follows : Follows g k (view g k l) e (view g k l')
  pub edge : (old g l').edge ≡ edge_after e (old g l).edge

-- ---- the screen lies in memory

module _ (g : Geometry) (z : IsGlass g) (h : Head) (e : head_fits g h ≡ true) where
  pub screen-in : h.graphics + screen_bytes g ≤ memory_bytes
  screen-in = omega (arith, (head_tells g h e).graphics, z.screen)

  pub screen_long : (m : List ℕ) → length m ≡ memory_bytes → length (screen_of g h.graphics m) ≡ screen_bytes g
  screen_long m n = length-window h.graphics (screen_bytes g) m (rw n screen-in)

-- ---- how a call shows it

-- what a record that passes means
pub known : (g : Geometry) (l : Lent) → Lendable g l → WellFormed g (old g l)
known g l q = well_formed g l.rec q.passing

module _ (g : Geometry) (k : ℕ) where
  -- a new state is written to the record
  pub stored : IsGlass g → (l : Lent) (e : Effect) (s : State) (m p : List ℕ) → WellFormed g s → length m ≡ memory_bytes → length p ≡ screen_bytes g
      → Follows g k (view g k l) e (view_of g k s m p) → s.edge ≡ edge_after e (old g l).edge → Step g k l e (lent (encode g s) m p)
  stored z l e s m p w hm hp f x = record {
    lendable = record { passing = encode_passing g z s w; memory = hm; panel = hp };
    follows = rw (decode-encode g s z w) f;
    edge = rw (decode-encode g s z w) x;
  }

  module _ (there : k < g.panels) (l : Lent) (q : Lendable g l) where
    -- all stays as it was
    pub same_step : Step g k l nothing l
    unfolding affected edge_after
    same_step = record { lendable = q; follows = record { pending = refl; panel = refl; screen = λ x y hx hy n. refl }; edge = refl }

    -- the head alone changes: the new one passes, and its graphics base is the old one
    pub changed-step : (f : Head → Head) → head_fits g (f (old g l).head) ≡ true → (f (old g l).head).graphics ≡ (old g l).head.graphics → Step g k l nothing (changed g f l)
    unfolding changed affected edge_after
    changed-step f e b =
        let s = old g l in
        stored q.passing.glass l nothing (with_head (f s.head) s) l.memory l.panel (head_formed g s (known g l q) (f s.head) e) q.memory q.panel
        (record { pending = refl; panel = refl; screen = rw b (λ x y hx hy n. refl) }) refl

    -- another state and memory, marked: pixels change in what is owed alone
    pub rewritten_step : (dirty owed : Rect) (s : State) (m : List ℕ) → WellFormed g s → length m ≡ memory_bytes
        → s.head.graphics ≡ (old g l).head.graphics → s.panels ≡ (old g l).panels → s.edge ≡ (old g l).edge → Fits 256 0 256 dirty
        → AgreeOutside g.stride (height g) owed (screen_held g l) (screen_of g (old g l).head.graphics m)
        → Step g k l (marks owed) (lent (encode g (marked g dirty owed s)) m l.panel)
    unfolding affected edge_after marked update_dirty
    rewritten_step dirty owed s m w hm b e x f a =
        stored q.passing.glass l (marks owed) (marked g dirty owed s) m l.panel (marked_formed g dirty owed s f w) hm q.panel
        (record {
          pending = rw e (get_d_map (owing g owed) (old g l).panels k (nothing_pending g) (omega (arith, (known g l q).count)));
          panel = refl;
          screen = rw b a;
        }) x

    -- and with another screen
    pub painted-step : (dirty owed : Rect) (s : State) (m new : List ℕ) → WellFormed g s → length m ≡ memory_bytes → s.head.graphics ≡ (old g l).head.graphics → s.panels ≡ (old g l).panels
        → s.edge ≡ (old g l).edge → Fits 256 0 256 dirty → length new ≡ screen_bytes g → AgreeOutside g.stride (height g) owed (screen_held g l) new
        → Step g k l (marks owed) (lent (encode g (marked g dirty owed s)) (with_screen (old g l).head.graphics new m) l.panel)
    painted-step dirty owed s m new w hm b e x d n a =
        let c = (old g l).head.graphics in
        let room : c + screen_bytes g ≤ length m = rw hm (screen-in g q.passing.glass (old g l).head (known g l q).head) in
        rewritten_step dirty owed s (with_screen c new m) w (length-with_window c new m (rw n room) ∙ hm) b e x d (rw (window_same c (screen_bytes g) new m n room) a)

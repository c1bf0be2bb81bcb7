-- What holds of panel k after an accepted opening and every list of items, over any geometry.
use Rattle.std.specs.Prelude.{◌≡◌, ◌↔◌, ◌&&◌, eqb, replicate}
use Rattle.std.proofs.Math.Path.{refl, ap}
use Rattle.std.proofs.Common.{sym, ◌∙◌}
use mathlib.Core.List.{List, [], ◌∷◌, ◌++◌, map}
use Prim.Native.Nat.{ℕ, zero, suc, ◌-◌, ◌≤◌, ◌<◌}
use native.Mathlib.Omega.{arith}
use Rattle.std.proofs.Math.ListN.{length}
use borrow.Author.Tests.{eq-eqb, lt-ltb}
use Rattle.model.specs.Geometry.{Geometry, screen_bytes, memory_bytes}
use Rattle.model.specs.Glass.{IsGlass}
use Rattle.model.specs.Record.{Pending, nothing_pending, decode, WellPending}
use Rattle.model.specs.Refusals.{refusal, ruled}
use Rattle.model.specs.Calls.{Call, opening, send, Lent, lent, takes, answered, done, outcome}
use Rattle.model.specs.Lists.{accepted, Typed, Item, here, Buffers, panel_buffer, lent_to_send, lent_to, given_back, leaves, after, run, Effect, opens, effect, affected, effect_at, item_effect, reckoned, edge_after, last_edge, lines_left, differing}
use Rattle.laws.specs.Tests.{by_test}
use Rattle.laws.specs.Calls.{own_decide, outcome-done}
use Rattle.laws.specs.Bands.{lines_send, idle_iff}
use Rattle.order.specs.Held.{PanelState, Held, held_open, held_after, none_left}
use Rattle.order.specs.Step.{Lendable, view, Step, known}
use Rattle.order.specs.Opens.{opening_step}
use Rattle.order.specs.EachCall.{item_step}
use Rattle.order.specs.Accepted.{leaves-done, by_item, accepted_call, accepted_calls, named}

-- what holds of the lent bytes between calls; p is owed, in hand and sent of panel k, and x the edge flag, as reckoned from the effects
pub record Standing (g : Geometry) (k : ℕ) (b : Buffers) (p : Pending) (x : ℕ) : Type 0 where
  pub lendable : Lendable g (lent_to_send k b)
  pub held : Held g (view g k (lent_to_send k b))
  pub pending : (view g k (lent_to_send k b)).pending ≡ p
  pub edge : (decode g b.rec).edge ≡ x

module _ (g : Geometry) (k : ℕ) (there : k < g.panels) where
  abbrev state : Buffers → PanelState
  state b = view g k (lent_to_send k b)

  -- ---- after every list

  standing_item : (b : Buffers) (i : Item g) {p : Pending} {x : ℕ} → Standing g k b p x → let e = item_effect g b i in Standing g k (after g b i) (affected g k p e) (edge_after e x)
  standing_item b i s =
      let e = item_effect g b i in
      let f = item_step g k there b s.lendable i in
      record {
        lendable = f.lendable;
        held = held_after g k (state b) e (state (after g b i)) s.held f.follows;
        pending = f.follows.pending ∙ ap (λ (q : Pending). affected g k q e) s.pending;
        edge = f.edge ∙ ap (edge_after e) s.edge;
      }

  pub standing-run : (b : Buffers) (is : List (Item g)) {p : Pending} {x : ℕ} → Standing g k b p x → Standing g k (run g b is) (reckoned g k p b is) (last_edge g x b is)
  unfolding run reckoned last_edge
  standing-run b [] s = s
  standing-run b (i ∷ is) s = standing-run (after g b i) is (standing_item b i s)

  -- an accepted opening, lent any record and any memory, and then a list: owed and in hand are empty at first, and the edge flag is that of the last accepted opening
  pub standing-opened : IsGlass g → (graphics text version : ℕ) (keys : List ℕ) (edge : ℕ) (t : Typed (opening graphics text version keys edge)) (b : Buffers)
      → accepted g (opening graphics text version keys edge) (lent b.rec b.memory []) → length (panel_buffer k b) ≡ screen_bytes g
      → (is : List (Item g)) → let list = here (opening graphics text version keys edge) t ∷ is in Standing g k (run g b list) (reckoned g k (nothing_pending g) b list) (last_edge g 0 b list)
  unfolding run after reckoned last_edge affected edge_after item_effect effect_at effect lent_to given_back done answered
  standing-opened z graphics text version keys edge t b a n is =
      let c = opening graphics text version keys edge in
      let first : Step g k (lent_to_send k b) (opens edge) (lent_to_send k (leaves g c b)) =
      rw (leaves-done g c b a) (opening_step g k there z graphics text version keys edge b.rec b.memory (panel_buffer k b) t a n) in
      standing-run (leaves g c b) is
      (record {
        lendable = first.lendable;
        held = held_open g (state (leaves g c b)) first.lendable.panel first.follows.pending;
        pending = first.follows.pending ∙ ap (λ (n : ℕ). affected g k (nothing_pending g) (effect_at n (opens edge))) (sym a);
        edge = first.edge ∙ ap (λ (n : ℕ). edge_after (effect_at n (opens edge)) 0) (sym a);
      })

  -- ---- what holds then

  module _ (b : Buffers) (q : Lendable g (lent_to_send k b)) where
    well : WellPending g (state b).pending
    well = (known g (lent_to_send k b) q).panels k there

    -- a send to it is accepted
    pub sendable : accepted g (send k) (lent_to_send k b)
    unfolding refusal
    sendable = own_decide g (send k) (lent_to_send k b) (record {
      sized = q.passing.sized;
      lengths = λ i. eq-eqb (length b.memory) memory_bytes q.memory i && eq-eqb (length (panel_buffer k b)) (screen_bytes g) q.panel i;
      state = (q.passing.passes, tt);
    }) ∙ rw (lt-ltb k g.panels there) refl

    -- the next send to it is done, and answers four zeros exactly where no line is left
    pub idle : let o = outcome g (send k) (lent_to_send k b) in (o.code ≡ 0) × ((o.numbers ≡ 0 ∷ 0 ∷ 0 ∷ 0 ∷ []) ↔ (lines_left (state b).pending ≡ 0))
    unfolding done answered
    idle = rw (outcome-done g (send k) (lent_to_send k b) sendable) (refl, idle_iff g (state b).pending well)

  -- ---- a further list whose accepted calls are sends to the panels js

  -- a row of sends to it is such a list
  pub row_of_sends : (t : Typed (send k)) (b : Buffers) → Lendable g (lent_to_send k b) → (n : ℕ) → accepted_calls g b (replicate n (here (send k) t)) ≡ map send (replicate n k)
  unfolding accepted_calls accepted_call ruled run lent_to
  row_of_sends t b q zero = refl
  row_of_sends t b q (suc n) =
      let i = here (send k) t in rw (sendable b q) (ap (λ (cs : List Call). send k ∷ cs) (row_of_sends t (after g b i) (item_step g k there b q i).lendable n))

  -- of an item with the effect e before the accepted calls cs, sends to js with its own: it does nothing, or is the first of them and takes a line if it names k and there is one
  record Sent (q : Pending) (e : Effect) (cs : List Call) (js : List ℕ) : Type 0 where
    others : List ℕ
    rest : cs ≡ map send others
    fewer : lines_left (affected g k q e) - named k others ≡ lines_left q - named k js

  sent_item : (b : Buffers) (i : Item g) (q : Pending) → WellPending g q → (cs : List Call) (js : List ℕ) → accepted_call g b i ++ cs ≡ map send js → Sent q (item_effect g b i) cs js
  unfolding effect affected named
  sent_item b i q w cs js e = by_item g (λ d f ds. ds ++ cs ≡ map send js → Sent q f cs js) b i (λ c t a. first c (lent_to (takes c) b) js) (λ d. record { others = js; rest = d; fewer = refl }) e
    where
      first : (c : Call) (l : Lent) (js : List ℕ) → c ∷ cs ≡ map send js → Sent q (effect g c l) cs js
      first c l [] e = absurd (let z = ap length e in omega arith)
      first c l (j ∷ js) e =
          let a : c ≡ send j = cc in
          let less = lines_send g q w in
          record { others = js; rest = cc; fewer = rw a (by_test (eqb j k) (λ t. rw t (omega arith)) (λ t. rw t refl)) }

  -- each send to it takes a line, as long as there are any; sends to other panels take none
  pub lines_more : (b : Buffers) → Lendable g (lent_to_send k b) → (more : List (Item g)) (js : List ℕ) → accepted_calls g b more ≡ map send js
      → lines_left (state (run g b more)).pending ≡ lines_left (state b).pending - named k js
  unfolding run accepted_calls named
  lines_more b q [] [] e = omega arith
  lines_more b q [] (j ∷ js) e = absurd (let z = ap length e in omega arith)
  lines_more b q (i ∷ is) js e =
      let t = sent_item b i (state b).pending (well b q) (accepted_calls g (after g b i) is) js e in
      let f = item_step g k there b q i in
      lines_more (after g b i) f.lendable is t.others t.rest ∙ ap (λ (p : Pending). lines_left p - named k t.others) f.follows.pending ∙ t.fewer

  pub level : (b : Buffers) {p : Pending} {x : ℕ} → Standing g k b p x → (more : List (Item g)) (js : List ℕ) → accepted_calls g b more ≡ map send js → lines_left (state b).pending ≤ named k js
      → differing g (state (run g b more)).screen (state (run g b more)).panel ≡ 0
  level b s more js e h = none_left g (state (run g b more)) (standing-run b more s).held (omega (arith, lines_more b s.lendable more js e))

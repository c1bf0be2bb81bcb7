-- The witnesses of specs/Witnesses.antt that take the theorem: lists after which L is 95, sends to any panels in any order, and such a list written out.
use Rattle.std.specs.Prelude.{◌≡◌, ℕ, ◌<◌, length, get_or, replicate}
use Rattle.std.proofs.Math.Path.{refl, ap}
use Rattle.std.proofs.Common.{◌∙◌}
use mathlib.Core.List.{List, [], ◌∷◌, map}
use native.Mathlib.Omega.{arith}
use borrow.Author.Tests.{eq-eqb}
use Rattle.model.specs.Geometry.{base}
use Rattle.model.specs.Memory.{zeros}
use Rattle.model.specs.Rects.{is_empty, join, cut}
use Rattle.model.specs.Record.{nothing_pending, decode, total}
use Rattle.model.specs.Refusals.{refusal}
use Rattle.model.specs.Marks.{owing, join_owed}
use Rattle.model.specs.Open.{open_pending}
use Rattle.model.specs.Sends.{send_pending, take_owed, first_owed, rest_owed, line_sent, next_line}
use Rattle.model.specs.Calls.{opening, reset, cls, send, lent}
use Rattle.model.specs.Lists.{accepted, Typed, Item, here, Buffers, buffers, panel_buffer, lent_to, leaves, after, run, effect, affected, effect_at, item_effect, reckoned, edge_after, last_edge, owed_lines, lines_left, differing}
use Rattle.model.specs.Script.Output.{no_keys}
use Rattle.laws.specs.Glasses.{base_glass}
use Rattle.laws.specs.Calls.{own_decide}
use Rattle.order.specs.Accepted.{accepted_calls, named}
use Rattle.order.specs.Apart.{SentApart, send_apart}
use Rattle.order.specs.Order.{standing-opened, sendable}
use Rattle.order.specs.Theorem.{lines_in, screen_in, Promised}
use Rattle.order.specs.Witnesses.{Panels, sends_to, rounds, round_panels, round_named, all-accepted, ones, fresh, open_it, may_open, full}
use Rattle.order.proofs.Theorem.{calls_in_any_order}

module _ (graphics text version : ℕ) (keys : List ℕ) (edge : ℕ) (t : Typed (opening graphics text version keys edge)) (r m : List ℕ) (ps : List (List ℕ))
    (a : accepted base (opening graphics text version keys edge) (lent r m [])) where
  abbrev start : Buffers
  start = buffers r m ps

  abbrev first : Item base
  first = here (opening graphics text version keys edge) t

  module _ (k : ℕ) (there : k < 4) (n : length (get_or ps k []) ≡ 1600) where
    promised : (items : List (Item base)) → Promised base k start (first ∷ items) (run base start (first ∷ items))
    promised = calls_in_any_order k there graphics text version keys edge t r m ps a n

    -- an accepted open owes 80 lines to a panel, a send to it takes the sixteen of the first band in hand and leaves fifteen, and `cls` owes 80 again
    pub most-lines : (u : Typed (send k)) → lines_in base k (run base start (first ∷ here (send k) u ∷ here cls tt ∷ [])) ≡ 95
    unfolding total lent_to run refusal reckoned item_effect effect_at effect affected open_pending nothing_pending send_pending take_owed first_owed rest_owed line_sent next_line owing join_owed
        join cut is_empty lines_left owed_lines
    most-lines u =
        let sent = promised (here (send k) u ∷ []) in
        let b = run base start (first ∷ here (send k) u ∷ []) in
        let l = lent b.rec b.memory [] in
        let clears : accepted base cls l =
        own_decide base cls l (record { sized = sent.record_length; lengths = eq-eqb (length b.memory) 65536 sent.memory_length; state = (sent.passes, tt) }) in
        ap lines_left (promised (here (send k) u ∷ here cls tt ∷ [])).pending ∙ rw (a, (promised []).sendable, clears, eq-eqb k k refl) refl

    -- a reset keeps the edge flag
    pub kept_edge : (decode base (run base start (first ∷ here reset tt ∷ [])).rec).edge ≡ edge
    unfolding total lent_to run refusal last_edge edge_after item_effect effect_at effect
    kept_edge =
        let opened = promised [] in
        let b = run base start (first ∷ []) in
        let l = lent b.rec b.memory [] in
        let resets : accepted base reset l =
        own_decide base reset l (record { sized = opened.record_length; lengths = eq-eqb (length b.memory) 65536 opened.memory_length; state = (opened.passes, tt) }) in
        let told : last_edge base 0 start (first ∷ here reset tt ∷ []) ≡ edge = rw (a, resets) refl in
        omega (arith, (promised (here reset tt ∷ [])).edge, told)

  module _ (all : (k : ℕ) → k < 4 → length (get_or ps k []) ≡ 1600) where
    abbrev opened : Buffers
    opened = run base start (first ∷ [])

    -- after the open, sends to any panels are all accepted
    pub any_sends : (js : List ℕ) (h : Panels js) → accepted_calls base opened (sends_to js h) ≡ map send js
    any_sends js h = all-accepted opened (λ k there. (standing-opened base k there base_glass graphics text version keys edge t start a (all k there) []).lendable) js h

    -- the open owes each panel 80 lines
    pub opened_lines : (k : ℕ) → k < 4 → lines_in base k opened ≡ 80
    unfolding run lent_to reckoned item_effect effect_at effect affected open_pending nothing_pending owing join_owed join cut is_empty lines_left owed_lines
    opened_lines k there = ap lines_left (promised k there (all k there) []).pending ∙ rw a refl

    -- a send to panel 1 takes one of its lines, and touches nothing of the others
    pub one_sent : let b = leaves base (send 1) opened in (lines_in base 1 b ≡ 79) × SentApart base 1 opened b
    unfolding run after sends_to named
    one_sent =
        let h : Panels (1 ∷ []) = (omega arith, tt) in
        let q = (standing-opened base 1 (omega arith) base_glass graphics text version keys edge t start a (all 1 (omega arith)) []).lendable in (
          (promised 1 (omega arith) (all 1 (omega arith)) []).lines (sends_to (1 ∷ []) h) (1 ∷ []) (any_sends (1 ∷ []) h) ∙ omega (arith, opened_lines 1 (omega arith)),
          send_apart base base_glass 1 opened q.passing.bytes (sendable base 1 (omega arith) opened q),
        )

    -- eighty rounds of sends to panels 3, 0 and 1: panel 0 is level, panel 2, which none of them names, has its 80 lines still to come
    pub polled_between : let b = run base opened (sends_to (rounds 80) (round_panels 80)) in (differing base (screen_in base b) (panel_buffer 0 b) ≡ 0) × (lines_in base 2 b ≡ 80)
    polled_between =
        let e = any_sends (rounds 80) (round_panels 80) in
        let counted = round_named 80 in (
          (promised 0 (omega arith) (all 0 (omega arith)) []).level (sends_to (rounds 80) (round_panels 80)) (rounds 80) e (omega (arith, opened_lines 0 (omega arith))),
          (promised 2 (omega arith) (all 2 (omega arith)) []).lines (sends_to (rounds 80) (round_panels 80)) (rounds 80) e ∙ omega (arith, opened_lines 2 (omega arith)),
        )

-- ---- such a list written out

pub a_list_of_most_lines : lines_in base 3 (run base fresh (open_it ∷ here (send 3) (omega arith) ∷ here cls tt ∷ [])) ≡ 95
a_list_of_most_lines =
    most-lines 4096 8192 1 no_keys 0 (refl, omega arith) (zeros 359) (zeros 65536) (replicate 4 ones) may_open 3 (omega arith) (full 3 (omega arith)) (omega arith)

-- .. and after the rounds none
pub none-differs : let b = run base (run base fresh (open_it ∷ [])) (sends_to (rounds 80) (round_panels 80)) in differing base (screen_in base b) (panel_buffer 0 b) ≡ 0
none-differs = (polled_between 4096 8192 1 no_keys 0 (refl, omega arith) (zeros 359) (zeros 65536) (replicate 4 ones) may_open full).0

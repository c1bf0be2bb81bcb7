-- The claim is not about nothing: there is an accepted open; there are lists after which L is 95, the most that it may be; and where all four panels have their
-- buffers, sends to any of them in any order are a list of the kind that may follow, after which one panel is level and another is not. And what the bands are for:
-- marks in the first text row and in the last owe the lines of two bands.
use Rattle.std.specs.Prelude.{◌≡◌, true, ℕ, zero, suc, ◌≤◌, ◌<◌, length, get_or, replicate}
use Rattle.std.proofs.Math.Path.{refl, ap}
use Rattle.std.proofs.Common.{◌∙◌}
use mathlib.Core.List.{List, [], ◌∷◌, map}
use native.Mathlib.Omega.{arith}
use Rattle.std.proofs.lemmas.List.{length-replicate, get_or-replicate}
use borrow.Author.Tests.{eq-eqb}
use Rattle.model.specs.Geometry.{base}
use Rattle.model.specs.Bits.{bit_at}
use Rattle.model.specs.Memory.{window, zeros, screen_of}
use Rattle.model.specs.declared.Rect.{Rect}
use Rattle.model.specs.Record.{Pending, windows, edge_fits, total, WellPending}
use Rattle.model.specs.Refusals.{refusal, ruled}
use Rattle.model.specs.Marks.{owing}
use Rattle.model.specs.Open.{is_key, with_keys, clear_memory, open_state}
use Rattle.model.specs.Calls.{Call, opening, send, lent, answered, done}
use Rattle.model.specs.Lists.{accepted, Item, here, Buffers, buffers, panel_buffer, lent_to_send, lent_to, given_back, after, run, lines_left, differs, sum, differing}
use Rattle.model.specs.Script.Output.{no_keys}
use Rattle.laws.specs.Glasses.{base_glass}
use Rattle.laws.specs.Bands.{well_owing, owing_adds}
use Rattle.laws.specs.Loops.{length-zeros}
use Rattle.laws.specs.Calls.{own_decide}
use Rattle.laws.specs.Record.{decode-encode}
use Rattle.laws.specs.Opening.{open_formed}
use Rattle.laws.specs.Counts.{byte_differs, bytes_differ, differing_bytes}
use Rattle.order.specs.Step.{Lendable}
use Rattle.order.specs.EachCall.{item_step}
use Rattle.order.specs.Accepted.{accepted_call, accepted_calls, named, leaves-done}
use Rattle.order.specs.Order.{sendable}
use Rattle.order.specs.Theorem.{screen_in}

-- the open of the script program (bases 4,096 and 8,192, V2, no keys) is accepted over a record and a memory of any bytes, with both edge flags
pub accepted_open : (edge : ℕ) (r m : List ℕ) → edge_fits edge ≡ true → length r ≡ 359 → length m ≡ 65536 → accepted base (opening 4096 8192 1 no_keys edge) (lent r m [])
unfolding refusal total windows
accepted_open edge r m e hr hm = own_decide base (opening 4096 8192 1 no_keys edge) (lent r m []) (record { sized = hr; lengths = eq-eqb (length m) 65536 hm; state = tt }) ∙ rw e refl

-- ---- sends to any panels that there are

-- each is the number of a panel
abbrev pub Panels : List ℕ → Type 0
Panels [] = Unit {0}
Panels (j ∷ js) = (j < 4) × Panels js

-- a send to each of them, in this order
unfoldable pub sends_to : (js : List ℕ) → Panels js → List (Item base)
sends_to [] h = []
sends_to (j ∷ js) h = here (send j) (omega (arith, h.0)) ∷ sends_to js h.1

-- n rounds of sends to panels 3, 0 and 1
unfoldable pub rounds : ℕ → List ℕ
rounds zero = []
rounds (suc n) = 3 ∷ 0 ∷ 1 ∷ rounds n

pub round_panels : (n : ℕ) → Panels (rounds n)
unfolding rounds
round_panels zero = tt
round_panels (suc n) = (omega arith, (omega arith, (omega arith, round_panels n)))

pub round_named : (n : ℕ) → (named 0 (rounds n) ≡ n) × (named 2 (rounds n) ≡ 0)
unfolding rounds named
round_named zero = (refl, refl)
round_named (suc n) = (ap suc (round_named n).0, (round_named n).1)

pub all-accepted : (b : Buffers) → ((k : ℕ) → k < 4 → Lendable base (lent_to_send k b)) → (js : List ℕ) (h : Panels js) → accepted_calls base b (sends_to js h) ≡ map send js
unfolding accepted_calls accepted_call ruled lent_to sends_to
all-accepted b q [] h = refl
all-accepted b q (j ∷ js) h =
    let i = here (send j) (omega (arith, h.0)) in
    rw (sendable base j h.0 b (q j h.0))
    (ap (λ (cs : List Call). send j ∷ cs) (all-accepted (after base b i) (λ k there. (item_step base k there b (q k there) i).lendable) js h.1))

-- ---- what the bands are for

-- a level panel, a mark in the first text row and one in the last, a cursor and a clock: their two bands' lines at most
pub cursor_and_clock : (m n : Rect) (p : Pending) → WellPending base p → lines_left p ≡ 0 → m.bottom ≤ 16 → 64 ≤ n.top → n.bottom ≤ 80 → lines_left (owing base n (owing base m p)) ≤ 32
cursor_and_clock m n p w z a b c = omega (arith, owing_adds base m 0 p w (omega arith) (omega arith), owing_adds base n 4 (owing base m p) (well_owing base m p w) (omega arith) (omega arith))

-- ---- such lists written out: record and memory of zeros, four panels whose every pixel is set

abbrev pub ones : List ℕ
ones = replicate 1600 255

abbrev pub fresh : Buffers
fresh = buffers (zeros 359) (zeros 65536) (replicate 4 ones)

abbrev pub open_it : Item base
open_it = here (opening 4096 8192 1 no_keys 0) (refl, omega arith)

pub may_open : accepted base (opening 4096 8192 1 no_keys 0) (lent (zeros 359) (zeros 65536) [])
may_open = accepted_open 0 (zeros 359) (zeros 65536) refl (length-zeros 359) (length-zeros 65536)

pub full : (k : ℕ) → k < 4 → length (get_or (replicate 4 ones) k []) ≡ 1600
full k there = rw (get_or-replicate 4 k ones [] there) (length-replicate {A = ℕ} 1600 255)

pub cleared_screen : screen_of base 4096 (clear_memory no_keys) ≡ zeros 1600
unfolding window clear_memory with_keys is_key bit_at zeros
cleared_screen = refl

ones_differ : differing base (zeros 1600) ones ≡ 12800
unfolding zeros bytes_differ byte_differs sum differs bit_at
ones_differ = differing_bytes base (zeros 1600) ones refl refl

-- after the open every pixel of panel 0 differs ..
pub all_differ : let b = run base fresh (open_it ∷ []) in differing base (screen_in base b) (panel_buffer 0 b) ≡ 12800
unfolding run after lent_to given_back done answered open_state windows
all_differ =
    let c = opening 4096 8192 1 no_keys 0 in
    let w = open_formed base base_glass 4096 8192 1 no_keys 0 (record { apart = refl; listed = refl; flag = refl; count = refl; words = omega arith }) in
    rw (leaves-done base c fresh may_open, decode-encode base (open_state base 4096 8192 1 no_keys 0) base_glass w, cleared_screen) ones_differ

-- The theorems are not about nothing: a record with pixels 3 to 12 of line 5 in hand, whose edge bytes hold three pixels more on either side, driven on a panel whose every
-- pixel is set; a line of two bytes written by hand; and lists from an open on, with one driven panel and with two.
use Rattle.std.specs.Prelude.{◌≡◌, Bool, true, false, ◌&&◌, List, [], ◌∷◌, ◌++◌, ℕ, zero, suc, ◌<◌, length, replicate, eqb}
use Rattle.std.proofs.Math.Path.{refl, ap}
use Rattle.std.proofs.Common.{subst, ◌∙◌, arith, length-append, eq-eqb, lt-ltb, eqb-true}
use Rattle.std.proofs.Math.ListN.{get_or}
use Rattle.std.proofs.lemmas.List.{get_or-replicate}
use Rattle.model.specs.declared.Rect.{Rect}
use Rattle.model.specs.Geometry.{base}
use Rattle.model.specs.Bits.{bit_at, with_bit}
use Rattle.model.specs.Pixels.{bit, put, copy_run}
use Rattle.model.specs.Memory.{window, zeros, screen_of}
use Rattle.model.specs.Rects.{is_empty, join, cut, none, fits}
use Rattle.model.specs.Record.{Pending, State, nothing_pending, panel_of, pending_fits, bands_fit, encode, with_panel, windows, WellPending, WellFormed}
use Rattle.model.specs.Refusals.{refusal, ruled}
use Rattle.model.specs.Marks.{owing, join_owed}
use Rattle.model.specs.Open.{clear_memory, open_pending, open_state}
use Rattle.model.specs.Sends.{take_owed, first_owed, rest_owed, next_line, line_sent, copy_line, send_pending, send_panel, send_numbers, line_numbers}
use Rattle.model.specs.Calls.{opening, send, lent, answered, done, outcome, Outcome}
use Rattle.model.specs.Lists.{accepted, Typed, Buffers, buffers, panel_buffer, lent_to, given_back, leaves, after, run, lines_left, owed_lines, differing}
use Rattle.model.specs.Script.Output.{no_keys}
use Rattle.model.specs.Controller.{registers_fit, line_fits, takes_write, registers_after, panel_after, DeviceCall, write, device, answer, device_refusals, device_done, device_outcome, run_device}
use Rattle.model.specs.Driver.{driven, line_writes}
use Rattle.laws.specs.Tests.{clash}
use Rattle.laws.specs.Glasses.{base_glass}
use Rattle.laws.specs.Loops.{length-zeros}
use Rattle.laws.specs.Bands.{well_send}
use Rattle.laws.specs.Calls.{own_decide, outcome-done}
use Rattle.laws.specs.Record.{decode-encode}
use Rattle.laws.specs.States.{encode_passing}
use Rattle.laws.specs.Opening.{open_formed}
use Rattle.laws.specs.Formed.{panel_formed}
use Rattle.order.specs.Theorem.{lines_in, screen_in}
use Rattle.order.specs.Accepted.{leaves-done}
use Rattle.order.specs.Opens.{length-clear-memory}
use Rattle.order.specs.Witnesses.{accepted_open, cleared_screen}
use Rattle.order.proofs.Witnesses.{opened_lines}
use Rattle.driving.specs.Sends.{Free}
use Rattle.driving.specs.Theorem.{driven_answers, driven_left, sent_answers, sent_left}
use Rattle.driving.proofs.Theorem.{driven_as_sent}
use Rattle.driving.specs.InAnyOrder.{Driving, device_of, Each, drive, run_driven, as_sent, Behind, open_item}
use Rattle.driving.proofs.InAnyOrder.{driven_on_base}

-- ---- a line by hand: two bytes from byte 0 of line 5 on, and the registers when it is done

abbrev by_hand : List DeviceCall
by_hand = write 1 5 ∷ write 2 0 ∷ write 3 2 ∷ write 0 2 ∷ write 4 224 ∷ write 4 7 ∷ []

pub hand_line : let d = run_device base by_hand (device (zeros 8) (zeros 1600)) in
    (d.registers ≡ 2 ∷ 5 ∷ 2 ∷ 0 ∷ 7 ∷ 0 ∷ 0 ∷ 0 ∷ []) × (get_or d.panel 100 0 ≡ 224) × (get_or d.panel 101 0 ≡ 7) × (get_or d.panel 102 0 ≡ 0)
unfolding run_device device_outcome device_refusals device_done refusal ruled answer registers_fit line_fits takes_write registers_after panel_after zeros
hand_line = (refl, refl, refl, refl)

-- ---- the driver's own writes: the line's pixels are clear on the screen, so 11111111 becomes 11100000 in its first byte and 00000111 in its second

abbrev line : Rect
line = record { left = 3; top = 5; right = 13; bottom = 6 }

abbrev ones : List ℕ
ones = replicate 1600 255

pub edge_bytes : line_writes base 5 3 13 (copy_line 20 line (zeros 1600) ones) ≡ by_hand
unfolding line_writes copy_line copy_run put bit bit_at with_bit window zeros
edge_bytes = refl

-- ---- and the whole of a driven send: screen at 0, text at 8,192

abbrev in_hand : Pending
in_hand = record { owed = none ∷ none ∷ none ∷ none ∷ none ∷ []; hand = line; sent = 0 }

abbrev state : State
state = with_panel 0 in_hand (open_state base 0 8192 1 no_keys 0)

well_in_hand : WellPending base in_hand
unfolding pending_fits bands_fit fits is_empty
well_in_hand = record { passes = refl; bands = refl; counted = omega arith }

formed_open : (graphics : ℕ) → windows base graphics 8192 ≡ true → WellFormed base (open_state base graphics 8192 1 no_keys 0)
formed_open graphics e = open_formed base base_glass graphics 8192 1 no_keys 0 (record { apart = e; listed = refl; flag = refl; count = refl; words = omega arith })

formed : WellFormed base state
unfolding windows
formed = panel_formed base (open_state base 0 8192 1 no_keys 0) (formed_open 0 refl) 0 in_hand (omega arith) well_in_hand

abbrev stored : List ℕ
stored = encode base state

-- registers of zeros pass STATE and are not busy
pub free_device : (p : List ℕ) → Free base (device (zeros 8) p)
unfolding zeros registers_fit line_fits
free_device p = record { registers = refl; passes = refl; not_busy = refl }

-- a direct send to panel k from the record of a state s: the state whose record it leaves, and the panel
abbrev sent_state : ℕ → State → State
sent_state k s = with_panel k (send_pending (panel_of base s k)) s

abbrev sent_panel : ℕ → List ℕ → List ℕ → State → List ℕ
sent_panel k m p s = send_panel 20 (panel_of base s k) (screen_of base s.head.graphics m) p

sent : (k : ℕ) → k < base.panels → (m p : List ℕ) → length m ≡ 65536 → length p ≡ 1600 → (s : State) → WellFormed base s
    → outcome base (send k) (lent (encode base s) m p) ≡ answered 0 (send_numbers (panel_of base s k)) (lent (encode base (sent_state k s)) m (sent_panel k m p s))
unfolding refusal done
sent k there m p hm hp s w =
    let l = lent (encode base s) m p in
    let passing = encode_passing base base_glass s w in
    let lengths : (eqb (length m) 65536 && eqb (length p) 1600) ≡ true = λ i. eq-eqb (length m) 65536 hm i && eq-eqb (length p) 1600 hp i in
    let a : accepted base (send k) l = own_decide base (send k) l (record { sized = passing.sized; lengths = lengths; state = (passing.passes, tt) }) ∙ rw (lt-ltb k base.panels there) refl in
    outcome-done base (send k) l a
    ∙ ap (λ (x : State). answered 0 (send_numbers (panel_of base x k)) (lent (encode base (sent_state k x)) m (sent_panel k m p x))) (decode-encode base s base_glass w)

module _ (rest : List ℕ) (size : length rest ≡ 63936) where
  -- the screen is clear
  abbrev memory : List ℕ
  memory = zeros 1600 ++ rest

  -- the driver answers line 5, pixels 3 to 13, and the device's panel has the line's pixels clear and the others of its two bytes as they were
  pub edge_line : let l = driven stored memory (device (zeros 8) ones) ones in
      (driven_answers base 0 1 l ≡ (0 ∷ 1 ∷ 5 ∷ 3 ∷ 13 ∷ []) ∷ []) × (get_or (driven_left base 0 1 l).device.panel 100 0 ≡ 224) × (get_or (driven_left base 0 1 l).device.panel 101 0 ≡ 7)
  unfolding sent_answers sent_left answered send_numbers line_numbers send_panel take_owed is_empty open_state copy_line copy_run put bit bit_at with_bit window zeros
  edge_line =
      let s = driven_as_sent base base_glass 0 1 stored memory (zeros 8) ones (free_device ones) (encode_passing base base_glass state formed).bytes in
      let o = sent 0 (omega arith) memory ones (length-append (zeros 1600) rest ∙ omega (arith, length-zeros 1600)) refl state formed in
      let shown : (driven_left base 0 1 (driven stored memory (device (zeros 8) ones) ones)).device.panel ≡ sent_panel 0 memory ones state = s.panel ∙ ap (λ (x : Outcome). x.left.panel) o in
      (s.answers ∙ ap (λ (x : Outcome). (x.code ∷ x.numbers) ∷ []) o, (λ j. get_or (shown j) 100 0), (λ j. get_or (shown j) 101 0))

-- ---- from an open on

-- panel 0 alone, behind its controller, has 80 lines to come, and is level after 80 driver calls
abbrev driving : List ℕ → List ℕ → Driving
driving r m = record { buffers = buffers r m (replicate 4 ones); devices = device (zeros 8) ones ∷ [] }

pub driven_from_open : (r m : List ℕ) → length r ≡ 359 → length m ≡ 65536 → (t : Typed (opening 4096 8192 1 no_keys 0)) (u : Typed (send 0))
    → let w = run_driven base (eqb 0) (driving r m) (open_item base (eqb 0) 4096 8192 1 no_keys 0 t ∷ []) in
    let w' = run_driven base (eqb 0) w (replicate 80 (drive 0 u refl)) in
    (lines_in base 0 w.buffers ≡ 80) × (differing base (screen_in base w'.buffers) (device_of 0 w').panel ≡ 0)
unfolding as_sent
driven_from_open r m hr hm t u =
    let ps = replicate 4 ones in
    let a = accepted_open 0 r m refl hr hm in
    let all : (k : ℕ) → k < 4 → length (get_or ps k []) ≡ 1600 = λ k h. ap length (get_or-replicate 4 k ones [] h) in
    let alone : (P : ℕ → Type 0) → P 0 → Each (eqb 0) P = λ P h j d. subst P (eqb-true 0 j d) h in
    let p = (driven_on_base (eqb 0) (alone (λ j. j < 4) (omega arith)) 4096 8192 1 no_keys 0 t (driving r m) a (λ j d. all j (alone (λ j. j < 4) (omega arith) j d))
    (alone (λ j. Behind base (get_or ps j []) (device_of j (driving r m))) (record { panel = refl; free = free_device ones })) []).0 in
    let n = ap (lines_in base 0) p.beside.buffers ∙ opened_lines 4096 8192 1 no_keys 0 t r m ps a all 0 (omega arith) in
    let w = run_driven base (eqb 0) (driving r m) (open_item base (eqb 0) 4096 8192 1 no_keys 0 t ∷ []) in
    (n, subst (λ (i : ℕ). let w' = run_driven base (eqb 0) w (replicate i (drive 0 u refl)) in differing base (screen_in base w'.buffers) (device_of 0 w').panel ≡ 0) n ((p.behind 0 refl).level_row u refl))

-- ---- panels 1 and 0, each behind a controller of its own, with other bytes on each

abbrev both : ℕ → Bool
both zero = true
both (suc zero) = true
both (suc (suc j)) = false

each_both : (P : ℕ → Type 0) → P 0 → P 1 → Each both P
each_both P p q zero d = p
each_both P p q (suc zero) d = q
each_both P p q (suc (suc j)) d = clash false d refl

abbrev stripes : List ℕ
stripes = replicate 1600 85

abbrev panels : List (List ℕ)
panels = ones ∷ stripes ∷ []

abbrev driving_both : List ℕ → List ℕ → Driving
driving_both r m = record { buffers = buffers r m panels; devices = device (zeros 8) ones ∷ device (zeros 8) stripes ∷ [] }

-- the state whose record the open leaves, and the memory
abbrev opened : State
opened = open_state base 4096 8192 1 no_keys 0

abbrev mem : List ℕ
mem = clear_memory no_keys

formed_opened : WellFormed base opened
unfolding windows
formed_opened = formed_open 4096 refl

formed_sent : (k : ℕ) → k < base.panels → (s : State) → WellFormed base s → WellFormed base (sent_state k s)
formed_sent k there s w = panel_formed base s w k (send_pending (panel_of base s k)) there (well_send base (panel_of base s k) (w.panels k there))

-- what the open and the two sends leave
sent_both : (r m : List ℕ) → accepted base (opening 4096 8192 1 no_keys 0) (lent r m [])
    → leaves base (send 0) (leaves base (send 1) (leaves base (opening 4096 8192 1 no_keys 0) (buffers r m panels)))
    ≡ buffers (encode base (sent_state 0 (sent_state 1 opened))) mem (sent_panel 0 mem ones (sent_state 1 opened) ∷ sent_panel 1 mem stripes opened ∷ [])
unfolding leaves done lent_to given_back answered
sent_both r m a =
    let o₁ = sent 1 (omega arith) mem stripes (length-clear-memory no_keys) refl opened formed_opened in
    let o₀ = sent 0 (omega arith) mem ones (length-clear-memory no_keys) refl (sent_state 1 opened) (formed_sent 1 (omega arith) opened formed_opened) in
    ap (λ (b : Buffers). leaves base (send 0) (leaves base (send 1) b)) (leaves-done base (opening 4096 8192 1 no_keys 0) (buffers r m panels) a)
    ∙ ap (λ (o : Outcome). leaves base (send 0) (buffers o.left.rec o.left.memory (ones ∷ o.left.panel ∷ []))) o₁
    ∙ ap (λ (o : Outcome). buffers o.left.rec o.left.memory (o.left.panel ∷ sent_panel 1 mem stripes opened ∷ [])) o₀

-- a driver call for panel 1 and then one for panel 0: each panel has its line 0 clear and 79 lines to come, and below its line 0 it is as it was
pub both-driven : (r m : List ℕ) → length r ≡ 359 → length m ≡ 65536 → (t : Typed (opening 4096 8192 1 no_keys 0)) (u : Typed (send 1)) (v : Typed (send 0))
    → let w = run_driven base both (driving_both r m) (open_item base both 4096 8192 1 no_keys 0 t ∷ drive 1 u refl ∷ drive 0 v refl ∷ []) in
    (lines_in base 0 w.buffers ≡ 79) × (lines_in base 1 w.buffers ≡ 79) × ((device_of 0 w).panel ≡ zeros 20 ++ replicate 1580 255) × ((device_of 1 w).panel ≡ zeros 20 ++ replicate 1580 85)
unfolding as_sent run after open_state send_pending take_owed first_owed rest_owed line_sent next_line open_pending nothing_pending owing join_owed join cut is_empty lines_left owed_lines send_panel copy_line copy_run
    put bit bit_at with_bit zeros
both-driven r m hr hm t u v =
    let w = driving_both r m in
    let a = accepted_open 0 r m refl hr hm in
    let p = (driven_on_base both (each_both (λ j. j < 4) (omega arith) (omega arith)) 4096 8192 1 no_keys 0 t w a (each_both (λ j. length (get_or panels j []) ≡ 1600) refl refl)
    (each_both (λ j. Behind base (get_or panels j []) (device_of j w)) (record { panel = refl; free = free_device ones }) (record { panel = refl; free = free_device stripes })) (drive 1 u refl ∷ drive 0 v refl ∷ [])).0.beside in
    let b = sent_both r m a in
    let s₁ = formed_sent 1 (omega arith) opened formed_opened in
    let back = decode-encode base (sent_state 0 (sent_state 1 opened)) base_glass (formed_sent 0 (omega arith) (sent_state 1 opened) s₁) in (
      ap (lines_in base 0) (p.buffers ∙ b) ∙ ap (λ (s : State). lines_left (panel_of base s 0)) back,
      ap (lines_in base 1) (p.buffers ∙ b) ∙ ap (λ (s : State). lines_left (panel_of base s 1)) back,
      (p.each 0 refl).panel ∙ ap (panel_buffer 0) b ∙ ap (λ (s : List ℕ). send_panel 20 (panel_of base (sent_state 1 opened) 0) s ones) cleared_screen,
      (p.each 1 refl).panel ∙ ap (panel_buffer 1) b ∙ ap (λ (s : List ℕ). send_panel 20 (panel_of base opened 1) s stripes) cleared_screen,
    )

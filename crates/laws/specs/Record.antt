-- The record there and back, over any geometry: each part by its own law, the whole by the laws of lists of parts.
use Rattle.std.specs.Prelude.{◌≡◌, List, [], ◌∷◌, ◌++◌, Bool, true, false, length, drop}
use Rattle.std.proofs.Math.Path.{refl}
use Rattle.std.proofs.Common.{sym, ap, ◌∙◌, append-nil, arith, length-append, drop_of_length-le, drop-drop, drop_at, get_or-set_same, get_or-set_other, ext_get_or}
use Prim.Native.Nat.{ℕ, zero, suc, ◌+◌, ◌-◌, ◌*◌, ◌<◌, ◌≤◌}
use Rattle.std.proofs.lemmas.List.{length-replicate}
use Rattle.std.proofs.Math.ListN.{get_or-eq_default}
use borrow.Author.Tests.{ne_eqb}
use Rattle.model.specs.declared.Head.{Head}
use Rattle.model.specs.Geometry.{Geometry, width, height, rows, columns, cells, screen_bytes}
use Rattle.model.specs.Memory.{window, with_window}
use Rattle.model.specs.Rects.{none, fits}
use Rattle.model.specs.Bytes.{four, rect_at, rects_at, rect_bytes, rects_bytes, words_bytes, four_bytes, Bytes, Words}
use Rattle.model.specs.Flags.{flags_in, bytes_of_flags, flag_bytes}
use Rattle.model.specs.Record.{RecordPart, head, panel, keys, flags, edge, tag, same_part, has, total, offset, panels_from, last_parts, layout, size, at, part_in, record_bytes, pending_bytes, Pending, State, decode, encode, listing, head_of, pending_of, bytes_of_head, bytes_of_pending, part_bytes, panel_of, nothing_pending, windows, window_tests, head_tests, head_fits, part_fits, valid, edge_byte, with_head, with_panel, with_key_words, with_flags, with_edge, WellPending, WellFormed}
use Rattle.model.specs.Glass.{IsGlass}
use Rattle.laws.specs.Tests.{tests, by_test, by_lt, by_eq, clash, or_right, all_true}
use Rattle.laws.specs.Rects.{passes_fits}
use Rattle.laws.specs.Memory.{length-window}
use Rattle.laws.specs.Bands.{owed_fits, hand_fits}
use Rattle.laws.specs.PartLists.{same-part, written_same, all-at, length-written, part-written, part-stored, parts-written}
use Rattle.laws.specs.Flags.{flags_read, flags_written, length_flags, length-flags_in}
use Rattle.laws.specs.Layout.{get_d_listing, length-listing, bytes_drop, bytes_take, four_from, rect_from, all_again, low, high, byte0, byte1, byte2, byte3, rect_again, four_again, rects_again, two_back, four_back, rect_back, rects_back, words_back, length_rects, length-rects_at, length_words}

-- ---- which parts there are

-- among n panels from k on, with the parts ps behind them, stands the panel i, after those before it
pub panel_from : (g : Geometry) (i k n : ℕ) (ps : List RecordPart) → k ≤ i → i < k + n
    → (has (panel i) (panels_from k n ++ ps) ≡ true) × (offset (size g) (panel i) (panels_from k n ++ ps) ≡ (i - k) * pending_bytes g)
unfolding has offset
panel_from g i k zero ps l u = absurd (omega arith)
panel_from g i k (suc n) ps l u =
    by_test (same_part (panel i) (panel k))
    (λ e. let z : i - k ≡ 0 = omega (arith, tests) in rw (e, z) (refl, omega arith))
    (λ e. let z : i - k ≡ suc (i - suc k) = omega (arith, tests) in
    let r = panel_from g i (suc k) n ps (omega (arith, tests)) (omega arith) in rw (e, z) (r.0, omega (arith, r.1)))

-- and no other, where there is none in ps
from_has : (i k n : ℕ) (ps : List RecordPart) → has (panel i) ps ≡ false → has (panel i) (panels_from k n ++ ps) ≡ true → i < k + n
unfolding has
from_has i k zero ps f h = clash (has (panel i) ps) h f
from_has i k (suc n) ps f h = by_test (same_part (panel i) (panel k)) (λ e. omega (arith, tests)) (λ e. omega (arith, from_has i (suc k) n ps f (rw e at h)))

-- the parts of ps stand behind them
has_behind : (q : RecordPart) (k n : ℕ) (ps : List RecordPart) → has q ps ≡ true → has q (panels_from k n ++ ps) ≡ true
unfolding has
has_behind q k zero ps h = h
has_behind q k (suc n) ps h = or_right (same_part q (panel k)) (has_behind q (suc k) n ps h)

-- no panel is among the last parts
no_panel_last : (i : ℕ) → has (panel i) last_parts ≡ false
unfolding has
no_panel_last i = rw (ne_eqb (tag (panel i)) (tag edge) (λ e. omega arith)) refl

module _ (g : Geometry) where
  pub has_head : has head (layout g) ≡ true
  unfolding has
  has_head = refl

  pub has_keys : has keys (layout g) ≡ true
  unfolding has
  has_keys = refl

  pub has_flags : has flags (layout g) ≡ true
  unfolding has
  has_flags = refl

  pub has_edge : has edge (layout g) ≡ true
  unfolding has
  has_edge = has_behind edge 1 (g.panels - 1) last_parts refl

  -- the panels after the first stand after the flags
  pub later : (k : ℕ) → let rest = panels_from 1 (g.panels - 1) ++ last_parts in
      (has (panel (suc k)) (layout g) ≡ has (panel (suc k)) rest) × (at g (panel (suc k)) ≡ at g flags + flag_bytes (cells g) + offset (size g) (panel (suc k)) rest)
  unfolding has offset
  later k =
      let t = tag (panel (suc k)) in
      rw (ne_eqb t 0 (λ e. omega arith), ne_eqb t 4 (λ e. omega arith), ne_eqb t 1 (λ e. omega arith), ne_eqb t 2 (λ e. omega arith)) (refl, omega arith)

  pub has_panel : (k : ℕ) → k < g.panels → has (panel k) (layout g) ≡ true
  unfolding has
  has_panel zero h = refl
  has_panel (suc k) h = (later k).0 ∙ (panel_from g (suc k) 1 (g.panels - 1) last_parts (omega arith) (omega arith)).0

  pub panel_has : (k : ℕ) → 1 ≤ g.panels → has (panel k) (layout g) ≡ true → k < g.panels
  panel_has zero l h = l
  panel_has (suc k) l h = let r = from_has (suc k) 1 (g.panels - 1) last_parts (no_panel_last (suc k)) (sym (later k).0 ∙ h) in omega arith

-- ---- the bytes of a part in a record

offset-fits : (n : RecordPart → ℕ) (q : RecordPart) (ps : List RecordPart) → has q ps ≡ true → offset n q ps + n q ≤ total n ps
unfolding has offset total
offset-fits n q [] h = clash false h refl
offset-fits n q (p ∷ ps) h =
    by_test (same_part q p) (λ e. rw e (omega (arith, ap n (same-part q p e)))) (λ e. rw e (omega (arith, offset-fits n q ps (rw e at h))))

-- a part ends within its record
pub part-in : (g : Geometry) (q : RecordPart) → has q (layout g) ≡ true → at g q + size g q ≤ record_bytes g
part-in g q h = offset-fits (size g) q (layout g) h

pub length_part : (g : Geometry) (q : RecordPart) (r : List ℕ) → has q (layout g) ≡ true → length r ≡ record_bytes g → length (part_in g q r) ≡ size g q
length_part g q r h l = length-window (at g q) (size g q) r (rw l (part-in g q h))

pub bytes_part : (g : Geometry) (q : RecordPart) (r : List ℕ) → Bytes r → Bytes (part_in g q r)
unfolding window
bytes_part g q r b = bytes_take (size g q) (drop (at g q) r) (bytes_drop (at g q) r b)

-- ---- each part there and back: its bytes c, read and written again

pending_again : (g : Geometry) (c : List ℕ) → Bytes c → length c ≡ pending_bytes g → bytes_of_pending (pending_of g c 0) ≡ c
pending_again g c b l =
    let n = 8 * g.bands in
    let e = drop_of_length-le c {i = 0 + n + 8 + 4} (omega arith) in
    cc (four_again c (0 + n + 8) b (omega arith), rect_again c (0 + n) b (omega arith), rects_again g.bands c 0 b (omega arith))

-- ---- decode, then encode

-- a record that a call accepts
pub record Passing (g : Geometry) (r : List ℕ) : Type 0 where
  pub glass : IsGlass g
  pub sized : length r ≡ record_bytes g
  pub bytes : Bytes r
  pub passes : valid g r ≡ true

pub panel_decoded : (g : Geometry) (r : List ℕ) (i : ℕ) → i < g.panels → panel_of g (decode g r) i ≡ pending_of g (part_in g (panel i) r) 0
unfolding decode
panel_decoded g r i h = let e : 0 + i ≡ i = omega arith in cc (get_d_listing (λ j. pending_of g (part_in g (panel j) r) 0) 0 g.panels i (nothing_pending g) h)

module _ (g : Geometry) (r : List ℕ) (k : Passing g r) where
  pub part_passes : (p : RecordPart) → has p (layout g) ≡ true → part_fits g p (part_in g p r) ≡ true
  unfolding valid
  part_passes p h = all-at (λ q. part_fits g q (part_in g q r)) (layout g) p k.passes h

  -- what is read of a part is written as its bytes
  part_again : (p : RecordPart) → has p (layout g) ≡ true → part_bytes g (decode g r) p ≡ part_in g p r
  unfolding part_bytes decode part_fits Bytes listing
  part_again head h = let b = bytes_part g head r k.bytes in all_again (size g head) _ (part_in g head r) (length_part g head r h k.sized) (simp (low, high, b))
  part_again (panel i) h =
      cc (panel_decoded g r i (panel_has g i k.glass.one h), pending_again g (part_in g (panel i) r) (bytes_part g (panel i) r k.bytes) (length_part g (panel i) r h k.sized))
  part_again keys h =
      let b = bytes_part g keys r k.bytes in
      all_again (size g keys) _ (part_in g keys r) (length_part g keys r h k.sized) (simp (byte0, byte1, byte2, byte3, b))
  part_again flags h = flags_read (cells g) (part_in g flags r) (length_part g flags r h k.sized) (part_passes flags h)
  part_again edge h = all_again (size g edge) _ (part_in g edge r) (length_part g edge r h k.sized) refl

  pub encode-decode : encode g (decode g r) ≡ r
  unfolding encode
  encode-decode = written_same (part_bytes g (decode g r)) (λ p. part_in g p r) (layout g) part_again ∙ parts-written (size g) r (layout g) k.glass.apart k.sized

-- ---- encode, then decode

-- the parts of a state have their sizes
pub record Sized (g : Geometry) (s : State) : Type 0 where
  pub owed : (k : ℕ) → length (panel_of g s k).owed ≡ g.bands
  pub keys : length s.keys ≡ 8
  pub flags : length s.flags ≡ cells g

pub sizes : (g : Geometry) (s : State) → Sized g s → (p : RecordPart) → length (part_bytes g s p) ≡ size g p
unfolding part_bytes
sizes g s z head = refl
sizes g s z (panel k) =
    let p = panel_of g s k in
    omega (arith, length-append (rects_bytes p.owed) (rect_bytes p.hand ++ four_bytes p.sent), length_rects p.owed, z.owed k)
sizes g s z keys = cc (length_words s.keys)
sizes g s z flags = length_flags s.flags ∙ z.flags
sizes g s z edge = refl

pub length-encode : (g : Geometry) (s : State) → Sized g s → length (encode g s) ≡ record_bytes g
unfolding encode
length-encode g s z = length-written (size g) (part_bytes g s) (layout g) (sizes g s z)

pub count-decode : (g : Geometry) (r : List ℕ) → length (decode g r).panels ≡ g.panels
unfolding decode
count-decode g r = length-listing (λ k. pending_of g (part_in g (panel k) r) 0) 0 g.panels

-- the bytes of a part of an encoded state
pub part-encode : (g : Geometry) (s : State) → Sized g s → (p : RecordPart) → has p (layout g) ≡ true → part_in g p (encode g s) ≡ part_bytes g s p
unfolding encode
part-encode g s z p h = part-written (size g) (part_bytes g s) p (layout g) (sizes g s z) h

-- the panels that there are have their bands, and so has every number past them
pub all_owed : (g : Geometry) (s : State) → length s.panels ≡ g.panels → ((k : ℕ) → k < g.panels → length (panel_of g s k).owed ≡ g.bands)
    → (k : ℕ) → length (panel_of g s k).owed ≡ g.bands
unfolding nothing_pending
all_owed g s n e k = by_lt k g.panels (e k) (λ l. cc (get_or-eq_default s.panels (nothing_pending g) {n = k} (omega arith), length-replicate g.bands none))

pub sized_decode : (g : Geometry) (r : List ℕ) → length r ≡ record_bytes g → Sized g (decode g r)
unfolding decode
sized_decode g r l = record {
  owed = all_owed g (decode g r) (count-decode g r) (λ k h. ap (λ (p : Pending). length p.owed) (panel_decoded g r k h) ∙ length-rects_at g.bands (part_in g (panel k) r) 0);
  keys = refl;
  flags = length-flags_in (cells g) (part_in g flags r) (length_part g flags r (has_flags g) l);
}

pub well_sized : (g : Geometry) (s : State) → WellFormed g s → Sized g s
well_sized g s f = record { owed = all_owed g s f.count (λ k h. (f.panels k h).bands); keys = f.words; flags = f.flags }

-- what a head that passes tells of its numbers
pub record Numbers (g : Geometry) (h : Head) : Type 0 where
  pub graphics : h.graphics ≤ 65535 - screen_bytes g
  pub text : h.text ≤ 65535 - cells g
  pub row : h.row < rows g
  pub column : h.column < columns g
  pub screen : h.screen ≤ 1
  pub print : h.print ≤ 2
  pub cursor : h.cursor ≤ 2
  pub version : h.version ≤ 1
  pub dirty : fits 256 0 256 h.dirty ≡ true

pub head_tells : (g : Geometry) (h : Head) → head_fits g h ≡ true → Numbers g h
unfolding head_fits windows
head_tells g h e =
    let t = all_true (head_tests g h) e in
    let w = all_true (window_tests g h.graphics h.text) t.0 in
    search (arith, tests)

pub head_equal : {a b : Head} → a.graphics ≡ b.graphics → a.text ≡ b.text → a.row ≡ b.row → a.column ≡ b.column
    → a.screen ≡ b.screen → a.print ≡ b.print → a.cursor ≡ b.cursor → a.version ≡ b.version → a.dirty ≡ b.dirty → a ≡ b
head_equal e1 e2 e3 e4 e5 e6 e7 e8 e9 =
    λ i. record { graphics = e1 i; text = e2 i; row = e3 i; column = e4 i; screen = e5 i; print = e6 i; cursor = e7 i; version = e8 i; dirty = e9 i }

-- each part back: its fields, written and read again

pub head_back : (g : Geometry) (h : Head) → head_fits g h ≡ true → head_of (bytes_of_head h) ≡ h
head_back g h e =
    let n = head_tells g h e in
    head_equal (two_back h.graphics (omega arith)) (two_back h.text (omega arith)) refl refl refl refl refl refl
    (rect_back 256 0 256 h.dirty [] (omega arith) (omega arith) (passes_fits 256 0 256 h.dirty n.dirty))

pub owed_back : (g : Geometry) (p : Pending) (l : List ℕ) → IsGlass g → WellPending g p → rects_at g.bands (rects_bytes p.owed ++ l) 0 ≡ p.owed
owed_back g p l k f = cc (rects_back (width g) g.band 0 p.owed l (omega arith) (rw f.bands (omega arith)) (owed_fits g p f))

pub pending_back : (g : Geometry) (p : Pending) → IsGlass g → WellPending g p → pending_of g (bytes_of_pending p) 0 ≡ p
pending_back g p k f =
    let n = 0 + 8 * g.bands in
    let c = bytes_of_pending p in
    let rest = rect_bytes p.hand ++ four_bytes p.sent in
    let here : drop n c ≡ rest = drop_at (rects_bytes p.owed) rest n (omega (arith, length_rects p.owed)) in
    let there : drop (n + 8) c ≡ four_bytes p.sent = sym (drop-drop 8 n c) ∙ ap (drop 8) here in
    let hand : rect_at c n ≡ p.hand = cc (rect_from c n, rect_back (width g) 0 (height g) p.hand (four_bytes p.sent) (omega arith) (omega arith) (hand_fits g p f)) in
    let sent : four c (n + 8) ≡ p.sent = cc (four_from c (n + 8), four_back p.sent f.counted) in
    λ i. record { owed = owed_back g p rest k f i; hand = hand i; sent = sent i }

pub keys_back : (g : Geometry) (s : State) → Sized g s → Words s.keys → (decode g (encode g s)).keys ≡ s.keys
unfolding decode part_bytes
keys_back g s z k = cc (part-encode g s z keys (has_keys g), append-nil (words_bytes s.keys), words_back s.keys [] k)

pub decode-encode : (g : Geometry) (s : State) → IsGlass g → WellFormed g s → decode g (encode g s) ≡ s
unfolding decode part_bytes
decode-encode g s k f =
    let z = well_sized g s f in
    let r = encode g s in
    let b = part-encode g s z in
    let panels = ext_get_or (nothing_pending g) (decode g r).panels s.panels (count-decode g r ∙ sym f.count)
    (λ j o. let h : j < g.panels = omega (arith, count-decode g r) in cc (panel_decoded g r j h, b (panel j) (has_panel g j h), pending_back g (panel_of g s j) k (f.panels j h))) in
    λ i. record {
      head = (ap head_of (b head (has_head g)) ∙ head_back g s.head f.head) i;
      panels = panels i;
      keys = keys_back g s z f.keys i;
      flags = (ap (flags_in (cells g)) (b flags (has_flags g)) ∙ flags_written (cells g) s.flags f.flags) i;
      edge = ap edge_byte (b edge (has_edge g)) i;
    }

pub sized_panel : (g : Geometry) (k : ℕ) (p : Pending) (s : State) → Sized g s → k < length s.panels → length p.owed ≡ g.bands → Sized g (with_panel k p s)
sized_panel g k p s z h n = record {
  owed = λ i. by_eq i k (λ e. rw (e, get_or-set_same s.panels k p (nothing_pending g) h) n) (λ e. rw (get_or-set_other s.panels k i p (nothing_pending g) e) (z.owed i));
  keys = z.keys;
  flags = z.flags;
}

-- ---- a store of one part: the bytes of the state with that part changed, and no other

-- the bytes of the part q of t stored in the bytes of s, where the other parts of the two states are the same
put-part : (g : Geometry) (q : RecordPart) (s t : State) → IsGlass g → has q (layout g) ≡ true → Sized g s → length (part_bytes g t q) ≡ size g q
    → (same_part head q ≡ false → s.head ≡ t.head) → ((k : ℕ) → same_part (panel k) q ≡ false → panel_of g s k ≡ panel_of g t k)
    → (same_part keys q ≡ false → s.keys ≡ t.keys) → (same_part flags q ≡ false → s.flags ≡ t.flags) → (same_part edge q ≡ false → s.edge ≡ t.edge)
    → with_window (at g q) (part_bytes g t q) (encode g s) ≡ encode g t
unfolding encode part_bytes
put-part g q s t l h z n a b c d e = part-stored (size g) (part_bytes g s) (part_bytes g t) q (layout g) (sizes g s z) n but h l.apart
  where
    but : (p : RecordPart) → same_part p q ≡ false → part_bytes g s p ≡ part_bytes g t p
    but head e = ap bytes_of_head (a e)
    but (panel k) e = ap bytes_of_pending (b k e)
    but keys e = ap words_bytes (c e)
    but flags e = ap bytes_of_flags (d e)
    but edge i = ap (λ (n : ℕ). n ∷ []) (e i)

pub put_head : (g : Geometry) (h : Head) (s : State) → IsGlass g → Sized g s → with_window 0 (bytes_of_head h) (encode g s) ≡ encode g (with_head h s)
unfolding part_bytes offset
put_head g h s l z = put-part g head s (with_head h s) l (has_head g) z refl (λ e. clash true refl e) (λ k e. refl) (λ e. refl) (λ e. refl) (λ e. refl)

pub put_keys : (g : Geometry) (ks : List ℕ) (s : State) → IsGlass g → Sized g s → length ks ≡ 8 → with_window (at g keys) (words_bytes ks) (encode g s) ≡ encode g (with_key_words ks s)
unfolding part_bytes
put_keys g ks s l z n = put-part g keys s (with_key_words ks s) l (has_keys g) z (cc (length_words ks)) (λ e. refl) (λ k e. refl) (λ e. clash true refl e) (λ e. refl) (λ e. refl)

pub put_flags : (g : Geometry) (fs : List Bool) (s : State) → IsGlass g → Sized g s → length fs ≡ cells g → with_window (at g flags) (bytes_of_flags fs) (encode g s) ≡ encode g (with_flags fs s)
unfolding part_bytes
put_flags g fs s l z n = put-part g flags s (with_flags fs s) l (has_flags g) z (length_flags fs ∙ n) (λ e. refl) (λ k e. refl) (λ e. refl) (λ e. clash true refl e) (λ e. refl)

pub put_edge : (g : Geometry) (n : ℕ) (s : State) → IsGlass g → Sized g s → with_window (at g edge) (n ∷ []) (encode g s) ≡ encode g (with_edge n s)
unfolding part_bytes
put_edge g n s l z = put-part g edge s (with_edge n s) l (has_edge g) z refl (λ e. refl) (λ k e. refl) (λ e. refl) (λ e. refl) (λ e. clash true refl e)

pub put_panel : (g : Geometry) (k : ℕ) (p : Pending) (s : State) → IsGlass g → Sized g s → k < g.panels → length s.panels ≡ g.panels → length p.owed ≡ g.bands
    → with_window (at g (panel k)) (bytes_of_pending p) (encode g s) ≡ encode g (with_panel k p s)
unfolding part_bytes
put_panel g k p s l z h c n =
    let t = with_panel k p s in
    let here : panel_of g t k ≡ p = get_or-set_same s.panels k p (nothing_pending g) (omega arith) in
    cc (put-part g (panel k) s t l (has_panel g k h) z (sizes g t (sized_panel g k p s z (omega arith) n) (panel k)) (λ e. refl)
    (λ i e. sym (get_or-set_other s.panels k i p (nothing_pending g) (λ q. omega (arith, tests)))) (λ e. refl) (λ e. refl) (λ e. refl))

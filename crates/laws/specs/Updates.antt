-- Stores over a record that passes, as the code makes them: fields of the head, other flags.
use Rattle.std.specs.Prelude.{◌≡◌, Bool, true, List, ℕ, ◌+◌, ◌-◌, ◌<◌, ◌≤◌, length, take, drop}
use Rattle.std.specs.Coded.{le_prop}
use mathlib.Core.HLevel.{is_prop→PathP}
use Rattle.std.proofs.Common.{sym, ap, ◌∙◌, arith}
use borrow.Rule.Slice.PartMut.{put_mid}
use Rattle.model.specs.declared.Rect.{Rect}
use Rattle.model.specs.declared.Head.{Head}
use Rattle.model.specs.declared.Canvas.{Canvas}
use Rattle.model.specs.declared.glass.Glass.{Glass}
use Rattle.model.specs.Geometry.{Geometry, width, cells}
use Rattle.model.specs.Glass.{geometry, canvas}
use Rattle.model.specs.Memory.{zeros, with_window}
use Rattle.model.specs.Flags.{bytes_of_flags}
use Rattle.model.specs.Record.{head_bytes, head_of, head, keys, flags, record_bytes, offset, Pending, State, decode, encode, bytes_of_head, head_fits, part_fits, with_head, with_panels, with_flags, WellFormed}
use Rattle.model.specs.Rects.{none, is_empty, join}
use Rattle.model.specs.Marks.{whole, owing, with_dirty, update_dirty, marked}
use Rattle.model.specs.Open.{clear_flags}
use Rattle.laws.specs.ListLaws.{map_same}
use Rattle.laws.specs.Rects.{empty_none, join-none}
use Rattle.laws.specs.Bands.{join_owed-none}
use Rattle.laws.specs.Parts.{part_back}
use Rattle.laws.specs.Flags.{length_flags, no_flags, length_no_flags}
use Rattle.laws.specs.Record.{Passing, Numbers, head_tells, part_passes, has_head, has_keys, has_flags, length_part, put_head, put_flags, part-in, encode-decode, decode-encode, sized_decode}
use Rattle.laws.specs.States.{well_formed, encode_passing}
use Rattle.laws.specs.StateTest.{flags-part}
use Rattle.laws.specs.Windows.{head_part}
use Rattle.laws.specs.Formed.{flags_formed}

-- the head is read where the record begins
pub head_decoded : (g : Geometry) (r : List ℕ) → (decode g r).head ≡ head_of r
unfolding decode
head_decoded g r = head_part g r

-- what STATE tells of it
pub head_numbers : (g : Geometry) (r : List ℕ) {h : Head} → Passing g r → h ≡ (decode g r).head → Numbers g h
unfolding decode part_fits
head_numbers g r {h} p e = head_tells g h (ap (head_fits g) e ∙ part_passes g r p head (has_head g))

-- the head lies in the record
pub head_in : (g : Geometry) → head_bytes ≤ record_bytes g
unfolding offset
head_in g = let p = part-in g head (has_head g) in omega arith

-- the keys lie in the record
pub keys_room : (v : Glass) → v.keys + 32 ≤ record_bytes (geometry v)
keys_room v = let k = part-in (geometry v) keys (has_keys (geometry v)) in omega (arith, v.suits.is_keys)

-- ---- the screen of a glass

pub screen_small : (v : Glass) {k : Canvas} → k ≡ canvas v → (k.stride ≤ 32) × (k.height ≤ 256)
screen_small v e = let z = v.suits in rw e (omega (arith, z.glass.cursor), omega (arith, z.is_height, z.glass.high))

-- two canvases of the same size are one
pub canvas_equal : {a b : Canvas} → a.stride ≡ b.stride → a.height ≡ b.height → a ≡ b
canvas_equal {a} {b} p q =
    λ i. record {
      stride = p i;
      height = q i;
      size = is_prop→PathP (λ j. (0 < p j) × (p j ≤ 32) × (0 < q j) × (q j ≤ 256)) (λ j. hlevel le_prop) a.size b.size i;
    }

pub whole_of : {s h stride height : ℕ} → s ≡ stride → h ≡ height → whole s h ≡ whole stride height
whole_of p q = λ i. whole (p i) (q i)

-- ---- a store into the head: k leaves the bytes of another one in its place

pub in_head : (g : Geometry) (r : List ℕ) → Passing g r → (k : List ℕ → List ℕ) (f : Head → Head)
    → k (encode g (decode g r)) ≡ with_window 0 (bytes_of_head (f (decode g r).head)) (encode g (decode g r))
    → k r ≡ encode g (with_head (f (decode g r).head) (decode g r))
in_head g r p k f e = ap k (sym (encode-decode g r p)) ∙ e ∙ put_head g (f (decode g r).head) (decode g r) p.glass (sized_decode g r p.sized)

-- an empty mark changes nothing
pub unmarked_state : (g : Geometry) (s : State) → marked g none none s ≡ s
unfolding marked update_dirty owing
unmarked_state g s =
    let same : (p : Pending) → owing g none p ≡ p = λ p i. record { owed = join_owed-none (width g) g.band 0 p.owed i; hand = p.hand; sent = p.sent } in
    λ i. with_head (with_dirty (join-none s.head.dirty i) s.head) (with_panels (map_same (owing g none) s.panels same i) s)

pub unmarked : (g : Geometry) (r : List ℕ) → Passing g r → encode g (marked g none none (decode g r)) ≡ r
unmarked g r k = ap (encode g) (unmarked_state g (decode g r)) ∙ encode-decode g r k

-- an empty mark leaves dirty
pub empty_dirty : (g : Geometry) (r : List ℕ) (m : Rect) {t : Bool} → Passing g r → t ≡ is_empty m → t ≡ true → r ≡ encode g (with_head (update_dirty m (decode g r).head) (decode g r))
unfolding update_dirty
empty_dirty g r m p e f =
    let s = decode g r in
    let same : s.head.dirty ≡ join s.head.dirty m = sym (ap (join s.head.dirty) (empty_none m (sym e ∙ f)) ∙ join-none s.head.dirty) in
    sym (encode-decode g r p) ∙ ap (λ (q : Rect). encode g (with_head (with_dirty q s.head) s)) same

-- ---- other flags: their part was lent and came back as fs

module _ {r : List ℕ} (v : Glass) (p : Passing (geometry v) r) (fs : List Bool) (n : length fs ≡ cells (geometry v)) {c : List ℕ} (e : c ≡ bytes_of_flags fs) where
  pub flags_stored : put_mid v.flags (v.others - v.flags) r c ≡ encode (geometry v) (with_flags fs (decode (geometry v) r))
  flags_stored =
      let g = geometry v in
      let z = v.suits in
      let long : length c ≡ v.others - v.flags = ap length e ∙ length_flags fs ∙ omega (arith, z.is_others, z.is_flags) in
      part_back v.flags v.others r c (omega (arith, z.is_others, z.is_flags)) long
      ∙ (λ i. with_window (z.is_flags i) (e i) (sym (encode-decode g r p) i))
      ∙ put_flags g fs (decode g r) z.glass (sized_decode g r p.sized) n

  formed : WellFormed (geometry v) (with_flags fs (decode (geometry v) r))
  formed = flags_formed (geometry v) (decode (geometry v) r) (well_formed (geometry v) r p) fs n

  pub flags_pass : Passing (geometry v) (put_mid v.flags (v.others - v.flags) r c)
  flags_pass = rw flags_stored (encode_passing (geometry v) v.suits.glass (with_flags fs (decode (geometry v) r)) formed)

  pub flags_state : decode (geometry v) (put_mid v.flags (v.others - v.flags) r c) ≡ with_flags fs (decode (geometry v) r)
  flags_state = ap (decode (geometry v)) flags_stored ∙ decode-encode (geometry v) (with_flags fs (decode (geometry v) r)) v.suits.glass formed

-- no flags: the part was cleared
pub clears_flags : {r : List ℕ} (v : Glass) → Passing (geometry v) r → {c : List ℕ} → c ≡ zeros (length (take (v.others - v.flags) (drop v.flags r)))
    → put_mid v.flags (v.others - v.flags) r c ≡ encode (geometry v) (with_flags (clear_flags (geometry v)) (decode (geometry v) r))
clears_flags {r} v p {c} e =
    let g = geometry v in
    let none : c ≡ bytes_of_flags (clear_flags g) = cc (flags-part v r, length_part g flags r (has_flags g) p.sized, no_flags (cells g)) in
    flags_stored v p (clear_flags g) (length_no_flags (cells g)) none

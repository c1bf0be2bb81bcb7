-- A record of zeros is the blank one, with an empty head and no keys; open writes head, keys and edge flag into it and marks the whole screen.
use Rattle.std.specs.Prelude.{◌≡◌, refl, true, false, ℕ, zero, suc, ◌+◌, ◌*◌, leb, length, replicate}
use Rattle.std.proofs.Common.{sym, ◌∙◌, arith, lt-ltb}
use Rattle.std.proofs.Math.Path.{ap}
use mathlib.Core.List.{List, [], ◌∷◌}
use Rattle.std.proofs.Math.ListN.{length-replicate}
use Rattle.std.proofs.lemmas.List.{get_or-replicate, replicate-append-replicate}
use Rattle.model.specs.declared.Rect.{Rect}
use Rattle.model.specs.declared.Head.{Head}
use Rattle.model.specs.declared.glass.Glass.{Glass}
use Rattle.model.specs.Geometry.{Geometry, height, rows, columns, cells}
use Rattle.model.specs.Glass.{geometry, IsGlass}
use Rattle.model.specs.Memory.{zeros, with_window}
use Rattle.model.specs.Rects.{none, is_empty, fits}
use Rattle.model.specs.Bytes.{rects_bytes, words_bytes, Words}
use Rattle.model.specs.Record.{RecordPart, has, head, head_of, keys_of, panel, keys, flags, edge, written, total, layout, size, record_bytes, Pending, State, decode, encode, part_bytes, bytes_of_head, nothing_pending, windows, head_tests, head_fits, edge_fits, with_panels, WellPending, WellFormed}
use Rattle.model.specs.Marks.{whole, owing, owing_each}
use Rattle.model.specs.Open.{clear_head, clear_flags, open_pending, open_state}
use Rattle.laws.specs.Tests.{true_all}
use Rattle.laws.specs.ListLaws.{map-replicate}
use Rattle.laws.specs.Flags.{no_flags, length_no_flags}
use Rattle.laws.specs.Bands.{well_nothing, well_open}
use Rattle.laws.specs.PartLists.{written_same}
use Rattle.laws.specs.Record.{Passing, Sized, all_owed, panel_has, keys_back, put_head, put_keys, put_edge, well_sized, decode-encode}
use Rattle.laws.specs.States.{encode_passing}

-- ---- zeros

written-zeros : (n : RecordPart → ℕ) (ps : List RecordPart) → written (λ p. zeros (n p)) ps ≡ zeros (total n ps)
unfolding written total zeros
written-zeros n [] = refl
written-zeros n (p ∷ ps) = cc (written-zeros n ps, replicate-append-replicate {A = ℕ} (n p) (total n ps) 0)

rects_zeros : (n : ℕ) → rects_bytes (replicate n none) ≡ zeros (8 * n)
unfolding zeros
rects_zeros zero = refl
rects_zeros (suc n) = let e : 8 * suc n ≡ 8 + 8 * n = omega arith in cc (rects_zeros n, replicate-append-replicate {A = ℕ} 8 (8 * n) 0)

-- each panel has p pending, and no flag is set
abbrev clear : Geometry → Head → Pending → List ℕ → ℕ → State
clear g h p ks x = record { head = h; panels = replicate g.panels p; keys = ks; flags = clear_flags g; edge = x }

-- a record of zeros
zeros-encode : (g : Geometry) → IsGlass g → zeros (record_bytes g) ≡ encode g (clear g (head_of []) (nothing_pending g) (keys_of []) 0)
unfolding encode part_bytes zeros nothing_pending
zeros-encode g z = sym (written_same (part_bytes g (clear g (head_of []) (nothing_pending g) (keys_of []) 0)) (λ p. zeros (size g p)) (layout g) part ∙ written-zeros (size g) (layout g))
  where
    part : (p : RecordPart) → has p (layout g) ≡ true → part_bytes g (clear g (head_of []) (nothing_pending g) (keys_of []) 0) p ≡ zeros (size g p)
    part head h = refl
    part (panel k) h =
        cc (get_or-replicate g.panels k (nothing_pending g) (nothing_pending g) (panel_has g k z.one h), rects_zeros g.bands, replicate-append-replicate {A = ℕ} (8 * g.bands) 12 0)
    part keys h = refl
    part flags h = sym (no_flags (cells g))
    part edge h = refl

-- ---- open

-- what an accepted open is told
pub record Told (g : Geometry) (graphics text version : ℕ) (ks : List ℕ) (x : ℕ) : Type 0 where
  pub apart : windows g graphics text ≡ true
  pub listed : leb version 1 ≡ true
  pub flag : edge_fits x ≡ true
  pub count : length ks ≡ 8
  pub words : Words ks

pub clear-fits : (g : Geometry) → IsGlass g → (graphics text version : ℕ) → windows g graphics text ≡ true → leb version 1 ≡ true
    → head_fits g (clear_head graphics text version) ≡ true
unfolding head_fits fits is_empty
clear-fits g z graphics text version a b =
    true_all (head_tests g (clear_head graphics text version))
    (a, (lt-ltb 0 (rows g) z.row, (lt-ltb 0 (columns g) (omega (arith, z.columns)), (refl, (refl, (refl, (b, (refl, tt))))))))

module _ (g : Geometry) (z : IsGlass g) (graphics text version : ℕ) (ks : List ℕ) (x : ℕ) (t : Told g graphics text version ks x) where
  clear_formed : (p : Pending) → WellPending g p → WellFormed g (clear g (clear_head graphics text version) p ks x)
  clear_formed p w = record {
    head = clear-fits g z graphics text version t.apart t.listed;
    count = length-replicate g.panels p;
    panels = λ k h. rw (get_or-replicate g.panels k p (nothing_pending g) h) w;
    words = t.count;
    keys = t.words;
    flags = length_no_flags (cells g);
    edge = t.flag;
  }

  pub open_formed : WellFormed g (open_state g graphics text version ks x)
  unfolding open_state
  open_formed = clear_formed (open_pending g) (well_open g)

  -- what open wrote: its keys read again
  pub open_keys : (decode g (encode g (open_state g graphics text version ks x))).keys ≡ ks
  unfolding open_state
  open_keys = keys_back g (open_state g graphics text version ks x) (well_sized g (open_state g graphics text version ks x) open_formed) t.words

clear_sized : (g : Geometry) (h : Head) (p : Pending) (ks : List ℕ) (x : ℕ) → length p.owed ≡ g.bands → length ks ≡ 8 → Sized g (clear g h p ks x)
clear_sized g h p ks x n m = record {
  owed = all_owed g (clear g h p ks x) (length-replicate g.panels p) (λ k l. rw (get_or-replicate g.panels k p (nothing_pending g) l) n);
  keys = m;
  flags = length-replicate (cells g) false;
}

module _ {a b c d : List ℕ} {h : Head} (r : List ℕ) (graphics text version : ℕ) (ks : List ℕ) (x : ℕ) (v : Glass) (n : length r ≡ record_bytes (geometry v))
    (t : Told (geometry v) graphics text version ks x) (e : a ≡ zeros (length r)) (f : h ≡ clear_head graphics text version) (i : b ≡ with_window 0 (bytes_of_head h) a)
    (k : c ≡ with_window v.keys (words_bytes ks) b) (y : d ≡ with_window v.edge (x ∷ []) c) where
  -- zeros, then the head, the keys and the edge flag: nothing is pending
  written-clear : d ≡ encode (geometry v) (clear (geometry v) (clear_head graphics text version) (nothing_pending (geometry v)) ks x)
  unfolding nothing_pending
  written-clear =
      let g = geometry v in
      let z = v.suits in
      let p = nothing_pending g in
      let m = t.count in
      let count = length-replicate g.bands none in
      let first = put_head g h (clear g (head_of []) p (keys_of []) 0) z.glass (clear_sized g (head_of []) p (keys_of []) 0 count refl) in
      let second = put_keys g ks (clear g h p (keys_of []) 0) z.glass (clear_sized g h p (keys_of []) 0 count refl) m in
      let third = put_edge g x (clear g h p ks 0) z.glass (clear_sized g h p ks 0 count m) in
      cc (zeros-encode g z.glass)

  nothing_formed : WellFormed (geometry v) (clear (geometry v) (clear_head graphics text version) (nothing_pending (geometry v)) ks x)
  nothing_formed = clear_formed (geometry v) v.suits.glass graphics text version ks x t (nothing_pending (geometry v)) (well_nothing (geometry v))

  pub opening_passes : Passing (geometry v) d
  opening_passes = rw written-clear (encode_passing (geometry v) v.suits.glass _ nothing_formed)

  -- and the mark
  pub opens : {w : Rect} {s : List ℕ} → w ≡ whole v.stride (height (geometry v)) → s ≡ encode (geometry v) (owing_each (geometry v) w (decode (geometry v) d))
      → s ≡ encode (geometry v) (open_state (geometry v) graphics text version ks x)
  unfolding open_state open_pending
  opens {w = w} q j =
      let g = geometry v in
      let p = nothing_pending g in
      let all = whole v.stride (height g) in
      let state : decode g d ≡ clear g (clear_head graphics text version) p ks x = ap (decode g) written-clear ∙ decode-encode g (clear g (clear_head graphics text version) p ks x) v.suits.glass nothing_formed in
      j ∙ (λ o. encode g (owing_each g (q o) (state o))) ∙ ap (λ (ps : List Pending). encode g (with_panels ps (clear g (clear_head graphics text version) p ks x))) (map-replicate (owing g all) g.panels p)

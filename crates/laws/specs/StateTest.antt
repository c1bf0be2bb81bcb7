-- STATE as the code tests it, part after part in an order of its own: it is `valid`.
use Rattle.std.specs.Prelude.{◌≡◌, refl, Bool, true, false, not, ◌&&◌, ◌||◌, List, ◌++◌, leb, ltb, length, get_or, take, drop}
use Rattle.std.proofs.Common.{sym, ap, ◌∙◌, add-one}
use Prim.Native.Nat.{ℕ, zero, suc, ◌+◌, ◌-◌, ◌*◌, ◌<◌, ◌≤◌}
use native.Mathlib.Omega.{arith}
use borrow.Author.Tests.{eq-eqb, ne_eqb, not-true, not-false}
use Rattle.model.specs.declared.Head.{Head}
use Rattle.model.specs.declared.Edge.TheVariants.{Clamp, Stop}
use Rattle.model.specs.declared.glass.Glass.{Glass}
use Rattle.model.specs.Geometry.{Geometry, cells}
use Rattle.model.specs.Glass.{geometry, IsGlass}
use Rattle.model.specs.Memory.{window}
use Rattle.model.specs.Rects.{fits}
use Rattle.model.specs.Bytes.{rect_at, rects_at}
use Rattle.model.specs.Flags.{flag_bytes, flags_fit}
use Rattle.model.specs.Record.{RecordPart, panels_from, last_parts, panel, flags, edge, record_bytes, edge_fits, decode, all, at, part_in, head_of, pending_of, windows, head_fits, bands_fit, pending_fits, part_fits, valid}
use Rattle.model.specs.Lines.{edge_of}
use Rattle.laws.specs.Record.{has_flags, has_edge, part-in, length_part}
use Rattle.laws.specs.Windows.{head_part, pending-part, edge_part}

pub and_last : (s : Bool) → (s && true) ≡ s
and_last true = refl
and_last false = refl

pub and_assoc : (a b c : Bool) → ((a && b) && c) ≡ (a && (b && c))
and_assoc true b c = refl
and_assoc false b c = refl

-- ---- the panels' parts, from k on, n of them

unfoldable pub panels_fit : Geometry → List ℕ → ℕ → ℕ → Bool
panels_fit g r k zero = true
panels_fit g r k (suc n) = pending_fits g (pending_of g r (at g (panel k))) && panels_fit g r (suc k) n

-- what a part of the record is tested for
abbrev fits_in : Geometry → List ℕ → RecordPart → Bool
fits_in g r p = part_fits g p (part_in g p r)

panels-all : (g : Geometry) (r : List ℕ) (k n : ℕ) (ps : List RecordPart) → (panels_fit g r k n && all (fits_in g r) ps) ≡ all (fits_in g r) (panels_from k n ++ ps)
unfolding panels_fit all part_fits
panels-all g r k zero ps = refl
panels-all g r k (suc n) ps =
    let first = pending_fits g (pending_of g r (at g (panel k))) in
    cc (and_assoc first (panels_fit g r (suc k) n) (all (fits_in g r) ps), pending-part g r k, panels-all g r (suc k) n ps)

-- the parts behind them: the edge flag
last_fits : (g : Geometry) (r : List ℕ) → edge_fits (get_or r (at g edge) 0) ≡ all (fits_in g r) last_parts
unfolding all part_fits
last_fits g r = cc (and_last (edge_fits (get_or r (at g edge) 0)), edge_part g r)

-- ---- the whole

-- the flags' test stands before those of the other panels, and that of the last parts behind them
flags_first : (a b c d e : Bool) → (((a && e) && (b && d)) && c) ≡ (a && (b && (c && (d && e))))
flags_first false b c d e = refl
flags_first true false c d true = refl
flags_first true false c d false = refl
flags_first true true true d true = refl
flags_first true true true true false = refl
flags_first true true true false false = refl
flags_first true true false true true = refl
flags_first true true false false true = refl
flags_first true true false d false = refl

pub valid_is : (g : Geometry) (r : List ℕ) {a b c e : Bool} → IsGlass g → a ≡ head_fits g (head_of r) → b ≡ panels_fit g r 0 g.panels
    → c ≡ flags_fit (cells g) (part_in g flags r) → e ≡ edge_fits (get_or r (at g edge) 0) → (((a && e) && b) && c) ≡ valid g r
unfolding valid part_fits all panels_fit
valid_is g r {a} {b} {c} {e} l fa fb fc fe =
    let n = g.panels - 1 in
    let some : g.panels ≡ suc n = omega (arith, l.one) in
    let first = pending_fits g (pending_of g r (at g (panel 0))) in
    let two : b ≡ (first && panels_fit g r 1 n) = cc in
    cc (flags_first a first c (panels_fit g r 1 n) e, head_part g r, pending-part g r 0, last_fits g r, panels-all g r 1 n last_parts)

-- ---- as the code goes, with the glass by value

pub windows_is : (v : Glass) (graphics text : ℕ)
    → ((leb graphics v.graphics && leb text v.text) && (leb (graphics + v.screen) text || leb (text + v.cells) graphics)) ≡ windows (geometry v) graphics text
unfolding windows
windows_is v graphics text =
    let z = v.suits in λ i. (leb graphics (z.is_graphics i) && leb text (z.is_text i)) && (leb (graphics + z.is_screen i) text || leb (text + z.is_cells i) graphics)

pub head_is : (v : Glass) (h : Head) {w d : Bool} → w ≡ windows (geometry v) h.graphics h.text → d ≡ fits 256 0 256 h.dirty
    → (((((((w && ltb h.row v.rows) && ltb h.column v.columns) && leb h.screen 1) && leb h.print 2) && leb h.cursor 2) && leb h.version 1) && d)
    ≡ head_fits (geometry v) h
unfolding head_fits
head_is v h e f =
    let z = v.suits in λ i. ((((((e i && ltb h.row (z.is_rows i)) && ltb h.column (z.is_columns i)) && leb h.screen 1) && leb h.print 2) && leb h.cursor 2) && leb h.version 1) && f i

-- a panel's part: what is owed fails, or what is in hand decides
module _ (v : Glass) (r : List ℕ) (k a : ℕ) {b : Bool} (e : a ≡ at (geometry v) (panel k)) (f : b ≡ bands_fit v.width v.band 0 (rects_at v.bands r a)) where
  pub pending_fails : not b ≡ true → false ≡ pending_fits (geometry v) (pending_of (geometry v) r (at (geometry v) (panel k)))
  unfolding pending_fits
  pending_fails n = let y = not-true b n in cc v.suits.is_width

  pub pending_is : {t : Bool} → not b ≡ false → t ≡ fits v.width 0 v.height (rect_at r (a + 8 * v.bands))
      → t ≡ pending_fits (geometry v) (pending_of (geometry v) r (at (geometry v) (panel k)))
  unfolding pending_fits
  pending_is n h = let y = not-false b n in cc (v.suits.is_width, v.suits.is_height)

-- where the loop over panels stands: those before k have passed
pub record Fitting (g : Geometry) (r : List ℕ) (panels k : ℕ) : Type 0 where
  pub counted : panels ≡ g.panels
  pub some : k ≤ panels
  pub same : panels_fit g r k (panels - k) ≡ panels_fit g r 0 g.panels

pub fit_starts : (g : Geometry) (r : List ℕ) (panels : ℕ) → panels ≡ g.panels → Fitting g r panels 0
fit_starts g r panels c = record { counted = c; some = omega arith; same = let e : panels - 0 ≡ g.panels = omega arith in ap (panels_fit g r 0) e }

module _ {g : Geometry} {r : List ℕ} {panels k : ℕ} {t : Bool} (i : Fitting g r panels k) (h : k < panels)
    (e : t ≡ pending_fits g (pending_of g r (at g (panel k)))) where
  these : (t && panels_fit g r (suc k) (panels - (k + 1))) ≡ panels_fit g r 0 g.panels
  unfolding panels_fit
  these = let c : panels - k ≡ suc (panels - (k + 1)) = omega arith in cc i.same

  pub fit_goes : not t ≡ false → Fitting g r panels (k + 1)
  fit_goes n = let y = not-false t n in record { counted = i.counted; some = omega arith; same = cc (add-one k, these) }

  pub fit_fails : not t ≡ true → false ≡ panels_fit g r 0 g.panels
  fit_fails n = let y = not-true t n in cc these

pub fit_ends : {g : Geometry} {r : List ℕ} {panels k : ℕ} → Fitting g r panels k → panels ≤ k → true ≡ panels_fit g r 0 g.panels
unfolding panels_fit
fit_ends {panels = panels} {k} i h = let z : panels - k ≡ 0 = omega (arith, i) in cc i.same

-- the flags lie in the record
pub flags_room : (v : Glass) → (v.flags ≤ v.others) × (v.others ≤ record_bytes (geometry v))
flags_room v =
    let f = part-in (geometry v) flags (has_flags (geometry v)) in
    let z = v.suits in (omega (arith, z), omega (arith, z))

-- and their lent part is theirs
pub flags-part : (v : Glass) (r : List ℕ) → take (v.others - v.flags) (drop v.flags r) ≡ part_in (geometry v) flags r
unfolding window
flags-part v r =
    let z = v.suits in
    let n : v.others - v.flags ≡ flag_bytes (cells (geometry v)) = omega (arith, z.is_others, z.is_flags) in
    λ i. take (n i) (drop (z.is_flags i) r)

pub flags_sized : (v : Glass) (r : List ℕ) → length r ≡ record_bytes (geometry v) → length (take (v.others - v.flags) (drop v.flags r)) ≡ flag_bytes v.cells
flags_sized v r l = cc (flags-part v r, length_part (geometry v) flags r (has_flags (geometry v)) l, v.suits.is_cells)

-- the head fails, or the edge flag does, or a panel, or the flags decide
module _ (v : Glass) (r : List ℕ) {h : Head} {a : Bool} (e : h ≡ head_of r) (f : a ≡ head_fits (geometry v) h) where
  heads : a ≡ head_fits (geometry v) (head_of r)
  heads = f ∙ ap (head_fits (geometry v)) e

  -- with the panels' test, the flags' and the edge flag's as they are
  tested : {b c x : Bool} → b ≡ panels_fit (geometry v) r 0 v.panels → c ≡ flags_fit (cells (geometry v)) (part_in (geometry v) flags r) → x ≡ edge_fits (get_or r v.edge 0)
      → (((a && x) && b) && c) ≡ valid (geometry v) r
  tested p q y = valid_is (geometry v) r v.suits.glass heads p q (y ∙ ap (λ (i : ℕ). edge_fits (get_or r i 0)) v.suits.is_edge)

  pub head_fails : not a ≡ true → false ≡ valid (geometry v) r
  head_fails n = let y = not-true a n in cc (tested refl refl refl)

  module _ (n : not a ≡ false) {x : Bool} (y : x ≡ edge_fits (get_or r v.edge 0)) where
    pub edge_fails : not x ≡ true → false ≡ valid (geometry v) r
    edge_fails m =
        let i = not-false a n in
        let j = not-true x m in
        cc (tested refl refl y)

    module _ (m : not x ≡ false) {b : Bool} (p : b ≡ panels_fit (geometry v) r 0 v.panels) where
      pub panel_fails : not b ≡ true → false ≡ valid (geometry v) r
      panel_fails l =
          let i = not-false a n in
          let j = not-false x m in
          let k = not-true b l in
          cc (tested p refl y)

      pub flags_decide : {c : Bool} → not b ≡ false → c ≡ flags_fit v.cells (take (v.others - v.flags) (drop v.flags r)) → c ≡ valid (geometry v) r
      flags_decide {c} l q =
          let i = not-false a n in
          let j = not-false x m in
          let k = not-false b l in
          cc (tested p (q ∙ (λ i. flags_fit (v.suits.is_cells i) (flags-part v r i))) y)

-- the edge flag is the record's last part, and lies in it
pub edge_room : (v : Glass) → v.edge + 1 ≤ record_bytes (geometry v)
edge_room v = let p = part-in (geometry v) edge (has_edge (geometry v)) in omega (arith, v.suits.is_edge)

-- the flag where code reads it
module _ (v : Glass) (r : List ℕ) where
  edge_decoded : get_or r v.edge 0 ≡ (decode (geometry v) r).edge
  unfolding decode
  edge_decoded = cc (edge_part (geometry v) r, v.suits.is_edge)

  pub edge_clamps : get_or r v.edge 0 ≡ 0 → Clamp ≡ edge_of (decode (geometry v) r).edge
  unfolding edge_of
  edge_clamps e = rw (eq-eqb (decode (geometry v) r).edge 0 (sym edge_decoded ∙ e))

  pub edge_stops : (get_or r v.edge 0 ≡ 0 → ⊥) → Stop ≡ edge_of (decode (geometry v) r).edge
  unfolding edge_of
  edge_stops n = rw (ne_eqb (decode (geometry v) r).edge 0 (λ e. n (edge_decoded ∙ e)))

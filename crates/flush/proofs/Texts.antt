-- A screen cleared in Text mode, then the whole text on it: what is left of the walk, painted on the screen as it stands, gives what the whole gives.
use Rattle.std.proofs.Common.{◌≡◌, refl, sym, ap, ◌∙◌, Bool, true, ◌&&◌, List, ◌++◌, ℕ, zero, suc, ◌+◌, ◌-◌, ◌≤◌, ◌<◌, arith, eqb-true, leb, eqb, length, get_or}
use Rattle.model.specs.declared.Spot.{Spot}
use Rattle.model.specs.declared.CellKind.{CellKind}
use Rattle.model.specs.declared.Shown.{Shown}
use Rattle.model.specs.Glyphs.{Fonts, Store, paint}
use Rattle.model.specs.Flush.{spot, shown_at, cells_taken, spot_after, next_spot, shown_stores, stores, text_stores}
use Rattle.laws.specs.Tests.{and-true}
use Rattle.laws.specs.Glyphs.{length-paint, paint-append}
use Rattle.laws.specs.FlushWalk.{Within, rest_more, rest_end, rest-start}
use Rattle.flush.specs.Fits.{text_fits, blank_cells}
use Rattle.flush.specs.Painted.{LeftFits, left, PaintedTo}
use Rattle.flush.specs.Rooms.{TextScreen, OnScreen}
use Rattle.flush.proofs.Walking.{cell_small, kind_blank, after_row, after_end, after-after, within-start, within_turn, down_turn}
use Rattle.flush.proofs.Fitting.{fits-start, fits_turn, fits_here}
use Rattle.flush.proofs.Showing.{blank_shown}

pub painted_on : (ws : List Store) {s t u : List ℕ} → u ≡ paint ws t → t ≡ s → u ≡ paint ws s
painted_on ws e h = e ∙ ap (paint ws) h

pub same_screen : (st n : ℕ) (old : List ℕ) {screen : List ℕ} → TextScreen st n old → length screen ≡ length old → TextScreen st n screen
same_screen st n old p e = record { text = p.text; small = omega (arith, p.small); sized = omega (arith, p.sized) }

pub on_screen : (st n : ℕ) (old screen : List ℕ) (s : Spot) → TextScreen st n old → length screen ≡ length old → Within st n s → s.row < n → OnScreen st n screen s
on_screen st n old screen s p e w l = record {
  whole = same_screen st n old p e;
  row = l;
  column = w.column;
  cell = cell_small st n s w p.text.narrow p.text.low;
}

module _ (st n : ℕ) (text : List ℕ) (flags : List Bool) (version : ℕ) (f : Fonts) where
  abbrev Painted : Spot → List ℕ → Spot → List ℕ → Type 0
  Painted = PaintedTo st n text flags version f

  -- nothing yet
  pub painted-none : (s : Spot) (screen : List ℕ) → LeftFits st n text version f s → Painted s screen s screen
  painted-none s screen h = record { fits = h; down = omega arith; same = refl; painted = refl }

  pub painted-start : (screen : List ℕ) {s : Spot} → 0 < st → text_fits st n text version f ≡ true → s ≡ spot 0 0 0 → Painted (spot 0 0 0) screen s screen
  painted-start screen h k e = rw e (painted-none (spot 0 0 0) screen (record { within = within-start st n h; glyphs = fits-start st n text version f refl ∙ k }))

  -- one part after another
  pub painted_then : {a b c : Spot} {x y z : List ℕ} → Painted a x b y → Painted b y c z → Painted a x c z
  painted_then p q = record { fits = q.fits; down = omega (arith, p.down, q.down); same = q.same ∙ p.same; painted = q.painted ∙ p.painted }

  module _ {from : Spot} {old : List ℕ} (s : Spot) (screen : List ℕ) (p : Painted from old s screen) (l : s.row < n) where
    left-painted : {w : Shown} {t : Spot} {v : List ℕ} → w ≡ shown_at st n text s → v ≡ paint (shown_stores st flags version f w) screen → t ≡ next_spot st w
        → paint (left st n text flags version f t) v ≡ paint (left st n text flags version f s) screen
    unfolding stores
    left-painted {w = w} e h q =
        (λ i. paint (left st n text flags version f (q i)) (h i)) ∙ sym (paint-append (shown_stores st flags version f w) (left st n text flags version f (next_spot st w)) screen)
        ∙ ap (λ (x : Shown). paint (shown_stores st flags version f x ++ left st n text flags version f (next_spot st x)) screen) e
        ∙ sym (ap (λ (ws : List Shown). paint (stores st flags version f ws) screen) (rest_more st n text s p.fits.within l))

    -- what is shown at the spot
    pub painted_turn : {w : Shown} {t : Spot} {v : List ℕ} → w ≡ shown_at st n text s → v ≡ paint (shown_stores st flags version f w) screen → t ≡ next_spot st w → Painted from old t v
    painted_turn {w = w} e h q =
        let i = p.fits.within in
        let g = p.fits.glyphs in
        record {
          fits = record {
            within = within_turn st n text s i l e q;
            glyphs = fits_turn st n text version f s i l e refl (fits_here st n text version f s i l e g) q g;
          };
          down = omega (arith, p.down, down_turn st n text s i l e q);
          same = ap length h ∙ length-paint (shown_stores st flags version f w) screen ∙ p.same;
          painted = left-painted e h q ∙ p.painted;
        }

    -- a blank cell
    painted_blank : get_or text s.cell 0 ≡ 0 → Painted from old (spot_after st s 1) screen
    unfolding cells_taken
    painted_blank z =
        let k = kind_blank st n (get_or text s.cell 0) s z in
        painted_turn refl (blank_shown st flags s (get_or text s.cell 0) (get_or text (s.cell + 1) 0) screen f version (sym k)) (ap (λ (m : CellKind). spot_after st s (cells_taken m)) k)

  -- so many of them, up to the row's end at most
  pub painted_blanks : (k : ℕ) {from : Spot} {old : List ℕ} (s : Spot) (screen : List ℕ) → Painted from old s screen → s.row < n → 1 ≤ k → s.column + k ≤ st
      → blank_cells text s.cell k ≡ true → Painted from old (spot_after st s k) screen
  unfolding blank_cells
  painted_blanks zero s screen p l a b h = absurd (omega arith)
  painted_blanks (suc zero) s screen p l a b h = painted_blank s screen p l (eqb-true (get_or text s.cell 0) 0 (and-true (eqb (get_or text s.cell 0) 0) true h).0)
  painted_blanks (suc (suc k)) s screen p l a b h =
      let z = and-true (eqb (get_or text s.cell 0) 0) (blank_cells text (s.cell + 1) (suc k)) h in
      let t = spot (s.cell + 1) s.row (s.column + 1) in
      let one = after_row st 1 s (omega arith) in
      rw (after-after st (suc k) s) (painted_blanks (suc k) t screen (rw one (painted_blank s screen p l (eqb-true (get_or text s.cell 0) 0 z.0))) l (omega arith) (omega arith) z.1)

  -- all cells up to the row's end, k of them
  pub row_blank : (k : ℕ) (s : Spot) (screen : List ℕ) {t : Bool} {r : Spot} → LeftFits st n text version f s → s.row < n → k ≡ st - s.column
      → t ≡ (leb (s.cell + k) (length text) && blank_cells text s.cell k) → t ≡ true → r ≡ spot_after st s (st - s.column) → Painted s screen r screen × (s.row < r.row)
  row_blank k s screen h l c e y q =
      let b = (and-true (leb (s.cell + k) (length text)) (blank_cells text s.cell k) (sym e ∙ y)).1 in
      let w = h.within.column in
      let below = ap (λ (t : Spot). t.row) (after_end st k s (omega arith) refl) in
      rw (q, ← c) (painted_blanks k s screen (painted-none s screen h) l (omega arith) (omega arith) b, omega (arith, below))

  -- all
  pub painted_end : (screen old : List ℕ) (s : Spot) → Painted (spot 0 0 0) old s screen → n ≤ s.row → screen ≡ paint (text_stores st n text flags version f) old
  unfolding stores paint text_stores
  painted_end screen old s p l =
      sym (ap (λ (ws : List Shown). paint (stores st flags version f ws) screen) (rest_end st n text s l)) ∙ p.painted
      ∙ ap (λ (ws : List Shown). paint (stores st flags version f ws) old) (sym (rest-start st n text))

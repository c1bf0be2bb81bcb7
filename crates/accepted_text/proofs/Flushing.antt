-- Flush: the text kept, the screen part painted, and the record marked.
use Rattle.std.proofs.Common.{◌≡◌, refl, sym, ap, ◌∙◌, List, [], ℕ, ◌+◌, ◌-◌, ◌*◌, ◌≤◌, mul_assoc, mul_comm, arith, eqb, length}
use borrow.Rule.Slice.PartMut.{put_mid}
use Rattle.model.specs.declared.Canvas.{Canvas}
use Rattle.model.specs.declared.Head.{Head}
use Rattle.model.specs.declared.Marks.{Marks}
use Rattle.model.specs.declared.glass.Glass.{Glass}
use Rattle.model.specs.Geometry.{Geometry, height, rows, columns, cells, screen_bytes}
use Rattle.model.specs.Glass.{geometry, glass_of, canvas, text_bytes}
use Rattle.model.specs.Memory.{window, with_window}
use Rattle.model.specs.Flags.{flags_in}
use Rattle.model.specs.Record.{decode, encode}
use Rattle.model.specs.Marks.{whole, marked}
use Rattle.model.specs.Glyphs.{Fonts, fonts_fit, paint}
use Rattle.model.specs.Flush.{text_stores, flush_stores, cleared_in_text, flushed}
use Rattle.model.specs.Calls.{flush, lent, answered, done}
use Rattle.laws.specs.Tests.{if_cases}
use Rattle.laws.specs.Parts.{part_back}
use Rattle.laws.specs.Loops.{length-zeros}
use Rattle.laws.specs.Glyphs.{length-paint}
use Rattle.laws.specs.StateTest.{flags-part}
use Rattle.updates.specs.Update.{updated}
use Rattle.updates.proofs.Updating.{updated_for}
use Rattle.flush.specs.Fits.{text_fits}
use Rattle.flush.specs.Rooms.{TextScreen}
use Rattle.flush.proofs.Fitting.{text-fits}
use Rattle.accepted_text.specs.Texts.{glyphs_fit}
use Rattle.updates.proofs.Drawing.{Loaded, lands, screen_part, text_part, flags_part, screen_length, screen_is, text_is}

module _ {v : Glass} {r : List ℕ} {h : Head} {m : List ℕ} (w : Loaded v r h m) where
  -- GLYPH as the code tests it
  pub glyphs_are : (f : Fonts) {x : List ℕ} → x ≡ text_part v h m → text_fits v.columns v.rows x h.version f ≡ glyphs_fit r m f
  glyphs_are f e =
      let g = geometry v in
      let z = v.suits in
      (λ i. text_fits (z.is_columns i) (z.is_rows i) ((e ∙ text_is w) i) h.version f)
      ∙ ap (λ (y : Head). text_fits (columns g) (rows g) (window y.text (cells g) m) y.version f) w.head
      ∙ sym (text-fits (columns g) (rows g) _ (decode g r).flags _ f)
      ∙ ap (λ (y : Geometry). fonts_fit (flush_stores y f (decode y r) m)) w.chosen.glass

  -- the text finds room where it is kept
  pub text_kept : v.cells ≤ text_bytes
  text_kept = let k = w.chosen in omega (arith, v.suits.is_cells ∙ ap cells k.glass)

  pub text_screen : TextScreen v.columns v.rows (screen_part v h m)
  text_screen =
      let z = v.suits in
      let g = z.glass in
      let lines : 16 * (v.stride * rows (geometry v)) ≡ v.stride * height (geometry v) =
      sym (mul_assoc 16 v.stride (rows (geometry v))) ∙ ap (λ (n : ℕ). n * rows (geometry v)) (mul_comm 16 v.stride) ∙ mul_assoc v.stride 16 (rows (geometry v)) ∙ ap (λ (n : ℕ). v.stride * n) g.filled in
      let long : 16 * (v.columns * v.rows) ≡ length (screen_part v h m) = (λ i. 16 * (z.is_columns i * z.is_rows i)) ∙ lines ∙ sym z.is_screen ∙ sym (screen_length w) in
      record {
        text = record { wide = omega (arith, z.is_columns, g.columns); narrow = omega (arith, z.is_columns, g.cursor); low = omega (arith, z.is_rows, g.high, g.filled) };
        small = omega (arith, screen_length w, z.is_screen, g.screen);
        sized = omega (arith, long);
      }

  length-cleared : (mode : ℕ) (s : List ℕ) → length (cleared_in_text mode s (length s)) ≡ length s
  length-cleared mode s = if_cases (λ (l : List ℕ). length l ≡ length s) (eqb mode 0) (λ e. length-zeros (length s)) (λ e. refl)

  pub flush_drew : (f : Fonts) (c : Marks) (s : List ℕ) {k : Canvas} {x t : List ℕ} → k ≡ canvas v → (c.dirty ≡ whole k.stride k.height) × (c.owed ≡ whole k.stride k.height)
      → x ≡ text_part v h m
      → s ≡ paint (text_stores v.columns v.rows x (flags_in v.cells (flags_part v r)) h.version f) (cleared_in_text h.screen (screen_part v h m) (length (screen_part v h m)))
      → t ≡ updated (λ g x. marked g c.dirty c.owed x) r
      → answered 0 [] (lent t (put_mid h.graphics (h.graphics + v.screen - h.graphics) m s) []) ≡ done (glass_of (length r)) (flush f) (lent r m [])
  unfolding done decode flushed
  flush_drew f c s {k} {x} q n e p d =
      let g = geometry v in
      let z = v.suits in
      let all = whole v.stride (height g) in
      let as-whole : whole k.stride k.height ≡ all = (λ i. whole (q i).stride (q i).height) ∙ ap (whole v.stride) z.is_height in
      let long : length s ≡ h.graphics + v.screen - h.graphics =
      ap length p ∙ length-paint (text_stores v.columns v.rows x (flags_in v.cells (flags_part v r)) h.version f) (cleared_in_text h.screen (screen_part v h m) (length (screen_part v h m))) ∙ length-cleared h.screen (screen_part v h m) ∙ screen_length w ∙ omega arith in
      let painted = p ∙ (λ i. paint (text_stores (z.is_columns i) (z.is_rows i) ((e ∙ text_is w) i) (flags_in (z.is_cells i) (flags-part v r i)) h.version f)
      (cleared_in_text h.screen (screen_is w i) ((screen_length w ∙ z.is_screen) i))) in
      let back = part_back h.graphics (h.graphics + v.screen) m s (omega arith) long ∙ ap (λ (y : List ℕ). with_window h.graphics y m) painted in
      let marks = updated_for r (λ y x. marked y c.dirty c.owed x) w.chosen d ∙ (λ i. encode g (marked g ((n.0 ∙ as-whole) i) ((n.1 ∙ as-whole) i) (decode g r))) in
      lands (flush f) (lent r m []) w.chosen
      ((λ i. answered 0 [] (lent (marks i) (back i) []))
      ∙ ap (λ (y : Head). answered 0 [] (lent (encode g (marked g all all (decode g r)))
      (with_window y.graphics (paint (text_stores (columns g) (rows g) (window y.text (cells g) m) (decode g r).flags y.version f) (cleared_in_text y.screen (window y.graphics (screen_bytes g) m) (screen_bytes g))) m) [])) w.head)

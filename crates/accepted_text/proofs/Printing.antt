-- `print` and `newline`: the page lent in two parts, written, and the screen and the record that follow it.
use Rattle.std.proofs.Common.{◌≡◌, refl, sym, ap, subst, ◌∙◌, not, List, [], ℕ, ◌+◌, ◌-◌, ◌*◌, ◌^◌, ◌<◌, ◌≤◌, arith, lt-ltb, eqb, length}
use borrow.Rule.Slice.PartMut.{put_mid}
use Rattle.model.specs.declared.Canvas.{Canvas}
use Rattle.model.specs.declared.Head.{Head}
use Rattle.model.specs.declared.Marks.{Marks}
use Rattle.model.specs.declared.glass.Glass.{Glass}
use Rattle.model.specs.Geometry.{Geometry, rows, columns, height, cells, screen_bytes, row_bytes}
use Rattle.model.specs.Glass.{geometry, glass_of, canvas}
use Rattle.model.specs.Rects.{none}
use Rattle.model.specs.Memory.{window, with_window}
use Rattle.model.specs.Flags.{flag_bytes, flags_in, bytes_of_flags, flags_fit}
use Rattle.model.specs.Record.{flags, head_fits, part_fits, State, decode, encode, WellFormed}
use Rattle.model.specs.Marks.{marked}
use Rattle.model.specs.Text.{with_row, at_place}
use Rattle.model.specs.Print.{Page, scrolled_times, newline_on, is_inverse, print_on, page_of, screen_scrolls, scroll_mark, state_with_page, scrolled_memory, memory_with_page}
use Rattle.model.specs.Calls.{print, newline, lent, answered, with_page, done}
use Rattle.laws.specs.Memory.{length-with_window, window_back}
use Rattle.laws.specs.Parts.{part_back}
use Rattle.laws.specs.Pages.{length_times, Sheet, newline_sheet}
use Rattle.laws.specs.Flags.{HasFlags, flags_read}
use Rattle.laws.specs.Record.{Passing, has_flags, part_passes}
use Rattle.laws.specs.StateTest.{flags_room, flags-part}
use Rattle.laws.specs.Formed.{still_fits, head_formed}
use Rattle.laws.specs.Updates.{unmarked_state, flags_pass, flags_state}
use Rattle.laws.specs.Texts.{screen_rows, row_room, page_sheet}
use Rattle.laws.specs.States.{well_formed}
use Rattle.updates.specs.Update.{updated, on_head}
use Rattle.record.proofs.Lengths.{chosen_as, passes_as}
use Rattle.updates.proofs.Updating.{updated_for, still_passes, then_updated}
use Rattle.text.specs.declared.page.Place.{Place}
use Rattle.text.specs.Written.{page, Ready, Written}
use Rattle.record.specs.Given.{Given}
use Rattle.accepted_text.specs.Pages.{place_of, PageStored}
use Rattle.updates.proofs.Drawing.{Loaded, lands, screen_part, text_part, flags_part, screen_room, text_room, screen_length, text-length, flags_length, screen_is, text_is}

module _ {v : Glass} {r : List ℕ} {h : Head} {m : List ℕ} (w : Loaded v r h m) where
  -- ---- the screen and the record

  stands : Passing (glass_of (length r)) r
  stands = passes_as r w.chosen refl w.passing

  pub rows-lent : (length (screen_part v h m) ≡ v.rows * row_bytes (geometry v)) × (0 < v.rows)
  rows-lent =
      let z = v.suits in
      let n = screen_length w ∙ z.is_screen ∙ screen_rows (geometry v) z.glass in
      (n ∙ ap (λ (k : ℕ). k * row_bytes (geometry v)) (sym z.is_rows), omega (arith, z.is_rows, z.glass.row))

  module _ (p : Place) {s : List ℕ} (e : s ≡ updated (on_head (at_place p.row p.column)) r) where
    -- no scroll: another place, and nothing else
    pub page_stays : {n : ℕ} → n ≡ screen_scrolls h.screen p.scrolls → n ≡ 0 → PageStored (glass_of (length r)) r m p s m
    unfolding scrolled_memory scrolled_times scroll_mark
    page_stays a z =
        let g = geometry v in
        let x = decode g r in
        let none_left : screen_scrolls x.head.screen p.scrolls ≡ 0 = ap (λ (y : Head). screen_scrolls y.screen p.scrolls) (sym w.head) ∙ sym a ∙ z in
        let at : h.graphics ≡ x.head.graphics = ap (λ (y : Head). y.graphics) w.head in
        subst (λ (y : Geometry). PageStored y r m p s m) w.chosen.glass
        (record {
          rec = rw none_left (updated_for r (on_head (at_place p.row p.column)) w.chosen e ∙ ap (encode g) (sym (unmarked_state g (on_head (at_place p.row p.column) g x))));
          memory = rw none_left (sym (window_back x.head.graphics (screen_bytes g) m (omega (arith, screen_room w, v.suits.is_screen))));
        })

    module _ (l : (p.row < rows (glass_of (length r))) × (p.column < columns (glass_of (length r)))) where
      place_formed : let g = glass_of (length r) in WellFormed g (on_head (at_place p.row p.column) g (decode g r))
      unfolding head_fits
      place_formed =
          let g = glass_of (length r) in
          let x = decode g r in
          let k = well_formed g r stands in
          head_formed g x k (at_place p.row p.column x.head)
          (still_fits g (with_row p.row x.head) (still_fits g x.head k.head 1 (lt-ltb p.row (rows g) l.0)) 2 (lt-ltb p.column (columns g) l.1))

      pub place_passes : Passing (glass_of (length s)) s
      place_passes = still_passes (on_head (at_place p.row p.column)) stands place_formed e

      pub page_follows : {n j : ℕ} {k : Canvas} (c : Marks) {t u : List ℕ} → n ≡ screen_scrolls h.screen p.scrolls → t ≡ scrolled_times n (row_bytes (geometry v)) (screen_part v h m)
          → k ≡ canvas v → c.dirty ≡ none → c.owed ≡ scroll_mark k.stride k.height j → j ≡ n → u ≡ updated (λ g x. marked g c.dirty c.owed x) s
          → PageStored (glass_of (length r)) r m p u (put_mid h.graphics (h.graphics + v.screen - h.graphics) m t)
      unfolding scrolled_memory
      page_follows {n} c {t} {u} a f k d o j q =
          let g = geometry v in
          let z = v.suits in
          let at = h.graphics in
          let set = on_head (at_place p.row p.column) in
          let size : length t ≡ at + v.screen - at =
          ap length f ∙ length_times n (row_bytes g) (screen_part v h m) (rw (screen_length w ∙ z.is_screen) (row_room g z.glass)) ∙ screen_length w ∙ omega arith in
          let owed = o ∙ (λ i. scroll_mark (k i).stride (k i).height ((j ∙ a) i)) ∙ (λ i. scroll_mark v.stride (z.is_height i) (screen_scrolls (w.head i).screen p.scrolls)) in
          let both = then_updated set stands place_formed e (λ y x. marked y c.dirty c.owed x) q in
          subst (λ (y : Geometry). PageStored y r m p u (put_mid at (at + v.screen - at) m t)) w.chosen.glass
          (record {
            rec = updated_for r (λ y x. marked y c.dirty c.owed (set y x)) w.chosen both ∙ (λ i. encode g (marked g (d i) (owed i) (set g (decode g r))));
            memory = part_back at (at + v.screen) m t (omega arith) size
                ∙ ap (λ (x : List ℕ). with_window at x m) (f ∙ (λ i. scrolled_times (a i) (row_bytes g) (screen_is w i)))
                ∙ ap (λ (y : Head). scrolled_memory g y.graphics (screen_scrolls y.screen p.scrolls) m) w.head;
          })

  -- ---- the page, lent in two parts

  pub flags_end : v.others ≤ length r
  flags_end = rw w.passing.sized (flags_room v).1

  all-cells : v.cells ≡ v.rows * v.columns
  all-cells = let z = v.suits in z.is_cells ∙ (λ i. sym z.is_rows i * sym z.is_columns i)

  flags_lent : HasFlags (length (text_part v h m)) (flags_part v r)
  unfolding part_fits
  flags_lent =
      let g = geometry v in
      let z = v.suits in
      let p = w.passing in
      let n = text-length w ∙ z.is_cells in
      record {
        sized = flags_length w ∙ sym (ap flag_bytes n);
        fit = (λ i. flags_fit (n i) (flags-part v r i)) ∙ part_passes g r p flags (has_flags g);
      }

  module _ {o : Place} (e : o ≡ place_of h) where
    -- it is the page of the definition
    page_is : page (text_part v h m) (flags_part v r) o ≡ page_of (geometry v) (decode (geometry v) r) m
    unfolding page_of decode
    page_is =
        let z = v.suits in
        λ i. record {
          text = (text_is w ∙ ap (λ (x : Head). window x.text (cells (geometry v)) m) w.head) i;
          flags = flags_in ((text-length w ∙ z.is_cells) i) (flags-part v r i);
          row = (ap (λ (p : Place). p.row) e ∙ ap (λ (x : Head). x.row) w.head) i;
          column = (ap (λ (p : Place). p.column) e ∙ ap (λ (x : Head). x.column) w.head) i;
          scrolls = (e i).scrolls;
        }

    first_sheet : (n : ℕ) → n ≤ 1 → Sheet v.rows v.columns n (page (text_part v h m) (flags_part v r) o)
    first_sheet n c =
        let g = geometry v in
        let z = v.suits in
        let room = text_room w in
        let text : h.text ≡ (decode g r).head.text = ap (λ (x : Head). x.text) w.head in
        rw (page_is, z.is_rows, z.is_columns) (page_sheet g z.glass (decode g r) m (well_formed g r w.passing) (omega (arith, z.is_cells)) n c)

    pub ready : (n : ℕ) → n ≤ 1 → Ready v.rows v.columns n (text_part v h m) (flags_part v r) o
    ready n c = record { sheet = first_sheet n c; flags = flags_lent }

    pub no_scrolls : o.scrolls ≡ 0
    no_scrolls = ap (λ (p : Place). p.scrolls) e

    pub few_scrolls : o.scrolls + 1 < 2 ^ 64
    few_scrolls = let z = no_scrolls in omega arith

    -- ---- written by f, which keeps it a page

    module _ (f : Page → Page) (keeps : (p : Page) → Sheet v.rows v.columns 1 p → Sheet v.rows v.columns 1 (f p)) {j : ℕ} {t c : List ℕ} {p : Place}
        (u : Written (f (page (text_part v h m) (flags_part v r) o)) j t c p) where
      last_sheet : Sheet v.rows v.columns 1 (page t c p)
      last_sheet = rw u.page (keeps (page (text_part v h m) (flags_part v r) o) (first_sheet 1 (omega arith)))

      flags_long : length (flags_in (length t) c) ≡ cells (geometry v)
      flags_long = last_sheet.flags ∙ sym all-cells ∙ v.suits.is_cells

      as_bytes : c ≡ bytes_of_flags (flags_in (length t) c)
      as_bytes = sym (flags_read (length t) c u.flags.sized u.flags.fit)

      text_back : put_mid h.text (h.text + v.cells - h.text) m t ≡ with_window h.text t m
      text_back =
          let n : length t ≡ v.cells = last_sheet.text ∙ sym all-cells in
          part_back h.text (h.text + v.cells) m t (omega arith) (omega arith)

      -- and the record and the memory that hold it
      after : Loaded v (put_mid v.flags (v.others - v.flags) r c) h (put_mid h.text (h.text + v.cells - h.text) m t)
      after =
          let n : length t ≡ v.cells = last_sheet.text ∙ sym all-cells in
          let room = text_room w in
          let z = v.suits in
          let k = flags_pass v w.passing (flags_in (length t) c) flags_long as_bytes in
          record {
            chosen = chosen_as (k.sized ∙ sym w.passing.sized) w.chosen;
            passing = k;
            head = w.head ∙ ap (λ (s : State). s.head) (sym (flags_state v w.passing (flags_in (length t) c) flags_long as_bytes));
            memory = ap length text_back ∙ length-with_window h.text t m (omega arith) ∙ w.memory;
          }

      pub store_given : let r' = put_mid v.flags (v.others - v.flags) r c in
          Given r' (put_mid h.text (h.text + v.cells - h.text) m t) × ((p.row < rows (glass_of (length r'))) × (p.column < columns (glass_of (length r'))))
      store_given =
          let k = after.chosen in
          let s = last_sheet in (
            record { passing = passes_as _ k refl after.passing; memory = after.memory },
            (omega (arith, s.row, v.suits.is_rows ∙ ap rows k.glass), omega (arith, s.room, v.suits.is_columns ∙ ap columns k.glass)),
          )

      pub page-stored : {s n : List ℕ} → let r' = put_mid v.flags (v.others - v.flags) r c in
          PageStored (glass_of (length r')) r' (put_mid h.text (h.text + v.cells - h.text) m t) p s n
          → lent s n [] ≡ with_page (geometry v) (f (page_of (geometry v) (decode (geometry v) r) m)) (lent r m [])
      unfolding with_page state_with_page memory_with_page
      page-stored {s} {n} k =
          let g = geometry v in
          let l = subst (λ (y : Geometry). PageStored y (put_mid v.flags (v.others - v.flags) r c) (put_mid h.text (h.text + v.cells - h.text) m t) p s n) (sym after.chosen.glass) k in
          let state = flags_state v w.passing (flags_in (length t) c) flags_long as_bytes in
          let rec = l.rec ∙ ap (λ (x : State). encode g (marked g none (scroll_mark v.stride (height g) (screen_scrolls x.head.screen p.scrolls)) (on_head (at_place p.row p.column) g x))) state in
          let memory = l.memory ∙ (λ i. scrolled_memory g (state i).head.graphics (screen_scrolls (state i).head.screen p.scrolls) ((text_back ∙ ap (λ (x : Head). with_window x.text t m) w.head) i)) in
          (λ i. lent (rec i) (memory i) []) ∙ ap (λ (x : Page). with_page g x (lent r m [])) (u.page ∙ ap f page_is)

  -- ---- the two that write

  pub newline_keeps : (p : Page) → Sheet v.rows v.columns 1 p → Sheet v.rows v.columns 1 (newline_on v.rows v.columns p)
  newline_keeps p s = newline_sheet v.rows v.columns 1 1 p (omega (arith, s.wide)) s

  pub newline_left : {s n : List ℕ} → lent s n [] ≡ with_page (geometry v) (newline_on v.rows v.columns (page_of (geometry v) (decode (geometry v) r) m)) (lent r m [])
      → answered 0 [] (lent s n []) ≡ done (glass_of (length r)) newline (lent r m [])
  unfolding done
  newline_left e =
      let g = geometry v in
      let z = v.suits in
      lands newline (lent r m []) w.chosen (ap (answered 0 []) (e ∙ (λ i. with_page g (newline_on (z.is_rows i) (z.is_columns i) (page_of g (decode g r) m)) (lent r m []))))

  pub print_left : (bs : List ℕ) {s n : List ℕ} → lent s n [] ≡ with_page (geometry v) (print_on v.rows v.columns (not (eqb h.print 0)) bs (page_of (geometry v) (decode (geometry v) r) m)) (lent r m [])
      → answered 0 [] (lent s n []) ≡ done (glass_of (length r)) (print bs) (lent r m [])
  unfolding done is_inverse
  print_left bs e =
      let g = geometry v in
      let z = v.suits in
      lands (print bs) (lent r m []) w.chosen (ap (answered 0 []) (e ∙ (λ i. with_page g (print_on (z.is_rows i) (z.is_columns i) (not (eqb (w.head i).print 0)) bs (page_of g (decode g r) m)) (lent r m []))))

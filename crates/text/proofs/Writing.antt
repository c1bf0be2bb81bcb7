-- What each step of printing leaves, from what its calls say: the page of the definition, and one that the next step can take.
use Rattle.std.proofs.Common.{◌≡◌, sym, ap, ◌∙◌, Bool, true, false, ◌&&◌, List, ℕ, suc, ◌+◌, ◌*◌, ◌<◌, ◌≤◌, mul-le-mul_right, one-mul, arith, leb, eqb, length, set, length-set, eq-eqb, ne_eqb}
use Rattle.model.specs.Flags.{flags_in, bytes_of_flags}
use Rattle.model.specs.Print.{scrolled, scroll_page, next_row, newline_on, write_cell, wrap, end_row, print_byte, print_pair}
use Rattle.laws.specs.Flags.{HasFlags, flag_room, with_flag, flags_scrolled, flags_of, flags_written, length-flags_in, flag-room, flag-written, flags-scrolled}
use Rattle.laws.specs.Pages.{length-scrolled, cell_in, write_sheet, wrap_sheet, wrap_pair}
use Rattle.text.specs.declared.page.Place.{Place}
use Rattle.text.specs.Written.{page, Cell, Ready, Written}

-- flags written as the bytes of a page's, one for each of its n cells
module _ (n : ℕ) (fs : List Bool) {g : List ℕ} (e : g ≡ bytes_of_flags fs) (l : length fs ≡ n) where
  flags_back : flags_in n g ≡ fs
  flags_back = ap (flags_in n) e ∙ flags_written n fs l

  flags_left : HasFlags n g
  flags_left = rw e (rw l at (flags_of fs))

pub cell_in_flags : (columns : ℕ) (t f : List ℕ) (p : Place) → Cell columns t f p → p.row * columns + p.column < flag_room f
cell_in_flags columns t f p k = omega (arith, k.text, flag-room k.flags)

module _ (rows columns : ℕ) (t f : List ℕ) (p : Place) where
  -- a row of cells lies in the text, and in the flags
  pub row_in_text : {n : ℕ} → Ready rows columns n t f p → columns ≤ length t
  row_in_text r =
      let k : 1 * columns ≤ rows * columns = mul-le-mul_right {m = 1} {n = rows} columns (omega (arith, r.sheet.row)) in
      rw r.sheet.text (rw one-mul at k)

  pub row_in_flags : {n : ℕ} → Ready rows columns n t f p → columns ≤ flag_room f
  row_in_flags r = omega (arith, row_in_text r, flag-room r.flags)

  pub has_cell : {n : ℕ} → Ready rows columns (suc n) t f p → Cell columns t f p
  has_cell {n} r = record { text = omega (arith, cell_in rows columns n (page t f p) r.sheet, r.sheet.text); flags = r.flags }

  -- ---- newline

  pub newline_none : {n : ℕ} → Ready rows columns n t f p → p.column ≡ 0 → Written (newline_on rows columns (page t f p)) (p.scrolls + 1) t f p
  unfolding newline_on
  newline_none r z = record { page = rw (eq-eqb p.column 0 z); flags = r.flags; scrolls = omega arith }

  pub newline_scrolls : {n j : ℕ} {s g : List ℕ} → Ready rows columns n t f p → (p.column ≡ 0 → ⊥) → p.row + 1 ≡ rows
      → s ≡ scrolled columns 0 t → g ≡ flags_scrolled j f → j ≡ columns
      → Written (newline_on rows columns (page t f p)) (p.scrolls + 1) s g (record { row = p.row; column = 0; scrolls = p.scrolls + 1 })
  unfolding newline_on scroll_page
  newline_scrolls {s = s} r z l d e j =
      let fs = scrolled columns false (flags_in (length t) f) in
      let m = length-flags_in (length t) f r.flags.sized in
      let k : length fs ≡ length s = length-scrolled columns false (flags_in (length t) f) (rw m (row_in_text r)) ∙ m
      ∙ sym (length-scrolled columns 0 t (row_in_text r)) ∙ sym (ap length d) in
      let q = e ∙ ap (λ (i : ℕ). flags_scrolled i f) j ∙ flags-scrolled (length t) f r.flags columns in
      record {
        page = rw (ne_eqb p.column 0 z, eq-eqb (p.row + 1) rows l)
            (λ i. record { text = d i; flags = flags_back (length s) fs q k i; row = p.row; column = 0; scrolls = p.scrolls + 1 });
        flags = flags_left (length s) fs q k;
        scrolls = omega arith;
      }

  pub newline_next : {n : ℕ} → Ready rows columns n t f p → (p.column ≡ 0 → ⊥) → (p.row + 1 ≡ rows → ⊥)
      → Written (newline_on rows columns (page t f p)) (p.scrolls + 1) t f (record { row = p.row + 1; column = 0; scrolls = p.scrolls })
  unfolding newline_on next_row
  newline_next r z l = record { page = rw (ne_eqb p.column 0 z, ne_eqb (p.row + 1) rows l); flags = r.flags; scrolls = omega arith }

  -- after the last column
  pub row_ended : {k : ℕ} {s g : List ℕ} {q : Place} → p.column ≡ columns → Written (newline_on rows columns (page t f p)) k s g q
      → Written (end_row rows columns (page t f p)) k s g q
  unfolding end_row
  row_ended z w = record { page = rw (eq-eqb p.column columns z) w.page; flags = w.flags; scrolls = w.scrolls }

  pub row_goes_on : {n : ℕ} → Ready rows columns n t f p → (p.column ≡ columns → ⊥) → Written (end_row rows columns (page t f p)) (p.scrolls + 1) t f p
  unfolding end_row
  row_goes_on r z = record { page = rw (ne_eqb p.column columns z); flags = r.flags; scrolls = omega arith }

  -- ---- a cell

  module _ (v : Bool) (b : ℕ) where
    pub cell_written : {g : List ℕ} → Cell columns t f p → g ≡ with_flag (p.row * columns + p.column) v f
        → Written (write_cell columns v b (page t f p)) p.scrolls (set t (p.row * columns + p.column) b) g (record { row = p.row; column = p.column + 1; scrolls = p.scrolls })
    unfolding write_cell
    cell_written c e =
        let i = p.row * columns + p.column in
        let fs = set (flags_in (length t) f) i v in
        let k : length fs ≡ length (set t i b) = length-set (flags_in (length t) f) i v ∙ length-flags_in (length t) f c.flags.sized ∙ sym (length-set t i b) in
        let q = e ∙ flag-written (length t) f c.flags i v in
        record {
          page = λ j. record { text = set t i b; flags = flags_back (length (set t i b)) fs q k j; row = p.row; column = p.column + 1; scrolls = p.scrolls };
          flags = flags_left (length (set t i b)) fs q k;
          scrolls = omega arith;
        }

    pub after_cell : {n k : ℕ} {s g : List ℕ} {q : Place} → Ready rows columns (suc n) t f p → Written (write_cell columns v b (page t f p)) k s g q → Ready rows columns n s g q
    after_cell {n} r w = record { sheet = rw w.page (write_sheet rows columns v n b (page t f p) r.sheet); flags = w.flags }

    -- ---- a byte >= 128 at the last column

    pub wrapped : {j : ℕ} {s g s' g' : List ℕ} {q r : Place} → (leb 128 b && eqb (p.column + 1) j) ≡ true → j ≡ columns
        → Written (write_cell columns v 32 (page t f p)) p.scrolls s g q → Written (newline_on rows columns (page s g q)) (q.scrolls + 1) s' g' r
        → Written (wrap rows columns v b (page t f p)) (p.scrolls + 1) s' g' r
    unfolding wrap
    wrapped e j w u = record { page = rw (ap (λ (k : ℕ). leb 128 b && eqb (p.column + 1) k) (sym j) ∙ e) (u.page ∙ ap (newline_on rows columns) w.page); flags = u.flags; scrolls = omega (arith, w.scrolls, u.scrolls) }

    pub not_wrapped : {n : ℕ} → Ready rows columns n t f p → (leb 128 b && eqb (p.column + 1) columns) ≡ false
        → Written (wrap rows columns v b (page t f p)) (p.scrolls + 1) t f p
    unfolding wrap
    not_wrapped r e = record { page = rw e; flags = r.flags; scrolls = omega arith }

    pub after-wrap : {k : ℕ} {s g : List ℕ} {q : Place} → Ready rows columns 1 t f p → Written (wrap rows columns v b (page t f p)) k s g q → Ready rows columns 1 s g q
    after-wrap r w = record { sheet = rw w.page (wrap_sheet rows columns v b (page t f p) r.sheet); flags = w.flags }

    pub after_wrap_pair : {k : ℕ} {s g : List ℕ} {q : Place} → 128 ≤ b → Ready rows columns 1 t f p → Written (wrap rows columns v b (page t f p)) k s g q
        → Ready rows columns 2 s g q
    after_wrap_pair h r w = record { sheet = rw w.page (wrap_pair rows columns v b (page t f p) h r.sheet); flags = w.flags }

-- ---- a byte, and a pair

module _ (rows columns : ℕ) (t f : List ℕ) (p : Place) (v : Bool) (b : ℕ) where
  pub cell_after_wrap : {k : ℕ} {s g : List ℕ} {q : Place} → Ready rows columns 1 t f p → Written (wrap rows columns v b (page t f p)) k s g q → Cell columns s g q
  cell_after_wrap {s = s} {g} {q} d w = has_cell rows columns s g q (after-wrap rows columns t f p v b d w)

  pub ready_after_byte : {k j : ℕ} {s g s' g' : List ℕ} {q r : Place} → Ready rows columns 1 t f p → Written (wrap rows columns v b (page t f p)) k s g q
      → Written (write_cell columns v b (page s g q)) j s' g' r → Ready rows columns 0 s' g' r
  ready_after_byte {s = s} {g} {q = q} d w u = after_cell rows columns s g q v b (after-wrap rows columns t f p v b d w) u

  pub byte_printed : {s g s' g' s'' g'' : List ℕ} {q r e : Place} → Written (wrap rows columns v b (page t f p)) (p.scrolls + 1) s g q
      → Written (write_cell columns v b (page s g q)) q.scrolls s' g' r → Written (end_row rows columns (page s' g' r)) (r.scrolls + 1) s'' g'' e
      → Written (print_byte rows columns v b (page t f p)) (p.scrolls + 2) s'' g'' e
  unfolding print_byte
  byte_printed w u x = record {
    page = x.page ∙ ap (end_row rows columns) (u.page ∙ ap (write_cell columns v b) w.page);
    flags = x.flags;
    scrolls = omega (arith, w.scrolls, u.scrolls, x.scrolls);
  }

  module _ (c : ℕ) where
    first_of_pair : {k j : ℕ} {s g s' g' : List ℕ} {q r : Place} → 128 ≤ b → Ready rows columns 1 t f p → Written (wrap rows columns v b (page t f p)) k s g q
        → Written (write_cell columns v b (page s g q)) j s' g' r → Ready rows columns 1 s' g' r
    first_of_pair {s = s} {g} {q = q} h d w u = after_cell rows columns s g q v b (after_wrap_pair rows columns t f p v b h d w) u

    pub cell_of_pair : {k j : ℕ} {s g s' g' : List ℕ} {q r : Place} → 128 ≤ b → Ready rows columns 1 t f p → Written (wrap rows columns v b (page t f p)) k s g q
        → Written (write_cell columns v b (page s g q)) j s' g' r → Cell columns s' g' r
    cell_of_pair {s' = s'} {g'} {r = r} h d w u = has_cell rows columns s' g' r (first_of_pair h d w u)

    pub ready_after_pair : {k j i : ℕ} {s g s' g' s'' g'' : List ℕ} {q r e : Place} → 128 ≤ b → Ready rows columns 1 t f p
        → Written (wrap rows columns v b (page t f p)) k s g q → Written (write_cell columns v b (page s g q)) j s' g' r
        → Written (write_cell columns v c (page s' g' r)) i s'' g'' e → Ready rows columns 0 s'' g'' e
    ready_after_pair {s' = s'} {g'} {r = r} h d w u x = after_cell rows columns s' g' r v c (first_of_pair h d w u) x

    pub pair_printed : {s g s' g' s'' g'' s''' g''' : List ℕ} {q r e o : Place} → Written (wrap rows columns v b (page t f p)) (p.scrolls + 1) s g q
        → Written (write_cell columns v b (page s g q)) q.scrolls s' g' r → Written (write_cell columns v c (page s' g' r)) r.scrolls s'' g'' e
        → Written (end_row rows columns (page s'' g'' e)) (e.scrolls + 1) s''' g''' o
        → Written (print_pair rows columns v b c (page t f p)) (p.scrolls + 2) s''' g''' o
    unfolding print_pair
    pair_printed w u x y = record {
      page = y.page ∙ ap (end_row rows columns) (x.page ∙ ap (write_cell columns v c) (u.page ∙ ap (write_cell columns v b) w.page));
      flags = y.flags;
      scrolls = omega (arith, w.scrolls, u.scrolls, x.scrolls, y.scrolls);
    }

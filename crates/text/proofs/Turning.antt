-- The turns of a text's loop, the clearing after it, and the scrolls of the screen.
use Rattle.std.proofs.Common.{◌≡◌, refl, sym, ap, ◌∙◌, Bool, true, false, ◌&&◌, List, ℕ, ◌+◌, ◌-◌, ◌*◌, ◌<◌, ◌≤◌, min, arith, leb, ltb, length, get_or, set, drop, length-set, leb-true, ltb-true, le-leb, eq-eqb, ne_eqb}
use borrow.Author.Tests.{lt-leb}
use Rattle.model.specs.Flags.{flags_in}
use Rattle.model.specs.Print.{Page, print_byte, print_pair, print_bytes, scrolled, scrolled_times, clear_until, clear_from, clear_after, print_on}
use Rattle.laws.specs.Tests.{and-true}
use Rattle.laws.specs.Pages.{times_most, length-clear, byte_sheet, pair_sheet, bytes_sheet, byte_turn, pair_turn, bytes_end, until_start, until_turn, until_end}
use Rattle.text.specs.declared.page.Place.{Place}
use Rattle.text.specs.declared.print.Turn.{Turn}
use Rattle.text.specs.Written.{page, Ready, Written}
use Rattle.text.specs.Printed.{Printed}
use Rattle.text.proofs.Writing.{has_cell}

-- ---- a turn: a byte >= 128 that isn't the last takes the next with it

module _ (bs : List ℕ) (i : ℕ) where
  pub takes-next : 128 ≤ get_or bs i 0 → ltb (i + 1) (length bs) ≡ true → (leb 128 (get_or bs i 0) && ltb (i + 1) (length bs)) ≡ true
  takes-next h e = rw (le-leb 128 (get_or bs i 0) h) e

  pub last_alone : 128 ≤ get_or bs i 0 → ltb (i + 1) (length bs) ≡ false → (leb 128 (get_or bs i 0) && ltb (i + 1) (length bs)) ≡ false
  last_alone h e = rw (le-leb 128 (get_or bs i 0) h) e

  pub low_alone : get_or bs i 0 < 128 → (leb 128 (get_or bs i 0) && ltb (i + 1) (length bs)) ≡ false
  low_alone h = rw (lt-leb 128 (get_or bs i 0) h)

module _ (rows columns : ℕ) (t f : List ℕ) (p : Place) (bs : List ℕ) (i : ℕ) (v : Bool) where
  pub pair_taken : {s g : List ℕ} {q : Place} → Ready rows columns 1 t f p → (leb 128 (get_or bs i 0) && ltb (i + 1) (length bs)) ≡ true
      → Written (print_pair rows columns v (get_or bs i 0) (get_or bs (i + 1) 0) (page t f p)) (p.scrolls + 2) s g q
      → Printed rows columns v bs i t f p s g (record { place = q; at = i + 2 })
  pair_taken r e w =
      let a = and-true (leb 128 (get_or bs i 0)) (ltb (i + 1) (length bs)) e in
      let h = leb-true 128 (get_or bs i 0) a.0 in
      let l = ltb-true (i + 1) (length bs) a.1 in
      record {
        ready = record { sheet = rw w.page (pair_sheet rows columns v (get_or bs i 0) (get_or bs (i + 1) 0) (page t f p) h r.sheet); flags = w.flags };
        more = omega arith;
        within = omega arith;
        scrolls = w.scrolls;
        rest = pair_turn rows columns v bs i (page t f p) e ∙ ap (print_bytes rows columns v (drop (i + 2) bs)) (sym w.page);
      }

  pub byte_taken : {s g : List ℕ} {q : Place} → Ready rows columns 1 t f p → i < length bs → (leb 128 (get_or bs i 0) && ltb (i + 1) (length bs)) ≡ false
      → Written (print_byte rows columns v (get_or bs i 0) (page t f p)) (p.scrolls + 2) s g q
      → Printed rows columns v bs i t f p s g (record { place = q; at = i + 1 })
  byte_taken r l e w = record {
    ready = record { sheet = rw w.page (byte_sheet rows columns v (get_or bs i 0) (page t f p) r.sheet); flags = w.flags };
    more = omega arith;
    within = omega arith;
    scrolls = w.scrolls;
    rest = byte_turn rows columns v bs i (page t f p) l e ∙ ap (print_bytes rows columns v (drop (i + 1) bs)) (sym w.page);
  }

-- what is left prints the same
pub same_rest : (rows columns : ℕ) (v : Bool) (bs : List ℕ) (i : ℕ) (t f s g : List ℕ) (p : Place) (e : Turn) {q : Page} → Printed rows columns v bs i t f p s g e
    → print_bytes rows columns v (drop i bs) (page t f p) ≡ q → print_bytes rows columns v (drop e.at bs) (page s g e.place) ≡ q
same_rest rows columns v bs i t f s g p e k h = sym k.rest ∙ h

-- all are printed
module _ (rows columns : ℕ) (v : Bool) (bs : List ℕ) (t f s g : List ℕ) (p q : Place) where
  pub all-printed : (i : ℕ) → length bs ≤ i → Ready rows columns 1 s g q → q.scrolls ≤ 2 * length bs
      → print_bytes rows columns v (drop i bs) (page s g q) ≡ print_bytes rows columns v bs (page t f p)
      → Written (print_bytes rows columns v bs (page t f p)) (2 * length bs) s g q
  all-printed i h r l e = record { page = sym (bytes_end rows columns v bs i (page s g q) h) ∙ e; flags = r.flags; scrolls = l }

-- ---- the clearing

pub clear_start : (at : ℕ) (t : List ℕ) → clear_until (length (set t at 0) - (at + 1)) (at + 1) (set t at 0) ≡ clear_from at t
clear_start at t = ap (λ (n : ℕ). clear_until (n - (at + 1)) (at + 1) (set t at 0)) (length-set t at 0) ∙ until_start at t

pub clear_turn : (n i : ℕ) (t : List ℕ) → i < n → (get_or t i 0 ≡ 0 → ⊥) → clear_until (n - (i + 1)) (i + 1) (set t i 0) ≡ clear_until (n - i) i t
clear_turn n i t l e = until_turn n i t l refl (rw (ne_eqb (get_or t i 0) 0 e))

pub clear_stop : (n i : ℕ) (t : List ℕ) → get_or t i 0 ≡ 0 → clear_until n i t ≡ t
clear_stop n i t e = until_end n i t refl (rw (eq-eqb (get_or t i 0) 0 e))

pub clear_over : (n i : ℕ) (t : List ℕ) → n ≤ i → clear_until (n - i) i t ≡ t
unfolding clear_until
clear_over n i t l = let q : n - i ≡ 0 = omega arith in rw q

-- ---- the screen

pub screen_scrolled : (n rows k : ℕ) (s : List ℕ) {g : ℕ} {d : List ℕ} → length s ≡ rows * k → 0 < rows → g ≡ min n rows → d ≡ scrolled (g * k) 0 s
    → d ≡ scrolled_times n k s
screen_scrolled n rows k s e h f q = q ∙ ap (λ (x : ℕ). scrolled (x * k) 0 s) f ∙ sym (times_most n rows k s e h)

-- ---- the whole text

module _ (rows columns : ℕ) (v : Bool) (bs t f : List ℕ) (p : Place) {k : ℕ} {s g : List ℕ} {q : Place} (w : Written (print_bytes rows columns v bs (page t f p)) k s g q) where
  pub cell_after : Ready rows columns 1 t f p → q.row * columns + q.column < length s
  cell_after r =
      let e : Ready rows columns 1 s g q = record { sheet = rw w.page (bytes_sheet rows columns v bs (page t f p) r.sheet); flags = w.flags } in
      (has_cell rows columns s g q e).text

  pub text-printed : {d : List ℕ} → d ≡ clear_from (q.row * columns + q.column) s → Written (print_on rows columns v bs (page t f p)) k d g q
  unfolding print_on clear_after
  text-printed {d} e =
      let k : length d ≡ length s = ap length e ∙ length-clear (q.row * columns + q.column) s in
      record {
        page = (λ i. record { text = e i; flags = flags_in (k i) g; row = q.row; column = q.column; scrolls = q.scrolls }) ∙ ap (clear_after columns) w.page;
        flags = rw k w.flags;
        scrolls = w.scrolls;
      }

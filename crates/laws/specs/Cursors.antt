-- The cursor: where it stands, which one a blink inverts, and which one is shown afterwards.
use Rattle.std.specs.Prelude.{◌≡◌, refl, true, List, ℕ, ◌+◌, ◌-◌, ◌*◌, ◌<◌, ◌≤◌, eqb, leb, get_or}
use Rattle.std.proofs.Common.{sym, arith, get_or-take, get_or-drop, eq-eqb, ne_eqb, le-leb}
use Rattle.std.proofs.Math.Arith.{digits_lt}
use Rattle.std.proofs.lemmas.Bool.{lt-leb}
use Rattle.model.specs.declared.Edge.{Edge}
use Rattle.model.specs.declared.Edge.TheVariants.{Clamp, Stop}
use Rattle.model.specs.declared.DrawMode.TheVariants.{Xor}
use Rattle.model.specs.declared.Head.{Head}
use Rattle.model.specs.Geometry.{Geometry, glyph_height, columns, cells}
use Rattle.model.specs.Glass.{IsGlass}
use Rattle.model.specs.Memory.{window}
use Rattle.model.specs.Marks.{drawn_on}
use Rattle.model.specs.Boxes.{box}
use Rattle.model.specs.Cursor.{cursor_for, blink_of, blink_next, cursor_box, under_cursor}
use Rattle.laws.specs.Tests.{if_cases, tests}
use Rattle.laws.specs.Record.{Numbers}
use Rattle.laws.specs.Boxes.{box_either}

-- ---- where it stands

module _ {g : Geometry} {h : Head} (n : Numbers g h) where
  pub cell_of : h.row * columns g + h.column < cells g
  cell_of = digits_lt {r = h.column} {c = columns g} n.row n.column

  -- the cell's byte in memory
  pub byte_of : (m : List ℕ) → get_or m (h.text + (h.row * columns g + h.column)) 0 ≡ under_cursor g h m
  unfolding window
  byte_of m = let l = cell_of in rw (get_or-take, get_or-drop)

  -- its box has bytes as coordinates
  pub box_bottom : IsGlass g → glyph_height * h.row + glyph_height ≤ 256
  box_bottom z = omega (arith, n.row, z.filled, z.high)

  pub box_right : IsGlass g → 8 * h.column + 16 ≤ 256
  box_right z = omega (arith, n.column, z.cursor)

-- with the right end as a byte: the box's width may be 256
pub is_cursor_box : (st y : ℕ) (edge : Edge) (row column cursor : ℕ) (s : List ℕ) → 1 ≤ cursor
    → drawn_on st y (box st y edge (8 * column) (glyph_height * row) (8 * column + (8 * cursor - 1)) (glyph_height * row + (glyph_height - 1)) true Xor) s ≡ drawn_on st y (cursor_box st y edge row column cursor) s
unfolding cursor_box
is_cursor_box st y edge row column cursor s h = let e : 8 * column + (8 * cursor - 1) ≡ 8 * column + 8 * cursor - 1 = omega arith in rw e

-- it is the same with both edge flags: it stands on the screen, and what a full one has beyond the last column is not drawn clamped either
pub cursor_either : (st h : ℕ) (edge : Edge) (row column cursor : ℕ) (s : List ℕ) → 1 ≤ cursor → column < st → glyph_height * row + glyph_height ≤ h
    → drawn_on st h (cursor_box st h Clamp row column cursor) s ≡ drawn_on st h (cursor_box st h edge row column cursor) s
unfolding cursor_box box
cursor_either st h Clamp row column cursor s a b c = refl
cursor_either st h Stop row column cursor s a b c = sym (box_either st h _ _ _ _ Xor (omega arith) (omega arith) (omega arith) (omega arith) true s)

-- ---- which it is

pub is_full : (b : ℕ) → 128 ≤ b → 2 ≡ cursor_for b
unfolding cursor_for
is_full b h = rw (le-leb 128 b h)

pub is_half : (b : ℕ) → b < 128 → 1 ≡ cursor_for b
unfolding cursor_for
is_half b h = rw (lt-leb 128 b h)

for_fits : (b : ℕ) → (1 ≤ cursor_for b) × (cursor_for b ≤ 2)
unfolding cursor_for
for_fits b = if_cases (λ (n : ℕ). (1 ≤ n) × (n ≤ 2)) (leb 128 b) {x = 2} {y = 1} (λ e. omega arith) (λ e. omega arith)

-- the one that a blink inverts
pub blink_new : (cursor b : ℕ) {k : ℕ} → cursor ≡ 0 → k ≡ cursor_for b → k ≡ blink_of cursor b
unfolding blink_of
blink_new cursor b z e = rw (eq-eqb cursor 0 z) e

pub blink_old : (cursor b : ℕ) → (cursor ≡ 0 → ⊥) → cursor ≡ blink_of cursor b
unfolding blink_of
blink_old cursor b z = rw (ne_eqb cursor 0 z)

pub blink_fits : (cursor b : ℕ) {k : ℕ} → cursor ≤ 2 → k ≡ blink_of cursor b → (1 ≤ k) × (k ≤ 2)
unfolding blink_of
blink_fits cursor b h e = rw e (if_cases (λ (n : ℕ). (1 ≤ n) × (n ≤ 2)) (eqb cursor 0) (λ t. for_fits b) (λ t. omega (arith, tests)))

-- the one that is shown afterwards
pub next_new : (cursor b : ℕ) {k : ℕ} → cursor ≡ 0 → k ≡ cursor_for b → k ≡ blink_next cursor b
unfolding blink_next
next_new cursor b z e = rw (eq-eqb cursor 0 z) e

pub next-none : (cursor b : ℕ) → (cursor ≡ 0 → ⊥) → 0 ≡ blink_next cursor b
unfolding blink_next
next-none cursor b z = rw (ne_eqb cursor 0 z)

pub next_most : (cursor b : ℕ) → blink_next cursor b ≤ 2
unfolding blink_next
next_most cursor b = if_cases (λ (n : ℕ). n ≤ 2) (eqb cursor 0) {y = 0} (λ e. (for_fits b).1) (λ e. omega arith)

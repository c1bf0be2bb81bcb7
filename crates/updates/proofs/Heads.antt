-- Bytes of the head stored in a record that passes: each store is an update of the head.
use Rattle.std.proofs.Common.{◌≡◌, List, ℕ, length, length-set, set, refl}
use Rattle.model.specs.declared.Rect.{Rect}
use Rattle.model.specs.Glass.{glass_of}
use Rattle.model.specs.Memory.{with_window}
use Rattle.model.specs.Bytes.{rect_bytes}
use Rattle.model.specs.Record.{written, part_bytes, encode}
use Rattle.model.specs.Marks.{with_dirty}
use Rattle.model.specs.Text.{with_row, with_column, at_place, with_screen_mode, with_cursor}
use Rattle.laws.specs.Record.{Passing}
use Rattle.laws.specs.Updates.{in_head}
use Rattle.updates.specs.Update.{updated, on_head}

pub same_length : (r : List ℕ) (i v : ℕ) → length (set r i v) ≡ length r
same_length r i v = length-set r i v

module _ {r : List ℕ} (p : Passing (glass_of (length r)) r) where
  pub row_set : (row : ℕ) → set r 4 row ≡ updated (on_head (with_row row)) r
  unfolding updated encode written part_bytes with_window
  row_set row = in_head (glass_of (length r)) r p (λ (x : List ℕ). set x 4 row) (with_row row) refl

  pub column_set : (column : ℕ) → set r 5 column ≡ updated (on_head (with_column column)) r
  unfolding updated encode written part_bytes with_window
  column_set column = in_head (glass_of (length r)) r p (λ (x : List ℕ). set x 5 column) (with_column column) refl

  pub place_set : (row column : ℕ) → set (set r 4 row) 5 column ≡ updated (on_head (at_place row column)) r
  unfolding updated encode written part_bytes with_window
  place_set row column = in_head (glass_of (length r)) r p (λ (x : List ℕ). set (set x 4 row) 5 column) (at_place row column) refl

  pub first_place_set : (mode : ℕ) → set (set (set r 4 0) 5 0) 6 mode ≡ updated (on_head (λ h. at_place 0 0 (with_screen_mode mode h))) r
  unfolding updated encode written part_bytes with_window
  first_place_set mode =
      in_head (glass_of (length r)) r p (λ (x : List ℕ). set (set (set x 4 0) 5 0) 6 mode) (λ h. at_place 0 0 (with_screen_mode mode h)) refl

  pub cursor_set : (cursor : ℕ) → set r 8 cursor ≡ updated (on_head (with_cursor cursor)) r
  unfolding updated encode written part_bytes with_window
  cursor_set cursor = in_head (glass_of (length r)) r p (λ (x : List ℕ). set x 8 cursor) (with_cursor cursor) refl

  pub dirty_set : (q : Rect) → with_window 10 (rect_bytes q) r ≡ updated (on_head (with_dirty q)) r
  unfolding updated encode written part_bytes with_window
  dirty_set q = in_head (glass_of (length r)) r p (λ (x : List ℕ). with_window 10 (rect_bytes q) x) (with_dirty q) refl

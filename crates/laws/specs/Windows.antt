-- What is read from a window of bytes is read from them at its place: so code reads each part where it stands.
use Rattle.std.specs.Prelude.{◌≡◌, List, ℕ, ◌+◌, ◌-◌, ◌*◌, get_or, drop}
use Rattle.std.proofs.Common.{arith, add-zero, zero-add, add_assoc, get_or-take, get_or-drop}
use Rattle.model.specs.Geometry.{Geometry}
use Rattle.model.specs.Memory.{window}
use Rattle.model.specs.Bytes.{words_at}
use Rattle.model.specs.Record.{head, panel, keys, edge, offset, at, part_in, pending_bytes, head_of, pending_of, keys_of, edge_byte}
use Rattle.laws.specs.Layout.{Alike, four-alike, rect-alike, rects_alike, words_alike}

window-alike : (a m : ℕ) (r : List ℕ) → Alike m (window a m r) 0 r a
unfolding window
window-alike a m r = record { each = λ k h. rw (zero-add k, get_or-take m (drop a r) k 0 h, get_or-drop a r k 0) }

pub keys_part : (g : Geometry) (r : List ℕ) → keys_of (part_in g keys r) ≡ words_at 8 r (at g keys)
keys_part g r = cc (words_alike (window-alike (at g keys) 32 r) 8 0 (omega arith), add-zero (at g keys))

pub edge_part : (g : Geometry) (r : List ℕ) → edge_byte (part_in g edge r) ≡ get_or r (at g edge) 0
edge_part g r = cc ((window-alike (at g edge) 1 r).each 0 (omega arith), add-zero (at g edge))

pub pending-part : (g : Geometry) (r : List ℕ) (k : ℕ) → pending_of g (part_in g (panel k) r) 0 ≡ pending_of g r (at g (panel k))
pending-part g r k =
    let a = at g (panel k) in
    let n = 8 * g.bands in
    let w = window-alike a (pending_bytes g) r in
    cc (rects_alike w g.bands 0 (omega arith), rect-alike w n (omega arith), four-alike w (n + 8) (omega arith), add-zero a, add_assoc 0 n 8, add_assoc a n 8)

-- k < m, said so that it computes where k is a number
in_window : (m : ℕ) (r : List ℕ) (k : ℕ) → k + 1 - m ≡ 0 → get_or (window 0 m r) k 0 ≡ get_or r k 0
unfolding window
in_window m r k h = get_or-take m r k 0 (omega arith)

pub head_part : (g : Geometry) (r : List ℕ) → head_of (part_in g head r) ≡ head_of r
unfolding offset
head_part g r = simp in_window

-- One text written after another, at places of the bytes that are lent: each has room where both have, and together they are one text.
use Rattle.std.proofs.Common.{◌≡◌, ℕ, ◌+◌, ◌≤◌, List, ◌++◌, length, refl, ap, ◌∙◌, arith, length-append}
use Rattle.model.specs.Memory.{with_window}
use Rattle.laws.specs.Memory.{window_extend, length-with_window}
use Rattle.script_run.specs.Buffers.{Wrote}

pub wrote_length : (at : ℕ) (t o o' : List ℕ) (e : ℕ) → at + length t ≤ length o → Wrote at t o o' e → length o' ≡ length o
wrote_length at t o o' e h w = ap length w.bytes ∙ length-with_window at t o h

pub room_first : (at : ℕ) (s t o : List ℕ) → at + length (s ++ t) ≤ length o → at + length s ≤ length o
room_first at s t o h = omega (arith, length-append s t)

pub room_next : (at : ℕ) (s t o o' : List ℕ) (e : ℕ) → at + length (s ++ t) ≤ length o → Wrote at s o o' e → e + length t ≤ length o'
room_next at s t o o' e h w = omega (arith, length-append s t, wrote_length at s o o' e (room_first at s t o h) w, w.end)

pub wrote_more : (at : ℕ) (s t o o' o'' : List ℕ) (e f : ℕ) → at ≤ length o → Wrote at s o o' e → Wrote e t o' o'' f → Wrote at (s ++ t) o o'' f
wrote_more at s t o o' o'' e f h a b = record {
  bytes = b.bytes ∙ ap (λ (k : ℕ). with_window k t o') a.end ∙ ap (with_window (at + length s) t) a.bytes ∙ window_extend at (length s) s t o refl h;
  end = omega (arith, a.end, b.end, length-append s t);
}

pub wrote_then : (at : ℕ) (s t o o' o'' : List ℕ) (e f : ℕ) → at + length (s ++ t) ≤ length o → Wrote at s o o' e → Wrote e t o' o'' f → Wrote at (s ++ t) o o'' f
wrote_then at s t o o' o'' e f h a b = wrote_more at s t o o' o'' e f (omega arith) a b

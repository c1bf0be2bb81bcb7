-- A record with another state, for the glass that its length tells.
use Rattle.std.specs.Prelude.{List, ℕ, length}
use Rattle.model.specs.declared.Head.{Head}
use Rattle.model.specs.Geometry.{Geometry}
use Rattle.model.specs.Glass.{glass_of}
use Rattle.model.specs.Record.{State, decode, encode, with_head}

unfoldable pub updated : (Geometry → State → State) → List ℕ → List ℕ
updated f r = encode (glass_of (length r)) (f (glass_of (length r)) (decode (glass_of (length r)) r))

-- another head
abbrev pub on_head : (Head → Head) → Geometry → State → State
on_head f g s = with_head (f s.head) s

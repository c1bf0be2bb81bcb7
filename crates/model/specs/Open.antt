-- Open and reset: what `new` and `reset` of the reference do.
use Rattle.std.specs.Prelude.{Bool, false, cond, ◌&&◌, List, map, ℕ, zero, suc, ◌/◌, ◌%◌, ltb, get_or, set, replicate}
use Rattle.model.specs.declared.Head.{Head}
use Rattle.model.specs.Geometry.{Geometry, height, cells, memory_bytes}
use Rattle.model.specs.Bits.{bit_at}
use Rattle.model.specs.Rects.{none}
use Rattle.model.specs.Memory.{zeros}
use Rattle.model.specs.Record.{Pending, State, nothing_pending}
use Rattle.model.specs.Marks.{whole, owing}

-- a is a key address: bit a mod 32 of word a div 32
unfoldable pub is_key : List ℕ → ℕ → Bool
is_key keys a = ltb a 256 && bit_at (get_or keys (a / 32) 0) (a % 32)

-- 0xff at each key address below n
unfoldable pub with_keys : List ℕ → ℕ → List ℕ → List ℕ
with_keys keys zero m = m
with_keys keys (suc n) m = cond (is_key keys n) (set (with_keys keys n m) n 255) (with_keys keys n m)

-- zero, but 0x40 at the last byte and 0xff at each key address
unfoldable pub clear_memory : List ℕ → List ℕ
clear_memory keys = with_keys keys 256 (set (zeros memory_bytes) 65535 64)

-- row, column, modes, cursor and dirty as `reset` leaves them
abbrev pub clear_head : ℕ → ℕ → ℕ → Head
clear_head graphics text version = record {
  graphics = graphics;
  text = text;
  row = 0;
  column = 0;
  screen = 0;
  print = 0;
  cursor = 0;
  version = version;
  dirty = none;
}

abbrev pub clear_flags : Geometry → List Bool
clear_flags g = replicate (cells g) false

-- nothing in hand, nothing sent, the whole screen owed
unfoldable pub open_pending : Geometry → Pending
open_pending g = owing g (whole g.stride (height g)) (nothing_pending g)

unfoldable pub open_state : Geometry → ℕ → ℕ → ℕ → List ℕ → ℕ → State
open_state g graphics text version keys edge = record {
  head = clear_head graphics text version;
  panels = replicate g.panels (open_pending g);
  keys = keys;
  flags = clear_flags g;
  edge = edge;
}

-- bases, version, keys, edge flag, each panel's rectangle in hand and lines sent are kept; the whole screen is owed to each
unfoldable pub reset_state : Geometry → State → State
reset_state g s = record {
  head = clear_head s.head.graphics s.head.text s.head.version;
  panels = map (owing g (whole g.stride (height g))) s.panels;
  keys = s.keys;
  flags = clear_flags g;
  edge = s.edge;
}

-- What the reader's answers mean, in the terms of the definition.
use Rattle.std.specs.Prelude.{List, ℕ, Option, None, Some}
use denote.Ref.{Bor}
use Rattle.model.specs.Shapes.{point, line}
use Rattle.model.specs.Calls.{draw, write_byte, send}
use Rattle.model.specs.Script.Read.{Taken, took_none, took, Match, unmatched, matched_with, ScriptLine, call_line, bad_line}
use Rattle.script.specs.declared.Form.{Form}
use Rattle.script.specs.declared.Form.TheVariants.{Point, Line, Poke, Send, Bad}

-- a number, and what is left of the line behind it
abbrev pub number_of : ℕ × Bor (List ℕ) → Taken
number_of n = took n.0 n.1.now

-- such a number, or nothing
abbrev pub taken_of : Option (ℕ × Bor (List ℕ)) → Taken
taken_of None = took_none
taken_of (Some n) = number_of n

-- the numbers that a line gave, where it has a pattern's spelling
abbrev pub match_of : Option (List ℕ) → Match
match_of None = unmatched
match_of (Some fs) = matched_with fs

unfoldable pub meaning : Form → ScriptLine
meaning (Point x y m) = call_line (draw (point x y m))
meaning (Line x y z w m) = call_line (draw (line x y z w m))
meaning (Poke a v) = call_line (write_byte a v)
meaning Send = call_line (send 0)
meaning Bad = bad_line

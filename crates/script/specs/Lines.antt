-- The lines of a script from a place on, and how long the first is.
use Rattle.std.specs.Prelude.{cond, List, [], ◌∷◌, map, ℕ, suc, eqb, drop, Option, None, Some}
use denote.Ref.{Bor}
use Prim.Native.Char.{code}
use Rattle.model.specs.Script.Read.{script_lines, ScriptLine, read_line}

-- how long the first line is, its newline not counted
unfoldable pub line_length : List ℕ → ℕ
line_length [] = 0
line_length (b ∷ s) = cond (eqb b (code "\n")) 0 (suc (line_length s))

unfoldable pub lines_from : ℕ → List ℕ → List (List ℕ)
lines_from at s = script_lines (drop at s)

-- what the lines from a place on say
abbrev pub reads_from : ℕ → List ℕ → List ScriptLine
reads_from at s = map read_line (lines_from at s)

-- the line that stands at a place, if one does
abbrev pub line_of : Option (Bor (List ℕ)) → List (List ℕ)
line_of None = []
line_of (Some l) = l.now ∷ []

-- Scripts, first stage: `read_script` gives for each line of a script the call that it names, or `bad_line` where no form fits.
-- A form is a pattern, whose bytes stand for themselves, but `#` for a number 0-255, `@` for a number 0-65,535 and `*` for a mode.
use Rattle.std.specs.Prelude.{Bool, cond, ◌&&◌, ◌||◌, List, [], ◌∷◌, map, ℕ, ◌+◌, ◌-◌, ◌*◌, ltb, leb, eqb, get_or, take}
use Prim.Native.Char.{code}
use Rattle.model.specs.Characters.{bytes_of}
use Rattle.model.specs.Shapes.{point, line}
use Rattle.model.specs.Calls.{Call, draw, write_byte, send}

-- ---- lines

-- b in front of the first of the lines
unfoldable pub on_first : ℕ → List (List ℕ) → List (List ℕ)
on_first b [] = (b ∷ []) ∷ []
on_first b (l ∷ ls) = (b ∷ l) ∷ ls

-- Each newline ends a line, and the last line may lack it. Nothing after the last newline is no line.
unfoldable pub script_lines : List ℕ → List (List ℕ)
script_lines [] = []
script_lines (b ∷ s) = cond (eqb b (code "\n")) ([] ∷ script_lines s) (on_first b (script_lines s))

-- ---- what one byte of a pattern takes of a line: a number and what is left, or nothing

pub data Taken : Type 0 where
  took_none : Taken
  took : ℕ → List ℕ → Taken

unfoldable pub is_digit : ℕ → Bool
is_digit d = leb (code "0") d && leb d (code "9")

-- v has five digits, or d is none: the number ends before d
unfoldable pub goes_on : ℕ → ℕ → Bool
goes_on v d = is_digit d && ltb v 10000

-- the digits that follow those of v
unfoldable pub take_digits : ℕ → List ℕ → Taken
take_digits v [] = took v []
take_digits v (d ∷ s) = cond (goes_on v d) (take_digits (10 * v + (d - code "0")) s) (took v (d ∷ s))

unfoldable pub at_most : ℕ → Taken → Taken
at_most limit took_none = took_none
at_most limit (took v s) = cond (leb v limit) (took v s) took_none

-- A number with no needless zero: after a 0 in front nothing more is taken. No form has a digit after a number, so a further digit is unreadable.
unfoldable pub take_number : ℕ → List ℕ → Taken
take_number limit [] = took_none
take_number limit (d ∷ s) = cond (is_digit d) (cond (eqb d (code "0")) (took 0 s) (at_most limit (take_digits (d - code "0") s))) took_none

-- the word w, which stands for v
unfoldable pub take_word : ℕ → List ℕ → List ℕ → Taken
take_word v [] s = took v s
take_word v (x ∷ w) [] = took_none
take_word v (x ∷ w) (y ∷ s) = cond (eqb x y) (take_word v w s) took_none

unfoldable pub or_taken : Taken → Taken → Taken
or_taken took_none t = t
or_taken (took v s) t = took v s

unfoldable pub take_mode : List ℕ → Taken
take_mode s =
    or_taken (or_taken (or_taken (take_word 0 (bytes_of "clear") s)
    (take_word 1 (bytes_of "or") s))
    (take_word 2 (bytes_of "xor") s))
    (take_word 3 (bytes_of "unknown") s)

unfoldable pub take_piece : ℕ → List ℕ → Taken
take_piece p s =
    cond (eqb p (code "#")) (take_number 255 s)
    (cond (eqb p (code "@")) (take_number 65535 s)
    (cond (eqb p (code "*")) (take_mode s)
    (take_word 0 (p ∷ []) s)))

-- ---- patterns

-- p stands for a number or a mode
unfoldable pub is_field : ℕ → Bool
is_field p = (eqb p (code "#") || eqb p (code "@")) || eqb p (code "*")

-- the last six numbers that a line gave, the latest first
abbrev pub no_fields : List ℕ
no_fields = 0 ∷ 0 ∷ 0 ∷ 0 ∷ 0 ∷ 0 ∷ []

unfoldable pub with_field : ℕ → ℕ → List ℕ → List ℕ
with_field p v fs = cond (is_field p) (v ∷ take 5 fs) fs

pub data Match : Type 0 where
  unmatched : Match
  matched_with : List ℕ → Match

unfoldable pub and_then : Taken → (ℕ → List ℕ → Match) → Match
and_then took_none k = unmatched
and_then (took v s) k = k v s

-- the line s is spelled as the pattern says, to its end
unfoldable pub matched : List ℕ → List ℕ → List ℕ → Match
matched [] [] fs = matched_with fs
matched [] (x ∷ s) fs = unmatched
matched (p ∷ ps) s fs = and_then (take_piece p s) (λ v t. matched ps t (with_field p v fs))

abbrev pub point_pattern : List ℕ
point_pattern = bytes_of "(point (# #) *)"

abbrev pub line_pattern : List ℕ
line_pattern = bytes_of "(line (# #) (# #) *)"

abbrev pub poke_pattern : List ℕ
poke_pattern = bytes_of "(poke @ #)"

abbrev pub send_pattern : List ℕ
send_pattern = bytes_of "(send)"

-- ---- forms

pub data ScriptLine : Type 0 where
  call_line : Call → ScriptLine
  bad_line : ScriptLine

unfoldable pub if_matched : Match → (List ℕ → ScriptLine) → ScriptLine → ScriptLine
if_matched unmatched f other = other
if_matched (matched_with fs) f other = f fs

abbrev pub point_form : List ℕ → ScriptLine
point_form fs = call_line (draw (point (get_or fs 2 0) (get_or fs 1 0) (get_or fs 0 0)))

abbrev pub line_form : List ℕ → ScriptLine
line_form fs = call_line (draw (line (get_or fs 4 0) (get_or fs 3 0) (get_or fs 2 0) (get_or fs 1 0) (get_or fs 0 0)))

abbrev pub poke_form : List ℕ → ScriptLine
poke_form fs = call_line (write_byte (get_or fs 1 0) (get_or fs 0 0))

-- a script sends to panel 0
abbrev pub send_form : List ℕ → ScriptLine
send_form fs = call_line (send 0)

unfoldable pub read_line : List ℕ → ScriptLine
read_line l =
    if_matched (matched point_pattern l no_fields) point_form
    (if_matched (matched line_pattern l no_fields) line_form
    (if_matched (matched poke_pattern l no_fields) poke_form
    (if_matched (matched send_pattern l no_fields) send_form bad_line)))

unfoldable pub read_script : List ℕ → List ScriptLine
read_script s = map read_line (script_lines s)

-- Scripts, second stage: `run_lines` gives what the lines of a script print, from the state that the program opens with.
use Rattle.std.specs.Prelude.{cond, List, [], ◌∷◌, ◌++◌, ℕ, zero, suc, ◌+◌, ◌/◌, ◌%◌, ltb, eqb, length}
use Prim.Native.Char.{code}
use Rattle.model.specs.Geometry.{base, screen_bytes}
use Rattle.model.specs.Memory.{zeros, screen_of}
use Rattle.model.specs.Record.{panel_of, decode, encode}
use Rattle.model.specs.Open.{open_state, clear_memory}
use Rattle.model.specs.Calls.{Lent, lent, outcome}
use Rattle.model.specs.Lists.{lines_left, differing}
use Rattle.model.specs.Characters.{bytes_of}
use Rattle.model.specs.Script.Read.{ScriptLine, call_line, bad_line, read_script}

-- ---- spelling

-- n in decimal, at most k digits
unfoldable pub spelled : ℕ → ℕ → List ℕ
spelled zero n = []
spelled (suc k) n = cond (ltb n 10) ((code "0" + n) ∷ []) (spelled k (n / 10) ++ ((code "0" + n % 10) ∷ []))

-- no number of 32 bits has more than ten digits
abbrev pub decimal : ℕ → List ℕ
decimal n = spelled 10 n

-- a space and a number, for each number
unfoldable pub spaced : List ℕ → List ℕ
spaced [] = []
spaced (n ∷ ns) = code " " ∷ (decimal n ++ spaced ns)

-- a line of print: a word and numbers in brackets
unfoldable pub printed : List ℕ → List ℕ → List ℕ
printed w ns = code "(" ∷ (w ++ (spaced ns ++ bytes_of ")\n"))

-- ---- answers

-- What a call's code and numbers print. Only a send answers numbers. No form that is read names a call that is refused.
unfoldable pub said : ℕ → List ℕ → List ℕ
said zero [] = printed (bytes_of "done") []
said zero (sent ∷ ns) = cond (eqb sent 1) (printed (bytes_of "sent") ns) (printed (bytes_of "idle") [])
said (suc k) ns = printed (bytes_of "refused") (suc k ∷ [])

-- what line n prints, and what it leaves
unfoldable pub line_prints : ℕ → ScriptLine → Lent → List ℕ
line_prints n bad_line l = printed (bytes_of "bad") (n ∷ [])
line_prints n (call_line c) l = said (outcome base c l).code (outcome base c l).numbers

unfoldable pub line_leaves : ScriptLine → Lent → Lent
line_leaves bad_line l = l
line_leaves (call_line c) l = (outcome base c l).left

abbrev pub graphics_base : ℕ
graphics_base = 4096

abbrev pub text_base : ℕ
text_base = 8192

-- no keys
abbrev pub no_keys : List ℕ
no_keys = 0 ∷ 0 ∷ 0 ∷ 0 ∷ 0 ∷ 0 ∷ 0 ∷ 0 ∷ []

-- opened with V2, no keys, lines that are clamped and a zero panel, which is panel 0
unfoldable pub opened : Lent
opened = lent (encode base (open_state base graphics_base text_base 1 no_keys 0)) (clear_memory no_keys) (zeros (screen_bytes base))

-- (end d l): differing pixels, then L, both of panel 0
unfoldable pub ending : Lent → List ℕ
ending l = printed (bytes_of "end") (differing base (screen_of base graphics_base l.memory) l.panel ∷ lines_left (panel_of base (decode base l.rec) 0) ∷ [])

-- the lines from line n on
unfoldable pub run_lines_from : ℕ → List ScriptLine → Lent → List ℕ
run_lines_from n [] l = ending l
run_lines_from n (x ∷ xs) l = line_prints n x l ++ run_lines_from (n + 1) xs (line_leaves x l)

unfoldable pub run_lines : List ScriptLine → Lent → List ℕ
run_lines xs l = run_lines_from 1 xs l

-- ---- the whole text that a script prints

-- a longer script is not read
abbrev pub longest : ℕ
longest = 4096

unfoldable pub script_text : List ℕ → List ℕ
script_text s = cond (ltb longest (length s)) (printed (bytes_of "long") []) (run_lines (read_script s) opened)

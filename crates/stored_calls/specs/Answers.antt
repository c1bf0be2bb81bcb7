-- What is printed of an answer: its code, then its numbers.
use Rattle.std.specs.Prelude.{ℕ, List, [], ◌∷◌, ◌++◌}
use Rattle.std.specs.Fmt.{decimal}
use Rattle.stored_calls.specs.declared.answer.Answer.{Answer}

-- each number in decimal, behind a space
abbrev pub spaced : List ℕ → List ℕ
spaced [] = []
spaced (n ∷ ns) = 32 ∷ (decimal n ++ spaced ns)

abbrev pub text_of : Answer → List ℕ
text_of a = decimal a.code ++ spaced a.numbers

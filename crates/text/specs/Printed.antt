-- One turn of `print`: a byte, or a pair, of a text has been printed.
use Rattle.std.specs.Prelude.{◌≡◌, Bool, List, ℕ, ◌+◌, ◌<◌, ◌≤◌, length, drop}
use Rattle.model.specs.Print.{print_bytes}
use Rattle.text.specs.declared.page.Place.{Place}
use Rattle.text.specs.declared.print.Turn.{Turn}
use Rattle.text.specs.Written.{page, Ready}

-- what was left from byte i on and what is left now print the same
pub record Printed (rows columns : ℕ) (v : Bool) (bs : List ℕ) (i : ℕ) (t f : List ℕ) (p : Place) (t' f' : List ℕ) (s : Turn) : Type 0 where
  pub ready : Ready rows columns 1 t' f' s.place
  pub more : i < s.at
  pub within : s.at ≤ length bs
  pub scrolls : s.place.scrolls ≤ p.scrolls + 2
  pub rest : print_bytes rows columns v (drop i bs) (page t f p) ≡ print_bytes rows columns v (drop s.at bs) (page t' f' s.place)

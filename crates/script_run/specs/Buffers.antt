-- What the printing functions and the run say of the bytes that they are lent.
use Rattle.std.specs.Prelude.{◌≡◌, List, ℕ, ◌+◌, ◌≤◌, length}
use Rattle.model.specs.Geometry.{base, memory_bytes, screen_bytes}
use Rattle.model.specs.Memory.{with_window}
use Rattle.model.specs.Record.{record_bytes}
use Rattle.model.specs.Calls.{Lent}
use Rattle.model.specs.Script.Read.{ScriptLine}
use Rattle.model.specs.Script.Output.{line_prints, line_leaves}
use Rattle.script_run.specs.declared.output.Output.{Output}

-- text t stands at a place, all else of the output is as it was, and e is the place after it
pub record Wrote (at : ℕ) (t o o' : List ℕ) (e : ℕ) : Type 0 where
  pub bytes : o' ≡ with_window at t o
  pub end : e ≡ at + length t

-- text t fits behind what is written
abbrev pub HasRoom : List ℕ → Output → Type 0
HasRoom t o = o.at + length t ≤ length o.out.now

-- text t is written behind what was, into the same lent bytes
pub record Appended (t : List ℕ) (o o' : Output) : Type 0 where
  pub wrote : Wrote o.at t o.out.now o'.out.now o'.at
  pub same_bytes : o'.out.ghost_name ≡ o.out.ghost_name

-- the buffers that a script runs on
pub record BuffersSized (r m p : List ℕ) : Type 0 where
  pub rec : length r ≡ record_bytes base
  pub memory : length m ≡ memory_bytes
  pub panel : length p ≡ screen_bytes base

-- line n is answered: what it prints is written, and what it leaves stands
pub record Answered (n : ℕ) (x : ScriptLine) (o : Output) (l : Lent) (o' : Output) (l' : Lent) : Type 0 where
  pub printed : Appended (line_prints n x l) o o'
  pub left : l' ≡ line_leaves x l

-- no script prints more bytes: 40 for each of 4,096 lines, and the last line (`text-le`, proofs/Sizing.antt)
abbrev pub longest_text : ℕ
longest_text = 163868

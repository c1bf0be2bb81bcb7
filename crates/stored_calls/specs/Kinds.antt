-- The kinds of stored calls by their numbers (compare/calls/src/call.rs, `NAMES`).
use Rattle.std.specs.Prelude.{◌≡◌, ℕ, Result, MatchResult}
use Rattle.stored_calls.specs.declared.call.Kind.{Kind}
use Rattle.stored_calls.specs.declared.call.Kind.TheVariants as kinds
use Rattle.stored_calls.specs.declared.call.NotReplayed.{NotReplayed}

abbrev pub number_of : Kind → ℕ
number_of kinds.Open = 0
number_of kinds.Reset = 1
number_of kinds.DrawPoint = 2
number_of kinds.DrawLine = 3
number_of kinds.DrawBox = 4
number_of kinds.DrawCircle = 5
number_of kinds.DrawEllipse = 6
number_of kinds.CheckPoint = 7
number_of kinds.PaintBitmap = 8
number_of kinds.Print = 9
number_of kinds.Newline = 10
number_of kinds.Cls = 11
number_of kinds.Flush = 12
number_of kinds.GetRow = 13
number_of kinds.GetColumn = 14
number_of kinds.SetRow = 15
number_of kinds.SetColumn = 16
number_of kinds.SetScreenMode = 17
number_of kinds.SetPrintMode = 18
number_of kinds.BlinkCursor = 19
number_of kinds.ClearCursor = 20
number_of kinds.WriteByte = 21
number_of kinds.TakeDirtyArea = 22
number_of kinds.PaintBitmapByBytes = 24

-- the kind with this number, or the number itself where no kind has it
abbrev pub Decodes : ℕ → Result Kind NotReplayed → Type 0
Decodes n r = MatchResult r (λ kind. number_of kind ≡ n) (λ e. (e.0 ≡ n) × ((kind : Kind) → number_of kind ≡ n → ⊥))

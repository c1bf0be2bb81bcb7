-- Numbers and rectangles in bytes, least byte first.
use Rattle.std.specs.Prelude.{List, [], ◌∷◌, ◌++◌, ℕ, zero, suc, ◌+◌, ◌*◌, ◌/◌, ◌%◌, ◌<◌, get_or}
use Rattle.model.specs.Rects.{Rect}

-- ---- bytes to numbers

abbrev pub two : List ℕ → ℕ → ℕ
two r i = get_or r i 0 + 256 * get_or r (i + 1) 0

abbrev pub four : List ℕ → ℕ → ℕ
four r i = two r i + 65536 * two r (i + 2)

abbrev pub rect_at : List ℕ → ℕ → Rect
rect_at r i = record { left = two r i; top = two r (i + 2); right = two r (i + 4); bottom = two r (i + 6) }

abbrev pub rects_at : ℕ → List ℕ → ℕ → List Rect
rects_at zero r i = []
rects_at (suc n) r i = rect_at r i ∷ rects_at n r (i + 8)

abbrev pub words_at : ℕ → List ℕ → ℕ → List ℕ
words_at zero r i = []
words_at (suc n) r i = four r i ∷ words_at n r (i + 4)

-- ---- numbers to bytes

abbrev pub two_bytes : ℕ → List ℕ
two_bytes n = n % 256 ∷ n / 256 % 256 ∷ []

abbrev pub four_bytes : ℕ → List ℕ
four_bytes n = n % 256 ∷ n / 256 % 256 ∷ n / 65536 % 256 ∷ n / 16777216 % 256 ∷ []

abbrev pub rect_bytes : Rect → List ℕ
rect_bytes q = two_bytes q.left ++ two_bytes q.top ++ two_bytes q.right ++ two_bytes q.bottom

abbrev pub rects_bytes : List Rect → List ℕ
rects_bytes [] = []
rects_bytes (q ∷ qs) = rect_bytes q ++ rects_bytes qs

abbrev pub words_bytes : List ℕ → List ℕ
words_bytes [] = []
words_bytes (w ∷ ws) = four_bytes w ++ words_bytes ws

-- ---- elements in their ranges

-- every element is a byte
unfoldable pub Bytes : List ℕ → Type 0
Bytes r = (i : ℕ) → get_or r i 0 < 256

-- every element is a word of 32 bits
abbrev pub Words : List ℕ → Type 0
Words [] = Unit {0}
Words (w ∷ ws) = (w < 4294967296) × Words ws

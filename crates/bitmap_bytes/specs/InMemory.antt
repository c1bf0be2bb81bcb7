-- What the painter by bytes asks of the memory that holds screen and source, and what it leaves of it.
use Rattle.std.specs.Prelude.{List, ℕ, ◌+◌, ◌-◌, ◌*◌, ◌≤◌, ℤ, length}
use Rattle.model.specs.declared.Canvas.{Canvas}
use Rattle.model.specs.declared.Marks.{Marks}
use Rattle.model.specs.declared.PaintMode.{PaintMode}
use Rattle.model.specs.Memory.{window}
use Rattle.model.specs.Pixels.{Screen}
use Rattle.model.specs.Bitmaps.{source_bytes, bitmap}
use Rattle.bitmap.specs.declared.clip.Clip.{Clip}
use Rattle.laws.specs.PaintedMemory.{Placed, painted_in, DrawnIn}

abbrev pub size : Canvas → ℕ
size c = c.stride * c.height

-- ---- what is shown

-- the screen begins at byte `screen`, the picture at byte `source`: they share no byte
pub record InMemory (clip : Clip) (screen source : ℕ) (m : List ℕ) : Type 0 where
  pub placed : Placed screen (size clip.canvas) source (size clip.picture) m
  pub small : length m ≤ 65536

abbrev pub clip_painted : Clip → ℕ → ℕ → PaintMode → List ℕ → List ℕ
clip_painted clip screen source mode m =
    painted_in screen (size clip.canvas) source (size clip.picture) clip.canvas.stride clip.picture.stride mode clip.across clip.down.skip clip.down.from (clip.down.to - clip.down.from) m

-- ---- the bitmap

-- the screen begins at byte `screen`, the source of w by n pixels at byte `source`; they may share bytes
pub record Holds (canvas : Canvas) (screen source w n : ℕ) (m : List ℕ) : Type 0 where
  pub glass : Screen canvas.stride canvas.height (window screen (size canvas) m)
  pub screen-in : screen + size canvas ≤ length m
  pub source_in : source + source_bytes w n ≤ length m
  pub small : length m ≤ 65536

-- e is m with the bitmap on its screen, whose marks are r
abbrev pub BitmapDrawn : Canvas → ℕ → ℕ → ℤ → ℤ → ℕ → ℕ → PaintMode → Marks → List ℕ → List ℕ → Type 0
BitmapDrawn canvas screen source x y w n mode r m e =
    DrawnIn screen canvas.stride canvas.height (bitmap canvas.stride canvas.height (window source (source_bytes w n) m) x y w n mode) r m e

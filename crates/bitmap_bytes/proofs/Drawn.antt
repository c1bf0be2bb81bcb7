-- A clip painted in memory draws the bitmap there, and where nothing is shown memory stays.
use Rattle.std.proofs.Common.{◌≡◌, ℕ, ℤ, List}
use Rattle.model.specs.declared.Canvas.{Canvas}
use Rattle.model.specs.declared.Marks.{Marks}
use Rattle.model.specs.declared.PaintMode.{PaintMode}
use Rattle.model.specs.Memory.{window}
use Rattle.model.specs.Rects.{none}
use Rattle.model.specs.Bitmaps.{source_bytes}
use Rattle.laws.specs.Points.{both}
use Rattle.laws.specs.Bitmaps.{visible_mark}
use Rattle.laws.specs.PaintedMemory.{none_in, painted-in}
use Rattle.bitmap.specs.declared.clip.Clip.{Clip}
use Rattle.bitmap.specs.Clips.{Hidden, Clips}
use Rattle.bitmap.proofs.Clipped.{nothing_drawn}
use Rattle.bitmap_bytes.specs.InMemory.{size, Holds, clip_painted, BitmapDrawn}

module _ (canvas : Canvas) (screen source : ℕ) (x y : ℤ) (w n : ℕ) (mode : PaintMode) (m : List ℕ) (holds : Holds canvas screen source w n m) {k : Marks} where
  pub hidden_in : Hidden canvas x y w n → k ≡ both none → BitmapDrawn canvas screen source x y w n mode k m m
  hidden_in o e =
      none_in screen _ _ _ m holds.screen-in (nothing_drawn canvas x y w n (window source (source_bytes w n) m) mode (window screen (size canvas) m) o e)

  pub clip_in : {c : Clip} (e : List ℕ) → Clips canvas x y w n c → k ≡ both (visible_mark c.across c.down) → e ≡ clip_painted c screen source mode m
      → BitmapDrawn canvas screen source x y w n mode k m e
  clip_in {c} e o p q =
      painted-in screen _ _ source w n x y mode m e holds.screen-in o.across-is o.down-is c.columns.0 c.lines.0 p (rw (o.canvas-is, o.picture-is.0, o.picture-is.1) at q)

-- What a canvas shows of a bitmap of w by n pixels at (x, y): nothing, or what a clip says.
use Rattle.std.specs.Prelude.{◌≡◌, ◌⊎◌, ℕ, ℤ, ◌*◌, ◌≤◌}
use Rattle.model.specs.declared.Canvas.{Canvas}
use Rattle.model.specs.declared.Visible.{Visible}
use Rattle.model.specs.Bitmaps.{source_stride, visible}
use Rattle.bitmap.specs.declared.clip.Clip.{Clip}

module _ (canvas : Canvas) (x y : ℤ) (w n : ℕ) where
  abbrev pub columns : Visible
  columns = visible x w (8 * canvas.stride)

  abbrev pub lines : Visible
  lines = visible y n canvas.height

  abbrev pub Hidden : Type 0
  Hidden = (columns.to ≤ columns.from) ⊎ (lines.to ≤ lines.from)

  pub record Clips (c : Clip) : Type 0 where
    pub canvas-is : c.canvas ≡ canvas
    pub picture-is : (c.picture.stride ≡ source_stride w) × (c.picture.height ≡ n)
    pub across-is : c.across ≡ columns
    pub down-is : c.down ≡ lines

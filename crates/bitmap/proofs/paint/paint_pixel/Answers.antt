use Rattle.laws.specs.Bitmaps.{painted-pixel}
use Rattle.bitmap.proofs.paint.paint_pixel.Goals as goal

pub returns : goal.returns
returns c = search painted-pixel

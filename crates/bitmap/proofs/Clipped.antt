-- A bitmap is drawn where its clip is painted, and where nothing is shown it draws nothing.
use Rattle.std.proofs.Common.{◌≡◌, ℕ, ℤ, List, ◌-◌, ◌≤◌, refl}
use Rattle.model.specs.declared.Canvas.{Canvas}
use Rattle.model.specs.declared.Marks.{Marks}
use Rattle.model.specs.declared.PaintMode.{PaintMode}
use Rattle.model.specs.Pixels.{draw}
use Rattle.model.specs.Rects.{none}
use Rattle.model.specs.Marks.{drawn, drawn_on}
use Rattle.model.specs.Bitmaps.{painted_lines, bitmap}
use Rattle.laws.specs.Tests.{by_lt, either}
use Rattle.laws.specs.Points.{both}
use Rattle.laws.specs.Bitmaps.{visible_mark, bitmap-painted, bitmap_beside, bitmap-below}
use Rattle.bitmap.specs.declared.clip.Clip.{Clip}
use Rattle.bitmap.specs.Clips.{columns, lines, Hidden, Clips}

module _ (canvas : Canvas) (x y : ℤ) (w n : ℕ) (source : List ℕ) (mode : PaintMode) (s : List ℕ) {k : Marks} where
  pub nothing_drawn : Hidden canvas x y w n → k ≡ both none → drawn k s ≡ drawn_on canvas.stride canvas.height (bitmap canvas.stride canvas.height source x y w n mode) s
  nothing_drawn o e =
      let across = columns canvas x y w n in
      let down = lines canvas x y w n in
      let beside = λ (a : across.to ≤ across.from). bitmap_beside _ _ source x y w n mode s refl refl a e in
      either o beside (λ b. by_lt across.from across.to (λ a. bitmap-below _ _ source x y w n mode s refl refl a b e) beside)

  pub clip_drawn : {c : Clip} (e : List ℕ) → Clips canvas x y w n c → k ≡ both (visible_mark c.across c.down)
      → e ≡ draw c.canvas.stride (painted_lines c.picture.stride source mode c.across c.down.skip c.down.from (c.down.to - c.down.from)) s
      → drawn k e ≡ drawn_on canvas.stride canvas.height (bitmap canvas.stride canvas.height source x y w n mode) s
  clip_drawn {c} e o p q = bitmap-painted _ _ source x y w n mode s o.across-is o.down-is e c.columns.0 c.lines.0 p (rw (o.canvas-is, o.picture-is.0) at q)

-- A screen and a picture copied to an array, one after the other: the copy of the screen is painted there and put back.
use Rattle.std.proofs.Common.{◌≡◌, List, ℕ, ◌+◌, ◌-◌, ◌≤◌, ◌∙◌, ap, arith, length}
use Rattle.model.specs.declared.PaintMode.{PaintMode}
use Rattle.model.specs.Memory.{window, with_window}
use Rattle.model.specs.Pixels.{draw}
use Rattle.model.specs.Bitmaps.{painted_lines}
use Rattle.laws.specs.Memory.{length-window, window_same}
use Rattle.laws.specs.Pixels.{length-draw}
use Rattle.laws.specs.PaintedMemory.{Copied}
use Rattle.bitmap.specs.declared.clip.Clip.{Clip}
use Rattle.bitmap_bytes.specs.InMemory.{size, clip_painted}

-- of memory m, the first bytes of z are the copy: e, painted: f, and g is memory with its screen
pub put_back : (clip : Clip) (screen source : ℕ) (mode : PaintMode) (m z e f g : List ℕ) → screen + size clip.canvas ≤ length m → size clip.canvas ≤ length z
    → Copied screen (size clip.canvas) source (size clip.picture) m z e → f ≡ clip_painted clip 0 (size clip.canvas) mode e → g ≡ with_window screen (window 0 (size clip.canvas) f) m
    → g ≡ clip_painted clip screen source mode m
put_back clip screen source mode m z e f g l r o p w =
    let n = size clip.canvas in
    let ws = painted_lines clip.picture.stride (window source (size clip.picture) m) mode clip.across clip.down.skip clip.down.from (clip.down.to - clip.down.from) in
    let s = draw clip.canvas.stride ws (window screen n m) in
    let sized : length s ≡ n = length-draw clip.canvas.stride ws (window screen n m) ∙ length-window screen n m l in
    let painted : f ≡ with_window 0 s e = cc (o.screen_is, o.source_is) in
    w ∙ ap (λ (t : List ℕ). with_window screen t m) (ap (window 0 n) painted ∙ window_same 0 n s e sized (omega (arith, o.long)))

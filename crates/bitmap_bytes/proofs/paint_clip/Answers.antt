use Rattle.std.proofs.Common.{List, ℕ, ◌≡◌, ◌-◌, ◌*◌, ◌∙◌, ap, arith, rules}
use borrow.Author.Tests.{eqb-true}
use Rattle.model.specs.Bytes.{Bytes}
use Rattle.laws.specs.PaintedMemory.{WholeLies, whole_lies}
use Rattle.bitmap.specs.declared.clip.Clip.{Clip}
use Rattle.bitmap_bytes.specs.InMemory.{InMemory}
use Rattle.bitmap_bytes.proofs.paint_clip.Goals as goal

-- the lines of a clip that is as wide as both
run : (clip : Clip) (screen source : ℕ) (m : List ℕ) → InMemory clip screen source m → clip.across.to - clip.across.from ≡ 8 * clip.canvas.stride → clip.picture.stride ≡ clip.canvas.stride
    → WholeLies screen clip.canvas.stride clip.canvas.height source clip.picture.stride clip.picture.height clip.across clip.down m
run clip screen source m o wide e = whole_lies _ _ _ _ _ _ clip.across clip.down m o.placed (omega arith) wide e

pub paint_bits-requires : goal.paint_bits-requires
paint_bits-requires c =
    let down = c.args.clip.down in
    let o = run c.args.clip c.args.screen c.args.source c.args.memory.now c.requires c.if-count-stride.true (omega (arith, eqb-true)) in
    let n = ap (λ (k : ℕ). k * (down.to - down.from)) c.if-count-stride.true in
    let to = c.bit_of-to.ensures in
    let from = c.bit_of-from.ensures in record {
      in_memory = rw (n, to, from) (omega (arith, o.some), o.screen, o.source);
      apart = rw (n, to, from) o.apart;
      small = c.requires.small;
    }

pub returns-then-bytes-stride : goal.returns-then-bytes-stride
unfolding Bytes
returns-then-bytes-stride c =
    let down = c.args.clip.down in
    let o = run c.args.clip c.args.screen c.args.source c.args.memory.now c.requires c.if-count-stride.true (omega (arith, eqb-true)) in
    let n = ap (λ (k : ℕ). k * (down.to - down.from)) c.if-count-stride.true in
    let painted = rw (n, c.bit_of-to.ensures, c.bit_of-from.ensures) at c.paint_bits.ensures in
    painted ∙ o.painted c.args.mode (search rules)

-- By the sign of z, which the machine reads back from its bits as it is.
use Rattle.std.proofs.Common.{◌≡◌, ◌+◌, ◌-◌, min, ℕ, true, false, ℤ, pos, negsuc, add-one, arith, w32}
use Rattle.std.proofs.Math.Facts.{to_z-of_z}
use Rattle.std.specs.Int.RustNames.{unsigned_abs}
use Rattle.std.specs.Int.Signed.{lt_z}
use borrow.Author.Tests.{ltb-true}
use Rattle.model.specs.declared.Visible.{Visible}
use Rattle.model.specs.Bitmaps.{visible}
use Rattle.laws.specs.Bitmaps.{visible_before, visible-after}
use Rattle.bitmap.proofs.axis.visible.Goals as goal

before : (z : ℤ) (n size : ℕ) {d t : ℕ} → lt_z z (pos 0) ≡ true → d ≡ unsigned_abs z → t ≡ min (n - d) size → ◌≡◌ {A = Visible} (record { skip = d; from = 0; to = t }) (visible z n size)
before (pos x) n size h p q = absurd (omega (arith, ltb-true x 0 h))
before (negsuc x) n size h p q = cc (visible_before x n size, add-one x)

after : (z : ℤ) (n size : ℕ) {d t : ℕ} → lt_z z (pos 0) ≡ false → d ≡ unsigned_abs z → t ≡ min (d + n) size → ◌≡◌ {A = Visible} (record { skip = 0; from = d; to = t }) (visible z n size)
after (pos x) n size h p q = cc (visible-after x n size)
after (negsuc x) n size h p q = absurd cc

pub returns-then-z-lt0 : goal.returns-then-z-lt0
returns-then-z-lt0 c =
    let same = to_z-of_z {w = w32} {z = c.args.z} c.ranges.z in
    before c.args.z c.args.n c.args.size (rw same at c.if-z-lt0.true) (rw same at c.unsigned_abs-distance.ensures.value) (cc)

pub returns : goal.returns
returns c =
    let same = to_z-of_z {w = w32} {z = c.args.z} c.ranges.z in
    after c.args.z c.args.n c.args.size (rw same at c.if-z-lt0.false) (rw same at c.unsigned_abs-distance.ensures.value) (cc)

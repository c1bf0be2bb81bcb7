use Rattle.std.proofs.Common.{◌≡◌, ℕ, suc, ◌+◌, ◌*◌, ◌<◌, ◌≤◌, refl, arith, rules}
use Rattle.std.proofs.Math.Nat.{mul-le-mul_right}
use Rattle.std.proofs.lemmas.Grind.{div_ceil_times}
use Rattle.std.specs.Int.{div_ceil}
use Rattle.model.specs.Glass.{geometry}
use Rattle.model.specs.Marks.{owing_each}
use Rattle.laws.specs.MarkLoops.{glass_band, mark_starts, mark_goes, mark_ends}
use Rattle.record.proofs.Lengths.{passes_for}
use Rattle.updates.proofs.Updating.{updates}
use Rattle.updates.proofs.panels.mark_panels.Goals as goal

-- band i of b lines is among the d bands that the first a lines touch just where it begins before line a
begins_before : (a b d i : ℕ) → 0 < b → d ≡ div_ceil a b → i < d → i * b < a
begins_before a b d i p e h =
    let t : suc i * b ≤ d * b = mul-le-mul_right b h in
    let u : d * b < a + b = rw e (div_ceil_times a b p).1 in
    omega arith

begins_after : (a b d i : ℕ) → 0 < b → d ≡ div_ceil a b → d ≤ i → a ≤ i * b
begins_after a b d i p e h =
    let t : d * b ≤ i * b = mul-le-mul_right b h in
    let u : a ≤ d * b = rw e (div_ceil_times a b p).0 in
    omega arith

pub loop-i-init : goal.loop-i-init
loop-i-init c =
    let v = c.glass_of-glass.result in
    mark_starts (geometry v) v.height c.args.m c.args.rec.now (passes_for c.glass_of-glass.ensures c.requires) c.min-bottom.ensures refl

pub loop-i-preserved : goal.loop-i-preserved
loop-i-preserved c =
    let v = c.glass_of-glass.result in
    let b = v.band in
    let i = c.loop-i.i in
    let next : (i + 1) * b ≡ i * b + b = omega arith in
    mark_goes v c.loop-i.invariant (begins_before _ b _ i (glass_band v) c.div_ceil-i-end.ensures c.loop-i-test.true) next (search rules) c.mark_band.ensures

pub returns : goal.returns
returns c =
    let chosen = c.glass_of-glass.ensures in
    let past = begins_after _ _ _ c.loop-i.i (glass_band c.glass_of-glass.result) c.div_ceil-i-end.ensures c.loop-i-test.false in
    updates c.args.rec.now (λ g x. owing_each g c.args.m x) chosen (mark_ends c.glass_of-glass.result c.loop-i.invariant past)

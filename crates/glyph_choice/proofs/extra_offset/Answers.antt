use Rattle.std.proofs.Common.{◌≡◌, ◌+◌, ◌*◌, sym, ap, ◌∙◌, Some, arith}
use Rattle.laws.specs.Glyphs.{extra_here, extra_past, extra_end}
use Rattle.glyph_choice.proofs.Choosing.{extra_start}
use Rattle.glyph_choice.proofs.extra_offset.Goals as goal

pub loop-k-init : goal.loop-k-init
loop-k-init c = extra_start _ _

pub returns-then-load_two-code : goal.returns-then-load_two-code
returns-then-load_two-code c =
    let l = c.loop-k in
    extra_here c.args.list.now _ (6 * l.k) l.k _ c.loop-k-test.true (sym c.load_two.ensures ∙ c.if-load_two-code.true) (ap Some c.load_four.ensures) ∙ sym l.invariant

pub loop-k-preserved : goal.loop-k-preserved
loop-k-preserved c =
    let l = c.loop-k in
    let next : 6 * (l.k + 1) ≡ 6 * l.k + 6 = omega arith in
    rw next (extra_past c.args.list.now _ (6 * l.k) l.k _ c.loop-k-test.true (λ e. c.if-load_two-code.false (c.load_two.ensures ∙ e)) l.invariant)

pub returns : goal.returns
returns c = let l = c.loop-k in extra_end _ _ (6 * l.k) l.k _ c.loop-k-test.false ∙ sym l.invariant

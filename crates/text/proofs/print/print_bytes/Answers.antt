use Rattle.std.proofs.Common.{rules, refl, arith}
use Rattle.text.proofs.Turning.{same_rest, all-printed}
use Rattle.text.proofs.print.print_bytes.Goals as goal

pub loop-i-init : goal.loop-i-init
loop-i-init c = (search rules, refl, refl, c.requires.ready, omega (arith, c.requires.not_scrolled), refl)

pub print_at-s-requires : goal.print_at-s-requires
print_at-s-requires c =
    let l = c.loop-i in record {
      ready = l.invariant.3;
      scrolls_fit = omega (arith, l.invariant.4);
      byte_there = omega arith;
    }

pub loop-i-smaller : goal.loop-i-smaller
loop-i-smaller c =
    let e = c.print_at-s.ensures in
    omega (arith, e.more, e.within)

pub loop-i-preserved : goal.loop-i-preserved
loop-i-preserved c =
    let l = c.loop-i in
    let a = c.args in
    let e = c.print_at-s.ensures in
    (omega (arith, e.within), search rules, search rules, e.ready, omega (arith, e.scrolls, e.more, l.invariant.4), same_rest a.rows a.columns a.inverse a.from.now l.i l.text l.flags c.print_at-s.new.text c.print_at-s.new.flags l.q c.print_at-s.result e l.invariant.5)

pub returns : goal.returns
returns c =
    let l = c.loop-i in
    let a = c.args in
    all-printed a.rows a.columns a.inverse a.from.now a.text.now a.flags.now l.text l.flags a.p l.q l.i (omega arith) l.invariant.3 (omega (arith, l.invariant.4)) l.invariant.5

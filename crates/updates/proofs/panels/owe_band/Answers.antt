use mathlib.Core.Path.{◌∙◌}
use borrow.Author.Rules.{rules}
use native.Mathlib.Omega.{arith}
use Rattle.laws.specs.MarkLoops.{owe_room, owe_goes, owe_ends}
use Rattle.updates.proofs.panels.owe_band.Goals as goal

pub band_at-requires : goal.band_at-requires
band_at-requires c =
    omega (arith, owe_room c.args.glass c.loop-k.rec (c.loop-k.invariant.sized ∙ c.requires.sized.0) c.requires.sized.1 (omega (arith, c.loop-k.invariant)) c.panel_at-at.ensures)

pub owe_rect-requires : goal.owe_rect-requires
owe_rect-requires c =
    record {
      at_in_bounds = omega (arith, owe_room c.args.glass c.loop-k.rec (c.loop-k.invariant.sized ∙ c.requires.sized.0) c.requires.sized.1 (omega (arith, c.loop-k.invariant)) c.panel_at-at.ensures, c.band_at.ensures);
      q_value = c.requires.not_empty;
    }

pub loop-k-preserved : goal.loop-k-preserved
loop-k-preserved c =
    owe_goes c.loop-k.invariant (omega arith) (search rules) c.panel_at-at.ensures c.band_at.ensures c.owe_rect.ensures

pub returns : goal.returns
returns c = owe_ends c.loop-k.invariant (omega arith)

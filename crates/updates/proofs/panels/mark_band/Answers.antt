-- Where the mark has the whole band, that is stored; else its part, if there is one, is joined to what each panel is owed.
use mathlib.Core.Path.{refl, sym, ◌∙◌}
use mathlib.Core.Bool.{true, false}
use native.Mathlib.Omega.{arith}
use Rattle.std.proofs.Common.{◌*◌}
use Rattle.model.specs.Glass.{geometry}
use Rattle.laws.specs.Tests.{clash}
use Rattle.laws.specs.Marking.{empty_band, owed_band}
use Rattle.laws.specs.MarkLoops.{band_low, is_part, is_band, band_full, is_whole}
use Rattle.updates.proofs.panels.mark_band.Goals as goal

pub overflow_mul-lo : goal.overflow_mul-lo
overflow_mul-lo c = omega (arith, band_low c.args.glass c.args.i _ c.requires.i_lt_bands refl)

pub overflow_add-hi : goal.overflow_add-hi
overflow_add-hi c =
    omega (arith, band_low c.args.glass c.args.i _ c.requires.i_lt_bands refl)

pub owe_band-requires : goal.owe_band-requires
owe_band-requires c =
    record {
      sized = (c.requires.passing.sized, c.requires.i_lt_bands);
      not_empty = band_full c.args.glass (c.args.i * c.args.glass.band) refl;
    }

pub returns-then-m-width : goal.returns-then-m-width
returns-then-m-width c =
    let a = c.args in
    let k = c.requires.passing in
    let whole = is_whole a.glass a.m a.i refl refl c.if-m-width.true in
    owed_band (geometry a.glass) a.m a.i k c.requires.i_lt_bands true (λ e. whole) (is_band a.glass a.i refl refl ∙ sym whole) c.owe_band.ensures

pub returns-then-is_empty : goal.returns-then-is_empty
returns-then-is_empty c =
    let a = c.args in
    let k = c.requires.passing in
    empty_band (geometry a.glass) a.m a.i k (is_part a.glass a.m a.i refl refl c.cut_rect-q.ensures) c.is_empty.ensures c.if-is_empty.true

pub owe_band-requires-2 : goal.owe_band-requires-2
owe_band-requires-2 c =
    record {
      sized = (c.requires.passing.sized, c.requires.i_lt_bands);
      not_empty = sym c.is_empty.ensures ∙ c.if-is_empty.false;
    }

pub returns : goal.returns
returns c =
    let a = c.args in
    let k = c.requires.passing in
    owed_band (geometry a.glass) a.m a.i k c.requires.i_lt_bands false (λ e. clash true refl (sym e)) (is_part a.glass a.m a.i refl refl c.cut_rect-q.ensures) c.owe_band-2.ensures

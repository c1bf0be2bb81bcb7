use Rattle.std.proofs.Common.{refl, []}
use Rattle.std.proofs.lemmas.Bool.{lt-leb, le-leb}
use Rattle.model.specs.declared.refusal.Refusal.TheVariants as refusals
use mir.Syntax.{w32}
use mir.Facts.{to_z-of_z}
use Rattle.model.specs.Refusals.{VALUE, SOURCE}
use Rattle.caption.proofs.Calls.{fails, passes, failed, passed, none_left, stops, refused_later, finishes, given}
use Rattle.caption.proofs.bitmaps.caption_paint_bitmap_by_bytes.Goals as goal

pub returns-in_err-enter : goal.returns-in_err-enter
returns-in_err-enter c = stops _ _ refl c.from_residual.result c.from_residual.ensures.1 c.in_err-enter.ensures

pub returns-then-mode-gt4 : goal.returns-then-mode-gt4
returns-then-mode-gt4 c =
    refused_later _ _ refl c.in_ok-enter.ensures refusals.Value (fails _ (lt-leb _ _ c.if-mode-gt4.true))

pub source_fits-requires : goal.source_fits-requires
source_fits-requires c = (given c.args.memory.now c.in_ok-enter.ensures).memory

pub returns-then-not-source_fits : goal.returns-then-not-source_fits
returns-then-not-source_fits c =
    refused_later _ _ refl c.in_ok-enter.ensures refusals.Source (passes VALUE _ (le-leb _ _ c.if-mode-gt4.false) (fails [] (failed c.source_fits.ensures c.if-not-source_fits.true-raw)))

pub paint_bitmap_by_bytes-requires : goal.paint_bitmap_by_bytes-requires
paint_bitmap_by_bytes-requires c =
    record {
      given = given _ c.in_ok-enter.ensures;
      source_fits = passed c.source_fits.ensures c.if-not-source_fits.false-raw;
    }

pub returns : goal.returns
returns c =
    finishes _ _ refl c.in_ok-enter.ensures (passes VALUE _ (le-leb _ _ c.if-mode-gt4.false) (passes SOURCE [] (passed c.source_fits.ensures c.if-not-source_fits.false-raw) none_left)) (rw (to_z-of_z {w = w32} {z = c.args.x} c.ranges.x, to_z-of_z {w = w32} {z = c.args.y} c.ranges.y) at c.paint_bitmap_by_bytes.ensures)

use Rattle.std.proofs.Common.{refl, []}
use Rattle.model.specs.declared.refusal.Refusal.TheVariants as refusals
use Rattle.model.specs.Refusals.{GLYPH}
use Rattle.caption.proofs.Calls.{fails, passes, failed, passed, none_left, stops, refused_later, finishes, given_list}
use Rattle.caption.proofs.flushes.caption_flush.Goals as goal

pub returns-in_err-enter : goal.returns-in_err-enter
returns-in_err-enter c = stops _ _ refl c.from_residual.result c.from_residual.ensures.1 c.in_err-enter.ensures

pub glyphs_fit-requires : goal.glyphs_fit-requires
glyphs_fit-requires c = let a = c.args in given_list a.memory.now a.list.now c.in_ok-enter.ensures

pub returns-then-not-glyphs_fit : goal.returns-then-not-glyphs_fit
returns-then-not-glyphs_fit c =
    refused_later _ _ refl c.in_ok-enter.ensures refusals.Glyph (fails [] (failed c.glyphs_fit.ensures c.if-not-glyphs_fit.true-raw))

pub flush-requires : goal.flush-requires
flush-requires c =
    let a = c.args in record {
      given = given_list a.memory.now a.list.now c.in_ok-enter.ensures;
      glyphs_are_there = passed c.glyphs_fit.ensures c.if-not-glyphs_fit.false-raw;
    }

pub returns : goal.returns
returns c =
    finishes _ _ refl c.in_ok-enter.ensures (passes GLYPH [] (passed c.glyphs_fit.ensures c.if-not-glyphs_fit.false-raw) none_left) c.flush.ensures

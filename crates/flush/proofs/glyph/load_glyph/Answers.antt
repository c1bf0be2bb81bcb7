use Rattle.std.proofs.Common.{◌≡◌, ◌/◌, length, ap, ◌∙◌, arith}
use Rattle.std.specs.Simd.{first_chunks}
use Rattle.flush.proofs.Painting.{lines_loaded}
use Rattle.flush.proofs.glyph.load_glyph.Goals as goal

pub returns : goal.returns
returns c =
    let part = c.args.part.now in
    let sixteen : length part / 2 ≡ 16 = omega arith in
    c.copy_from_slice.ensures.after ∙ c.as_chunks.ensures.front ∙ ap (λ n. first_chunks 2 n part) sixteen ∙ lines_loaded part 0 16 (omega arith)

-- Hexadecimal codes, or the part of a font as a glyph by value: `codes_shown` and `glyph_shown` are the two returns.
use Rattle.std.proofs.Common.{refl, ap, ◌∙◌, ℕ, ◌+◌, length}
use Rattle.model.specs.Glyphs.{code_stores}
use Rattle.laws.specs.Glyphs.{length-paint}
use Rattle.flush.specs.Lent.{flags_of}
use Rattle.flush.proofs.Showing.{room_at, fits_as, codes_end, part-fits, part_long, shown_as, codes_shown, glyph_shown}
use Rattle.flush.proofs.paint.paint_pair.Goals as goal

pub paint_code-requires : goal.paint_code-requires
paint_code-requires c =
    let a = c.args in
    let w = a.w in record {
      room = room_at a.style.columns a.screen.now a.screen.now 16 c.requires.pair_room.spot.left refl c.top_of-top.ensures.0;
      digits_are_there = (codes_end a.style.fonts.ascii8.now a.style.fonts.gb.now a.style.fonts.emoji.now a.style.fonts.extra.now w.lead w.trail _ c.is_hexadecimal.ensures c.if-is_hexadecimal.true (fits_as a.style.fonts.ascii8.now a.style.fonts.gb.now a.style.fonts.emoji.now a.style.fonts.extra.now w.lead w.trail c.glyph_of-g.ensures c.requires.glyph_is_there)).0;
    }

pub paint_code-requires-then-is_hexadecimal : goal.paint_code-requires-then-is_hexadecimal
paint_code-requires-then-is_hexadecimal c =
    let a = c.args in
    let w = a.w in
    let t = c.top_of-top in record {
      room = room_at a.style.columns a.screen.now c.paint_code.new.screen 16 c.requires.pair_room.beside
          (ap length c.paint_code.ensures ∙ length-paint (code_stores a.style.columns a.style.fonts.ascii8.now t.result w.lead) a.screen.now) (ap (λ (x : ℕ). x + 1) t.ensures.0);
      digits_are_there = (codes_end a.style.fonts.ascii8.now a.style.fonts.gb.now a.style.fonts.emoji.now a.style.fonts.extra.now w.lead w.trail _ c.is_hexadecimal.ensures c.if-is_hexadecimal.true (fits_as a.style.fonts.ascii8.now a.style.fonts.gb.now a.style.fonts.emoji.now a.style.fonts.extra.now w.lead w.trail c.glyph_of-g.ensures c.requires.glyph_is_there)).1;
    }

pub returns-then-is_hexadecimal : goal.returns-then-is_hexadecimal
returns-then-is_hexadecimal c =
    let a = c.args in
    let w = a.w in
    shown_as a.style.columns (flags_of a.style) w.spot w.lead w.trail a.screen.now a.style.fonts.ascii8.now a.style.fonts.gb.now a.style.fonts.emoji.now a.style.fonts.extra.now c.glyph_of-g.ensures
    (codes_shown a.style.columns (flags_of a.style) w.spot w.lead w.trail a.screen.now a.style.fonts.ascii8.now a.style.fonts.gb.now a.style.fonts.emoji.now a.style.fonts.extra.now _ c.is_hexadecimal.ensures c.if-is_hexadecimal.true c.top_of-top.ensures.0 c.paint_code.ensures c.paint_code-then-is_hexadecimal.ensures)

pub glyph_part-requires : goal.glyph_part-requires
glyph_part-requires c =
    let a = c.args in
    let w = a.w in
    part-fits a.style.fonts.ascii8.now a.style.fonts.gb.now a.style.fonts.emoji.now a.style.fonts.extra.now w.lead w.trail _ (fits_as a.style.fonts.ascii8.now a.style.fonts.gb.now a.style.fonts.emoji.now a.style.fonts.extra.now w.lead w.trail c.glyph_of-g.ensures c.requires.glyph_is_there)

pub load_glyph-glyph-requires : goal.load_glyph-glyph-requires
load_glyph-glyph-requires c =
    let a = c.args in
    let w = a.w in
    part_long a.style.fonts.emoji.now a.style.fonts.gb.now a.style.fonts.extra.now _ (part-fits a.style.fonts.ascii8.now a.style.fonts.gb.now a.style.fonts.emoji.now a.style.fonts.extra.now w.lead w.trail _ (fits_as a.style.fonts.ascii8.now a.style.fonts.gb.now a.style.fonts.emoji.now a.style.fonts.extra.now w.lead w.trail c.glyph_of-g.ensures c.requires.glyph_is_there))
    c.is_hexadecimal.ensures c.if-is_hexadecimal.false c.glyph_part.ensures

pub paint_halves-requires : goal.paint_halves-requires
paint_halves-requires c =
    let a = c.args in record {
      left_room = room_at a.style.columns a.screen.now a.screen.now 16 c.requires.pair_room.spot.left refl c.top_of-top.ensures.0;
      right_room = room_at a.style.columns a.screen.now a.screen.now 16 c.requires.pair_room.right refl c.right_of.ensures;
      sixteen_lines = ap length c.load_glyph-glyph.ensures;
    }

pub returns : goal.returns
returns c =
    let a = c.args in
    let w = a.w in
    shown_as a.style.columns (flags_of a.style) w.spot w.lead w.trail a.screen.now a.style.fonts.ascii8.now a.style.fonts.gb.now a.style.fonts.emoji.now a.style.fonts.extra.now c.glyph_of-g.ensures
    (glyph_shown a.style.columns (flags_of a.style) w.spot w.lead w.trail a.screen.now a.style.fonts.ascii8.now a.style.fonts.gb.now a.style.fonts.emoji.now a.style.fonts.extra.now _ c.is_hexadecimal.ensures c.if-is_hexadecimal.false c.top_of-top.ensures.0 c.right_of.ensures
    c.is_flagged-left.ensures c.is_flagged-right.ensures c.glyph_part.ensures c.load_glyph-glyph.ensures c.paint_halves.ensures)

-- The fonts and the style that a flush is lent, as the definitions have them.
use Rattle.std.specs.Prelude.{Bool, List}
use Rattle.model.specs.Flags.{flags_in}
use Rattle.model.specs.Glyphs.{Fonts, fonts}
use Rattle.flush.specs.declared.fonts.Fonts.{Fonts as LentFonts}
use Rattle.flush.specs.declared.style.Style.{Style}

abbrev pub fonts_of : LentFonts → Fonts
fonts_of f = fonts f.ascii8.now f.ascii16.now f.gb.now f.emoji.now f.list.now f.extra.now

abbrev pub flags_of : Style → List Bool
flags_of p = flags_in p.cells p.flags.now

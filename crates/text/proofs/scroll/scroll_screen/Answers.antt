use Rattle.text.proofs.Turning.{screen_scrolled}
use Rattle.text.proofs.scroll.scroll_screen.Goals as goal

pub returns : goal.returns
returns c = search screen_scrolled

use Rattle.std.proofs.Common.{◌∙◌}
use Rattle.record.proofs.Lengths.{head_there}
use Rattle.accepted_text.proofs.Blinking.{clear_none, clear-blinks, clear_graph}
use Rattle.accepted_text.proofs.cursor.clear_cursor.Goals as goal

pub load_head-h-requires : goal.load_head-h-requires
load_head-h-requires c = head_there c.requires.passing

pub returns-then-cursor-eq0 : goal.returns-then-cursor-eq0
returns-then-cursor-eq0 c = clear_none _ _ c.load_head-h.ensures c.if-cursor-eq0.true

pub returns-then-screen-eq0 : goal.returns-then-screen-eq0
returns-then-screen-eq0 c =
    c.blink_cursor.ensures ∙ clear-blinks _ _ c.load_head-h.ensures c.if-cursor-eq0.false c.if-screen-eq0.true

pub returns : goal.returns
returns c =
    clear_graph _ _ c.load_head-h.ensures c.if-cursor-eq0.false c.if-screen-eq0.false c.set_cursor.ensures

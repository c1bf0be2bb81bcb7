use Rattle.record.proofs.Lengths.{head_there}
use Rattle.accepted_text.proofs.Clearing.{keeps_mode}
use Rattle.accepted_text.proofs.clear.cls.Goals as goal

pub load_head-mode-requires : goal.load_head-mode-requires
load_head-mode-requires c = head_there c.requires.passing

pub returns : goal.returns
returns c = keeps_mode _ _ c.load_head-mode.ensures c.set_screen_mode.ensures

use Rattle.accepted_text.proofs.Clearing.{windows-cleared}
use Rattle.accepted_text.proofs.clear.clear_windows.Goals as goal

pub returns : goal.returns
returns c =
    let a = c.window.ensures in
    let b = c.window-2.ensures in
    rw (a, b) (windows-cleared c.args.glass c.args.h c.args.memory.now c.requires.0 c.requires.1 (rw a at c.clear.ensures) (rw (b, a) at c.clear-2.ensures))

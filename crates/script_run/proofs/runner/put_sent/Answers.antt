use Rattle.std.proofs.Common.{sym}
use Rattle.script_run.proofs.Writing.{appended_as, room_as}
use Rattle.script_run.proofs.Running.{said-refused, said_sent, said_idle}
use Rattle.script_run.proofs.runner.put_sent.Goals as goal

pub put_printed-requires : goal.put_printed-requires
put_printed-requires c = room_as c.args.out.now (said_sent c.in-Some.s c.in-Ok.is c.in-Some.is) c.requires

pub returns-in-Some : goal.returns-in-Some
returns-in-Some c = appended_as (sym (said_sent c.in-Some.s c.in-Ok.is c.in-Some.is)) c.put_printed.ensures

pub put_text-requires : goal.put_text-requires
put_text-requires c = room_as c.args.out.now (said_idle c.in-Ok.is c.in-None.is) c.requires

pub returns-in-None : goal.returns-in-None
returns-in-None c = appended_as (sym (said_idle c.in-Ok.is c.in-None.is)) c.put_text.ensures

pub put_printed-requires-in-Err : goal.put_printed-requires-in-Err
put_printed-requires-in-Err c = room_as c.args.out.now (said-refused _ _ c.number_of.ensures c.in-Err.is) c.requires

pub returns-in-Err : goal.returns-in-Err
returns-in-Err c = appended_as (sym (said-refused _ _ c.number_of.ensures c.in-Err.is)) c.put_printed-in-Err.ensures

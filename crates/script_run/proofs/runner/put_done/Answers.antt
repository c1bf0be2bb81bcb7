use Rattle.std.proofs.Common.{sym}
use Rattle.script_run.proofs.Writing.{appended_as, room_as}
use Rattle.script_run.proofs.Running.{said-done, said-refused}
use Rattle.script_run.proofs.runner.put_done.Goals as goal

pub put_text-requires : goal.put_text-requires
put_text-requires c = room_as c.args.out.now (said-done _ c.in-Ok.is) c.requires

pub returns-in-Ok : goal.returns-in-Ok
returns-in-Ok c = appended_as (sym (said-done _ c.in-Ok.is)) c.put_text.ensures

pub put_printed-requires : goal.put_printed-requires
put_printed-requires c = room_as c.args.out.now (said-refused _ _ c.number_of.ensures c.in-Err.is) c.requires

pub returns-in-Err : goal.returns-in-Err
returns-in-Err c = appended_as (sym (said-refused _ _ c.number_of.ensures c.in-Err.is)) c.put_printed.ensures

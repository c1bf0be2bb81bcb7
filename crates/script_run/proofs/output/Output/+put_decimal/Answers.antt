use Rattle.std.proofs.Common.{sym, arith}
use Rattle.script_run.proofs.Writing.{appended_none, appended_then, appended_as, room_first, room_next, room_as, spelled-none, spelled-digit, spelled_more}
use Rattle.script_run.proofs.output.Output.+put_decimal.Goals as goal

pub returns-then-k-eq0 : goal.returns-then-k-eq0
returns-then-k-eq0 t c = appended_as (spelled-none c.args.k c.args.n c.if-k-eq0.true) (appended_none c.args.self.now)

pub put_byte-requires : goal.put_byte-requires
put_byte-requires t c = room_as c.args.self.now (spelled-digit c.args.k c.args.n c.if-k-eq0.false c.if-n-lt10.true) c.requires

pub returns-then-n-lt10 : goal.returns-then-n-lt10
returns-then-n-lt10 t c = appended_as (sym (spelled-digit c.args.k c.args.n c.if-k-eq0.false c.if-n-lt10.true)) c.put_byte.ensures

pub put_decimal-requires : goal.put_decimal-requires
put_decimal-requires t c =
    (omega arith, room_first _ _ c.args.self.now (room_as c.args.self.now (spelled_more c.args.k c.args.n c.if-k-eq0.false c.if-n-lt10.false) c.requires))

pub put_byte-requires-else-n-lt10 : goal.put_byte-requires-else-n-lt10
put_byte-requires-else-n-lt10 t c =
    room_next _ (room_as c.args.self.now (spelled_more c.args.k c.args.n c.if-k-eq0.false c.if-n-lt10.false) c.requires) c.put_decimal.ensures

pub returns-else-n-lt10 : goal.returns-else-n-lt10
returns-else-n-lt10 t c =
    let e = spelled_more c.args.k c.args.n c.if-k-eq0.false c.if-n-lt10.false in
    appended_as (sym e) (appended_then (room_first _ _ c.args.self.now (room_as c.args.self.now e c.requires)) c.put_decimal.ensures c.put_byte-else-n-lt10.ensures)

use Rattle.std.proofs.Common.{◌≡◌, length, drop}
use Rattle.model.specs.Script.Read.{matched, no_fields}
use Rattle.script.proofs.forms.matched_line.Given as goal

abbrev pub invariant-loop-p : goal.invariant-loop-p
invariant-loop-p l = (length l.fields ≡ 6) × (matched (drop l.p-index l.pattern) l.rest l.fields ≡ matched l.pattern l.s no_fields)

use Rattle.std.proofs.Common.{◌≡◌, ◌*◌, [], ◌∷◌, ◌++◌, length, drop, sym, ◌∙◌, length-append, arith}
use Rattle.std.specs.Slice.Iter.{chunks_exact_rest, chunks_exact_size}
use Rattle.flush.proofs.Entries.{entry_offset, after_entry, entry_there, entries_over}
use Rattle.flush.proofs.Fitting.{entry_turn, entry_stop, entries_end}
use Rattle.flush.proofs.fit.entries_fit.Goals as goal

pub returns-then-not-offset_fits : goal.returns-then-not-offset_fits
returns-then-not-offset_fits c =
    let l = c.loop-entry in
    let k = length l.yielded in
    let s = c.in-Some.ensures.steps in
    let v = l.invariant in
    let list = c.args.list.now in
    let entry = c.in-Some.entry.now in
    let cut : drop (6 * k) list ≡ entry ++ chunks_exact_rest c.next.new.self = sym v.3 ∙ s.1.0 in
    let six : length entry ≡ 6 = s.1.1 ∙ v.2 in
    entry_stop list _ k v.4 (entry_there list entry _ k cut six) (c.load_four.ensures ∙ entry_offset list entry _ k cut six) c.offset_fits.ensures c.if-not-offset_fits.true

pub loop-entry-preserved : goal.loop-entry-preserved
loop-entry-preserved c =
    let l = c.loop-entry in
    let k = length l.yielded in
    let s = c.in-Some.ensures.steps in
    let v = l.invariant in
    let list = c.args.list.now in
    let entry = c.in-Some.entry.now in
    let cut : drop (6 * k) list ≡ entry ++ chunks_exact_rest c.next.new.self = sym v.3 ∙ s.1.0 in
    let six : length entry ≡ 6 = s.1.1 ∙ v.2 in
    let n : chunks_exact_size c.next.new.self ≡ 6 = s.0 ∙ v.2 in
    let m = length-append l.yielded (c.in-Some.entry ∷ []) in
    let past = entry_turn list _ k v.4 (entry_there list entry _ k cut six) (c.load_four.ensures ∙ entry_offset list entry _ k cut six) c.offset_fits.ensures c.if-not-offset_fits.false in
    (omega arith, tt, n, after_entry list entry _ k cut six _ m, rw m past)

pub returns : goal.returns
returns c =
    let v = c.loop-entry.invariant in
    let k = length c.loop-entry.yielded in
    entries_end _ _ k v.4 (entries_over c.args.list.now _ k v.3 (omega (arith, c.in-None.ensures.steps.1.0, v.2)))

-- The panel's part has its room in the record; what is taken in hand is then empty, and the record stays, or a line of it is counted.
use native.Mathlib.Omega.{arith}
use Prim.Native.Nat.{ℕ, ◌+◌, min}
use mathlib.Core.Path.{ap, ◌∙◌}
use Rattle.laws.specs.Sending.{line_follows, line-sent, idle, sends}
use Rattle.send.proofs.Hand.{panel_room, short_room, count_room}
use Rattle.send.proofs.pending.send_panel.Goals as goal

pub overflow_add-in_hand : goal.overflow_add-in_hand
overflow_add-in_hand c = omega (arith, panel_room c.args.glass c.requires.passing c.requires.start_value)

pub sent_at-counted-requires : goal.sent_at-counted-requires
sent_at-counted-requires c = short_room c.args.glass c.requires.passing c.requires.start_value

pub load_four-sent-requires : goal.load_four-sent-requires
load_four-sent-requires c =
    omega (arith, panel_room c.args.glass c.requires.passing c.requires.start_value, c.sent_at-counted.ensures)

pub take_hand-hand-requires : goal.take_hand-hand-requires
take_hand-hand-requires c = omega (arith, panel_room c.args.glass c.requires.passing c.requires.start_value)

-- nothing to send
pub returns-then-is_empty : goal.returns-then-is_empty
returns-then-is_empty c =
    record {
      line = line-sent c.args.k c.args.glass c.requires.passing.0 c.requires.passing.1 c.requires.start_value c.take_hand-hand.ensures;
      left = idle c.args.k c.args.glass c.requires.passing.0 c.requires.passing.1 c.requires.start_value c.take_hand-hand.ensures c.is_empty.ensures c.if-is_empty.true;
    }

pub next_line-requires : goal.next_line-requires
next_line-requires c =
    line_follows c.args.k c.args.glass c.requires.passing.0 c.requires.passing.1 c.requires.start_value c.take_hand-hand.ensures

pub store_rect-requires : goal.store_rect-requires
store_rect-requires c = omega (arith, panel_room c.args.glass c.requires.passing c.requires.start_value)

pub store_four-requires : goal.store_four-requires
store_four-requires c =
    count_room c.args.glass c.requires.passing c.requires.start_value c.sent_at-counted.ensures (omega (arith, c.rec-2-1.given, c.rec-1.given))

-- a line
pub returns : goal.returns
returns c =
    let counted = c.count_line.ensures ∙ ap (λ (n : ℕ). min (n + 1) 4294967295) c.load_four-sent.ensures in
    record {
      line = line-sent c.args.k c.args.glass c.requires.passing.0 c.requires.passing.1 c.requires.start_value c.take_hand-hand.ensures;
      left = sends c.args.k c.args.glass c.requires.passing.0 c.requires.passing.1 c.requires.start_value c.take_hand-hand.ensures c.is_empty.ensures c.if-is_empty.false
          c.next_line.ensures c.store_rect.ensures c.sent_at-counted.ensures counted c.store_four.ensures;
    }

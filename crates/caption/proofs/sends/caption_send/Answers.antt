-- Three ends: refused at the entry, no such panel, and what a send to that panel does.
use Rattle.std.proofs.Common.{refl, ap, [], arith, length}
use Rattle.model.specs.declared.refusal.Refusal.TheVariants as refusals
use Rattle.model.specs.Geometry.{Geometry}
use Rattle.model.specs.Glass.{glass_of}
use Rattle.model.specs.Refusals.{PANEL}
use Rattle.model.specs.Calls.{line_sent_numbers}
use Rattle.accepted.proofs.Sending.{send_done}
use Rattle.caption.proofs.Calls.{fails, passes, none_left, stops_beside, refused_later, finishes, beyond, below, entered_panel, given_panel}
use Rattle.caption.proofs.sends.caption_send.Goals as goal

pub returns-in_err-enter : goal.returns-in_err-enter
returns-in_err-enter c =
    let a = c.args in
    stops_beside _ _ refl line_sent_numbers c.from_residual.result c.from_residual.ensures.1 (entered_panel a.memory.now a.panel.now c.glass_of-glass.ensures c.in_err-enter.ensures)

pub returns-then-k-glass : goal.returns-then-k-glass
returns-then-k-glass c =
    let a = c.args in
    let g = c.glass_of-glass.ensures in
    refused_later _ _ refl (entered_panel a.memory.now a.panel.now g c.in_ok-enter.ensures) refusals.Panel (fails [] (beyond g (λ x. x.panels) refl a.number (omega (arith, c.if-k-glass.true))))

pub send_line-requires : goal.send_line-requires
send_line-requires c =
    let a = c.args in
    let g = c.glass_of-glass.ensures in
    let p = given_panel a.memory.now a.panel.now (entered_panel a.memory.now a.panel.now g c.in_ok-enter.ensures) in record {
      given = p.0;
      panel_len = (p.1, omega (arith, c.if-k-glass.false, ap (λ (x : Geometry). x.panels) g.glass));
    }

pub returns : goal.returns
returns c =
    let a = c.args in
    let g = c.glass_of-glass.ensures in
    finishes _ _ refl (entered_panel a.memory.now a.panel.now g c.in_ok-enter.ensures) (passes PANEL [] (below g (λ x. x.panels) refl a.number (omega (arith, c.if-k-glass.false))) none_left)
    (send_done (glass_of (length a.rec.now)) a.number a.rec.now a.memory.now a.panel.now c.line_sent.result c.send_line.ensures c.line_sent.ensures)

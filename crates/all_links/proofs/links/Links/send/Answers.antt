use Rattle.all_links.proofs.Terms.{ℕ, List, sym, subst, Send, beside_in, links_state}
use Rattle.spec_links.specs.Ports.{sealing_end}
use Rattle.all_links.specs.Links.{EndsSendingOrStays}
use Rattle.ide_types.specs.declared.port.PortName.{PortName}
use Rattle.all_links.proofs.Finds.{nothing_changes}
use Rattle.all_links.proofs.Sends.{nothing_sent, sends_or}
use Rattle.all_links.proofs.links.Links.send.Goals as goal

pub returns-then-not-may_send-clause-ends : goal.returns-then-not-may_send-clause-ends
returns-then-not-may_send-clause-ends c =
    nothing_changes c.args.plan.now (Send c.args.port c.args.bytes.now c.args.more c.args.trusted)
    c.only.ensures.value c.only.ensures.links c.requires.bounded
    (λ b so h links stands. nothing_sent c.args.plan.now (beside_in c.args.self.now b)
    (links_state c.args.plan.now c.args.self.now) c.args.port c.args.bytes.now c.args.more c.args.trusted
    (sym c.if-not-may_send.ensures))

pub returns-clause-ends : goal.returns-clause-ends
returns-clause-ends c =
    sends_or c.args.plan.now c.send_at_end.result c.args.self.now c.send_at_end.new.self c.args.port c.args.bytes.now
    c.args.more c.args.trusted (sym c.if-not-may_send.ensures)
    (subst (λ (bytes : List ℕ). EndsSendingOrStays c.args.plan.now c.send_at_end.result c.args.self.now
    c.send_at_end.new.self
    (sealing_end c.args.plan.now c.args.port bytes) bytes c.args.more c.args.trusted) c.of-tlp.ensures
    (subst (λ (end : PortName). EndsSendingOrStays c.args.plan.now c.send_at_end.result c.args.self.now
    c.send_at_end.new.self end
    c.of-tlp.result c.args.more c.args.trusted) c.sealing_end-end.ensures c.send_at_end.ensures.ends))

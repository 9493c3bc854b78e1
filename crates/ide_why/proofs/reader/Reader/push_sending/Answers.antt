use Rattle.std.proofs.Common.{◌≡◌, List, ◌++◌, subst, sym}
use Rattle.std.specs.Prelude.{IfOk}
use Rattle.tlp_layout.specs.{viewed_tlp}
use Rattle.tlp_layout.specs.declared.head.HeadView.{HeadView}
use Rattle.told_facts.specs.declared.fact.Fact.{Fact}
use Rattle.ide_why.specs.Facts.{stream_sends}
use Rattle.ide_why.specs.Reading.{stream_read}
use Rattle.ide_why.proofs.Taken.{sent_no_tlp, sent_on}
use Rattle.ide_why.proofs.reader.Reader.push_sending.Goals as goal

pub returns-in-Err : goal.returns-in-Err
returns-in-Err c =
    subst (λ (fs : List Fact). IfOk c.push_port-in-Err.result (λ x. c.push_port-in-Err.new.facts.items
    ≡ c.args.facts.now.items ++ fs))
    (sent_no_tlp c.args.self.now.plan.now c.args.self.now.links.now c.args.end c.args.tlp.now c.in-Err.field-0
    (sym c.in-Err.ensures)) c.push_port-in-Err.ensures

pub returns-in-Ok : goal.returns-in-Ok
returns-in-Ok c =
    subst (λ (fs : List Fact). IfOk c.push_on_stream.result (λ x. c.push_on_stream.new.facts.items
    ≡ c.args.facts.now.items ++ fs))
    (sent_on c.args.self.now.plan.now c.args.self.now.links.now c.args.end c.args.tlp.now (viewed_tlp c.in-Ok.view)
    c.in-Some.stream (sym c.in-Ok.ensures) c.in-Some.ensures)
    (subst (λ (head : HeadView). IfOk c.push_on_stream.result (λ x. c.push_on_stream.new.facts.items
    ≡ c.args.facts.now.items ++ stream_sends c.args.self.now.plan.now c.args.self.now.links.now c.args.end
    c.in-Some.stream head (stream_read c.args.self.now.plan.now c.args.self.now.links.now c.args.end c.in-Some.stream)))
    c.head.ensures c.push_on_stream.ensures)

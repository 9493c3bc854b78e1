use Rattle.ide_port.proofs.Terms.{◌≡◌, Option, Some, sym, ap, ◌∙◌, subst, Tlp, header, viewed_tlp, PortEnd}
use Rattle.std.specs.Prelude.{Result, Ok, Bool}
use Rattle.tlp_layout.specs.declared.fault.TlpFault.{TlpFault}
use Rattle.tlp_layout.specs.declared.head.HeadView.{HeadView}
use Rattle.tlp_layout.specs.declared.tlp.TlpView.{TlpView}
use Rattle.tlp_layout.specs.{viewed_result}
use Rattle.tlp_layout.specs.declared.choice.ChosenStream.{ChosenStream}
use Rattle.tlp_layout.specs.Reading.{read_of}
use Rattle.tlp_layout.specs.Outgoing.{Outgoing}
use Rattle.ide_port.specs.Ends.{found_stream}
use Rattle.ide_port.specs.Sends.{IsSendStep, IsStreamTaken, send_step, stream_step}
use Rattle.ide_port.proofs.Chosen.{on_taken}
use Rattle.ide_port.proofs.port.Port.send_chosen.Goals as goal

pub returns-in-Ok-Some : goal.returns-in-Ok-Some
returns-in-Ok-Some g c = λ number.
    let e : PortEnd = c.args.self.now in
    let t : Tlp = viewed_tlp c.in-Ok-Some.view in
    let s : ChosenStream = c.in-Ok-Some.stream in
    let sets = g.T.Trusting.trusting c.args.trusting.now in
    let is : read_of c.args.tlp.now ≡ Ok t =
    sym c.tlp.ensures ∙ ap (λ (r : Result TlpView TlpFault). viewed_result r) c.in-Ok-Some.is-0 in
    let taken : IsStreamTaken e c.args.tlp.now (Some s) =
    subst (λ (o : Option ChosenStream). IsStreamTaken e c.args.tlp.now o) c.in-Ok-Some.is-1 c.requires.taken in
    let trusts : c.is_trusted-trusted.result ≡ sets (header t) s.id =
    c.is_trusted-trusted.ensures ∙ ap (λ (h : HeadView). sets h s.id) c.head.ensures in
    subst (λ (o : Outgoing). IsSendStep e.name number c.send_on_stream.result c.send_on_stream.new.self
    c.send_on_stream.new.out
    (send_step e o c.args.more sets number)) (sym (on_taken e c.args.tlp.now t s is taken))
    (subst (λ (b : Bool). IsSendStep e.name number c.send_on_stream.result c.send_on_stream.new.self
    c.send_on_stream.new.out
    (stream_step e t c.args.more b number (found_stream e.plans e.states s.id))) trusts
    (c.send_on_stream.ensures number))

use Rattle.ide_port.proofs.Terms.{◌≡◌, None, sym, ap, ◌∙◌, subst, refl, viewed_tlp, PortEnd}
use Rattle.std.specs.Prelude.{false, Option, Result, Ok}
use Rattle.tlp_layout.specs.declared.fault.TlpFault.{TlpFault}
use Rattle.tlp_layout.specs.declared.tlp.Tlp.{Tlp}
use Rattle.tlp_layout.specs.declared.tlp.TlpView.{TlpView}
use Rattle.tlp_layout.specs.{viewed_result}
use Rattle.tlp_layout.specs.Reading.{read_of}
use Rattle.ide_port.specs.Ends.{Found, found_stream}
use Rattle.ide_port.specs.Sends.{IsSendStep, seal_step, stream_step}
use Rattle.ide_port.specs.declared.answer.Sent.TheVariants as sent
use Rattle.ide_port.proofs.Steps.{gone}
use Rattle.ide_port.proofs.port.Port.send_on.Goals as goal

pub returns-in-Ok-None : goal.returns-in-Ok-None
returns-in-Ok-None c = λ number.
    let e : PortEnd = c.args.self.now in
    let t : Tlp = viewed_tlp c.in-Ok-None.field-0-0 in
    let is : read_of c.args.tlp.now ≡ Ok t =
    sym c.tlp.ensures ∙ ap (λ (r : Result TlpView TlpFault). viewed_result r) c.in-Ok-None.is-0 in
    let none : found_stream e.plans e.states c.args.stream ≡ None =
    gone c.self.inside e c.self.view_is c.args.stream (cc) in
    subst (λ (r : Result Tlp TlpFault). IsSendStep e.name number sent.Plain e c.clear-in-Ok-None.new.self
    (seal_step e r c.args.stream c.args.trusted number)) (sym is)
    (subst (λ (o : Option Found). IsSendStep e.name number sent.Plain e c.clear-in-Ok-None.new.self
    (stream_step e t false c.args.trusted number o)) (sym none)
    (record { answered = refl; lengths = refl; bytes = c.clear-in-Ok-None.ensures; port = refl }))

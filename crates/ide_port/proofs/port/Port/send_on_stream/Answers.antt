use Rattle.ide_port.proofs.Terms.{◌≡◌, ℕ, refl, sym, ap, ◌∙◌, arith, viewed_tlp, header, body, head_bytes, class_of}
use Rattle.ide_port.proofs.Terms.{Some, StreamEnd, new_sending, PortEnd}
use Rattle.std.proofs.Common.{◌^◌}
use Rattle.ide_port.specs.Units.{UnitsAtMost}
use Rattle.ide_port.specs.StreamSends.{IsSent}
use Rattle.ide_port.proofs.Keeping.{inside, there, kept-sent}
use Rattle.ide_port.proofs.Lengths.{buffer-length}
use Rattle.tlp_layout.specs.Choice.{plan_place}
use Rattle.ide_port.proofs.Steps.{sent_as, sent-step, reads}
use Rattle.ide_port.proofs.Units.{found-has}
use Rattle.ide_port.proofs.port.Port.send_on_stream.Goals as goal
use Rattle.ide_port.proofs.port.Port.send_on_stream.Goals.{in-Ok, in-Err}

pub index_mut-stream-requires : goal.index_mut-stream-requires
index_mut-stream-requires c =
    let stands : plan_place c.self.inside.plans c.args.chosen.id ≡ Some c.args.chosen.place =
    ap (λ (e : PortEnd). plan_place e.plans c.args.chosen.id) c.self.view_is ∙ c.requires.place in
    omega (
      arith,
      inside c.self.inside c.args.chosen.id c.args.chosen.place c.self.invariant stands,
      c.self.inside.streams.ok.0,
    )

pub send-requires-clause-few : goal.send-requires-clause-few
send-requires-clause-few c =
    let stands : plan_place c.self.inside.plans c.args.chosen.id ≡ Some c.args.chosen.place =
    ap (λ (e : PortEnd). plan_place e.plans c.args.chosen.id) c.self.view_is ∙ c.requires.place in
    (found-has (UnitsAtMost (2 ^ 40)) _ _ c.args.chosen.id _ c.requires.few
    (reads c.self.inside c.args.self.now c.self.view_is c.self.invariant c.args.chosen.id c.args.chosen.place
    c.index_mut-stream.result.now stands c.index_mut-stream.ensures.value (λ f. f))).0

-- what the stream sealed, at a number
sent : (c : goal.Joined-send) (number : ℕ) → IsSent c.index_mut-stream.result.now
    (head_bytes (header (viewed_tlp c.args.tlp.now))) (body (viewed_tlp c.args.tlp.now))
    (new_sending c.self.inside.name c.index_mut-stream.result.now.id (class_of (header (viewed_tlp c.args.tlp.now)))
    c.args.more c.args.trusted) number
    c.send.result c.clear.new.self.items c.send.new.out.items c.send.new.self
sent c number =
    let stands : plan_place c.self.inside.plans c.args.chosen.id ≡ Some c.args.chosen.place =
    ap (λ (e : PortEnd). plan_place e.plans c.args.chosen.id) c.self.view_is ∙ c.requires.place in
    let k = there c.self.inside c.self.invariant c.args.chosen.id c.args.chosen.place c.index_mut-stream.result.now
    stands
    c.index_mut-stream.ensures.value in
    let side : c.index_mut-stream.result.now.side ≡ c.self.inside.name.side = ap (λ (x : StreamEnd). x.side)
    k.of_plan.plan in
    rw (← c.parts.ensures.head, ← c.parts.ensures.payload, ← c.class.ensures)
    (c.send.ensures.sent c.self.inside.name number c.args.trusted (sym side) refl)

pub invariant_of-self : goal.invariant_of-self
invariant_of-self c =
    let stands : plan_place c.self.inside.plans c.args.chosen.id ≡ Some c.args.chosen.place =
    ap (λ (e : PortEnd). plan_place e.plans c.args.chosen.id) c.self.view_is ∙ c.requires.place in
    kept-sent c.self.inside c.self.invariant c.args.chosen.id c.args.chosen.place c.index_mut-stream.result.now stands
    c.index_mut-stream.ensures.value _ _ _ _ 0 _ _ _ (sent c 0)

pub invariant_of-out : goal.invariant_of-out
invariant_of-out c = (
  buffer-length c.index_mut-stream.result.now c.send.new.self _ _ _ 0 _ _ _ (sent c 0) c.clear.ensures.items
      (rw c.parts.ensures.head at c.parts.ensures.head_short)
      (rw c.parts.ensures.payload at c.parts.ensures.payload_short),
  omega (arith, c.send.ensures.capacity, c.clear.ensures.capacity, c.out.invariant.1),
)

pub returns : goal.returns
returns c = λ number.
    let stands : plan_place c.self.inside.plans c.args.chosen.id ≡ Some c.args.chosen.place =
    ap (λ (e : PortEnd). plan_place e.plans c.args.chosen.id) c.self.view_is ∙ c.requires.place in
    let said : c.match-send.result ≡ sent_as c.send.result =
    elim c.match-send.branch
    [ in-Ok w ↦ w.result-is ∙ ap sent_as (sym w.in-Ok.is) | in-Err w ↦ w.result-is ∙ ap sent_as (sym w.in-Err.is) ]
    in
    sent-step c.self.inside c.args.self.now c.self.view_is c.self.invariant c.args.chosen.id c.args.chosen.place
    c.index_mut-stream.result.now stands
    c.index_mut-stream.ensures.value
    c.send.new.self (viewed_tlp c.args.tlp.now) c.args.more c.args.trusted number c.send.result c.match-send.result
    c.clear.new.self.items c.send.new.out.items
    c.clear.ensures.items (sent c number) said

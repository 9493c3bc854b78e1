use Rattle.ide_port.proofs.Terms.{sym, ap, ◌∙◌, arith, Go, is_one, go_answer_of_slots, place_call}
use Rattle.ide_port.proofs.Keeping.{kept-stream_after_call}
use Rattle.ide_port.proofs.Steps.{IsLane, lane-some, lane-inside, nowhere-step, stream_after_call-step}
use Rattle.ide_port.proofs.port.PortSlotPort.go.Goals as goal

pub index_mut-stream-requires : goal.index_mut-stream-requires
index_mut-stream-requires c =
    let inside = lane-inside c.self.inside c.args.place.stream c.args.place.sub c.in-Some.index c.in-Some.sub
    c.self.invariant (cc) in
    omega (arith, inside, c.self.inside.streams.ok.0)

pub returns-in-None : goal.returns-in-None
returns-in-None c =
    let x = nowhere-step c.self.inside c.args.self.now c.self.view_is c.self.invariant
    (place_call c.args.place (Go (is_one c.args.set))) (cc) in
    record {
      answer = sym (ap (λ o. go_answer_of_slots o (is_one c.args.set)) x.shows);
      moves = x.moves;
      slots = x.slots;
    }

-- the place that is called
lane : (c : goal.After-is_ok) → IsLane c.self.inside.plans c.args.place.stream c.args.place.sub c.in-Some.index
    c.in-Some.sub
lane c = lane-some c.self.inside.plans c.args.place.stream c.args.place.sub _ _ (cc)

pub invariant_of-self-in-Some : goal.invariant_of-self-in-Some
invariant_of-self-in-Some c =
    kept-stream_after_call c.self.inside c.self.invariant c.args.place.stream c.in-Some.index
    c.index_mut-stream.result.now
    (lane c).place_is c.index_mut-stream.ensures.value c.go.new.self c.args.place.direction c.in-Some.sub
    (Go (is_one c.args.set)) c.go.ensures.stream

pub returns-in-Some : goal.returns-in-Some
returns-in-Some c =
    let x = stream_after_call-step c.self.inside c.args.self.now c.self.view_is c.self.invariant
    (place_call c.args.place (Go (is_one c.args.set))) c.in-Some.index c.in-Some.sub c.index_mut-stream.result.now
    c.go.new.self (lane c) c.index_mut-stream.ensures.value c.go.ensures.stream in
    record {
      answer = c.is_ok.ensures.value ∙ c.go.ensures.answer ∙ sym
          (ap (λ o. go_answer_of_slots o (is_one c.args.set)) x.shows);
      moves = x.moves;
      slots = x.slots;
    }

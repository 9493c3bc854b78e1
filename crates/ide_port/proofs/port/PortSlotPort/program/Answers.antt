use Rattle.ide_port.proofs.Terms.{◌≡◌, sym, ap, ◌∙◌, arith, Program, is_one, program_answer_at, pair_in, place_call}
use Rattle.ide_port.proofs.Keeping.{kept-stream_after_call}
use Rattle.ide_port.proofs.Steps.{IsLane, lane-some, lane-inside, nowhere-step, stream_after_call-step, key_back}
use Rattle.ide_port.proofs.Steps.{key-back}
use Rattle.ide_port.proofs.port.PortSlotPort.program.Goals as goal
use Rattle.ide_port.proofs.port.PortSlotPort.program.Goals.{in-Ok, in-Err}

pub index_mut-stream-requires : goal.index_mut-stream-requires
index_mut-stream-requires c =
    let inside = lane-inside c.self.inside c.args.place.stream c.args.place.sub c.in-Some.index c.in-Some.sub
    c.self.invariant (cc) in
    omega (arith, inside, c.self.inside.streams.ok.0)

pub returns-in-None : goal.returns-in-None
returns-in-None c =
    let x = nowhere-step c.self.inside c.args.self.now c.self.view_is c.self.invariant
    (place_call c.args.place (Program (is_one c.args.set) c.args.key c.args.draw)) (cc) in
    let answer = sym (ap (λ o. program_answer_at o (is_one c.args.set) c.args.key) x.shows) in
    record { answer = answer; moves = x.moves; slots = x.slots }

-- the place that is called
lane : (c : goal.Joined-program) → IsLane c.self.inside.plans c.args.place.stream c.args.place.sub c.in-Some.index
    c.in-Some.sub
lane c = lane-some c.self.inside.plans c.args.place.stream c.args.place.sub _ _ (cc)

pub invariant_of-self-in-Some : goal.invariant_of-self-in-Some
invariant_of-self-in-Some c =
    kept-stream_after_call c.self.inside c.self.invariant c.args.place.stream c.in-Some.index
    c.index_mut-stream.result.now
    (lane c).place_is c.index_mut-stream.ensures.value c.program.new.self c.args.place.direction c.in-Some.sub
    (Program (is_one c.args.set) c.args.key c.args.draw)
    c.program.ensures.stream

pub returns-after-program : goal.returns-after-program
returns-after-program c =
    let x = stream_after_call-step c.self.inside c.args.self.now c.self.view_is c.self.invariant
    (place_call c.args.place (Program (is_one c.args.set) c.args.key c.args.draw))
    c.in-Some.index c.in-Some.sub c.index_mut-stream.result.now c.program.new.self (lane c)
    c.index_mut-stream.ensures.value c.program.ensures.stream in
    let said : c.match-program.result ≡ key_back c.program.result =
    elim c.match-program.branch [
      | in-Ok w ↦ w.result-is ∙ ap key_back (sym w.in-Ok.is)
      | in-Err w ↦ w.result-is ∙ ap key_back (sym w.in-Err.is)
    ] in
    record {
      answer = said ∙ ap key_back c.program.ensures.answer ∙ key-back
          (pair_in c.index_mut-stream.result.now c.args.place.direction c.in-Some.sub) (is_one c.args.set) c.args.key
          ∙ sym (ap (λ o. program_answer_at o (is_one c.args.set) c.args.key) x.shows);
      moves = x.moves;
      slots = x.slots;
    }

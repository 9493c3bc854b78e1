-- The calls of an event leave the stream as its touches do.
use Rattle.join_keys.proofs.CallTerms.{◌≡◌, Bool, arith, true, ℕ, List, ◌++◌, false, ◌∙◌, sym, ◌-◌, ap, SubKind, Plan}
use Rattle.join_keys.proofs.CallTerms.{KeyCall, Work, Reach, lane_key, StreamCall, all_called, Device, Host, Operation}
use Rattle.join_keys.proofs.CallTerms.{lane, KeyPlace, place_at_end, port_at, slots_refuse, is_some, slots_at}
use Rattle.join_keys.proofs.CallTerms.{touches_at, is_only_live, slot_pair, StreamState, SubStream, lane_out, lane_in}
use Rattle.join_keys.proofs.CallTerms.{touched_stream, IsSound, ReadsStream, CallsAreTouches, is_hosted, is_host}
use Rattle.join_keys.proofs.CallTerms.{is_local, ◌&&◌, told_call, calls_from, key_number, Pr, refl, CallsAreTold}
use Rattle.spec_links.specs.Plan.{key_of}
use Rattle.ide_types.specs.declared.port.PortName.{PortName}
use Rattle.ide_types.specs.declared.port.Side.{Side}
use Rattle.spec_keys.specs.Due.{PortView}
use Rattle.event_verdicts.specs.declared.verdict.Operation.TheVariants as op
use Rattle.join_keys.proofs.Settling.{outs, ins, with_slots, settle}
use Rattle.join_keys.proofs.Slots.{only_live_is, is_refusal, first_call, second_call, is_of}
use Rattle.join_keys.proofs.Streams.{one_if, calls_at, called_by, places_are, all_by, called_once, keyed_once}
use Rattle.join_keys.proofs.Streams.{stopped_once}
use Rattle.join_keys.proofs.Touches.{AreTouched, touches_told, touches_asked}
use Rattle.join_keys.specs.Touches.{IsReached}
use Rattle.join_keys.proofs.Exchanges.{calls_carried, kind_carried}
use Rattle.join_keys.proofs.HostCalls.{host_stream_calls, calls_asked, kind_asked}

-- ---- a place, with its key

abbrev place_lane : Bool → PortName → ℕ → SubKind → SubStream
place_lane true port stream u = lane_out port stream u
place_lane false port stream u = lane_in port stream u

same_key : (plan : Plan) (side : Side) (line stream draw : ℕ) (sends : Bool) (u : SubKind)
    → lane_key plan draw (key_number side (lane (place_at_end line stream sends side u)))
    ≡ key_of plan draw (place_lane sends (port_at side line) stream u)
unfolding key_of
same_key plan side line stream draw sends u = grind arith

-- ---- all places

-- by the kind of an operation's calls, one settling at the end is enough
once : (o : Operation) (cs : List StreamCall) (x : StreamState) → IsSound x → all_by (is_of o) cs ≡ true
    → all_called cs x ≡ called_once cs x
once op.Establish cs x sound all = keyed_once cs x all sound.settled
once op.Refresh cs x sound all = keyed_once cs x all sound.settled
once op.Stop cs x sound all = stopped_once cs x all sound.settled sound.waits

module _ (plan : Plan) (ports : PortView) (line stream : ℕ) (w : Work) (r : Reach) (side : Side) (x : StreamState)
    (sound : IsSound x)
    (reads : ReadsStream ports side line stream x) where
  -- a place at this end, and what it refuses
  abbrev at : Bool → SubKind → KeyPlace
  at sends u = place_at_end line stream sends side u

  refused_is : (sends : Bool) (u : SubKind) → is_some (ports.refusal (at sends u) w.set)
      ≡ is_only_live (slot_pair sends (slots_at sends u x)) w.set
  refused_is sends u =
      ap is_some (reads sends u w.set)
      ∙ (is_refusal (slots_refuse (slots_at sends u x) w.set)
      ∙ sym (only_live_is sends (slots_at sends u x) w.set (sound.apart sends u)))

  -- calls that are the operation's first and second at each place, and leave its slots as its touches do
  all_touched : (cs : List StreamCall) (first second : Bool → SubKind → Bool) → all_by (is_of w.operation) cs ≡ true
      → ((sends : Bool) (u : SubKind) → calls_at sends u cs
      ≡ one_if (first sends u) (first_call w (lane_key plan w.draw (key_number side (lane (at sends u)))))
      ++ one_if (second sends u) (second_call w))
      → ((sends : Bool) (u : SubKind)
      → AreTouched plan w r (at sends u) (place_lane sends (port_at side line) stream u)
      (λ k. is_some (ports.refusal (at sends u) k))
      (first sends u)
      (second sends u) (slots_at sends u x))
      → all_called cs x ≡ touched_stream plan (port_at side line) stream (λ u. touches_at ports w r (at true u))
      (λ u. touches_at ports w r (at false u)) x
  all_touched cs first second all calls touches =
      let keyed = λ (sends : Bool) (u : SubKind). ap
      (λ (key : List ℕ). one_if (first sends u) (first_call w key) ++ one_if (second sends u) (second_call w))
      (same_key plan side line stream w.draw sends u) in
      let after = λ (sends : Bool) (u : SubKind).
      ap (λ (calls : List KeyCall). called_by sends calls (slots_at sends u x)) (calls sends u ∙ keyed sends u) ∙
      touches
      sends u in
      once w.operation cs x sound all
      ∙ (λ i. settle (with_slots (λ u. (places_are true u cs (outs x u) ∙ after true u) i)
      (λ u. (places_are false u cs (ins x u) ∙ after false u) i) x))

-- the calls of the exchanges that were carried to an end
module _ (plan : Plan) (ports : PortView) (line stream : ℕ) (w : Work) (r : Reach) (hosted : Bool)
    (kind : is_hosted line ≡ hosted) (reached : IsReached hosted w r) (side : Side)
    (told : (is_host side && hosted) ≡ false) (x : StreamState) (sound : IsSound x)
    (reads : ReadsStream ports side line stream x) where
  told_is : is_local (place_at_end line stream true side Pr) ≡ false
  told_is = rw kind told

  told_touched : all_called (calls_from (told_call plan hosted side w) w.first (r.carried - w.first)) x
      ≡ touched_stream plan (port_at side line) stream
      (λ u. touches_at ports w r (place_at_end line stream true side u))
      (λ u. touches_at ports w r (place_at_end line stream false side u)) x
  told_touched =
      all_touched plan ports line stream w r side x sound reads
      (calls_from (told_call plan hosted side w) w.first (r.carried - w.first)) _ _
      (kind_carried plan hosted side w (r.carried - w.first) w.first)
      (λ sends u. calls_carried plan hosted side w sends u r.carried told reached.first
      (omega (arith, reached.goes_on, reached.carried)) reached.last)
      (λ sends u. touches_told plan w.operation w.set w.draw w.first w.begins hosted
      (place_at_end line stream sends side u) r _ _ _ kind told_is
      (refused_is plan ports line stream w r side x sound reads sends u))

pub are_touches : CallsAreTouches
are_touches plan ports line stream w r host device kind is reached host_sound device_sound host_reads device_reads =
    record {
      host_touched =
          all_touched plan ports line stream w r Host host host_sound host_reads (host_stream_calls plan stream w r) _
          _ (kind_asked plan w stream r)
          (λ sends u. calls_asked plan w line stream sends u r)
          (λ sends u. touches_asked plan w line stream sends u r _ _ _ kind
          (refused_is plan ports line stream w r Host host host_sound host_reads sends u) reached.first reached.goes_on
          reached.begins);
      device_touched = told_touched plan ports line stream w r true kind reached Device refl device device_sound
          device_reads;
    }

pub are_told : CallsAreTold
are_told plan ports line stream w r near far kind is reached near_sound far_sound near_reads far_reads = record {
  near_touched = told_touched plan ports line stream w r false kind reached Host refl near near_sound near_reads;
  far_touched = told_touched plan ports line stream w r false kind reached Device refl far far_sound far_reads;
}

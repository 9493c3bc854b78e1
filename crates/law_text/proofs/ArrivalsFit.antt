-- The verdicts of arrivals and of dumps fit: their numbers have at most 64 bits, their bytes 8. What arrives is no
-- longer than a packet that was sealed, which has a spelling of bounded size, or than an event may bring. Then each
-- test on the way to the verdict is split: draws, units and packets are bounded by the number of events, the stream is
-- one byte, and the place of a fault lies within the bytes.
use Rattle.std.proofs.Common.{◌≡◌, ℕ, zero, suc, ◌+◌, ◌-◌, ◌*◌, ◌<◌, ◌≤◌, ◌==◌, ◌^◌, Bool, true, false, List, [], ◌∷◌}
use Rattle.std.proofs.Common.{◌++◌, length, take, Some, None, Option, Ok, Err, Result, slice_get, slice_index}
use Rattle.std.proofs.Common.{slice_set, refl, sym, ◌∙◌, subst, arith, length-append, length-set, length-take}
use Rattle.std.specs.Prelude.{if◌then◌else◌, not, ◌||◌, nat_lt, nat_le, option_map, bit_xor, is_some}
use Rattle.std.specs.Option.{option_and_then}
use Rattle.hex.specs.Hex.{IsBytes}
use Rattle.ide_types.specs.declared.sub.FailCause.TheVariants as fail
use Rattle.ide_types.specs.declared.port.PortName.{PortName}
use Rattle.ide_types.specs.declared.plan.Plan.{Plan}
use Rattle.ide_types.specs.Fits.{FitsPlan}
use Rattle.script_events.specs.declared.event.Event.{Event}
use Rattle.script_events.specs.declared.event.Event.TheVariants.{
  Send,
  Pass,
  Alter,
  Cut,
  Arrive,
  Dump,
  Establish,
  Refresh,
}
use Rattle.script_events.specs.declared.event.Event.TheVariants.{
  Stop,
  Reset,
  Status,
  Interface,
  Access,
  Forward,
  Absent,
}
use Rattle.script_events.specs.Spells.{IsAllowed}
use Rattle.event_verdicts.specs.declared.verdict.Verdict.{Verdict}
use Rattle.event_verdicts.specs.declared.verdict.Verdict.TheVariants as v
use Rattle.event_verdicts.specs.declared.verdict.SealedPacket.{SealedPacket}
use Rattle.event_verdicts.specs.Apart.{Fits}
use Rattle.ide_prefix.specs.declared.fault.PacketFault.{PacketFault}
use Rattle.ide_prefix.specs.Packet.{Packet, FitsPacket, packet_bytes}
use Rattle.ide_prefix.specs.Reading.{CutValue, PlainTlp, IdePacket, cut_of}
use Rattle.ide_prefix.proofs.Cuts.{bounded}
use Rattle.ide_prefix.proofs.Grammar.{bytes_of, spelled_whole}
use Rattle.spec_keys.specs.Keys.{key_in}
use Rattle.spec_keys.specs.History.{History, base}
use Rattle.spec_links.specs.Plan.{SubStream, has_port, has_stream, stream_plan, partner}
use Rattle.spec_links.specs.History.{SealedList, ArrivedBytes, arrival_of_event, altered_arrival, arrival_at_partner}
use Rattle.spec_links.specs.History.{shortened_arrival, packet_by_number, sealed_packets, ahead_of_packet}
use Rattle.spec_links.specs.History.{sub_stream_of, units_got, is_received_under, port_keys, on_draw, has_failed}
use Rattle.spec_links.specs.History.{meets_counts, received_in, sent_bytes, sending_port}
use Rattle.spec_links.specs.Due.{Ending, dump_due, arrival_due, ending_due, before_tag, before_tag_of_cut, under_keys}
use Rattle.spec_links.specs.Due.{is_mixed, is_overfull, receiving_sub_stream, next_unit_name, is_verified}
use Rattle.spec_links.specs.Due.{unit_packets_ended, effects_of, through_due}
use Rattle.spec_links.specs.Cause.{CauseLaw}
use Rattle.spec_links.proofs.SealingIs.{IsLive, sealing_is, all_live}
use Rattle.law_key_facts.proofs.Draws.{draws as draws_hold}
use Rattle.law_key_facts.proofs.SealedKeys.{each_more, live_all, live_on}
use Rattle.law_key_facts.proofs.Unplanned.{known as on_known}
use Rattle.law_sealing.proofs.Below.{cut_fits}
use Rattle.law_sealing.proofs.OfPlans.{streams_fit}
use Rattle.law_sealing.proofs.Places.{placed}
use Rattle.law_text.proofs.Draws.{on_below, on_is}
use Rattle.law_text.proofs.FaultPlaces.{cut_place}
use Rattle.law_text.proofs.PortsFit.{with_stream, there_is, reached_is}
use Rattle.spec_links.specs.Ports.{port_of, goes_through}
use Rattle.spec_links.specs.Packets.{arrival_at}
use Rattle.spec_links.proofs.Ends.{stream_is_there}
use Rattle.ide_types.specs.Lines.{is_port}
use Rattle.ide_types.specs.Ends.{line_has, port_beside_end}
use Rattle.law_sealing.proofs.Few.{sealed_few}

-- ---- what was sealed

-- the plan has the stream of a sealed packet
abbrev IsKnown : Plan → SealedPacket → Type 0
IsKnown plan d = is_some (stream_plan plan d.port.line d.stream) ≡ true

live_known : (plan : Plan) (h : History) → CauseLaw plan h → (port : PortName) (stream : ℕ) (d : SealedPacket)
    → IsLive plan h port stream d → IsKnown plan d
live_known plan h cause port stream d live = on_known plan h cause port (sub_stream_of d) d.k d.draw
    (live_on plan h port stream d live)

all_known : (plan : Plan) (h : History) → CauseLaw plan h → (i : ℕ) (x : SealedPacket × Packet)
    → slice_get (sealed_packets plan h) i ≡ Some x → IsKnown plan x.0
unfolding sealed_packets
all_known plan [] law i x is = absurd cc
all_known plan ((e, v.Sealed ds) ∷ h) law i x is =
    let sealing = sealing_is plan h e ds law.0 in
    let port = sealing.sending.port in
    let stream = sealing.sending.stream in
    each_more (IsKnown plan) plan (ahead_of_packet plan (sealed_packets plan h) (base h)) (sent_bytes plan h e) ds
    (sealed_packets plan h)
    (live_all (IsKnown plan) plan h port stream ds (live_known plan h law.1 port stream)
    (all_live plan h (sending_port plan h e) (sent_bytes plan h e) ds sealing)) (all_known plan h law.1) i x is
all_known plan ((e, w) ∷ h) law i x is = all_known plan h law.1 i x is

record Known (plan : Plan) (h : History) (n : ℕ) (x : SealedPacket × Packet) : Type 0 where
  number : n ≤ 3 * length h
  port : is_port (port_beside_end plan.peers (partner x.0.port)) ≡ true
  fits : FitsPacket x.1

known_at : (plan : Plan) → FitsPlan plan → (h : History) → CauseLaw plan h → (n : ℕ) (x : SealedPacket × Packet)
    → packet_by_number (sealed_packets plan h) n ≡ Some x → Known plan h n x
known_at plan fits h cause n x is = by_number (n == 0) is
  where
    within : (xs : SealedList) (i : ℕ) → slice_get xs i ≡ Some x → i < length xs
    within [] i is = absurd cc
    within (y ∷ xs) zero is = omega arith
    within (y ∷ xs) (suc i) is = omega (arith, within xs i is)

    by_number : (b : Bool) → (if b then None else slice_get (sealed_packets plan h) (n - 1)) ≡ Some x → Known plan h n x
    by_number true none = absurd cc
    by_number false at =
        let is_placed = placed plan (streams_fit plan fits) (draws_hold plan) h cause (n - 1) x at in
        record {
          number = omega (arith, within (sealed_packets plan h) (n - 1) at, sealed_few plan h cause);
          port = with_stream plan fits (partner x.0.port) x.0.stream (all_known plan h cause (n - 1) x at);
          fits = is_placed.fits;
        }

size_of_packet : (p : Packet) → FitsPacket p → length (packet_bytes p) ≤ 4128
size_of_packet p fits =
    let sizes = bounded p fits in
    let tag : length p.tag ≤ 12 = by_m p.prefix.m fits.tag_size in
    omega (arith, sizes.1, sizes.2, length-append p.head (p.body ++ p.tag), length-append p.body p.tag, tag)
  where
    by_m : (m : Bool) → length p.tag ≡ (if m then 12 else 0) → length p.tag ≤ 12
    by_m true is = omega arith
    by_m false is = omega arith

bytes_of_packet : (p : Packet) → FitsPacket p → IsBytes (packet_bytes p)
bytes_of_packet p fits =
    let spelled = spelled_whole (packet_bytes p)
    (record { packet = p; spells = record { fits = fits; spelled = refl } }) in
    bytes_of (packet_bytes p) spelled.walked

-- ---- what arrives

record FitsArrival (plan : Plan) (a : ArrivedBytes) : Type 0 where
  port : is_port (port_of plan a.port) ≡ true
  size : length a.bytes < 2 ^ 64

same_arrival : (a b : ArrivedBytes) → Some a ≡ Some b → a ≡ b
same_arrival a b is = cc

brought_fits : (plan : Plan) → FitsPlan plan
    → (h : History) (n : ℕ) (x : SealedPacket × Packet) (bytes : List ℕ) (a : ArrivedBytes) → Known plan h n x
    → length bytes ≤ length (packet_bytes x.1) → Some (arrival_at_partner plan x bytes) ≡ Some a → FitsArrival plan a
brought_fits plan fits h n x bytes a known small is =
    subst (FitsArrival plan) (same_arrival (arrival_at_partner plan x bytes) a is)
    (record {
      port = reached_is plan fits (partner x.0.port) bytes known.port;
      size = omega
          (arith, small, size_of_packet x.1 known.fits);
    })

-- bytes of a packet that come or do not
if_brought : (plan : Plan) → FitsPlan plan → (h : History) (n : ℕ) (x : SealedPacket × Packet) (bytes : List ℕ)
    (a : ArrivedBytes) → Known plan h n x → length bytes ≤ length (packet_bytes x.1) → (b : Bool)
    → (if b then Some (arrival_at_partner plan x bytes) else None) ≡ Some a → FitsArrival plan a
if_brought plan fits h n x bytes a known small true is = brought_fits plan fits h n x bytes a known small is
if_brought plan fits h n x bytes a known small false is = absurd cc

arrival_fits : (plan : Plan) → FitsPlan plan → (h : History) → CauseLaw plan h → (e : Event) → IsAllowed e
    → (a : ArrivedBytes) → arrival_of_event plan h e ≡ Some a → FitsArrival plan a
unfolding arrival_of_event
arrival_fits plan fits h cause (Pass n) allowed a is = by_packet (packet_by_number (sealed_packets plan h) n) refl is
  where
    by_packet : (o : Option (SealedPacket × Packet)) → packet_by_number (sealed_packets plan h) n ≡ o
        → option_map (λ (x : SealedPacket × Packet). arrival_at_partner plan x (packet_bytes x.1)) o ≡ Some a
        → FitsArrival plan a
    by_packet None at is = absurd cc
    by_packet (Some x) at is = brought_fits plan fits h n x (packet_bytes x.1) a (known_at plan fits h cause n x at)
        (omega arith) is
arrival_fits plan fits h cause (Alter n place mask) allowed a is =
    by_packet (packet_by_number (sealed_packets plan h) n) refl
    is
  where
    by_packet : (o : Option (SealedPacket × Packet)) → packet_by_number (sealed_packets plan h) n ≡ o
        → option_and_then (altered_arrival plan place mask) o ≡ Some a → FitsArrival plan a
    by_packet None at is = absurd cc
    by_packet (Some x) at is =
        let bytes = packet_bytes x.1 in
        if_brought plan fits h n x (slice_set bytes place (bit_xor (slice_index bytes place) mask)) a
        (known_at plan fits h cause n x at)
        (omega (arith, length-set bytes place (bit_xor (slice_index bytes place) mask)))
        (nat_lt place (length bytes)) is
arrival_fits plan fits h cause (Cut n size) allowed a is =
    by_packet (packet_by_number (sealed_packets plan h) n) refl is
  where
    by_packet : (o : Option (SealedPacket × Packet)) → packet_by_number (sealed_packets plan h) n ≡ o
        → option_and_then (shortened_arrival plan size) o ≡ Some a → FitsArrival plan a
    by_packet None at is = absurd cc
    by_packet (Some x) at is =
        if_brought plan fits h n x (take size (packet_bytes x.1)) a (known_at plan fits h cause n x at)
        (omega (arith, length-take size (packet_bytes x.1))) (nat_le size (length (packet_bytes x.1))) is
arrival_fits plan fits h cause (Arrive port bytes) allowed a is = by_port (has_port plan port) refl is
  where
    by_port : (b : Bool) → has_port plan port ≡ b → (if b then Some (arrival_at plan port bytes) else None)
        ≡ Some a → FitsArrival plan a
    by_port false here is = absurd cc
    by_port true here is = subst (FitsArrival plan) (same_arrival (arrival_at plan port bytes) a is)
        (record { port = reached_is plan fits port bytes (there_is plan fits port here); size = allowed.1 })
arrival_fits plan fits h cause (Send port bytes more trusted) allowed a is = absurd cc
arrival_fits plan fits h cause (Dump n) allowed a is = absurd cc
arrival_fits plan fits h cause (Establish line stream lose) allowed a is = absurd cc
arrival_fits plan fits h cause (Refresh line stream lose) allowed a is = absurd cc
arrival_fits plan fits h cause (Stop line stream lose) allowed a is = absurd cc
arrival_fits plan fits h cause (Reset link ends) allowed a is = absurd cc
arrival_fits plan fits h cause (Forward link d) allowed a is = absurd cc
arrival_fits plan fits h cause Absent allowed a is = absurd cc
arrival_fits plan fits h cause (Status line stream) allowed a is = absurd cc
arrival_fits plan fits h cause (Interface e) allowed a is = absurd cc
arrival_fits plan fits h cause (Access e) allowed a is = absurd cc

-- ---- the verdict

got_few : (h : History) (s : SubStream) (j : ℕ) → units_got h s j ≤ length h
unfolding units_got
got_few [] s j = omega arith
got_few ((e, v.Accepted port unit effects) ∷ h) s j = by_test (is_received_under s j port unit) (got_few h s j)
  where
    by_test : (b : Bool) → units_got h s j ≤ length h → (if b then units_got h s j + 1 else units_got h s j) ≤ suc
        (length h)
    by_test true few = omega (arith, few)
    by_test false few = omega (arith, few)
got_few (_ ∷ h) s j = omega (arith, got_few h s j)

-- a packet's verdict before the tag, or its unit
abbrev FitsStep : Plan → PortName → Result Ending Verdict → Type 0
FitsStep plan port (Err w) = Fits plan w
FitsStep plan port (Ok x) = Fits plan (v.Held port x.unit)

under_fits : (plan : Plan) (h : History) (port : PortName) (p : Packet)
    → line_has plan port.line p.prefix.stream ≡ true → length h < 2 ^ 28 → p.prefix.stream < 2 ^ 64
    → (o other : Option ℕ) → on_draw h port (receiving_sub_stream port p) p.prefix.k ≡ o
    → FitsStep plan port (under_keys plan h port p o other)
under_fits plan h port p there few stream None None is = (there, stream)
under_fits plan h port p there few stream None (Some i) is = (there, stream)
under_fits plan h port p there few stream (Some j) other is =
    by_tests (is_mixed plan h (receiving_sub_stream port p) other
    || is_overfull plan h (receiving_sub_stream port p) j p.prefix.m) p.prefix.m
  where
    unit : Fits plan (v.Held port (next_unit_name h (receiving_sub_stream port p) j))
    unit =
        let s = receiving_sub_stream port p in
        let draw = on_below h port s p.prefix.k j (on_is (key_in (port_keys h port s) p.prefix.k) j is) in
        ((there, stream), omega (arith, few, draw), omega (arith, few, got_few h s j))

    by_tests : (bad m : Bool) → FitsStep plan port (if bad then Err (v.Fail port p.prefix.stream p.prefix.sub fail.Unit)
        else if m then Ok (record { packet = p; unit = next_unit_name h (receiving_sub_stream port p) j }) else Err
        (v.Held port (next_unit_name h (receiving_sub_stream port p) j)))
    by_tests true m = (there, stream)
    by_tests false true = unit
    by_tests false false = unit

cut_step_fits : (plan : Plan) → FitsPlan plan → (h : History) (a : ArrivedBytes) → FitsArrival plan a
    → length h < 2 ^ 28
    → (r : Result CutValue PacketFault) → cut_of a.bytes ≡ r → FitsStep plan a.port (before_tag_of_cut plan h a.port r)
cut_step_fits plan plan_fits h a fits few (Err f) cut = (fits.port, omega (arith, fits.size, cut_place a.bytes f cut))
cut_step_fits plan plan_fits h a fits few (Ok PlainTlp) cut = fits.port
cut_step_fits plan plan_fits h a fits few (Ok (IdePacket p)) cut = by_tests (has_stream plan a.port p.prefix.stream)
    (has_failed h a.port p.prefix.stream) refl
  where
    stream : p.prefix.stream < 2 ^ 64
    stream = omega (arith, (cut_fits a.bytes p cut).prefix.stream)

    there : has_stream plan a.port p.prefix.stream ≡ true → line_has plan a.port.line p.prefix.stream ≡ true
    there known = sym (stream_is_there plan a.port.line p.prefix.stream) ∙ known

    by_tests : (known bad : Bool) → has_stream plan a.port p.prefix.stream ≡ known → FitsStep plan a.port
        (if not known then Err (v.Unknown (port_of plan a.port) p.prefix.stream) else if bad then Err
        (v.Insecure a.port p.prefix.stream)
        else under_keys plan h a.port p (on_draw h a.port (receiving_sub_stream a.port p) p.prefix.k)
        (on_draw h a.port (receiving_sub_stream a.port p) (not p.prefix.k)))
    by_tests false bad is = (fits.port, stream)
    by_tests true true is = (there is, stream)
    by_tests true false is = under_fits plan h a.port p (there is) few stream _ _ refl

-- bytes that a switch leaves unread, or a step
through_fits : (plan : Plan) (h : History) (a : ArrivedBytes) → FitsArrival plan a
    → (b : Bool) (r : Result Ending Verdict)
    → FitsStep plan a.port r → FitsStep plan a.port (if b then Err (through_due plan a.port) else r)
through_fits plan h a fits true r step = fits.port
through_fits plan h a fits false r step = step

settled_fits : (plan : Plan) (h : History) (port : PortName) (r : Result Ending Verdict) → FitsStep plan port r
    → Fits plan (ending_due plan h port r)
settled_fits plan h port (Err w) step = step
settled_fits plan h port (Ok x) step = by_tests (is_verified plan h port x)
    (meets_counts plan h (received_in port x.unit) (unit_packets_ended plan h port x))
  where
    by_tests : (verified counts : Bool) → Fits plan
        (if not verified then v.Fail port x.unit.stream x.unit.sub fail.Tag
        else if not counts then v.Fail port x.unit.stream x.unit.sub fail.Order
        else v.Accepted port x.unit (effects_of plan h port x.unit (unit_packets_ended plan h port x)))
    by_tests false counts = step.0
    by_tests true false = step.0
    by_tests true true = step

pub arrival_due_fits : (plan : Plan) → FitsPlan plan → (h : History) → CauseLaw plan h → length h < 2 ^ 28 → (e : Event)
    → IsAllowed e → (o : Option ArrivedBytes) → arrival_of_event plan h e ≡ o → Fits plan (arrival_due plan h o)
unfolding before_tag
arrival_due_fits plan fits h cause few e allowed None is = tt
arrival_due_fits plan fits h cause few e allowed (Some a) is =
    let arrives = arrival_fits plan fits h cause e allowed a is in
    settled_fits plan h a.port (before_tag plan h a)
    (through_fits plan h a arrives (goes_through plan a.port a.bytes) (before_tag_of_cut plan h a.port (cut_of a.bytes))
    (cut_step_fits plan fits h a arrives few (cut_of a.bytes) refl))

pub dump_due_fits : (plan : Plan) → FitsPlan plan → (h : History) → CauseLaw plan h → length h < 2 ^ 28
    → (n : ℕ) (o : Option (SealedPacket × Packet)) → packet_by_number (sealed_packets plan h) n ≡ o
    → Fits plan (dump_due n o)
dump_due_fits plan fits h cause few n None is = tt
dump_due_fits plan fits h cause few n (Some x) is =
    let known = known_at plan fits h cause n x is in
    (omega (arith, few, known.number), bytes_of_packet x.1 known.fits)

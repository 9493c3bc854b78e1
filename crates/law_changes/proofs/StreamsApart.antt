-- An event on a stream leaves all other streams: what its verdict tells of packets is of that stream alone.
use Rattle.law_sealing.proofs.Terms.{◌≡◌, ℕ, ◌==◌, ◌&&◌, ◌||◌, Bool, true, false, List, [], ◌∷◌, Option, Some, None, Ok}
use Rattle.law_sealing.proofs.Terms.{refl, ap, sym, ◌∙◌, arith, nat_tests, Plan}
use Rattle.law_sealing.proofs.Terms.{History, PortName, Packet, SealedPacket, SubStream, CauseLaw}
use Rattle.law_sealing.proofs.Terms.{AllByRecursion, ArrivedBytes, arrival_of_event}
use Rattle.law_sealing.proofs.Terms.{is_same, sub_stream_of, sub_stream_packets, received_in}
use Rattle.law_sealing.proofs.Terms.{ahead_of_packet, sent_packets}
unfoldable use Rattle.law_sealing.proofs.Terms.{due, accepted_packets, packets_in_hold, sealed_packets}
unfoldable use Rattle.spec_keys.specs.History.{base}
use Rattle.std.proofs.lemmas.Bool.{eqb-true}
use Rattle.spec_keys.proofs.Tests.{both-true}
use Rattle.ide_types.specs.declared.port.Side.{Side}
use Rattle.ide_prefix.proofs.Cuts.{cuts_iff}
use Rattle.spec_keys.specs.Places.{KeyPlace, is_on_stream, is_line_reset, key_place_at}
use Rattle.spec_keys.specs.Keys.{Touch, keys}
use Rattle.spec_keys.specs.Operations.{StreamStage, StreamOperations, Reach, reach_of, manager_after_operation}
use Rattle.spec_keys.specs.History.{place_keys, touches, touches_after, came, seal_touches, draws, op_of}
use Rattle.spec_keys.specs.History.{fails_there}
unfoldable use Rattle.spec_keys.specs.History.{failed_there, manager, moments}
use Rattle.spec_links.specs.Terms.{Event, Verdict, Establish, Refresh, Stop, Reset, Send, Access}
use Rattle.spec_links.specs.Terms.{IdePacket, cut_of, UnitName, WaitingRead}
use Rattle.spec_links.specs.Ports.{id_in}
use Rattle.spec_links.specs.History.{sent_bytes, sending_port}
use Rattle.spec_links.proofs.Ends.{id_is}
use Rattle.spec_links.proofs.Tests.{eqb-refl}
use Rattle.spec_links.proofs.Causes.{accepted_by, held_by, Came, sealed_by_sealing, is_sealing, is_routed}
use Rattle.spec_links.proofs.Causes.{sealing_comes}
use Rattle.law_reads.proofs.Responses.{responded_by}
use Rattle.spec_links.proofs.SealingIs.{sealing_is, AllLive, all_live}
use Rattle.spec_links.proofs.Sealed.{left_alone, sent-same}
use Rattle.tlp_layout.specs.Outgoing.{Outgoing, stream_taken}
use Rattle.law_key_facts.proofs.RealFacts.{uncleared}
use Rattle.law_locks.proofs.Fronts.{pairs_due}
use Rattle.ide_types.specs.declared.sub.SubKind.{SubKind}
use Rattle.law_changes.specs.StreamsApart.{acts_on, sends_on, came_on, brings_on, LeavesOthers}
use Rattle.law_changes.specs.Statements.{ApartLawHolds}
use Rattle.law_changes.proofs.Inert.{stays_failed}
use Rattle.law_changes.proofs.Resets.{same_key}
use Rattle.law_verdicts.proofs.Failed.{failed_by}
use Rattle.event_verdicts.specs.Causes.{is_stream}
use Rattle.event_verdicts.specs.declared.verdict.Operation.{Operation}
use Rattle.event_verdicts.specs.declared.verdict.Operation.TheVariants as op
use Rattle.script_events.specs.declared.event.Event.TheVariants.{Forward, Pass, Alter, Cut, Arrive}
use Rattle.script_events.specs.declared.event.AccessEvent.TheVariants as ae
use Rattle.event_verdicts.specs.declared.verdict.Verdict.TheVariants as v

-- ---- what a verdict tells of

abbrev is_here : ℕ → ℕ → ℕ → ℕ → Bool
is_here line stream l s = (l == line) && (s == stream)

-- nothing of this stream
abbrev IsOff : ℕ → ℕ → Verdict → Type 0
IsOff line stream (v.Sealed ds) =
    AllByRecursion (λ (d : SealedPacket). is_here line stream d.port.line d.stream ≡ false) ds
IsOff line stream (v.Accepted port unit effects) = is_here line stream port.line unit.stream ≡ false
IsOff line stream (v.Held port unit) = is_here line stream port.line unit.stream ≡ false
IsOff line stream (v.Fail port s sub cause) = is_here line stream port.line s ≡ false
IsOff line stream w = Unit {0}

brings_is : (plan : Plan) (h : History) (e : Event) (a : ArrivedBytes) (line stream : ℕ)
    → arrival_of_event plan h e ≡ Some a → acts_on plan h e line stream ≡ brings_on (Some a) line stream
unfolding arrival_of_event
brings_is plan h (Pass n) a line stream is = ap (λ o. brings_on o line stream) is
brings_is plan h (Alter n at mask) a line stream is = ap (λ o. brings_on o line stream) is
brings_is plan h (Cut n len) a line stream is = ap (λ o. brings_on o line stream) is
brings_is plan h (Arrive port bytes) a line stream is = ap (λ o. brings_on o line stream) is
brings_is plan h e a line stream is = absurd cc

-- what the bytes name is what the packet names
cut_names : (bytes : List ℕ) (p : Packet) → cut_of bytes ≡ Ok (IdePacket p) → id_in bytes ≡ Some p.prefix.stream
cut_names bytes p is = ap id_in ((cuts_iff p bytes).1 is).spelled ∙ id_is p

turned : (a line s stream : ℕ) → ((a == line) && (stream == s)) ≡ false → is_here line stream a s ≡ false
turned a line s stream is = grind (arith, nat_tests)

came_off : (plan : Plan) (h : History) (e : Event) (port : PortName) (p : Packet) (line stream s : ℕ)
    → Came plan h e port p → s ≡ p.prefix.stream → acts_on plan h e line stream ≡ false
    → is_here line stream port.line s ≡ false
came_off plan h e port p line stream s came same off =
    let there = sym (brings_is plan h e (record { port = port; bytes = came.bytes }) line stream came.arrival) ∙ off in
    let names = cut_names came.bytes p came.cut in
    let at : ((port.line == line) && is_stream stream (Some p.prefix.stream)) ≡ false =
    ap (λ (o : Option ℕ). (port.line == line) && is_stream stream o) (sym names) ∙ there in
    turned port.line line s stream (ap (λ (n : ℕ). (port.line == line) && (stream == n)) same ∙ at)

-- ---- what is sealed

sends_is : (plan : Plan) (h : History) (e : Event) (line stream : ℕ) → is_sealing e ≡ true → is_routed e ≡ true
    → acts_on plan h e line stream ≡ sends_on plan h e line stream
sends_is plan h (Send port bytes more trusted) line stream seals routed = refl
sends_is plan h (Access (ae.Answer link)) line stream seals routed = refl
sends_is plan h (Access (ae.Respond link)) line stream seals routed = absurd cc
sends_is plan h (Forward link d) line stream seals routed = refl
sends_is plan h e line stream seals routed = absurd cc

all_off : (plan : Plan) (h : History) (port : PortName) (s line stream : ℕ) (ds : List SealedPacket)
    → is_here line stream port.line s ≡ false → AllLive plan h port s ds
    → AllByRecursion (λ (d : SealedPacket). is_here line stream d.port.line d.stream ≡ false) ds
all_off plan h port s line stream [] off all = tt
all_off plan h port s line stream (d ∷ ds) off all = (
  (λ i. is_here line stream (all.0.port_is i).line (all.0.stream_is i)) ∙ off,
  all_off plan h port s line stream ds off all.1,
)

routed_off : (plan : Plan) (h : History) (e : Event) (ds : List SealedPacket) (line stream : ℕ)
    → v.Sealed ds ≡ due plan h e → is_routed e ≡ true → acts_on plan h e line stream ≡ false
    → IsOff line stream (v.Sealed ds)
routed_off plan h e ds line stream is routed off =
    let s = sealing_is plan h e ds is in
    let there = sym (sends_is plan h e line stream (sealed_by_sealing plan h e ds is) routed) ∙ off in
    let at : (((sending_port plan h e).line == line) && (stream == s.sending.stream)) ≡ false =
    ap (λ (o : Outgoing). ((sending_port plan h e).line == line) && is_stream stream (stream_taken o))
    (sym (sealing_comes plan h e ds is routed)) ∙ there in
    all_off plan h s.sending.port s.sending.stream line stream ds
    (ap (λ (q : PortName). is_here line stream q.line s.sending.stream) s.at_port
    ∙ turned (sending_port plan h e).line line s.sending.stream stream at)
    (all_live plan h (sending_port plan h e) (sent_bytes plan h e) ds s)

-- a response is on the stream on which its read came
response_off : (plan : Plan) (h : History) (link : ℕ) (ds : List SealedPacket) (line stream : ℕ)
    → v.Sealed ds ≡ due plan h (Access (ae.Respond link)) → acts_on plan h (Access (ae.Respond link)) line stream
    ≡ false
    → IsOff line stream (v.Sealed ds)
response_off plan h link ds line stream is off =
    let told = responded_by plan h link ds is in
    let s = told.sealed.sealing in
    let there : is_here line stream told.read.came.end.line told.read.came.stream ≡ false =
    ap (λ (rs : List WaitingRead). came_on rs line stream) (sym told.waits) ∙ off in
    all_off plan h s.sending.port s.sending.stream line stream ds
    ((λ i. is_here line stream (s.at_port i).line (told.sealed.on_stream i)) ∙ there)
    (all_live plan h told.read.came.end (sent_bytes plan h (Access (ae.Respond link))) ds s)

sealed_off : (plan : Plan) (h : History) (e : Event) (ds : List SealedPacket) (line stream : ℕ)
    → v.Sealed ds ≡ due plan h e → acts_on plan h e line stream ≡ false → IsOff line stream (v.Sealed ds)
sealed_off plan h (Access (ae.Respond link)) ds line stream is off = response_off plan h link ds line stream is off
sealed_off plan h e ds line stream is off = routed_off plan h e ds line stream is refl off

off : (plan : Plan) (h : History) (e : Event) (w : Verdict) (line stream : ℕ) → w ≡ due plan h e
    → acts_on plan h e line stream ≡ false → IsOff line stream w
off plan h e (v.Sealed ds) line stream is apart = sealed_off plan h e ds line stream is apart
off plan h e (v.Accepted port unit effects) line stream is apart =
    let by = accepted_by plan h e port unit effects is in
    came_off plan h e port by.packet line stream unit.stream by.came
    (ap (λ (u : UnitName). u.stream) by.passed.named) apart
off plan h e (v.Held port unit) line stream is apart =
    let by = held_by plan h e port unit is in
    came_off plan h e port by.packet line stream unit.stream by.came
    (ap (λ (u : UnitName). u.stream) by.passed.named) apart
off plan h e (v.Fail port s sub cause) line stream is apart =
    let by = failed_by plan h e port s sub cause is in
    came_off plan h e port by.packet line stream s by.came (sym by.of_stream) apart
off plan h e w line stream is apart = tt

-- ---- keys and operations

is_off_place : (p : KeyPlace) (line stream l s : ℕ) → is_on_stream p line stream ≡ true
    → is_here line stream l s ≡ false → is_on_stream p l s ≡ false
is_off_place p line stream l s on apart = grind (arith, nat_tests)

no_seals : (p : KeyPlace) (line stream : ℕ) (ds : List SealedPacket) → is_on_stream p line stream ≡ true
    → IsOff line stream (v.Sealed ds) → seal_touches p ds ≡ []
no_seals p line stream [] on apart = refl
no_seals p line stream (d ∷ ds) on apart =
    let here = is_off_place p line stream d.port.line d.stream on apart.0 in
    let rest = no_seals p line stream ds on apart.1 in
    grind (arith, here, rest)

none_came : (p : KeyPlace) (w : Verdict) (line stream : ℕ) → is_on_stream p line stream ≡ true → IsOff line stream w
    → came p w ≡ []
none_came p (v.Sealed ds) line stream on apart = no_seals p line stream ds on apart
none_came p (v.Accepted port unit effects) line stream on apart =
    let here = is_off_place p line stream port.line unit.stream on apart in
    grind (arith, here)
none_came p w line stream on apart = refl

on_line : (p : KeyPlace) (line stream : ℕ) → is_on_stream p line stream ≡ true → p.line ≡ line
on_line p line stream on = eqb-true p.line line (both-true (p.line == line) (p.stream == stream) on).0

untouched : (plan : Plan) (h : History) (ops : ℕ → ℕ → StreamStage) (n : ℕ) (e : Event) (w : Verdict) (p : KeyPlace)
    (line stream : ℕ) → is_on_stream p line stream ≡ true → acts_on plan h e line stream ≡ false
    → IsOff line stream w → touches ops n e w p ≡ []
untouched plan h ops n (Establish l s loss) w p line stream on apart none =
    rw (is_off_place p line stream l s on apart) refl
untouched plan h ops n (Refresh l s loss) w p line stream on apart none =
    rw (is_off_place p line stream l s on apart) refl
untouched plan h ops n (Stop l s loss) w p line stream on apart none =
    rw (is_off_place p line stream l s on apart) refl
untouched plan h ops n (Reset l ends) (v.Reset k) p line stream on apart none =
    let here : is_line_reset ends p.line ≡ false = ap (is_line_reset ends) (on_line p line stream on) ∙ apart in
    rw (uncleared ends p.side p.line here) refl
untouched plan h ops n (Reset l ends) _ p line stream on apart none = refl
untouched plan h ops n e w p line stream on apart none = none_came p w line stream on none

same_keys : (plan : Plan) (h : History) (e : Event) (w : Verdict) (line stream : ℕ)
    → acts_on plan h e line stream ≡ false → IsOff line stream w → (p : KeyPlace) → is_on_stream p line stream ≡ true
    → place_keys ((e, w) ∷ h) p ≡ place_keys h p
unfolding moments
same_keys plan h e w line stream apart none p on =
    ap (λ (ts : List Touch). keys p.sends (touches_after (moments h p) ts))
    (untouched plan h (manager h).ops (draws h) e w p line stream on apart none)

none_fails : (side : Side) (w : Verdict) (line stream : ℕ) → IsOff line stream w
    → fails_there side line stream w ≡ false
none_fails side (v.Fail port s sub cause) line stream apart = grind (arith, nat_tests)
none_fails side w line stream apart = refl

own_place : (side : Side) (line stream : ℕ) (up : Bool) (u : SubKind)
    → is_on_stream (key_place_at side line stream up u) line stream ≡ true
own_place side line stream up u = rw (eqb-refl line, eqb-refl stream) refl

same_failures : (plan : Plan) (h : History) (e : Event) (w : Verdict) (line stream : ℕ)
    → acts_on plan h e line stream ≡ false → IsOff line stream w → (side : Side)
    → failed_there ((e, w) ∷ h) side line stream ≡ failed_there h side line stream
unfolding failed_there
same_failures plan h e w line stream apart none side =
    let keyed = same_key (place_keys ((e, w) ∷ h)) (place_keys h) side line stream
    (λ up u. same_keys plan h e w line stream apart none (key_place_at side line stream up u)
    (own_place side line stream up u)) in
    (λ i. (none_fails side w line stream none i || failed_there h side line stream) && keyed i)
    ∙ stays_failed h side line stream

other_operation : (m : StreamOperations) (o : Operation) (l s : ℕ) (r : Option Reach) (line stream : ℕ)
    → is_here line stream l s ≡ false → (manager_after_operation m o l s r).ops line stream ≡ m.ops line stream
other_operation m o l s None line stream apart = refl
other_operation m o l s (Some r) line stream apart =
    let here : ((line == l) && (stream == s)) ≡ false = grind (arith, nat_tests) in
    rw here refl

same_operation : (plan : Plan) (h : History) (e : Event) (w : Verdict) (line stream : ℕ)
    → acts_on plan h e line stream ≡ false → op_of ((e, w) ∷ h) line stream ≡ op_of h line stream
unfolding manager
same_operation plan h (Establish l s loss) w line stream apart =
    other_operation (manager h) op.Establish l s (reach_of op.Establish w) line stream apart
same_operation plan h (Refresh l s loss) w line stream apart =
    other_operation (manager h) op.Refresh l s (reach_of op.Refresh w) line stream apart
same_operation plan h (Stop l s loss) w line stream apart =
    other_operation (manager h) op.Stop l s (reach_of op.Stop w) line stream apart
same_operation plan h (Reset l ends) (v.Reset k) line stream apart = rw apart refl
same_operation plan h (Reset l ends) _ line stream apart = refl
same_operation plan h _ w line stream apart = refl

same_base : (plan : Plan) (h : History) (e : Event) (w : Verdict) (line stream : ℕ)
    → acts_on plan h e line stream ≡ false → base ((e, w) ∷ h) line stream ≡ base h line stream
unfolding base
same_base plan h (Establish l s loss) w line stream apart = rw apart refl
same_base plan h _ w line stream apart = refl

-- ---- packets

other_stream : (s : SubStream) (line stream : ℕ) (port : PortName) (unit : UnitName) → s.line ≡ line
    → s.stream ≡ stream → is_here line stream port.line unit.stream ≡ false → is_same (received_in port unit) s ≡ false
other_stream s line stream port unit one two apart = grind (arith, nat_tests)

same_accepted : (plan : Plan) (h : History) (e : Event) (w : Verdict) (line stream : ℕ) → IsOff line stream w
    → (s : SubStream) (j : ℕ) → s.line ≡ line → s.stream ≡ stream
    → accepted_packets plan ((e, w) ∷ h) s j ≡ accepted_packets plan h s j
unfolding accepted_packets
same_accepted plan h e (v.Accepted port unit effects) line stream apart s j one two =
    rw (other_stream s line stream port unit one two apart) refl
same_accepted plan h e w line stream apart s j one two = refl

same_held : (plan : Plan) (h : History) (e : Event) (w : Verdict) (line stream : ℕ) → IsOff line stream w
    → (s : SubStream) (j n : ℕ) → s.line ≡ line → s.stream ≡ stream
    → packets_in_hold plan ((e, w) ∷ h) s j n ≡ packets_in_hold plan h s j n
unfolding packets_in_hold
same_held plan h e (v.Held port unit) line stream apart s j n one two =
    rw (other_stream s line stream port unit one two apart) refl
same_held plan h e w line stream apart s j n one two = refl

other_sealed : (s : SubStream) (line stream : ℕ) (d : SealedPacket) → s.line ≡ line → s.stream ≡ stream
    → is_here line stream d.port.line d.stream ≡ false → is_same (sub_stream_of d) s ≡ false
other_sealed s line stream d one two apart = grind (arith, nat_tests)

same_sealed : (plan : Plan) (h : History) (e : Event) (w : Verdict) (line stream : ℕ) → IsOff line stream w
    → (s : SubStream) (j : ℕ) → s.line ≡ line → s.stream ≡ stream
    → sent_packets plan ((e, w) ∷ h) s j ≡ sent_packets plan h s j
unfolding sealed_packets
same_sealed plan h e (v.Sealed ds) line stream apart s j one two =
    left_alone (λ xs. sub_stream_packets xs s j) (λ d. is_here line stream d.port.line d.stream ≡ false)
    (λ xs d p here. sent-same xs (d, p) s j (other_sealed s line stream d one two here)) plan
    (ahead_of_packet plan (sealed_packets plan h) (base h)) (sent_bytes plan h e) ds (sealed_packets plan h) apart
same_sealed plan h e w line stream apart s j one two = refl

-- ---- the pair

apart : (plan : Plan) (h : History) (e : Event) (w : Verdict) → CauseLaw plan ((e, w) ∷ h) → LeavesOthers plan h e w
apart plan h e w cause line stream other =
    let none = off plan h e w line stream cause.0 other in
    record {
      keys = same_keys plan h e w line stream other none;
      failures = same_failures plan h e w line stream other none;
      operations = same_operation plan h e w line stream other;
      bases = same_base plan h e w line stream other;
      sealed = same_sealed plan h e w line stream none;
      accepted = same_accepted plan h e w line stream none;
      held = same_held plan h e w line stream none;
    }

pub streams_apart : ApartLawHolds
streams_apart plan h cause = pairs_due plan (LeavesOthers plan) (apart plan) h cause

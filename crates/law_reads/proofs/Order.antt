-- What answers took are the first of the reads that were queued, and no more than 64 wait. An accepted unit queues at
-- the end, while there is room, and nothing else touches the reads of a link but its reset.
use Rattle.spec_links.specs.Ports.{at_switch, port_of}
use Rattle.spec_links.specs.Admission.{switch_effect}
use Rattle.spec_links.proofs.Terms.{◌≡◌, ℕ, ◌+◌, ◌<◌, ◌≤◌, ◌==◌, Bool, true, false, List, [], ◌∷◌, ◌++◌}
use Rattle.spec_links.proofs.Terms.{length, Option, Some, None, Result, Ok, Err, refl, ap, sym, subst, ◌∙◌}
use Rattle.spec_links.proofs.Terms.{arith, nat_tests, nat_le, if◌then◌else◌, length-append, append-nil, Plan, History}
use Rattle.spec_links.proofs.Terms.{Event, Verdict, Sealed, Accepted, UnitName, Effect, Packet, PortName, SealedPacket}
use Rattle.spec_links.proofs.Terms.{CauseLaw, Access, Reset, waiting_reads, sealed_packets, effects_of}
unfoldable use Rattle.spec_links.proofs.Terms.{due}
use Rattle.spec_links.proofs.Causes.{accepted_by, unit_that_ends}
use Rattle.spec_links.proofs.Growth.{packets_grow, at_front}
use Rattle.std.specs.Option.{option_or}
use Rattle.std.proofs.lemmas.List.{length-drop}
use Rattle.ide_types.specs.Sub.{sent_direction}
use Rattle.ide_types.specs.declared.plan.Region.{Region}
use Rattle.tlp_layout.specs.declared.head.HeadView.{HeadView}
use Rattle.tlp_layout.specs.declared.fault.TlpFault.{TlpFault}
use Rattle.tlp_layout.specs.Reading.{read_head_of}
use Rattle.ide_prefix.specs.Packet.{is_sync_packet}
use Rattle.trusted_memory.specs.declared.grant.Grant.{Grant}
use Rattle.trusted_memory.specs.declared.span.Span.{Span}
use Rattle.trusted_memory.specs.declared.read.MemReadView.{MemReadView}
use Rattle.trusted_memory.specs.Requests.{memory_read}
use Rattle.trusted_memory.specs.Spans.{write_span}
use Rattle.trusted_memory.specs.Causes.{block_cause, block_effect, write_effect}
use Rattle.trusted_memory.specs.Waiting.{read_cause, read_effect, effect_by_read, request_effect}
use Rattle.guarded_memory.specs.declared.status.InterfaceStatus.{InterfaceStatus}
use Rattle.guarded_memory.specs.declared.claims.Claim.{Claim}
use Rattle.guarded_memory.specs.Claims.{claim_of}
use Rattle.guarded_memory.specs.Causes.{mmio_cause, cause_effect, claim_effect, mmio_effect}
use Rattle.spec_links.specs.Memory.{Policy, policy_at, effect_by, effects_each, waiting_then, unit_grant, host_effect}
use Rattle.spec_links.specs.Memory.{device_effect, unit_ended, queued_reads}
unfoldable use Rattle.spec_links.specs.Sent.{reads_taken, queued_in}
use Rattle.spec_links.specs.Sent.{answers_at, unit_accepted, reads_by, read_in, read_of_target, targets_at, arrival_of}
use Rattle.spec_links.specs.Plan.{is_same_port}
use Rattle.spec_links.proofs.Tests.{same_port}
use Rattle.spec_links.specs.Terms.{ReadArrival, ReadTarget, history_statuses}
use Rattle.ide_types.specs.Ports.{host_port, device_port}
use Rattle.guarded_memory.specs.DeviceReads.{device_request_effect, effect_by_device_read, claimed_read_effect}
use Rattle.event_verdicts.specs.declared.verdict.BlockCause.{BlockCause}
use Rattle.event_verdicts.specs.declared.verdict.BlockCause.TheVariants as blocks
use Rattle.event_verdicts.specs.declared.verdict.Effect.TheVariants as effect
use Rattle.script_events.specs.declared.event.AccessEvent.TheVariants as ae
use Rattle.event_verdicts.specs.declared.access.AccessVerdict.TheVariants as av
use Rattle.event_verdicts.specs.declared.verdict.Verdict.TheVariants as v
use Rattle.law_reads.specs.Order.{TakesFirst, FewWait, ReadsInOrder}
use Rattle.law_reads.proofs.ByNumber.{IsBehind, unit_same, queued_same}
use Rattle.law_reads.proofs.Oldest.{takes, first_means}

pub here_after : (plan : Plan) (h : History) (e : Event) (w : Verdict) → CauseLaw plan ((e, w) ∷ h) → (link : PortName)
    → queued_in plan (sealed_packets plan ((e, w) ∷ h)) h link ≡ queued_reads plan h link
here_after plan h e w cause link =
    let grown = packets_grow plan h e w in
    queued_same plan h cause.1 (sealed_packets plan ((e, w) ∷ h)) (sealed_packets plan h) (grown.0, grown.1)
    ([], append-nil (sealed_packets plan h)) link

-- an answer that took a read found one
found : (plan : Plan) (h : History) (e : Event) (w : Verdict) (link : PortName) → CauseLaw plan ((e, w) ∷ h)
    → takes w ≡ true
    → answers_at link e ≡ true → reads_taken h link < length (queued_reads plan h link)
unfolding due
found plan h (Access (ae.Answer l)) w link cause take is =
    let first = first_means plan h (host_port l) _ w take cause.0 in
    subst (λ (k : PortName). reads_taken h k < length (queued_reads plan h k)) (same_port (host_port l) link is)
    (at_front (queued_reads plan h (host_port l)) [] (reads_taken h (host_port l)) first.read first.oldest).1
found plan h (Access (ae.Respond l)) w link cause take is =
    let first = first_means plan h (device_port l) _ w take cause.0 in
    subst (λ (k : PortName). reads_taken h k < length (queued_reads plan h k)) (same_port (device_port l) link is)
    (at_front (queued_reads plan h (device_port l)) [] (reads_taken h (device_port l)) first.read first.oldest).1
found plan h e w link cause take is = absurd cc

took_one : (plan : Plan) (h : History) (e : Event) (w : Verdict) (link : PortName) (n : ℕ)
    → CauseLaw plan ((e, w) ∷ h) → takes w
    ≡ true → n ≡ length (queued_reads plan h link) → reads_taken h link ≤ length (queued_reads plan h link)
    → (if answers_at link e then reads_taken h link + 1 else reads_taken h link) ≤ n
took_one plan h e w link n cause take same le = by (answers_at link e) refl
  where
    by : (b : Bool) → answers_at link e ≡ b → (if b then reads_taken h link + 1 else reads_taken h link) ≤ n
    by true is = let less = found plan h e w link cause take is in omega (arith, less, same)
    by false is = omega (arith, le, same)

pub takes_first : (plan : Plan) (h : History) → CauseLaw plan h → TakesFirst plan h
unfolding reads_taken queued_in
takes_first plan [] cause link = omega arith
takes_first plan ((e, Sealed ds) ∷ h) cause link = took_one plan h e (Sealed ds) link _ cause refl
    (ap length (here_after plan h e (Sealed ds) cause link)) (takes_first plan h cause.1 link)
takes_first plan ((e, v.Access (av.Dropped i c)) ∷ h) cause link =
    took_one plan h e (v.Access (av.Dropped i c)) link _ cause refl
    (ap length (here_after plan h e (v.Access (av.Dropped i c)) cause link))
    (takes_first plan h cause.1 link)
takes_first plan ((e, Accepted port unit effects) ∷ h) cause link =
    let le = takes_first plan h cause.1 link in
    let same = ap length (here_after plan h e (Accepted port unit effects) cause link) in
    by (is_same_port (port_of plan port) link) (omega (arith, le, same))
  where
    xs : List (SealedPacket × Packet)
    xs = sealed_packets plan ((e, Accepted port unit effects) ∷ h)

    by : (b : Bool) → reads_taken h link ≤ length
        (queued_in plan (sealed_packets plan ((e, Accepted port unit effects) ∷ h)) h link)
        → reads_taken h link ≤ length
        (if b then queued_in plan (sealed_packets plan ((e, Accepted port unit effects) ∷ h)) h link
        ++ reads_by (targets_at link.side (history_statuses plan h link.line)) port unit effects
        (unit_accepted plan (sealed_packets plan ((e, Accepted port unit effects) ∷ h)) h e port unit)
        else queued_in plan (sealed_packets plan ((e, Accepted port unit effects) ∷ h)) h link)
    by true le = omega (
      arith,
      le,
      length-append (queued_in plan xs h link)
          (reads_by (targets_at link.side (history_statuses plan h link.line)) port unit effects (unit_accepted plan
          xs h e port unit)),
    )
    by false le = le
takes_first plan ((Reset k ends, v.Reset l) ∷ h) cause link =
    let le = takes_first plan h cause.1 link in
    let same = ap length (here_after plan h (Reset k ends) (v.Reset l) cause link) in
    by (l == link.line) (omega (arith, le, same))
  where
    by : (b : Bool) → reads_taken h link ≤ length
        (queued_in plan (sealed_packets plan ((Reset k ends, v.Reset l) ∷ h)) h link)
        → (if b then 0 else reads_taken h link) ≤ length
        (if b then [] else queued_in plan (sealed_packets plan ((Reset k ends, v.Reset l) ∷ h)) h link)
    by true le = omega arith
    by false le = le
takes_first plan ((e, w) ∷ h) cause link =
    let le = takes_first plan h cause.1 link in
    let same = ap length (here_after plan h e w cause link) in
    omega (arith, le, same)

-- ---- few wait

block_waits : (o : Option BlockCause) → block_effect o ≡ effect.Queued → ⊥
block_waits None is = absurd cc
block_waits (Some c) is = absurd cc

unblocked : (o : Option BlockCause) → read_effect o ≡ effect.Queued → o ≡ None
unblocked None is = refl
unblocked (Some c) is = absurd cc

-- at a host's port a trusted read alone is queued, if nothing blocks it
pub record QueuedRequest (regions : List Region) (t : Bool) (g : Grant) (n : ℕ) (head : HeadView) : Type 0 where
  pub read : MemReadView
  pub is_read : memory_read head ≡ Some read
  pub trusted : t ≡ true
  pub unblocked : read_cause regions read.span g n ≡ None

pub request_waits : (regions : List Region) (t : Bool) (g : Grant) (n : ℕ) (head : HeadView)
    → request_effect regions t g n head ≡ effect.Queued → QueuedRequest regions t g n head
request_waits regions t g n head is = by (memory_read head) t refl refl is
  where
    by : (o : Option MemReadView) (b : Bool) → memory_read head ≡ o → t ≡ b
        → effect_by_read regions b g n o (write_effect regions b g (write_span head)) ≡ effect.Queued
        → QueuedRequest regions t g n head
    by None b reads same is = absurd (write_waits (write_span head) is)
      where
        write_waits : (o : Option Span) → write_effect regions b g o ≡ effect.Queued → ⊥
        write_waits None is = absurd cc
        write_waits (Some s) is = block_waits (block_cause regions s b g) is
    by (Some r) false reads same is = absurd cc
    by (Some r) true reads same is = record
        { read = r; is_read = reads; trusted = same; unblocked = unblocked (read_cause regions r.span g n) is }

room_if : (b : Bool) (c : BlockCause) → (if b then Some c else None) ≡ None → b ≡ false
room_if true c is = absurd cc
room_if false c is = refl

has_room : (o : Option BlockCause) (n : ℕ) → option_or o (if nat_le 64 n then Some blocks.Full else None) ≡ None
    → n < 64
has_room (Some c) n is = absurd cc
has_room None n is = let less = room_if (nat_le 64 n) blocks.Full is in grind (arith, nat_tests)

request_room : (regions : List Region) (t : Bool) (g : Grant) (n : ℕ) (head : HeadView)
    → request_effect regions t g n head ≡ effect.Queued → n < 64
request_room regions t g n head is =
    let waits = request_waits regions t g n head is in
    has_room (block_cause regions waits.read.span true g) n waits.unblocked

claim_room : (o : Option Claim) (s : Span) (t : Bool) (stream draw n : ℕ)
    → claimed_read_effect o s t stream draw n ≡ effect.Queued → n < 64
claim_room None s t stream draw n is = absurd cc
claim_room (Some c) s t stream draw n is = by c.status.reads is
  where
    by : (b : Bool) → (if b then read_effect (option_or (mmio_cause c.status c.range s t stream draw)
        (if nat_le 64 n then Some blocks.Full else None)) else effect.Delivered) ≡ effect.Queued → n < 64
    by true is = has_room (mmio_cause c.status c.range s t stream draw) n (unblocked _ is)
    by false is = absurd cc

cause_waits : (o : Option BlockCause) → cause_effect o ≡ effect.Queued → ⊥
cause_waits None is = absurd cc
cause_waits (Some c) is = absurd cc

claim_waits : (o : Option Claim) (s : Span) (t : Bool) (stream draw : ℕ)
    → claim_effect o s t stream draw ≡ effect.Queued → ⊥
claim_waits None s t stream draw is = absurd cc
claim_waits (Some c) s t stream draw is = cause_waits (mmio_cause c.status c.range s t stream draw) is

mmio_waits : (xs : List InterfaceStatus) (t : Bool) (stream draw : ℕ) (o : Option Span)
    → mmio_effect xs t stream draw o ≡ effect.Queued → ⊥
mmio_waits xs t stream draw None is = absurd cc
mmio_waits xs t stream draw (Some s) is = claim_waits (claim_of xs s) s t stream draw is

device_request_room : (xs : List InterfaceStatus) (t : Bool) (stream draw n : ℕ) (head : HeadView)
    → device_request_effect xs t stream draw n head ≡ effect.Queued → n < 64
device_request_room xs t stream draw n head is = by (memory_read head) is
  where
    by : (o : Option MemReadView)
        → effect_by_device_read xs t stream draw n o (mmio_effect xs t stream draw (write_span head)) ≡ effect.Queued
        → n < 64
    by None is = absurd (mmio_waits xs t stream draw (write_span head) is)
    by (Some r) is = claim_room (claim_of xs r.span) r.span t stream draw n is

-- at a device's port too
pub device_room : (xs : List InterfaceStatus) (n : ℕ) (unit : UnitName) (p : Packet) (r : Result HeadView TlpFault)
    → device_effect xs n unit p r ≡ effect.Queued → n < 64
device_room xs n unit p (Err f) is = absurd cc
device_room xs n unit p (Ok head) is = device_request_room xs p.prefix.t unit.stream unit.draw n head is

effect_room : (plan : Plan) (policy : Policy) (n : ℕ) (port : PortName) (unit : UnitName) (p : Packet)
    → effect_by plan policy n port unit p ≡ effect.Queued → n < 64
effect_room plan policy n port unit p is =
    by (is_sync_packet p) (at_switch plan port) (sent_direction port.side == 0) (read_head_of p.head) is
  where
    by : (a c b : Bool) (r : Result HeadView TlpFault)
        → (if a then effect.Sync else if c then switch_effect else if b then host_effect plan policy.grants n port
        unit p r
        else device_effect (policy.statuses port.line) n unit p r) ≡ effect.Queued → n < 64
    by true c b r is = absurd cc
    by false true b r is = absurd cc
    by false false false r is = device_room (policy.statuses port.line) n unit p r is
    by false false true (Err f) is = absurd cc
    by false false true (Ok head) is = request_room plan.memory p.prefix.t
        (unit_grant policy.grants port unit head) n head is

one_read : (target : Span → Option ReadTarget) (came : ReadArrival) (o : Option MemReadView)
    → length (read_of_target target came o) ≤ 1
one_read target came (Some read) = omega arith
one_read target came None = omega arith

one_in : (target : Span → Option ReadTarget) (came : ReadArrival) (r : Result HeadView TlpFault)
    → length (read_in target came r) ≤ 1
one_in target came (Ok head) = one_read target came (memory_read head)
one_in target came (Err f) = omega arith

unit_room : (plan : Plan) (policy : Policy) (target : Span → Option ReadTarget) (end port : PortName) (unit : UnitName)
    (ps : List Packet) (n : ℕ) → n ≤ 64
    → n + length (reads_by target end unit (effects_each plan policy n port unit ps) ps) ≤ 64
unit_room plan policy target end port unit [] n le = omega (arith, le)
unit_room plan policy target end port unit (p ∷ ps) n le =
    by (λ k few. unit_room plan policy target end port unit ps k few) (effect_by plan policy n port unit p) refl
  where
    by : ((k : ℕ) → k ≤ 64 → k + length (reads_by target end unit (effects_each plan policy k port unit ps) ps) ≤ 64)
        → (e : Effect) → effect_by plan policy n port unit p ≡ e
        → n + length (reads_by target end unit (e ∷ effects_each plan policy (waiting_then e n) port unit ps) (p ∷ ps))
        ≤ 64
    by more effect.Queued is =
        let less = effect_room plan policy n port unit p is in
        let rest = more (n + 1) (omega (arith, less)) in
        let one = one_in target (arrival_of end unit p) (read_head_of p.head) in
        let both = length-append (read_in target (arrival_of end unit p) (read_head_of p.head))
        (reads_by target end unit (effects_each plan policy (n + 1) port unit ps) ps) in
        omega (arith, rest, one, both)
    by more effect.Sync is = more n le
    by more effect.Delivered is = more n le
    by more effect.Applied is = more n le
    by more effect.Stored is = more n le
    by more effect.Waiting is = more n le
    by more (effect.Blocked c) is = more n le

-- those that an accepted unit queues find room
unit_few : (plan : Plan) (h : History) (e : Event) (port : PortName) (unit : UnitName) (effects : List Effect)
    → CauseLaw plan ((e, Accepted port unit effects) ∷ h) → (link : PortName) → port_of plan port ≡ link
    → length (waiting_reads plan h link) ≤ 64 → length (waiting_reads plan h link) + length
    (reads_by (targets_at link.side (history_statuses plan h link.line)) port unit effects (unit_ended plan h e port
    unit)) ≤ 64
unit_few plan h e port unit effects cause link same few =
    let by = accepted_by plan h e port unit effects cause.0 in
    let ends = unit_that_ends plan h e port unit by.packet by.came by.passed in
    let effects_are : effects ≡ effects_of plan h port unit (unit_ended plan h e port unit) = by.effects_are ∙ ap
    (λ (ps : List Packet). effects_of plan h port unit ps) (sym ends) in
    let room = unit_room plan (policy_at plan h) (targets_at link.side (history_statuses plan h link.line)) port
    (port_of plan port) unit (unit_ended plan h e port unit)
    (length (waiting_reads plan h link)) few in
    let at = ap (λ (l : PortName). effects_each plan (policy_at plan h) (length (waiting_reads plan h l)) (port_of
    plan port)
    unit
    (unit_ended plan h e port unit)) same in
    subst (λ (es : List Effect). length (waiting_reads plan h link) + length
    (reads_by (targets_at link.side (history_statuses plan h link.line)) port unit es (unit_ended plan h e port unit))
    ≤ 64) (sym (effects_are ∙ at)) room

-- so many wait at most
few_more : (plan : Plan) (h : History) → CauseLaw plan h → (link : PortName)
    → length (queued_reads plan h link) ≤ reads_taken h link + 64
unfolding reads_taken queued_in
few_more plan [] cause link = omega arith
few_more plan ((e, Sealed ds) ∷ h) cause link =
    let le = few_more plan h cause.1 link in
    let same = ap length (here_after plan h e (Sealed ds) cause link) in
    by (answers_at link e) (omega (arith, le, same))
  where
    by : (b : Bool) → length (queued_in plan (sealed_packets plan ((e, Sealed ds) ∷ h)) h link) ≤ reads_taken h link +
        64
        → length (queued_in plan (sealed_packets plan ((e, Sealed ds) ∷ h)) h link) ≤
        (if b then reads_taken h link + 1 else reads_taken h link) + 64
    by true le = omega (arith, le)
    by false le = le
few_more plan ((e, v.Access (av.Dropped i c)) ∷ h) cause link =
    let le = few_more plan h cause.1 link in
    let same = ap length (here_after plan h e (v.Access (av.Dropped i c)) cause link) in
    by (answers_at link e) (omega (arith, le, same))
  where
    by : (b : Bool) → length (queued_in plan (sealed_packets plan ((e, v.Access (av.Dropped i c)) ∷ h)) h link) ≤
        reads_taken
        h link + 64
        → length (queued_in plan (sealed_packets plan ((e, v.Access (av.Dropped i c)) ∷ h)) h link) ≤
        (if b then reads_taken h link + 1 else reads_taken h link) + 64
    by true le = omega (arith, le)
    by false le = le
few_more plan ((Reset k ends, v.Reset l) ∷ h) cause link =
    let le = few_more plan h cause.1 link in
    let same = ap length (here_after plan h (Reset k ends) (v.Reset l) cause link) in
    by (l == link.line) (omega (arith, le, same))
  where
    by : (b : Bool) → length (queued_in plan (sealed_packets plan
        ((Reset k ends, v.Reset l) ∷ h)) h link) ≤ reads_taken h
        link +
        64
        → length (if b then [] else queued_in plan (sealed_packets plan ((Reset k ends, v.Reset l) ∷ h)) h link) ≤
        (if b then 0 else reads_taken h link) + 64
    by true le = omega arith
    by false le = le
few_more plan ((e, Accepted port unit effects) ∷ h) cause link =
    let le = few_more plan h cause.1 link in
    let same = ap length (here_after plan h e (Accepted port unit effects) cause link) in
    by (is_same_port (port_of plan port) link) refl (omega (arith, le, same)) le same
  where
    xs : List (SealedPacket × Packet)
    xs = sealed_packets plan ((e, Accepted port unit effects) ∷ h)

    behind : IsBehind plan h (sealed_packets plan ((e, Accepted port unit effects) ∷ h))
    behind = let grown = packets_grow plan h e (Accepted port unit effects) in (grown.0, grown.1)

    by : (b : Bool) → (is_same_port (port_of plan port) link) ≡ b → length
        (queued_in plan (sealed_packets plan ((e, Accepted port unit effects) ∷ h)) h link) ≤ reads_taken h link + 64
        → length (queued_reads plan h link) ≤ reads_taken h link + 64
        → length (queued_in plan (sealed_packets plan ((e, Accepted port unit effects) ∷ h)) h link)
        ≡ length (queued_reads plan h link)
        → length (if b then queued_in plan (sealed_packets plan ((e, Accepted port unit effects) ∷ h)) h link
        ++ reads_by (targets_at link.side (history_statuses plan h link.line)) port unit effects
        (unit_accepted plan (sealed_packets plan ((e, Accepted port unit effects) ∷ h)) h e port unit)
        else queued_in plan (sealed_packets plan ((e, Accepted port unit effects) ∷ h)) h link) ≤ reads_taken h link +
        64
    by true here le few same =
        let drops = length-drop (reads_taken h link) (queued_reads plan h link) in
        let first = takes_first plan h cause.1 link in
        let room = unit_few plan h e port unit effects cause link (same_port (port_of plan port) link here)
        (omega (arith, drops, few)) in
        let us = ap (λ (ps : List Packet). length (reads_by (targets_at link.side (history_statuses plan h link.line))
        port unit effects ps))
        (unit_same plan h e port unit effects cause xs behind) in
        omega (
          arith,
          room,
          us,
          same,
          drops,
          first,
          length-append (queued_in plan xs h link)
              (reads_by (targets_at link.side (history_statuses plan h link.line)) port unit effects (unit_accepted
              plan xs h e port unit)),
        )
    by false here le few same = le
few_more plan ((e, w) ∷ h) cause link =
    let le = few_more plan h cause.1 link in
    let same = ap length (here_after plan h e w cause link) in
    omega (arith, le, same)

few_wait : (plan : Plan) (h : History) → CauseLaw plan h → FewWait plan h
few_wait plan h cause link =
    let le = few_more plan h cause link in omega
    (arith, le, length-drop (reads_taken h link) (queued_reads plan h link))

pub reads_in_order : ReadsInOrder
reads_in_order plan h cause = (takes_first plan h cause, few_wait plan h cause)

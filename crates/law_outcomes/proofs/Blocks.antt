-- Each blocked effect, and each dropped read, has the first cause that holds.
use Rattle.std.proofs.Common.{◌≡◌, ℕ, zero, suc, ◌+◌, ◌*◌, ◌%◌, ◌≤◌, ◌==◌, ◌&&◌, Bool, true, false, List, [], ◌∷◌, ◌++◌}
use Rattle.std.proofs.Common.{length, Option, Some, None, Result, Ok, Err, refl, ap, sym, ◌∙◌, arith, if◌then◌else◌}
use Rattle.std.specs.Prelude.{not, nat_le, nat_lt, slice_get, ◌||◌}
use Rattle.std.specs.List.{list_any, AllByRecursion}
use Rattle.std.specs.Option.{option_or, option_and_then, option_map, unwrap_or}
use Rattle.std.proofs.lemmas.Bool.Decides.{nat_tests}
use Rattle.ide_types.specs.Ports.{host_port}
use Rattle.ide_types.specs.declared.plan.Region.{Region}
use Rattle.ide_types.specs.declared.binding.Binding.{Binding}
use Rattle.tlp_layout.specs.declared.head.HeadView.{HeadView}
use Rattle.tlp_layout.specs.declared.head.Fields.{Fields}
use Rattle.tlp_layout.specs.declared.head.Fields.TheVariants.{Memory, Config, Message, Completion}
use Rattle.trusted_memory.specs.declared.span.Span.{Span}
use Rattle.trusted_memory.specs.declared.read.MemReadView.{MemReadView}
use Rattle.trusted_memory.specs.Spans.{crosses, write_span, span_of, double_words, span_of_fields}
use Rattle.trusted_memory.specs.Regions.{in_one_region, holds_all}
use Rattle.trusted_memory.specs.Requests.{memory_read, read_with}
use Rattle.trusted_memory.specs.Causes.{grant_cause, place_cause, block_cause, block_effect, write_effect}
use Rattle.trusted_memory.specs.Waiting.{full_cause, read_cause, read_effect, effect_by_read, request_effect}
use Rattle.spec_interfaces.specs.Terms.{View, Unlocked, Locked, Running, Doubt, Broken}
use Rattle.spec_interfaces.specs.Views.{view_at, floor_at, granted_to, grant_at, bound_if}
use Rattle.spec_links.specs.Terms.{PortName, Plan, Event, Effect, UnitName, Verdict, Accepted, Packet, History}
use Rattle.spec_links.specs.Terms.{TlpFault, Site, site_of_requester, owner_site, owner_id, is_sync_packet}
use Rattle.spec_links.specs.Terms.{read_head_of, Access, header, Host, Device, sent_direction, history_statuses}
use Rattle.event_verdicts.specs.declared.verdict.BlockCause.{BlockCause}
use Rattle.event_verdicts.specs.declared.verdict.BlockCause.TheVariants as cause
use Rattle.event_verdicts.specs.declared.verdict.Effect.TheVariants as effect
use Rattle.event_verdicts.specs.Causes.{binding_cause, is_stream}
use Rattle.law_outcomes.specs.Blocks.{first_holding, grant_causes, has_bytes, is_across, place_causes, write_causes}
use Rattle.law_outcomes.specs.Blocks.{read_causes, cause_of_read, cause_of_request, cause_at_host, cause_in, is_running}
use Rattle.law_outcomes.specs.Blocks.{is_open_claim, is_bound_on, is_below, claim_causes, cause_of_claim}
use Rattle.law_outcomes.specs.Blocks.{cause_of_device_read, device_read_causes, cause_by_claims, cause_at_device}
use Rattle.law_outcomes.specs.Blocks.{cause_of_packet, is_sync_effect, queued_count}
use Rattle.law_outcomes.specs.Blocks.{IsBlockedByCause, DropsByCause, HasCauses, drop_in, takes_own}
use Rattle.trusted_memory.specs.declared.grant.Grant.{Grant}
use Rattle.spec_links.specs.Cause.{CauseLaw}
use Rattle.spec_links.specs.Due.{send_due, completion_verdict, answer_judged, judged_by, sent_from, is_before}
use Rattle.spec_links.specs.Due.{draw_of, outgoing_completion, lanes_at, refusals, first_that_holds}
unfoldable use Rattle.spec_links.specs.Due.{due}
use Rattle.spec_links.specs.History.{KeyName, live_key}
use Rattle.spec_links.specs.Plan.{lane_out}
use Rattle.spec_links.specs.Ports.{port_of, at_switch}
use Rattle.spec_links.specs.Memory.{unit_ended, waiting_reads, policy_at}
use Rattle.tlp_layout.specs.Outgoing.{Outgoing, NoTlp, OnNone, OnStream, stream_taken}
use Rattle.tlp_layout.specs.Class.{class_of}
use Rattle.ide_types.specs.declared.sub.SubKind.TheVariants.{Cpl}
use Rattle.law_locks.proofs.{effects_there}
use Rattle.script_events.specs.declared.event.AccessEvent.TheVariants as ae
use Rattle.ide_types.specs.declared.verdict.InterfaceVerdict.TheVariants as iv
use Rattle.event_verdicts.specs.declared.verdict.Verdict.TheVariants as v
use Rattle.guarded_memory.specs.declared.claims.Claim.{Claim}
use Rattle.guarded_memory.specs.declared.status.InterfaceStatus.{InterfaceStatus}
use Rattle.guarded_memory.specs.Claims.{claim_of}
use Rattle.guarded_memory.specs.DeviceReads.{claimed_read_effect, device_read_cause, effect_by_device_read}
use Rattle.guarded_memory.specs.Statuses.{is_config_unlocked, is_in_run}
use Rattle.guarded_memory.specs.Causes.{floor_cause, mmio_cause, access_cause, cause_effect, claim_effect, mmio_effect}
use Rattle.interface_state.specs.Bindings.{floor_on}
use Rattle.spec_links.specs.Admission.{unit_grant, requester_bound, host_effect, device_effect, switch_effect}
use Rattle.spec_links.specs.Admission.{effect_by, effects_each, waiting_then, Policy}
use Rattle.ide_types.specs.declared.port.Side.{Side}

-- why a read of an interface with this binding is dropped, by the stream that its completion takes
abbrev drop_cause : Option ℕ → ℕ → Option Binding → Option BlockCause
drop_cause taken draw None = Some cause.NotRunning
drop_cause taken draw (Some bound) = binding_cause bound taken draw

-- ---- first causes

abbrev Causes : Type 0
Causes = List (Bool × BlockCause)

first_of_both : (xs ys : Causes) → first_holding (xs ++ ys) ≡ option_or (first_holding xs) (first_holding ys)
first_of_both [] ys = refl
first_of_both ((true, c) ∷ xs) ys = refl
first_of_both ((false, c) ∷ xs) ys = first_of_both xs ys

-- ---- where bytes lie

across_is : (address bytes : ℕ) → 1 ≤ bytes → is_across address bytes ≡ nat_lt 4096 (address % 4096 + bytes)
across_is address bytes some = grind (arith, nat_tests)

region_is : (r : Region) (address bytes : ℕ) → 1 ≤ bytes → has_bytes address bytes r ≡ holds_all r address bytes
region_is r address bytes some = grind (arith, nat_tests)

regions_are : (rs : List Region) (address bytes : ℕ) → 1 ≤ bytes
    → list_any (has_bytes address bytes) rs ≡ in_one_region rs address bytes
regions_are [] address bytes some = refl
regions_are (r ∷ rs) address bytes some = rw (region_is r address bytes some, regions_are rs address bytes some) refl

place_is : (rs : List Region) (s : Span) → 1 ≤ s.length
    → first_holding (place_causes rs s.address (4 * s.length)) ≡ place_cause rs s
place_is rs s some =
    rw (regions_are rs s.address (4 * s.length) (omega arith), across_is s.address (4 * s.length) (omega arith)) refl

words_some : (length : ℕ) → 1 ≤ double_words length
words_some length = grind (arith, nat_tests)

fields_some : (length : ℕ) (f : Fields) (s : Span) → span_of_fields length f ≡ Some s → 1 ≤ s.length
fields_some length (Memory f) s is =
    let same = ap (option_map (λ (z : Span). z.length)) is in
    let least = words_some length in
    let e : double_words length ≡ s.length = cc in
    omega (arith, e, least)
fields_some length (Config f) s is = absurd cc
fields_some length (Message f) s is = absurd cc
fields_some length (Completion f) s is = absurd cc

write_some : (head : HeadView) (s : Span) → write_span head ≡ Some s → 1 ≤ s.length
write_some head s is = by head.has_payload is
  where
    by : (b : Bool) → (if b then span_of head else None) ≡ Some s → 1 ≤ s.length
    by true e = fields_some head.lead.length head.fields s e
    by false e = absurd cc

-- ---- what the manager grants

view_grants : (view : View) (s f stream draw : ℕ) (bound_is below : Bool) → bound_is ≡ (s == stream)
    → below ≡ nat_lt draw f
    → first_holding ((not (is_running view), cause.NotRunning) ∷ (not bound_is, cause.WrongStream)
    ∷ (below, cause.Stale) ∷ []) ≡ grant_cause (bound_if view s f) stream draw
view_grants Running s f stream draw bound_is below one two = rw (one, two) (grind arith)
view_grants Unlocked s f stream draw bound_is below one two = refl
view_grants Locked s f stream draw bound_is below one two = refl
view_grants Doubt s f stream draw bound_is below one two = refl
view_grants Broken s f stream draw bound_is below one two = refl

grants_are : (h : History) (o : Option Site) (stream draw : ℕ)
    → first_holding (grant_causes h o stream draw) ≡ grant_cause (granted_to h o) stream draw
grants_are h None stream draw = refl
grants_are h (Some x) stream draw =
    view_grants (view_at h x) x.plan.stream (floor_at h x) stream draw (x.plan.stream == stream)
    (nat_lt draw (floor_at h x)) refl refl

-- ---- a host's port

write_is : (plan : Plan) (h : History) (o : Option Site) (t : Bool) (stream draw : ℕ) (s : Span) → 1 ≤ s.length
    → first_holding (write_causes plan h o t stream draw s.address (4 * s.length))
    ≡ block_cause plan.memory s t (record { bound = granted_to h o; stream = stream; draw = draw })
write_is plan h o false stream draw s some = refl
write_is plan h o true stream draw s some =
    first_of_both (grant_causes h o stream draw) (place_causes plan.memory s.address (4 * s.length))
    ∙ (λ i. option_or (grants_are h o stream draw i) (place_is plan.memory s some i))

full_is : (waiting : ℕ) → first_holding ((nat_le 64 waiting, cause.Full) ∷ []) ≡ full_cause waiting
full_is waiting = refl

or_assoc : (a b c : Option BlockCause) → option_or a (option_or b c) ≡ option_or (option_or a b) c
or_assoc None b c = refl
or_assoc (Some x) b c = refl

read_is : (plan : Plan) (h : History) (o : Option Site) (waiting stream draw : ℕ) (s : Span) → 1 ≤ s.length
    → first_holding (read_causes plan h o waiting stream draw s.address (4 * s.length))
    ≡ read_cause plan.memory s (record { bound = granted_to h o; stream = stream; draw = draw }) waiting
read_is plan h o waiting stream draw s some =
    first_of_both (grant_causes h o stream draw)
    (place_causes plan.memory s.address (4 * s.length) ++ (nat_le 64 waiting, cause.Full) ∷ [])
    ∙ ((λ i. option_or (grants_are h o stream draw i)
    (first_of_both (place_causes plan.memory s.address (4 * s.length)) ((nat_le 64 waiting, cause.Full) ∷ []) i))
    ∙ ((λ i. option_or (grant_cause (granted_to h o) stream draw)
    (option_or (place_is plan.memory s some i) (full_cause waiting)))
    ∙ or_assoc (grant_cause (granted_to h o) stream draw) (place_cause plan.memory s) (full_cause waiting)))

cause_of_blocked : (o : Option BlockCause) → cause_in (block_effect o) ≡ o
cause_of_blocked None = refl
cause_of_blocked (Some c) = refl

cause_of_waiting : (o : Option BlockCause) → cause_in (read_effect o) ≡ o
cause_of_waiting None = refl
cause_of_waiting (Some c) = refl

read_span : (head : HeadView) (r : MemReadView) → memory_read head ≡ Some r → 1 ≤ r.span.length
read_span head r is = by head.has_payload head.fields is
  where
    by : (b : Bool) (f : Fields) → (if b then None else read_with head.lead f (span_of_fields head.lead.length f))
        ≡ Some r → 1 ≤ r.span.length
    by true f e = absurd cc
    by false (Memory f) e =
        let same = ap (option_map (λ (z : MemReadView). z.span.length)) e in
        let least = words_some head.lead.length in
        let words : double_words head.lead.length ≡ r.span.length = cc in
        omega (arith, words, least)
    by false (Config f) e = absurd cc
    by false (Message f) e = absurd cc
    by false (Completion f) e = absurd cc

bound_of : (plan : Plan) (h : History) (port : PortName) (head : HeadView)
    → requester_bound (grant_at plan h) port head ≡ granted_to h (owner_site plan port.line head)
bound_of plan h port head = by (owner_id head)
  where
    by : (o : Option ℕ) → option_and_then (grant_at plan h port.line) o
        ≡ granted_to h (option_and_then (site_of_requester plan port.line) o)
    by None = refl
    by (Some id) = refl

by_t : (t : Bool) (plan : Plan) (h : History) (o : Option Site) (unit : UnitName) (waiting : ℕ) (r : MemReadView)
    → 1 ≤ r.span.length
    → cause_in (if t then read_effect (read_cause plan.memory r.span
    (record { bound = granted_to h o; stream = unit.stream; draw = unit.draw }) waiting) else effect.Delivered)
    ≡ cause_of_read plan h o t unit waiting (Some r)
by_t true plan h o unit waiting r some =
    cause_of_waiting _ ∙ sym (read_is plan h o waiting unit.stream unit.draw r.span some)
by_t false plan h o unit waiting r some = refl

-- a read is no write
no_write : (head : HeadView) (r : MemReadView) → memory_read head ≡ Some r → write_span head ≡ None
no_write head r is = payload head.has_payload is
  where
    payload : (b : Bool) → (if b then None else read_with head.lead head.fields (span_of head)) ≡ Some r
        → (if b then span_of head else None) ≡ None
    payload true e = absurd cc
    payload false e = refl

request_is : (plan : Plan) (h : History) (o : Option Site) (t : Bool) (unit : UnitName) (waiting : ℕ) (head : HeadView)
    → cause_in (request_effect plan.memory t
    (record { bound = granted_to h o; stream = unit.stream; draw = unit.draw }) waiting head)
    ≡ cause_of_request plan h o t unit waiting (write_span head) (memory_read head)
request_is plan h o t unit waiting head =
    by (memory_read head) (write_span head) (no_write head) (λ r is. read_span head r is) (λ s is. write_some head s is)
  where
    by : (m : Option MemReadView) (w : Option Span) → ((r : MemReadView) → m ≡ Some r → w ≡ None)
        → ((r : MemReadView) → m ≡ Some r → 1 ≤ r.span.length) → ((s : Span) → w ≡ Some s → 1 ≤ s.length)
        → cause_in (effect_by_read plan.memory t
        (record { bound = granted_to h o; stream = unit.stream; draw = unit.draw }) waiting m
        (write_effect plan.memory t (record { bound = granted_to h o; stream = unit.stream; draw = unit.draw }) w))
        ≡ cause_of_request plan h o t unit waiting w m
    by (Some r) (Some s) one two three = let none = one r refl in absurd cc
    by (Some r) None one two three = by_t t plan h o unit waiting r (two r refl)
    by None (Some s) one two three =
        cause_of_blocked _ ∙ sym (write_is plan h o t unit.stream unit.draw s (three s refl))
    by None None one two three = refl

host_is : (plan : Plan) (h : History) (port : PortName) (unit : UnitName) (waiting : ℕ) (p : Packet)
    (r : Result HeadView TlpFault)
    → cause_in (host_effect plan (grant_at plan h) waiting port unit p r)
    ≡ cause_at_host plan h port unit waiting p.prefix.t r
host_is plan h port unit waiting p (Err f) = refl
host_is plan h port unit waiting p (Ok head) =
    (λ i. cause_in (request_effect plan.memory p.prefix.t
    (record { bound = bound_of plan h port head i; stream = unit.stream; draw = unit.draw }) waiting head))
    ∙ request_is plan h (owner_site plan port.line head) p.prefix.t unit waiting head

-- ---- a device's port

cause_of_stored : (o : Option BlockCause) → cause_in (cause_effect o) ≡ o
cause_of_stored None = refl
cause_of_stored (Some c) = refl

floors_are : (stream draw : ℕ) (bs : List Binding)
    → first_holding ((true && not (list_any (is_bound_on stream) bs), cause.WrongStream)
    ∷ (true && is_below stream draw bs, cause.Stale) ∷ []) ≡ floor_cause (floor_on stream bs) draw
floors_are stream draw [] = refl
floors_are stream draw (b ∷ bs) = by (b.stream == stream) refl (floors_are stream draw bs)
  where
    by : (f : Bool) → (b.stream == stream) ≡ f
        → first_holding ((true && not (list_any (is_bound_on stream) bs), cause.WrongStream)
        ∷ (true && is_below stream draw bs, cause.Stale) ∷ []) ≡ floor_cause (floor_on stream bs) draw
        → first_holding ((true && not (list_any (is_bound_on stream) (b ∷ bs)), cause.WrongStream)
        ∷ (true && is_below stream draw (b ∷ bs), cause.Stale) ∷ []) ≡ floor_cause (floor_on stream (b ∷ bs)) draw
    by true e rest = rw e refl
    by false e rest = rw e rest

claim_is : (c : Claim) (t : Bool) (stream draw : ℕ) (s : Span) → 1 ≤ s.length
    → first_holding (claim_causes c t stream draw s.address (4 * s.length))
    ≡ mmio_cause c.status c.range s t stream draw
claim_is c t stream draw s some =
    rw (across_is s.address (4 * s.length) (omega arith)) (by (crosses s) t)
  where
    trusted : (b : Bool) → first_holding ((true && not b, cause.NotRunning)
        ∷ (true && not (list_any (is_bound_on stream) c.status.bound), cause.WrongStream)
        ∷ (true && is_below stream draw c.status.bound, cause.Stale) ∷ [])
        ≡ (if b then floor_cause (floor_on stream c.status.bound) draw else Some cause.NotRunning)
    trusted true = floors_are stream draw c.status.bound
    trusted false = refl

    untrusted : (a b : Bool) → first_holding ((true && not a && not b, cause.NotTrusted) ∷ (false, cause.NotRunning)
        ∷ (false, cause.WrongStream) ∷ (false, cause.Stale) ∷ [])
        ≡ (if a || b then None else Some cause.NotTrusted)
    untrusted true b = refl
    untrusted false true = refl
    untrusted false false = refl

    by : (across t : Bool) → first_holding ((across, cause.Crosses)
        ∷ (not t && not (is_open_claim c) && not (is_config_unlocked c.status.state), cause.NotTrusted)
        ∷ (t && not (is_in_run c.status.state), cause.NotRunning)
        ∷ (t && not (list_any (is_bound_on stream) c.status.bound), cause.WrongStream)
        ∷ (t && is_below stream draw c.status.bound, cause.Stale) ∷ [])
        ≡ (if across then Some cause.Crosses else access_cause c.status c.range t stream draw)
    by true t = refl
    by false true = trusted (is_in_run c.status.state)
    by false false = untrusted (is_open_claim c) (is_config_unlocked c.status.state)

claimed_is : (o : Option Claim) (t : Bool) (unit : UnitName) (s : Span) → 1 ≤ s.length
    → cause_in (claim_effect o s t unit.stream unit.draw) ≡ cause_of_claim o t unit s
claimed_is None t unit s some = refl
claimed_is (Some c) t unit s some = cause_of_stored _ ∙ sym (claim_is c t unit.stream unit.draw s some)

device_read_is : (o : Option Claim) (t : Bool) (unit : UnitName) (waiting : ℕ) (s : Span) → 1 ≤ s.length
    → cause_in (claimed_read_effect o s t unit.stream unit.draw waiting) ≡ cause_of_device_read o t unit waiting s
device_read_is None t unit waiting s some = refl
device_read_is (Some c) t unit waiting s some = by c.status.reads
  where
    by : (b : Bool) → cause_in (if b then read_effect (device_read_cause c s t unit.stream unit.draw waiting)
        else effect.Delivered) ≡ (if b
        then first_holding (device_read_causes c t waiting unit.stream unit.draw s.address (4 * s.length)) else None)
    by true = cause_of_waiting (device_read_cause c s t unit.stream unit.draw waiting)
        ∙ sym (first_of_both (claim_causes c t unit.stream unit.draw s.address (4 * s.length))
        ((nat_le 64 waiting, cause.Full) ∷ [])
        ∙ ap (λ (o : Option BlockCause). option_or o (full_cause waiting)) (claim_is c t unit.stream unit.draw s some))
    by false = refl

claims_are : (xs : List InterfaceStatus) (t : Bool) (unit : UnitName) (waiting : ℕ) (m : Option MemReadView)
    (w : Option Span) → ((r : MemReadView) → m ≡ Some r → w ≡ None)
    → ((r : MemReadView) → m ≡ Some r → 1 ≤ r.span.length) → ((s : Span) → w ≡ Some s → 1 ≤ s.length)
    → cause_in (effect_by_device_read xs t unit.stream unit.draw waiting m
    (mmio_effect xs t unit.stream unit.draw w)) ≡ cause_by_claims xs t unit waiting w m
claims_are xs t unit waiting (Some r) (Some s) one two three = let none = one r refl in absurd cc
claims_are xs t unit waiting (Some r) None one two three =
    device_read_is (claim_of xs r.span) t unit waiting r.span (two r refl)
claims_are xs t unit waiting None (Some s) one two three = claimed_is (claim_of xs s) t unit s (three s refl)
claims_are xs t unit waiting None None one two three = refl

device_is : (xs : List InterfaceStatus) (unit : UnitName) (waiting : ℕ) (p : Packet) (r : Result HeadView TlpFault)
    → cause_in (device_effect xs waiting unit p r) ≡ cause_at_device xs unit waiting p.prefix.t r
device_is xs unit waiting p (Err f) = refl
device_is xs unit waiting p (Ok head) =
    claims_are xs p.prefix.t unit waiting (memory_read head) (write_span head) (no_write head)
    (λ r is. read_span head r is) (λ s is. write_some head s is)

-- ---- a packet of a unit

packet_is : (plan : Plan) (h : History) (port : PortName) (unit : UnitName) (waiting : ℕ) (p : Packet)
    → cause_in (effect_by plan (policy_at plan h) waiting port unit p) ≡ cause_of_packet plan h port unit waiting p
packet_is plan h port unit waiting p =
    by (is_sync_packet p) (at_switch plan port) port.side
  where
    by : (sync switch : Bool) (side : Side)
        → cause_in (if sync then effect.Sync else if switch then switch_effect else if sent_direction side == 0
        then host_effect plan (grant_at plan h) waiting port unit p (read_head_of p.head)
        else device_effect (history_statuses plan h port.line) waiting unit p (read_head_of p.head))
        ≡ (if sync then None else if not switch && (sent_direction side == 0)
        then cause_at_host plan h port unit waiting p.prefix.t (read_head_of p.head)
        else if not switch && (sent_direction side == 1)
        then cause_at_device (history_statuses plan h port.line) unit waiting p.prefix.t (read_head_of p.head)
        else None)
    by true switch side = refl
    by false true side = refl
    by false false Host = host_is plan h port unit waiting p (read_head_of p.head)
    by false false Device = device_is (history_statuses plan h port.line) unit waiting p (read_head_of p.head)

blocked_no_sync : (o : Option BlockCause) → is_sync_effect (block_effect o) ≡ false
blocked_no_sync None = refl
blocked_no_sync (Some c) = refl

waiting_no_sync : (o : Option BlockCause) → is_sync_effect (read_effect o) ≡ false
waiting_no_sync None = refl
waiting_no_sync (Some c) = refl

stored_no_sync : (o : Option BlockCause) → is_sync_effect (cause_effect o) ≡ false
stored_no_sync None = refl
stored_no_sync (Some c) = refl

request_no_sync : (plan : Plan) (t : Bool) (g : Grant) (waiting : ℕ) (m : Option MemReadView) (w : Option Span)
    → is_sync_effect (effect_by_read plan.memory t g waiting m (write_effect plan.memory t g w)) ≡ false
request_no_sync plan true g waiting (Some r) w = waiting_no_sync _
request_no_sync plan false g waiting (Some r) w = refl
request_no_sync plan t g waiting None None = refl
request_no_sync plan t g waiting None (Some s) = blocked_no_sync _

host_no_sync : (plan : Plan) (h : History) (port : PortName) (unit : UnitName) (waiting : ℕ) (p : Packet)
    (r : Result HeadView TlpFault)
    → is_sync_effect (host_effect plan (grant_at plan h) waiting port unit p r) ≡ false
host_no_sync plan h port unit waiting p (Err f) = refl
host_no_sync plan h port unit waiting p (Ok head) =
    request_no_sync plan p.prefix.t (unit_grant (grant_at plan h) port unit head) waiting (memory_read head)
    (write_span head)

write_no_sync : (xs : List InterfaceStatus) (t : Bool) (unit : UnitName) (o : Option Span)
    → is_sync_effect (mmio_effect xs t unit.stream unit.draw o) ≡ false
write_no_sync xs t unit None = refl
write_no_sync xs t unit (Some s) = by (claim_of xs s)
  where
    by : (c : Option Claim) → is_sync_effect (claim_effect c s t unit.stream unit.draw) ≡ false
    by None = refl
    by (Some c) = stored_no_sync _

claimed_no_sync : (o : Option Claim) (s : Span) (t : Bool) (stream draw waiting : ℕ)
    → is_sync_effect (claimed_read_effect o s t stream draw waiting) ≡ false
claimed_no_sync None s t stream draw waiting = refl
claimed_no_sync (Some c) s t stream draw waiting = by c.status.reads
  where
    by : (b : Bool) → is_sync_effect (if b then read_effect (device_read_cause c s t stream draw waiting)
        else effect.Delivered) ≡ false
    by true = waiting_no_sync (device_read_cause c s t stream draw waiting)
    by false = refl

device_no_sync : (xs : List InterfaceStatus) (waiting : ℕ) (unit : UnitName) (p : Packet)
    (r : Result HeadView TlpFault) → is_sync_effect (device_effect xs waiting unit p r) ≡ false
device_no_sync xs waiting unit p (Err f) = refl
device_no_sync xs waiting unit p (Ok head) = by (memory_read head)
  where
    by : (o : Option MemReadView)
        → is_sync_effect (effect_by_device_read xs p.prefix.t unit.stream unit.draw waiting o
        (mmio_effect xs p.prefix.t unit.stream unit.draw (write_span head))) ≡ false
    by None = write_no_sync xs p.prefix.t unit (write_span head)
    by (Some r) = claimed_no_sync (claim_of xs r.span) r.span p.prefix.t unit.stream unit.draw waiting

sync_is : (plan : Plan) (h : History) (port : PortName) (unit : UnitName) (waiting : ℕ) (p : Packet)
    → is_sync_effect (effect_by plan (policy_at plan h) waiting port unit p) ≡ is_sync_packet p
sync_is plan h port unit waiting p =
    by (is_sync_packet p) (at_switch plan port) (sent_direction port.side == 0)
  where
    by : (sync switch host : Bool)
        → is_sync_effect (if sync then effect.Sync else if switch then switch_effect else if host
        then host_effect plan (grant_at plan h) waiting port unit p (read_head_of p.head)
        else device_effect (history_statuses plan h port.line) waiting unit p (read_head_of p.head)) ≡ sync
    by true switch host = refl
    by false true host = refl
    by false false true = host_no_sync plan h port unit waiting p (read_head_of p.head)
    by false false false = device_no_sync (history_statuses plan h port.line) waiting unit p (read_head_of p.head)

-- ---- all packets of a unit

more_waiting : (f : Effect) (waiting : ℕ) (fs : List Effect) (n : ℕ)
    → waiting_then f waiting + queued_count fs n ≡ waiting + queued_count (f ∷ fs) (suc n)
more_waiting f waiting fs n = grind arith

each_is : (plan : Plan) (policy : Policy) (port : PortName) (unit : UnitName) (ps : List Packet) (waiting n : ℕ)
    (p : Packet) (f : Effect) → slice_get ps n ≡ Some p
    → slice_get (effects_each plan policy waiting port unit ps) n ≡ Some f
    → f ≡ effect_by plan policy (waiting + queued_count (effects_each plan policy waiting port unit ps) n) port unit p
each_is plan policy port unit [] waiting n p f at is = absurd cc
each_is plan policy port unit (q ∷ ps) waiting zero p f at is =
    let same : q ≡ p = cc (at) in
    let first : f ≡ effect_by plan policy waiting port unit q = sym cc in
    let none : waiting ≡ waiting + 0 = omega arith in
    first ∙ (λ i. effect_by plan policy (none i) port unit (same i))
each_is plan policy port unit (q ∷ ps) waiting (suc n) p f at is =
    let g = effect_by plan policy waiting port unit q in
    each_is plan policy port unit ps (waiting_then g waiting) n p f at is
    ∙ ap (λ (k : ℕ). effect_by plan policy k port unit p)
    (more_waiting g waiting (effects_each plan policy (waiting_then g waiting) port unit ps) n)

blocked_by_cause : (plan : Plan) (h : History) (e : Event) (port : PortName) (unit : UnitName) (effects : List Effect)
    → Accepted port unit effects ≡ due plan h e → IsBlockedByCause plan h e (Accepted port unit effects)
blocked_by_cause plan h e port unit effects cause n p f at has =
    let are = effects_there plan h e port unit effects cause in
    let q = port_of plan port in
    let waiting = length (waiting_reads plan h q) in
    let there = each_is plan (policy_at plan h) q unit (unit_ended plan h e port unit) waiting n p f at
    (sym (ap (λ (fs : List Effect). slice_get fs n) are) ∙ has) in
    let same = there ∙ ap (λ (fs : List Effect). effect_by plan (policy_at plan h) (waiting + queued_count fs n) q
    unit p) (sym are) in (
      ap cause_in same ∙ packet_is plan h q unit (waiting + queued_count effects n) p,
      ap is_sync_effect same ∙ sync_is plan h q unit (waiting + queued_count effects n) p,
    )

-- ---- reads that are dropped

first_drops : (xs : List (Bool × Verdict)) (last : Verdict)
    → AllByRecursion (λ (x : Bool × Verdict). drop_in x.1 ≡ None) xs → drop_in last ≡ None
    → drop_in (unwrap_or (first_that_holds xs) last) ≡ None
first_drops [] last all ends = ends
first_drops ((true, w) ∷ xs) last all ends = all.0
first_drops ((false, w) ∷ xs) last all ends = first_drops xs last all.1 ends

send_drops : (plan : Plan) (h : History) (port : PortName) (o : Outgoing) (more trusted : Bool)
    → drop_in (send_due plan h port o more trusted) ≡ None
send_drops plan h port (NoTlp f) more trusted = refl
send_drops plan h port OnNone more trusted = refl
send_drops plan h port (OnStream t stream) more trusted =
    first_drops (refusals (lanes_at plan h port stream) (class_of (header t))) _
    (refl, (refl, (refl, (refl, (refl, (refl, (refl, (refl, tt)))))))) refl

keyed_drops : (plan : Plan) (h : History) (port : PortName) (floor : ℕ) (key : Option KeyName) (out : Outgoing)
    → drop_in (sent_from floor key (send_due plan h port out false true)) ≡ None
keyed_drops plan h port floor key out = by (is_before key floor)
  where
    by : (b : Bool) → drop_in (if b then v.Interface (iv.RefusedRefreshFirst (draw_of key) floor)
        else send_due plan h port out false true) ≡ None
    by true = refl
    by false = send_drops plan h port out false true

judged_drops : (plan : Plan) (h : History) (port : PortName) (i : ℕ) (bound : Binding) (o : Option BlockCause)
    (out : Outgoing) → drop_in (answer_judged plan h port out (judged_by i bound o))
    ≡ option_map (λ (c : BlockCause). (i, c)) o
judged_drops plan h port i bound None out =
    keyed_drops plan h port bound.floor (live_key h port (lane_out port bound.stream Cpl)) out
judged_drops plan h port i bound (Some c) out = refl

bound_drops : (plan : Plan) (h : History) (port : PortName) (i draw : ℕ) (o : Option Binding) (out : Outgoing)
    → drop_in (completion_verdict plan h port i draw o out)
    ≡ option_map (λ (c : BlockCause). (i, c)) (drop_cause (stream_taken out) draw o)
bound_drops plan h port i draw None out = refl
bound_drops plan h port i draw (Some bound) out =
    judged_drops plan h port i bound (binding_cause bound (stream_taken out) draw) out

view_drops : (view : View) (s f draw : ℕ) (taken : Option ℕ) (own below : Bool) → own ≡ is_stream s taken
    → below ≡ nat_lt draw f
    → drop_cause taken draw (bound_if view s f)
    ≡ first_holding ((not (is_running view), cause.NotRunning) ∷ (not own, cause.WrongStream)
    ∷ (below, cause.Stale) ∷ [])
view_drops Running s f draw taken own below one two = rw (one, two) (grind arith)
view_drops Unlocked s f draw taken own below one two = refl
view_drops Locked s f draw taken own below one two = refl
view_drops Doubt s f draw taken own below one two = refl
view_drops Broken s f draw taken own below one two = refl

own_taken : (x : Site) (taken : Option ℕ) → takes_own x taken ≡ is_stream x.plan.stream taken
own_taken x None = refl
own_taken x (Some stream) = refl

drops_by_cause : (plan : Plan) (h : History) (link : ℕ) (w : Verdict) → w ≡ due plan h (Access (ae.Answer link))
    → DropsByCause plan h (Access (ae.Answer link)) w
unfolding due
drops_by_cause plan h link w is x r rs has oldest owner =
    let port = host_port link in
    let first : w ≡ completion_verdict plan h port x.number r.came.draw (granted_to h (Some x))
    (outgoing_completion plan h link) = rw (has, oldest, owner) at is in
    let out = outgoing_completion plan h link in
    ap drop_in first
    ∙ (bound_drops plan h port x.number r.came.draw (granted_to h (Some x)) out
    ∙ ap (λ (o : Option BlockCause). option_map (λ (c : BlockCause). (x.number, c)) o)
    (view_drops (view_at h x) x.plan.stream (floor_at h x) r.came.draw (stream_taken out)
    (takes_own x (stream_taken out)) (nat_lt r.came.draw (floor_at h x)) (own_taken x (stream_taken out)) refl))

-- ---- the pair

blocked : (plan : Plan) (h : History) (e : Event) (w : Verdict) → w ≡ due plan h e → IsBlockedByCause plan h e w
blocked plan h e (Accepted port unit effects) is = blocked_by_cause plan h e port unit effects is
blocked plan h e w is = tt

dropped : (plan : Plan) (h : History) (e : Event) (w : Verdict) → w ≡ due plan h e → DropsByCause plan h e w
dropped plan h (Access (ae.Answer link)) w is = drops_by_cause plan h link w is
dropped plan h e w is = tt

pub has_causes : (plan : Plan) (h : History) (e : Event) (w : Verdict) → CauseLaw plan ((e, w) ∷ h)
    → HasCauses plan h e w
has_causes plan h e w cause = (blocked plan h e w cause.0, dropped plan h e w cause.0)

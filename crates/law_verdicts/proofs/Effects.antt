-- Exactly the reads that ask are queued while fewer than 64 wait, and exactly the writes that are taken are stored.
use Rattle.std.proofs.Common.{◌≡◌, ℕ, ◌+◌, ◌≤◌, ◌==◌, ◌&&◌, ◌⊎◌, inl, inr, Bool, true, false, List, [], ◌∷◌, map}
use Rattle.std.proofs.Common.{zero, suc, Option, Some, None, Result, Ok, Err, refl, ap, sym, ◌∙◌, arith}
use Rattle.std.specs.List.{list_any}
use Rattle.std.specs.Prelude.{slice_get, not, if◌then◌else◌, nat_le, nat_lt, ◌||◌}
use Rattle.std.proofs.lemmas.Bool.Decides.{nat_tests}
use Rattle.spec_links.proofs.Terms.{Plan, History, Event, Verdict, Accepted, UnitName, Effect, Packet, PortName}
use Rattle.spec_links.specs.Terms.{is_sync_packet}
unfoldable use Rattle.spec_links.proofs.Terms.{due}
use Rattle.std.specs.Option.{option_or}
use Rattle.ide_types.specs.Sub.{sent_direction}
use Rattle.ide_types.specs.declared.port.Side.{Side}
use Rattle.ide_types.specs.declared.port.Side.TheVariants.{Host, Device}
use Rattle.ide_types.specs.declared.binding.Binding.{Binding}
use Rattle.ide_types.specs.declared.plan.Region.{Region}
use Rattle.tlp_layout.specs.declared.head.HeadView.{HeadView}
use Rattle.tlp_layout.specs.declared.fault.TlpFault.{TlpFault}
use Rattle.tlp_layout.specs.Reading.{read_head_of}
use Rattle.trusted_memory.specs.declared.grant.Grant.{Grant}
use Rattle.trusted_memory.specs.declared.span.Span.{Span}
use Rattle.trusted_memory.specs.Spans.{write_span, span_of, crosses, span_byte_count}
use Rattle.trusted_memory.specs.Regions.{in_one_region}
use Rattle.trusted_memory.specs.Causes.{grant_cause, block_cause, block_effect, write_effect}
use Rattle.trusted_memory.specs.Admitted.{is_on_bound, is_placed}
use Rattle.trusted_memory.specs.declared.read.MemReadView.{MemReadView}
use Rattle.trusted_memory.specs.Requests.{memory_read, read_with}
use Rattle.trusted_memory.specs.Waiting.{full_cause, read_cause, read_effect, effect_by_read, request_effect}
use Rattle.guarded_memory.specs.declared.status.InterfaceStatus.{InterfaceStatus}
use Rattle.guarded_memory.specs.declared.status.InterfaceState.{InterfaceState}
use Rattle.guarded_memory.specs.declared.claims.Claim.{Claim}
use Rattle.guarded_memory.specs.Claims.{claim_of}
use Rattle.guarded_memory.specs.DeviceReads.{claimed_read_effect, device_read_cause, effect_by_device_read}
use Rattle.guarded_memory.proofs.Claimed.{claimed}
use Rattle.guarded_memory.specs.Causes.{mmio_cause, cause_effect, claim_effect, mmio_effect, is_stored, floor_cause}
use Rattle.guarded_memory.specs.Causes.{trusted_cause, untrusted_cause, access_cause}
use Rattle.guarded_memory.specs.Laws.{is_admitted, is_from_floor}
use Rattle.guarded_memory.specs.Statuses.{is_open_range, is_config_unlocked, is_in_run}
use Rattle.interface_state.specs.Bindings.{floor_on}
use Rattle.spec_links.specs.Ports.{at_switch, port_of}
use Rattle.spec_links.specs.Admission.{switch_effect}
use Rattle.spec_links.specs.Memory.{Policy, policy_at, unit_grant, host_effect, device_effect, effect_by, effects_each}
use Rattle.spec_links.specs.Memory.{waiting_then, unit_ended}
use Rattle.law_verdicts.specs.Effects.{is_queued, is_full, asks_granted_read, packet_asks_read, asks_read, which_wait}
use Rattle.law_verdicts.specs.Effects.{which_find_no_room, takes_as, takes_claimed, takes_claim, takes_span}
use Rattle.law_verdicts.specs.Effects.{takes_write, is_waiting_effect, waits_at, answers_reads, HasExactEffects}
use Rattle.event_verdicts.specs.declared.verdict.BlockCause.{BlockCause}
use Rattle.event_verdicts.specs.declared.verdict.BlockCause.TheVariants as blocks
use Rattle.ide_types.specs.declared.interface.BarPlan.{BarPlan}
use Rattle.law_locks.proofs.{effects_there}
use Rattle.law_mmio.proofs.Numbers.{claims_least}
use Rattle.event_verdicts.specs.declared.verdict.Effect.TheVariants as effect

-- ---- what a cause says of reads

record Says (e : Effect) (asks : Bool) (n : ℕ) : Type 0 where
  queued : is_queued e ≡ (asks && nat_lt n 64)
  full : is_full e ≡ (asks && nat_le 64 n)

full_says : (n : ℕ) → Says (read_effect (full_cause n)) true n
full_says n = by (nat_le 64 n) refl
  where
    by : (b : Bool) → nat_le 64 n ≡ b → Says (read_effect (full_cause n)) true n
    by true is = record { queued = rw is (grind (arith, nat_tests, is)); full = rw is refl }
    by false is = record { queued = rw is (grind (arith, nat_tests, is)); full = rw is refl }

-- stream and draw are those of the grant, and the bytes lie so
granted : (e l inside across : Bool) (f : Option BlockCause) (n : ℕ) → Says (read_effect f) true n
    → Says (read_effect (option_or (option_or
    (if not e then Some blocks.WrongStream else if l then Some blocks.Stale else None)
    (if not inside then Some blocks.Outside else if across then Some blocks.Crosses else None)) f))
    ((e && not l) && (inside && not across)) n
granted false l inside across f n says = record { queued = refl; full = refl }
granted true true inside across f n says = record { queued = refl; full = refl }
granted true false false across f n says = record { queued = refl; full = refl }
granted true false true true f n says = record { queued = refl; full = refl }
granted true false true false f n says = says

not_less : (m n : ℕ) → nat_le m n ≡ not (nat_lt n m)
not_less m n = grind (arith, nat_tests)

bound_says : (o : Option Binding) (stream draw : ℕ) (inside across : Bool) (f : Option BlockCause) (n : ℕ)
    → Says (read_effect f) true n → Says (read_effect (option_or (option_or (grant_cause o stream draw)
    (if not inside then Some blocks.Outside else if across then Some blocks.Crosses else None)) f))
    (is_on_bound stream draw o && (inside && not across)) n
bound_says None stream draw inside across f n says = record { queued = refl; full = refl }
bound_says (Some b) stream draw inside across f n says =
    rw (not_less b.floor draw) (granted (b.stream == stream) (nat_lt draw b.floor) inside across f n says)

read_says : (regions : List Region) (s : Span) (g : Grant) (n : ℕ)
    → Says (read_effect (read_cause regions s g n)) (is_on_bound g.stream g.draw g.bound && is_placed regions s) n
read_says regions s g n =
    bound_says g.bound g.stream g.draw (in_one_region regions s.address (span_byte_count s)) (crosses s) (full_cause n)
    n
    (full_says n)

-- a write's effect is neither
abbrev IsNeither : Effect → Type 0
IsNeither e = (is_queued e ≡ false) × (is_full e ≡ false)

neither : (e : Effect) (n : ℕ) → IsNeither e → Says e false n
neither e n is = record { queued = is.0; full = is.1 }

write_neither : (regions : List Region) (t : Bool) (g : Grant) (o : Option Span)
    → IsNeither (write_effect regions t g o)
write_neither regions t g None = (refl, refl)
write_neither regions false g (Some s) = (refl, refl)
write_neither regions true g (Some s) = by g.bound (in_one_region regions s.address (span_byte_count s)) (crosses s)
  where
    by : (o : Option Binding) (inside across : Bool) → IsNeither
        (block_effect (option_or (grant_cause o g.stream g.draw)
        (if not inside then Some blocks.Outside else if across then Some blocks.Crosses else None)))
    by None inside across = (refl, refl)
    by (Some b) inside across = in_turn (b.stream == g.stream) (nat_lt g.draw b.floor) inside across
      where
        in_turn : (e l inside across : Bool) → IsNeither (block_effect (option_or
            (if not e then Some blocks.WrongStream else if l then Some blocks.Stale else None)
            (if not inside then Some blocks.Outside else if across then Some blocks.Crosses else None)))
        in_turn false l inside across = (refl, refl)
        in_turn true true inside across = (refl, refl)
        in_turn true false false across = (refl, refl)
        in_turn true false true true = (refl, refl)
        in_turn true false true false = (refl, refl)

request_says : (plan : Plan) (t : Bool) (g : Grant) (n : ℕ) (head : HeadView)
    → Says (request_effect plan.memory t g n head) (asks_granted_read plan t g (memory_read head)) n
request_says plan t g n head = by (memory_read head) t
  where
    by : (o : Option MemReadView) (b : Bool)
        → Says (effect_by_read plan.memory b g n o (write_effect plan.memory t g (write_span head)))
        (asks_granted_read plan b g o) n
    by None b = neither _ n (write_neither plan.memory t g (write_span head))
    by (Some r) false = record { queued = refl; full = refl }
    by (Some r) true = read_says plan.memory r.span g n

head_says : (plan : Plan) (policy : Policy) (n : ℕ) (port : PortName) (unit : UnitName) (p : Packet)
    (r : Result HeadView TlpFault) → Says (host_effect plan policy.grants n port unit p r)
    (packet_asks_read plan policy.grants port unit p.prefix.t r) n
head_says plan policy n port unit p (Err f) = record { queued = refl; full = refl }
head_says plan policy n port unit p (Ok head) =
    request_says plan p.prefix.t (unit_grant policy.grants port unit head) n head

-- ---- what a cause says of writes at a device's port

untrusted_says : (range : BarPlan) (state : InterfaceState) → is_stored (cause_effect (untrusted_cause state range))
    ≡ (is_open_range range || is_config_unlocked state)
untrusted_says range state = by (is_open_range range || is_config_unlocked state)
  where
    by : (b : Bool) → is_stored (cause_effect (if b then None else Some blocks.NotTrusted)) ≡ b
    by true = refl
    by false = refl

floor_says : (o : Option ℕ) (draw : ℕ) → is_stored (cause_effect (floor_cause o draw)) ≡ is_from_floor o draw
floor_says None draw = refl
floor_says (Some floor) draw = rw (not_less floor draw) (by (nat_lt draw floor))
  where
    by : (b : Bool) → is_stored (cause_effect (if b then Some blocks.Stale else None)) ≡ not b
    by true = refl
    by false = refl

run_says : (x : InterfaceStatus) (stream draw : ℕ) → is_stored (cause_effect (trusted_cause x stream draw))
    ≡ is_admitted x true stream draw
run_says x stream draw = by (is_in_run x.state)
  where
    by : (b : Bool) → is_stored (cause_effect (if b then floor_cause (floor_on stream x.bound) draw
        else Some blocks.NotRunning)) ≡ (b && is_from_floor (floor_on stream x.bound) draw)
    by true = floor_says (floor_on stream x.bound) draw
    by false = refl

access_says : (c : Claim) (t : Bool) (stream draw : ℕ)
    → is_stored (cause_effect (access_cause c.status c.range t stream draw)) ≡ takes_claimed t stream draw c
access_says c true stream draw = run_says c.status stream draw
access_says c false stream draw = untrusted_says c.range c.status.state

claim_says : (o : Option Claim) (s : Span) (t : Bool) (stream draw : ℕ)
    → is_stored (claim_effect o s t stream draw) ≡ takes_claim t stream draw s o
claim_says None s t stream draw = refl
claim_says (Some c) s t stream draw = by (crosses s)
  where
    by : (b : Bool) → is_stored (cause_effect (if b then Some blocks.Crosses
        else access_cause c.status c.range t stream draw)) ≡ (not b && takes_claimed t stream draw c)
    by true = refl
    by false = access_says c t stream draw

span_says : (xs : List InterfaceStatus) (t : Bool) (stream draw : ℕ) (o : Option Span)
    → is_stored (mmio_effect xs t stream draw o) ≡ takes_span xs t stream draw o
span_says xs t stream draw None = refl
span_says xs t stream draw (Some s) = claim_says (claim_of xs s) s t stream draw

-- a read is stored nowhere
stored_not : (o : Option BlockCause) → is_stored (read_effect o) ≡ false
stored_not None = refl
stored_not (Some c) = refl

claimed_not : (o : Option Claim) (s : Span) (t : Bool) (stream draw n : ℕ)
    → is_stored (claimed_read_effect o s t stream draw n) ≡ false
claimed_not None s t stream draw n = refl
claimed_not (Some c) s t stream draw n = by c.status.reads
  where
    by : (b : Bool) → is_stored (if b then read_effect (device_read_cause c s t stream draw n) else effect.Delivered)
        ≡ false
    by true = stored_not (device_read_cause c s t stream draw n)
    by false = refl

-- a write has a payload, a read none
request_stores : (xs : List InterfaceStatus) (t : Bool) (stream draw n : ℕ) (has : Bool) (read : Option MemReadView)
    (s : Option Span) → is_stored (effect_by_device_read xs t stream draw n (if has then None else read)
    (mmio_effect xs t stream draw (if has then s else None)))
    ≡ takes_span xs t stream draw (if has then s else None)
request_stores xs t stream draw n true read s = span_says xs t stream draw s
request_stores xs t stream draw n false None s = refl
request_stores xs t stream draw n false (Some r) s = claimed_not (claim_of xs r.span) r.span t stream draw n

device_says : (xs : List InterfaceStatus) (n : ℕ) (unit : UnitName) (p : Packet) (r : Result HeadView TlpFault)
    → is_stored (device_effect xs n unit p r) ≡ takes_as xs unit p.prefix.t r
device_says xs n unit p (Err f) = refl
device_says xs n unit p (Ok head) = request_stores xs p.prefix.t unit.stream unit.draw n head.has_payload
    (read_with head.lead head.fields (span_of head)) (span_of head)

-- ---- each at the other port

floor_neither : (o : Option ℕ) (draw : ℕ) → IsNeither (cause_effect (floor_cause o draw))
floor_neither None draw = (refl, refl)
floor_neither (Some floor) draw = by (nat_lt draw floor)
  where
    by : (b : Bool) → IsNeither (cause_effect (if b then Some blocks.Stale else None))
    by true = (refl, refl)
    by false = (refl, refl)

claim_neither : (c : Claim) (s : Span) (t : Bool) (stream draw : ℕ)
    → IsNeither (cause_effect (mmio_cause c.status c.range s t stream draw))
claim_neither c s t stream draw = by (crosses s) t
  where
    by_run : (b : Bool) → IsNeither (cause_effect (if b then floor_cause (floor_on stream c.status.bound) draw
        else Some blocks.NotRunning))
    by_run true = floor_neither (floor_on stream c.status.bound) draw
    by_run false = (refl, refl)

    by_open : (b : Bool) → IsNeither (cause_effect (if b then None else Some blocks.NotTrusted))
    by_open true = (refl, refl)
    by_open false = (refl, refl)

    by : (b t : Bool) → IsNeither (cause_effect (if b then Some blocks.Crosses
        else access_cause c.status c.range t stream draw))
    by true t = (refl, refl)
    by false true = by_run (is_in_run c.status.state)
    by false false = by_open (is_open_range c.range || is_config_unlocked c.status.state)

span_neither : (xs : List InterfaceStatus) (t : Bool) (stream draw : ℕ) (o : Option Span)
    → IsNeither (mmio_effect xs t stream draw o)
span_neither xs t stream draw None = (refl, refl)
span_neither xs t stream draw (Some s) = by (claim_of xs s)
  where
    by : (o : Option Claim) → IsNeither (claim_effect o s t stream draw)
    by None = (refl, refl)
    by (Some c) = claim_neither c s t stream draw

-- of interfaces that answer no reads
reads_off : (xs : List InterfaceStatus) (i : ℕ) (x : InterfaceStatus)
    → list_any (λ (y : InterfaceStatus). y.reads) xs ≡ false → slice_get xs i ≡ Some x → x.reads ≡ false
reads_off [] i x off is = absurd cc
reads_off (y ∷ xs) zero x off is =
    let same : y ≡ x = cc (is) in
    ap (λ (z : InterfaceStatus). z.reads) (sym same)
    ∙ first_off y.reads (list_any (λ (z : InterfaceStatus). z.reads) xs) off
  where
    first_off : (a b : Bool) → (a || b) ≡ false → a ≡ false
    first_off a b off = grind arith
reads_off (y ∷ xs) (suc i) x off is =
    reads_off xs i x (later_off y.reads (list_any (λ (z : InterfaceStatus). z.reads) xs) off) is
  where
    later_off : (a b : Bool) → (a || b) ≡ false → b ≡ false
    later_off a b off = grind arith

request_neither : (xs : List InterfaceStatus) (t : Bool) (stream draw n : ℕ) (o : Option MemReadView)
    (w : Option Span) → list_any (λ (x : InterfaceStatus). x.reads) xs ≡ false
    → IsNeither (effect_by_device_read xs t stream draw n o (mmio_effect xs t stream draw w))
request_neither xs t stream draw n None w off = span_neither xs t stream draw w
request_neither xs t stream draw n (Some r) w off = by (claim_of xs r.span) refl
  where
    by : (o : Option Claim) → claim_of xs r.span ≡ o → IsNeither (claimed_read_effect o r.span t stream draw n)
    by None is = (refl, refl)
    by (Some c) is =
        let none = reads_off xs c.interface c.status off (claimed xs r.span c is).interface in
        rw none (refl, refl)

device_neither : (xs : List InterfaceStatus) (n : ℕ) (unit : UnitName) (p : Packet) (r : Result HeadView TlpFault)
    → list_any (λ (x : InterfaceStatus). x.reads) xs ≡ false → IsNeither (device_effect xs n unit p r)
device_neither xs n unit p (Err f) off = (refl, refl)
device_neither xs n unit p (Ok head) off =
    request_neither xs p.prefix.t unit.stream unit.draw n (memory_read head) (write_span head) off

-- of no effect that a host's port gives
record IsNoneAtHost (test : Effect → Bool) : Type 0 where
  delivered : test effect.Delivered ≡ false
  applied : test effect.Applied ≡ false
  queued : test effect.Queued ≡ false
  blocked : (c : BlockCause) → test (effect.Blocked c) ≡ false

block_not : (test : Effect → Bool) → IsNoneAtHost test → (o : Option BlockCause) → test (block_effect o) ≡ false
block_not test none None = none.applied
block_not test none (Some c) = none.blocked c

write_not : (test : Effect → Bool) → IsNoneAtHost test → (regions : List Region) (t : Bool) (g : Grant)
    (o : Option Span) → test (write_effect regions t g o) ≡ false
write_not test none regions t g None = none.delivered
write_not test none regions t g (Some s) = block_not test none (block_cause regions s t g)

read_not : (test : Effect → Bool) → IsNoneAtHost test → (o : Option BlockCause) → test (read_effect o) ≡ false
read_not test none None = none.queued
read_not test none (Some c) = none.blocked c

host_none : (test : Effect → Bool) → IsNoneAtHost test → (plan : Plan) (policy : Policy) (n : ℕ) (port : PortName)
    (unit : UnitName) (p : Packet) (r : Result HeadView TlpFault)
    → test (host_effect plan policy.grants n port unit p r) ≡ false
host_none test none plan policy n port unit p (Err f) = none.delivered
host_none test none plan policy n port unit p (Ok head) = by (memory_read head) p.prefix.t
  where
    g : Grant
    g = unit_grant policy.grants port unit head

    by : (o : Option MemReadView) (b : Bool)
        → test (effect_by_read plan.memory b g n o (write_effect plan.memory p.prefix.t g (write_span head))) ≡ false
    by None b = write_not test none plan.memory p.prefix.t g (write_span head)
    by (Some r) false = none.delivered
    by (Some r) true = read_not test none (read_cause plan.memory r.span g n)

pub host_not : (plan : Plan) (policy : Policy) (n : ℕ) (port : PortName) (unit : UnitName) (p : Packet)
    (r : Result HeadView TlpFault) → is_stored (host_effect plan policy.grants n port unit p r) ≡ false
host_not = host_none is_stored
    (record { delivered = refl; applied = refl; queued = refl; blocked = λ c. refl })

host_waits : (plan : Plan) (policy : Policy) (n : ℕ) (port : PortName) (unit : UnitName) (p : Packet)
    (r : Result HeadView TlpFault) → is_waiting_effect (host_effect plan policy.grants n port unit p r) ≡ false
host_waits = host_none is_waiting_effect
    (record { delivered = refl; applied = refl; queued = refl; blocked = λ c. refl })

cause_waits : (o : Option BlockCause) → is_waiting_effect (cause_effect o) ≡ false
cause_waits None = refl
cause_waits (Some c) = refl

span_waits : (xs : List InterfaceStatus) (t : Bool) (stream draw : ℕ) (o : Option Span)
    → is_waiting_effect (mmio_effect xs t stream draw o) ≡ false
span_waits xs t stream draw None = refl
span_waits xs t stream draw (Some s) = by (claim_of xs s)
  where
    by : (o : Option Claim) → is_waiting_effect (claim_effect o s t stream draw) ≡ false
    by None = refl
    by (Some c) = cause_waits (mmio_cause c.status c.range s t stream draw)

claimed_waits : (o : Option Claim) (s : Span) (t : Bool) (stream draw n : ℕ)
    → is_waiting_effect (claimed_read_effect o s t stream draw n) ≡ false
claimed_waits None s t stream draw n = refl
claimed_waits (Some c) s t stream draw n = by c.status.reads
  where
    by : (b : Bool)
        → is_waiting_effect (if b then read_effect (device_read_cause c s t stream draw n) else effect.Delivered)
        ≡ false
    by true = read_not is_waiting_effect (record {
      delivered = refl;
      applied = refl;
      queued = refl;
      blocked = λ c.
          refl;
    }) (device_read_cause c s t stream draw n)
    by false = refl

device_waits : (xs : List InterfaceStatus) (n : ℕ) (unit : UnitName) (p : Packet) (r : Result HeadView TlpFault)
    → is_waiting_effect (device_effect xs n unit p r) ≡ false
device_waits xs n unit p (Err f) = refl
device_waits xs n unit p (Ok head) = by (memory_read head)
  where
    by : (o : Option MemReadView) → is_waiting_effect (effect_by_device_read xs p.prefix.t unit.stream unit.draw n o
        (mmio_effect xs p.prefix.t unit.stream unit.draw (write_span head))) ≡ false
    by None = span_waits xs p.prefix.t unit.stream unit.draw (write_span head)
    by (Some r) = claimed_waits (claim_of xs r.span) r.span p.prefix.t unit.stream unit.draw n

-- ---- one packet

-- a port is a host's or a device's
other_side : (side : Side) → (sent_direction side == 1) ≡ not (sent_direction side == 0)
other_side Host = refl
other_side Device = refl

effect_says : (plan : Plan) (policy : Policy) (n : ℕ) (port : PortName) (unit : UnitName) (p : Packet)
    → answers_reads plan policy.statuses port ≡ false
    → Says (effect_by plan policy n port unit p) (asks_read plan policy.grants port unit p) n
effect_says plan policy n port unit p off =
    by (is_sync_packet p) (at_switch plan port) (sent_direction port.side == 0)
    (ap (λ (b : Bool). (not (at_switch plan port) && b) && list_any (λ (x : InterfaceStatus). x.reads)
    (policy.statuses port.line)) (sym (other_side port.side)) ∙ off)
  where
    by : (s c b : Bool)
        → ((not c && not b) && list_any (λ (x : InterfaceStatus). x.reads) (policy.statuses port.line)) ≡ false
        → Says (if s then effect.Sync else if c then switch_effect
        else if b then host_effect plan policy.grants n port unit p (read_head_of p.head)
        else device_effect (policy.statuses port.line) n unit p (read_head_of p.head))
        (not s && ((not c && b) && packet_asks_read plan policy.grants port unit p.prefix.t (read_head_of p.head))) n
    by true c b off = record { queued = refl; full = refl }
    by false true b off = record { queued = refl; full = refl }
    by false false false off =
        neither _ n (device_neither (policy.statuses port.line) n unit p (read_head_of p.head) off)
    by false false true off = head_says plan policy n port unit p (read_head_of p.head)

store_says : (plan : Plan) (policy : Policy) (n : ℕ) (port : PortName) (unit : UnitName) (p : Packet)
    → is_stored (effect_by plan policy n port unit p) ≡ takes_write plan policy.statuses port unit p
store_says plan policy n port unit p = rw (other_side port.side)
    (by (is_sync_packet p) (at_switch plan port) (sent_direction port.side == 0))
  where
    by : (s c b : Bool) → is_stored (if s then effect.Sync else if c then switch_effect
        else if b then host_effect plan policy.grants n port unit p (read_head_of p.head)
        else device_effect (policy.statuses port.line) n unit p (read_head_of p.head))
        ≡ (not s && ((not c && not b) && takes_as (policy.statuses port.line) unit p.prefix.t (read_head_of p.head)))
    by true c b = refl
    by false true b = refl
    by false false false = device_says (policy.statuses port.line) n unit p (read_head_of p.head)
    by false false true = host_not plan policy n port unit p (read_head_of p.head)

wait_says : (plan : Plan) (policy : Policy) (n : ℕ) (port : PortName) (unit : UnitName) (p : Packet)
    → is_waiting_effect (effect_by plan policy n port unit p) ≡ waits_at plan port p
wait_says plan policy n port unit p = by (is_sync_packet p) (at_switch plan port) (sent_direction port.side == 0)
  where
    by : (s c b : Bool) → is_waiting_effect (if s then effect.Sync else if c then switch_effect
        else if b then host_effect plan policy.grants n port unit p (read_head_of p.head)
        else device_effect (policy.statuses port.line) n unit p (read_head_of p.head)) ≡ (not s && c)
    by true c b = refl
    by false true b = refl
    by false false true = host_waits plan policy n port unit p (read_head_of p.head)
    by false false false = device_waits (policy.statuses port.line) n unit p (read_head_of p.head)

-- ---- all packets of a unit

waiting_is : (e : Effect) (n : ℕ) → waiting_then e n ≡ (if is_queued e then n + 1 else n)
waiting_is e n = grind arith

-- the one counts the reads that wait, the other those that asked, until 64 wait
abbrev Counts : ℕ → ℕ → Type 0
Counts n m = (n ≡ m) ⊎ ((64 ≤ n) × (64 ≤ m))

same_tests : (n m : ℕ) → Counts n m → (nat_lt n 64 ≡ nat_lt m 64) × (nat_le 64 n ≡ nat_le 64 m)
same_tests n m (inl same) = (ap (λ (k : ℕ). nat_lt k 64) same, ap (λ (k : ℕ). nat_le 64 k) same)
same_tests n m (inr past) = (grind (arith, nat_tests, past.0, past.1), grind (arith, nat_tests, past.0, past.1))

counts_on : (n m : ℕ) (q : Bool) → q ≡ nat_lt n 64 → Counts n m → Counts (if q then n + 1 else n) (m + 1)
counts_on n m true is (inl same) = inl (ap (λ (k : ℕ). k + 1) same)
counts_on n m false is (inl same) = inr (grind (arith, nat_tests, is), grind (arith, nat_tests, is, same))
counts_on n m true is (inr past) = absurd (grind (arith, nat_tests, is, past.0))
counts_on n m false is (inr past) = inr (past.0, omega (arith, past.1))

counts_of : (e : Effect) (n m : ℕ) (ask : Bool) → Says e ask n → Counts n m
    → Counts (waiting_then e n) (if ask then m + 1 else m)
counts_of e n m true says counts = rw (waiting_is e n) (counts_on n m (is_queued e) says.queued counts)
counts_of e n m false says counts = rw (waiting_is e n, says.queued) counts

abbrev all_queued_so : Plan → Policy → PortName → UnitName → List Packet → Type 0
all_queued_so plan policy port unit ps = (n m : ℕ) → Counts n m
    → map is_queued (effects_each plan policy n port unit ps)
    ≡ which_wait m (map (asks_read plan policy.grants port unit) ps)

all_queued_step : (plan : Plan) (policy : Policy) (n m : ℕ) (port : PortName) (unit : UnitName) (ps : List Packet)
    (e : Effect) (ask : Bool) → Counts n m → Says e ask n → all_queued_so plan policy port unit ps
    → (is_queued e ∷ map is_queued (effects_each plan policy (waiting_then e n) port unit ps))
    ≡ which_wait m (ask ∷ map (asks_read plan policy.grants port unit) ps)
all_queued_step plan policy n m port unit ps e true counts says later =
    let first = says.queued ∙ (same_tests n m counts).0 in
    let rest = later (waiting_then e n) (m + 1) (counts_of e n m true says counts) in
    λ i. first i ∷ rest i
all_queued_step plan policy n m port unit ps e false counts says later =
    let first = says.queued in
    let rest = later (waiting_then e n) m (counts_of e n m false says counts) in
    λ i. first i ∷ rest i

all_queued : (plan : Plan) (policy : Policy) (port : PortName) (unit : UnitName) (ps : List Packet)
    → answers_reads plan policy.statuses port ≡ false → all_queued_so plan policy port unit ps
all_queued plan policy port unit [] off n m counts = refl
all_queued plan policy port unit (p ∷ ps) off n m counts =
    all_queued_step plan policy n m port unit ps (effect_by plan policy n port unit p)
    (asks_read plan policy.grants port unit p) counts (effect_says plan policy n port unit p off)
    (all_queued plan policy port unit ps off)

abbrev all_full_so : Plan → Policy → PortName → UnitName → List Packet → Type 0
all_full_so plan policy port unit ps = (n m : ℕ) → Counts n m → map is_full (effects_each plan policy n port unit ps)
    ≡ which_find_no_room m (map (asks_read plan policy.grants port unit) ps)

all_full_step : (plan : Plan) (policy : Policy) (n m : ℕ) (port : PortName) (unit : UnitName) (ps : List Packet)
    (e : Effect) (ask : Bool) → Counts n m → Says e ask n → all_full_so plan policy port unit ps
    → (is_full e ∷ map is_full (effects_each plan policy (waiting_then e n) port unit ps))
    ≡ which_find_no_room m (ask ∷ map (asks_read plan policy.grants port unit) ps)
all_full_step plan policy n m port unit ps e true counts says later =
    let first = says.full ∙ (same_tests n m counts).1 in
    let rest = later (waiting_then e n) (m + 1) (counts_of e n m true says counts) in
    λ i. first i ∷ rest i
all_full_step plan policy n m port unit ps e false counts says later =
    let first = says.full in
    let rest = later (waiting_then e n) m (counts_of e n m false says counts) in
    λ i. first i ∷ rest i

all_full : (plan : Plan) (policy : Policy) (port : PortName) (unit : UnitName) (ps : List Packet)
    → answers_reads plan policy.statuses port ≡ false → all_full_so plan policy port unit ps
all_full plan policy port unit [] off n m counts = refl
all_full plan policy port unit (p ∷ ps) off n m counts =
    all_full_step plan policy n m port unit ps (effect_by plan policy n port unit p)
    (asks_read plan policy.grants port unit p) counts (effect_says plan policy n port unit p off)
    (all_full plan policy port unit ps off)

all_stored : (plan : Plan) (policy : Policy) (n : ℕ) (port : PortName) (unit : UnitName) (ps : List Packet)
    → map is_stored (effects_each plan policy n port unit ps) ≡ map (takes_write plan policy.statuses port unit) ps
all_stored plan policy n port unit [] = refl
all_stored plan policy n port unit (p ∷ ps) =
    let first = store_says plan policy n port unit p in
    let rest = all_stored plan policy (waiting_then (effect_by plan policy n port unit p) n) port unit ps in
    λ i. first i ∷ rest i

all_waiting : (plan : Plan) (policy : Policy) (n : ℕ) (port : PortName) (unit : UnitName) (ps : List Packet)
    → map is_waiting_effect (effects_each plan policy n port unit ps) ≡ map (waits_at plan port) ps
all_waiting plan policy n port unit [] = refl
all_waiting plan policy n port unit (p ∷ ps) =
    let first = wait_says plan policy n port unit p in
    let rest = all_waiting plan policy (waiting_then (effect_by plan policy n port unit p) n) port unit ps in
    λ i. first i ∷ rest i

-- ---- the pair

accepted_effects : (plan : Plan) (h : History) (e : Event) (port : PortName) (unit : UnitName) (effects : List Effect)
    → Accepted port unit effects ≡ due plan h e → HasExactEffects plan h e (Accepted port unit effects)
accepted_effects plan h e port unit effects is =
    let are = effects_there plan h e port unit effects is in
    let policy = policy_at plan h in
    let at = port_of plan port in
    let n = policy.waiting at in
    let ps = unit_ended plan h e port unit in
    record {
      reads = λ off. record {
        queued = ap (λ (es : List Effect). map is_queued es) are ∙ all_queued plan policy at unit ps off n n (inl refl);
        full = ap (λ (es : List Effect). map is_full es) are ∙ all_full plan policy at unit ps off n n (inl refl);
      };
      stores = ap (λ (es : List Effect). map is_stored es) are ∙ all_stored plan policy n at unit ps;
      waits = ap (λ (es : List Effect). map is_waiting_effect es) are ∙ all_waiting plan policy n at unit ps;
      claims = claims_least (policy.statuses at.line);
    }

pub exact_effects : (plan : Plan) (h : History) (e : Event) (w : Verdict) → w ≡ due plan h e
    → HasExactEffects plan h e w
exact_effects plan h e (Accepted port unit effects) is = accepted_effects plan h e port unit effects is
exact_effects plan h e w is = tt

-- Why memory requests are blocked, and why reads that wait are dropped: the first cause of a list that holds, each said
-- in numbers.
use Rattle.std.specs.Prelude.{◌≡◌, ℕ, ◌+◌, ◌-◌, ◌*◌, ◌/◌, ◌%◌, ◌==◌, ◌&&◌, ◌∷◌, ◌++◌, nat_lt, nat_le, not, Bool, true}
use Rattle.std.specs.Prelude.{false, if◌then◌else◌, List, [], length, take, filter, slice_get, Option, Some, None}
use Rattle.std.specs.Prelude.{Result, Ok, Err}
use Rattle.std.specs.List.{list_any}
use Rattle.std.specs.Option.{option_map}
use Rattle.ide_types.specs.declared.plan.Region.{Region}
use Rattle.ide_types.specs.declared.binding.Binding.{Binding}
use Rattle.ide_types.specs.Ports.{host_port}
use Rattle.tlp_layout.specs.declared.head.HeadView.{HeadView}
use Rattle.tlp_layout.specs.Outgoing.{stream_taken}
use Rattle.trusted_memory.specs.declared.span.Span.{Span}
use Rattle.guarded_memory.specs.declared.claims.Claim.{Claim}
use Rattle.guarded_memory.specs.declared.status.InterfaceStatus.{InterfaceStatus}
use Rattle.guarded_memory.specs.Claims.{claim_of}
use Rattle.guarded_memory.specs.Statuses.{is_config_unlocked, is_in_run}
use Rattle.spec_links.specs.Terms.{PortName, Plan, Event, Access, Effect, UnitName, Verdict, Accepted, Packet, History}
use Rattle.spec_links.specs.Terms.{is_sync_packet, read_head_of, TlpFault, MemReadView, memory_read, write_span}
use Rattle.spec_links.specs.Terms.{WaitingRead, Site, site_of_requester, owner_site, history_statuses}
use Rattle.spec_links.specs.Plan.{has_link}
use Rattle.spec_links.specs.Ports.{port_of, is_host_port, is_device_port}
use Rattle.spec_links.specs.Memory.{unit_ended, waiting_reads}
use Rattle.spec_links.specs.Due.{outgoing_completion}
use Rattle.spec_interfaces.specs.Terms.{View, Running}
use Rattle.spec_interfaces.specs.Views.{view_at, floor_at}
use Rattle.law_locks.specs.Fronts.{AtPairs}
use Rattle.law_verdicts.specs.Effects.{is_queued}
use Rattle.script_events.specs.declared.event.AccessEvent.TheVariants as ae
use Rattle.event_verdicts.specs.declared.access.AccessVerdict.TheVariants as av
use Rattle.event_verdicts.specs.declared.verdict.BlockCause.{BlockCause}
use Rattle.event_verdicts.specs.declared.verdict.BlockCause.TheVariants as cause
use Rattle.event_verdicts.specs.declared.verdict.Effect.TheVariants.{Blocked, Sync}
use Rattle.event_verdicts.specs.declared.verdict.Verdict.TheVariants as v

-- of these, the first whose test holds
abbrev pub first_holding : {A : Type 0} → List (Bool × A) → Option A
first_holding [] = None
first_holding (x ∷ xs) = if x.0 then Some x.1 else first_holding xs

-- ---- the interface of a request's requester ID, as the host's manager has it

abbrev pub is_running : View → Bool
is_running Running = true
is_running view = false

abbrev pub runs_by_view : History → Option Site → Bool
runs_by_view h None = false
runs_by_view h (Some x) = is_running (view_at h x)

abbrev pub has_stream_of : ℕ → Option Site → Bool
has_stream_of stream None = false
has_stream_of stream (Some x) = x.plan.stream == stream

abbrev pub is_below_floor : History → ℕ → Option Site → Bool
is_below_floor h draw None = false
is_below_floor h draw (Some x) = nat_lt draw (floor_at h x)

-- its view is not Running, it came on another stream than the interface's, its draw is below the floor
abbrev pub grant_causes : History → Option Site → (stream draw : ℕ) → List (Bool × BlockCause)
grant_causes h x stream draw =
    (not (runs_by_view h x), cause.NotRunning) ∷ (not (has_stream_of stream x), cause.WrongStream)
    ∷ (is_below_floor h draw x, cause.Stale) ∷ []

-- ---- where the bytes lie: so many from an address on

-- a region has them all
abbrev pub has_bytes : (address bytes : ℕ) → Region → Bool
has_bytes address bytes r = nat_le r.base address && nat_le (address + bytes) (r.base + r.size)

-- the first and the last are not in one page of 4096 bytes
abbrev pub is_across : (address bytes : ℕ) → Bool
is_across address bytes = not (address / 4096 == (address + bytes - 1) / 4096)

-- no region has them all, they cross a 4 KiB boundary
abbrev pub place_causes : List Region → (address bytes : ℕ) → List (Bool × BlockCause)
place_causes regions address bytes =
    (not (list_any (has_bytes address bytes) regions), cause.Outside) ∷ (is_across address bytes, cause.Crosses) ∷ []

-- ---- at a host's port

-- of a memory write with T or without
abbrev pub write_causes : Plan → History → Option Site → Bool → (stream draw address bytes : ℕ)
    → List (Bool × BlockCause)
write_causes plan h x t stream draw address bytes =
    (not t, cause.NotTrusted) ∷ grant_causes h x stream draw ++ place_causes plan.memory address bytes

-- of a memory read with T, while so many reads wait at the port
abbrev pub read_causes : Plan → History → Option Site → (waiting stream draw address bytes : ℕ)
    → List (Bool × BlockCause)
read_causes plan h x waiting stream draw address bytes =
    grant_causes h x stream draw
    ++ (place_causes plan.memory address bytes ++ (nat_le 64 waiting, cause.Full) ∷ [])

-- of a request that is no write
abbrev pub cause_of_read : Plan → History → Option Site → Bool → UnitName → ℕ → Option MemReadView → Option BlockCause
cause_of_read plan h x t unit waiting None = None
cause_of_read plan h x t unit waiting (Some r) =
    if t then first_holding (read_causes plan h x waiting unit.stream unit.draw r.span.address (4 * r.span.length))
    else None

-- of a memory write by its bytes, else of a read
abbrev pub cause_of_request : Plan → History → Option Site → Bool → UnitName → ℕ → Option Span → Option MemReadView
    → Option BlockCause
cause_of_request plan h x t unit waiting (Some s) read =
    first_holding (write_causes plan h x t unit.stream unit.draw s.address (4 * s.length))
cause_of_request plan h x t unit waiting None read = cause_of_read plan h x t unit waiting read

abbrev pub cause_at_host : Plan → History → PortName → UnitName → ℕ → Bool → Result HeadView TlpFault
    → Option BlockCause
cause_at_host plan h port unit waiting t (Err f) = None
cause_at_host plan h port unit waiting t (Ok head) =
    cause_of_request plan h (owner_site plan port.line head) t unit waiting (write_span head) (memory_read head)

-- ---- at a device's port

-- bit 2 of its attributes
abbrev pub is_open_claim : Claim → Bool
is_open_claim c = c.range.attributes / 4 % 2 == 1

abbrev pub is_bound_on : ℕ → Binding → Bool
is_bound_on stream b = b.stream == stream

-- the first binding to the stream has a floor that is above the draw
abbrev pub is_below : (stream draw : ℕ) → List Binding → Bool
is_below stream draw [] = false
is_below stream draw (b ∷ bs) = if is_bound_on stream b then nat_lt draw b.floor else is_below stream draw bs

-- of a write that a BAR claims: it crosses a 4 KiB boundary; without T, the BAR is not open and the interface not in
-- CONFIG_UNLOCKED; with T, the interface is not in RUN, is not bound to the stream, has a floor there above the draw
abbrev pub claim_causes : Claim → Bool → (stream draw address bytes : ℕ) → List (Bool × BlockCause)
claim_causes c t stream draw address bytes =
    (is_across address bytes, cause.Crosses)
    ∷ (not t && not (is_open_claim c) && not (is_config_unlocked c.status.state), cause.NotTrusted)
    ∷ (t && not (is_in_run c.status.state), cause.NotRunning)
    ∷ (t && not (list_any (is_bound_on stream) c.status.bound), cause.WrongStream)
    ∷ (t && is_below stream draw c.status.bound, cause.Stale) ∷ []

abbrev pub cause_of_claim : Option Claim → Bool → UnitName → Span → Option BlockCause
cause_of_claim None t unit s = None
cause_of_claim (Some c) t unit s = first_holding (claim_causes c t unit.stream unit.draw s.address (4 * s.length))

-- of a read that a BAR claims, of an interface that answers reads, while so many reads wait at the port: what would
-- block a write there, and that no more may wait
abbrev pub device_read_causes : Claim → Bool → (waiting stream draw address bytes : ℕ) → List (Bool × BlockCause)
device_read_causes c t waiting stream draw address bytes =
    claim_causes c t stream draw address bytes ++ (nat_le 64 waiting, cause.Full) ∷ []

abbrev pub cause_of_device_read : Option Claim → Bool → UnitName → ℕ → Span → Option BlockCause
cause_of_device_read None t unit waiting s = None
cause_of_device_read (Some c) t unit waiting s =
    if c.status.reads
    then first_holding (device_read_causes c t waiting unit.stream unit.draw s.address (4 * s.length)) else None

-- of a memory write by its bytes, else of a memory read
abbrev pub cause_by_claims : List InterfaceStatus → Bool → UnitName → ℕ → Option Span → Option MemReadView
    → Option BlockCause
cause_by_claims xs t unit waiting (Some s) read = cause_of_claim (claim_of xs s) t unit s
cause_by_claims xs t unit waiting None (Some r) = cause_of_device_read (claim_of xs r.span) t unit waiting r.span
cause_by_claims xs t unit waiting None None = None

abbrev pub cause_at_device : List InterfaceStatus → UnitName → ℕ → Bool → Result HeadView TlpFault → Option BlockCause
cause_at_device xs unit waiting t (Err f) = None
cause_at_device xs unit waiting t (Ok head) = cause_by_claims xs t unit waiting (write_span head) (memory_read head)

-- ---- of each packet of an accepted unit

abbrev pub cause_in : Effect → Option BlockCause
cause_in (Blocked c) = Some c
cause_in effect = None

-- while so many reads wait at the port
abbrev pub cause_of_packet : Plan → History → PortName → UnitName → ℕ → Packet → Option BlockCause
cause_of_packet plan h port unit waiting p =
    if is_sync_packet p then None
    else if is_host_port plan port then cause_at_host plan h port unit waiting p.prefix.t (read_head_of p.head)
    else if is_device_port plan port
    then cause_at_device (history_statuses plan h port.line) unit waiting p.prefix.t (read_head_of p.head)
    else None

-- and exactly a sync packet has the effect `sync`
abbrev pub is_sync_effect : Effect → Bool
is_sync_effect Sync = true
is_sync_effect effect = false

-- so many of the first packets of the unit are queued
abbrev pub queued_count : List Effect → ℕ → ℕ
queued_count effects n = length (filter is_queued (take n effects))

abbrev pub IsBlockedByCause : Plan → History → Event → Verdict → Type 0
IsBlockedByCause plan h e (Accepted port unit effects) =
    (n : ℕ) (p : Packet) (effect : Effect) → slice_get (unit_ended plan h e port unit) n ≡ Some p
    → slice_get effects n ≡ Some effect
    → (cause_in effect
    ≡ cause_of_packet plan h (port_of plan port) unit
    (length (waiting_reads plan h (port_of plan port)) + queued_count effects n) p)
    × (is_sync_effect effect ≡ is_sync_packet p)
IsBlockedByCause plan h e w = Unit {0}

-- ---- reads that are dropped

-- the stream that the completion takes, if it takes one, is the interface's
abbrev pub takes_own : Site → Option ℕ → Bool
takes_own x None = false
takes_own x (Some stream) = x.plan.stream == stream

abbrev pub drop_causes : Plan → History → ℕ → Site → WaitingRead → List (Bool × BlockCause)
drop_causes plan h link x r =
    (not (is_running (view_at h x)), cause.NotRunning)
    ∷ (not (takes_own x (stream_taken (outgoing_completion plan h link))), cause.WrongStream)
    ∷ (nat_lt r.came.draw (floor_at h x), cause.Stale) ∷ []

-- whose read a verdict drops, and why
abbrev pub drop_in : Verdict → Option (ℕ × BlockCause)
drop_in (v.Access (av.Dropped i c)) = Some (i, c)
drop_in w = None

-- of an answer to the oldest read that waits, which is of this interface
abbrev pub DropsByCause : Plan → History → Event → Verdict → Type 0
DropsByCause plan h (Access (ae.Answer link)) w =
    (x : Site) (r : WaitingRead) (rs : List WaitingRead) → has_link plan link ≡ true
    → waiting_reads plan h (host_port link) ≡ r ∷ rs → site_of_requester plan link r.read.requester ≡ Some x
    → drop_in w ≡ option_map (λ (c : BlockCause). (x.number, c)) (first_holding (drop_causes plan h link x r))
DropsByCause plan h e w = Unit {0}

-- ---- the law

abbrev pub HasCauses : Plan → History → Event → Verdict → Type 0
HasCauses plan h e w = IsBlockedByCause plan h e w × DropsByCause plan h e w

abbrev pub BlockLaw : Plan → History → Type 0
BlockLaw plan h = AtPairs (HasCauses plan) h

-- Exactly which packets of accepted units are queued, blocked because no more may wait, and stored, and which wait at a
-- switch.
use Rattle.std.specs.Prelude.{◌≡◌, ℕ, ◌+◌, ◌&&◌, ◌||◌, ◌∷◌, nat_le, nat_lt, Bool, true, false, not, List, []}
use Rattle.std.specs.Prelude.{length, map, Option, Some, None, Result, Ok, Err}
use Rattle.std.specs.List.{list_any}
use Rattle.spec_links.specs.Terms.{PortName, Plan, Event, Effect, UnitName, Verdict, Accepted, Packet, History}
use Rattle.spec_links.specs.Terms.{is_sync_packet, read_head_of, TlpFault, MemReadView, memory_read, Grant, grant_at}
use Rattle.spec_links.specs.Terms.{write_span, history_statuses, is_on_bound}
use Rattle.spec_links.specs.Ports.{port_of, at_switch, is_host_port, is_device_port}
use Rattle.spec_links.specs.Memory.{Grants, unit_grant, unit_ended, waiting_reads}
use Rattle.tlp_layout.specs.declared.head.HeadView.{HeadView}
use Rattle.trusted_memory.specs.declared.span.Span.{Span}
use Rattle.trusted_memory.specs.Spans.{crosses}
use Rattle.trusted_memory.specs.Admitted.{is_placed}
use Rattle.guarded_memory.specs.declared.status.InterfaceStatus.{InterfaceStatus}
use Rattle.guarded_memory.specs.declared.claims.Claim.{Claim}
use Rattle.guarded_memory.specs.Claims.{claim_of}
use Rattle.guarded_memory.specs.Causes.{is_stored}
use Rattle.guarded_memory.specs.Laws.{is_admitted}
use Rattle.guarded_memory.specs.Statuses.{is_open_range, is_config_unlocked}
use Rattle.law_locks.specs.Fronts.{AtPairs}
use Rattle.event_verdicts.specs.declared.verdict.BlockCause.TheVariants.{Full}
use Rattle.event_verdicts.specs.declared.verdict.Effect.TheVariants.{Queued, Blocked, Waiting}
use Rattle.law_mmio.specs.Numbers.{ClaimsLeast}

-- ---- reads

abbrev pub is_queued : Effect → Bool
is_queued Queued = true
is_queued effect = false

abbrev pub is_full : Effect → Bool
is_full (Blocked Full) = true
is_full effect = false

-- a memory read with T, which the manager grants, and whose bytes lie in one region and cross no 4 KiB boundary
abbrev pub asks_granted_read : Plan → Bool → Grant → Option MemReadView → Bool
asks_granted_read plan t grant None = false
asks_granted_read plan t grant (Some r) = t &&
    (is_on_bound grant.stream grant.draw grant.bound && is_placed plan.memory r.span)

abbrev pub packet_asks_read : Plan → Grants → PortName → UnitName → Bool → Result HeadView TlpFault → Bool
packet_asks_read plan grants port unit t (Err f) = false
packet_asks_read plan grants port unit t (Ok head) = asks_granted_read plan t (unit_grant grants port unit head)
    (memory_read head)

-- of a packet that came to a host's port
abbrev pub asks_read : Plan → Grants → PortName → UnitName → Packet → Bool
asks_read plan grants port unit p =
    not (is_sync_packet p) &&
    (is_host_port plan port && packet_asks_read plan grants port unit p.prefix.t (read_head_of p.head))

-- Of packets in order, those that ask, while so many wait ahead of the first: the ones that come before 64 wait, and
-- the ones that come after.
abbrev pub which_wait : ℕ → List Bool → List Bool
which_wait n [] = []
which_wait n (true ∷ asks) = nat_lt n 64 ∷ which_wait (n + 1) asks
which_wait n (false ∷ asks) = false ∷ which_wait n asks

abbrev pub which_find_no_room : ℕ → List Bool → List Bool
which_find_no_room n [] = []
which_find_no_room n (true ∷ asks) = nat_le 64 n ∷ which_find_no_room (n + 1) asks
which_find_no_room n (false ∷ asks) = false ∷ which_find_no_room n asks

abbrev pub asks_by_packet : Plan → History → Event → PortName → UnitName → List Bool
asks_by_packet plan h e port unit = map (asks_read plan (grant_at plan h) (port_of plan port) unit)
    (unit_ended plan h e port unit)

-- it is a device's port, and one of the device's interfaces answers reads
abbrev pub answers_reads : Plan → (ℕ → List InterfaceStatus) → PortName → Bool
answers_reads plan statuses port =
    is_device_port plan port && list_any (λ (x : InterfaceStatus). x.reads) (statuses port.line)

pub record QueuesAsked (plan : Plan) (h : History) (e : Event) (port : PortName) (unit : UnitName)
    (effects : List Effect) : Type 0 where
  pub queued : map is_queued effects
      ≡ which_wait (length (waiting_reads plan h (port_of plan port))) (asks_by_packet plan h e port unit)
  pub full : map is_full effects
      ≡ which_find_no_room (length (waiting_reads plan h (port_of plan port))) (asks_by_packet plan h e port unit)

-- ---- stores

-- The write that this claims is stored: it crosses no 4 KiB boundary, and if it has T, the interface is in RUN, bound
-- to the stream, and the draw is from its floor there on; else the range is open, or the interface in CONFIG_UNLOCKED.
abbrev pub takes_claimed : Bool → ℕ → ℕ → Claim → Bool
takes_claimed true stream draw c = is_admitted c.status true stream draw
takes_claimed false stream draw c = is_open_range c.range || is_config_unlocked c.status.state

abbrev pub takes_claim : Bool → ℕ → ℕ → Span → Option Claim → Bool
takes_claim t stream draw s None = false
takes_claim t stream draw s (Some c) = not (crosses s) && takes_claimed t stream draw c

abbrev pub takes_span : List InterfaceStatus → Bool → ℕ → ℕ → Option Span → Bool
takes_span xs t stream draw None = false
takes_span xs t stream draw (Some s) = takes_claim t stream draw s (claim_of xs s)

abbrev pub takes_as : List InterfaceStatus → UnitName → Bool → Result HeadView TlpFault → Bool
takes_as xs unit t (Err f) = false
takes_as xs unit t (Ok head) = takes_span xs t unit.stream unit.draw (write_span head)

-- of a packet that came to a device's port
abbrev pub takes_write : Plan → (ℕ → List InterfaceStatus) → PortName → UnitName → Packet → Bool
takes_write plan statuses port unit p =
    not (is_sync_packet p)
    && (is_device_port plan port && takes_as (statuses port.line) unit p.prefix.t (read_head_of p.head))

abbrev pub StoresTaken : Plan → History → Event → PortName → UnitName → List Effect → Type 0
StoresTaken plan h e port unit effects = map is_stored effects
    ≡ map (takes_write plan (history_statuses plan h) (port_of plan port) unit) (unit_ended plan h e port unit)

-- ---- what waits at switches

abbrev pub is_waiting_effect : Effect → Bool
is_waiting_effect Waiting = true
is_waiting_effect effect = false

-- each TLP that came to a switch
abbrev pub waits_at : Plan → PortName → Packet → Bool
waits_at plan port p = not (is_sync_packet p) && at_switch plan port

abbrev pub WaitsToBeForwarded : Plan → History → Event → PortName → UnitName → List Effect → Type 0
WaitsToBeForwarded plan h e port unit effects =
    map is_waiting_effect effects ≡ map (waits_at plan (port_of plan port)) (unit_ended plan h e port unit)

-- ---- the law

pub record ExactEffects (plan : Plan) (h : History) (e : Event) (port : PortName) (unit : UnitName)
    (effects : List Effect) : Type 0 where
  -- but for reads at a device's port that its interfaces answer
  pub reads : answers_reads plan (history_statuses plan h) (port_of plan port) ≡ false
      → QueuesAsked plan h e port unit effects
  pub stores : StoresTaken plan h e port unit effects
  pub waits : WaitsToBeForwarded plan h e port unit effects
  -- of any double words the claim is by the first interface there that has memory space on and a BAR with all of them,
  -- and by its first such BAR
  pub claims : (s : Span) → ClaimsLeast (history_statuses plan h (port_of plan port).line) s

abbrev pub HasExactEffects : Plan → History → Event → Verdict → Type 0
HasExactEffects plan h e (Accepted port unit effects) = ExactEffects plan h e port unit effects
HasExactEffects plan h e w = Unit {0}

-- at each accepted unit
abbrev pub EffectLaw : Plan → History → Type 0
EffectLaw plan h = AtPairs (HasExactEffects plan) h

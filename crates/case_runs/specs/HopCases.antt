-- Worked cases of a hop: events with the verdicts that were worked out by hand, in order.
use Rattle.std.specs.Prelude.{◌≡◌, ℕ, false, true, Some, None, List, [], ◌∷◌, ◌++◌, replicate}
use Rattle.ide_types.specs.Ports.{host_port, device_port}
use Rattle.ide_types.specs.declared.port.PortName.{PortName}
use Rattle.ide_types.specs.declared.fault_word.FaultWord.TheVariants as fault
use Rattle.ide_types.specs.declared.sub.SubKind.TheVariants.{Npr}
use Rattle.ide_types.specs.declared.direction.Direction.TheVariants.{Downstream, Upstream}
use Rattle.ide_types.specs.declared.plan.Plan.{Plan}
use Rattle.ide_types.specs.declared.stream.Selector.TheVariants.{Selective}
use Rattle.ide_types.specs.Ends.{reset_ends}
use Rattle.script_events.specs.declared.event.Event.{Event}
use Rattle.script_events.specs.declared.event.Event.TheVariants.{Send, Arrive, Establish, Stop, Reset, Forward}
use Rattle.event_verdicts.specs.declared.access.AccessVerdict.TheVariants as av
use Rattle.event_verdicts.specs.declared.verdict.Effect.TheVariants.{Waiting}
use Rattle.event_verdicts.specs.declared.verdict.SealedPacket.{SealedPacket}
use Rattle.event_verdicts.specs.declared.verdict.UnitName.{UnitName}
use Rattle.event_verdicts.specs.declared.verdict.Verdict.{Verdict}
use Rattle.event_verdicts.specs.declared.verdict.Verdict.TheVariants as v
use Rattle.spec_keys.specs.History.{History}
use Rattle.spec_links.specs.Due.{due}

-- ---- what there is

-- link 0 has stream 5, for the requester 0100h alone, and a hop, whose stream 7 takes traffic class 1; the pool has
-- four draws
abbrev pub hop_plan : Plan
hop_plan = record {
  version = 2;
  portion = 16;
  units_per_key = 4294967296;
  pool = replicate 24 (replicate 32 0);
  links =
      record {
        nonces = [];
        streams = record {
          id = 5;
          aggregation = 1;
          closed = false;
          selector = Selective (Some (record { base = 0x0100; limit = 0x0100 })) [] false;
        } ∷ [];
        interfaces = [];
        hop = Some (record { id = 7; classes = 1 ∷ [] });
      } ∷ [];
  memory = [];
  peers = [];
}

-- a read at 10000000h by the requester 0300h, of traffic class 1
abbrev pub hop_read : List ℕ
hop_read = 0x00 ∷ 0x10 ∷ 0x00 ∷ 0x01 ∷ 0x03 ∷ 0x00 ∷ 0x01 ∷ 0x0f ∷ 0x10 ∷ 0x00 ∷ 0x00 ∷ 0x00 ∷ []

abbrev pub at_u : PortName
at_u = device_port 8

abbrev pub at_w : PortName
at_w = host_port 16

abbrev pub at_device : PortName
at_device = device_port 16

-- ---- pairs

abbrev pub hop_packet : ℕ → PortName → ℕ → SealedPacket
hop_packet number port draw = record {
  number = number;
  port = port;
  stream = 7;
  sub = Npr;
  draw = draw;
  unit = 1;
  m = true;
  k = false;
  t = false;
  posted = 0;
  sync = false;
}

abbrev pub hop_unit : ℕ → UnitName
hop_unit draw = record { stream = 7; sub = Npr; draw = draw; unit = 1 }

-- the segment towards the host gets its keys, and the one towards the device
abbrev pub near_keyed : ℕ → Event × Verdict
near_keyed draw = (Establish 8 7 None, v.Established 8 7 draw)

abbrev pub far_keyed : Event × Verdict
far_keyed = (Establish 16 7 None, v.Established 16 7 1)

-- the device sends the read, which is sealed on the hop
abbrev pub sent_read : Event × Verdict
sent_read = (Send (device_port 0) hop_read false false, v.Sealed (hop_packet 1 at_device 1 ∷ []))

-- Such a read with T arrives at the switch and waits there. (That its tag, of zeros here, verifies is supposed.)
abbrev pub arriving_bytes : List ℕ
arriving_bytes = 0x92 ∷ 0xa1 ∷ 0x07 ∷ 0x00 ∷ hop_read ++ replicate 12 0

abbrev pub waits_there : Event × Verdict
waits_there = (Arrive at_w arriving_bytes, v.Accepted at_w (hop_unit 1) (Waiting ∷ []))

-- the switch seals it towards the host, with its T
abbrev pub forwarded_under : ℕ → Event × Verdict
forwarded_under draw = (Forward 0 Upstream, v.Sealed (record (hop_packet 2 at_u draw) { t = true } ∷ []))

abbrev pub none_waits : Event × Verdict
none_waits = (Forward 0 Upstream, v.Access (av.Empty 0))

abbrev pub none_waits_down : Event × Verdict
none_waits_down = (Forward 0 Downstream, v.Access (av.Empty 0))

-- no other link has a hop
abbrev pub no_hop : Event × Verdict
no_hop = (Forward 1 Upstream, v.Nothing)

-- the segment towards the host is stopped, and a forward is refused
abbrev pub near_stopped : Event × Verdict
near_stopped = (Stop 8 7 None, v.Stopped 8 7)

abbrev pub no_key_step : Event × Verdict
no_key_step = (Forward 0 Upstream, v.RefusedNoKey Npr)

-- of stream 5 bytes go through u; two bytes are no packet
abbrev pub goes_through_u : Event × Verdict
goes_through_u = (Arrive at_u (0x92 ∷ 0x80 ∷ 0x05 ∷ []), v.Through at_u)

abbrev pub short_at_u : Event × Verdict
short_at_u = (Arrive at_u (0x92 ∷ 0x80 ∷ []), v.Malformed at_u fault.Short 2)

abbrev pub link_reset : Event × Verdict
link_reset = (Reset 0 (reset_ends hop_plan 0), v.Reset 0)

-- ---- cases

abbrev pub IsHopDue : History → Event × Verdict → Type 0
IsHopDue h x = due hop_plan h x.0 ≡ x.1

abbrev pub keyed_hop_history : History
keyed_hop_history = far_keyed ∷ near_keyed 0 ∷ []

abbrev pub waiting_hop_history : History
waiting_hop_history = waits_there ∷ sent_read ∷ keyed_hop_history

abbrev pub stopped_hop_history : History
stopped_hop_history = near_stopped ∷ waiting_hop_history

-- A read that a device sends in a class of the hop is sealed on the segment towards the device. What waits at the
-- switch a forward seals on the segment towards the host, once. Where that has no keys it is refused, and the read
-- stays first: with keys again it is sealed under them. A reset drops it.
abbrev pub HopCases : Type 0
HopCases =
    IsHopDue [] (near_keyed 0) × IsHopDue (near_keyed 0 ∷ []) far_keyed × IsHopDue keyed_hop_history sent_read
    × IsHopDue keyed_hop_history none_waits
    × IsHopDue waiting_hop_history none_waits_down
    × IsHopDue waiting_hop_history no_hop
    × IsHopDue waiting_hop_history (forwarded_under 0)
    × IsHopDue (forwarded_under 0 ∷ waiting_hop_history) none_waits
    × IsHopDue waiting_hop_history near_stopped
    × IsHopDue stopped_hop_history no_key_step
    × IsHopDue (no_key_step ∷ stopped_hop_history) (near_keyed 2)
    × IsHopDue (near_keyed 2 ∷ no_key_step ∷ stopped_hop_history) (forwarded_under 2)
    × IsHopDue waiting_hop_history link_reset
    × IsHopDue (link_reset ∷ waiting_hop_history) none_waits
    × IsHopDue keyed_hop_history goes_through_u
    × IsHopDue keyed_hop_history short_at_u

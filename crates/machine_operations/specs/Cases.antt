-- Worked cases: operations among sends, by the definitions and by the machine.
use Rattle.std.specs.Prelude.{◌≡◌, Some, None, ℕ, Bool, false, true, List, [], ◌∷◌, map, replicate, Err}
use Rattle.ide_types.specs.Ports.{host_port, device_port}
use Rattle.ide_types.specs.declared.line.LineKind.TheVariants.{Link}
use Rattle.ide_types.specs.declared.sub.SubKind.TheVariants.{Pr}
use Rattle.script_events.specs.declared.event.Lost.TheVariants.{Request, Reply}
use Rattle.script_events.specs.declared.event.Event.{Event}
use Rattle.script_events.specs.declared.event.Event.TheVariants.{Send, Establish, Refresh, Stop, Reset, Status}
use Rattle.event_verdicts.specs.declared.verdict.Operation.TheVariants as op
use Rattle.ide_types.specs.declared.status.StreamStatus.TheVariants as status
use Rattle.event_verdicts.specs.declared.verdict.Verdict.{Verdict}
use Rattle.event_verdicts.specs.declared.verdict.Verdict.TheVariants as v
use Rattle.event_verdicts.specs.declared.verdict.SealedPacket.{SealedPacket}
use Rattle.ide_types.specs.declared.plan.Plan.{Plan}
use Rattle.ide_types.specs.declared.stream.Selector.TheVariants.{Selective}
use Rattle.spec_keys.specs.History.{History}
use Rattle.machine_ports.specs.{due}
use Rattle.event_verdicts.specs.declared.verdict.Effect.TheVariants as effect
use Rattle.machine_ports.specs.Machine.{BesidePorts, LinkState, step_of, first_state}

-- link 0 has stream 5, the default one, with units of up to 4 packets; the pool has three draws
abbrev pub port_plan : Plan
port_plan = record {
  version = 1;
  portion = 16;
  units_per_key = 4294967296;
  pool = replicate 18 (replicate 32 0);
  links =
      record {
        nonces = [];
        streams = record { id = 5; aggregation = 4; closed = false; selector = Selective None [] true } ∷ [];
        interfaces = [];
        hop = None;
      } ∷ [];
  memory = [];
  peers = [];
}

-- a write of 11 22 33 44 at 10000000h by the requester 0100h
abbrev pub host_write_tlp : List ℕ
host_write_tlp =
    0x40 ∷ 0x00 ∷ 0x00 ∷ 0x01 ∷ 0x01 ∷ 0x00 ∷ 0x00 ∷ 0x0f ∷ 0x10 ∷ 0x00 ∷ 0x00 ∷ 0x00 ∷ 0x11 ∷ 0x22 ∷ 0x33 ∷ 0x44 ∷ []

abbrev pub packet_of_port : ℕ → ℕ → ℕ → Bool → Bool → SealedPacket
packet_of_port number draw unit m k =
    record {
      number = number;
      port = device_port 0;
      stream = 5;
      sub = Pr;
      draw = draw;
      unit = unit;
      m = m;
      k = k;
      t = false;
      posted = 0;
      sync = false;
    }

-- no interfaces
abbrev pub no_interfaces : BesidePorts
no_interfaces = record {
  t = λ port head stream trusted. false;
  effects = λ port unit ps. map (λ p. effect.Delivered) ps;
  answer = λ e. v.Nothing;
  reply = λ link. Err v.Nothing;
  shows = λ i bar offset len. v.Nothing;
  forward = λ link d. Err v.Nothing;
}

abbrev pub port_verdicts_on : History → List Event → List Verdict
port_verdicts_on h [] = []
port_verdicts_on h (e ∷ es) = let verdict = due port_plan h e in verdict ∷ port_verdicts_on ((e, verdict) ∷ h) es

abbrev pub answers_on : LinkState → List Event → List Verdict
answers_on st [] = []
answers_on st (e ∷ es) = let r = step_of port_plan no_interfaces st e in r.0 ∷ answers_on r.1 es

-- a refresh of a set whose unit is unfinished at the device is refused there, and goes on once the unit ended
abbrev pub held_up : List Event
held_up =
    Establish 0 5 None ∷ Send (device_port 0) host_write_tlp true false ∷ Refresh 0 5 None ∷ Refresh 0 5 None
    ∷ Send (device_port 0) host_write_tlp false
    false ∷ Refresh 0 5 None ∷ []

abbrev pub held_up_verdicts : List Verdict
held_up_verdicts =
    v.Established 0 5 0 ∷ v.Sealed (packet_of_port 1 0 1 false false ∷ []) ∷ v.Refreshed 0 5 1 ∷ v.RefusedDevice 4 3
    ∷ v.Sealed (packet_of_port 2 0 1 true false ∷ []) ∷ v.Refreshed 0 5 2 ∷ []

-- losses, refusals, a stop and a reset
abbrev pub lost_on_the_way : List Event
lost_on_the_way =
    Establish 0 5 (Some (record { exchange = 11; lost = Request })) ∷ Status 0 5 ∷ Refresh 0 5 None ∷ Establish 0 5 None
    ∷ Establish 0 5 None
    ∷ Stop 0 5 (Some (record { exchange = 3; lost = Reply })) ∷ Establish 0 5 None
    ∷ Reset 0 (host_port 0 ∷ device_port 0 ∷ []) ∷ Establish 0 6 None
    ∷ Status 0 5 ∷ []

abbrev pub lost_verdicts : List Verdict
lost_verdicts =
    v.LostRequest 11 ∷ v.Status 0 5 status.Secure status.Partial ∷ v.RefusedBusy Link op.Establish ∷ v.Established 0 5 0
    ∷ v.RefusedNotIdle
    ∷ v.LostReply 3 ∷ v.RefusedBusy Link op.Stop ∷ v.Reset 0 ∷ v.Nothing ∷ v.Status 0 5 status.Idle status.Idle ∷ []

abbrev pub WorkedCases : Type 0
WorkedCases =
    (port_verdicts_on [] held_up ≡ held_up_verdicts) × (answers_on (first_state port_plan) held_up ≡ held_up_verdicts)
    × (port_verdicts_on [] lost_on_the_way ≡ lost_verdicts) ×
    (answers_on (first_state port_plan) lost_on_the_way ≡ lost_verdicts)

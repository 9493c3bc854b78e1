-- Which sealed packets have T.
use Rattle.std.specs.Prelude.{◌≡◌, ◌↔◌, ℕ, ◌&&◌, Bool, true, false, not, nat_le, List, Some, length, slice_get}
use Rattle.spec_links.specs.Terms.{AllByRecursion, Plan, PortName, Event, SealedPacket, Verdict, History, read_of}
use Rattle.spec_links.specs.Terms.{WaitingRead}
use Rattle.spec_links.specs.History.{sent_bytes}
use Rattle.spec_links.specs.Hops.{HopTlp, entering_end, leaving_end}
use Rattle.spec_links.specs.HopLaws.{tlps_since_reset}
use Rattle.spec_links.specs.Memory.{accepted_tlps, queued_reads}
use Rattle.spec_links.specs.Sent.{reads_taken}
use Rattle.spec_links.specs.Ports.{at_switch}
use Rattle.spec_keys.specs.Places.{is_host}
use Rattle.ide_types.specs.Ends.{port_beside_end}
use Rattle.ide_types.specs.Ports.{device_port}
use Rattle.ide_types.specs.Lines.{is_link_line, is_far_hop_line}
use Rattle.ide_types.specs.declared.direction.Direction.{Direction}
use Rattle.spec_interfaces.specs.Sites.{Site}
use Rattle.spec_interfaces.specs.Cause.{owner_read}
use Rattle.spec_interfaces.specs.Devices.{interface_at}
use Rattle.interface_state.specs.declared.states.Lock.{Lock}
use Rattle.interface_state.specs.declared.states.TdiState.TheVariants.{Run}
use Rattle.spec_interfaces.specs.Laws.{OwnerIsBound}
use Rattle.law_locks.specs.Fronts.{AtPairs}
use Rattle.law_verdicts.specs.Verdicts.{asks_trust, is_at_host}
use Rattle.script_events.specs.declared.event.Event.TheVariants as event
use Rattle.script_events.specs.declared.event.AccessEvent.TheVariants as ae
use Rattle.event_verdicts.specs.declared.verdict.Verdict.TheVariants as v

-- ---- ends

-- a device's end of its link, of the segment of its hop, and of a stream between devices
abbrev pub is_at_device : PortName → Bool
is_at_device end = not (is_host end.side) && is_link_line end.line

abbrev pub is_at_device_hop : PortName → Bool
is_at_device_hop end = not (is_host end.side) && is_far_hop_line end.line

abbrev pub is_at_peer : PortName → Bool
is_at_peer end = nat_le 24 end.line

-- ---- what sets T

-- The owner of the TLP of these bytes, the interface of the link's device whose requester ID is that of the request or
-- the completer of the completion, is in RUN, and its lock names the stream.
pub record OwnerRuns (plan : Plan) (h : History) (link stream : ℕ) (bytes : List ℕ) : Type 0 where
  pub interface : Site
  pub owns : owner_read plan link (read_of bytes) ≡ Some interface
  pub lock : Lock
  pub runs : (interface_at plan h interface).state ≡ Run lock
  pub names : lock.stream ≡ stream

-- the first TLP that was accepted at a switch and not sealed behind it, since the link's last reset
abbrev pub IsFirstWaiting : Plan → History → ℕ → Direction → HopTlp → Type 0
IsFirstWaiting plan h link d x = slice_get (accepted_tlps plan h link (entering_end link d))
    (length (tlps_since_reset plan h link (leaving_end link d))) ≡ Some x

-- the event answers the oldest read that waits at a device
abbrev pub is_response : Event → Bool
is_response (event.Access (ae.Respond link)) = true
is_response e = false

-- T is that of the oldest read that was queued at the device of the link and waits
pub record HasReadsT (plan : Plan) (h : History) (link : ℕ) (d : SealedPacket) : Type 0 where
  pub read : WaitingRead
  pub oldest : slice_get (queued_reads plan h (device_port link)) (reads_taken h (device_port link)) ≡ Some read
  pub t_is : d.t ≡ read.came.trusted

-- T is that of the TLP that is forwarded
pub record HasForwardedT (plan : Plan) (h : History) (e : Event) (d : SealedPacket) : Type 0 where
  pub link : ℕ
  pub way : Direction
  pub forwards : e ≡ event.Forward link way
  pub first : HopTlp
  pub waits : IsFirstWaiting plan h link way first
  pub t_is : d.t ≡ first.t

-- The T of a packet that carries a TLP, by the end that sealed it: at a host's it is as the event asks, at a device's
-- as its interfaces are, but of a response as its read had it, and at a switch as it came. A sync packet has none.
pub record HasItsT (plan : Plan) (h : History) (e : Event) (d : SealedPacket) : Type 0 where
  pub sync : d.sync ≡ true → d.t ≡ false
  pub host : d.sync ≡ false → is_at_host d.port ≡ true → d.t ≡ asks_trust e
  pub device : is_response e ≡ false → d.sync ≡ false → is_at_device d.port ≡ true
      → (d.t ≡ true) ↔ OwnerRuns plan h d.port.line d.stream (sent_bytes plan h e)
  pub peer : is_response e ≡ false → d.sync ≡ false → is_at_peer d.port ≡ true
      → (d.t ≡ true)
      ↔ OwnerIsBound plan h (port_beside_end plan.peers d.port).line d.stream (sent_bytes plan h e)
  -- nor does a response have T there: no read that came over a hop with T is queued
  pub hop : is_response e ≡ false → d.sync ≡ false → is_at_device_hop d.port ≡ true → d.t ≡ false
  pub switch : d.sync ≡ false → at_switch plan d.port ≡ true → HasForwardedT plan h e d
  pub response : (link : ℕ) → e ≡ event.Access (ae.Respond link) → d.sync ≡ false → HasReadsT plan h link d

abbrev pub HaveTheirT : Plan → History → Event → Verdict → Type 0
HaveTheirT plan h e (v.Sealed ds) = AllByRecursion (HasItsT plan h e) ds
HaveTheirT plan h e w = Unit {0}

-- each packet that is sealed
abbrev pub ExactTrustLaw : Plan → History → Type 0
ExactTrustLaw plan h = AtPairs (HaveTheirT plan) h

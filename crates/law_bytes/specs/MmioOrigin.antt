-- Where trusted writes to the memory of interfaces come from.
use Rattle.std.specs.Prelude.{◌≡◌, ◌⊎◌, ◌+◌, ◌∷◌, ◌<◌, ◌≤◌, ℕ, Bool, true, false, List, Some, length, nat_le}
use Rattle.std.specs.Prelude.{slice_get}
use Rattle.ide_types.specs.Ports.{host_port, device_port}
use Rattle.spec_links.specs.Terms.{PortName, Plan, Event, Send, UnitName, Verdict, Accepted, Sealed, SealedPacket}
use Rattle.spec_links.specs.Terms.{Packet, History, Write}
use Rattle.spec_links.specs.Plan.{SubStream}
use Rattle.spec_links.specs.History.{sealed_packets, accepted_packets, received_in}
use Rattle.spec_links.specs.Memory.{unit_ended}
use Rattle.spec_links.specs.Ordered.{IsPacketAtPlace}
use Rattle.spec_interfaces.specs.Sites.{Site, site_at}
use Rattle.spec_interfaces.specs.Devices.{runs_at, is_bound_at}
use Rattle.law_verdicts.specs.{CameFrom, IsBoundPacket, stores}
use Rattle.law_bytes.specs.NoOtherRun.{IsInNoOtherRun}

-- Packet m, from 0, of what was sealed in a sub-stream under a draw is this packet. A trusted send sealed it at the
-- host's port of the interface's link, and since before that send the interface was in no other RUN than now.
pub record WasAsked (plan : Plan) (h : History) (x : Site) (s : SubStream) (j m : ℕ) (p : Packet) : Type 0 where
  pub place : ℕ
  pub stands : IsPacketAtPlace (sealed_packets plan h) s j m place
  pub same : stands.sealed.1 ≡ p
  pub bytes : List ℕ
  pub more : Bool
  pub ds : List SealedPacket
  pub older : History
  pub came : CameFrom ((Send (host_port x.link) bytes more true, Sealed ds) ∷ older) h
  pub from : length (sealed_packets plan older) ≤ place
  pub until : place < length (sealed_packets plan ((Send (host_port x.link) bytes more true, Sealed ds) ∷ older))
  pub index : ℕ
  pub listed : slice_get ds index ≡ Some stands.sealed.0
  pub no_other_run : IsInNoOtherRun plan older h x

-- the interface is in RUN; the packet came on the stream that its lock named, to the device's port, and was asked for
pub record CameOnLock (plan : Plan) (h : History) (x : Site) (end : PortName) (unit : UnitName) (m : ℕ) (p : Packet)
    : Type 0 where
  pub runs : runs_at plan h x ≡ true
  pub end_is : end ≡ device_port x.link
  pub stream_is : unit.stream ≡ x.plan.stream
  pub was_asked : WasAsked plan h x (received_in end unit) unit.draw m p

-- It is a send: no response, which seals a completion alone.
abbrev pub is_send : Event → Bool
is_send (Send port bytes more trusted) = true
is_send e = false

-- The interface is in RUN; it came on a stream between the device and another that the interface is bound to. A send
-- sealed it there for an owner that was in RUN and bound to the stream, and since before that the interface was in no
-- other RUN than now.
pub record CameOnBinding (plan : Plan) (h : History) (x : Site) (end : PortName) (unit : UnitName) (m : ℕ) (p : Packet)
    : Type 0 where
  pub runs : runs_at plan h x ≡ true
  pub between : nat_le 24 end.line ≡ true
  pub bound : is_bound_at plan h x unit.stream ≡ true
  pub from : IsBoundPacket plan h (received_in end unit) unit.draw m p
  pub sent : is_send from.was.event ≡ true
  pub no_other_run : IsInNoOtherRun plan from.was.older h x

-- each packet with T whose write is stored in the memory of an interface
abbrev pub StoresAsked : Plan → History → Event → Verdict → Type 0
StoresAsked plan h e (Accepted end unit effects) =
    (x : Site) (bar n : ℕ) (write : Write) (p : Packet) → site_at plan x.number ≡ Some x
    → slice_get (stores plan h e (Accepted end unit effects) x bar) n ≡ Some (Some write)
    → slice_get (unit_ended plan h e end unit) n ≡ Some p → p.prefix.t ≡ true
    → CameOnLock plan h x end unit (length (accepted_packets plan h (received_in end unit) unit.draw) + n) p
    ⊎ CameOnBinding plan h x end unit (length (accepted_packets plan h (received_in end unit) unit.draw) + n) p
StoresAsked plan h e w = Unit {0}

-- Trusted packets on streams between devices: each was sealed while its owner was in RUN and bound to the stream.
use Rattle.std.specs.Prelude.{ℕ, ◌+◌, ◌<◌, ◌≤◌, ◌≡◌, ◌∷◌, Bool, true, false, List, length, Some, slice_get, nat_le}
use Rattle.spec_links.specs.Terms.{Plan, Event, Verdict, Accepted, Sealed, SealedPacket, Packet, History}
use Rattle.spec_links.specs.Plan.{SubStream}
use Rattle.spec_links.specs.History.{sent_bytes, sealed_packets, accepted_packets, received_in}
use Rattle.spec_links.specs.Memory.{unit_ended}
use Rattle.spec_links.specs.Ordered.{IsPacketAtPlace}
use Rattle.script_events.specs.declared.event.Event.TheVariants as event
use Rattle.script_events.specs.declared.event.AccessEvent.TheVariants as ae
use Rattle.spec_interfaces.specs.Peers.{peer_end}
use Rattle.spec_interfaces.specs.Laws.{OwnerIsBound}
use Rattle.law_memory.specs.Origin.{CameFrom}

-- a device's own packets come of a send, or of a response to a read
abbrev pub is_sent_by_device : Event → Bool
is_sent_by_device (event.Send port bytes more trusted) = true
is_sent_by_device (event.Access (ae.Respond link)) = true
is_sent_by_device e = false

-- Packet m, from 0, of what was sealed in a sub-stream under a draw was sealed by a send, or a response, at an end at
-- the device of a link, before which the owner of its TLP, an interface of that link, was in RUN and bound to the
-- stream.
pub record WasBound (plan : Plan) (h : History) (s : SubStream) (j m : ℕ) : Type 0 where
  pub place : ℕ
  pub stands : IsPacketAtPlace (sealed_packets plan h) s j m place
  pub event : Event
  pub sent : is_sent_by_device event ≡ true
  pub packets : List SealedPacket
  pub older : History
  pub came : CameFrom ((event, Sealed packets) ∷ older) h
  pub from : length (sealed_packets plan older) ≤ place
  pub until : place < length (sealed_packets plan ((event, Sealed packets) ∷ older))
  pub link : ℕ
  pub at_device : peer_end plan.peers 0 link s.stream ≡ Some stands.sealed.0.port
  pub owner : OwnerIsBound plan older link s.stream (sent_bytes plan older event)

-- a packet that came so
pub record IsBoundPacket (plan : Plan) (h : History) (s : SubStream) (j m : ℕ) (p : Packet) : Type 0 where
  pub was : WasBound plan h s j m
  pub same : was.stands.sealed.1 ≡ p

-- Packet n of a unit that an end of a stream between devices accepted is the one after those got and those before it in
-- the unit.
abbrev pub AreBound : Plan → History → Event → Verdict → Type 0
AreBound plan h e (Accepted port unit effects) =
    nat_le 24 port.line ≡ true → (n : ℕ) (p : Packet) → slice_get (unit_ended plan h e port unit) n ≡ Some p
    → p.prefix.t ≡ true → IsBoundPacket plan h (received_in port unit) unit.draw
    (length (accepted_packets plan h (received_in port unit) unit.draw) + n) p
AreBound plan h e w = Unit {0}

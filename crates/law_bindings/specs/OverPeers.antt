-- Trusted packets that come through a stream between devices, and writes to the memory of an interface among them: by
-- which interface, in which of its locks, and in which of the target's.
use Rattle.std.specs.Prelude.{◌≡◌, ◌+◌, ℕ, true, Some, length, nat_le, slice_get}
use Rattle.spec_links.specs.Terms.{PortName, Plan, Event, UnitName, Verdict, Accepted, Packet, History, Write}
use Rattle.spec_links.specs.History.{accepted_packets, received_in}
use Rattle.spec_links.specs.Memory.{unit_ended}
use Rattle.spec_interfaces.specs.Sites.{Site, site_at}
use Rattle.spec_interfaces.specs.Views.{stream_draw}
use Rattle.spec_interfaces.specs.Devices.{runs_at, is_bound_at, locks_accepted}
use Rattle.law_delivery.specs.NoForgeryUnder.{EachPairIf, UnitIsUnforged}
use Rattle.law_memory.specs.Bindings.{IsBoundPacket}
use Rattle.law_memory.specs.Origin.{CameFrom}
use Rattle.law_mmio.specs.Stored.{stores}
use Rattle.law_bytes.specs.NoOtherRun.{IsInNoOtherRun}
use Rattle.law_bindings.specs.OneLock.{FitsView}

-- From the one history on, up to the other, the interface was bound to the stream under no lock but that of the first.
abbrev pub IsBoundInNoOtherLock : Plan → History → History → Site → ℕ → Type 0
IsBoundInNoOtherLock plan g h x stream =
    (k : History) → CameFrom g k → CameFrom k h → is_bound_at plan k x stream ≡ true
    → locks_accepted plan k x ≡ locks_accepted plan g x

-- The packet was sealed for an owner that was in RUN and bound to the stream then, and that was bound to it in no other
-- lock since; of what it is now its view says as much as of all that it sealed. The packet came under the draw of the
-- stream's last establish, and since it was sealed no other one began.
pub record CameFromOwner (plan : Plan) (h : History) (end : PortName) (unit : UnitName) (m : ℕ) (p : Packet) : Type 0
  where
    pub from : IsBoundPacket plan h (received_in end unit) unit.draw m p
    pub draw_is : stream_draw h end.line unit.stream ≡ unit.draw
    pub draw_was : stream_draw from.was.older end.line unit.stream ≡ unit.draw
    pub no_other_lock : IsBoundInNoOtherLock plan from.was.older h from.was.owner.interface unit.stream
    pub view : FitsView plan h from.was.owner.interface from.was.older unit.draw

-- Packet n of a unit that an end of a stream between devices accepted, if it has T.
abbrev pub AcceptsFromOwners : Plan → History → Event → Verdict → Type 0
AcceptsFromOwners plan h e (Accepted end unit effects) =
    nat_le 24 end.line ≡ true → (n : ℕ) (p : Packet) → slice_get (unit_ended plan h e end unit) n ≡ Some p
    → p.prefix.t ≡ true
    → CameFromOwner plan h end unit (length (accepted_packets plan h (received_in end unit) unit.draw) + n) p
AcceptsFromOwners plan h e w = Unit {0}

-- if no tag was forged of the sub-stream and draw under which it came, up to its unit
abbrev pub PeerOriginLaw : Plan → History → Type 0
PeerOriginLaw plan h = EachPairIf UnitIsUnforged AcceptsFromOwners plan h

-- The target is in RUN and bound to the stream; it was in no other RUN since the packet was sealed for its owner.
pub record CameOverPeer (plan : Plan) (h : History) (x : Site) (end : PortName) (unit : UnitName) (m : ℕ) (p : Packet)
    : Type 0 where
  pub runs : runs_at plan h x ≡ true
  pub bound : is_bound_at plan h x unit.stream ≡ true
  pub owner : CameFromOwner plan h end unit m p
  pub no_other_run : IsInNoOtherRun plan owner.from.was.older h x

-- Such a packet, if its write is stored.
abbrev pub StoresOverPeers : Plan → History → Event → Verdict → Type 0
StoresOverPeers plan h e (Accepted end unit effects) =
    nat_le 24 end.line ≡ true → (x : Site) (bar n : ℕ) (write : Write) (p : Packet) → site_at plan x.number ≡ Some x
    → slice_get (stores plan h e (Accepted end unit effects) x bar) n ≡ Some (Some write)
    → slice_get (unit_ended plan h e end unit) n ≡ Some p → p.prefix.t ≡ true
    → CameOverPeer plan h x end unit (length (accepted_packets plan h (received_in end unit) unit.draw) + n) p
StoresOverPeers plan h e w = Unit {0}

abbrev pub PeerStoreLaw : Plan → History → Type 0
PeerStoreLaw plan h = EachPairIf UnitIsUnforged StoresOverPeers plan h

-- Reads of devices: they are answered in order, each from the memory of its interface as it is then.
use Rattle.std.specs.Prelude.{ℕ, ◌≡◌, ◌++◌, ◌∷◌, true, false, [], List, length}
use Rattle.spec_links.specs.Terms.{Plan, Event, Access, Verdict, Sealed, SealedPacket, Packet, History}
use Rattle.spec_links.specs.Terms.{completion_bytes, masked_bytes, iv_of, encrypted_bytes}
use Rattle.spec_links.specs.Plan.{key_of}
use Rattle.spec_links.specs.Units.{open_unit}
use Rattle.spec_links.specs.History.{sealed_packets, sent_packets, sub_stream_of}
use Rattle.spec_links.specs.Queues.{TakesFirst, FewWait}
use Rattle.ide_types.specs.declared.sub.SubKind.TheVariants.{Cpl}
use Rattle.script_events.specs.declared.event.AccessEvent.TheVariants as ae
use Rattle.event_verdicts.specs.declared.access.AccessVerdict.TheVariants as av
use Rattle.event_verdicts.specs.declared.verdict.Verdict.TheVariants as v
use Rattle.law_device_reads.specs.Oldest.{IsOldestAtDevice, Shows}

-- ---- what is sealed

-- the packets of its unit that were sealed before a packet
abbrev pub unit_before : Plan → History → SealedPacket → List Packet
unit_before plan h d = open_unit (sent_packets plan h (sub_stream_of d) d.draw)

-- The verdict seals one packet. It is no sync packet, and ends its unit. It is the TLP of these bytes: a header in
-- clear, and behind it the payload, masked under the packet's key and unit, behind the packets of the unit before it.
pub record SealsTlp (plan : Plan) (h : History) (e : Event) (ds : List SealedPacket) (bytes : List ℕ) : Type 0 where
  pub last : SealedPacket
  pub alone : ds ≡ last ∷ []
  pub no_sync : last.sync ≡ false
  pub ends_unit : last.m ≡ true
  pub packet : Packet
  pub stands : sealed_packets plan ((e, Sealed ds) ∷ h) ≡ sealed_packets plan h ++ (last, packet) ∷ []
  pub payload : List ℕ
  pub tlp : packet.head ++ payload ≡ bytes
  pub body_is : packet.body
      ≡ masked_bytes (key_of plan last.draw (sub_stream_of last)) (iv_of last.sub last.unit)
      (length (encrypted_bytes (unit_before plan h last))) payload

-- The completion of the oldest read, by its interface, with the bytes that are shown then, was sealed on the stream and
-- at the end on which the read came, with T as the read had it.
pub record IsResponse (plan : Plan) (h : History) (link : ℕ) (ds : List SealedPacket) : Type 0 where
  pub of : IsOldestAtDevice plan h link
  pub shows : Shows plan h link of
  pub sealed : SealsTlp plan h (Access (ae.Respond link)) ds
      (completion_bytes of.interface.plan.requester shows.byte of.read.read)
  pub is_completion : sealed.last.sub ≡ Cpl
  pub t_is : sealed.last.t ≡ of.read.came.trusted
  pub end_is : sealed.last.port ≡ of.read.came.end
  pub stream_is : sealed.last.stream ≡ of.read.came.stream

-- it was dropped
pub record IsResponseDropped (plan : Plan) (h : History) (link interface : ℕ) : Type 0 where
  pub of : IsOldestAtDevice plan h link
  pub number : of.interface.number ≡ interface

abbrev pub RespondsToOldest : Plan → History → Event → Verdict → Type 0
RespondsToOldest plan h (Access (ae.Respond link)) (Sealed ds) = IsResponse plan h link ds
RespondsToOldest plan h (Access (ae.Respond link)) (v.Access (av.Dropped interface cause)) =
    IsResponseDropped plan h link interface
RespondsToOldest plan h e w = Unit {0}

-- ---- the law

-- After each pair: a response took the oldest read; what was taken at each port is a prefix, in order, of what was
-- queued there; no more than 64 wait at one.
abbrev pub DeviceReadLaw : Plan → History → Type 0
DeviceReadLaw plan [] = Unit {0}
DeviceReadLaw plan ((e, w) ∷ h) =
    RespondsToOldest plan h e w × TakesFirst plan ((e, w) ∷ h) × FewWait plan ((e, w) ∷ h) × DeviceReadLaw plan h

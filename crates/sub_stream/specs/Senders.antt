-- A sender of one sub-stream as a machine: what it keeps, and what it seals (PCI Express Base 6.0 section 6.33, in this
-- profile).
use Rattle.std.specs.Prelude.{◌≡◌, ℕ, ◌+◌, ◌≤◌, ◌<◌, Bool, true, false, not, ◌&&◌, ◌||◌, ◌==◌, List, [], length, Option}
use Rattle.std.specs.Prelude.{Some, None, Result, Ok, Err, if◌then◌else◌}
use Rattle.ide_types.specs.declared.sub.SubKind.{SubKind}
use Rattle.ide_types.specs.declared.port.Side.TheVariants.{Host}
use Rattle.event_verdicts.specs.declared.verdict.SealedPacket.{SealedPacket as Described}
use Rattle.ide_prefix.specs.Packet.{Packet, packet_bytes, sync_head}
use Rattle.spec_stream.specs.Stream.{Empty, Programmed, LaneSlots, LiveKey, live_sender, untagged_under, tagged_under}
use Rattle.spec_stream.specs.Stream.{sealed_slots, slot_in_set, with_slot}
use Rattle.spec_stream.specs.Slots.{both_slots, slot_gone, woken_slot, is_live_slot, no_slots}
use Rattle.key_slots.specs.{SlotPair, is_only_live}
use Rattle.sub_stream.specs.declared.answer.MeasuredPacket.{MeasuredPacket}
use Rattle.sub_stream.specs.declared.answer.TxRefusal.{TxRefusal}
use Rattle.sub_stream.specs.declared.answer.TxRefusal.TheVariants.{NoKey, Worn}
use Rattle.sub_stream.specs.declared.sender.PacketParts.{PacketParts}
use Rattle.sub_stream.specs.declared.sender.ReadyKey.{ReadyKey}
use Rattle.sub_stream.specs.Seen.{slot_pair, has_live, both_live}
use Rattle.sub_stream.specs.Gathered.{Gathered}

-- units of at most `aggregation` packets, and at most `limit` units under one key; `ahead` comes before what the open
-- unit authenticates
pub record Sender : Type 0 where
  pub stream : ℕ
  pub sub : SubKind
  pub aggregation : ℕ
  pub limit : ℕ
  pub ahead : List ℕ
  pub slots : LaneSlots

abbrev pub new_sender : ℕ → SubKind → ℕ → ℕ → Sender
new_sender stream sub aggregation limit =
    record { stream = stream; sub = sub; aggregation = aggregation; limit = limit; ahead = []; slots = no_slots }

-- ---- what is kept, as the code keeps it

-- a unit is open only under a Live key; it has fewer packets than the aggregation, and is one of those that the key may
-- seal
pub record IsSender (aggregation limit units : ℕ) (pair : SlotPair) (unit : Gathered) : Type 0 where
  pub sender : pair.sender ≡ true
  pub one_live : both_live pair ≡ false
  pub some_aggregation : 1 ≤ aggregation
  pub small_aggregation : aggregation ≤ 8
  pub same_aggregation : unit.aggregation ≡ aggregation
  pub fits : length unit.packets < aggregation
  pub worn : has_live pair ≡ true → units ≤ limit
  pub room : (length unit.packets == 0) ≡ false → units < limit
  pub closed : has_live pair ≡ false → unit.packets ≡ []

-- ---- sealing

-- the key that seals the next packet, or why there is none
abbrev pub ready_key : ℕ → Option (Bool × LiveKey) → Result ReadyKey TxRefusal
ready_key limit None = Err NoKey
ready_key limit (Some x) =
    if (length x.1.packets == 0) && (x.1.units == limit) then Err (Worn limit)
    else Ok (record { k = x.0; draw = x.1.draw })

abbrev pub ready_of : Sender → Result ReadyKey TxRefusal
ready_of tx = ready_key tx.limit (live_sender tx.slots)

-- the Live key of a sender with its set; with no slot Live a key under which nothing was sealed
abbrev pub key_in_use : Option (Bool × LiveKey) → Bool × LiveKey
key_in_use None = (false, record { draw = 0; key = []; units = 0; packets = [] })
key_in_use (Some x) = x

abbrev pub open_packets : Sender → List Packet
open_packets tx = (key_in_use (live_sender tx.slots)).1.packets

abbrev pub is_unfinished : Sender → Bool
is_unfinished tx = not (length (open_packets tx) == 0)

-- what a packet carries: a TLP's header and payload, or a sync packet's header alone
pub record Content : Type 0 where
  pub head : List ℕ
  pub payload : List ℕ
  pub posted : ℕ
  pub t : Bool
  pub sync : Bool

abbrev pub carried_content : PacketParts → Content
carried_content c = record { head = c.head.now; payload = c.payload.now; posted = c.posted; t = c.t; sync = c.sync }

abbrev pub tlp_content : List ℕ → List ℕ → ℕ → Bool → Content
tlp_content head payload posted t = record { head = head; payload = payload; posted = posted; t = t; sync = false }

abbrev pub sync_content : ℕ → Content
sync_content posted = record { head = sync_head; payload = []; posted = posted; t = false; sync = true }

-- the packet as it is described, but for its port and its number
abbrev pub described_content : Sender → Bool × LiveKey → Content → Bool → Described
described_content tx x c m = record {
  number = 0;
  port = record { side = Host; line = 0 };
  stream = tx.stream;
  sub = tx.sub;
  draw = x.1.draw;
  unit = x.1.units + 1;
  m = m;
  k = x.0;
  t = c.t;
  posted = c.posted;
  sync = c.sync;
}

abbrev pub with_length : Described → ℕ → MeasuredPacket
with_length d n = record {
  stream = d.stream;
  sub = d.sub;
  draw = d.draw;
  unit = d.unit;
  m = d.m;
  k = d.k;
  t = d.t;
  posted = d.posted;
  sync = d.sync;
  length = n;
}

-- what comes before unit n, if this is given for the first
abbrev pub unit_ahead : List ℕ → ℕ → List ℕ
unit_ahead total n = if n == 1 then total else []

-- a unit that begins if no packet is there; what comes before it is set then
abbrev pub begun_where_empty : Gathered → List ℕ → ℕ → Gathered
begun_where_empty unit total n =
    record unit { ahead = if length unit.packets == 0 then unit_ahead total n else unit.ahead }

abbrev pub sender_ahead : Sender → LiveKey → List ℕ → List ℕ
sender_ahead tx x total = if length x.packets == 0 then unit_ahead total (x.units + 1) else tx.ahead

abbrev pub tagged_packet : Sender → List ℕ → Bool × LiveKey → Content → Bool → Packet
tagged_packet tx total x c m =
    let d = described_content tx x c m in
    tagged_under (sender_ahead tx x.1 total) x.1.key x.1.packets d
    (untagged_under x.1.key x.1.packets d c.head c.payload)

-- whether a packet ends its unit
abbrev pub ends : Sender → LiveKey → Bool → Bool
ends tx x more = not more || (length x.packets + 1 == tx.aggregation)

-- a packet that was sealed: what is said of it, the packet, and the sender after it
pub record Sealing : Type 0 where
  pub description : MeasuredPacket
  pub packet : Packet
  pub sender : Sender

abbrev pub sealing_by_key : Sender → List ℕ → Bool × LiveKey → Content → Bool → Sealing
sealing_by_key tx total x c m =
    let p = tagged_packet tx total x c m in
    record {
      description = with_length (described_content tx x c m) (length (packet_bytes p));
      packet = p;
      sender = record tx { ahead = (if m then [] else sender_ahead tx x.1 total); slots = sealed_slots m p tx.slots };
    }

-- the next packet of a sender that is ready; `more` says that the unit goes on if it has room
abbrev pub sealing_of : Sender → List ℕ → Content → Bool → Sealing
sealing_of tx total c more =
    let x = key_in_use (live_sender tx.slots) in
    sealing_by_key tx total x c (ends tx x.1 more)

-- ---- keys

abbrev pub gone_slots : LaneSlots → Bool → LaneSlots
gone_slots slots k = slot_gone k (slot_in_set slots k) (slot_in_set slots (not k))

abbrev pub stopped_slots : LaneSlots → Bool → LaneSlots
stopped_slots slots k = both_slots k Empty (woken_slot (slot_in_set slots (not k)))

abbrev pub programmed_sender : Sender → Bool → List ℕ → ℕ → Sender
programmed_sender tx k key draw =
    if is_only_live (slot_pair true tx.slots) k then tx
    else record tx { slots = with_slot tx.slots k (Programmed draw key) }

abbrev pub gone_sender : Sender → Bool → Sender
gone_sender tx k = record tx { slots = gone_slots tx.slots k }

-- an open unit goes with its key
abbrev pub stopped_sender : Sender → Bool → Sender
stopped_sender tx k =
    record tx {
      ahead = (if is_live_slot (slot_in_set tx.slots k) then [] else tx.ahead);
      slots = stopped_slots tx.slots
          k;
    }

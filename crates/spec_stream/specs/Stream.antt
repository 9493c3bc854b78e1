-- A port's part of one stream: what is kept, what a send seals, and what becomes of an arrival.
use Rattle.std.specs.Prelude.{ℕ, ◌+◌, ◌==◌, Bool, true, false, not, ◌&&◌, ◌||◌, nat_lt, nat_le, List, [], ◌∷◌, ◌++◌}
use Rattle.std.specs.Prelude.{length, sum_by, Option, Some, None, if◌then◌else◌}
use Rattle.ide_types.specs.Sub.{sub_bits, is_same_sub}
use Rattle.ide_types.specs.declared.sub.SubKind.{SubKind}
use Rattle.ide_types.specs.declared.sub.SubKind.TheVariants.{Pr, Npr, Cpl}
use Rattle.ide_types.specs.declared.sub.FailCause.{FailCause}
use Rattle.ide_types.specs.declared.sub.FailCause.TheVariants as fail
use Rattle.event_verdicts.specs.declared.verdict.SealedPacket.{SealedPacket}
use Rattle.event_verdicts.specs.declared.verdict.UnitName.{UnitName}
use Rattle.gcm_seal.specs.Gcm.{masked_bytes, tag_of, verifies}
use Rattle.ide_prefix.specs.Packet.{Packet, sync_head}
use Rattle.ide_prefix.specs.Iv.{iv_of}
use Rattle.ide_prefix.specs.Units.{authenticated_bytes, encrypted_bytes}
use Rattle.spec_stream.specs.Sending.{Lane, Lanes, prefix_of, total_ahead}

-- ---- three sub-streams

pub record Three (A : Type 0) : Type 0 where
  pub pr : A
  pub npr : A
  pub cpl : A

abbrev pub at_sub : {A : Type 0} → Three A → SubKind → A
at_sub t Pr = t.pr
at_sub t Npr = t.npr
at_sub t Cpl = t.cpl

abbrev pub set_sub : {A : Type 0} → Three A → SubKind → A → Three A
set_sub t Pr x = record t { pr = x }
set_sub t Npr x = record t { npr = x }
set_sub t Cpl x = record t { cpl = x }

abbrev pub each_sub : {A : Type 0} → (SubKind → A) → Three A
each_sub f = record { pr = f Pr; npr = f Npr; cpl = f Cpl }

-- ---- what is kept

-- a Live key: the units finished under it, and the packets of the next one
pub record LiveKey : Type 0 where
  pub draw : ℕ
  pub key : List ℕ
  pub units : ℕ
  pub packets : List Packet

pub data LaneSlot : Type 0 where
  Empty : LaneSlot
  Programmed : ℕ → List ℕ → LaneSlot
  Armed : ℕ → List ℕ → LaneSlot
  Live : LiveKey → LaneSlot

-- the slots of both key sets
pub record LaneSlots : Type 0 where
  pub first : LaneSlot
  pub second : LaneSlot

-- a sender: the posted count of its next packet, and how many units it finished
pub record TxSub : Type 0 where
  pub slots : LaneSlots
  pub posted : ℕ
  pub total : ℕ

-- a receiver: the sum of the posted counts, and the number, of the packets of its accepted units, and how many units
pub record RxSub : Type 0 where
  pub slots : LaneSlots
  pub sum : ℕ
  pub got : ℕ
  pub total : ℕ

pub record StreamState : Type 0 where
  pub tx : Three TxSub
  pub rx : Three RxSub
  pub failed : Bool

abbrev pub slot_in_set : LaneSlots → Bool → LaneSlot
slot_in_set s k = if k then s.second else s.first

abbrev pub with_slot : LaneSlots → Bool → LaneSlot → LaneSlots
with_slot s k x = if k then record s { second = x } else record s { first = x }

abbrev pub live_in : LaneSlot → Option LiveKey
live_in (Live x) = Some x
live_in _ = None

-- ---- sends

-- the Live key of a sender, with its set; there is at most one
abbrev pub live_sender : LaneSlots → Option (Bool × LiveKey)
live_sender s = first_live (live_in s.first) (live_in s.second)
  where
    first_live : Option LiveKey → Option LiveKey → Option (Bool × LiveKey)
    first_live (Some x) o = Some (false, x)
    first_live None (Some y) = Some (true, y)
    first_live None None = None

-- what the rules of sealing see of a sender
abbrev pub lane_of : ℕ → Option (Bool × LiveKey) → Lane
lane_of posted None = record { key = None; unfinished = []; units = 0; posted = posted }
lane_of posted (Some x) = record {
  key = Some (record { k = x.0; draw = x.1.draw });
  unfinished = x.1.packets;
  units = x.1.units;
  posted = posted;
}

abbrev pub lanes_of : ℕ → ℕ → StreamState → Lanes
lanes_of aggregation limit st = record {
  aggregation = aggregation;
  limit = limit;
  failed = st.failed;
  lane = λ u. lane_of (at_sub st.tx u).posted (live_sender (at_sub st.tx u).slots);
}

-- the packet of a description under a key: its body is its part of the unit's ciphertext, and the last has the tag
abbrev pub untagged_under : List ℕ → List Packet → SealedPacket → List ℕ → List ℕ → Packet
untagged_under key unfinished d head payload = record {
  prefix = prefix_of d;
  head = if d.sync then sync_head else head;
  body = masked_bytes key (iv_of d.sub d.unit) (length (encrypted_bytes unfinished)) (if d.sync then [] else payload);
  tag = [];
}

abbrev pub tagged_under : List ℕ → List ℕ → List Packet → SealedPacket → Packet → Packet
tagged_under ahead key unfinished d p =
    record p {
      tag = if d.m then tag_of key (iv_of d.sub d.unit) (ahead ++ authenticated_bytes (unfinished ++ p ∷ []))
          (encrypted_bytes (unfinished ++ p ∷ [])) else [];
    }

abbrev pub packet_under : List ℕ → Option (Bool × LiveKey) → SealedPacket → List ℕ → List ℕ → Packet
packet_under ahead None d head payload = untagged_under [] [] d head payload
packet_under ahead (Some x) d head payload = tagged_under ahead x.1.key x.1.packets d
    (untagged_under x.1.key x.1.packets d head payload)

-- a unit goes on, or ends: then a slot that waited for that is Live
abbrev pub gone_on : Packet → LaneSlot → LaneSlot
gone_on p (Live x) = Live (record x { packets = x.packets ++ p ∷ [] })
gone_on p s = s

abbrev pub counted_unit : LaneSlot → LaneSlot
counted_unit (Live x) = Live (record x { units = x.units + 1; packets = [] })
counted_unit s = s

abbrev pub ended_slots : LaneSlots → LaneSlots
ended_slots s = by_wait s.first s.second
  where
    by_wait : LaneSlot → LaneSlot → LaneSlots
    by_wait (Live x) (Armed j key) = record {
      first = Empty;
      second = Live (record { draw = j; key = key; units = 0; packets = [] });
    }
    by_wait (Armed j key) (Live x) = record {
      first = Live (record { draw = j; key = key; units = 0; packets = [] });
      second = Empty;
    }
    by_wait a b = record { first = counted_unit a; second = counted_unit b }

abbrev pub sealed_slots : Bool → Packet → LaneSlots → LaneSlots
sealed_slots m p s = if m then ended_slots s else record { first = gone_on p s.first; second = gone_on p s.second }

-- a sub-stream after a sealed packet of the stream: its own begins its posted count again, a posted one counts
abbrev pub sealed_sub : SealedPacket → Packet → SubKind → TxSub → TxSub
sealed_sub d p u tx =
    if is_same_sub d.sub u then record {
      slots = sealed_slots d.m p tx.slots;
      posted = 0;
      total = if d.m then tx.total + 1 else tx.total;
    }
    else if is_same_sub d.sub Pr then record tx { posted = tx.posted + 1 } else tx

-- on a closed stream the total comes before unit 1
abbrev pub sealed_one : Bool → List ℕ → List ℕ → SealedPacket → Three TxSub → Packet × Three TxSub
sealed_one closed head payload d tx =
    let x = at_sub tx d.sub in
    let p = packet_under (total_ahead closed d.unit x.total) (live_sender x.slots) d head payload in
    (p, each_sub (λ u. sealed_sub d p u (at_sub tx u)))

-- the packets of descriptions in order, and the senders after them
abbrev pub sealed_all : Bool → List ℕ → List ℕ → List SealedPacket → Three TxSub → List Packet × Three TxSub
sealed_all closed head payload [] tx = ([], tx)
sealed_all closed head payload (d ∷ ds) tx =
    let one = sealed_one closed head payload d tx in
    let rest = sealed_all closed head payload ds one.1 in
    (one.0 ∷ rest.0, rest.1)

-- ---- arrivals

-- the unit of this number and draw that a packet goes on with or ends
abbrev pub unit_name : Packet → ℕ → ℕ → UnitName
unit_name p draw unit = record { stream = p.prefix.stream; sub = p.prefix.sub; draw = draw; unit = unit }

-- what becomes of an arrival: of a held packet the draw and the unit, of an accepted one its packets too
pub data PacketOutcome : Type 0 where
  Insecure : PacketOutcome
  NotKeyed : PacketOutcome
  Failed : FailCause → PacketOutcome
  Held : ℕ → ℕ → PacketOutcome
  Accepted : ℕ → ℕ → List Packet → PacketOutcome

abbrev pub holds_any : Option LiveKey → Bool
holds_any None = false
holds_any (Some x) = nat_lt 0 (length x.packets)

abbrev pub posted_sum : List Packet → ℕ
posted_sum ps = sum_by (λ (p : Packet). p.prefix.posted) ps

-- the posted counts may sum to the number of posted packets, and no more
abbrev pub is_allowed : Three RxSub → SubKind → List Packet → Bool
is_allowed rx u unit = (sub_bits u == 0) || nat_le ((at_sub rx u).sum + posted_sum unit) rx.pr.got

-- the tag is that of the unit, with the total before unit 1 on a closed stream
abbrev pub is_tagged : Bool → ℕ → LiveKey → Packet → Bool
is_tagged closed total x p =
    verifies x.key (iv_of p.prefix.sub (x.units + 1)) (total_ahead closed (x.units + 1) total
    ++ authenticated_bytes (x.packets ++ p ∷ [])) (encrypted_bytes (x.packets ++ p ∷ [])) p.tag

abbrev pub outcome_of_checks : Bool → Bool → LiveKey → Packet → PacketOutcome
outcome_of_checks tagged allowed x p =
    if not tagged then Failed fail.Tag
    else if not allowed then Failed fail.Order
    else Accepted x.draw (x.units + 1) (x.packets ++ p ∷ [])

abbrev pub stream_outcome_by_keys : ℕ → Bool → Three RxSub → Packet → Option LiveKey → Option LiveKey → PacketOutcome
stream_outcome_by_keys aggregation closed rx p None None = NotKeyed
stream_outcome_by_keys aggregation closed rx p None (Some y) = Failed fail.Key
stream_outcome_by_keys aggregation closed rx p (Some x) other =
    if holds_any other || (not p.prefix.m && nat_le aggregation (length x.packets + 1)) then Failed fail.Unit
    else if p.prefix.m then outcome_of_checks (is_tagged closed (at_sub rx p.prefix.sub).total x p)
    (is_allowed rx p.prefix.sub (x.packets ++ p ∷ [])) x p
    else Held x.draw (x.units + 1)

-- the answer to a packet of the stream
abbrev pub stream_outcome : ℕ → Bool → StreamState → Packet → PacketOutcome
stream_outcome aggregation closed st p =
    let slots = (at_sub st.rx p.prefix.sub).slots in
    if st.failed then Insecure
    else stream_outcome_by_keys aggregation closed st.rx p (live_in (slot_in_set slots p.prefix.k))
    (live_in (slot_in_set slots (not p.prefix.k)))

abbrev pub slot_without_packets : LaneSlot → LaneSlot
slot_without_packets (Live x) = Live (record x { packets = [] })
slot_without_packets s = s

abbrev pub dropped_held : RxSub → RxSub
dropped_held rx = record rx
    { slots = record { first = slot_without_packets rx.slots.first; second = slot_without_packets rx.slots.second } }

-- a Live key of a smaller draw than that of an accepted unit
abbrev pub slot_unless_older : ℕ → LaneSlot → LaneSlot
slot_unless_older j (Live x) = if nat_lt x.draw j then Empty else Live x
slot_unless_older j s = s

abbrev pub accepted_slots : ℕ → Bool → LaneSlots → LaneSlots
accepted_slots j true s = record { first = slot_unless_older j s.first; second = counted_unit s.second }
accepted_slots j false s = record { first = counted_unit s.first; second = slot_unless_older j s.second }

abbrev pub accepted_sub : ℕ → Bool → List Packet → RxSub → RxSub
accepted_sub j k unit rx = record {
  slots = accepted_slots j k rx.slots;
  sum = rx.sum + posted_sum unit;
  got = rx.got + length unit;
  total = rx.total + 1;
}

abbrev pub held_sub : Bool → Packet → RxSub → RxSub
held_sub k p rx = record rx { slots = with_slot rx.slots k (gone_on p (slot_in_set rx.slots k)) }

-- the receivers and what failed after that answer
abbrev pub state_after : StreamState → Packet → PacketOutcome → StreamState
state_after st p (Failed cause) =
    record st {
      rx = record { pr = dropped_held st.rx.pr; npr = dropped_held st.rx.npr; cpl = dropped_held st.rx.cpl };
      failed = true;
    }
state_after st p (Held j n) =
    record st { rx = set_sub st.rx p.prefix.sub (held_sub p.prefix.k p (at_sub st.rx p.prefix.sub)) }
state_after st p (Accepted j n unit) =
    record st { rx = set_sub st.rx p.prefix.sub (accepted_sub j p.prefix.k unit (at_sub st.rx p.prefix.sub)) }
state_after st p _ = st

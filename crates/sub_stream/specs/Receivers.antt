-- A receiver of one sub-stream as a machine: what it keeps, and what it answers to a packet (PCI Express Base 6.0
-- section 6.33, in this profile).
use Rattle.std.specs.Prelude.{◌≡◌, ℕ, ◌+◌, ◌≤◌, ◌<◌, Bool, true, false, not, ◌&&◌, ◌||◌, ◌==◌, nat_le, nat_lt, List, []}
use Rattle.std.specs.Prelude.{◌∷◌, ◌++◌, length, Option, Some, None, Result, Ok, Err, if◌then◌else◌}
use denote.Ref.{Bor}
use Rattle.ide_types.specs.declared.sub.SubKind.{SubKind}
use Rattle.ide_types.specs.declared.sub.FailCause.TheVariants as fail
use Rattle.gcm_seal.specs.Gcm.{verifies}
use Rattle.ide_prefix.specs.Packet.{Packet}
use Rattle.ide_prefix.specs.Iv.{iv_of}
use Rattle.ide_prefix.specs.Units.{authenticated_bytes, encrypted_bytes, packet_without_tag}
use Rattle.spec_stream.specs.Stream.{LaneSlot, Empty, Programmed, Live, LaneSlots, LiveKey, PacketOutcome, NotKeyed}
use Rattle.spec_stream.specs.Stream.{Failed, Held, Accepted, slot_in_set, with_slot, live_in, holds_any, posted_sum}
use Rattle.spec_stream.specs.Stream.{outcome_of_checks, slot_without_packets, gone_on, accepted_slots}
use Rattle.spec_stream.specs.Slots.{begun_slot, no_slots}
use Rattle.key_slots.specs.{SlotPair, DrawnKey, slot_in as key_slot_in, with_both, live_draw, is_only_live}
use Rattle.key_slots.specs.{is_live as is_live_key}
use Rattle.key_slots.specs.declared.slot.Slot.TheVariants as key
use Rattle.sub_stream.specs.declared.answer.Taken.{Taken as Answer}
use Rattle.sub_stream.specs.declared.answer.Taken.TheVariants as answers
use Rattle.sub_stream.specs.declared.receiver.Holds.{Holds}
use Rattle.sub_stream.specs.declared.receiver.Holds.TheVariants.{Nothing, HeldZero, HeldOne, Delivered}
use Rattle.sub_stream.specs.Seen.{slot_as_seen, slot_pair, has_armed}
use Rattle.sub_stream.specs.Gathered.{Gathered, with_packet, opened_packets}
use Rattle.sub_stream.specs.Senders.{unit_ahead}

-- units of at most `aggregation` packets; `ahead` comes before what the held packets authenticate, and `delivered` are
-- the packets of the last accepted unit, decrypted, until the next change
pub record Receiver : Type 0 where
  pub stream : ℕ
  pub sub : SubKind
  pub aggregation : ℕ
  pub ahead : List ℕ
  pub slots : LaneSlots
  pub delivered : List Packet

abbrev pub new_receiver : ℕ → SubKind → ℕ → Receiver
new_receiver stream sub aggregation =
    record {
      stream = stream;
      sub = sub;
      aggregation = aggregation;
      ahead = [];
      slots = no_slots;
      delivered = [];
    }

-- ---- what is kept, as the code keeps it

-- the packets of a buffer that are held in key set 0, in key set 1, and those that were delivered
abbrev pub held_zero : Holds → List Packet → List Packet
held_zero HeldZero ps = ps
held_zero h ps = []

abbrev pub held_one : Holds → List Packet → List Packet
held_one HeldOne ps = ps
held_one h ps = []

abbrev pub packets_if_delivered : Holds → List Packet → List Packet
packets_if_delivered Delivered ps = ps
packets_if_delivered h ps = []

abbrev pub ahead_if_held : Holds → List ℕ → List ℕ
ahead_if_held HeldZero total = total
ahead_if_held HeldOne total = total
ahead_if_held h total = []

abbrev pub holds_some : Holds → Bool
holds_some HeldZero = true
holds_some HeldOne = true
holds_some h = false

-- packets are held in another set than this
abbrev pub holds_apart : Bool → Holds → Bool
holds_apart k HeldZero = k
holds_apart k HeldOne = not k
holds_apart k h = false

abbrev pub held_set : Bool → Holds
held_set k = if k then HeldOne else HeldZero

abbrev pub holds_after_answer : Bool → Answer → Holds
holds_after_answer k (answers.Held draw unit) = held_set k
holds_after_answer k (answers.Accepted draw unit count) = Delivered
holds_after_answer k answer = Nothing

abbrev pub is_accepted : Answer → Bool
is_accepted (answers.Accepted draw unit count) = true
is_accepted answer = false

-- the other slot is emptied if it is Live under an older draw
abbrev pub is_draw_below : ℕ → Option ℕ → Bool
is_draw_below draw None = false
is_draw_below draw (Some other) = nat_lt other draw

abbrev pub without_older : SlotPair → Bool → ℕ → SlotPair
without_older pair k draw =
    if is_draw_below draw (live_draw (key_slot_in pair (not k))) then with_both pair.sender k (
      key_slot_in pair k,
      key.Empty,
    ) else pair

abbrev pub slots_after : Answer → Bool → SlotPair → SlotPair
slots_after (answers.Accepted draw unit count) k pair = without_older pair k draw
slots_after answer k pair = pair

abbrev pub held_unless_failed : Holds → Answer → Holds
held_unless_failed h answers.NotKeyed = h
held_unless_failed h answer = Nothing

abbrev pub held_alone : Holds → Holds
held_alone Delivered = Nothing
held_alone h = h

-- a packet of this key set, with this M, joins what is held and leaves room for the last of its unit
abbrev pub fits_held : Holds → ℕ → ℕ → Bool → Bool → Bool
fits_held h n aggregation k m =
    not (holds_apart k h || (not m && nat_le aggregation ((if holds_some h then n else 0) + 1)))

-- what is held if a slot is emptied
abbrev pub holds_without : Bool → Holds → Holds
holds_without k HeldZero = if k then HeldZero else Nothing
holds_without k HeldOne = if k then Nothing else HeldOne
holds_without k h = Nothing

abbrev pub receiver_slots_seen : SlotPair → ℕ → ℕ → Holds → List Packet → LaneSlots
receiver_slots_seen pair units_zero units_one h ps =
    record {
      first = slot_as_seen units_zero (held_zero h ps) pair.zero;
      second = slot_as_seen units_one (held_one h ps)
          pair.one;
    }

-- packets are held in a Live slot, fewer than the aggregation
abbrev pub HoldsFew : SlotPair → ℕ → Holds → List Packet → Type 0
HoldsFew pair aggregation HeldZero ps = (is_live_key pair.zero ≡ true) × (0 < length ps) × (length ps < aggregation)
HoldsFew pair aggregation HeldOne ps = (is_live_key pair.one ≡ true) × (0 < length ps) × (length ps < aggregation)
HoldsFew pair aggregation h ps = Unit {0}

pub record IsReceiver (aggregation : ℕ) (pair : SlotPair) (h : Holds) (unit : Gathered) : Type 0 where
  pub sender : pair.sender ≡ false
  pub never_armed : has_armed pair ≡ false
  pub some_aggregation : 1 ≤ aggregation
  pub small_aggregation : aggregation ≤ 8
  pub same_aggregation : unit.aggregation ≡ aggregation
  pub few : HoldsFew pair aggregation h unit.packets

-- ---- how many units

-- so many were accepted under each Live key at the most
abbrev pub KeyUnitsAtMost : ℕ → LaneSlot → Type 0
KeyUnitsAtMost n (Live x) = x.units ≤ n
KeyUnitsAtMost n slot = Unit {0}

abbrev pub LaneUnitsAtMost : ℕ → LaneSlots → Type 0
LaneUnitsAtMost n slots = KeyUnitsAtMost n slots.first × KeyUnitsAtMost n slots.second

-- ---- packets

abbrev pub key_for : Receiver → Bool → Option LiveKey
key_for rx k = live_in (slot_in_set rx.slots k)

abbrev pub receiver_ahead : Receiver → LiveKey → List ℕ → List ℕ
receiver_ahead rx x total = if length x.packets == 0 then unit_ahead total (x.units + 1) else rx.ahead

-- the tag is that of the unit
abbrev pub is_tagged_behind : List ℕ → LiveKey → Packet → Bool
is_tagged_behind ahead x p =
    let unit = x.packets ++ p ∷ [] in
    verifies x.key (iv_of p.prefix.sub (x.units + 1)) (ahead ++ authenticated_bytes unit) (encrypted_bytes unit) p.tag

-- no packets of the other set are held, and one without M finds room for the last of its unit
abbrev pub fits_unit : ℕ → LiveKey → Option LiveKey → Packet → Bool
fits_unit aggregation x other p = not (holds_any other || (not p.prefix.m && nat_le aggregation (length x.packets + 1)))

abbrev pub judged_packet : List ℕ → ℕ → LiveKey → Packet → PacketOutcome
judged_packet ahead allowed x p =
    if p.prefix.m then outcome_of_checks (is_tagged_behind ahead x p)
    (nat_le (posted_sum (x.packets ++ p ∷ [])) allowed) x p
    else Held x.draw (x.units + 1)

abbrev pub receiver_outcome_by_keys : Receiver → ℕ → List ℕ → Packet → Option LiveKey → Option LiveKey → PacketOutcome
receiver_outcome_by_keys rx allowed total p None None = NotKeyed
receiver_outcome_by_keys rx allowed total p None (Some y) = Failed fail.Key
receiver_outcome_by_keys rx allowed total p (Some x) other =
    if fits_unit rx.aggregation x other p then judged_packet (receiver_ahead rx x total) allowed x p else Failed
    fail.Unit

-- the key of a packet's set, by the Live keys of this set and of the other, and whether the packet fits what is held;
-- else the answer that comes before a look at the tag
abbrev pub key_or_answer : Option DrawnKey → Option DrawnKey → Bool → Result DrawnKey Answer
key_or_answer None None fits = Err answers.NotKeyed
key_or_answer None (Some y) fits = Err (answers.Fail fail.Key)
key_or_answer (Some x) other fits = if fits then Ok x else Err (answers.Fail fail.Unit)

-- with a lent key as a value
abbrev pub shown_keyed : Result (Bor (List ℕ) × ℕ) Answer → Result DrawnKey Answer
shown_keyed (Ok shown) = Ok (record { key = shown.0.now; draw = shown.1 })
shown_keyed (Err answer) = Err answer

-- the buffer after an answer under a key: the packet is with the held ones, or the unit is decrypted
abbrev pub BufferAfter : Gathered → LiveKey → Packet → PacketOutcome → Gathered → Type 0
BufferAfter begun x p (Held draw unit) new = new ≡ with_packet begun (packet_without_tag p)
BufferAfter begun x p (Accepted draw unit packets) new =
    new ≡ record begun { packets = opened_packets x.key (iv_of p.prefix.sub (x.units + 1)) packets }
BufferAfter begun x p answer new = Unit {0}

-- the answer to a packet of the sub-stream, whose unit's posted counts may sum to `allowed` at most
abbrev pub receiver_outcome : Receiver → ℕ → List ℕ → Packet → PacketOutcome
receiver_outcome rx allowed total p = receiver_outcome_by_keys rx allowed total p (key_for rx p.prefix.k)
    (key_for rx (not p.prefix.k))

abbrev pub dropped_slots : LaneSlots → LaneSlots
dropped_slots s = record { first = slot_without_packets s.first; second = slot_without_packets s.second }

abbrev pub dropped_receiver : Receiver → Receiver
dropped_receiver rx = record rx { ahead = []; slots = dropped_slots rx.slots; delivered = [] }

abbrev pub ahead_held : Receiver → Option LiveKey → List ℕ → List ℕ
ahead_held rx None total = []
ahead_held rx (Some x) total = receiver_ahead rx x total

-- an accepted unit, decrypted under its key
abbrev pub opened_unit : Option LiveKey → SubKind → List Packet → List Packet
opened_unit None sub unit = []
opened_unit (Some x) sub unit = opened_packets x.key (iv_of sub (x.units + 1)) unit

-- what is kept after an answer: only an accepted unit moves a counter or empties a slot
abbrev pub after_answer : Receiver → List ℕ → Packet → PacketOutcome → Receiver
after_answer rx total p (Failed cause) = dropped_receiver rx
after_answer rx total p (Held draw unit) =
    record rx {
      ahead = ahead_held rx (key_for rx p.prefix.k) total;
      slots = with_slot rx.slots p.prefix.k (gone_on p (slot_in_set rx.slots p.prefix.k));
      delivered = [];
    }
after_answer rx total p (Accepted draw unit packets) =
    record rx {
      ahead = [];
      slots = accepted_slots draw p.prefix.k rx.slots;
      delivered = opened_unit (key_for rx p.prefix.k) p.prefix.sub packets;
    }
after_answer rx total p answer = rx

abbrev pub receiver_after : Receiver → ℕ → List ℕ → Packet → Receiver
receiver_after rx allowed total p = after_answer rx total p (receiver_outcome rx allowed total p)

-- ---- keys: the held packets go with their slot, and what was delivered is lent no more

abbrev pub slots_ahead : LaneSlots → List ℕ → List ℕ
slots_ahead slots ahead = if holds_any (live_in slots.first) || holds_any (live_in slots.second) then ahead else []

abbrev pub with_slots : Receiver → LaneSlots → Receiver
with_slots rx slots = record rx { ahead = slots_ahead slots rx.ahead; slots = slots; delivered = [] }

abbrev pub programmed_receiver : Receiver → Bool → List ℕ → ℕ → Receiver
programmed_receiver rx k key draw =
    if is_only_live (slot_pair false rx.slots) k then rx else with_slots rx (with_slot rx.slots k (Programmed draw key))

abbrev pub gone_receiver : Receiver → Bool → Receiver
gone_receiver rx k = with_slots rx (with_slot rx.slots k (begun_slot (slot_in_set rx.slots k)))

abbrev pub stopped_receiver : Receiver → Bool → Receiver
stopped_receiver rx k = with_slots rx (with_slot rx.slots k Empty)

-- The senders of a stream, each with the counts beside it, and what a sealed packet makes of them.
use Rattle.std.specs.Prelude.{◌≡◌, ℕ, ◌+◌, ◌≤◌, ◌<◌, Bool, true, false, not, ◌&&◌, ◌||◌, ◌==◌, if◌then◌else◌, List, []}
use Rattle.std.specs.Prelude.{◌∷◌, length, Option, Result, Ok, is_some, IfSome, unwrap_or}
use Rattle.ide_types.specs.declared.sub.SubKind.{SubKind}
use Rattle.ide_types.specs.declared.sub.SubKind.TheVariants.{Pr, Npr, Cpl}
use Rattle.ide_types.specs.declared.port.Side.TheVariants.{Host}
use Rattle.event_verdicts.specs.declared.verdict.SealedPacket.{SealedPacket as Described}
use Rattle.ide_prefix.specs.Packet.{Packet, packet_bytes}
use Rattle.spec_stream.specs.Sending.{Lane, Lanes, is_posted, needs_sync, no_key, total_ahead}
use Rattle.spec_stream.specs.Stream.{LaneSlots, TxSub, Three, at_sub, set_sub, each_sub, live_sender, lane_of}
use Rattle.spec_stream.specs.Stream.{packet_under, sealed_slots, sealed_one}
use Rattle.spec_stream.specs.Slots.{is_live_slot, any_live}
use Rattle.key_slots.specs.{KeyCall}
use Rattle.sub_stream.specs.{Sender, no_slots, ready_key, key_in_use, open_packets, with_length}
use Rattle.sub_stream.specs.declared.answer.MeasuredPacket.{MeasuredPacket}
use Rattle.sub_stream.specs.declared.answer.TxRefusal.{TxRefusal}
use Rattle.sub_stream.specs.declared.sender.ReadyKey.{ReadyKey}
use Rattle.sub_stream.specs.Calls.{slots_called_out}
use Rattle.stream_lanes.specs.declared.fixed.Fixed.{Fixed}
use Rattle.stream_lanes.specs.declared.send_lanes.SendKeys.{SendKeys}

-- ---- one sub-stream

-- a sender with its posted count and its total
pub record SendEnd : Type 0 where
  pub fixed : Fixed
  pub sub : SubKind
  pub kept : TxSub

abbrev pub no_tx : TxSub
no_tx = record { slots = no_slots; posted = 0; total = 0 }

abbrev pub new_send_end : Fixed → SubKind → SendEnd
new_send_end fixed sub = record { fixed = fixed; sub = sub; kept = no_tx }

-- what the rules of sealing see of it
abbrev pub sealing_lane : SendEnd → Lane
sealing_lane e = lane_of e.kept.posted (live_sender e.kept.slots)

-- the key that seals its next packet, or why there is none
abbrev pub ready_end : SendEnd → Result ReadyKey TxRefusal
ready_end e = ready_key e.fixed.limit (live_sender e.kept.slots)

-- what is said of a packet, but for its port and its number
abbrev pub described_packet : SendEnd → Bool → Bool → Bool → Described
described_packet e m t sync =
    let key = unwrap_or (sealing_lane e).key no_key in
    record {
      number = 0;
      port = record { side = Host; line = 0 };
      stream = e.fixed.stream;
      sub = e.sub;
      draw = key.draw;
      unit = (sealing_lane e).units + 1;
      m = m;
      k = key.k;
      t = t;
      posted = if is_posted e.sub then 0 else (sealing_lane e).posted;
      sync = sync;
    }

-- a TLP's packet, which goes on with its unit if that has room and `more` is said; and a sync packet
abbrev pub tlp_said : SendEnd → Bool → Bool → Described
tlp_said e more t = described_packet e (not more || (length (sealing_lane e).unfinished + 1 == e.fixed.aggregation)) t
    false

abbrev pub sync_said : SendEnd → Described
sync_said e = described_packet e true false true

-- the packet that is said, with this header and payload
abbrev pub packet_said : SendEnd → List ℕ → List ℕ → Described → Packet
packet_said e head payload d = packet_under (total_ahead e.fixed.closed d.unit e.kept.total) (live_sender e.kept.slots)
    d head payload

-- its own posted count begins again, and a finished unit counts
abbrev pub sealed_kept : Described → Packet → TxSub → TxSub
sealed_kept d p tx =
    record { slots = sealed_slots d.m p tx.slots; posted = 0; total = if d.m then tx.total + 1 else tx.total }

abbrev pub sealed_end : SendEnd → List ℕ → List ℕ → Described → SendEnd
sealed_end e head payload d = record e { kept = sealed_kept d (packet_said e head payload d) e.kept }

-- one more posted packet was sealed
abbrev pub posted_end : SendEnd → SendEnd
posted_end e = record e { kept = record e.kept { posted = e.kept.posted + 1 } }

-- it counts from 0
abbrev pub forgotten_end : SendEnd → SendEnd
forgotten_end e = record e { kept = record { slots = e.kept.slots; posted = 0; total = 0 } }

abbrev pub called_send_end : SendEnd → KeyCall → SendEnd
called_send_end e call = record e { kept = record e.kept { slots = slots_called_out call e.kept.slots } }

-- what comes before an open unit is what the rules say; a posted packet has no posted count
pub record IsSendLane (tx : Sender) (closed : Bool) (posted total : ℕ) : Type 0 where
  pub some_aggregation : 0 < tx.aggregation
  pub one_live : (is_live_slot tx.slots.first && is_live_slot tx.slots.second) ≡ false
  pub fits : length (open_packets tx) < tx.aggregation
  pub ahead : (length (open_packets tx) == 0) ≡ false → tx.ahead
      ≡ total_ahead closed ((key_in_use (live_sender tx.slots)).1.units + 1) total
  pub no_count : is_posted tx.sub ≡ true → posted ≡ 0

-- ---- three sub-streams

pub record SendEnds : Type 0 where
  pub fixed : Fixed
  pub tx : Three TxSub

abbrev pub no_senders : Three TxSub
no_senders = record { pr = no_tx; npr = no_tx; cpl = no_tx }

abbrev pub new_send_ends : Fixed → SendEnds
new_send_ends fixed = record { fixed = fixed; tx = no_senders }

abbrev pub send_end_at : SendEnds → SubKind → SendEnd
send_end_at x u = record { fixed = x.fixed; sub = u; kept = at_sub x.tx u }

-- what the rules of sealing see of them, while the stream has not failed
abbrev pub sealing_lanes : SendEnds → Lanes
sealing_lanes x = record {
  aggregation = x.fixed.aggregation;
  limit = x.fixed.limit;
  failed = false;
  lane = λ u. lane_of (at_sub x.tx u).posted (live_sender (at_sub x.tx u).slots);
}

abbrev pub packet_said_at_ends : SendEnds → List ℕ → List ℕ → Described → Packet
packet_said_at_ends x head payload d = (sealed_one x.fixed.closed head payload d x.tx).0

abbrev pub sealed_ends : SendEnds → List ℕ → List ℕ → Described → SendEnds
sealed_ends x head payload d = record x { tx = (sealed_one x.fixed.closed head payload d x.tx).1 }

-- a packet with its length
abbrev pub measured_packet : Described → Packet → MeasuredPacket
measured_packet d p = with_length d (length (packet_bytes p))

-- the packets of an open unit of these slots
abbrev pub open_in : LaneSlots → List Packet
open_in slots = (key_in_use (live_sender slots)).1.packets

-- the posted packets that may still join an open unit of this aggregation leave the count within a byte
abbrev pub HasPostedRoom : ℕ → TxSub → TxSub → Type 0
HasPostedRoom aggregation pr tx = (length (open_in pr.slots) == 0) ≡ false
    → tx.posted + aggregation ≤ 255 + length (open_in pr.slots)

-- what is open stays open, or goes whole
abbrev pub KeepsUnit : TxSub → TxSub → Type 0
KeepsUnit old new = (length (open_in new.slots) == 0) ≡ false → open_in new.slots ≡ open_in old.slots

pub record IsSendLanes (fixed : Fixed) (pr npr cpl : SendEnd) : Type 0 where
  pub is_pr : pr ≡ record { fixed = fixed; sub = Pr; kept = pr.kept }
  pub is_npr : npr ≡ record { fixed = fixed; sub = Npr; kept = npr.kept }
  pub is_cpl : cpl ≡ record { fixed = fixed; sub = Cpl; kept = cpl.kept }
  pub small_aggregation : fixed.aggregation ≤ 8
  pub npr_room : HasPostedRoom fixed.aggregation pr.kept npr.kept
  pub cpl_room : HasPostedRoom fixed.aggregation pr.kept cpl.kept

-- each sub-stream finished so many units at the most
abbrev pub SealedAtMost : ℕ → Three TxSub → Type 0
SealedAtMost n tx = (u : SubKind) → (at_sub tx u).total ≤ n

abbrev pub any_out : Three TxSub → Bool
any_out tx = any_live tx.pr.slots || any_live tx.npr.slots || any_live tx.cpl.slots

abbrev pub all_out : Three TxSub → Bool
all_out tx = any_live tx.pr.slots && any_live tx.npr.slots && any_live tx.cpl.slots

-- they count from 0 if none has a Live slot
abbrev pub settled_senders : Three TxSub → Three TxSub
settled_senders tx =
    let out = any_out tx in
    each_sub (λ u. record {
      slots = (at_sub tx u).slots;
      posted = if out then (at_sub tx u).posted else 0;
      total = if out then (at_sub tx u).total else 0;
    })

abbrev pub called_ends : SendEnds → SubKind → KeyCall → SendEnds
called_ends x u call =
    let tx = at_sub x.tx u in
    record x { tx = set_sub x.tx u (record tx { slots = slots_called_out call tx.slots }) }

-- ---- a send

-- the key of the sync packet that goes first in a sub-stream, if a TLP of this class is sent; then the posted packets
-- of the unit that goes on, or begins, leave the count within a byte
pub record IsSyncKey (x : SendEnds) (class u : SubKind) (key : Option ReadyKey) : Type 0 where
  pub needed : is_some key ≡ needs_sync (sealing_lanes x) class u
  pub ready : IfSome key (λ k. ready_end (send_end_at x u) ≡ Ok k)
  pub room : is_posted class ≡ true → (if is_some key then 0 else (at_sub x.tx u).posted) + x.fixed.aggregation
      ≤ 255 + length (open_in x.tx.pr.slots)

-- the keys of a send, with which its senders are ready
pub record AreSendKeys (x : SendEnds) (class : SubKind) (keys : SendKeys) : Type 0 where
  pub own : ready_end (send_end_at x class) ≡ Ok keys.own
  pub npr : IsSyncKey x class Npr keys.npr
  pub cpl : IsSyncKey x class Cpl keys.cpl

-- a sync packet goes first in this sub-stream, if one is needed
abbrev pub ends_after_sync : Bool → SubKind → SendEnds → SendEnds
ends_after_sync needed u x = if needed then sealed_ends x [] [] (sync_said (send_end_at x u)) else x

abbrev pub sync_packets : Bool → SubKind → SendEnds → List MeasuredPacket
sync_packets needed u x =
    if needed then measured_packet (sync_said (send_end_at x u))
    (packet_said_at_ends x [] [] (sync_said (send_end_at x u)))
    ∷ [] else []

abbrev pub sync_bytes : Bool → SubKind → SendEnds → List ℕ
sync_bytes needed u x = if needed then packet_bytes (packet_said_at_ends x [] [] (sync_said (send_end_at x u))) else []

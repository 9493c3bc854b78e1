-- What keys do to slots: a key is put in, gets GO, or is taken out; and what all slots of a stream come to.
use Rattle.std.specs.Prelude.{ℕ, Bool, true, false, ◌&&◌, ◌||◌, nat_lt, [], length, if◌then◌else◌}
use Rattle.std.specs.Prelude.{Option, Some, None, option_map}
use Rattle.ide_types.specs.Ports.{keyed_status}
use Rattle.ide_types.specs.declared.sub.SubKind.{SubKind}
use Rattle.ide_types.specs.declared.status.StreamStatus.{StreamStatus}
use Rattle.ide_types.specs.declared.status.StreamStatus.TheVariants as status
use Rattle.spec_stream.specs.Stream.{LaneSlot, Empty, Programmed, Armed, Live, LiveKey, LaneSlots, TxSub, RxSub, Three}
use Rattle.spec_stream.specs.Stream.{StreamState, at_sub, each_sub, live_in, live_sender}

abbrev pub both_slots : Bool → LaneSlot → LaneSlot → LaneSlots
both_slots k a b = if k then record { first = b; second = a } else record { first = a; second = b }

abbrev pub begun_slot : LaneSlot → LaneSlot
begun_slot (Programmed j key) = Live (record { draw = j; key = key; units = 0; packets = [] })
begun_slot s = s

abbrev pub is_busy : LaneSlot → Bool
is_busy (Live x) = nat_lt 0 (length x.packets)
is_busy _ = false

abbrev pub slot_gone : Bool → LaneSlot → LaneSlot → LaneSlots
slot_gone k (Programmed j key) other =
    if is_busy other then both_slots k (Armed j key) other
    else both_slots k (Live (record { draw = j; key = key; units = 0; packets = [] })) Empty
slot_gone k a other = both_slots k a other

abbrev pub woken_slot : LaneSlot → LaneSlot
woken_slot (Armed j key) = Live (record { draw = j; key = key; units = 0; packets = [] })
woken_slot s = s

abbrev pub is_live_slot : LaneSlot → Bool
is_live_slot (Live x) = true
is_live_slot _ = false

abbrev pub any_live : LaneSlots → Bool
any_live s = is_live_slot s.first || is_live_slot s.second

-- the draw that a sender seals under
abbrev pub sealing_draw : LaneSlots → Option ℕ
sealing_draw s = option_map (λ (x : Bool × LiveKey). x.1.draw) (live_sender s)

abbrev pub greater_draw : Option LiveKey → Option LiveKey → Option ℕ
greater_draw None None = None
greater_draw (Some x) None = Some x.draw
greater_draw None (Some y) = Some y.draw
greater_draw (Some x) (Some y) = Some (if nat_lt x.draw y.draw then y.draw else x.draw)

-- the greatest draw that a receiver opens under
abbrev pub receiving_draw : LaneSlots → Option ℕ
receiving_draw s = greater_draw (live_in s.first) (live_in s.second)

-- a direction without a Live slot counts from 0, and a stream without a Live slot has not failed
abbrev pub rested_stream : Three TxSub → Three RxSub → Bool → StreamState
rested_stream tx rx failed =
    let out = any_live tx.pr.slots || any_live tx.npr.slots || any_live tx.cpl.slots in
    let into = any_live rx.pr.slots || any_live rx.npr.slots || any_live rx.cpl.slots in
    record {
      tx = each_sub (λ u. record {
        slots = (at_sub tx u).slots;
        posted = if out then (at_sub tx u).posted else 0;
        total = if out then (at_sub tx u).total else 0;
      });
      rx = each_sub (λ u. record {
        slots = (at_sub rx u).slots;
        sum = if into then (at_sub rx u).sum else 0;
        got = if into then (at_sub rx u).got else 0;
        total = if into then (at_sub rx u).total else 0;
      });
      failed = failed && (out || into);
    }

-- the slots of a sender, or of a receiver, in a sub-stream
abbrev pub slots_at : Bool → SubKind → StreamState → LaneSlots
slots_at true u st = (at_sub st.tx u).slots
slots_at false u st = (at_sub st.rx u).slots

-- ---- without keys

abbrev pub no_slots : LaneSlots
no_slots = record { first = Empty; second = Empty }

abbrev pub no_stream : StreamState
no_stream = record {
  tx = each_sub (λ u. record { slots = no_slots; posted = 0; total = 0 });
  rx = each_sub (λ u. record { slots = no_slots; sum = 0; got = 0; total = 0 });
  failed = false;
}

-- ---- the status of a stream

-- each of the six sub-streams has a Live key
abbrev pub has_all_live : StreamState → Bool
has_all_live st =
    any_live st.tx.pr.slots && any_live st.tx.npr.slots && any_live st.tx.cpl.slots
    && any_live st.rx.pr.slots && any_live st.rx.npr.slots && any_live st.rx.cpl.slots

abbrev pub has_some_live : StreamState → Bool
has_some_live st =
    any_live st.tx.pr.slots || any_live st.tx.npr.slots || any_live st.tx.cpl.slots
    || any_live st.rx.pr.slots || any_live st.rx.npr.slots || any_live st.rx.cpl.slots

abbrev pub stream_status : StreamState → StreamStatus
stream_status st = keyed_status st.failed (has_some_live st) (has_all_live st)

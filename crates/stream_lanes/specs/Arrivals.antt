-- The receivers of a stream, each with the counts beside it, and what a packet makes of them.
use Rattle.std.specs.Prelude.{◌≡◌, ℕ, ◌+◌, ◌*◌, ◌≤◌, ◌<◌, Bool, true, false, not, ◌&&◌, ◌||◌, ◌==◌, nat_le}
use Rattle.std.specs.Prelude.{if◌then◌else◌, List, [], ◌∷◌, ◌++◌, length, Option, Some, None}
use Rattle.ide_types.specs.Sub.{sub_bits}
use Rattle.ide_types.specs.declared.sub.SubKind.{SubKind}
use Rattle.ide_types.specs.declared.sub.SubKind.TheVariants.{Pr, Npr, Cpl}
use Rattle.ide_types.specs.declared.sub.FailCause.TheVariants as fail
use Rattle.ide_prefix.specs.Packet.{Packet}
use Rattle.spec_stream.specs.Sending.{total_ahead}
use Rattle.spec_stream.specs.Stream.{LaneSlot, Live, LiveKey, RxSub, Three, StreamState, at_sub, set_sub, each_sub}
use Rattle.spec_stream.specs.Stream.{slot_in_set, live_in, PacketOutcome, NotKeyed, Failed, Held, Accepted, holds_any}
use Rattle.spec_stream.specs.Stream.{posted_sum, is_tagged, outcome_of_checks, dropped_held, accepted_sub, held_sub}
use Rattle.spec_stream.specs.Stream.{stream_outcome, state_after}
use Rattle.spec_stream.specs.Slots.{any_live}
use Rattle.key_slots.specs.{KeyCall}
use Rattle.sub_stream.specs.{Receiver, no_slots, opened_unit}
use Rattle.sub_stream.specs.declared.answer.Taken.{Taken as Answer}
use Rattle.sub_stream.specs.declared.answer.Taken.TheVariants as answers
use Rattle.sub_stream.specs.Calls.{slots_called_into, no_stream}

-- ---- one sub-stream

-- a receiver with its counts; `delivered` are the packets of the unit that it accepted last, decrypted
pub record ReceiveEnd : Type 0 where
  pub sub : SubKind
  pub aggregation : ℕ
  pub closed : Bool
  pub kept : RxSub
  pub delivered : List Packet

abbrev pub no_rx : RxSub
no_rx = record { slots = no_slots; sum = 0; got = 0; total = 0 }

abbrev pub new_receive_end : SubKind → ℕ → Bool → ReceiveEnd
new_receive_end sub aggregation closed =
    record { sub = sub; aggregation = aggregation; closed = closed; kept = no_rx; delivered = [] }

-- the posted counts, with those of a unit, sum to at most the number of posted packets
abbrev pub allows : ReceiveEnd → ℕ → List Packet → Bool
allows e got unit = (sub_bits e.sub == 0) || nat_le (e.kept.sum + posted_sum unit) got

abbrev pub lane_outcome_by_keys : ReceiveEnd → ℕ → Packet → Option LiveKey → Option LiveKey → PacketOutcome
lane_outcome_by_keys e got p None None = NotKeyed
lane_outcome_by_keys e got p None (Some y) = Failed fail.Key
lane_outcome_by_keys e got p (Some x) other =
    if holds_any other || (not p.prefix.m && nat_le e.aggregation (length x.packets + 1)) then Failed fail.Unit
    else if p.prefix.m then outcome_of_checks (is_tagged e.closed e.kept.total x p) (allows e got (x.packets ++ p ∷ []))
    x p
    else Held x.draw (x.units + 1)

-- the answer to a packet of it, after so many accepted posted packets
abbrev pub lane_outcome : ReceiveEnd → ℕ → Packet → PacketOutcome
lane_outcome e got p = lane_outcome_by_keys e got p (live_in (slot_in_set e.kept.slots p.prefix.k))
    (live_in (slot_in_set e.kept.slots (not p.prefix.k)))

abbrev pub kept_sub_after : RxSub → Packet → PacketOutcome → RxSub
kept_sub_after rx p (Failed cause) = dropped_held rx
kept_sub_after rx p (Held j n) = held_sub p.prefix.k p rx
kept_sub_after rx p (Accepted j n unit) = accepted_sub j p.prefix.k unit rx
kept_sub_after rx p taken = rx

abbrev pub delivered_after : ReceiveEnd → Packet → PacketOutcome → List Packet
delivered_after e p (Accepted j n unit) = opened_unit (live_in (slot_in_set e.kept.slots p.prefix.k)) p.prefix.sub unit
delivered_after e p (Failed cause) = []
delivered_after e p (Held j n) = []
delivered_after e p taken = e.delivered

abbrev pub end_after : ReceiveEnd → Packet → PacketOutcome → ReceiveEnd
end_after e p taken = record e { kept = kept_sub_after e.kept p taken; delivered = delivered_after e p taken }

abbrev pub called_into : ReceiveEnd → KeyCall → RxSub
called_into e call = record e.kept { slots = slots_called_into call e.kept.slots }

-- what comes before held packets is what the rules say; they are few, and their posted counts are bytes; each unit
-- under the key is one of the total
pub record HoldsPackets (ahead : List ℕ) (aggregation : ℕ) (closed : Bool) (total : ℕ) (x : LiveKey) : Type 0 where
  pub ahead_right : (length x.packets == 0) ≡ false → ahead ≡ total_ahead closed (x.units + 1) total
  pub posted : posted_sum x.packets ≤ 255 * length x.packets
  pub fits : length x.packets < aggregation
  pub few : x.units ≤ total

abbrev pub HoldsRight : List ℕ → ℕ → Bool → ℕ → LaneSlot → Type 0
HoldsRight ahead aggregation closed total (Live x) = HoldsPackets ahead aggregation closed total x
HoldsRight ahead aggregation closed total slot = Unit {0}

pub record IsReceiveLane (rx : Receiver) (closed : Bool) (sum got total : ℕ) : Type 0 where
  pub some_aggregation : 0 < rx.aggregation
  pub small_aggregation : rx.aggregation ≤ 8
  pub first : HoldsRight rx.ahead rx.aggregation closed total rx.slots.first
  pub second : HoldsRight rx.ahead rx.aggregation closed total rx.slots.second
  pub few_sum : sum ≤ 2040 * total
  pub few_got : got ≤ 255 * total

-- ---- what the code counts of an answer

abbrev pub count_in : Answer → ℕ
count_in (answers.Accepted draw unit count) = count
count_in answer = 0

abbrev pub is_fail : Answer → Bool
is_fail (answers.Fail cause) = true
is_fail answer = false

abbrev pub lent_lane : SubKind → Answer → Option SubKind
lent_lane u (answers.Accepted draw unit count) = Some u
lent_lane u answer = None

-- ---- three sub-streams

-- `delivered` are the packets that are lent
pub record ReceiveEnds : Type 0 where
  pub aggregation : ℕ
  pub closed : Bool
  pub rx : Three RxSub
  pub delivered : List Packet

abbrev pub no_receivers : Three RxSub
no_receivers = record { pr = no_rx; npr = no_rx; cpl = no_rx }

abbrev pub new_receive_ends : ℕ → Bool → ReceiveEnds
new_receive_ends aggregation closed = record
    { aggregation = aggregation; closed = closed; rx = no_receivers; delivered = [] }

-- the one of a sub-stream
abbrev pub value_of_kind : {A : Type 0} → SubKind → A → A → A → A
value_of_kind Pr a b c = a
value_of_kind Npr a b c = b
value_of_kind Cpl a b c = c

abbrev pub lent_lane_packets : Option SubKind → ReceiveEnd → ReceiveEnd → ReceiveEnd → List Packet
lent_lane_packets None pr npr cpl = []
lent_lane_packets (Some u) pr npr cpl = (value_of_kind u pr npr cpl).delivered

pub record IsReceiveLanes (pr npr cpl : ReceiveEnd) : Type 0 where
  pub is_pr : pr.sub ≡ Pr
  pub is_npr : npr.sub ≡ Npr
  pub is_cpl : cpl.sub ≡ Cpl
  pub npr_aggregation : npr.aggregation ≡ pr.aggregation
  pub cpl_aggregation : cpl.aggregation ≡ pr.aggregation
  pub npr_closed : npr.closed ≡ pr.closed
  pub cpl_closed : cpl.closed ≡ pr.closed
  pub npr_order : npr.kept.sum ≤ pr.kept.got
  pub cpl_order : cpl.kept.sum ≤ pr.kept.got

-- an accepted unit, decrypted
abbrev pub opened_if_accepted : StreamState → Packet → PacketOutcome → List Packet
opened_if_accepted st p (Accepted draw unit packets) =
    opened_unit (live_in (slot_in_set (at_sub st.rx p.prefix.sub).slots p.prefix.k)) p.prefix.sub packets
opened_if_accepted st p taken = []

-- a stream with these receivers and nothing else
abbrev pub receiving_state : ReceiveEnds → StreamState
receiving_state x = record no_stream { rx = x.rx }

abbrev pub lanes_outcome : ReceiveEnds → Packet → PacketOutcome
lanes_outcome x p = stream_outcome x.aggregation x.closed (receiving_state x) p

abbrev pub receive_ends_after : ReceiveEnds → Packet → PacketOutcome → ReceiveEnds
receive_ends_after x p taken = record x {
  rx = (state_after (receiving_state x) p taken).rx;
  delivered = opened_if_accepted (receiving_state x) p taken;
}

-- each sub-stream accepted so many units at the most
abbrev pub AcceptedAtMost : ℕ → Three RxSub → Type 0
AcceptedAtMost n rx = (u : SubKind) → (at_sub rx u).total ≤ n

abbrev pub any_into : Three RxSub → Bool
any_into rx = any_live rx.pr.slots || any_live rx.npr.slots || any_live rx.cpl.slots

abbrev pub all_into : Three RxSub → Bool
all_into rx = any_live rx.pr.slots && any_live rx.npr.slots && any_live rx.cpl.slots

-- they count from 0 if none has a Live slot
abbrev pub rested_into : Three RxSub → Three RxSub
rested_into rx =
    let into = any_into rx in
    each_sub (λ u. record {
      slots = (at_sub rx u).slots;
      sum = if into then (at_sub rx u).sum else 0;
      got = if into then (at_sub rx u).got else 0;
      total = if into then (at_sub rx u).total else 0;
    })

-- a call, after which nothing is lent
abbrev pub called_receivers : ReceiveEnds → SubKind → KeyCall → ReceiveEnds
called_receivers x u call =
    let rx = at_sub x.rx u in
    record x { rx = set_sub x.rx u (record rx { slots = slots_called_into call rx.slots }); delivered = [] }

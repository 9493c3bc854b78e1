-- Exchanges by number: the lanes that they speak of, with their slots, and which of them the device refuses.
use Rattle.join_keys.specs.Calls.{lane_sends}
use Rattle.join_keys.proofs.Terms.{◌≡◌, Bool, arith, true, ℕ, false, nat_tests, Operation, place_at_end, LaneSlots, ◌≤◌}
use Rattle.join_keys.proofs.Terms.{makes_draw, Device, slot_pair, StreamState, ◌+◌, zero, suc, refl, ◌-◌, KeyPlace, ◌<◌}
use Rattle.join_keys.proofs.Terms.{last_exchange_of, key_slot, LaneSlot, ◌%◌, inl, inr, sub_from, cases_lt, PortView}
use Rattle.join_keys.proofs.Terms.{refusal_at, slot_in_set, None, is_empty, slots_at, exchange_of, KeySet}
use Rattle.ide_types.specs.declared.key_set.KeySet.TheVariants.{Zero, One}
use Rattle.key_slots.specs as pair
use Rattle.ide_types.specs.Lines.{is_hosted}
use Rattle.event_verdicts.specs.declared.verdict.Operation.TheVariants as op
use Rattle.key_host.specs.declared.exchange.Exchange.TheVariants as exchange

-- six lanes
pub by_lane : (P : ℕ → Type 0) → P 0 → P 1 → P 2 → P 3 → P 4 → P 5 → (lane : ℕ) → lane < 6 → P lane
by_lane P a b c d e f zero lt = a
by_lane P a b c d e f (suc zero) lt = b
by_lane P a b c d e f (suc (suc zero)) lt = c
by_lane P a b c d e f (suc (suc (suc zero))) lt = d
by_lane P a b c d e f (suc (suc (suc (suc zero)))) lt = e
by_lane P a b c d e f (suc (suc (suc (suc (suc zero))))) lt = f
by_lane P a b c d e f (suc (suc (suc (suc (suc (suc n)))))) lt = absurd (omega arith)

-- the place of a lane at the device's port
abbrev pub lane_place : ℕ → ℕ → ℕ → KeyPlace
lane_place line stream lane = place_at_end line stream (lane_sends lane) Device
    (sub_from (lane % 3))

-- the two slots of a lane
abbrev pub lane_slots : ℕ → StreamState → LaneSlots
lane_slots lane x = slots_at (lane_sends lane) (sub_from (lane % 3)) x

-- a slot as key management sees it
pub slot_seen : (sends : Bool) (s : LaneSlots) (k : Bool) → pair.slot_in (slot_pair sends s) k
    ≡ key_slot (slot_in_set s k)
slot_seen sends s k = grind arith

-- a slot with a key
abbrev pub IsFull : LaneSlot → Type 0
IsFull s = is_empty (key_slot s) ≡ false

-- the exchange that programs lane 0
abbrev pub first_program : Operation → ℕ
first_program op.Establish = 2
first_program op.Refresh = 1
first_program op.Stop = 1

-- ---- each exchange by its number

pub data Turn (o : Operation) (set : KeySet) (n : ℕ) : Type 0 where
  asks : o ≡ op.Establish → n ≡ 1 → exchange_of true o set n ≡ exchange.Query → Turn o set n
  puts : (lane : ℕ) → lane < 6 → makes_draw o ≡ true → n ≡ first_program o + lane → exchange_of true o set n
      ≡ exchange.Program set lane → Turn o set n
  goes : (lane : ℕ) → lane < 6 → makes_draw o ≡ true → n ≡ first_program o + (6 + lane) → exchange_of true o set n
      ≡ exchange.Go set lane → Turn o set n
  stops_lane_keys : (k : KeySet) (lane : ℕ) → lane < 6 → o ≡ op.Stop → exchange_of true o set n ≡ exchange.Stop k lane
      → Turn o set n

pub turn : (o : Operation) (set : KeySet) (n : ℕ) → 1 ≤ n → n ≤ last_exchange_of true o → Turn o set n
turn op.Establish set n least most = elim (cases_lt n 2) [
  | inl first ↦ asks refl (omega (arith, first)) (grind (arith, nat_tests))
  | inr past ↦ elim (cases_lt n 8) [
    | inl below ↦ puts (n - 2) (omega (arith, below)) refl (omega (arith, past)) (grind (arith, nat_tests))
    | inr above ↦ goes (n - 8) (omega (arith, most)) refl (omega (arith, above)) (grind (arith, nat_tests))
  ]
]
turn op.Refresh set n least most = elim (cases_lt n 7) [
  | inl below ↦ puts (n - 1) (omega (arith, below)) refl (omega (arith, least)) (grind (arith, nat_tests))
  | inr above ↦ goes (n - 7) (omega (arith, most)) refl (omega (arith, above)) (grind (arith, nat_tests))
]
turn op.Stop set n least most = elim (cases_lt n 7) [
  | inl below ↦ stops_lane_keys Zero (n - 1) (omega (arith, below)) refl (grind (arith, nat_tests))
  | inr above ↦ stops_lane_keys One (n - 7) (omega (arith, most)) refl (grind (arith, nat_tests))
]

-- ---- refusals

-- only a KEY_PROG may be refused, by its lane's place
pub put_refused : (ports : PortView) (o : Operation) (set : Bool) (line stream : ℕ) → is_hosted line ≡ true
    → makes_draw o ≡ true → (lane : ℕ) → lane < 6
    → refusal_at ports o set line stream (first_program o + lane) ≡ ports.refusal (lane_place line stream lane) set
put_refused ports o set line stream hosted draws lane lt = grind (arith, nat_tests)

pub go_refused : (ports : PortView) (o : Operation) (set : Bool) (line stream : ℕ) → is_hosted line ≡ true
    → makes_draw o ≡ true → (lane : ℕ) → lane < 6
    → refusal_at ports o set line stream (first_program o + (6 + lane)) ≡ None
go_refused ports o set line stream hosted draws lane lt = grind (arith, nat_tests)

pub query_refused : (ports : PortView) (set : Bool) (line stream : ℕ) → is_hosted line ≡ true
    → refusal_at ports op.Establish set line stream 1 ≡ None
query_refused ports set line stream hosted = grind (arith, nat_tests)

-- The calls of a port that key management moves.
use Rattle.std.specs.Prelude.{ℕ, ◌≡◌, Bool, true, false, not, ◌&&◌, ◌==◌, nat_lt, List, Option, Some, None, Result, Ok}
use Rattle.std.specs.Prelude.{Err, is_ok, if◌then◌else◌}
use Rattle.std.specs.Option.{option_map}
use Rattle.ide_types.specs.{direction_number}
use Rattle.ide_types.specs.declared.direction.Direction.{Direction}
use Rattle.key_slots.specs.{SlotPair, slot_in, is_empty, is_only_live, programmed_pair, armed_pair, stopped_pair}
use Rattle.key_slots.specs.{KeyCall, Program, Go, Stop}
use Rattle.key_messages.specs.declared.place.Place.{Place}
use Rattle.key_messages.specs.declared.port.ProgramFault.{ProgramFault}
use Rattle.key_messages.specs.declared.port.ProgramFault.TheVariants.{NoPlace, OnlyLive}

abbrev pub place_at : ℕ → Direction → ℕ → Place
place_at stream direction sub = record { stream = stream; direction = direction; sub = sub }

-- a call of the two slots of a place
pub record PlaceCall : Type 0 where
  pub place : Place
  pub call : KeyCall

abbrev pub place_call : Place → KeyCall → PlaceCall
place_call place call = record { place = place; call = call }

-- ---- answers

-- the slots by place, if the port has the place
abbrev pub SlotsShown : Type 0
SlotsShown = Place → Option SlotPair

-- there are three sub-streams
abbrev pub shown_pair : SlotsShown → Place → Option SlotPair
shown_pair shown place = if nat_lt place.sub 3 then shown place else None

abbrev pub program_answer_at : Option SlotPair → Bool → List ℕ → Result (Unit {0}) ProgramFault
program_answer_at None set key = Err (NoPlace key)
program_answer_at (Some slots) set key = if is_only_live slots set then Err (OnlyLive key) else Ok tt

abbrev pub shown_program_answer : SlotsShown → Place → Bool → List ℕ → Result (Unit {0}) ProgramFault
shown_program_answer shown place set key = program_answer_at (shown_pair shown place) set key

abbrev pub go_answer_of_slots : Option SlotPair → Bool → Bool
go_answer_of_slots None set = false
go_answer_of_slots (Some slots) set = not (is_empty (slot_in slots set))

abbrev pub go_answer : SlotsShown → Place → Bool → Bool
go_answer shown place set = go_answer_of_slots (shown_pair shown place) set

abbrev pub is_there : Option SlotPair → Bool
is_there None = false
is_there (Some slots) = true

abbrev pub stop_answer : SlotsShown → Place → Bool
stop_answer shown place = is_there (shown_pair shown place)

-- whether the two slots of a place, if the port has it, take the call
abbrev pub is_taken_by_slots : Option SlotPair → KeyCall → Bool
is_taken_by_slots slots (Program set key draw) = is_ok (program_answer_at slots set key)
is_taken_by_slots slots (Go set) = go_answer_of_slots slots set
is_taken_by_slots slots (Stop set) = is_there slots

-- whether a port that shows these slots takes the call
abbrev pub is_taken : SlotsShown → PlaceCall → Bool
is_taken shown c = is_taken_by_slots (shown_pair shown c.place) c.call

-- ---- slots after a call

-- the two slots of the place that is called
abbrev pub slots_by : KeyCall → Bool → SlotPair → SlotPair
slots_by (Program set key draw) unfinished slots = programmed_pair slots set (record { key = key; draw = draw })
slots_by (Go set) unfinished slots = armed_pair slots set unfinished
slots_by (Stop set) unfinished slots = stopped_pair slots set

abbrev pub is_same_place : Place → Place → Bool
is_same_place p q =
    ((p.stream == q.stream) && (direction_number p.direction == direction_number q.direction)) && (p.sub == q.sub)

abbrev pub slots_after_call : SlotsShown → (Place → Bool) → PlaceCall → Place → Option SlotPair
slots_after_call shown unfinished c p =
    if is_same_place p c.place && nat_lt p.sub 3 then option_map (slots_by c.call (unfinished p)) (shown p)
    else shown p

-- the slots move at the place that is called, and nowhere else
abbrev pub SlotsAfter : SlotsShown → (Place → Bool) → PlaceCall → SlotsShown → Type 0
SlotsAfter before unfinished c after = (p : Place) → after p ≡ slots_after_call before unfinished c p

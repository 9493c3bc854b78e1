-- What the responder does with a request (this profile).
use Rattle.std.specs.Prelude.{ℕ, ◌≡◌, ◌/◌, ◌%◌, Bool, false, ◌&&◌, ◌==◌, nat_lt, List, [], length, slice_index, Option}
use Rattle.std.specs.Prelude.{Some, None, Result, Ok, Err, if◌then◌else◌}
use Rattle.ide_types.specs.{upstream_if}
use Rattle.ide_types.specs.declared.direction.Direction.{Direction}
use Rattle.key_slots.specs.declared.slot.Slot.TheVariants.{Programmed}
use Rattle.key_slots.specs.{SlotPair, slot_in, Program, Go, Stop}
use Rattle.key_messages.specs.declared.object.KmView.{KmView}
use Rattle.key_messages.specs.declared.object.KmView.TheVariants.{Query, QueryResp, KeyProg, KpAck, SetGo, SetStop}
use Rattle.key_messages.specs.declared.object.KmView.TheVariants.{GoStopAck}
use Rattle.key_messages.specs.declared.object.KmFault.{KmFault}
use Rattle.key_messages.specs.declared.status.KeyStatus.{KeyStatus}
use Rattle.key_messages.specs.declared.status.KeyStatus.TheVariants as status
use Rattle.key_messages.specs.Objects.{object_spelling, object_reading}
use Rattle.key_messages.specs.declared.place.Place.{Place}
use Rattle.key_messages.specs.Calls.{place_at, PlaceCall, place_call, SlotsShown, is_taken, SlotsAfter}

-- ---- the selector: the key set in bit 0, the direction at the device in bit 1, the sub-stream in bits 7 to 4

abbrev pub set_of : ℕ → Bool
set_of selector = selector % 2 == 1

abbrev pub direction_of : ℕ → Direction
direction_of selector = upstream_if (selector / 2 % 2 == 1)

abbrev pub sub_of : ℕ → ℕ
sub_of selector = selector / 16

abbrev pub selected_place : ℕ → ℕ → Place
selected_place stream selector = place_at stream (direction_of selector) (sub_of selector)

-- ---- the call of the port that a request makes

-- the port's index is 0, and of a KEY_PROG the initial counter of units is 1
abbrev pub object_call : ℕ → KmView → Option PlaceCall
object_call draw (KeyProg stream selector port key counter) =
    if (port == 0) && (counter == 1) then
    Some (place_call (selected_place stream selector) (Program (set_of selector) key draw))
    else None
object_call draw (SetGo stream selector port) =
    if port == 0 then Some (place_call (selected_place stream selector) (Go (set_of selector))) else None
object_call draw (SetStop stream selector port) =
    if port == 0 then Some (place_call (selected_place stream selector) (Stop (set_of selector))) else None
object_call draw object = None

abbrev pub reading_call : ℕ → Result KmView KmFault → Option PlaceCall
reading_call draw (Ok object) = object_call draw object
reading_call draw (Err fault) = None

abbrev pub call_of : List ℕ → ℕ → Option PlaceCall
call_of request draw = reading_call draw (object_reading request)

-- ---- what the port keeps after it

-- by the port's own relation; with no call the port is as before
abbrev pub HasMoved : {Port : Type 0} → (Port → PlaceCall → Port → Type 0) → Port → Option PlaceCall → Port → Type 0
HasMoved moves before None after = after ≡ before
HasMoved moves before (Some call) after = moves before call after

abbrev pub HasKept : SlotsShown → (Place → Bool) → Option PlaceCall → SlotsShown → Type 0
HasKept before unfinished None after = (p : Place) → after p ≡ before p
HasKept before unfinished (Some call) after = SlotsAfter before unfinished call after

-- ---- the reply

-- whether there is a call, and a port that shows these slots takes it
abbrev pub is_done : SlotsShown → Option PlaceCall → Bool
is_done shown None = false
is_done shown (Some c) = is_taken shown c

-- 0 success, 1 another length than 48, 2 another port index than 0, 3 refused
abbrev pub status_code : KeyStatus → ℕ
status_code status.Success = 0
status_code status.Length = 1
status_code status.Port = 2
status_code status.Refused = 3

abbrev pub key_status_of : ℕ → Bool → KeyStatus
key_status_of index done = if index == 0 then (if done then status.Success else status.Refused) else status.Port

-- the first interface's requester ID, whose high byte is the bus; segment and highest port index are 0
abbrev pub description : ℕ → KmView
description rid = QueryResp 0 (rid % 256) (rid / 256) 0 0

-- to an object whose call is done or not
abbrev pub object_reply : ℕ → KmView → Bool → Option KmView
object_reply rid (Query port) done = if port == 0 then Some (description rid) else None
object_reply rid (KeyProg stream selector port key counter) done =
    Some (KpAck stream (status_code (key_status_of port done)) selector port)
object_reply rid (SetGo stream selector port) done = if done then Some (GoStopAck stream selector port) else None
object_reply rid (SetStop stream selector port) done = if done then Some (GoStopAck stream selector port) else None
object_reply rid object done = None

-- the reply to a KEY_PROG of another length, with 0 for the fields that are missing; else none
abbrev pub fault_reply : List ℕ → Option KmView
fault_reply request =
    if (nat_lt 1 (length request) && (slice_index request 0 == 0x00)) && (slice_index request 1 == 0x02) then
    Some (KpAck (slice_index request 4) (status_code status.Length) (slice_index request 6) (slice_index request 7))
    else None

abbrev pub reading_reply : ℕ → List ℕ → Result KmView KmFault → Bool → Option KmView
reading_reply rid request (Ok object) done = object_reply rid object done
reading_reply rid request (Err fault) done = fault_reply request

abbrev pub reply_object : ℕ → List ℕ → Bool → Option KmView
reply_object rid request done = reading_reply rid request (object_reading request) done

abbrev pub object_bytes : Option KmView → List ℕ
object_bytes None = []
object_bytes (Some object) = object_spelling object

-- no bytes if there is no reply
abbrev pub reply_bytes : ℕ → List ℕ → Bool → List ℕ
reply_bytes rid request done = object_bytes (reply_object rid request done)

-- ---- what an acknowledgement says

abbrev pub HoldsKey : Option SlotPair → Bool → List ℕ → ℕ → Type 0
HoldsKey None set key draw = ⊥
HoldsKey (Some slots) set key draw = slot_in slots set ≡ Programmed (record { key = key; draw = draw })

-- the request was a KEY_PROG, whose key stands in its slot under the draw
pub record IsAcknowledged (request : List ℕ) (stream selector draw : ℕ) (after : SlotsShown) : Type 0 where
  pub key : List ℕ
  pub asked : object_reading request ≡ Ok (KeyProg stream selector 0 key 1)
  pub holds : HoldsKey (after (selected_place stream selector)) (set_of selector) key draw

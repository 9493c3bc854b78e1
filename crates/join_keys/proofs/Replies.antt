-- What the device's responder makes of each request of the manager, and what the manager makes of its reply.
use Rattle.join_keys.specs.Calls.{lane_sends}
use Rattle.join_keys.proofs.Terms.{◌≡◌, Bool, arith, true, ℕ, List, if◌then◌else◌, false, nat_tests, ◌≤◌, ◌∙◌, Device}
use Rattle.join_keys.proofs.Terms.{is_only_live, StreamState, [], refl, ap, ◌<◌, Some, ◌∷◌, stream_after_call, Option}
use Rattle.join_keys.proofs.Terms.{◌%◌, None, Ok, Err, sub_from, IsKey, KeySet, is_one, is_empty, SlotPair, same-true}
use Rattle.join_keys.proofs.Terms.{sends_in, pair_at, came_to, shown_stream, port_called, judged_bytes, selector_of}
use Rattle.join_keys.proofs.Terms.{Judged, Expected, exchange_judged, refusal_if}
use Rattle.std.specs.Prelude.{Result, is_ok, not}
use Rattle.key_slots.specs.{slot_in, KeyCall, Program, Go, Stop}
use Rattle.key_messages.specs.declared.object.KmView.{KmView}
use Rattle.key_messages.specs.declared.object.KmView.TheVariants.{Query, KeyProg, KpAck, SetGo, SetStop, GoStopAck}
use Rattle.key_messages.specs.declared.port.ProgramFault.TheVariants.{OnlyLive}
use Rattle.key_messages.specs.declared.port.ProgramFault.{ProgramFault}
use Rattle.key_messages.specs.{PlaceCall, place_call, shown_pair, is_done, object_spelling, FitsObject, set_of}
use Rattle.key_messages.specs.{direction_of, sub_of, selected_place, object_call, object_reply, object_bytes}
use Rattle.key_messages.specs.{object_reading, description}
use Rattle.key_messages.proofs.Objects.{spells_read, written_spells}
use Rattle.key_host.specs.Judging.{judged_reply}

-- ---- a request is read as it was written

-- if a request makes this call, which is taken or not, and its reply is judged so
comes_as : (requester draw id : ℕ) (request : KmView) (x : StreamState) → FitsObject request → (call : Option PlaceCall)
    → object_call draw request ≡ call → (done : Bool) → is_done (shown_stream id x) call ≡ done → (judged : Judged)
    → judged_bytes request (object_bytes (object_reply requester request done)) ≡ judged → (device : StreamState)
    → port_called call x ≡ device → came_to requester request id draw x ≡ record { judged = judged; device = device }
comes_as requester draw id request x fits call call_is done done_is judged judged_is device device_is =
    rw (
      spells_read request (object_spelling request) (written_spells request fits),
      call_is,
      done_is,
      judged_is,
      device_is,
    )

-- a reply is judged as it was written
as_read : (request : KmView) (bytes : List ℕ) → judged_bytes request bytes ≡ judged_reply request (object_reading bytes)
as_read request [] = refl
as_read request (b ∷ bytes) = refl

replied : (request reply : KmView) → FitsObject reply → judged_bytes request (object_spelling reply)
    ≡ judged_reply request (Ok reply)
replied request reply fits = as_read request (object_spelling reply) ∙ ap (judged_reply request)
    (spells_read reply (object_spelling reply) (written_spells reply fits))

pub query_comes : (requester draw id : ℕ) (x : StreamState) → requester ≤ 65535 → came_to requester (Query 0) id draw x
    ≡ record { judged = Expected; device = x }
query_comes requester draw id x most = comes_as requester draw id (Query 0) x (omega arith) None refl false refl _
    (replied (Query 0) (description requester) (omega arith)) _ refl

-- ---- a request by its lane

-- the two slots of a lane, as key management sees them
abbrev pub lane_pair : ℕ → StreamState → SlotPair
lane_pair lane x = pair_at (lane_sends lane) (sub_from (lane % 3)) x

abbrev pub lane_called : ℕ → KeyCall → StreamState → StreamState
lane_called lane call x = stream_after_call (lane_sends lane) (sub_from (lane % 3)) call x

-- what the selector of a lane says
record Selects (id : ℕ) (set : KeySet) (lane : ℕ) (x : StreamState) : Type 0 where
  low : selector_of set lane < 256
  set_is : set_of (selector_of set lane) ≡ is_one set
  sends_is : sends_in Device (direction_of (selector_of set lane)) ≡ lane_sends lane
  sub_is : sub_of (selector_of set lane) ≡ lane % 3
  shown_is : shown_pair (shown_stream id x) (selected_place id (selector_of set lane)) ≡ Some (lane_pair lane x)

selects : (id : ℕ) (set : KeySet) (lane : ℕ) (x : StreamState) → lane < 6 → Selects id set lane x
selects id set lane x lt = grind (arith, nat_tests)

-- a KEY_PROG that is refused or not
taken_unless : (b : Bool) (key : List ℕ)
    → is_ok (let r : Result (Unit {0}) ProgramFault = if b then Err (OnlyLive key) else Ok tt in r) ≡ not b
taken_unless true key = refl
taken_unless false key = refl

answers : (requester id sel : ℕ) (key : List ℕ) → id ≤ 255 → sel < 256 → (b : Bool)
    → let request = KeyProg id sel 0 key 1 in
    judged_bytes request (object_bytes (object_reply requester request (not b))) ≡ exchange_judged None (refusal_if b)
answers requester id sel key small low true = rw
    (replied (KeyProg id sel 0 key 1) (KpAck id 3 sel 0) (omega arith), same-true id, same-true sel)
answers requester id sel key small low false = rw
    (replied (KeyProg id sel 0 key 1) (KpAck id 0 sel 0) (omega arith), same-true id, same-true sel)

pub program_comes : (requester draw id : ℕ) (set : KeySet) (lane : ℕ) (key : List ℕ) (x : StreamState) → id ≤ 255
    → lane < 6 → IsKey key → came_to requester (KeyProg id (selector_of set lane) 0 key 1) id draw x
    ≡ record {
      judged = exchange_judged None (refusal_if (is_only_live (lane_pair lane x) (is_one set)));
      device = lane_called lane (Program (is_one set) key draw) x;
    }
program_comes requester draw id set lane key x small lt is_key =
    let s = selects id set lane x lt in
    let sel = selector_of set lane in
    let denied = is_only_live (lane_pair lane x) (is_one set) in
    comes_as requester draw id (KeyProg id sel 0 key 1) x
    (omega arith, s.low, omega arith, is_key.0, is_key.1, omega arith)
    (Some (place_call (selected_place id sel) (Program (set_of sel) key draw))) refl
    (not denied) (rw (s.shown_is, s.set_is) (taken_unless denied key))
    _ (answers requester id sel key small s.low denied) _
    (rw (s.sends_is, s.sub_is, s.set_is))

pub go_comes : (requester draw id : ℕ) (set : KeySet) (lane : ℕ) (x : StreamState) → id ≤ 255 → lane < 6
    → is_empty (slot_in (lane_pair lane x) (is_one set)) ≡ false
    → came_to requester (SetGo id (selector_of set lane) 0) id draw x
    ≡ record { judged = Expected; device = lane_called lane (Go (is_one set)) x }
go_comes requester draw id set lane x small lt full =
    let s = selects id set lane x lt in
    let sel = selector_of set lane in
    comes_as requester draw id (SetGo id sel 0) x (omega arith)
    (Some (place_call (selected_place id sel) (Go (set_of sel)))) refl
    true (rw (s.shown_is, s.set_is, full))
    _ (rw (replied (SetGo id sel 0) (GoStopAck id sel 0) (omega arith), same-true id, same-true sel)) _
    (rw (s.sends_is, s.sub_is, s.set_is))

pub stop_comes_there : (requester draw id : ℕ) (set : KeySet) (lane : ℕ) (x : StreamState) → id ≤ 255 → lane < 6
    → came_to requester (SetStop id (selector_of set lane) 0) id draw x
    ≡ record { judged = Expected; device = lane_called lane (Stop (is_one set)) x }
stop_comes_there requester draw id set lane x small lt =
    let s = selects id set lane x lt in
    let sel = selector_of set lane in
    comes_as requester draw id (SetStop id sel 0) x (omega arith)
    (Some (place_call (selected_place id sel) (Stop (set_of sel)))) refl
    true (rw s.shown_is)
    _ (rw (replied (SetStop id sel 0) (GoStopAck id sel 0) (omega arith), same-true id, same-true sel)) _
    (rw (s.sends_is, s.sub_is, s.set_is))

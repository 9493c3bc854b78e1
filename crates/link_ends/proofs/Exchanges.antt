-- One exchange: the request reaches the device or is lost, and the manager takes what is carried back.
use Rattle.link_ends.proofs.Terms.{◌≡◌, ℕ, ◌==◌, ◌<◌, Bool, true, false, List, refl, ◌∙◌, Option, Some, None, nat_lt}
use Rattle.link_ends.proofs.Terms.{slice_range, Side, Place, PlaceCall, SlotsShown, call_of, reading_call, is_done}
use Rattle.link_ends.proofs.Terms.{object_spelling, sub_of, Operation, same-true, exchange_of, selector_of, request_of}
use Rattle.link_ends.proofs.Terms.{WireKeys, StreamView, request_asked, IsAsked, NextExchange, StreamState}
use Rattle.link_ends.proofs.Terms.{shown_stream, port_called, PortEnd, Found, found_stream, slot_pair_at, called_port}
use Rattle.link_ends.proofs.Terms.{after_call, HasStream, ap, subst}
use Rattle.std.specs.Int.{w64, from_le_bytes}
use Rattle.key_slots.specs.{KeySet}
use Rattle.key_host.specs.Streams.{wire_asked}
use Rattle.ide_types.specs.declared.key_set.KeySet.TheVariants.{Zero, One}
use Rattle.ide_types.specs.declared.port.Side.TheVariants.{Device}
use Rattle.key_messages.specs.declared.object.KmFault.{KmFault}
use Rattle.key_messages.specs.declared.object.KmView.TheVariants.{KeyProg}
use Rattle.key_messages.specs.Objects as objects
use Rattle.key_messages.specs.{selected_place}
use Rattle.key_host.specs.declared.exchange.Exchange.TheVariants as exchange
use Rattle.join_keys.proofs.Lanes.{by_lane, Turn, asks, puts, goes, stops_lane_keys, turn}
use Rattle.link_ends.proofs.Ports.{IsAt, state_moved, called_there, found_there}

-- ---- the place of a lane

there : (set : KeySet) (lane : ℕ) → lane < 6 → nat_lt (sub_of (selector_of set lane)) 3 ≡ true
there One = by_lane (λ lane. nat_lt (sub_of (selector_of One lane)) 3 ≡ true) refl refl refl refl refl refl
there Zero = by_lane (λ lane. nat_lt (sub_of (selector_of Zero lane)) 3 ≡ true) refl refl refl refl refl refl

pub lane_at : (id : ℕ) (set : KeySet) (lane : ℕ) → lane < 6 → IsAt id (selected_place id (selector_of set lane))
lane_at id set lane lt = record { stream_is = refl; is_there = there set lane lt }

-- ---- the call of a request is at the stream, where ports that show the same of it take the same calls

abbrev pub SameShown : ℕ → SlotsShown → SlotsShown → Type 0
SameShown id a b = (place : Place) → IsAt id place → a place ≡ b place

abbrev pub CallAt : ℕ → Option PlaceCall → Type 0
CallAt id None = Unit {0}
CallAt id (Some c) = IsAt id c.place

pub same_done : (id : ℕ) (a b : SlotsShown) (o : Option PlaceCall) → SameShown id a b → CallAt id o → is_done a o
    ≡ is_done b o
same_done id a b None same at = refl
same_done id a b (Some c) same at = rw (same c.place at) refl

program_at_all : (id sel draw : ℕ) (key : List ℕ) (counter : ℕ) → IsAt id (selected_place id sel) → (b : Bool)
    → (counter == 1) ≡ b → CallAt id (reading_call draw (objects.object_or_fault (KeyProg id sel 0 key counter) None))
program_at_all id sel draw key counter at true e = rw e at
program_at_all id sel draw key counter at false e = rw e tt

pub program_at : (id sel draw : ℕ) (key : List ℕ) (counter : ℕ) → IsAt id (selected_place id sel)
    → (fault : Option KmFault) → CallAt id
    (reading_call draw (objects.object_or_fault (KeyProg id sel 0 key counter) fault))
program_at id sel draw key counter at None = program_at_all id sel draw key counter at (counter == 1) refl
program_at id sel draw key counter at (Some fault) = tt

turn_at : (id draw : ℕ) (keys : WireKeys) (i : ℕ) (o : Operation) (set : KeySet) (n : ℕ) → Turn o set n
    → CallAt id (call_of (object_spelling (request_of id keys i (exchange_of true o set n))) draw)
turn_at id draw keys i o set n (asks is first e) = rw e tt
turn_at id draw keys i o set n (puts lane lt makes is e) =
    let request : List ℕ = object_spelling (request_of id keys i (exchange.Program set lane)) in
    rw e (program_at id (selector_of set lane) draw (slice_range request 8 40)
    (from_le_bytes w64 (slice_range request 40 48)) (lane_at id set lane lt) (objects.fault_of request))
turn_at id draw keys i o set n (goes lane lt makes is e) = rw e (lane_at id set lane lt)
turn_at id draw keys i o set n (stops_lane_keys k lane lt is e) = rw e (lane_at id k lane lt)

-- ---- the device's port shows the stream

shown_there : (e : PortEnd) (id : ℕ) (f : Found) → e.name.side ≡ Device → found_stream e.plans e.states id ≡ Some f
    → SameShown id (λ place. slot_pair_at e place) (shown_stream id f.state)
shown_there e id f side is place at = rw (at.is_there, at.stream_is, side, is, same-true id) refl

pub record DeviceGoes (e : PortEnd) (id : ℕ) (x : StreamState) (request : List ℕ) (draw : ℕ) (e' : PortEnd) : Type 0
  where
    pub done : is_done (λ place. slot_pair_at e' place) (call_of request draw)
        ≡ is_done (shown_stream id x) (call_of request draw)
    pub port : HasStream e id (port_called (call_of request draw) x) (after_call e' (call_of request draw))

moved_there : (e e' : PortEnd) (id : ℕ) (f : Found) (x : StreamState) (call : Option PlaceCall) → e.name.side ≡ Device
    → found_stream e.plans e.states id ≡ Some f → HasStream e id x e' → CallAt id call
    → HasStream e id (port_called call x) (after_call e' call)
moved_there e e' id f x None side is has at = has
moved_there e e' id f x (Some call) side is has at =
    subst (λ (s : Side). HasStream e id (state_moved call s x) (called_port call e')) side
    (called_there e e' id f x call is has at)

pub device_goes : (e e' : PortEnd) (id : ℕ) (f : Found) (x : StreamState) (a : NextExchange) (keeper : StreamView)
    → e.name.side ≡ Device → found_stream e.plans e.states id ≡ Some f → HasStream e id x e' → keeper.id ≡ id
    → IsAsked true (Some a) → DeviceGoes e id x (object_spelling (request_asked true a keeper)) a.draw e'
device_goes e e' id f x a keeper side is has named asked =
    let side' : e'.name.side ≡ Device = ap (λ (p : PortEnd). p.name.side) has ∙ side in
    let shows : SameShown id (λ place. slot_pair_at e' place) (shown_stream id x) = shown_there e' id _ side'
    (found_there e e' id f x is has) in
    let at : CallAt id (call_of (object_spelling (request_asked true a keeper)) a.draw) =
    rw named (turn_at id a.draw keeper.keys (wire_asked true a) a.operation a.set a.exchange
    (turn a.operation a.set a.exchange asked.0 asked.1)) in
    record { done = same_done id _ _ _ shows at; port = moved_there e e' id f x _ side is has at }

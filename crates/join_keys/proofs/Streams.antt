-- Calls at a port, one after another: what they leave in each place, and that the stream is settled as it is by one
-- settling at the end.
use Rattle.join_keys.proofs.CallTerms.{◌≡◌, Bool, arith, true, List, ◌++◌, false, ◌∙◌, sym, [], refl, ap, ◌∷◌, SubKind}
use Rattle.join_keys.proofs.CallTerms.{KeyCall, stream_after_call, StreamCall, all_called, LaneSlots, StreamState}
use Rattle.join_keys.proofs.CallTerms.{WaitsBesideLive, if◌then◌else◌, ◌&&◌, not, Pr, Npr, Cpl, any_live}
use Rattle.ide_types.specs.Sub.{is_same_sub}
use Rattle.spec_keys.proofs.Tests.{both-true}
use Rattle.join_keys.proofs.Settling.{outs, ins, with_slots, settle, settled_again, stays_settled, any_each}
use Rattle.join_keys.proofs.Slots.{slots_by, is_stop, is_no_stop, slots_keep, slots_stop, stops_wait}

-- ---- a place

abbrev is_same_end : Bool → Bool → Bool
is_same_end true b = b
is_same_end false b = not b

abbrev pub is_at : Bool → SubKind → StreamCall → Bool
is_at sends u c = is_same_end sends c.sends && is_same_sub u c.sub

abbrev pub place_called : Bool → SubKind → StreamCall → LaneSlots → LaneSlots
place_called sends u c s = if is_at sends u c then slots_by sends c.call s else s

abbrev pub places_called : Bool → SubKind → List StreamCall → LaneSlots → LaneSlots
places_called sends u [] s = s
places_called sends u (c ∷ cs) s = places_called sends u cs (place_called sends u c s)

-- the calls of a place alone
abbrev pub one_if : Bool → KeyCall → List KeyCall
one_if true call = call ∷ []
one_if false call = []

abbrev pub calls_at : Bool → SubKind → List StreamCall → List KeyCall
calls_at sends u [] = []
calls_at sends u (c ∷ cs) = one_if (is_at sends u c) c.call ++ calls_at sends u cs

abbrev pub called_by : Bool → List KeyCall → LaneSlots → LaneSlots
called_by sends [] s = s
called_by sends (call ∷ calls) s = called_by sends calls (slots_by sends call s)

pub places_are : (sends : Bool) (u : SubKind) (cs : List StreamCall) (s : LaneSlots) → places_called sends u cs s
    ≡ called_by sends (calls_at sends u cs) s
places_are sends u [] s = refl
places_are sends u (c ∷ cs) s = grind (arith, places_are sends u cs)

pub calls_append : (sends : Bool) (u : SubKind) (xs ys : List StreamCall) → calls_at sends u (xs ++ ys)
    ≡ calls_at sends u xs ++ calls_at sends u ys
calls_append sends u [] ys = refl
calls_append sends u (c ∷ xs) ys = grind (arith, calls_append sends u xs ys)

-- ---- one call

called_is : (sends : Bool) (u : SubKind) (call : KeyCall) (x : StreamState)
    → let c : StreamCall = record { sends = sends; sub = u; call = call } in
    stream_after_call sends u call x ≡ settle
    (with_slots (λ v. place_called true v c (outs x v)) (λ v. place_called false v c (ins x v)) x)
called_is sends u call x = grind arith

-- what holds of both holds of the one that a test chooses
chosen : (P : LaneSlots → Type 0) (t : Bool) (a b : LaneSlots) → P a → P b → P (if t then a else b)
chosen P true a b first second = first
chosen P false a b first second = second

keeps_at : (sends : Bool) (u : SubKind) (c : StreamCall) (s : LaneSlots) → is_no_stop c.call ≡ true → any_live s ≡ true
    → any_live (place_called sends u c s) ≡ true
keeps_at sends u c s kept some = chosen (λ a. any_live a ≡ true) (is_at sends u c) _ _
    (slots_keep sends c.call s kept some) some

stops_lane_at : (sends : Bool) (u : SubKind) (c : StreamCall) (s : LaneSlots) → is_stop c.call ≡ true
    → (sends ≡ true → WaitsBesideLive s) → any_live (place_called sends u c s) ≡ true → any_live s ≡ true
stops_lane_at sends u c s is waits = chosen (λ a. any_live a ≡ true → any_live s ≡ true) (is_at sends u c) _ _
    (slots_stop sends c.call s is waits) (λ some. some)

still_waits : (u : SubKind) (c : StreamCall) (s : LaneSlots) → is_stop c.call ≡ true → WaitsBesideLive s
    → WaitsBesideLive (place_called true u c s)
still_waits u c s is waits = chosen WaitsBesideLive (is_at true u c) _ _ (stops_wait c.call s is) waits

-- ---- calls in order

abbrev pub all_by : (KeyCall → Bool) → List StreamCall → Bool
all_by test [] = true
all_by test (c ∷ cs) = test c.call && all_by test cs

pub all_append : (test : KeyCall → Bool) (xs ys : List StreamCall) → all_by test xs ≡ true → all_by test ys ≡ true
    → all_by test (xs ++ ys) ≡ true
all_append test [] ys first second = second
all_append test (c ∷ xs) ys first second = let each = both-true (test c.call) (all_by test xs) first in rw (each.0)
    (all_append test xs ys each.1 second)

-- what all of them leave in the slots, settled once
abbrev pub called_once : List StreamCall → StreamState → StreamState
called_once cs x = settle
    (with_slots (λ u. places_called true u cs (outs x u)) (λ u. places_called false u cs (ins x u)) x)

-- none empties a slot: a settled stream stays settled
pub keyed_once : (cs : List StreamCall) (x : StreamState) → all_by is_no_stop cs ≡ true → settle x ≡ x → all_called cs x
    ≡ called_once cs x
keyed_once [] x all is = sym is
keyed_once (c ∷ cs) x all is =
    let each = both-true (is_no_stop c.call) (all_by is_no_stop cs) all in
    let f = λ (u : SubKind). place_called true u c (outs x u) in
    let g = λ (u : SubKind). place_called false u c (ins x u) in
    let stays : settle (with_slots f g x) ≡ with_slots f g x =
    stays_settled f g x is (any_each (outs x) f (λ u. keeps_at true u c (outs x u) each.0))
    (any_each (ins x) g (λ u. keeps_at false u c (ins x u) each.0)) in
    ap (all_called cs) (called_is c.sends c.sub c.call x ∙ stays) ∙ keyed_once cs (with_slots f g x) each.1 stays

waits_each : (f g : SubKind → LaneSlots) (x : StreamState) → ((u : SubKind) → WaitsBesideLive (f u)) → (u : SubKind)
    → WaitsBesideLive (outs (with_slots f g x) u)
waits_each f g x waits Pr = waits Pr
waits_each f g x waits Npr = waits Npr
waits_each f g x waits Cpl = waits Cpl

-- each empties a slot: the last settling settles all
stopped_from : (cs : List StreamCall) (x : StreamState) → all_by is_stop cs ≡ true
    → ((u : SubKind) → WaitsBesideLive (outs x u)) → all_called cs (settle x) ≡ called_once cs x
stopped_from [] x all waits = refl
stopped_from (c ∷ cs) x all waits =
    let each = both-true (is_stop c.call) (all_by is_stop cs) all in
    let f = λ (u : SubKind). place_called true u c (outs x u) in
    let g = λ (u : SubKind). place_called false u c (ins x u) in
    let out = any_each f (outs x) (λ u. stops_lane_at true u c (outs x u) each.0 (λ same. waits u)) in
    let into = any_each g (ins x) (λ u. stops_lane_at false u c (ins x u) each.0 (λ never. absurd cc)) in
    ap (all_called cs) (called_is c.sends c.sub c.call (settle x) ∙ settled_again f g x _ _ _ _ out into)
    ∙ stopped_from cs (with_slots f g x) each.1 (waits_each f g x (λ u. still_waits u c (outs x u) each.0 (waits u)))

pub stopped_once : (cs : List StreamCall) (x : StreamState) → all_by is_stop cs ≡ true → settle x ≡ x
    → ((u : SubKind) → WaitsBesideLive (outs x u)) → all_called cs x ≡ called_once cs x
stopped_once cs x all is waits = ap (all_called cs) (sym is) ∙ stopped_from cs x all waits

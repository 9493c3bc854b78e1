-- The calls of a place leave its slots as the touches of its event do. The host's port stops both sets where it loses
-- all keys, which is the same.
use Rattle.join_keys.proofs.CallTerms.{◌≡◌, Bool, arith, true, ℕ, ◌++◌, false, ◌≤◌, Some, nat_tests, SubKind, Plan}
use Rattle.join_keys.proofs.CallTerms.{Program, Go, Stop, Work, Reach, makes_draw, new_work, is_number_between}
use Rattle.join_keys.proofs.CallTerms.{touches_if, work_touches, Host, Operation, KeyPlace, place_at_end, taken_touches}
use Rattle.join_keys.proofs.CallTerms.{is_only_live, slot_pair, LaneSlots, SubStream, key_of, slots_touched, host_go}
use Rattle.join_keys.proofs.CallTerms.{if◌then◌else◌, is_hosted, is_local, is_host, lane}
use Rattle.spec_keys.specs.Keys.{Program as ProgramTouch, Go as GoTouch, Stop as StopTouch}
use Rattle.event_verdicts.specs.declared.verdict.Operation.TheVariants as op
use Rattle.join_keys.proofs.Slots.{first_call, second_call}
use Rattle.join_keys.proofs.Streams.{one_if, called_by}
use Rattle.join_keys.proofs.Exchanges.{first_number, second_number}

-- what the calls of a place leave is what the touches of its event do
abbrev pub AreTouched : Plan → Work → Reach → KeyPlace → SubStream → (Bool → Bool) → Bool → Bool → LaneSlots → Type 0
AreTouched plan w r p s refuses first second x =
    called_by p.sends (one_if first (first_call w (key_of plan w.draw s)) ++ one_if second (second_call w)) x
    ≡ slots_touched p.sends plan s (taken_touches refuses (work_touches w (Some r) p)) x

keyed_touches : (plan : Plan) (s : SubStream) (sends : Bool) (refuses : Bool → Bool) (k : Bool) (draw : ℕ)
    (x : LaneSlots)
    → refuses k ≡ is_only_live (slot_pair sends x) k
    → (a b : Bool) → called_by sends (one_if a (Program k (key_of plan draw s) draw) ++ one_if b (Go k)) x
    ≡ slots_touched sends plan s (taken_touches refuses
    (touches_if a (ProgramTouch k draw) ++ touches_if b (GoTouch k draw))) x
keyed_touches plan s sends refuses k draw x same a b = grind arith

stopped_touches : (plan : Plan) (s : SubStream) (sends : Bool) (refuses : Bool → Bool) (x : LaneSlots) (a b : Bool)
    → called_by sends (one_if a (Stop false) ++ one_if b (Stop true)) x
    ≡ slots_touched sends plan s (taken_touches refuses
    (touches_if a (StopTouch false) ++ touches_if b (StopTouch true))) x
stopped_touches plan s sends refuses x a b = grind arith

-- at a place whose keys are given by messages
pub touches_told : (plan : Plan) (o : Operation) (set : Bool) (draw first : ℕ) (begins : Bool) (hosted : Bool)
    (p : KeyPlace) (r : Reach) (s : SubStream) (x : LaneSlots) (refuses : Bool → Bool) → is_hosted p.line ≡ hosted
    → is_local p ≡ false → refuses set ≡ is_only_live (slot_pair p.sends x) set
    → AreTouched plan (new_work o set draw first begins) r p s refuses
    (is_number_between first (first_number hosted (is_host p.side) o (lane p)) r.carried)
    (is_number_between first (second_number hosted (is_host p.side) o (lane p)) r.carried) x
touches_told plan op.Establish set draw first begins hosted p r s x refuses line told same =
    rw (told, ← line) (keyed_touches plan s p.sends refuses set draw x same _ _)
touches_told plan op.Refresh set draw first begins hosted p r s x refuses line told same =
    rw (told, ← line) (keyed_touches plan s p.sends refuses set draw x same _ _)
touches_told plan op.Stop set draw first begins hosted p r s x refuses line told same =
    rw (told, ← line) (stopped_touches plan s p.sends refuses x _ _)

-- at the host's port
pub touches_asked : (plan : Plan) (w : Work) (line stream : ℕ) (sends : Bool) (u : SubKind) (r : Reach) (s : SubStream)
    (x : LaneSlots) (refuses : Bool → Bool)
    → is_hosted line ≡ true → refuses w.set ≡ is_only_live (slot_pair sends x) w.set → 1 ≤ w.first
    → w.first ≤ r.acknowledged → (w.begins ≡ true → w.first ≡ 1)
    → AreTouched plan w r (place_at_end line stream sends Host u) s refuses w.begins
    (if makes_draw w.operation then is_number_between w.first (host_go w.operation) r.acknowledged else w.begins) x
touches_asked plan w line stream sends u r s x refuses hosted same low from one = grind (arith, nat_tests)

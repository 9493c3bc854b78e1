-- What the keys of a history obey.
use Rattle.std.specs.Prelude.{◌≡◌, ◌≢◌, ◌≤◌, ◌<◌, ◌∷◌, ◌==◌, ◌&&◌, ◌||◌, if◌then◌else◌, ℕ, Bool, true, false, not}
use Rattle.std.specs.Prelude.{Option, Some, None, List, [], take}
use Rattle.ide_types.specs.Ports.{keyed_status}
use Rattle.spec_keys.specs.Terms.{Side, Event, StreamStatus, Verdict}
use Rattle.script_events.specs.declared.event.Event.TheVariants as event
use Rattle.event_verdicts.specs.declared.verdict.Operation.TheVariants as op
use Rattle.ide_types.specs.declared.status.StreamStatus.TheVariants as status
use Rattle.event_verdicts.specs.declared.verdict.Verdict.TheVariants as v
use Rattle.spec_keys.specs.Places.{KeyPlan, KeyPlace}
use Rattle.spec_keys.specs.Keys.{Touch, Go, Seal, Accept, Keys, keys, key_in, draw_of_keyed, on_in, sender_draw}
use Rattle.spec_keys.specs.Operations.{Idle, Establishing, Up, Refreshing, work_of}
use Rattle.spec_keys.specs.History.{History, op_of, draws, moments, came, kept_draw, draw_on_at, history_status}
use Rattle.spec_keys.specs.History.{failed_there, go_exchange, has_all, has_key, manager, touches, touches_after}
use Rattle.spec_keys.specs.Due.{key_due}

-- ---- the cause of each verdict

-- A packet is sealed under the Live key of its sender, a unit accepted under a key that is On at its receiver.
abbrev pub UseFits : Bool → List Touch → Touch → Type 0
UseFits sends ts (Seal j m) = sender_draw (keys sends ts) ≡ Some j
UseFits sends ts (Accept j) = (set : Bool) × (on_in (key_in (keys sends ts) set) ≡ Some j)
UseFits sends ts _ = Unit {0}

abbrev pub UsesFit : Bool → List Touch → List Touch → Type 0
UsesFit sends ts [] = Unit {0}
UsesFit sends ts (t ∷ more) = UseFits sends ts t × UsesFit sends (t ∷ ts) more

-- what is supposed of the verdict of a send or an arrival
abbrev pub GivenFits : History → Event → Verdict → Type 0
GivenFits h (event.Establish line stream loss) verdict = Unit {0}
GivenFits h (event.Refresh line stream loss) verdict = Unit {0}
GivenFits h (event.Stop line stream loss) verdict = Unit {0}
GivenFits h (event.Reset link ends) verdict = Unit {0}
GivenFits h _ verdict = (p : KeyPlace) → UsesFit p.sends (moments h p) (came p verdict)

-- Each verdict is the one that is due after the pairs before it.
abbrev pub KeyCauseLaw : KeyPlan → History → Type 0
KeyCauseLaw plan [] = Unit {0}
KeyCauseLaw plan ((e, verdict) ∷ h) = (verdict ≡ key_due plan h e verdict) × GivenFits h e verdict × KeyCauseLaw plan h

-- ---- draws

-- the draws that packets were sealed under at a sender, or units accepted under at a receiver, the newest first
abbrev pub uses : List Touch → List ℕ
uses [] = []
uses (Seal j m ∷ ts) = j ∷ uses ts
uses (Accept j ∷ ts) = j ∷ uses ts
uses (_ ∷ ts) = uses ts

abbrev pub uses_at_place : History → KeyPlace → List ℕ
uses_at_place h p = uses (moments h p)

abbrev pub NoneAbove : ℕ → List ℕ → Type 0
NoneAbove j [] = Unit {0}
NoneAbove j (i ∷ is) = (i ≤ j) × NoneAbove j is

-- no draw is smaller than an earlier one
abbrev pub NeverFalls : List ℕ → Type 0
NeverFalls [] = Unit {0}
NeverFalls (j ∷ []) = Unit {0}
NeverFalls (j ∷ i ∷ js) = (i ≤ j) × NeverFalls (i ∷ js)

pub record KeyPlaceFacts (h : History) : Type 0 where
  -- wherever a draw is On it is in one set, and on one stream
  pub one_set : (p q : KeyPlace) (k l : Bool) (j : ℕ) → draw_on_at h p k ≡ Some j → draw_on_at h q l ≡ Some j → k ≡ l
  pub one_stream : (p q : KeyPlace) (k l : Bool) (j : ℕ) → draw_on_at h p k ≡ Some j → draw_on_at h q l ≡ Some j
      → (p.line ≡ q.line) × (p.stream ≡ q.stream)
  -- a draw that is On is at least each draw that was used there
  pub none_above : (p : KeyPlace) (k : Bool) (j : ℕ) → draw_on_at h p k ≡ Some j → NoneAbove j (uses_at_place h p)
  -- draws of sealed packets and of accepted units never fall
  pub never_fall : (p : KeyPlace) → NeverFalls (uses_at_place h p)

-- ---- the state of a stream

-- what the manager's state of a stream says of its places; a GO counts at a place once it is acknowledged, and at a
-- host's port once the exchange that makes the port go on is
pub record KeysFollowOperations (h : History) : Type 0 where
  pub idle : (p : KeyPlace) → op_of h p.line p.stream ≡ Idle → (set : Bool) → kept_draw h p set ≡ None
  pub establishing : (p : KeyPlace) (j n : ℕ) → op_of h p.line p.stream ≡ Establishing j n
      → (go_exchange op.Establish p < n → draw_on_at h p false ≡ Some j) × ((set : Bool) (i : ℕ)
      → kept_draw h p set ≡ Some i → i ≡ j)
  pub up : (p : KeyPlace) (set : Bool) (j : ℕ) → op_of h p.line p.stream ≡ Up set j
      → (draw_on_at h p set ≡ Some j) × ((other : Bool) (i : ℕ) → draw_on_at h p other ≡ Some i → i ≢ j → i < j)
  pub refreshing : (p : KeyPlace) (set : Bool) (j n : ℕ) → op_of h p.line p.stream ≡ Refreshing set j n
      → go_exchange op.Refresh p < n → draw_on_at h p set ≡ Some j
  -- a draw is kept in one slot of a place at most, and on one stream
  pub one_slot : (p q : KeyPlace) (k l : Bool) (j : ℕ) → kept_draw h p k ≡ Some j → kept_draw h q l ≡ Some j → (k ≡ l)
      × (p.line ≡ q.line) × (p.stream ≡ q.stream)

-- Before each GO that reaches a place its draw is kept there.
abbrev pub GoesKept : Bool → List Touch → List Touch → Type 0
GoesKept sends ts [] = Unit {0}
GoesKept sends ts (Go set j ∷ more) = (draw_of_keyed (key_in (keys sends ts) set) ≡ Some j)
    × GoesKept sends (Go set j ∷ ts) more
GoesKept sends ts (t ∷ more) = GoesKept sends (t ∷ ts) more

abbrev pub SetGoFindsKey : History → Type 0
SetGoFindsKey [] = Unit {0}
SetGoFindsKey ((e, verdict) ∷ h) =
    ((p : KeyPlace) → GoesKept p.sends (moments h p) (touches (manager h).ops (draws h) e verdict p)) × SetGoFindsKey h

-- whether the GO of a draw ever came
abbrev pub went : List Touch → ℕ → Bool
went [] j = false
went (Go set i ∷ ts) j = if i == j then true else went ts j
went (_ ∷ ts) j = went ts j

-- whether a key set has this draw
abbrev pub has_draw : Option ℕ → ℕ → Bool
has_draw None j = false
has_draw (Some i) j = i == j

-- whether the draw is On in a set, and whether it is kept in one
abbrev pub is_on_there : Keys → ℕ → Bool
is_on_there ks j = has_draw (on_in ks.first) j || has_draw (on_in ks.second) j

abbrev pub is_kept_there : Keys → ℕ → Bool
is_kept_there ks j = has_draw (draw_of_keyed ks.first) j || has_draw (draw_of_keyed ks.second) j

-- whether the draw was On at some moment
abbrev pub was_on : Bool → List Touch → ℕ → Bool
was_on sends [] j = false
was_on sends (t ∷ ts) j = is_on_there (keys sends (t ∷ ts)) j || was_on sends ts j

-- whether the draw was On at one moment, and at a later one was kept in neither set
abbrev pub has_gone : Bool → List Touch → ℕ → Bool
has_gone sends [] j = false
has_gone sends (t ∷ ts) j = has_gone sends ts j || (was_on sends ts j && not (is_kept_there (keys sends (t ∷ ts)) j))

-- At each moment, a draw that has gone is kept in neither set.
abbrev pub StaysGone : Bool → List Touch → Type 0
StaysGone sends [] = Unit {0}
StaysGone sends (t ∷ ts) =
    ((j : ℕ) → has_gone sends (t ∷ ts) j ≡ true → is_kept_there (keys sends (t ∷ ts)) j ≡ false) × StaysGone sends ts

-- A key never comes back.
pub record NeverAgain (h : History) : Type 0 where
  -- a draw that was On at a place, and then kept in neither of its sets, is kept in neither at any later moment
  pub gone : (p : KeyPlace) → StaysGone p.sends (moments h p)
  -- once its GO came, a draw is kept at a place only while it is On there
  pub on : (p : KeyPlace) (set : Bool) (j : ℕ) → kept_draw h p set ≡ Some j → went (moments h p) j ≡ true
      → draw_on_at h p set ≡ Some j

-- ---- ends of operations

-- At an established or refreshed verdict the draw of the operation is On in all places of the stream. At an established
-- verdict no other draw is kept there, at a refreshed one only smaller ones are On. At a stopped verdict none is kept.
abbrev pub SettledAt : History → Event → Verdict → Type 0
SettledAt h (event.Establish line stream loss) (v.Established l t j) =
    (j ≡ (work_of op.Establish (op_of h line stream) (draws h)).draw)
    × ((p : KeyPlace) → p.line ≡ line → p.stream ≡ stream
    → (draw_on_at ((event.Establish line stream loss, v.Established l t j) ∷ h) p false ≡ Some j)
    × ((set : Bool) (i : ℕ) → kept_draw ((event.Establish line stream loss, v.Established l t j) ∷ h) p set ≡ Some i
    → i ≡ j))
SettledAt h (event.Refresh line stream loss) (v.Refreshed l t j) =
    (j ≡ (work_of op.Refresh (op_of h line stream) (draws h)).draw)
    × ((p : KeyPlace) → p.line ≡ line → p.stream ≡ stream
    → (draw_on_at ((event.Refresh line stream loss, v.Refreshed l t j) ∷ h) p (work_of op.Refresh (op_of h line stream)
    (draws h)).set ≡ Some j)
    × ((set : Bool) (i : ℕ) → draw_on_at ((event.Refresh line stream loss, v.Refreshed l t j) ∷ h) p set ≡ Some i
    → i ≢ j → i < j))
SettledAt h (event.Stop line stream loss) (v.Stopped l t) =
    (p : KeyPlace) → p.line ≡ line → p.stream ≡ stream → (set : Bool)
    → kept_draw ((event.Stop line stream loss, v.Stopped l t) ∷ h) p set ≡ None
SettledAt h e verdict = Unit {0}

abbrev pub OperationsSettle : History → Type 0
OperationsSettle [] = Unit {0}
OperationsSettle ((e, verdict) ∷ h) = SettledAt h e verdict × OperationsSettle h

-- ---- the moments of one event

-- what an event does to a place, in order
abbrev pub touches_by : History → Event → Verdict → KeyPlace → List Touch
touches_by h e verdict p = touches (manager h).ops (draws h) e verdict p

-- The keys of a place in the midst of an event that touched each place this many times so far.
abbrev pub keys_within : History → Event → Verdict → (KeyPlace → ℕ) → KeyPlace → Keys
keys_within h e verdict so_far p =
    keys p.sends (touches_after (moments h p) (take (so_far p) (touches_by h e verdict p)))

-- and the status of a stream at an end, if the event brings no arrival that fails
abbrev pub status_within : History → Event → Verdict → (KeyPlace → ℕ) → Side → ℕ → ℕ → StreamStatus
status_within h e verdict so_far side line stream =
    keyed_status (failed_there h side line stream) (has_key (keys_within h e verdict so_far) side line stream)
    (has_all (keys_within h e verdict so_far) side line stream)

-- No move of a refresh takes a port out of Secure: not in the midst of the event, whichever places its exchanges
-- reached so far, and not at its end.
abbrev pub StaysSecureAtEvent : History → Event → Verdict → Type 0
StaysSecureAtEvent h (event.Refresh line stream loss) verdict =
    (side : Side) → history_status h side line stream ≡ status.Secure
    → ((so_far : KeyPlace → ℕ)
    → status_within h (event.Refresh line stream loss) verdict so_far side line stream ≡ status.Secure)
    × (history_status ((event.Refresh line stream loss, verdict) ∷ h) side line stream ≡ status.Secure)
StaysSecureAtEvent h e verdict = Unit {0}

abbrev pub StaysSecure : History → Type 0
StaysSecure [] = Unit {0}
StaysSecure ((e, verdict) ∷ h) = StaysSecureAtEvent h e verdict × StaysSecure h

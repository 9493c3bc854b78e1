-- What happened to the keys: a history is a list of events with their verdicts, the newest first.
use Rattle.std.specs.Prelude.{◌+◌, ◌==◌, ◌&&◌, ◌||◌, if◌then◌else◌, ◌∷◌, ◌++◌, ℕ, nat_lt, nat_le, Bool, true, false}
use Rattle.std.specs.Prelude.{not, Option, Some, None, List, [], length, is_some}
use Rattle.ide_types.specs.Ports.{keyed_status}
use Rattle.spec_keys.specs.Terms.{list_any, list_all, Side, Event, Operation, SealedPacket, StreamStatus, Verdict}
use Rattle.script_events.specs.declared.event.Event.TheVariants as event
use Rattle.event_verdicts.specs.declared.verdict.Operation.TheVariants as op
use Rattle.event_verdicts.specs.declared.verdict.Verdict.TheVariants as v
use Rattle.ide_types.specs.Lines.{is_hosted}
use Rattle.spec_keys.specs.Places.{KeyPlace, is_host, is_same_side, is_same_sub, is_on_stream, lane, is_local}
use Rattle.spec_keys.specs.Places.{places_of, is_cleared}
use Rattle.spec_keys.specs.Keys.{Touch, Program, Go, Stop, Clear, Seal, Accept, Keys, keys, key_in, draw_of_keyed}
use Rattle.spec_keys.specs.Keys.{on_in, is_on, DrawSlot, slot_of}
use Rattle.spec_keys.specs.Operations.{StreamStage, Idle, Work, Reach, Begun, work_of, reach_of, manager_after}
use Rattle.spec_keys.specs.Operations.{StreamOperations}

abbrev pub History : Type 0
History = List (Event × Verdict)

-- ---- operations

unfoldable pub manager : History → StreamOperations
manager [] = record { ops = λ a b. Idle; begun = [] }
manager ((e, verdict) ∷ h) = manager_after (manager h) e verdict

-- the manager's state of a stream
abbrev pub op_of : History → ℕ → ℕ → StreamStage
op_of h line stream = (manager h).ops line stream

-- how many establish and refresh operations began
abbrev pub draws : History → ℕ
draws h = length (manager h).begun

abbrev pub begun_of_draw : List Begun → ℕ → Option Begun
begun_of_draw [] j = None
begun_of_draw (b ∷ bs) j = if length bs == j then Some b else begun_of_draw bs j

-- whether an establish of the stream began
abbrev pub begins_keyed : StreamStage → ℕ → Verdict → Bool
begins_keyed q next verdict = (work_of op.Establish q next).begins && is_some (reach_of op.Establish verdict)

-- the draw of the last establish of the stream that began
unfoldable pub base : History → ℕ → ℕ → ℕ
base [] line stream = 0
base ((event.Establish l s loss, verdict) ∷ h) line stream =
    if (l == line) && (s == stream) && begins_keyed (op_of h l s) (draws h) verdict then draws h else base h line stream
base (_ ∷ h) line stream = base h line stream

-- ---- touches

-- Which exchange programs a lane at an end, and which makes its key On. With a host's port at the near end: it is
-- programmed before all exchanges, and gets its GO when the device's third receiver has acknowledged its own. Else both
-- ends get their keys first, the near one first; then the receivers get their GOs, and then the senders.
abbrev pub program_number : (hosted near : Bool) → Operation → ℕ → ℕ
program_number true true o l = 0
program_number true false op.Establish l = 2 + l
program_number true false _ l = 1 + l
program_number false true o l = 1 + l
program_number false false o l = 7 + l

abbrev pub go_number : (hosted near : Bool) → Operation → ℕ → ℕ
go_number true true op.Establish l = 10
go_number true true _ l = 9
go_number true false op.Establish l = 8 + l
go_number true false _ l = 7 + l
go_number false true o l = if nat_lt l 3 then 13 + l else 16 + l
go_number false false o l = if nat_lt l 3 then 16 + l else 19 + l

-- the exchange that takes its key of set 0 away if it is done by messages; that of set 1 is six exchanges later
abbrev pub stop_number : (hosted near : Bool) → ℕ → ℕ
stop_number false false l = 13 + l
stop_number hosted near l = 1 + l

abbrev pub program_exchange : Operation → KeyPlace → ℕ
program_exchange o p = program_number (is_hosted p.line) (is_host p.side) o (lane p)

abbrev pub go_exchange : Operation → KeyPlace → ℕ
go_exchange o p = go_number (is_hosted p.line) (is_host p.side) o (lane p)

abbrev pub stop_exchange : KeyPlace → ℕ
stop_exchange p = stop_number (is_hosted p.line) (is_host p.side) (lane p)

-- from which exchange on, and below which, an event touches the place
abbrev pub from_at : Work → KeyPlace → ℕ
from_at w p = if is_local p && w.begins then 0 else w.first

abbrev pub below_at : Reach → KeyPlace → ℕ
below_at r p = if is_local p then r.acknowledged else r.carried

abbrev pub is_number_between : ℕ → ℕ → ℕ → Bool
is_number_between from n below = nat_le from n && nat_lt n below

abbrev pub touches_if : Bool → Touch → List Touch
touches_if true t = t ∷ []
touches_if false t = []

-- of an establish and of a refresh
abbrev pub keying_touches : Work → Reach → KeyPlace → List Touch
keying_touches w r p =
    touches_if (is_number_between (from_at w p) (program_exchange w.operation p) (below_at r p)) (Program w.set w.draw)
    ++ touches_if (is_number_between (from_at w p) (go_exchange w.operation p) (below_at r p)) (Go w.set w.draw)

-- of a stop: all keys of a host's port go at its beginning, those of any other end set by set
abbrev pub stopping_touches : Work → Reach → KeyPlace → List Touch
stopping_touches w r p =
    if is_local p then touches_if w.begins Clear
    else touches_if (is_number_between w.first (stop_exchange p) r.carried) (Stop false)
    ++ touches_if (is_number_between w.first (stop_exchange p + 6) r.carried) (Stop true)

abbrev pub work_touches : Work → Option Reach → KeyPlace → List Touch
work_touches w None p = []
work_touches w (Some r) p = by_operation w.operation
  where
    by_operation : Operation → List Touch
    by_operation op.Stop = stopping_touches w r p
    by_operation _ = keying_touches w r p

abbrev pub on_it : Bool → List Touch → List Touch
on_it true ts = ts
on_it false ts = []

-- whether a packet was sealed here
abbrev pub is_sender : KeyPlace → SealedPacket → Bool
is_sender p d = p.sends && is_same_side p.side d.port.side && is_on_stream p d.port.line d.stream
    && is_same_sub p.sub d.sub

abbrev pub seal_touches : KeyPlace → List SealedPacket → List Touch
seal_touches p [] = []
seal_touches p (d ∷ ds) = touches_if (is_sender p d) (Seal d.draw d.m) ++ seal_touches p ds

abbrev pub came : KeyPlace → Verdict → List Touch
came p (v.Sealed packets) = seal_touches p packets
came p (v.Accepted port unit effects) = touches_if
    (not p.sends && is_same_side p.side port.side && is_on_stream p port.line
    unit.stream && is_same_sub p.sub unit.sub) (Accept unit.draw)
came p _ = []

abbrev pub operation_touches : StreamStage → ℕ → Operation → ℕ → ℕ → Verdict → KeyPlace → List Touch
operation_touches q next o line stream verdict p = on_it (is_on_stream p line stream)
    (work_touches (work_of o q next) (reach_of o verdict) p)

-- what an event does to a place, in order, if the streams' states and the number of draws are these
abbrev pub touches : (ℕ → ℕ → StreamStage) → ℕ → Event → Verdict → KeyPlace → List Touch
touches ops next (event.Establish line stream loss) verdict p = operation_touches (ops line stream) next op.Establish
    line stream verdict p
touches ops next (event.Refresh line stream loss) verdict p = operation_touches (ops line stream) next op.Refresh line
    stream verdict p
touches ops next (event.Stop line stream loss) verdict p = operation_touches (ops line stream) next op.Stop line
    stream verdict p
touches ops next (event.Reset link ends) (v.Reset l) p = touches_if (is_cleared ends p.side p.line) Clear
touches ops next (event.Reset link ends) _ p = []
touches ops next _ verdict p = came p verdict

-- these touches, in order, after those before
abbrev pub touches_after : List Touch → List Touch → List Touch
touches_after ts [] = ts
touches_after ts (t ∷ more) = touches_after (t ∷ ts) more

-- all that ever touched a place, the newest first
unfoldable pub moments : History → KeyPlace → List Touch
moments [] p = []
moments ((e, verdict) ∷ h) p = touches_after (moments h p) (touches (manager h).ops (draws h) e verdict p)

-- ---- keys

abbrev pub place_keys : History → KeyPlace → Keys
place_keys h p = keys p.sends (moments h p)

-- the draw that is kept in a key set, and the draw that is On there
abbrev pub kept_draw : History → KeyPlace → Bool → Option ℕ
kept_draw h p set = draw_of_keyed (key_in (place_keys h p) set)

abbrev pub draw_on_at : History → KeyPlace → Bool → Option ℕ
draw_on_at h p set = on_in (key_in (place_keys h p) set)

abbrev pub history_slot : History → KeyPlace → Bool → DrawSlot
history_slot h p set = slot_of p.sends (place_keys h p) set

-- ---- the stream at a port

-- whether a place has a Live key
abbrev pub keeps_live : Keys → Bool
keeps_live ks = is_on ks.first || is_on ks.second

abbrev pub has_key : (KeyPlace → Keys) → Side → ℕ → ℕ → Bool
has_key ks side line stream = list_any (λ p. keeps_live (ks p)) (places_of side line stream)

abbrev pub has_all : (KeyPlace → Keys) → Side → ℕ → ℕ → Bool
has_all ks side line stream = list_all (λ p. keeps_live (ks p)) (places_of side line stream)

abbrev pub fails_there : Side → ℕ → ℕ → Verdict → Bool
fails_there side line stream (v.Fail port s sub cause) = is_same_side port.side side && (port.line == line)
    && (s == stream)
fails_there side line stream _ = false

-- whether an arrival failed at the port, and since then the port always had a Live key on the stream
unfoldable pub failed_there : History → Side → ℕ → ℕ → Bool
failed_there [] side line stream = false
failed_there ((e, verdict) ∷ h) side line stream =
    (fails_there side line stream verdict || failed_there h side line stream) && has_key (place_keys ((e, verdict) ∷ h))
    side line stream

abbrev pub history_status : History → Side → ℕ → ℕ → StreamStatus
history_status h side line stream = keyed_status (failed_there h side line stream)
    (has_key (place_keys h) side line stream)
    (has_all (place_keys h) side line stream)

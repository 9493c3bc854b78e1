-- That the calls of an event, one after another, do what its touches do, which the machine of ports makes at once.
use Rattle.std.specs.Prelude.{ℕ, ◌≡◌, ◌≢◌, ◌+◌, ◌-◌, ◌≤◌, Bool, true, false, not, List, [], ◌++◌, if◌then◌else◌}
use Rattle.ide_types.specs.declared.sub.SubKind.{SubKind}
use Rattle.ide_types.specs.declared.sub.SubKind.TheVariants.{Pr}
use Rattle.ide_types.specs.declared.port.Side.{Side}
use Rattle.ide_types.specs.declared.port.Side.TheVariants.{Host, Device}
use Rattle.ide_types.specs.declared.plan.Plan.{Plan}
use Rattle.key_slots.specs.{new_pool}
use Rattle.key_messages.specs.{PlaceCall}
use Rattle.spec_keys.specs.Operations.{StreamStage, Work, Reach, work_of, last_exchange_of, makes_draw}
use Rattle.event_verdicts.specs.declared.verdict.Operation.{Operation}
use Rattle.spec_keys.specs.History.{is_number_between, go_exchange}
use Rattle.spec_keys.specs.Places.{key_place_at}
use Rattle.spec_keys.specs.Keys.{refusal_if}
use Rattle.ide_types.specs.Lines.{is_hosted}
use Rattle.spec_keys.specs.Due.{PortView}
use Rattle.key_host.specs.Local.{goes}
use Rattle.key_host.specs.Streams.{begun_calls}
use Rattle.spec_stream.specs.Stream.{Live, Armed, LaneSlots, StreamState, LiveKey, slot_in_set, at_sub}
use Rattle.spec_stream.specs.Slots.{is_live_slot, rested_stream, slots_at}
use Rattle.machine_operations.specs.{port_at, place_at_end, slots_refuse, touches_at, touched_stream}
use Rattle.join_keys.specs.Calls.{StreamCall, all_called, all_called_at_side, exchanges_called, calls_from, told_call}

-- ---- what is known of a stream at a port

-- two Live keys are of different draws
abbrev pub DrawsApart : LaneSlots → Type 0
DrawsApart s = (x y : LiveKey) → s.first ≡ Live x → s.second ≡ Live y → x.draw ≢ y.draw

-- a key waits only beside a Live one
abbrev pub WaitsBesideLive : LaneSlots → Type 0
WaitsBesideLive s =
    (k : Bool) (draw : ℕ) (key : List ℕ) → slot_in_set s k ≡ Armed draw key → is_live_slot (slot_in_set s (not k))
    ≡ true

-- counts are 0 in a direction without a Live key, and a failure stands only beside one
pub record IsSound (x : StreamState) : Type 0 where
  pub settled : rested_stream x.tx x.rx x.failed ≡ x
  pub apart : (sends : Bool) (u : SubKind) → DrawsApart (slots_at sends u x)
  pub waits : (u : SubKind) → WaitsBesideLive (at_sub x.tx u).slots
  pub none_waits : (u : SubKind) (k : Bool) (draw : ℕ) (key : List ℕ)
      → slot_in_set (at_sub x.rx u).slots k ≢ Armed draw key

-- what an operation reads of the ports is what this stream says
abbrev pub ReadsStream : PortView → Side → ℕ → ℕ → StreamState → Type 0
ReadsStream ports side line stream x =
    (sends : Bool) (u : SubKind) (k : Bool) → ports.refusal (place_at_end line stream sends side u) k
    ≡ refusal_if (slots_refuse (slots_at sends u x) k)

-- ---- the calls of an event

-- the exchange after which the host's port gets its GOs
abbrev pub host_go : Operation → ℕ
host_go o = go_exchange o (key_place_at Host 0 0 false Pr)

-- the host's local calls: those with which the operation begins, and its GOs after the last of the device's receivers
abbrev pub host_calls : Plan → ℕ → Work → Reach → List PlaceCall
host_calls plan stream w r =
    begun_calls true w (new_pool plan.pool) stream
    ++ (if makes_draw w.operation then
    (if is_number_between w.first (host_go w.operation) r.acknowledged then goes stream w.set
    else []) else [])

-- the device's calls are those of the exchanges that were carried
abbrev pub device_calls : Plan → Work → Reach → List StreamCall
device_calls plan w r = exchanges_called plan w w.first (r.carried - w.first)

-- of a line that is keyed by messages at both ends, those of the exchanges that were carried to the end
abbrev pub told_calls : Plan → Side → Work → Reach → List StreamCall
told_calls plan side w r = calls_from (told_call plan false side w) w.first (r.carried - w.first)

-- how far an event of an operation comes
pub record IsReached (hosted : Bool) (w : Work) (r : Reach) : Type 0 where
  pub first : 1 ≤ w.first
  pub begins : w.begins ≡ true → w.first ≡ 1
  pub goes_on : w.first ≤ r.acknowledged
  pub carried : r.acknowledged ≤ r.carried
  pub last : r.carried ≤ last_exchange_of hosted w.operation + 1

-- an operation in a state of the stream
abbrev pub IsWork : Work → Type 0
IsWork w = (o : Operation) × (q : StreamStage) × (next : ℕ) × (w ≡ work_of o q next)

-- ---- the law

-- The calls at a port, one after another, leave the stream as the touches of the event do.
pub record AreTouches (plan : Plan) (ports : PortView) (line stream : ℕ) (w : Work) (r : Reach) (host device :
    StreamState) : Type 0 where
  pub host_touched : all_called_at_side Host (host_calls plan stream w r) host
      ≡ touched_stream plan (port_at Host line) stream
      (λ u. touches_at ports w r (place_at_end line stream true Host u))
      (λ u. touches_at ports w r (place_at_end line stream false Host u)) host
  pub device_touched : all_called (device_calls plan w r) device ≡ touched_stream plan (port_at Device line) stream
      (λ u. touches_at ports w r (place_at_end line stream true Device u))
      (λ u. touches_at ports w r (place_at_end line stream false Device u)) device

abbrev pub CallsAreTouches : Type 0
CallsAreTouches =
    (plan : Plan) (ports : PortView) (line stream : ℕ) (w : Work) (r : Reach) (host device : StreamState)
    → is_hosted line ≡ true → IsWork w → IsReached true w r → IsSound host → IsSound device
    → ReadsStream ports Host line stream host → ReadsStream ports Device line stream device
    → AreTouches plan ports line stream w r host device

-- The same of a line that is keyed by messages at both ends: no call is made but those of the exchanges.
pub record AreEndsTold (plan : Plan) (ports : PortView) (line stream : ℕ) (w : Work) (r : Reach) (near far :
    StreamState) : Type 0 where
  pub near_touched : all_called (told_calls plan Host w r) near ≡ touched_stream plan (port_at Host line) stream
      (λ u. touches_at ports w r (place_at_end line stream true Host u))
      (λ u. touches_at ports w r (place_at_end line stream false Host u)) near
  pub far_touched : all_called (told_calls plan Device w r) far ≡ touched_stream plan (port_at Device line) stream
      (λ u. touches_at ports w r (place_at_end line stream true Device u))
      (λ u. touches_at ports w r (place_at_end line stream false Device u)) far

abbrev pub CallsAreTold : Type 0
CallsAreTold =
    (plan : Plan) (ports : PortView) (line stream : ℕ) (w : Work) (r : Reach) (near far : StreamState)
    → is_hosted line ≡ false → IsWork w → IsReached false w r → IsSound near → IsSound far
    → ReadsStream ports Host line stream near → ReadsStream ports Device line stream far
    → AreEndsTold plan ports line stream w r near far

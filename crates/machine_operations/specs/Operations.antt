-- What an operation owes of the keys that it touches, and that the slots then stand for the history with it.
use Rattle.std.specs.Prelude.{◌≡◌, ℕ, Bool, true, false, not, nat_lt, List, [], ◌∷◌, length, ◌==◌, ◌&&◌, if◌then◌else◌}
use Rattle.ide_types.specs.declared.sub.SubKind.{SubKind}
use Rattle.ide_types.specs.declared.port.Side.{Side}
use Rattle.ide_types.specs.declared.port.PortName.{PortName}
use Rattle.script_events.specs.declared.event.Event.{Event}
use Rattle.event_verdicts.specs.declared.verdict.Verdict.{Verdict}
use Rattle.ide_types.specs.declared.plan.Plan.{Plan}
use Rattle.machine_ports.specs.{SubStream, lane_out, lane_in, open_unit, SealedList, waits, port_keys}
use Rattle.machine_ports.specs.{sub_stream_packets, sealed_packets, posted_count, has_live_out, has_live_in, total_in}
use Rattle.machine_ports.specs.{units_since, due, KeyFacts, is_quiet, operates}
use Rattle.spec_keys.specs.History.{History, base}
use Rattle.spec_keys.specs.Keys.{Touch, Program, Go, Stop, Clear, Keyed, Off, Loaded, On, Keys, no_keys, key_in}
use Rattle.spec_keys.specs.Keys.{with_key}
use Rattle.machine_ports.specs.Machine.{LinkState, new_key, touched_state}
use Rattle.machine_ports.specs.Stands.{StreamsAndPacketsStand, receiving_key, got_in, stream_state_due}
use Rattle.machine_ports.specs.Touches.{touched_stream}

-- ---- what a touch of an operation makes of keys; nothing is sealed or accepted

abbrev pub started_key : Keyed → Keyed
started_key (Loaded j) = On j
started_key a = a

-- at a receiver
abbrev pub key_touched_in : Touch → Keys → Keys
key_touched_in (Program k j) keys = with_key keys k (Loaded j)
key_touched_in (Go k j) keys = with_key keys k (started_key (key_in keys k))
key_touched_in (Stop k) keys = with_key keys k Off
key_touched_in Clear keys = no_keys
key_touched_in _ keys = keys

-- the other set at a sender's GO: it stays if a unit is unfinished under its draw
abbrev pub set_after_go : (ℕ → Bool) → Keyed → Keyed
set_after_go busy (On i) = if busy i then On i else Off
set_after_go busy a = Off

abbrev pub keys_gone : (ℕ → Bool) → Bool → Keyed → Keys → Keys
keys_gone busy k (Loaded j) keys = with_key (with_key keys k (On j)) (not k) (set_after_go busy (key_in keys (not k)))
keys_gone busy k a keys = keys

-- at a sender
abbrev pub key_touched_out : (ℕ → Bool) → Touch → Keys → Keys
key_touched_out busy (Go k j) keys = keys_gone busy k (key_in keys k) keys
key_touched_out busy t keys = key_touched_in t keys

-- ---- touches that are allowed

-- a draw that gets GO is new at the place
abbrev pub AllowsIncoming : Plan → History → PortName → SubStream → Touch → Keys → Type 0
AllowsIncoming plan h port s (Go k i) keys =
    (j : ℕ) → key_in keys k ≡ Loaded j → receiving_key plan h port s j ≡ new_key plan s j
AllowsIncoming plan h port s _ keys = Unit {0}

-- a unit is unfinished under the draw
abbrev pub busy_in : SealedList → SubStream → ℕ → Bool
busy_in xs s j = nat_lt 0 (length (open_unit (sub_stream_packets xs s j)))

-- A KEY_PROG is taken if no other draw waits for the one in the set. A draw that gets GO is new, and greater than the
-- other one. One that waits for one that is taken out has sealed nothing.
abbrev pub AllowsOutgoing : Plan → SealedList → SubStream → Touch → Keys → Type 0
AllowsOutgoing plan xs s (Program k j) keys = (i : ℕ) → key_in keys (not k) ≡ On i → waits (not k) i (key_in keys k)
    ≡ false
AllowsOutgoing plan xs s (Go k l) keys =
    (j : ℕ) → key_in keys k ≡ Loaded j
    → (sub_stream_packets xs s j ≡ []) × ((i : ℕ) → key_in keys (not k) ≡ On i → (waits k j (On i) ≡ true)
    × (waits (not k) i (On j) ≡ false))
AllowsOutgoing plan xs s (Stop k) keys =
    (i : ℕ) → key_in keys (not k) ≡ On i → waits (not k) i (key_in keys k) ≡ true → sub_stream_packets xs s i ≡ []
AllowsOutgoing plan xs s _ keys = Unit {0}

-- each of these touches is allowed of the keys that those before it leave, and the last leaves these
abbrev pub LeadTo : (Touch → Keys → Type 0) → (Touch → Keys → Keys) → List Touch → Keys → Keys → Type 0
LeadTo Allowed one [] before after = after ≡ before
LeadTo Allowed one (t ∷ ts) before after = Allowed t before × LeadTo Allowed one ts (one t before) after

-- ---- an operation

-- What an operation's pair owes of its keys at a port and stream: its touches lead to the keys after it; Base stays
-- while a direction has a Live key; and if a direction without a Live key gets one, nothing from Base on was sealed or
-- got there.
pub record HasOperated (plan : Plan) (h : History) (e : Event) (w : Verdict) (port : PortName) (stream : ℕ) (out into :
    SubKind → List Touch) : Type 0 where
  pub quiet : is_quiet w ≡ true
  pub lead_out : (u : SubKind) → let s = lane_out port stream u in
      let xs = sealed_packets plan h in
      LeadTo (AllowsOutgoing plan xs s) (key_touched_out (busy_in xs s)) (out u) (port_keys h port s)
      (port_keys ((e, w) ∷ h) port s)
  pub lead_into : (u : SubKind) → let s = lane_in port stream u in
      LeadTo (AllowsIncoming plan h port s) key_touched_in (into u) (port_keys h port s) (port_keys ((e, w) ∷ h) port s)
  pub base_out : has_live_out h port stream ≡ true → has_live_out ((e, w) ∷ h) port stream ≡ true
      → base ((e, w) ∷ h) port.line stream ≡ base h port.line stream
  pub base_into : has_live_in h port stream ≡ true → has_live_in ((e, w) ∷ h) port stream ≡ true
      → base ((e, w) ∷ h) port.line stream ≡ base h port.line stream
  pub none_out : has_live_out h port stream ≡ false → has_live_out ((e, w) ∷ h) port stream ≡ true → (u : SubKind)
      → posted_count plan ((e, w) ∷ h) (lane_out port stream u) ≡ 0
  pub no_units_out : has_live_out h port stream ≡ false → has_live_out ((e, w) ∷ h) port stream ≡ true → (u : SubKind)
      → total_in (sealed_packets plan ((e, w) ∷ h)) (lane_out port stream u) (base ((e, w) ∷ h) port.line stream) ≡ 0
  pub none_into : has_live_in h port stream ≡ false → has_live_in ((e, w) ∷ h) port stream ≡ true → (u : SubKind)
      → got_in plan ((e, w) ∷ h) (lane_in port stream u) ≡ []
  pub no_units_into : has_live_in h port stream ≡ false → has_live_in ((e, w) ∷ h) port stream ≡ true → (u : SubKind)
      → units_since ((e, w) ∷ h) (lane_in port stream u) (base ((e, w) ∷ h) port.line stream) ≡ 0

-- The touches of an operation leave what stands for the history with it.
abbrev pub OperationStands : Type 0
OperationStands =
    (plan : Plan) (h : History) (e : Event) (w : Verdict) (port : PortName) (stream : ℕ) (out into : SubKind
    → List Touch) → HasOperated plan h e w port stream out into
    → touched_stream plan port stream out into (stream_state_due plan h port stream)
    ≡ stream_state_due plan ((e, w) ∷ h) port stream

-- ---- an operation on a stream of a line

-- the event is an operation on this stream alone, and its verdict is due
pub record IsOperation (plan : Plan) (h : History) (e : Event) (w : Verdict) (line stream : ℕ) (out into : Side
    → SubKind → List Touch) : Type 0 where
  pub due_is : w ≡ due plan h e
  pub quiet : is_quiet w ≡ true
  pub alone : (l s : ℕ) → ((line == l) && (stream == s)) ≡ false → operates e l s ≡ false
  pub each : (side : Side) → HasOperated plan h e w (record { side = side; line = line }) stream (out side) (into side)

-- The state after an operation stands for the history with its pair.
abbrev pub OperationSteps : Type 0
OperationSteps =
    (plan : Plan) → KeyFacts plan
    → (st : LinkState) (h : History) (e : Event) (w : Verdict) (line stream : ℕ)
    (out into : Side → SubKind → List Touch)
    → StreamsAndPacketsStand plan st h → IsOperation plan h e w line stream out into
    → StreamsAndPacketsStand plan (touched_state plan st line stream out into) ((e, w) ∷ h)

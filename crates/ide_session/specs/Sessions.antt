-- What a session is, and what each call makes of one.
use Rattle.std.specs.Prelude.{ℕ, ◌≡◌, ◌⊎◌, ◌+◌, ◌<◌, ◌≤◌, ◌∷◌, ◌++◌, length, take, [], Bool, true, false, Option, Some}
use Rattle.std.specs.Prelude.{None, Result, Ok, Err, IsSome}
use Rattle.std.specs.Option.{option_map}
use Rattle.hex.specs.Hex.{encode_lower}
use Rattle.ide_prefix.specs.Packet.{Packet, packet_bytes}
use Rattle.event_verdicts.specs.declared.verdict.SealedPacket.{SealedPacket}
use Rattle.history_events.specs.{event_of}
use Rattle.spec_links.specs.History.{packet_by_number, sealed_packets}
use Rattle.script_events.specs.declared.fault.LineFault.{LineFault}
use Rattle.script_events.specs.declared.script.ScriptEvent.{ScriptEvent}
use Rattle.script_events.specs.Parse.{line_meaning}
use Rattle.script_events.specs.Words.{fault_line_of}
use Rattle.ide_types.specs.declared.plan.Plan.{Plan}
use Rattle.file_runs.specs.declared.ends.End.TheVariants as end
use Rattle.file_runs.specs.Gain.{Text}
use Rattle.script_runs.specs.declared.topologies.Loaded.TheVariants.{Sound}
use Rattle.ide_runs.specs.Explaining.{event_reasons}
use Rattle.script_runs.specs.Topologies.{check_due, loaded_topology}
use Rattle.script_runs.specs.Works.{Follows, RunningView, ScriptPast, by_meaning, closing_line, ran_line}
use Rattle.ide_session.specs.declared.answer.Answer.{Answer}
use Rattle.ide_session.specs.declared.answer.Answer.TheVariants.{Done, Topology, Script, Memory, TooLong, Room, Closed}
use Rattle.ide_session.specs.declared.answer.Answer.TheVariants.{Open, Absent}
use Rattle.ide_session.specs.declared.given.Given.{Given}
use Rattle.ide_session.specs.declared.session.Live.{Live}
use Rattle.ide_session.specs.declared.session.NotRun.{NotRun}
use Rattle.ide_session.specs.declared.session.NotRun.TheVariants as not_run
use Rattle.ide_session.specs.declared.session.Session.{Session}

-- a session that goes on: what runs, how many lines came, whether what verdicts come from is kept, the text of the last
-- line, and what its verdict came from, if that was kept
pub record Going : Type 0 where
  pub running : RunningView
  pub lines : ℕ
  pub explains : Bool
  pub text : Text
  pub reasons : Option Text

abbrev pub going_if_live : Bool → Given → Option Live → Option Going
going_if_live explains last None = None
going_if_live explains last (Some live) = Some (record {
  running = live.work;
  lines = live.lines;
  explains = explains;
  text = last.text;
  reasons = last.reasons;
})

abbrev pub going_of : Session → Option Going
going_of s = going_if_live s.explains s.last s.slot

-- of what a handle keeps: a session that goes on, or none
abbrev pub kept_session : Option Session → Option Going
kept_session None = None
kept_session (Some s) = going_of s

-- ---- a line

-- the past and the text that are due were given: this text, and the state follows that past
pub record GaveText (due : Result (ScriptPast × Text) LineFault) (new : RunningView) (text : Text) : Type 0 where
  pub past : ScriptPast
  pub is : due ≡ Ok (past, text)
  pub follows : Follows new past

-- after whatever past the state follows, the meaning of a line gives the text that is due, and the state follows the
-- past with it
abbrev pub MeaningGave : RunningView → Option ScriptEvent → RunningView → Text → Type 0
MeaningGave old asked new text = (past : ScriptPast) → Follows old past → GaveText (by_meaning past (Ok asked)) new text

-- what the verdict of a line came from: the rule that answers its event, and facts of the state before it; nothing of a
-- line that asks for no event
abbrev pub reasons_by_meaning : ScriptPast → Result (Option ScriptEvent) LineFault → Text
reasons_by_meaning past (Err fault) = []
reasons_by_meaning past (Ok None) = []
reasons_by_meaning past (Ok (Some e)) = event_reasons past (event_of past.plan e)

abbrev pub kept_if : Bool → Text → Option Text
kept_if true text = Some text
kept_if false text = None

-- it is kept, if the session keeps it
abbrev pub MeaningTold : RunningView → Bool → Option ScriptEvent → Option Text → Type 0
MeaningTold old explains asked reasons = (past : ScriptPast) → Follows old past
    → reasons ≡ kept_if explains (reasons_by_meaning past (Ok asked))

-- The line was taken: after whatever past the session follows, its text is the one that is due, it is kept, and the
-- session follows the past with it. If the session keeps what verdicts come from, that of this line is kept too.
pub record TookLine (old : Going) (line : Text) (new : Going) : Type 0 where
  pub lines_are : new.lines ≡ old.lines + 1
  pub explains_is : new.explains ≡ old.explains
  pub gave : (past : ScriptPast) → Follows old.running past
      → GaveText (ran_line past (old.lines + 1) line) new.running new.text
  pub told : (past : ScriptPast) → Follows old.running past
      → new.reasons ≡ kept_if old.explains (reasons_by_meaning past (line_meaning line))

abbrev pub KeptGave : Option Going → Text → Option Going → Type 0
KeptGave (Some old) line (Some new) = TookLine old line new
KeptGave _ line _ = ⊥

-- what a session makes of the meaning of a line
pub record HasMade (old : Going) (asked : Option ScriptEvent) (new : Going) : Type 0 where
  pub lines_are : new.lines ≡ old.lines + 1
  pub explains_is : new.explains ≡ old.explains
  pub gave : MeaningGave old.running asked new.running new.text
  pub told : MeaningTold old.running old.explains asked new.reasons

abbrev pub KeptMade : Option Going → Option ScriptEvent → Option Going → Type 0
KeptMade (Some old) asked (Some new) = HasMade old asked new
KeptMade _ asked _ = ⊥

-- the line is not spelled, and the line of its fault is as said
abbrev pub MeaningRefused : ℕ → Result (Option ScriptEvent) LineFault → (Text → Type 0) → Type 0
MeaningRefused n (Ok asked) Said = ⊥
MeaningRefused n (Err fault) Said = Said (fault_line_of n fault)

abbrev pub IsRefused : Option Going → Text → (Text → Type 0) → Type 0
IsRefused None line Said = ⊥
IsRefused (Some s) line Said = MeaningRefused (s.lines + 1) (line_meaning line) Said

-- how many lines a session takes
abbrev pub most_lines : ℕ
most_lines = 67108862

abbrev pub IsFull : Option Going → Type 0
IsFull None = ⊥
IsFull (Some s) = most_lines ≤ s.lines

abbrev pub SessionEventCame : Option Going → Option ScriptEvent → Option Going → Result (Unit {0}) NotRun → Type 0
SessionEventCame old asked new (Ok u) = KeptMade old asked new
SessionEventCame old asked new (Err (not_run.Fault fault)) = ⊥
SessionEventCame old asked new (Err not_run.Full) = (new ≡ old) × IsFull old
SessionEventCame old asked new (Err not_run.Memory) = (new ≡ old) ⊎ (new ≡ None)

-- what a session makes of a line
abbrev pub LineCame : Option Going → Text → Option Going → Result (Unit {0}) NotRun → Type 0
LineCame old line new (Ok u) = KeptGave old line new
LineCame old line new (Err (not_run.Fault fault)) = (new ≡ old) × IsSome old × (line_meaning line ≡ Err fault)
LineCame old line new (Err not_run.Full) = (new ≡ old) × IsFull old
LineCame old line new (Err not_run.Memory) = (new ≡ old) ⊎ (new ≡ None)

-- ---- a text in the buffer

-- so many bytes the text has, and it is in the buffer if that has room
pub record WroteBuffer (text : Text) (written : ℕ) (buf : Text) : Type 0 where
  pub length_is : written ≡ length text
  pub copied : written ≤ length buf → take written buf ≡ text

-- it has room
pub record WroteWhole (text : Text) (written : ℕ) (buf : Text) : Type 0 where
  pub length_is : written ≡ length text
  pub whole : take written buf ≡ text

-- it has none
pub record NoRoom (text : Text) (written : ℕ) (buf : Text) : Type 0 where
  pub length_is : written ≡ length text
  pub short : length buf < written

abbrev pub TextCame : Answer → Text → ℕ → Text → Type 0
TextCame Done text written buf = WroteWhole text written buf
TextCame Room text written buf = NoRoom text written buf
TextCame _ text written buf = ⊥

-- the text that was given last
abbrev pub last_text : Option Going → Text
last_text None = []
last_text (Some s) = s.text

-- ---- each call: its answer, what the handle kept before and keeps now, and what is in the buffer

-- a session on a plan, with the empty history
pub record SessionOf (plan : Plan) (s : Going) : Type 0 where
  pub follows : Follows s.running (record { plan = plan; history = [] })
  pub lines_are : s.lines ≡ 0
  pub explains_is : s.explains ≡ false
  pub text_is : s.text ≡ []
  pub reasons_are : s.reasons ≡ None

abbrev pub IsSessionOf : Plan → Option Going → Type 0
IsSessionOf plan None = ⊥
IsSessionOf plan (Some s) = SessionOf plan s

abbrev pub BeginCame : Answer → Plan → Option Going → Type 0
BeginCame Done plan new = IsSessionOf plan new
BeginCame Memory plan new = new ≡ None
BeginCame _ plan new = ⊥

-- the session of the plan that a topology's bytes mean
pub record BegunSession (topology : Text) (new : Option Going) : Type 0 where
  pub plan : Plan
  pub plan_is : loaded_topology topology ≡ Sound plan
  pub session : IsSessionOf plan new

-- of a handle with no session
abbrev pub EmptyCame : Answer → Text → Option Going → ℕ → Text → Type 0
EmptyCame Done topology new written buf = BegunSession topology new × (written ≡ 0)
EmptyCame Topology topology new written buf =
    (new ≡ None) × ((check_due topology).0 ≡ end.Topology) × WroteBuffer (check_due topology).1 written buf
EmptyCame TooLong topology new written buf = (new ≡ None) × ((check_due topology).0 ≡ end.TooLong) × (written ≡ 0)
EmptyCame Memory topology new written buf = (new ≡ None) × (written ≡ 0)
EmptyCame _ topology new written buf = ⊥

abbrev pub OpenCame : Answer → Option Going → Text → Option Going → ℕ → Text → Type 0
OpenCame answer None topology new written buf = EmptyCame answer topology new written buf
OpenCame answer (Some s) topology new written buf = (answer ≡ Open) × (new ≡ Some s) × (written ≡ 0)

abbrev pub StepCame : Answer → Option Going → Text → Option Going → ℕ → Text → Type 0
StepCame Done old line new written buf = KeptGave old line new × WroteWhole (last_text new) written buf
StepCame Room old line new written buf = KeptGave old line new × NoRoom (last_text new) written buf
StepCame Script old line new written buf = (new ≡ old) × IsRefused old line (λ text. WroteBuffer text written buf)
StepCame TooLong old line new written buf = (new ≡ old) × IsFull old × (written ≡ 0)
StepCame Memory old line new written buf = ((new ≡ old) ⊎ (new ≡ None)) × (written ≡ 0)
StepCame Closed old line new written buf = (old ≡ None) × (new ≡ None) × (written ≡ 0)
StepCame _ old line new written buf = ⊥

abbrev pub IsNotFull : NotRun → Type 0
IsNotFull not_run.Full = ⊥
IsNotFull cause = Unit {0}

-- of a line that was not run
abbrev pub RefusalCame : Answer → ℕ → NotRun → ℕ → Text → Type 0
RefusalCame Script n (not_run.Fault fault) written buf = WroteBuffer (fault_line_of n fault) written buf
RefusalCame Memory n cause written buf = (written ≡ 0) × IsNotFull cause
RefusalCame TooLong n not_run.Full written buf = written ≡ 0
RefusalCame _ n cause written buf = ⊥

-- a session is as it was, and this is said of it, or there is none
abbrev pub AsItWas : (Answer → Going → Type 0) → Answer → Option Going → Option Going → ℕ → Type 0
AsItWas Said answer None new written = (answer ≡ Closed) × (new ≡ None) × (written ≡ 0)
AsItWas Said answer (Some s) new written = (new ≡ Some s) × Said answer s

abbrev pub LastCame : Answer → Option Going → Option Going → ℕ → Text → Type 0
LastCame answer old new written buf = AsItWas (λ a s. TextCame a s.text written buf) answer old new written

-- after whatever past the session follows, the text is the line of its totals
abbrev pub IsTotals : RunningView → Text → Type 0
IsTotals running text = (past : ScriptPast) → Follows running past → text ≡ closing_line past

-- some text is given that is the line of the totals, or there is no memory
abbrev pub TotalsSaid : Answer → RunningView → ℕ → Text → Type 0
TotalsSaid Memory running written buf = written ≡ 0
TotalsSaid answer running written buf = (text : Text) × IsTotals running text × TextCame answer text written buf

abbrev pub TotalsCame : Answer → Option Going → Option Going → ℕ → Text → Type 0
TotalsCame answer old new written buf = AsItWas (λ a s. TotalsSaid a s.running written buf) answer old new written

-- ---- what the last verdict came from

abbrev pub explaining : Bool → Going → Going
explaining on s = record s { explains = on }

-- from the next line on it is kept, or not
abbrev pub ExplainCame : Answer → Option Going → Bool → Option Going → Type 0
ExplainCame answer None on new = (answer ≡ Closed) × (new ≡ None)
ExplainCame answer (Some s) on new = (answer ≡ Done) × (new ≡ Some (explaining on s))

-- the text is what was kept, if anything was
abbrev pub WhySaid : Answer → Option Text → ℕ → Text → Type 0
WhySaid answer None written buf = (answer ≡ Absent) × (written ≡ 0)
WhySaid answer (Some text) written buf = TextCame answer text written buf

abbrev pub WhyCame : Answer → Option Going → Option Going → ℕ → Text → Type 0
WhyCame answer old new written buf = AsItWas (λ a s. WhySaid a s.reasons written buf) answer old new written

-- ---- packets

-- the hex digits of a packet's bytes, and a line feed
abbrev pub packet_line : SealedPacket × Packet → Text
packet_line x = encode_lower (packet_bytes x.1) ++ 10 ∷ []

-- of the packet of this number, from 1, among those that were sealed, if there is one
abbrev pub packet_text : ScriptPast → ℕ → Option Text
packet_text past n = option_map packet_line (packet_by_number (sealed_packets past.plan past.history) n)

-- after whatever past the session follows
abbrev pub IsPacket : RunningView → ℕ → Option Text → Type 0
IsPacket running n text = (past : ScriptPast) → Follows running past → text ≡ packet_text past n

abbrev pub PacketSaid : Answer → RunningView → ℕ → ℕ → Text → Type 0
PacketSaid Memory running n written buf = written ≡ 0
PacketSaid Absent running n written buf = IsPacket running n None × (written ≡ 0)
PacketSaid answer running n written buf =
    (text : Text) × IsPacket running n (Some text) × TextCame answer text written buf

abbrev pub PacketCame : Answer → Option Going → ℕ → Option Going → ℕ → Text → Type 0
PacketCame answer old n new written buf = AsItWas (λ a s. PacketSaid a s.running n written buf) answer old new written

-- ---- its end

abbrev pub CloseCame : Answer → Option Going → Option Going → Type 0
CloseCame answer None new = (answer ≡ Closed) × (new ≡ None)
CloseCame answer (Some s) new = (answer ≡ Done) × (new ≡ None)

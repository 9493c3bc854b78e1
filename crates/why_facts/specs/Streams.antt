-- Facts of a stream at a port, by what is seen of it.
use Rattle.std.specs.Prelude.{Bool, true, false, List, [], ◌∷◌, ◌++◌, if◌then◌else◌, Option, Some, None}
use Rattle.ide_types.specs.declared.sub.SubKind.{SubKind}
use Rattle.ide_types.specs.declared.sub.SubKind.TheVariants.{Pr, Npr, Cpl}
use Rattle.sub_stream.specs.declared.facts.SlotFacts.{SlotFacts}
use Rattle.sub_stream.specs.declared.facts.SlotFacts.TheVariants as slot
use Rattle.sub_stream.specs.declared.facts.SetFacts.{SetFacts}
use Rattle.sub_stream.specs.declared.facts.StreamFacts.{StreamFacts}
use Rattle.sub_stream.specs.Facts.{lane_seen}
use Rattle.told_facts.specs.declared.fact.Fact.{Fact}
use Rattle.told_facts.specs.declared.fact.Fact.TheVariants as fact
use Rattle.told_facts.specs.declared.fact.OperationFact.TheVariants as of
use Rattle.told_facts.specs.declared.fact.SetState.{SetState}
use Rattle.told_facts.specs.declared.fact.SetState.TheVariants as set
use Rattle.why_facts.specs.Forms.{counts_facts, each_looked_at, posted_fact, facts_of_sets, state_fact, total_facts}

abbrev pub state_seen : SlotFacts → SetState
state_seen slot.Empty = set.Empty
state_seen (slot.Programmed draw) = set.Kept draw
state_seen (slot.Armed draw) = set.Waits draw
state_seen (slot.Live draw units packets) = set.On draw units packets

abbrev pub sets_seen : SetFacts → List Fact
sets_seen sets = facts_of_sets (state_seen sets.zero) (state_seen sets.one)

abbrev pub receiver_seen : StreamFacts → SubKind → List Fact
receiver_seen f u =
    let rx = (lane_seen f u).receiver in
    sets_seen rx.sets ++ counts_facts u rx.sum f.pr.receiver.got ++ total_facts f.closed rx.total

abbrev pub sender_seen : StreamFacts → SubKind → List Fact
sender_seen f u =
    let tx = (lane_seen f u).sender in
    posted_fact u tx.posted ∷ (sets_seen tx.sets ++ total_facts f.closed tx.total)

abbrev pub senders_seen : StreamFacts → SubKind → List Fact
senders_seen f class = state_fact f.status ∷ each_looked_at (sender_seen f) class

abbrev pub completion_seen : StreamFacts → List Fact
completion_seen f = state_fact f.status ∷ sender_seen f Cpl

-- a slot has a Live key
abbrev pub is_live_seen : SlotFacts → Bool
is_live_seen (slot.Live draw units packets) = true
is_live_seen s = false

abbrev pub set_seen : Bool → SetFacts → SlotFacts
set_seen k sets = if k then sets.one else sets.zero

-- the sender of a sub-stream, if it is in use in a key set
abbrev pub open_seen : Option StreamFacts → Bool → SubKind → List Fact
open_seen None set u = []
open_seen (Some f) set u =
    if is_live_seen (set_seen set (lane_seen f u).sender.sets) then fact.Operation (of.Open u) ∷ [] else []

abbrev pub opens_seen : Option StreamFacts → Bool → List Fact
opens_seen f set = open_seen f set Pr ++ open_seen f set Npr ++ open_seen f set Cpl

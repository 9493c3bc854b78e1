-- What is seen of a stream is what the machine keeps of it.
use Rattle.std.proofs.Common.{◌≡◌, Bool, List, ◌∷◌, ◌++◌, refl, ap}
use Rattle.ide_types.specs.declared.sub.SubKind.{SubKind}
use Rattle.ide_types.specs.declared.sub.SubKind.TheVariants.{Pr, Npr, Cpl}
use Rattle.spec_stream.specs.Stream.{LaneSlot, Empty, Programmed, Armed, Live, StreamState, LaneSlots}
use Rattle.sub_stream.specs.Facts.{set_facts as sets_of, slot_facts, stream_facts}
use Rattle.told_facts.specs.declared.fact.Fact.{Fact}
use Rattle.why_facts.specs.Forms.{counts_facts, each_looked_at, posted_fact, facts_of_sets, state_fact, total_facts}
use Rattle.why_facts.specs.Kept.{receiver_fact_list, sender_facts_of, set_state_of_slot}
use Rattle.spec_stream.specs.Slots.{stream_status}
use Rattle.why_facts.specs.{receiver_seen, sender_seen, senders_seen, sets_seen, state_seen}

slot_is : (s : LaneSlot) → state_seen (slot_facts s) ≡ set_state_of_slot s
slot_is Empty = refl
slot_is (Programmed draw key) = refl
slot_is (Armed draw key) = refl
slot_is (Live x) = refl

sets_are : (s : LaneSlots) → sets_seen (sets_of s)
    ≡ facts_of_sets (set_state_of_slot s.first) (set_state_of_slot s.second)
sets_are s = (λ i. facts_of_sets (slot_is s.first i) (slot_is s.second i))

pub receiver_is : (closed : Bool) (x : StreamState) (u : SubKind)
    → receiver_seen (stream_facts closed x) u ≡ receiver_fact_list closed x u
receiver_is closed x Pr = ap (λ (fs : List Fact). fs ++ counts_facts Pr x.rx.pr.sum x.rx.pr.got
    ++ total_facts closed x.rx.pr.total) (sets_are x.rx.pr.slots)
receiver_is closed x Npr = ap (λ (fs : List Fact). fs ++ counts_facts Npr x.rx.npr.sum x.rx.pr.got
    ++ total_facts closed x.rx.npr.total) (sets_are x.rx.npr.slots)
receiver_is closed x Cpl = ap (λ (fs : List Fact). fs ++ counts_facts Cpl x.rx.cpl.sum x.rx.pr.got
    ++ total_facts closed x.rx.cpl.total) (sets_are x.rx.cpl.slots)

pub sender_is : (closed : Bool) (x : StreamState) (u : SubKind)
    → sender_seen (stream_facts closed x) u ≡ sender_facts_of closed x u
sender_is closed x Pr = ap (λ (fs : List Fact). posted_fact Pr x.tx.pr.posted
    ∷ (fs ++ total_facts closed x.tx.pr.total)) (sets_are x.tx.pr.slots)
sender_is closed x Npr = ap (λ (fs : List Fact). posted_fact Npr x.tx.npr.posted
    ∷ (fs ++ total_facts closed x.tx.npr.total)) (sets_are x.tx.npr.slots)
sender_is closed x Cpl = ap (λ (fs : List Fact). posted_fact Cpl x.tx.cpl.posted
    ∷ (fs ++ total_facts closed x.tx.cpl.total)) (sets_are x.tx.cpl.slots)

pub senders_are : (closed : Bool) (x : StreamState) (class : SubKind) → senders_seen (stream_facts closed x) class
    ≡ state_fact (stream_status x) ∷ each_looked_at (sender_facts_of closed x) class
senders_are closed x Pr =
    (λ i. state_fact (stream_status x) ∷
    (sender_is closed x Pr i ++ sender_is closed x Npr i ++ sender_is closed x Cpl i))
senders_are closed x Npr = (λ i. state_fact (stream_status x) ∷ (sender_is closed x Npr i ++ sender_is closed x Pr i))
senders_are closed x Cpl = (λ i. state_fact (stream_status x) ∷ (sender_is closed x Cpl i ++ sender_is closed x Pr i))

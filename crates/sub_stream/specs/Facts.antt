-- What is seen of what a sender and a receiver keep: draws and counts, without keys and bytes.
use Rattle.std.specs.Prelude.{Bool, List, [], length}
use Rattle.ide_prefix.specs.Packet.{Packet}
use Rattle.ide_types.specs.declared.sub.SubKind.{SubKind}
use Rattle.ide_types.specs.declared.sub.SubKind.TheVariants.{Pr, Npr, Cpl}
use Rattle.spec_stream.specs.Stream.{LaneSlot, Empty, Programmed, Armed, Live, LaneSlots, TxSub, RxSub, StreamState}
use Rattle.spec_stream.specs.Stream.{at_sub}
use Rattle.spec_stream.specs.Slots.{stream_status}
use Rattle.sub_stream.specs.declared.facts.SlotFacts.{SlotFacts}
use Rattle.sub_stream.specs.declared.facts.SlotFacts.TheVariants as fact
use Rattle.sub_stream.specs.declared.facts.SetFacts.{SetFacts}
use Rattle.sub_stream.specs.declared.facts.SenderFacts.{SenderFacts}
use Rattle.sub_stream.specs.declared.facts.ReceiverFacts.{ReceiverFacts}
use Rattle.sub_stream.specs.declared.facts.LaneFacts.{LaneFacts}
use Rattle.sub_stream.specs.declared.facts.StreamFacts.{StreamFacts}

abbrev pub slot_facts : LaneSlot → SlotFacts
slot_facts Empty = fact.Empty
slot_facts (Programmed draw key) = fact.Programmed draw
slot_facts (Armed draw key) = fact.Armed draw
slot_facts (Live x) = fact.Live x.draw x.units (length x.packets)

-- the packets of the next unit that are there under a Live key
abbrev pub held_packets : LaneSlot → List Packet
held_packets (Live x) = x.packets
held_packets slot = []

abbrev pub set_facts : LaneSlots → SetFacts
set_facts slots = record { zero = slot_facts slots.first; one = slot_facts slots.second }

abbrev pub sender_facts : TxSub → SenderFacts
sender_facts tx = record { sets = set_facts tx.slots; posted = tx.posted; total = tx.total }

abbrev pub receiver_facts : RxSub → ReceiverFacts
receiver_facts rx = record { sets = set_facts rx.slots; sum = rx.sum; got = rx.got; total = rx.total }

abbrev pub lane_facts : StreamState → SubKind → LaneFacts
lane_facts x u = record { sender = sender_facts (at_sub x.tx u); receiver = receiver_facts (at_sub x.rx u) }

-- of a stream that is closed, or open
abbrev pub stream_facts : Bool → StreamState → StreamFacts
stream_facts closed x = record {
  closed = closed;
  failed = x.failed;
  status = stream_status x;
  pr = lane_facts x Pr;
  npr = lane_facts x Npr;
  cpl = lane_facts x Cpl;
}

-- those of a sub-stream
abbrev pub lane_seen : StreamFacts → SubKind → LaneFacts
lane_seen f Pr = f.pr
lane_seen f Npr = f.npr
lane_seen f Cpl = f.cpl

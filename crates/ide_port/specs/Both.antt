-- Both directions of a stream, and what calls of key management make of them.
use Rattle.std.specs.Prelude.{◌≡◌, ◌&&◌, ◌||◌, Bool, true, false, []}
use Rattle.ide_types.specs.declared.sub.SubKind.{SubKind}
use Rattle.ide_types.specs.declared.port.Side.{Side}
use Rattle.key_slots.specs.{SlotPair, KeyCall}
use Rattle.spec_stream.specs.Stream.{at_sub}
use Rattle.sub_stream.specs.{slot_pair}
use Rattle.ide_port.specs.declared.directions.Directions.{Directions}
use Rattle.ide_port.specs.StreamEnds.{StreamEnd}
use Rattle.stream_lanes.specs.{any_out, settled_senders, called_ends, any_into, rested_into, called_receivers}

-- the slots of a sender, or of a receiver
abbrev pub slots_of_lane : Bool → SubKind → Directions → SlotPair
slots_of_lane true u d = slot_pair true (at_sub d.tx.tx u).slots
slots_of_lane false u d = slot_pair false (at_sub d.rx.rx u).slots

abbrev pub called_directions : Bool → SubKind → KeyCall → Directions → Directions
called_directions true u call d = record d { tx = called_ends d.tx u call }
called_directions false u call d = record d { rx = called_receivers d.rx u call }

abbrev pub rested_directions : Directions → Directions
rested_directions d = record {
  tx = record d.tx { tx = settled_senders d.tx.tx };
  rx = record d.rx { rx = rested_into d.rx.rx; delivered = [] };
  failed = d.failed && (any_out d.tx.tx || any_into d.rx.rx);
}

-- a stream of these directions
abbrev pub end_of_directions : Side → Directions → StreamEnd
end_of_directions side d = record {
  side = side;
  id = d.tx.fixed.stream;
  aggregation = d.tx.fixed.aggregation;
  closed = d.tx.fixed.closed;
  limit = d.tx.fixed.limit;
  state = record { tx = d.tx.tx; rx = d.rx.rx; failed = d.failed };
  delivered = d.rx.delivered;
}

-- both directions are of one stream
pub record IsStream (d : Directions) : Type 0 where
  pub same_aggregation : d.rx.aggregation ≡ d.tx.fixed.aggregation
  pub same_closed : d.rx.closed ≡ d.tx.fixed.closed

-- Where keys are: at an end of a line, and there in a sub-stream that it sends or receives.
use Rattle.std.specs.Prelude.{ℕ, nat_lt, not, Bool, true, false, if◌then◌else◌}
use Rattle.ide_types.specs.declared.port.Side.{Side}
use Rattle.ide_types.specs.declared.sub.SubKind.{SubKind}
use Rattle.spec_keys.specs.Places.{KeyPlace, is_host}
use Rattle.sub_stream.specs.declared.facts.SetFacts.{SetFacts}
use Rattle.sub_stream.specs.declared.facts.SlotFacts.{SlotFacts}
use Rattle.sub_stream.specs.declared.facts.SlotFacts.TheVariants as slot
use Rattle.why_facts.specs.declared.appends.places.Place.{Place}

abbrev pub key_place : Place → KeyPlace
key_place p = record { side = p.side; line = p.line; stream = p.stream; sends = p.sends; sub = p.sub }

abbrev pub seen_place_at : Side → ℕ → ℕ → Bool → SubKind → Place
seen_place_at side line stream upward u = record {
  side = side;
  line = line;
  stream = stream;
  sends = if is_host side then not upward else upward;
  sub = u;
}

-- a slot is Live, and the other is not Live under a newer draw
abbrev pub is_last_beside : ℕ → SlotFacts → Bool
is_last_beside draw (slot.Live newer units packets) = not (nat_lt draw newer)
is_last_beside draw other = true

abbrev pub is_last_seen : SlotFacts → SlotFacts → Bool
is_last_seen (slot.Live draw units packets) other = is_last_beside draw other
is_last_seen s other = false

-- a KEY_PROG of a set is refused where both hold this
abbrev pub refuses_seen : Bool → SetFacts → Bool
refuses_seen set sets = if set then is_last_seen sets.one sets.zero else is_last_seen sets.zero sets.one

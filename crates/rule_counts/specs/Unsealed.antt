-- Arrivals that end a unit which the partner had not sealed, if the tag verifies, by what is kept.
use Rattle.std.specs.Prelude.{ℕ, ◌&&◌, Bool, true, false, not, List, [], ◌∷◌, ◌++◌, Option, Some, None, Result, Ok, Err}
use Rattle.std.specs.Prelude.{count_by}
use Rattle.ide_types.specs.declared.port.PortName.{PortName}
use Rattle.ide_types.specs.declared.sub.SubKind.{SubKind}
use Rattle.ide_types.specs.declared.sub.FailCause.TheVariants as fail
use Rattle.ide_port.specs.{PortEnd, held_in_port, stream_facts_in}
use Rattle.ide_prefix.specs.Packet.{Packet}
use Rattle.ide_prefix.specs.Reading.{CutValue, PlainTlp, IdePacket, cut_of}
use Rattle.ide_prefix.specs.declared.fault.PacketFault.{PacketFault}
use Rattle.event_verdicts.specs.declared.verdict.Verdict.{Verdict}
use Rattle.event_verdicts.specs.declared.verdict.Verdict.TheVariants as v
use Rattle.machine_ports.specs.Machine.{LinkPacket}
use Rattle.spec_links.specs.Plan.{lane_in}
use Rattle.spec_links.specs.Packets.{ArrivedBytes}
use Rattle.sub_stream.specs.Facts.{lane_seen}
use Rattle.sub_stream.specs.declared.facts.SlotFacts.{SlotFacts}
use Rattle.sub_stream.specs.declared.facts.SlotFacts.TheVariants as slot
use Rattle.sub_stream.specs.declared.facts.StreamFacts.{StreamFacts}
use Rattle.why_facts.specs.{set_seen}
use Rattle.world.specs.{WholeLinks, port_on}
use Rattle.rule_counts.specs.Seals.{SealsView, base_after}
use Rattle.rule_counts.specs.Units.{ends_between, is_same_front, is_unit_after}

-- the tag verified
abbrev pub is_verified_by : Verdict → Bool
is_verified_by (v.Accepted port unit effects) = true
is_verified_by (v.Fail port stream sub fail.Order) = true
is_verified_by w = false

-- the packets that were sealed, as they are kept
abbrev pub kept_packets : WholeLinks → List LinkPacket
kept_packets s = s.links.packets.packets

-- how many units were sealed in a sub-stream under the draws from the last establish on, below this one
abbrev pub units_sealed_below : SealsView → PortName → ℕ → SubKind → ℕ → ℕ
units_sealed_below seals end stream u draw =
    count_by (ends_between (lane_in end stream u) (base_after 0 seals.bases end.line stream) draw) seals.packets

-- the unit was sealed as the one after so many of a sub-stream under a draw, with the same ahead as at a receiver that
-- got so many units
abbrev pub was_sealed_in : SealsView → List LinkPacket → PortName → (stream : ℕ) → SubKind → (closed : Bool)
    → (got draw units : ℕ) → List Packet → Bool
was_sealed_in seals kept end stream u closed got draw units unit =
    is_unit_after (lane_in end stream u) draw units unit seals.packets kept
    && is_same_front closed units (units_sealed_below seals end stream u draw) got

-- by the slot of the receiver under whose key it comes
abbrev pub unsealed_under : SealsView → List LinkPacket → PortName → (stream : ℕ) → SubKind → (closed : Bool)
    → (got : ℕ)
    → (unit : List Packet) → SlotFacts → Bool
unsealed_under seals kept end stream u closed got unit (slot.Live draw units packets) =
    not (was_sealed_in seals kept end stream u closed got draw units unit)
unsealed_under seals kept end stream u closed got unit s = false

-- by what is seen of its stream there, and what is held
abbrev pub unsealed_seen : SealsView → List LinkPacket → PortName → Packet → (held : List Packet) → Option StreamFacts
    → Bool
unsealed_seen seals kept end p held None = false
unsealed_seen seals kept end p held (Some f) =
    let rx = (lane_seen f p.prefix.sub).receiver in
    unsealed_under seals kept end p.prefix.stream p.prefix.sub f.closed rx.total (held ++ p ∷ [])
    (set_seen p.prefix.k rx.sets)

abbrev pub unsealed_in_port : SealsView → List LinkPacket → PortName → Packet → PortEnd → Bool
unsealed_in_port seals kept end p e =
    unsealed_seen seals kept end p (held_in_port e p.prefix.stream p.prefix.sub p.prefix.k)
    (stream_facts_in e p.prefix.stream)

abbrev pub unsealed_if_there : SealsView → List LinkPacket → PortName → Packet → Option PortEnd → Bool
unsealed_if_there seals kept end p None = false
unsealed_if_there seals kept end p (Some e) = unsealed_in_port seals kept end p e

abbrev pub unsealed_packet : SealsView → WholeLinks → PortName → Result CutValue PacketFault → Bool
unsealed_packet seals s end (Err f) = false
unsealed_packet seals s end (Ok PlainTlp) = false
unsealed_packet seals s end (Ok (IdePacket p)) =
    unsealed_if_there seals (kept_packets s) end p (port_on s.links.ends end)

-- an arrival ends a unit that was not sealed, if its tag verifies
abbrev pub unsealed_arrival : SealsView → WholeLinks → Option ArrivedBytes → Bool
unsealed_arrival seals s None = false
unsealed_arrival seals s (Some a) = unsealed_packet seals s a.port (cut_of a.bytes)

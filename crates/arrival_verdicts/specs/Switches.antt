-- What becomes of a unit that is accepted at a switch: each TLP waits to be forwarded.
use Rattle.std.specs.Prelude.{◌&&◌, ◌++◌, nat_le, if◌then◌else◌, List, [], ◌∷◌, length, false, map}
use Rattle.ide_types.specs.declared.direction.Direction.{Direction}
use Rattle.ide_types.specs.declared.sub.SubKind.{SubKind}
use Rattle.ide_prefix.specs.Packet.{Packet, is_sync_packet}
use Rattle.event_verdicts.specs.declared.verdict.Effect.{Effect}
use Rattle.event_verdicts.specs.declared.verdict.Effect.TheVariants as effect
use Rattle.event_verdicts.specs.declared.verdict.UnitName.{UnitName}
use Rattle.hop_queues.specs.declared.queue.HopTlp.{HopTlp}
use Rattle.hop_queues.specs.declared.queues.HopQueues.{HopQueues}
use Rattle.hop_queues.specs.{WaitingTlps, most_bytes, queue_of, with_queue}

-- ---- effects

abbrev pub switched_as : Packet → Effect
switched_as p = if is_sync_packet p then effect.Sync else effect.Waiting

abbrev pub switched_each : List Packet → List Effect
switched_each ps = map switched_as ps

-- ---- TLPs that wait

-- that of a packet whose body is plain, in a sub-stream
abbrev pub packet_tlps : SubKind → Packet → List HopTlp
packet_tlps sub p = if is_sync_packet p then [] else record { sub = sub; bytes = p.head ++ p.body; t = p.prefix.t } ∷ []

-- those of packets whose bodies are plain
abbrev pub tlps_in : SubKind → List Packet → List HopTlp
tlps_in sub [] = []
tlps_in sub (p ∷ ps) = packet_tlps sub p ++ tlps_in sub ps

-- those of the unit, by its sub-stream
abbrev pub unit_waits : List Packet → UnitName → List HopTlp
unit_waits ps unit = tlps_in unit.sub ps

-- behind all others
abbrev pub waits_last : HopTlp → WaitingTlps → WaitingTlps
waits_last x w = record { tlps = w.tlps ++ x ∷ []; has_room = false }

-- A TLP is queued if there is room for it and it is no longer than a TLP may be.
abbrev pub queues_after_offer : Direction → HopTlp → HopQueues → HopQueues
queues_after_offer d x q =
    if (queue_of q d).has_room && nat_le (length x.bytes) most_bytes
    then with_queue q d (waits_last x (queue_of q d)) else q

-- one after the other
abbrev pub all_offered : Direction → List HopTlp → HopQueues → HopQueues
all_offered d [] q = q
all_offered d (x ∷ xs) q = all_offered d xs (queues_after_offer d x q)

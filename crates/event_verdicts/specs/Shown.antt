-- A verdict as it is shown: it names ends of lines, and its line names the ports that they are at.
use Rattle.std.specs.Prelude.{List, map}
use Rattle.ide_types.specs.declared.plan.PeerPlan.{PeerPlan}
use Rattle.ide_types.specs.Ends.{port_beside_end}
use Rattle.event_verdicts.specs.Terms.{SealedPacket, Verdict, Sealed, Insecure, NotKeyed, Fail, Held, Accepted}

abbrev pub shown_packet : List PeerPlan → SealedPacket → SealedPacket
shown_packet peers p = record p { port = port_beside_end peers p.port }

-- the others name ports, if any
abbrev pub verdict_by_ports : List PeerPlan → Verdict → Verdict
verdict_by_ports peers (Sealed packets) = Sealed (map (shown_packet peers) packets)
verdict_by_ports peers (Insecure port stream) = Insecure (port_beside_end peers port) stream
verdict_by_ports peers (NotKeyed port stream sub) = NotKeyed (port_beside_end peers port) stream sub
verdict_by_ports peers (Fail port stream sub cause) = Fail (port_beside_end peers port) stream sub cause
verdict_by_ports peers (Held port unit) = Held (port_beside_end peers port) unit
verdict_by_ports peers (Accepted port unit effects) = Accepted (port_beside_end peers port) unit effects
verdict_by_ports peers verdict = verdict

-- A script that is run with the bytes of each packet: they are those that a history seals.
use Rattle.std.proofs.Common.{◌≡◌, ◌∙◌, ◌++◌, ◌+◌, ◌<◌, ℕ, List, refl, sym, ap, append_assoc, drop, length}
use Rattle.std.proofs.Common.{get_or}
use Rattle.std.specs.Prelude.{option_map}
use Rattle.std.proofs.lemmas.List.{drop_more}
use Rattle.ide_types.specs.declared.plan.Plan.{Plan}
use Rattle.ide_prefix.specs.Packet.{Packet, packet_bytes}
use Rattle.script_events.specs.declared.event.Event.{Event}
use Rattle.event_verdicts.specs.declared.verdict.SealedPacket.{SealedPacket}
use Rattle.event_verdicts.specs.declared.verdict.Verdict.{Verdict}
use Rattle.event_verdicts.specs.Lines.{line_of}
use Rattle.event_verdicts.specs.Shown.{verdict_by_ports}
use Rattle.spec_keys.specs.History.{History}
use Rattle.spec_links.specs.Due.{due}
use Rattle.spec_links.specs.History.{sealed_packets}
use Rattle.machine_ports.specs.Machine.{LinkPacket, LinkState, packet_numbered}
use Rattle.machine_operations.proofs.{of_numbered}
use Rattle.world.specs.{WorldStandsFor, WorldView}
use Rattle.file_runs.specs.Gain.{Text}
use Rattle.script_runs.specs.Packets.{bytes_numbered, packet_line_if_there, packet_lines, packets_ran, sealed_lines}
use Rattle.script_runs.specs.Works.{EventCame, RunningView, ScriptPast, VerdictCame, past_with, verdict_line}
use Rattle.script_runs.proofs.Scripts.{event_comes}

-- a world keeps the packets of each history that it stands for
pub bytes_kept : (s : WorldView) (h : History) (n : ℕ) → WorldStandsFor s h
    → option_map (λ (x : LinkPacket). x.bytes) (packet_numbered s.state.packets n) ≡ bytes_numbered s.plan h n
bytes_kept s h n stood =
    of_numbered s.state.packets (sealed_packets s.plan h) n
    (sym (ap (λ (st : LinkState). st.packets) stood.is.links) ∙ stood.stands.links.ports_stand.packets)
    (option_map (λ (x : LinkPacket). x.bytes)) (option_map (λ (x : SealedPacket × Packet). packet_bytes x.1)) refl
    (λ x. refl)

-- one more line of a packet
pub packet_pushed : (plan : Plan) (h : History) (packets : List SealedPacket) (i : ℕ) (d : SealedPacket)
    (text more start : Text) → i < length packets → text ++ packet_lines plan h (drop i packets) ≡ start
    → more ≡ text ++ packet_line_if_there (get_or packets i d).number
    (bytes_numbered plan h (get_or packets i d).number)
    → more ++ packet_lines plan h (drop (i + 1) packets) ≡ start
packet_pushed plan h packets i d text more start less so_far told =
    let left = packet_lines plan h (drop (i + 1) packets) in
    let one = packet_line_if_there (get_or packets i d).number (bytes_numbered plan h (get_or packets i d).number) in
    ap (λ (t : Text). t ++ left) told ∙ append_assoc text one left
    ∙ ap (λ (ds : List SealedPacket). text ++ packet_lines plan h ds) (sym (drop_more packets i d less)) ∙ so_far

-- the line of a verdict, and those of its packets
pub packets_come : (past : ScriptPast) (e : Event) (r : RunningView) (w : Verdict) (line packets : Text)
    → VerdictCame past e r w → line ≡ line_of r.world.steps (verdict_by_ports r.world.plan.peers w)
    → ((h : History) → WorldStandsFor r.world h → packets ≡ sealed_lines r.world.plan h w)
    → EventCame (packets_ran past e) r (line ++ packets)
packets_come past e r w line packets came is there =
    let g = (past_with past e).history in
    let first = event_comes past e r w line came is in
    let rest = there g came.follows.stands
    ∙ ap (λ (p : Plan). sealed_lines p g w) came.follows.plan_is
    ∙ ap (sealed_lines past.plan g) came.verdict_is in
    record {
      text_is = ap (λ (t : Text). t ++ packets) first.text_is
          ∙ ap (λ (t : Text). verdict_line past.plan past.history (e, due past.plan past.history e) ++ t) rest;
      follows = came.follows;
    }

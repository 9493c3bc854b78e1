-- What becomes of sends and arrivals: verdicts, writes of trusted memory and of the memory of devices' interfaces, and
-- reads that wait. A stream is named at an end of its line, effects go by the port that the end is at.
use Rattle.std.specs.Prelude.{ℕ, ◌≡◌, ◌==◌, ◌&&◌, Bool, not, List, [], ◌∷◌, ◌++◌, length, map, Option, None, Result}
use Rattle.std.specs.Prelude.{Ok, Err, if◌then◌else◌}
use Rattle.std.specs.Option.{option_and_then}
use Rattle.ide_types.specs.declared.port.PortName.{PortName}
use Rattle.ide_types.specs.declared.plan.Region.{Region}
use Rattle.event_verdicts.specs.declared.verdict.UnitName.{UnitName}
use Rattle.event_verdicts.specs.declared.verdict.Verdict.{Verdict}
use Rattle.event_verdicts.specs.declared.verdict.Verdict.TheVariants as v
use Rattle.event_verdicts.specs.declared.verdict.Effect.{Effect}
use Rattle.event_verdicts.specs.declared.verdict.Effect.TheVariants as effect
use Rattle.tlp_layout.specs.declared.head.HeadView.{HeadView}
use Rattle.tlp_layout.specs.declared.fault.TlpFault.{TlpFault}
use Rattle.tlp_layout.specs.Reading.{read_head_of}
use Rattle.ide_prefix.specs.Faults.{packet_place}
use Rattle.ide_prefix.specs.Packet.{Packet, is_sync_packet}
use Rattle.ide_prefix.specs.FaultWords.{packet_word, tlp_word}
use Rattle.spec_keys.specs.Places.{sent_direction}
use Rattle.spec_links.specs.{owner_id}
use Rattle.spec_links.specs.Admission.{Grants, waiting_then}
use Rattle.spec_links.specs.Sent.{read_in, reads_by, arrival_of, targets_at}
use Rattle.spec_links.specs.Guarded.{tlp_happened}
use Rattle.trusted_memory.specs.declared.queue.WaitingRead.{WaitingRead}
use Rattle.trusted_memory.specs.declared.queue.ReadArrival.{ReadArrival}
use Rattle.trusted_memory.specs.declared.queue.ReadTarget.{ReadTarget}
use Rattle.trusted_memory.specs.declared.span.Span.{Span}
use Rattle.trusted_memory.specs.Waiting.{request_effect}
use Rattle.guarded_memory.specs.declared.status.InterfaceStatus.{InterfaceStatus}
use Rattle.guarded_memory.specs.{Happened, GuardedMemory, MmioLeads, device_request_effect}
use Rattle.trusted_memory.specs.declared.grant.Grant.{Grant}
use Rattle.trusted_memory.specs.{Write, MemoryContents, Leads, memory_write, admitted_write}
use Rattle.tlp_layout.specs.Faults.{place_in}
use Rattle.interface_host.specs.Managers.{InterfaceManagerView, running_grant}
use Rattle.ide_port.specs.{refusal_verdict, numbered_from}
use Rattle.ide_port.specs.declared.answer.Sent.{Sent}
use Rattle.ide_port.specs.declared.answer.Sent.TheVariants as sent
use Rattle.ide_port.specs.declared.answer.Arrival.{Arrival}
use Rattle.ide_port.specs.declared.answer.Arrival.TheVariants.{Malformed, Plain, Unknown, Insecure, NotKeyed, Fail}
use Rattle.ide_port.specs.declared.answer.Arrival.TheVariants.{Held, Accepted}

-- ---- sends

-- of a send at an end that is at this port, whose first sealed packet has this number
abbrev pub end_sent_verdict : PortName → PortName → ℕ → Sent → Verdict
end_sent_verdict end port number (sent.Malformed fault) = v.Malformed port (tlp_word fault) (place_in fault)
end_sent_verdict end port number sent.Plain = v.Plain port
end_sent_verdict end port number (sent.Refused refusal) = refusal_verdict refusal
end_sent_verdict end port number (sent.Sealed packets) = v.Sealed (numbered_from end number packets)

-- ---- effects

-- what the manager says of requesters
abbrev pub grants_in : InterfaceManagerView → Grants
grants_in m link requester = running_grant m link requester

-- of a TLP at a host's port of this link, in this unit
abbrev pub head_grant : Grants → ℕ → UnitName → HeadView → Grant
head_grant grants link unit head =
    record { bound = option_and_then (grants link) (owner_id head); stream = unit.stream; draw = unit.draw }

-- while so many reads wait there
abbrev pub head_effect : List Region → Grants → ℕ → ℕ → UnitName → Bool → Result HeadView TlpFault → Effect
head_effect regions grants link waiting unit t (Err f) = effect.Delivered
head_effect regions grants link waiting unit t (Ok head) =
    request_effect regions t (head_grant grants link unit head) waiting head

abbrev pub head_write : List Region → Grants → ℕ → UnitName → Bool → List ℕ → Result HeadView TlpFault → Option Write
head_write regions grants link unit t payload (Err f) = None
head_write regions grants link unit t payload (Ok head) =
    admitted_write regions t (head_grant grants link unit head) (memory_write head payload)

-- of a TLP at a device's port whose interfaces stand so, while so many reads wait there
abbrev pub claimed_effect : List InterfaceStatus → ℕ → UnitName → Bool → Result HeadView TlpFault → Effect
claimed_effect xs waiting unit t (Err f) = effect.Delivered
claimed_effect xs waiting unit t (Ok head) = device_request_effect xs t unit.stream unit.draw waiting head

-- of a packet whose body is plain
abbrev pub packet_effect : List Region → Grants → List InterfaceStatus → ℕ → PortName → UnitName → Packet → Effect
packet_effect regions grants xs waiting port unit p =
    if is_sync_packet p then effect.Sync
    else if sent_direction port.side == 0
    then head_effect regions grants port.line waiting unit p.prefix.t (read_head_of p.head)
    else claimed_effect xs waiting unit p.prefix.t (read_head_of p.head)

abbrev pub packet_write : List Region → Grants → PortName → UnitName → Packet → Option Write
packet_write regions grants port unit p =
    if not (is_sync_packet p) && (sent_direction port.side == 0)
    then head_write regions grants port.line unit p.prefix.t p.body (read_head_of p.head)
    else None

-- what it makes happen to the memory of a device's interfaces that stand so
abbrev pub packet_stored : List InterfaceStatus → PortName → UnitName → Packet → Option Happened
packet_stored xs port unit p =
    if not (is_sync_packet p) && (sent_direction port.side == 1)
    then tlp_happened xs unit p.prefix.t p.body (read_head_of p.head)
    else None

-- of packets in order, while so many reads wait ahead of the first
abbrev pub effects_from : List Region → Grants → List InterfaceStatus → ℕ → PortName → UnitName → List Packet
    → List Effect
effects_from regions grants xs waiting port unit [] = []
effects_from regions grants xs waiting port unit (p ∷ ps) =
    packet_effect regions grants xs waiting port unit p
    ∷ effects_from regions grants xs (waiting_then (packet_effect regions grants xs waiting port unit p) waiting) port
    unit ps

-- of a TLP of this header, which came so, by its effect: the read that waits, by what reads are of
abbrev pub queued_by : (Span → Option ReadTarget) → ReadArrival → Effect → Result HeadView TlpFault → List WaitingRead
queued_by target came effect.Queued r = read_in target came r
queued_by target came e r = []

-- ---- one packet, and those of a unit

-- A packet got this effect at an end that is at this port. `ws` are the reads that waited there, `m` stood in trusted
-- memory and `g` in the memory of the device's interfaces, which stand as `xs`; then `ws'`, `m'` and `g'` do.
pub record PacketCame (regions : List Region) (grants : Grants) (xs : List InterfaceStatus) (end port : PortName)
    (unit : UnitName)
    (p : Packet) (ws : List WaitingRead) (m : MemoryContents) (g : GuardedMemory)
    (e : Effect) (ws' : List WaitingRead) (m' : MemoryContents) (g' : GuardedMemory) : Type 0 where
  pub effect_is : e ≡ packet_effect regions grants xs (length ws) port unit p
  pub reads_are : ws' ≡ ws ++ queued_by (targets_at port.side xs) (arrival_of end unit p) e (read_head_of p.head)
  pub written : Leads m (packet_write regions grants port unit p ∷ []) m'
  pub stored : MmioLeads g (packet_stored xs port unit p ∷ []) g'

-- the packets of a unit got these effects, likewise
pub record UnitCame (regions : List Region) (grants : Grants) (xs : List InterfaceStatus) (end port : PortName)
    (unit : UnitName)
    (ps : List Packet) (ws : List WaitingRead) (m : MemoryContents) (g : GuardedMemory) (es : List Effect)
    (ws' : List WaitingRead) (m' : MemoryContents) (g' : GuardedMemory) : Type 0 where
  pub effects_are : es ≡ effects_from regions grants xs (length ws) port unit ps
  pub reads_are : ws' ≡ ws ++ reads_by (targets_at port.side xs) end unit es ps
  pub written : Leads m (map (packet_write regions grants port unit) ps) m'
  pub stored : MmioLeads g (map (packet_stored xs port unit) ps) g'

-- ---- verdicts

-- of the unit that was accepted, if one was
abbrev pub of_unit : {A : Type 0} → Arrival → (UnitName → List A) → List A
of_unit (Accepted unit count) f = f unit
of_unit answer f = []

abbrev pub unit_writes : Arrival → (UnitName → List (Option Write)) → List (Option Write)
unit_writes answer writes = of_unit answer writes

-- of an arrival at an end that is at this port; these effects come of an accepted unit
abbrev pub arrival_verdict : PortName → PortName → Arrival → (UnitName → List Effect) → Verdict
arrival_verdict end port (Malformed fault) effects = v.Malformed port (packet_word fault) (packet_place fault)
arrival_verdict end port Plain effects = v.Plain port
arrival_verdict end port (Unknown stream) effects = v.Unknown port stream
arrival_verdict end port (Insecure stream) effects = v.Insecure end stream
arrival_verdict end port (NotKeyed stream sub) effects = v.NotKeyed end stream sub
arrival_verdict end port (Fail stream sub cause) effects = v.Fail end stream sub cause
arrival_verdict end port (Held unit) effects = v.Held end unit
arrival_verdict end port (Accepted unit count) effects = v.Accepted end unit (effects unit)

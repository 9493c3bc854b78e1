-- What a sealed verdict seals: the TLP of a send, the completion that answers the oldest read that waits at a port, or
-- the first TLP that waits at a switch.
use Rattle.std.specs.Prelude.{if◌then◌else◌, ◌++◌, ◌+◌, ◌==◌, ◌∷◌, Bool, Err, List, None, Ok, Option, Result}
use Rattle.std.specs.Prelude.{Some, [], false, slice_get, ℕ}
use Rattle.spec_links.specs.Terms.{option_map_or, PortName, Device, Host, Plan, Event, Access, Reset, Send, Effect}
use Rattle.spec_links.specs.Terms.{UnitName}
use Rattle.spec_links.specs.Terms.{Accepted, Sealed, read_head_of, TlpFault, Packet, History, newest_first, Write}
use Rattle.spec_links.specs.Terms.{byte_last_written, completion_bytes, grant_at, MemReadView, WaitingRead, memory_read}
use Rattle.spec_links.specs.Terms.{InterfaceStatus, Claim, claim_of, claimed_byte, target_of, history_statuses, site_on}
use Rattle.spec_links.specs.Terms.{ReadArrival, ReadTarget, Span, host_completer, Site}
use Rattle.spec_interfaces.specs.{Happened, byte_shown}
use Rattle.ide_types.specs.Ports.{host_port, device_port}
use Rattle.ide_types.specs.declared.port.Side.{Side}
use Rattle.tlp_layout.specs.declared.head.HeadView.{HeadView}
use Rattle.spec_links.specs.Ports.{port_of, sealing_end}
use Rattle.spec_links.specs.Packets.{SealedList}
pub use Rattle.spec_links.specs.Ended.{unit_accepted}
use Rattle.spec_links.specs.Happens.{happenings_in_list}
unfoldable pub use Rattle.spec_links.specs.Ended.{packets_held}
use Rattle.spec_links.specs.Hops.{HopTlp, first_in, leaving_end}
use Rattle.spec_links.specs.Admission.{admitted_writes}
use Rattle.script_events.specs.declared.event.Event.TheVariants.{Forward}
use Rattle.script_events.specs.declared.event.AccessEvent.TheVariants as ae
use Rattle.event_verdicts.specs.declared.access.AccessVerdict.TheVariants as av
use Rattle.event_verdicts.specs.declared.verdict.Effect.TheVariants as effect
use Rattle.event_verdicts.specs.declared.verdict.Verdict.TheVariants as v
use Rattle.spec_links.specs.Plan.{is_same_port}

-- ---- writes

-- the writes of accepted units that are admitted, the newest first
unfoldable pub writes_in_list : Plan → SealedList → History → List Write
writes_in_list plan xs [] = []
writes_in_list plan xs ((e, Accepted port unit effects) ∷ h) =
    newest_first (admitted_writes plan (grant_at plan h) port unit (unit_accepted plan xs h e port unit))
    (writes_in_list plan xs h)
writes_in_list plan xs (_ ∷ h) = writes_in_list plan xs h

-- ---- reads

-- how a packet of a unit came
abbrev pub arrival_of : PortName → UnitName → Packet → ReadArrival
arrival_of end unit p = record { end = end; stream = unit.stream; draw = unit.draw; trusted = p.prefix.t }

-- a read with what it is of
abbrev pub read_of_target : (Span → Option ReadTarget) → ReadArrival → Option MemReadView → List WaitingRead
read_of_target target came None = []
read_of_target target came (Some read) = record { read = read; came = came; target = target read.span } ∷ []

abbrev pub read_in : (Span → Option ReadTarget) → ReadArrival → Result HeadView TlpFault → List WaitingRead
read_in target came (Err f) = []
read_in target came (Ok head) = read_of_target target came (memory_read head)

-- the packets of a unit whose effect is that they are queued
abbrev pub reads_by : (Span → Option ReadTarget) → PortName → UnitName → List Effect → List Packet → List WaitingRead
reads_by target end unit (effect.Queued ∷ es) (p ∷ ps) =
    read_in target (arrival_of end unit p) (read_head_of p.head) ++ reads_by target end unit es ps
reads_by target end unit (e ∷ es) (p ∷ ps) = reads_by target end unit es ps
reads_by target end unit _ _ = []

-- what reads are of: at a device whose interfaces stand so the interface and BAR that claim them, at a host its memory
abbrev pub targets_at : Side → List InterfaceStatus → Span → Option ReadTarget
targets_at Host xs s = None
targets_at Device xs s = target_of xs s

-- the reads that were queued at a port since its link's last reset, in order
unfoldable pub queued_in : Plan → SealedList → History → PortName → List WaitingRead
queued_in plan xs [] port = []
queued_in plan xs ((e, Accepted end unit effects) ∷ h) port =
    if is_same_port (port_of plan end) port
    then queued_in plan xs h port
    ++ reads_by (targets_at port.side (history_statuses plan h port.line)) end unit effects
    (unit_accepted plan xs h e end unit)
    else queued_in plan xs h port
queued_in plan xs ((Reset k ends, v.Reset l) ∷ h) port = if l == port.line then [] else queued_in plan xs h port
queued_in plan xs (_ ∷ h) port = queued_in plan xs h port

-- the port whose oldest read an event answers
abbrev pub answering_port : Event → Option PortName
answering_port (Access (ae.Answer link)) = Some (host_port link)
answering_port (Access (ae.Respond link)) = Some (device_port link)
answering_port e = None

-- whether it answers a read that waits at the port
abbrev pub answers_at : PortName → Event → Bool
answers_at port e = option_map_or (λ (q : PortName). is_same_port q port) (answering_port e) false

-- how many of them were taken since then: a completion was sealed, or the read was dropped
unfoldable pub reads_taken : History → PortName → ℕ
reads_taken [] port = 0
reads_taken ((e, Sealed ds) ∷ h) port = if answers_at port e then reads_taken h port + 1 else reads_taken h port
reads_taken ((e, v.Access (av.Dropped interface cause)) ∷ h) port =
    if answers_at port e then reads_taken h port + 1 else reads_taken h port
reads_taken ((Reset k ends, v.Reset l) ∷ h) port = if l == port.line then 0 else reads_taken h port
reads_taken (_ ∷ h) port = reads_taken h port

-- the oldest that waits
abbrev pub oldest_in : Plan → SealedList → History → PortName → Option WaitingRead
oldest_in plan xs h port = slice_get (queued_in plan xs h port) (reads_taken h port)

-- ---- what is sealed

-- the requester ID of the interface at a place on its link
abbrev pub completer_on : Plan → ℕ → ℕ → ℕ
completer_on plan link place = option_map_or (λ (x : Site). x.plan.requester) (site_on plan link place) 0

-- of a read that is claimed by this: the interface completes it, from its memory as it is now
abbrev pub claim_completion : Plan → ℕ → List Happened → MemReadView → Option Claim → List ℕ
claim_completion plan link happened read None = []
claim_completion plan link happened read (Some c) =
    completion_bytes (completer_on plan link c.interface) (claimed_byte (byte_shown happened) c) read

-- of a read that waits at a port: the host completes it from trusted memory as it is now
abbrev pub completion_at : Plan → SealedList → History → PortName → MemReadView → List ℕ
completion_at plan xs h port read = by port.side
  where
    by : Side → List ℕ
    by Host = completion_bytes host_completer (byte_last_written (writes_in_list plan xs h)) read
    by Device = claim_completion plan port.line (happenings_in_list plan xs h port.line) read
        (claim_of (history_statuses plan h port.line) read.span)

-- the completion of the oldest
abbrev pub oldest_completion : Plan → SealedList → History → PortName → List ℕ
oldest_completion plan xs h port =
    option_map_or (λ (r : WaitingRead). completion_at plan xs h port r.read) (oldest_in plan xs h port) []

unfoldable pub bytes_by : Plan → SealedList → History → Event → List ℕ
bytes_by plan xs h (Send port bytes more trusted) = bytes
bytes_by plan xs h (Access (ae.Answer link)) = oldest_completion plan xs h (host_port link)
bytes_by plan xs h (Access (ae.Respond link)) = oldest_completion plan xs h (device_port link)
bytes_by plan xs h (Forward link d) = option_map_or (λ (x : HopTlp). x.bytes) (first_in plan xs h link d) []
bytes_by plan xs h e = []

-- the end that seals them: an answer's is the host's port, a response's that on which its read came, a forward's is at
-- the switch
abbrev pub port_by : Plan → SealedList → History → Event → PortName
port_by plan xs h (Send port bytes more trusted) = sealing_end plan port bytes
port_by plan xs h (Access (ae.Answer link)) = host_port link
port_by plan xs h (Access (ae.Respond link)) =
    option_map_or (λ (r : WaitingRead). r.came.end) (oldest_in plan xs h (device_port link)) (device_port link)
port_by plan xs h (Forward link d) = leaving_end link d
port_by plan xs h e = record { side = Host; line = 0 }

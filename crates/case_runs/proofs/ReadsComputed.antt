-- The worked cases of reads by computation.
use Rattle.std.specs.Prelude.{◌≡◌, List, [], ◌∷◌, Option, None, true, drop, slice_get, bytes_eq}
use Rattle.std.specs.Option.{option_map_or}
use Rattle.std.proofs.Common.{refl, ap, ◌∙◌}
use Rattle.ide_types.specs.Ports.{host_port}
use Rattle.ide_types.specs.Walks.{walked_from, walk_length, whole_reading}
use Rattle.tlp_layout.specs.Reading.{read_head_of}
use Rattle.ide_types.specs.declared.port.Side.TheVariants.{Host}
use Rattle.ide_types.specs.declared.sub.SubKind.TheVariants.{Cpl}
use Rattle.tlp_layout.specs.Outgoing.{Outgoing, outgoing_of}
use Rattle.spec_interfaces.specs.Views.{grant_at}
use Rattle.trusted_memory.specs.Writes.{Write, byte_last_written, newest_first}
use Rattle.trusted_memory.specs.declared.queue.WaitingRead.{WaitingRead}
use Rattle.trusted_memory.specs.Completions.{completion_bytes}
use Rattle.spec_links.specs.Plan.{streams_of}
use Rattle.spec_links.specs.History.{sealed_packets, sent_bytes}
use Rattle.spec_links.specs.Packets.{ArrivedBytes, arrival_packet}
use Rattle.spec_links.specs.Memory.{admitted_writes}
use Rattle.spec_links.specs.Sent.{queued_in, reads_taken, reads_by, writes_in_list, bytes_by, unit_accepted}
use Rattle.spec_links.specs.Due.{due, first_answered, site_answer, outgoing_completion}
use Rattle.spec_links.specs.Terms.{ReadTarget, Span, host_completer, site_of_requester}
use Rattle.spec_keys.specs.History.{History}
use Rattle.event_verdicts.specs.declared.verdict.Verdict.{Verdict}
use Rattle.script_events.specs.declared.event.Event.TheVariants.{Pass}
use Rattle.event_verdicts.specs.declared.access.AccessVerdict.TheVariants as av
use Rattle.event_verdicts.specs.declared.verdict.Effect.TheVariants.{Queued}
use Rattle.event_verdicts.specs.declared.verdict.BlockCause.TheVariants.{NotRunning}
use Rattle.event_verdicts.specs.declared.verdict.Verdict.TheVariants as v
use Rattle.case_runs.specs.InterfaceCases.{interface_plan}
use Rattle.case_runs.specs.MemoryCases.{IsInterfaceDue}
use Rattle.case_runs.specs.ReadCases.{ReadCases, OneMore, sealed_request, queued_read, answer, answered_read, read_unit}
use Rattle.case_runs.specs.ReadCases.{written_history, waiting_history, halted_waiting, applied_write, waiting_read}
use Rattle.case_runs.specs.ReadCases.{read_completion, trusted_packet}
use Rattle.case_runs.proofs.Ends.{comes_at, ends_at}
use Rattle.case_runs.proofs.MemoryPackets.{later_read, later_read_is, later_read_tag, later_read_tag_is, first_read_is}
use Rattle.case_runs.proofs.MemoryComputed.{write_admitted}
use Rattle.case_runs.proofs.Literals.{due_on_literals}

-- each is a declaration of its own, since the checker counts its steps by declarations
asked_due : IsInterfaceDue written_history (sealed_request 2 1)
unfolding due_on_literals
asked_due = refl

queued_due : IsInterfaceDue (sealed_request 2 1 ∷ written_history) (queued_read 2)
unfolding due_on_literals
queued_due = ends_at interface_plan (sealed_request 2 1 ∷ written_history) _ (host_port 0) later_read read_unit true
    (ap (comes_at (host_port 0)) later_read_is) refl (ap (bytes_eq later_read_tag) later_read_tag_is)

-- ---- what stands in memory, and what waits

-- a host's reads are of its memory
abbrev none_aimed : Span → Option ReadTarget
none_aimed s = None

of_read : List (Option Write)
of_read = admitted_writes interface_plan (grant_at interface_plan (sealed_request 2 1 ∷ written_history)) (host_port 0)
    read_unit
    (unit_accepted interface_plan (sealed_packets interface_plan waiting_history) (sealed_request 2 1 ∷ written_history)
    (Pass 2) (host_port 0) read_unit)

none_of_read : newest_first of_read (applied_write ∷ []) ≡ applied_write ∷ []
unfolding due_on_literals of_read
none_of_read =
    ap (λ (o : Option ArrivedBytes). newest_first
    (admitted_writes interface_plan (grant_at interface_plan (sealed_request 2 1 ∷ written_history)) (host_port 0)
    read_unit (arrival_packet o ∷ [])) (applied_write ∷ []))
    (ap (comes_at (host_port 0)) later_read_is)

before_read : writes_in_list interface_plan (sealed_packets interface_plan waiting_history) written_history
    ≡ applied_write ∷ []
unfolding due_on_literals
before_read = write_admitted

then_read : writes_in_list interface_plan (sealed_packets interface_plan waiting_history) waiting_history
    ≡ newest_first of_read
    (writes_in_list interface_plan (sealed_packets interface_plan waiting_history) written_history)
unfolding writes_in_list of_read
then_read = refl

writes_are : writes_in_list interface_plan (sealed_packets interface_plan waiting_history) waiting_history
    ≡ applied_write ∷ []
writes_are = then_read ∙ (ap (newest_first of_read) before_read ∙ none_of_read)

queued_are : queued_in interface_plan (sealed_packets interface_plan waiting_history) waiting_history (host_port 0)
    ≡ waiting_read ∷ []
unfolding due_on_literals
queued_are = ap (λ (o : Option ArrivedBytes). reads_by none_aimed (host_port 0) read_unit (Queued ∷ [])
    (arrival_packet o ∷ []))
    (ap (comes_at (host_port 0)) later_read_is)

-- ---- the answer

bytes_from_both : sent_bytes interface_plan waiting_history answer ≡ option_map_or
    (λ (r : WaitingRead). completion_bytes host_completer (byte_last_written (applied_write ∷ [])) r.read)
    (slice_get (waiting_read ∷ []) (reads_taken waiting_history (host_port 0))) []
unfolding bytes_by
bytes_from_both i = option_map_or
    (λ (r : WaitingRead). completion_bytes host_completer (byte_last_written (writes_are i)) r.read)
    (slice_get (queued_are i) (reads_taken waiting_history (host_port 0))) []

completed : option_map_or
    (λ (r : WaitingRead). completion_bytes host_completer (byte_last_written (applied_write ∷ [])) r.read)
    (slice_get (waiting_read ∷ []) (reads_taken waiting_history (host_port 0))) [] ≡ read_completion
unfolding completion_bytes byte_last_written reads_taken
completed = refl

bytes_are : sent_bytes interface_plan waiting_history answer ≡ read_completion
bytes_are = bytes_from_both ∙ completed

-- of reads that wait, the oldest of which is completed so
abbrev answered_with : History → Outgoing → List WaitingRead → Verdict
answered_with h out rs =
    first_answered (λ (r : WaitingRead). site_answer interface_plan h (host_port 0) r.came.draw
    (site_of_requester interface_plan 0 r.read.requester) out) 0
    rs

due_from_both : due interface_plan waiting_history answer ≡ answered_with waiting_history
    (outgoing_of (streams_of interface_plan 0) Host read_completion)
    (drop (reads_taken waiting_history (host_port 0)) (waiting_read ∷ []))
unfolding due_on_literals
due_from_both i = answered_with waiting_history (outgoing_of (streams_of interface_plan 0) Host (bytes_are i))
    (drop (reads_taken waiting_history (host_port 0)) (queued_are i))

sent_then : answered_with waiting_history (outgoing_of (streams_of interface_plan 0) Host read_completion)
    (drop (reads_taken waiting_history (host_port 0)) (waiting_read ∷ []))
    ≡ v.Sealed (trusted_packet 3 (host_port 0) Cpl 0)
unfolding due_on_literals
sent_then = refl

answer_due : IsInterfaceDue waiting_history answered_read
answer_due = due_from_both ∙ sent_then

queued_still : queued_in interface_plan (sealed_packets interface_plan (answered_read ∷ waiting_history))
    (answered_read ∷ waiting_history) (host_port 0) ≡ waiting_read ∷ []
unfolding due_on_literals
queued_still = ap (λ (o : Option ArrivedBytes). reads_by none_aimed (host_port 0) read_unit (Queued ∷ [])
    (arrival_packet o ∷ []))
    (ap (comes_at (host_port 0)) later_read_is)

empty_due : IsInterfaceDue (answered_read ∷ waiting_history) (answer, v.Access (av.Empty 0))
unfolding due_on_literals
empty_due =
    ap (λ (rs : List WaitingRead). answered_with (answered_read ∷ waiting_history)
    (outgoing_completion interface_plan (answered_read ∷ waiting_history) 0)
    (drop (reads_taken (answered_read ∷ waiting_history) (host_port 0)) rs))
    queued_still

-- ---- of a halted interface, and of one unit

queued_halted : queued_in interface_plan (sealed_packets interface_plan halted_waiting) halted_waiting (host_port 0)
    ≡ waiting_read ∷ []
unfolding due_on_literals
queued_halted = ap (λ (o : Option ArrivedBytes). reads_by none_aimed (host_port 0) read_unit (Queued ∷ [])
    (arrival_packet o ∷ []))
    (ap (comes_at (host_port 0)) first_read_is)

dropped_due : IsInterfaceDue halted_waiting (answer, v.Access (av.Dropped 0 NotRunning))
unfolding due_on_literals
dropped_due =
    ap (λ (rs : List WaitingRead). answered_with halted_waiting (outgoing_completion interface_plan halted_waiting 0)
    (drop (reads_taken halted_waiting (host_port 0)) rs))
    queued_halted

one_more : OneMore
unfolding read_head_of whole_reading walk_length walked_from
one_more = refl

pub reads_computed : ReadCases
reads_computed = (asked_due, queued_due, answer_due, bytes_are, empty_due, dropped_due, one_more)

-- The worked cases of reads of a device's memory by computation.
use Rattle.std.specs.Prelude.{◌≡◌, ℕ, Bool, true, false, List, [], ◌∷◌, Option, drop, slice_get, bytes_eq}
use Rattle.std.specs.Option.{option_map_or}
use Rattle.std.proofs.Common.{refl, ap, ap₂, ◌∙◌}
use Rattle.aes_block.specs.Aes.{key_words, temp, mixed_byte, sbox, sub_bytes, shift_rows, mix_columns, add_round_key}
use Rattle.aes_block.specs.Aes.{sub_word, expansion, rounds, cipher, aes}
use Rattle.gcm_seal.specs.Gcm.{counter, key_stream, masked_bytes, open_of}
use Rattle.ide_types.specs.Ports.{device_port}
use Rattle.tlp_layout.specs.Reading.{read_of}
use Rattle.ide_prefix.specs.Packet.{Packet, packet_bytes}
use Rattle.trusted_memory.specs.declared.queue.WaitingRead.{WaitingRead}
use Rattle.spec_keys.specs.History.{History}
use Rattle.spec_interfaces.specs.{Happened}
use Rattle.spec_links.specs.Terms.{Span, ReadTarget, claim_of, judged_claim, target_of, history_statuses}
use Rattle.spec_links.specs.History.{sealed_packets, sent_bytes}
use Rattle.spec_links.specs.Packets.{ArrivedBytes, arrival_packet}
use Rattle.spec_links.specs.Happens.{happenings_in_list}
use Rattle.spec_links.specs.Sent.{queued_in, reads_taken, reads_by, claim_completion, bytes_by}
use Rattle.spec_links.specs.Due.{due, first_answered, target_response, response_judged}
use Rattle.script_events.specs.declared.event.Event.TheVariants.{Arrive}
use Rattle.event_verdicts.specs.declared.access.AccessVerdict.TheVariants as av
use Rattle.event_verdicts.specs.declared.verdict.Effect.TheVariants.{Queued}
use Rattle.event_verdicts.specs.declared.verdict.BlockCause.TheVariants.{NotTrusted, NotRunning}
use Rattle.event_verdicts.specs.declared.verdict.Verdict.{Verdict}
use Rattle.event_verdicts.specs.declared.verdict.Verdict.TheVariants as v
use Rattle.case_runs.specs.InterfaceCases.{interface_plan}
use Rattle.case_runs.specs.MemoryCases.{IsInterfaceDue}
use Rattle.case_runs.specs.MmioCases.{stored_history, keyed_history}
use Rattle.case_runs.specs.ReadCases.{read_unit}
use Rattle.case_runs.specs.DeviceReadCases.{DeviceReadCases, asked_with_t, queued_bar_read, asked_history, responded}
use Rattle.case_runs.specs.DeviceReadCases.{respond, waiting_bar_read, bar_completion, halted_asked, asked_without_t}
use Rattle.case_runs.specs.DeviceReadCases.{unlocked_asked, lock_now}
use Rattle.case_runs.proofs.Ends.{comes_at, ends_at}
use Rattle.case_runs.proofs.MemoryPackets.{host_1_write, host_1_write_is, asked_read, asked_read_is, asked_tag}
use Rattle.case_runs.proofs.MemoryPackets.{asked_tag_is, untrusted_read, untrusted_read_is, untrusted_tag}
use Rattle.case_runs.proofs.MemoryPackets.{untrusted_tag_is}
use Rattle.case_runs.proofs.MmioComputed.{stored_from}
use Rattle.case_runs.proofs.Literals.{due_on_literals}

-- each is a declaration of its own, since the checker counts its steps by declarations
asked_due : IsInterfaceDue stored_history asked_with_t
unfolding due_on_literals
asked_due = refl

queued_due : IsInterfaceDue (asked_with_t ∷ stored_history) (queued_bar_read 2)
unfolding due_on_literals
queued_due = ends_at interface_plan (asked_with_t ∷ stored_history) _ (device_port 0) asked_read read_unit true
    (ap (comes_at (device_port 0)) asked_read_is) refl (ap (bytes_eq asked_tag) asked_tag_is)

-- ---- what waits

-- what the packet that came asks for, after a history
abbrev queued_of : History → Option ArrivedBytes → List WaitingRead
queued_of h o = reads_by (λ (s : Span). target_of (history_statuses interface_plan h 0) s) (device_port 0) read_unit
    (Queued ∷ []) (arrival_packet o ∷ [])

abbrev queue_of : History → List WaitingRead
queue_of h = queued_in interface_plan (sealed_packets interface_plan h) h (device_port 0)

queued_are : queue_of asked_history ≡ waiting_bar_read true ∷ []
unfolding due_on_literals
queued_are = ap (queued_of (asked_with_t ∷ stored_history)) (ap (comes_at (device_port 0)) asked_read_is)

queued_still : queue_of (responded ∷ asked_history) ≡ waiting_bar_read true ∷ []
unfolding due_on_literals
queued_still = ap (queued_of (asked_with_t ∷ stored_history)) (ap (comes_at (device_port 0)) asked_read_is)

queued_halted : queue_of halted_asked ≡ waiting_bar_read true ∷ []
unfolding due_on_literals
queued_halted = ap (queued_of (asked_with_t ∷ stored_history)) (ap (comes_at (device_port 0)) asked_read_is)

-- ---- what stands in the memory of the interface

-- what happened to it, if these bytes brought the write and the read
abbrev happened_from : List ℕ → List ℕ → List Happened
happened_from write read =
    happenings_in_list interface_plan (sealed_packets interface_plan asked_history)
    ((Arrive (device_port 0) read, (queued_bar_read 2).1) ∷ asked_with_t ∷ stored_from write) 0

happened_are : happenings_in_list interface_plan (sealed_packets interface_plan asked_history) asked_history 0
    ≡ happened_from (packet_bytes host_1_write) (packet_bytes asked_read)
unfolding due_on_literals
happened_are = ap₂ happened_from (ap packet_bytes host_1_write_is) (ap packet_bytes asked_read_is)

-- ---- the response

abbrev completed_from : List Happened → List WaitingRead → List ℕ
completed_from happened rs =
    option_map_or (λ (r : WaitingRead). claim_completion interface_plan 0 happened r.read
    (claim_of (history_statuses interface_plan asked_history 0) r.read.span))
    (slice_get rs (reads_taken asked_history (device_port 0))) []

bytes_from_both : sent_bytes interface_plan asked_history respond
    ≡ completed_from (happened_from (packet_bytes host_1_write) (packet_bytes asked_read)) (waiting_bar_read true ∷ [])
unfolding bytes_by
bytes_from_both = ap₂ completed_from happened_are queued_are

completed : completed_from (happened_from (packet_bytes host_1_write) (packet_bytes asked_read))
    (waiting_bar_read true ∷ []) ≡ bar_completion
unfolding due_on_literals open_of masked_bytes counter key_stream aes cipher rounds sub_bytes shift_rows mix_columns
    mixed_byte
    add_round_key expansion key_words temp sub_word sbox
completed = refl

bytes_are : sent_bytes interface_plan asked_history respond ≡ bar_completion
bytes_are = bytes_from_both ∙ completed

-- of reads that wait after a history the oldest is answered
abbrev answered_after : History → List WaitingRead → Verdict
answered_after h rs =
    first_answered (λ (r : WaitingRead). target_response interface_plan h 0 r r.target) 0
    (drop (reads_taken h (device_port 0)) rs)

-- the completion has these bytes
abbrev judged_with : List ℕ → Verdict
judged_with bytes =
    response_judged interface_plan asked_history (waiting_bar_read true).came 0 (read_of bytes)
    (judged_claim (claim_of (history_statuses interface_plan asked_history 0) (waiting_bar_read true).read.span)
    (record { interface = 0; bar = 0 })
    (waiting_bar_read true).came)

oldest_judged : answered_after asked_history (waiting_bar_read true ∷ [])
    ≡ judged_with (sent_bytes interface_plan asked_history respond)
unfolding due_on_literals
oldest_judged = refl

sealed_then : judged_with bar_completion ≡ responded.1
unfolding due_on_literals
sealed_then = refl

from_queue : due interface_plan asked_history respond ≡ answered_after asked_history (waiting_bar_read true ∷ [])
unfolding due_on_literals
from_queue = ap (answered_after asked_history) queued_are

respond_due : IsInterfaceDue asked_history responded
respond_due = from_queue ∙ (oldest_judged ∙ (ap judged_with bytes_are ∙ sealed_then))

empty_due : IsInterfaceDue (responded ∷ asked_history) (respond, v.Access (av.Empty 0))
unfolding due_on_literals
empty_due = ap (answered_after (responded ∷ asked_history)) queued_still

halted_due : IsInterfaceDue halted_asked (respond, v.Access (av.Dropped 0 NotRunning))
unfolding due_on_literals
halted_due = ap (answered_after halted_asked) queued_halted

-- ---- before a lock

untrusted_due : IsInterfaceDue keyed_history asked_without_t
unfolding due_on_literals
untrusted_due = refl

untrusted_queued : IsInterfaceDue (asked_without_t ∷ keyed_history) (queued_bar_read 1)
unfolding due_on_literals
untrusted_queued = ends_at interface_plan (asked_without_t ∷ keyed_history) _ (device_port 0) untrusted_read read_unit
    true (ap (comes_at (device_port 0)) untrusted_read_is) refl (ap (bytes_eq untrusted_tag) untrusted_tag_is)

locked : IsInterfaceDue unlocked_asked lock_now
unfolding due_on_literals
locked = refl

queued_locked : queue_of (lock_now ∷ unlocked_asked) ≡ waiting_bar_read false ∷ []
unfolding due_on_literals
queued_locked = ap (queued_of (asked_without_t ∷ keyed_history)) (ap (comes_at (device_port 0)) untrusted_read_is)

locked_due : IsInterfaceDue (lock_now ∷ unlocked_asked) (respond, v.Access (av.Dropped 0 NotTrusted))
unfolding due_on_literals
locked_due = ap (answered_after (lock_now ∷ unlocked_asked)) queued_locked

pub device_reads_computed : DeviceReadCases
device_reads_computed = (
  asked_due,
  queued_due,
  respond_due,
  bytes_are,
  empty_due,
  halted_due,
  untrusted_due,
  untrusted_queued,
  locked,
  locked_due,
)

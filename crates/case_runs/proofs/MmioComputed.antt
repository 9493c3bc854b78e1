-- The worked cases of guarded memory by computation.
use Rattle.std.specs.Prelude.{ℕ, List, false, true, None, [], ◌∷◌, bytes_eq}
use Rattle.std.proofs.Common.{refl, ap}
use Rattle.aes_block.specs.Aes.{key_words, temp, mixed_byte, sbox, sub_bytes, shift_rows, mix_columns, add_round_key}
use Rattle.aes_block.specs.Aes.{sub_word, expansion, rounds, cipher, aes}
use Rattle.gcm_seal.specs.Gcm.{counter, key_stream, masked_bytes, open_of}
use Rattle.ide_prefix.specs.Packet.{packet_bytes}
use Rattle.ide_types.specs.Ports.{device_port}
use Rattle.ide_types.specs.declared.sub.SubKind.TheVariants.{Pr}
use Rattle.spec_keys.specs.History.{History}
use Rattle.event_verdicts.specs.declared.verdict.UnitName.{UnitName}
use Rattle.case_runs.specs.InterfaceCases.{interface_plan}
use Rattle.case_runs.proofs.Ends.{comes_at, ends_at}
use Rattle.case_runs.proofs.MemoryPackets.{host_1_write, host_1_write_is, host_1_tag, host_1_tag_is}
use Rattle.case_runs.proofs.MemoryPackets.{host_2_write, host_2_write_is, host_2_tag, host_2_tag_is}
use Rattle.spec_links.specs.Guarded.{link_happenings, mmio_by_happenings}
use Rattle.script_events.specs.declared.event.Event.TheVariants.{Arrive, Interface}
use Rattle.script_events.specs.declared.event.InterfaceEvent.TheVariants as ie
use Rattle.ide_types.specs.declared.verdict.InterfaceVerdict.TheVariants as iv
use Rattle.event_verdicts.specs.declared.verdict.Effect.TheVariants.{Stored, Blocked}
use Rattle.event_verdicts.specs.declared.verdict.BlockCause.TheVariants.{NotTrusted, NotRunning}
use Rattle.event_verdicts.specs.declared.verdict.Verdict.TheVariants as v
use Rattle.case_runs.specs.MemoryCases.{IsInterfaceDue}
use Rattle.case_runs.specs.MmioCases.{MmioCases, sent_write, taken_write, shows, running_history, stored_history}
use Rattle.case_runs.specs.MmioCases.{blocked_history, halted_mmio_history, keyed_history, refused_history}
use Rattle.case_runs.proofs.Literals.{due_on_literals}

abbrev write_unit : ℕ → UnitName
write_unit n = record { stream = 5; sub = Pr; draw = 0; unit = n }

-- the first write is stored, if these bytes bring it
abbrev pub stored_from : List ℕ → History
stored_from bytes = (Arrive (device_port 0) bytes, (taken_write 1 Stored).1) ∷ sent_write 1 true ∷ running_history

-- each is a declaration of its own, since the checker counts its steps by declarations
first_sent : IsInterfaceDue running_history (sent_write 1 true)
unfolding due_on_literals
first_sent = refl

first_stored : IsInterfaceDue (sent_write 1 true ∷ running_history) (taken_write 1 Stored)
unfolding due_on_literals
first_stored = ends_at interface_plan (sent_write 1 true ∷ running_history) _ (device_port 0) host_1_write
    (write_unit 1) true (ap (comes_at (device_port 0)) host_1_write_is) refl (ap (bytes_eq host_1_tag) host_1_tag_is)

first_shown : IsInterfaceDue stored_history (shows (0xaa ∷ 0xbb ∷ 0xcc ∷ 0xdd ∷ []))
unfolding due_on_literals open_of masked_bytes counter key_stream aes cipher rounds sub_bytes shift_rows mix_columns
    mixed_byte
    add_round_key expansion key_words temp sub_word sbox
first_shown =
    ap (λ (bytes : List ℕ). mmio_by_happenings interface_plan (link_happenings interface_plan (stored_from bytes)) 0 0 0
    4)
    (ap packet_bytes host_1_write_is)

second_sent : IsInterfaceDue stored_history (sent_write 2 false)
unfolding due_on_literals
second_sent = refl

second_blocked : IsInterfaceDue (sent_write 2 false ∷ stored_history) (taken_write 2 (Blocked NotTrusted))
unfolding due_on_literals
second_blocked = ends_at interface_plan (sent_write 2 false ∷ stored_history) _ (device_port 0) host_2_write
    (write_unit 2) true (ap (comes_at (device_port 0)) host_2_write_is) refl (ap (bytes_eq host_2_tag) host_2_tag_is)

halted : IsInterfaceDue blocked_history (Interface (ie.Halt 0 None), v.Interface (iv.Halted 0 1))
unfolding due_on_literals
halted = refl

nothing_shown : IsInterfaceDue halted_mmio_history (shows (0 ∷ 0 ∷ 0 ∷ 0 ∷ []))
unfolding due_on_literals
nothing_shown = refl

trusted_blocked : IsInterfaceDue (sent_write 1 true ∷ keyed_history) (taken_write 1 (Blocked NotRunning))
unfolding due_on_literals
trusted_blocked = ends_at interface_plan (sent_write 1 true ∷ keyed_history) _ (device_port 0) host_1_write
    (write_unit 1) true (ap (comes_at (device_port 0)) host_1_write_is) refl (ap (bytes_eq host_1_tag) host_1_tag_is)

untrusted_stored : IsInterfaceDue (sent_write 2 false ∷ refused_history) (taken_write 2 Stored)
unfolding due_on_literals
untrusted_stored = ends_at interface_plan (sent_write 2 false ∷ refused_history) _ (device_port 0) host_2_write
    (write_unit 2) true (ap (comes_at (device_port 0)) host_2_write_is) refl (ap (bytes_eq host_2_tag) host_2_tag_is)

pub mmio_computed : MmioCases
mmio_computed = (
  first_sent,
  first_stored,
  first_shown,
  second_sent,
  second_blocked,
  halted,
  nothing_shown,
  trusted_blocked,
  untrusted_stored,
)

-- Two packets of a unit.
use Rattle.std.proofs.Common.{◌≡◌, [], ◌∷◌, true, false, refl, ap}
use Rattle.spec_links.specs.Due.{due}
use Rattle.gcm_seal.specs.Gcm.{masked_bytes}
use Rattle.ide_types.specs.declared.sub.SubKind.TheVariants.{Npr}
use Rattle.std.specs.Prelude.{bytes_eq}
use Rattle.case_runs.proofs.Ends.{comes, ends, stops}
use Rattle.case_runs.proofs.Packets.{first_read, first_read_is, reads_tag, reads_tag_is, second_read, second_read_is}
use Rattle.case_runs.specs.Due.{AreDue}
use Rattle.case_runs.specs.ScriptCases.{plan, establish_step, seal_read_step, held_packet, both_accepted}
use Rattle.case_runs.specs.ScriptCases.{unfinished_write, unfinished_send, two_in_a_unit}
use Rattle.case_runs.proofs.Literals.{due_on_literals}

two_2 : due (plan 2 false) (establish_step ∷ []) (seal_read_step 1 false).0 ≡ (seal_read_step 1 false).1
unfolding due_on_literals
two_2 = refl

two_3 : due (plan 2 false) (seal_read_step 1 false ∷ establish_step ∷ []) (seal_read_step 2 true).0
    ≡ (seal_read_step 2 true).1
unfolding due_on_literals
two_3 = refl

two_4 : due (plan 2 false) (seal_read_step 2 true ∷ seal_read_step 1 false ∷ establish_step ∷ []) held_packet.0
    ≡ held_packet.1
unfolding due_on_literals masked_bytes
two_4 = stops (plan 2 false) (seal_read_step 2 true ∷ seal_read_step 1 false ∷ establish_step ∷ []) _ first_read _
    (ap comes first_read_is) refl

two_5 : due (plan 2 false) (held_packet ∷ seal_read_step 2 true ∷ seal_read_step 1 false ∷ establish_step ∷ [])
    both_accepted.0 ≡ both_accepted.1
unfolding due_on_literals masked_bytes
two_5 =
    ends (plan 2 false) (held_packet ∷ seal_read_step 2 true ∷ seal_read_step 1 false ∷ establish_step ∷ []) _
    second_read Npr 0 1
    true
    (ap comes second_read_is) refl (ap (bytes_eq reads_tag) reads_tag_is)

two_6 : due (plan 2 false)
    (both_accepted ∷ held_packet ∷ seal_read_step 2 true ∷ seal_read_step 1 false ∷ establish_step ∷ [])
    unfinished_write.0 ≡ unfinished_write.1
unfolding due_on_literals
two_6 = refl

two_7 : due (plan 2 false)
    (unfinished_write ∷ both_accepted ∷ held_packet ∷ seal_read_step 2 true ∷ seal_read_step 1 false ∷ establish_step
    ∷ []) unfinished_send.0 ≡ unfinished_send.1
unfolding due_on_literals
two_7 = refl

pub two_due : AreDue (plan 2 false) [] two_in_a_unit
unfolding due_on_literals
two_due = (refl, (two_2, (two_3, (two_4, (two_5, (two_6, (two_7, tt)))))))

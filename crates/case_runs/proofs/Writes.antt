-- Writes that are sealed, accepted, altered or missing.
use Rattle.std.proofs.Common.{◌≡◌, [], ◌∷◌, false, refl, ap, true}
use Rattle.script_events.specs.declared.event.Event.TheVariants.{Pass, Alter}
use Rattle.spec_links.specs.Due.{due}
use Rattle.gcm_seal.specs.Gcm.{masked_bytes}
use Rattle.ide_prefix.specs.Packet.{Packet}
use Rattle.ide_types.specs.declared.sub.SubKind.TheVariants.{Pr, Npr}
use Rattle.std.specs.Prelude.{bytes_eq}
use Rattle.spec_links.specs.History.{altered_arrival}
use Rattle.case_runs.proofs.Ends.{comes, ends, stops}
use Rattle.case_runs.proofs.Packets.{missing_tag_is, read_behind, read_behind_is, read_tag, read_tag_is}
use Rattle.case_runs.proofs.Packets.{rekeyed_write, repeated_tag_is, tag_1, tag_1_is, tag_3, trusted_tag_is}
use Rattle.case_runs.proofs.Packets.{trusted_write, write_1, write_1_is, write_3, write_3_is}
use Rattle.case_runs.specs.Due.{AreDue}
use Rattle.case_runs.specs.ScriptCases.{packet, plan, establish_step, seal_step, accepted_unit, fails, fails_key}
use Rattle.case_runs.specs.ScriptCases.{insecure, sealed_read, fails_order, accepted_once, trusted_on_the_way}
use Rattle.case_runs.specs.ScriptCases.{other_set_on_the_way, one_missing, read_ahead}
use Rattle.case_runs.proofs.Literals.{due_on_literals}

accepted_once_3 : due (plan 1 false) (seal_step 1 0 1 ∷ establish_step ∷ []) (accepted_unit 1 0 1).0
    ≡ (accepted_unit 1 0 1).1
unfolding due_on_literals
accepted_once_3 = ends (plan 1 false) (seal_step 1 0 1 ∷ establish_step ∷ []) _ write_1 Pr 0 1 true
    (ap comes write_1_is) refl (ap (bytes_eq tag_1) tag_1_is)

accepted_once_4 : due (plan 1 false) (accepted_unit 1 0 1 ∷ seal_step 1 0 1 ∷ establish_step ∷ []) (fails (Pass 1)).0
    ≡ (fails (Pass 1)).1
unfolding due_on_literals
accepted_once_4 = ends (plan 1 false) (accepted_unit 1 0 1 ∷ seal_step 1 0 1 ∷ establish_step ∷ []) _ write_1 Pr 0 2
    false (ap comes write_1_is) refl (ap (bytes_eq tag_1) repeated_tag_is)

accepted_once_5 : due (plan 1 false) (fails (Pass 1) ∷ accepted_unit 1 0 1 ∷ seal_step 1 0 1 ∷ establish_step ∷ [])
    insecure.0 ≡ insecure.1
unfolding due_on_literals
accepted_once_5 =
    stops (plan 1 false) (fails (Pass 1) ∷ accepted_unit 1 0 1 ∷ seal_step 1 0 1 ∷ establish_step ∷ []) _ write_1 _
    (ap comes write_1_is) refl

pub accepted_once_due : AreDue (plan 1 false) [] accepted_once
unfolding due_on_literals
accepted_once_due = (refl, (refl, (accepted_once_3, (accepted_once_4, (accepted_once_5, tt)))))

trusted_3 : due (plan 1 false) (seal_step 1 0 1 ∷ establish_step ∷ []) (fails (Alter 1 1 0x20)).0
    ≡ (fails (Alter 1 1 0x20)).1
unfolding due_on_literals
trusted_3 =
    ends (plan 1 false) (seal_step 1 0 1 ∷ establish_step ∷ []) _ trusted_write Pr 0 1 false
    (ap (λ (p : Packet). altered_arrival (plan 1 false) 1 0x20 (packet 1 Pr 0 1 true 0, p)) write_1_is) refl
    (ap (bytes_eq tag_1) trusted_tag_is)

pub trusted_due : AreDue (plan 1 false) [] trusted_on_the_way
unfolding due_on_literals
trusted_due = (refl, (refl, (trusted_3, tt)))

rekeyed_3 : due (plan 1 false) (seal_step 1 0 1 ∷ establish_step ∷ []) (fails_key (Alter 1 1 0x40)).0
    ≡ (fails_key (Alter 1 1 0x40)).1
unfolding due_on_literals
rekeyed_3 = stops (plan 1 false) (seal_step 1 0 1 ∷ establish_step ∷ []) _ rekeyed_write _
    (ap (λ (p : Packet). altered_arrival (plan 1 false) 1 0x40 (packet 1 Pr 0 1 true 0, p)) write_1_is) refl

pub rekeyed_due : AreDue (plan 1 false) [] other_set_on_the_way
unfolding due_on_literals
rekeyed_due = (refl, (refl, (rekeyed_3, tt)))

one_missing_5 : due (plan 1 false) (seal_step 3 0 3 ∷ seal_step 2 0 2 ∷ seal_step 1 0 1 ∷ establish_step ∷ [])
    (accepted_unit 1 0 1).0 ≡ (accepted_unit 1 0 1).1
unfolding due_on_literals
one_missing_5 =
    ends (plan 1 false) (seal_step 3 0 3 ∷ seal_step 2 0 2 ∷ seal_step 1 0 1 ∷ establish_step ∷ []) _ write_1 Pr 0 1
    true
    (ap comes write_1_is) refl (ap (bytes_eq tag_1) tag_1_is)

one_missing_6 : due (plan 1 false)
    (accepted_unit 1 0 1 ∷ seal_step 3 0 3 ∷ seal_step 2 0 2 ∷ seal_step 1 0 1 ∷ establish_step ∷ [])
    (fails (Pass 3)).0 ≡ (fails (Pass 3)).1
unfolding due_on_literals
one_missing_6 =
    ends (plan 1 false) (accepted_unit 1 0 1 ∷ seal_step 3 0 3 ∷ seal_step 2 0 2 ∷ seal_step 1 0 1 ∷ establish_step
    ∷ []) _ write_3
    Pr 0
    2 false
    (ap comes write_3_is) refl (ap (bytes_eq tag_3) missing_tag_is)

pub one_missing_due : AreDue (plan 1 false) [] one_missing
unfolding due_on_literals
one_missing_due = (refl, (refl, (refl, (refl, (one_missing_5, (one_missing_6, tt))))))

read_ahead_4 : due (plan 1 false) (sealed_read ∷ seal_step 1 0 1 ∷ establish_step ∷ []) fails_order.0 ≡ fails_order.1
unfolding due_on_literals masked_bytes
read_ahead_4 = ends (plan 1 false) (sealed_read ∷ seal_step 1 0 1 ∷ establish_step ∷ []) _ read_behind Npr 0 1 true
    (ap comes read_behind_is) refl (ap (bytes_eq read_tag) read_tag_is)

pub read_ahead_due : AreDue (plan 1 false) [] read_ahead
unfolding due_on_literals
read_ahead_due = (refl, (refl, (refl, (read_ahead_4, tt))))

-- Keys of two draws.
use Rattle.std.proofs.Common.{◌≡◌, [], ◌∷◌, map, true, false, refl, ap}
use Rattle.spec_keys.specs.Keys.{is_open, keys}
use Rattle.spec_keys.specs.History.{manager, moments}
use Rattle.script_events.specs.declared.event.Event.TheVariants.{Pass}
use Rattle.spec_links.specs.Due.{due}
use Rattle.ide_types.specs.declared.sub.SubKind.TheVariants.{Pr}
use Rattle.std.specs.Prelude.{bytes_eq}
use Rattle.case_runs.proofs.Ends.{comes, ends, stops}
use Rattle.case_runs.proofs.Packets.{closed_2_is, closed_tag, closed_write, empty_tag_is, newer_2_is, newer_3_is}
use Rattle.case_runs.proofs.Packets.{newer_tag, newer_tag_is, newer_write, tag_1, tag_1_is, write_1, write_1_is}
use Rattle.case_runs.proofs.Packets.{write_2, write_2_is}
use Rattle.case_runs.specs.Due.{AreDue}
use Rattle.case_runs.specs.ScriptCases.{plan, establish_step, seal_step, accepted_unit, fails, fails_key, refresh_step}
use Rattle.case_runs.specs.ScriptCases.{late_packet, reply_lost, tail_missing, older_goes, receiver, sender}
use Rattle.case_runs.specs.Gone.{AreGone}
use Rattle.case_runs.proofs.Literals.{due_on_literals}

late_6 : due (plan 1 false) (seal_step 3 1 1 ∷ refresh_step ∷ seal_step 2 0 2 ∷ seal_step 1 0 1 ∷ establish_step ∷ [])
    (accepted_unit 1 0 1).0 ≡ (accepted_unit 1 0 1).1
unfolding due_on_literals
late_6 =
    ends (plan 1 false) (seal_step 3 1 1 ∷ refresh_step ∷ seal_step 2 0 2 ∷ seal_step 1 0 1 ∷ establish_step ∷ []) _
    write_1 Pr 0 1
    true
    (ap comes write_1_is) refl (ap (bytes_eq tag_1) tag_1_is)

late_7 : due (plan 1 false)
    (accepted_unit 1 0 1 ∷ seal_step 3 1 1 ∷ refresh_step ∷ seal_step 2 0 2 ∷ seal_step 1 0 1 ∷ establish_step ∷ [])
    (accepted_unit 3 1 1).0 ≡ (accepted_unit 3 1 1).1
unfolding due_on_literals
late_7 =
    ends (plan 1 false) (accepted_unit 1 0 1 ∷ seal_step 3 1 1 ∷ refresh_step ∷ seal_step 2 0 2 ∷ seal_step 1 0 1
    ∷ establish_step
    ∷ []) _
    newer_write Pr 1 1 true
    (ap comes newer_3_is) refl (ap (bytes_eq newer_tag) newer_tag_is)

late_8 : due (plan 1 false)
    (accepted_unit 3 1 1 ∷ accepted_unit 1 0 1 ∷ seal_step 3 1 1 ∷ refresh_step ∷ seal_step 2 0 2 ∷ seal_step 1 0 1
    ∷ establish_step ∷ []) (fails_key (Pass 2)).0 ≡ (fails_key (Pass 2)).1
unfolding due_on_literals
late_8 =
    stops (plan 1 false) (accepted_unit 3 1 1 ∷ accepted_unit 1 0 1 ∷ seal_step 3 1 1 ∷ refresh_step ∷ seal_step 2 0 2
    ∷ seal_step 1 0 1
    ∷ establish_step ∷ []) _ write_2 _
    (ap comes write_2_is) refl

pub late_due : AreDue (plan 1 false) [] late_packet
unfolding due_on_literals
late_due = (refl, (refl, (refl, (refl, (refl, (late_6, (late_7, (late_8, tt))))))))

pub reply_lost_due : AreDue (plan 1 false) [] reply_lost
unfolding due_on_literals
reply_lost_due = (refl, (refl, (refl, (refl, tt))))

open_tail_5 : due (plan 1 false) (seal_step 2 1 1 ∷ refresh_step ∷ seal_step 1 0 1 ∷ establish_step ∷ [])
    (accepted_unit 2 1 1).0 ≡ (accepted_unit 2 1 1).1
unfolding due_on_literals
open_tail_5 =
    ends (plan 1 false) (seal_step 2 1 1 ∷ refresh_step ∷ seal_step 1 0 1 ∷ establish_step ∷ []) _ newer_write Pr 1 1
    true
    (ap comes newer_2_is) refl (ap (bytes_eq newer_tag) newer_tag_is)

pub open_tail_due : AreDue (plan 1 false) [] (tail_missing (accepted_unit 2 1 1))
unfolding due_on_literals
open_tail_due = (refl, (refl, (refl, (refl, (open_tail_5, tt)))))

closed_tail_5 : due (plan 1 true) (seal_step 2 1 1 ∷ refresh_step ∷ seal_step 1 0 1 ∷ establish_step ∷ [])
    (fails (Pass 2)).0 ≡ (fails (Pass 2)).1
unfolding due_on_literals
closed_tail_5 =
    ends (plan 1 true) (seal_step 2 1 1 ∷ refresh_step ∷ seal_step 1 0 1 ∷ establish_step ∷ []) _ closed_write Pr 1 1
    false
    (ap comes closed_2_is) refl (ap (bytes_eq closed_tag) empty_tag_is)

pub closed_tail_due : AreDue (plan 1 true) [] (tail_missing (fails (Pass 2)))
unfolding due_on_literals
closed_tail_due = (refl, (refl, (refl, (refl, (closed_tail_5, tt)))))

pub older_gone : AreGone sender receiver 0 [] older_goes
unfolding moments manager keys is_open
older_gone = (
  (refl, refl),
  (refl, refl),
  (
    (refl, refl),
    (refl, refl),
    (
      (refl, refl),
      (refl, refl),
      (
        (refl, refl),
        (refl, refl),
        (
          (refl, refl),
          (refl, refl),
          (
            (refl, refl),
            (refl, refl),
            ((refl, refl), (refl, refl), tt),
          ),
        ),
      ),
    ),
  ),
)

pub older_due : AreDue (plan 1 false) [] (map (λ row. row.0) older_goes)
unfolding due_on_literals
older_due = (refl, (refl, (refl, (refl, (open_tail_5, (refl, (refl, tt)))))))

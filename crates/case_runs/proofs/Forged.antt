-- A write that its partner did not seal is a forgery, of its own sub-stream and draw alone.
use Rattle.std.proofs.Common.{◌≡◌, [], ◌∷◌, true, false, refl, ap}
use Rattle.std.specs.Prelude.{bytes_eq}
use Rattle.ide_types.specs.Ports.{host_port}
use Rattle.ide_types.specs.declared.sub.SubKind.TheVariants.{Pr, Npr}
use Rattle.spec_keys.specs.History.{History}
use Rattle.spec_links.specs.Plan.{SubStream, lane_in}
use Rattle.spec_links.specs.History.{ArrivedBytes}
use Rattle.spec_links.specs.Due.{due, is_verified}
use Rattle.spec_links.specs.Laws.{WasSealed, NoForgery}
use Rattle.law_delivery.specs.NoForgeryUnder.{NoForgeryUnder}
use Rattle.law_delivery.proofs.EachForgery.{no_forgery_is_of_each}
use Rattle.case_runs.proofs.Ends.{ends, case_ending}
use Rattle.case_runs.proofs.Packets.{tag_1, tag_1_is, write_1}
use Rattle.case_runs.specs.Due.{AreDue}
use Rattle.case_runs.specs.ScriptCases.{plan, establish_step, forged_unit, forged_write, forged_once}
use Rattle.case_runs.proofs.Literals.{due_on_literals}

abbrev past : History
past = establish_step ∷ []

abbrev arrival : ArrivedBytes
arrival = record { port = host_port 0; bytes = forged_write }

verified : is_verified (plan 1 false) past (host_port 0) (case_ending write_1 Pr 0 1) ≡ true
unfolding due_on_literals
verified = ap (bytes_eq tag_1) tag_1_is

forged_due : due (plan 1 false) past forged_unit.0 ≡ forged_unit.1
unfolding due_on_literals
forged_due = ends (plan 1 false) past _ write_1 Pr 0 1 true refl refl verified

pub forged_once_due : AreDue (plan 1 false) [] forged_once
unfolding due_on_literals
forged_once_due = (refl, (forged_due, tt))

-- nothing was sealed
none_sealed : WasSealed (plan 1 false) past (host_port 0) (case_ending write_1 Pr 0 1) → ⊥
unfolding due_on_literals
none_sealed was = let finished = was.finished in absurd cc

pub is_forged : NoForgery (plan 1 false) (forged_unit ∷ establish_step ∷ []) → ⊥
unfolding due_on_literals
is_forged none = none_sealed (none.0 arrival (case_ending write_1 Pr 0 1) refl refl verified)

posted_alone : Pr ≡ Npr → ⊥
posted_alone same = absurd cc

pub reads_unforged : NoForgeryUnder (plan 1 false) (forged_unit ∷ establish_step ∷ []) (lane_in (host_port 0) 5 Npr) 0
unfolding due_on_literals
reads_unforged = (
  (no_forgery_is_of_each (plan 1 false) past).of_one forged_unit.0 arrival (case_ending write_1 Pr 0 1) refl refl
      (lane_in (host_port 0) 5 Npr) 0 (λ same draw. posted_alone (ap (λ (s : SubStream). s.sub) same)),
  (λ a x is. absurd cc, tt),
)

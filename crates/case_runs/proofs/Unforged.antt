-- In the shortest good history no tag verified on a unit that its partner had not sealed.
use Rattle.std.proofs.Common.{◌≡◌, [], ◌∷◌, true, false, Option, Some, None, Result, Ok, refl, subst, ap}
use Rattle.case_runs.specs.InterfaceCases.{write_tlp}
use Rattle.ide_types.specs.Ports.{host_port}
use Rattle.ide_prefix.specs.Packet.{Packet, packet_bytes}
use Rattle.ide_prefix.specs.Units.{authenticated_bytes, encrypted_bytes}
use Rattle.ide_types.specs.declared.sub.SubKind.TheVariants.{Pr}
use Rattle.spec_keys.specs.History.{History}
use Rattle.script_events.specs.declared.event.Event.TheVariants.{Pass}
use Rattle.event_verdicts.specs.declared.verdict.Verdict.{Verdict}
use Rattle.spec_links.specs.History.{ArrivedBytes, packet_of, ahead_sent, arrival_of_event}
use Rattle.spec_links.specs.Due.{Ending, before_tag}
use Rattle.spec_links.specs.Laws.{WasSealed, NotForged, NoForgery, last_tag}
use Rattle.case_runs.proofs.Ends.{comes, case_ending as ending_of}
use Rattle.case_runs.proofs.Packets.{write_1, write_1_is}
use Rattle.case_runs.specs.ScriptCases.{plan, packet, establish_step, seal_step, accepted_unit}
use Rattle.case_runs.proofs.Literals.{due_on_literals}

abbrev past : History
past = seal_step 1 0 1 ∷ establish_step ∷ []

-- the packet that was sealed, as it is described and as it arrives, and the unit that it ends
abbrev sealed_packet : Packet
sealed_packet = packet_of (plan 1 false) [] write_tlp (packet 1 Pr 0 1 true 0) []

abbrev first_packet : Packet
first_packet = write_1

abbrev arrival : ArrivedBytes
arrival = record { port = host_port 0; bytes = packet_bytes first_packet }

abbrev first_ending : Ending
first_ending = ending_of first_packet Pr 0 1

arrives : arrival_of_event (plan 1 false) past (Pass 1) ≡ Some arrival
unfolding due_on_literals
arrives = ap comes write_1_is

passes : before_tag (plan 1 false) past arrival ≡ Ok first_ending
unfolding due_on_literals
passes = refl

was : WasSealed (plan 1 false) past (host_port 0) first_ending
unfolding due_on_literals ahead_sent
was = record {
  unit = sealed_packet ∷ [];
  place = 0;
  numbered = refl;
  finished = refl;
  same_authenticated = ap (λ (p : Packet). authenticated_bytes (p ∷ [])) write_1_is;
  same_encrypted = ap (λ (p : Packet). encrypted_bytes (p ∷ [])) write_1_is;
  same_ahead = refl;
  same_tag = ap (λ (p : Packet). last_tag (p ∷ [])) write_1_is;
}

one_arrival : (o : Option ArrivedBytes) (a b : ArrivedBytes) → o ≡ Some a → o ≡ Some b → a ≡ b
one_arrival o a b is also = cc

one_ending : (r : Result Ending Verdict) (x y : Ending) → r ≡ Ok x → r ≡ Ok y → x ≡ y
one_ending r x y is also = cc

no_arrival : (P : Type 0) (a : ArrivedBytes) → None ≡ Some a → P
no_arrival P a is = absurd cc

arrival_not_forged : NotForged (plan 1 false) past (Pass 1)
arrival_not_forged a x is before verified =
    let same = one_arrival (arrival_of_event (plan 1 false) past (Pass 1)) arrival a arrives is in
    let before_here = subst (λ (b : ArrivedBytes). before_tag (plan 1 false) past b ≡ Ok x)
    (one_arrival (arrival_of_event (plan 1 false) past (Pass 1)) a arrival is arrives) before in
    let same_ending = one_ending (before_tag (plan 1 false) past arrival) first_ending x passes before_here in
    subst (λ (b : ArrivedBytes). WasSealed (plan 1 false) past b.port x) same
    (subst (WasSealed (plan 1 false) past (host_port 0)) same_ending was)

send_not_forged : NotForged (plan 1 false) (establish_step ∷ []) (seal_step 1 0 1).0
unfolding arrival_of_event
send_not_forged a x is before verified = no_arrival (WasSealed (plan 1 false) (establish_step ∷ []) a.port x) a is

establish_not_forged : NotForged (plan 1 false) [] establish_step.0
unfolding arrival_of_event
establish_not_forged a x is before verified = no_arrival (WasSealed (plan 1 false) [] a.port x) a is

pub good_history : NoForgery (plan 1 false) (accepted_unit 1 0 1 ∷ seal_step 1 0 1 ∷ establish_step ∷ [])
good_history = (arrival_not_forged, (send_not_forged, (establish_not_forged, tt)))

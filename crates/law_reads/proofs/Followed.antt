-- Each pair changes what waits at a switch by one step.
use Rattle.spec_links.proofs.Terms.{◌≡◌, ℕ, ◌+◌, List, [], ◌∷◌, ◌++◌, drop, refl, ap, ◌∙◌, arith, inl, inr}
use Rattle.spec_links.proofs.Terms.{if◌then◌else◌, drop-append-le, Plan, History, Event, Sealed, Accepted}
use Rattle.spec_links.proofs.Terms.{UnitName, Effect, PortName, SealedPacket, CauseLaw, is_same_port}
use Rattle.std.proofs.Common.{zero, suc}
use Rattle.std.proofs.lemmas.Bool.{cases_Bool}
use Rattle.ide_types.specs.declared.direction.Direction.{Direction}
use Rattle.spec_links.specs.Terms.{Reset}
use Rattle.spec_links.specs.Hops.{HopTlp, entering_end, clears_hop, is_forward_on}
unfoldable use Rattle.spec_links.specs.Hops.{accepted_tlps_in_list, forwarded_count}
use Rattle.spec_links.specs.Memory.{accepted_tlps, hop_waiting, unit_ended}
use Rattle.event_verdicts.specs.declared.verdict.Verdict.TheVariants as v
use Rattle.law_reads.specs.Waiting.{WaitingFollows}
use Rattle.law_reads.proofs.Taken.{here_after, taken_accepted, tlps_of}
use Rattle.law_reads.proofs.Forwarded.{within}

drop_more : (n : ℕ) (xs : List HopTlp) → drop (n + 1) xs ≡ drop 1 (drop n xs)
drop_more zero xs = refl
drop_more (suc n) [] = let next : suc n + 1 ≡ suc (n + 1) = omega arith in rw next refl
drop_more (suc n) (x ∷ xs) = let next : suc n + 1 ≡ suc (n + 1) = omega arith in rw next (drop_more n xs)

sealed_follows : (plan : Plan) (h : History) (e : Event) (ds : List SealedPacket) → CauseLaw plan ((e, Sealed ds) ∷ h)
    → (link : ℕ) (d : Direction) → hop_waiting plan ((e, Sealed ds) ∷ h) link d
    ≡ (if is_forward_on link d e then drop 1 (hop_waiting plan h link d) else hop_waiting plan h link d)
unfolding accepted_tlps_in_list forwarded_count
sealed_follows plan h e ds cause link d =
    let n = forwarded_count h link d in
    let same = here_after plan h e (Sealed ds) cause link (entering_end link d) in
    elim (cases_Bool (is_forward_on link d e)) [
      | inl is ↦ rw is (ap (drop (n + 1)) same ∙ drop_more n (accepted_tlps plan h link (entering_end link d)))
      | inr other ↦ rw other (ap (drop n) same)
    ]

accepted_follows : (plan : Plan) (h : History) (e : Event) (port : PortName) (unit : UnitName)
    (effects : List Effect) → CauseLaw plan ((e, Accepted port unit effects) ∷ h) → (link : ℕ) (d : Direction)
    → hop_waiting plan ((e, Accepted port unit effects) ∷ h) link d
    ≡ (if is_same_port port (entering_end link d)
    then hop_waiting plan h link d ++ tlps_of plan port unit (unit_ended plan h e port unit)
    else hop_waiting plan h link d)
unfolding forwarded_count
accepted_follows plan h e port unit effects cause link d =
    let end = entering_end link d in
    let n = forwarded_count h link d in
    let le = within plan h cause.1 link d in
    ap (drop n) (taken_accepted plan h e port unit effects cause link end)
    ∙ elim (cases_Bool (is_same_port port end)) [
      | inl is ↦ rw is (drop-append-le n (accepted_tlps plan h link end) _ le)
      | inr other ↦ rw other refl
    ]

reset_follows : (plan : Plan) (h : History) (k : ℕ) (ends : List PortName) (l : ℕ)
    → CauseLaw plan ((Reset k ends, v.Reset l) ∷ h) → (link : ℕ) (d : Direction)
    → hop_waiting plan ((Reset k ends, v.Reset l) ∷ h) link d
    ≡ (if clears_hop ends link then [] else hop_waiting plan h link d)
unfolding accepted_tlps_in_list forwarded_count
reset_follows plan h k ends l cause link d =
    let same = here_after plan h (Reset k ends) (v.Reset l) cause link (entering_end link d) in
    elim (cases_Bool (clears_hop ends link)) [
      | inl is ↦ rw is refl
      | inr stays ↦ rw stays (ap (drop (forwarded_count h link d)) same)
    ]

pub waiting_follows : WaitingFollows
unfolding accepted_tlps_in_list forwarded_count
waiting_follows plan h e (Sealed ds) cause link d = sealed_follows plan h e ds cause link d
waiting_follows plan h e (Accepted port unit effects) cause link d =
    accepted_follows plan h e port unit effects cause link d
waiting_follows plan h (Reset k ends) (v.Reset l) cause link d = reset_follows plan h k ends l cause link d
waiting_follows plan h e w cause link d =
    ap (drop (forwarded_count h link d)) (here_after plan h e w cause link (entering_end link d))

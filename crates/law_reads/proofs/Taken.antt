-- The TLPs that were accepted at an end of a hop: more packets that are sealed change nothing of them.
use Rattle.spec_links.proofs.Terms.{◌≡◌, ℕ, List, [], ◌∷◌, ◌++◌, refl, sym, ◌∙◌, append-nil}
use Rattle.spec_links.proofs.Terms.{if◌then◌else◌, Plan, History, Event, Verdict, Accepted, Effect, UnitName, Packet}
use Rattle.spec_links.proofs.Terms.{PortName, CauseLaw, SealedList, sealed_packets, Reset, is_same_port}
use Rattle.spec_links.proofs.Growth.{packets_grow}
use Rattle.spec_links.specs.Hops.{HopTlp, tlps_with, clears_hop}
unfoldable use Rattle.spec_links.specs.Hops.{accepted_tlps_in_list}
use Rattle.spec_links.specs.Memory.{accepted_tlps, plain_of, unit_ended}
use Rattle.event_verdicts.specs.declared.verdict.Verdict.TheVariants as v
use Rattle.law_reads.proofs.ByNumber.{IsBehind, behind_earlier, unit_same, unit_again}

-- those of a unit that was accepted
abbrev pub tlps_of : Plan → PortName → UnitName → List Packet → List HopTlp
tlps_of plan port unit ps = tlps_with (plain_of plan port unit ps) ps

taken_same : (plan : Plan) (h : History) → CauseLaw plan h → (xs ys : SealedList) → IsBehind plan h xs
    → IsBehind plan h ys → (link : ℕ) (end : PortName) → accepted_tlps_in_list plan xs h link end
    ≡ accepted_tlps_in_list plan ys h link end
unfolding accepted_tlps_in_list
taken_same plan [] cause xs ys left right link end = refl
taken_same plan ((e, Accepted port unit effects) ∷ h) cause xs ys left right link end =
    let one = behind_earlier plan h e (Accepted port unit effects) xs left in
    let two = behind_earlier plan h e (Accepted port unit effects) ys right in
    let before = taken_same plan h cause.1 xs ys one two link end in
    let same = unit_same plan h e port unit effects cause xs one ∙ sym
    (unit_same plan h e port unit effects cause ys two) in
    (λ i. if is_same_port port end then before i ++ tlps_of plan port unit (same i) else before i)
taken_same plan ((Reset k ends, v.Reset l) ∷ h) cause xs ys left right link end =
    let before = taken_same plan h cause.1 xs ys (behind_earlier plan h (Reset k ends) (v.Reset l) xs left)
    (behind_earlier plan h (Reset k ends) (v.Reset l) ys right) link end in
    (λ i. if clears_hop ends link then [] else before i)
taken_same plan ((e, w) ∷ h) cause xs ys left right link end = taken_same plan h cause.1 xs ys
    (behind_earlier plan h e w xs left) (behind_earlier plan h e w ys right) link end

pub here_after : (plan : Plan) (h : History) (e : Event) (w : Verdict) → CauseLaw plan ((e, w) ∷ h) → (link : ℕ)
    (end : PortName) → accepted_tlps_in_list plan (sealed_packets plan ((e, w) ∷ h)) h link end
    ≡ accepted_tlps plan h link end
here_after plan h e w cause link end =
    let grown = packets_grow plan h e w in
    taken_same plan h cause.1 (sealed_packets plan ((e, w) ∷ h)) (sealed_packets plan h) (grown.0, grown.1)
    ([], append-nil (sealed_packets plan h)) link end

-- an accepted unit adds its own
pub taken_accepted : (plan : Plan) (h : History) (e : Event) (port : PortName) (unit : UnitName) (effects : List Effect)
    → CauseLaw plan ((e, Accepted port unit effects) ∷ h) → (link : ℕ) (end : PortName)
    → accepted_tlps plan ((e, Accepted port unit effects) ∷ h) link end
    ≡ (if is_same_port port end
    then accepted_tlps plan h link end ++ tlps_of plan port unit (unit_ended plan h e port unit)
    else accepted_tlps plan h link end)
unfolding accepted_tlps_in_list
taken_accepted plan h e port unit effects cause link end =
    let before = here_after plan h e (Accepted port unit effects) cause link end in
    let same = unit_again plan h e port unit effects cause in
    (λ i. if is_same_port port end then before i ++ tlps_of plan port unit (same i) else before i)

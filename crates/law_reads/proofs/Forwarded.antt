-- A forward that seals found a TLP that waits, the first, so no more are forwarded than came.
use Rattle.spec_links.proofs.Terms.{◌≡◌, ℕ, ◌+◌, ◌≤◌, ◌&&◌, ◌==◌, Bool, true, false, List, [], ◌∷◌, ◌++◌, length}
use Rattle.spec_links.proofs.Terms.{slice_get, Some, refl, ap, ◌∙◌, arith, if◌then◌else◌, length-append, Plan}
use Rattle.spec_links.proofs.Terms.{Event, Sealed, Accepted, SealedPacket, CauseLaw}
use Rattle.spec_links.proofs.Terms.{History, Reset, is_same_port, sealed_packets}
use Rattle.std.proofs.lemmas.Bool.{eqb-true}
use Rattle.spec_links.proofs.Growth.{at_front}
unfoldable use Rattle.spec_links.proofs.Terms.{due}
use Rattle.ide_types.specs.Sub.{direction_number}
use Rattle.ide_types.specs.declared.direction.Direction.{Direction}
use Rattle.script_events.specs.declared.event.Event.TheVariants.{Forward}
use Rattle.event_verdicts.specs.declared.access.AccessVerdict.TheVariants as av
use Rattle.event_verdicts.specs.declared.verdict.Verdict.TheVariants as v
use Rattle.spec_links.specs.Due.{send_due, forward_out, forward_first}
use Rattle.spec_links.specs.Hops.{HopTlp, has_hop, entering_end, leaving_end, clears_hop, is_forward_on}
unfoldable use Rattle.spec_links.specs.Hops.{accepted_tlps_in_list, forwarded_count}
use Rattle.spec_links.specs.Memory.{accepted_tlps, hop_waiting, unit_ended}
use Rattle.spec_links.proofs.HopFirst.{drop_first}
use Rattle.law_reads.proofs.Taken.{here_after, taken_accepted, tlps_of}

no_empty : (link : ℕ) (ds : List SealedPacket) → v.Sealed ds ≡ v.Access (av.Empty link) → ⊥
no_empty link ds is = absurd cc

-- the first that waits, and what it comes to
pub record Forwarded (plan : Plan) (h : History) (link : ℕ) (d : Direction) (ds : List SealedPacket) : Type 0 where
  pub known : has_hop plan link ≡ true
  pub first : HopTlp
  pub waits : slice_get (accepted_tlps plan h link (entering_end link d)) (forwarded_count h link d) ≡ Some first
  pub is : v.Sealed ds ≡ send_due plan h (leaving_end link d) (forward_out plan h link d) false first.t

pub forward_means : (plan : Plan) (h : History) (link : ℕ) (d : Direction) (ds : List SealedPacket)
    → v.Sealed ds ≡ due plan h (Forward link d) → Forwarded plan h link d ds
unfolding due
forward_means plan h link d ds is = by (has_hop plan link) (hop_waiting plan h link d) refl refl is
  where
    by : (b : Bool) (xs : List HopTlp) → has_hop plan link ≡ b → hop_waiting plan h link d ≡ xs
        → v.Sealed ds ≡ (if b then forward_first plan h link d xs else v.Nothing) → Forwarded plan h link d ds
    by false xs known waits is = absurd cc
    by true [] known waits is = absurd (no_empty link ds is)
    by true (x ∷ xs) known waits is = record {
      known = known;
      first = x;
      waits = drop_first (forwarded_count h link d) (accepted_tlps plan h link (entering_end link d)) x xs waits;
      is = is;
    }

-- ---- which forward it is

both_parts : (a b : Bool) → (a && b) ≡ true → (a ≡ true) × (b ≡ true)
both_parts a b is = (grind arith, grind arith)

same_way : (way d : Direction) → (direction_number way == direction_number d) ≡ true → way ≡ d
same_way way d is = grind arith

pub as_forward : (e : Event) (link : ℕ) (d : Direction) → is_forward_on link d e ≡ true → e ≡ Forward link d
as_forward (Forward l way) link d is =
    let parts = both_parts (l == link) (direction_number way == direction_number d) is in
    let at : l ≡ link = eqb-true l link parts.0 in
    let same = same_way way d parts.1 in
    (λ i. Forward (at i) (same i))
as_forward e link d is = absurd cc

-- ---- no more are forwarded than came

sealed_within : (plan : Plan) (h : History) (e : Event) (ds : List SealedPacket) → CauseLaw plan ((e, Sealed ds) ∷ h)
    → (link : ℕ) (d : Direction) → forwarded_count h link d ≤ length (accepted_tlps plan h link (entering_end link d))
    → (if is_forward_on link d e then forwarded_count h link d + 1 else forwarded_count h link d)
    ≤ length (accepted_tlps plan h link (entering_end link d))
sealed_within plan h e ds cause link d before = by (is_forward_on link d e) refl
  where
    by : (b : Bool) → is_forward_on link d e ≡ b
        → (if b then forwarded_count h link d + 1 else forwarded_count h link d)
        ≤ length (accepted_tlps plan h link (entering_end link d))
    by true is =
        let f = forward_means plan h link d ds (cause.0 ∙ ap (due plan h) (as_forward e link d is)) in
        let less = (at_front (accepted_tlps plan h link (entering_end link d)) [] (forwarded_count h link d) f.first
        f.waits).1 in
        omega (arith, less)
    by false is = before

pub within : (plan : Plan) (h : History) → CauseLaw plan h → (link : ℕ) (d : Direction)
    → forwarded_count h link d ≤ length (accepted_tlps plan h link (entering_end link d))
unfolding accepted_tlps_in_list forwarded_count
within plan [] cause link d = omega arith
within plan ((e, Sealed ds) ∷ h) cause link d =
    let same = ap length (here_after plan h e (Sealed ds) cause link (entering_end link d)) in
    let le = sealed_within plan h e ds cause link d (within plan h cause.1 link d) in
    omega (arith, same, le)
within plan ((e, Accepted port unit effects) ∷ h) cause link d =
    let before = within plan h cause.1 link d in
    let same = ap length (taken_accepted plan h e port unit effects cause link (entering_end link d)) in
    let more = by (is_same_port port (entering_end link d)) before in
    omega (arith, same, more)
  where
    by : (b : Bool) → forwarded_count h link d ≤ length (accepted_tlps plan h link (entering_end link d))
        → forwarded_count h link d
        ≤ length (if b then accepted_tlps plan h link (entering_end link d)
        ++ tlps_of plan port unit (unit_ended plan h e port unit) else accepted_tlps plan h link (entering_end link d))
    by true le =
        let all = length-append (accepted_tlps plan h link (entering_end link d))
        (tlps_of plan port unit (unit_ended plan h e port unit)) in
        omega (arith, le, all)
    by false le = le
within plan ((Reset k ends, v.Reset l) ∷ h) cause link d =
    let same = ap length (here_after plan h (Reset k ends) (v.Reset l) cause link (entering_end link d)) in
    by (clears_hop ends link) (let le = within plan h cause.1 link d in omega (arith, same, le))
  where
    by : (b : Bool) → forwarded_count h link d
        ≤ length (accepted_tlps_in_list plan (sealed_packets plan ((Reset k ends, v.Reset l) ∷ h)) h link
        (entering_end link d))
        → (if b then 0 else forwarded_count h link d)
        ≤ length (if b then []
        else accepted_tlps_in_list plan (sealed_packets plan ((Reset k ends, v.Reset l) ∷ h)) h link
        (entering_end link d))
    by true le = omega arith
    by false le = le
within plan ((e, w) ∷ h) cause link d =
    let same = ap length (here_after plan h e w cause link (entering_end link d)) in
    let le = within plan h cause.1 link d in
    omega (arith, same, le)

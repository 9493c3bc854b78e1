-- Nothing is held for a unit beyond the next.
use Rattle.spec_links.proofs.Terms.{◌≡◌, ℕ, ◌+◌, ◌<◌, ◌==◌, Bool, [], ◌∷◌, ◌++◌, refl, arith, if◌then◌else◌, ◌&&◌}
use Rattle.spec_links.proofs.Terms.{arrived_packet, CauseLaw, History, nat_tests, Packet, packets_in_hold, Plan, PortName}
use Rattle.spec_links.proofs.Terms.{received_in, SubStream, UnitName, units_got}
use Rattle.spec_links.specs.History.{is_received_under}
use Rattle.spec_links.proofs.Causes.{held_by, numbered}
use Rattle.spec_links.proofs.Tests.{same_stream}
use Rattle.event_verdicts.specs.declared.verdict.Verdict.TheVariants as v

-- what is held is of the next unit
held_next : (plan : Plan) (h : History) (s : SubStream) (j n : ℕ) (port : PortName) (unit : UnitName) (p : Packet)
    → unit.unit ≡ units_got h (received_in port unit) unit.draw + 1 → units_got h s j + 1 < n
    → packets_in_hold plan h s j n ≡ [] →
    (if is_received_under s j port unit && (unit.unit == n) then packets_in_hold plan h s j n ++ p
    ∷ [] else packets_in_hold plan h s j n) ≡ []
held_next plan h s j n port unit p next beyond before =
    let same = same_stream (received_in port unit) s in grind (arith, nat_tests, same)

below : (b : Bool) (m n : ℕ) → (if b then m + 1 else m) + 1 < n → m + 1 < n
below b m n beyond = grind arith

pub none_beyond : (plan : Plan) (h : History) → CauseLaw plan h → (s : SubStream) (j n : ℕ) → units_got h s j + 1 < n
    → packets_in_hold plan h s j n ≡ []
unfolding packets_in_hold units_got
none_beyond plan [] cause s j n beyond = refl
none_beyond plan ((e, v.Held port unit) ∷ h) cause s j n beyond =
    let x = held_by plan h e port unit cause.0 in
    held_next plan h s j n port unit (arrived_packet plan h e) (numbered plan h port x.packet unit x.passed) beyond
    (none_beyond plan h cause.1 s j n beyond)
none_beyond plan ((e, v.Accepted port unit effects) ∷ h) cause s j n beyond = none_beyond plan h cause.1 s j n
    (below (is_received_under s j port unit) (units_got h s j) n beyond)
none_beyond plan (_ ∷ h) cause s j n beyond = none_beyond plan h cause.1 s j n beyond

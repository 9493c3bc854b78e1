-- What waits at a switch: what was accepted there and not sealed behind it since the link's last reset.
use Rattle.std.proofs.Common.{◌≡◌, ℕ, ◌∷◌, true, List, length}
use Rattle.std.proofs.Common.{slice_get, ap, ◌∙◌}
use Rattle.std.proofs.lemmas.List.{length-take-le}
use Rattle.ide_types.specs.Fits.{FitsPlan}
use Rattle.ide_types.specs.declared.direction.Direction.{Direction}
use Rattle.spec_links.specs.Terms.{Plan, History}
use Rattle.spec_links.specs.Cause.{CauseLaw}
use Rattle.spec_links.specs.Hops.{HopTlp, has_hop, entering_end, leaving_end, forwarded_count}
use Rattle.spec_links.specs.HopLaws.{tlps_since_reset}
use Rattle.spec_links.specs.Memory.{accepted_tlps, hop_waiting}
use Rattle.spec_links.proofs.HopFirst.{drop_first}
use Rattle.law_hops.proofs.Forwards.{Forwards, forwards}
use Rattle.law_sending.specs.Trust.{IsFirstWaiting}

-- as many were forwarded as the end behind the switch sealed
pub count_is : (plan : Plan) (h : History) (link : ℕ) (d : Direction) → Forwards plan h link d
    → length (tlps_since_reset plan h link (leaving_end link d)) ≡ forwarded_count h link d
count_is plan h link d both = ap length both.list
    ∙ length-take-le (forwarded_count h link d) (accepted_tlps plan h link (entering_end link d)) both.within

pub first_waits : (plan : Plan) → FitsPlan plan → (h : History) → CauseLaw plan h → (link : ℕ) (d : Direction)
    → has_hop plan link ≡ true → (x : HopTlp) (xs : List HopTlp) → hop_waiting plan h link d ≡ x ∷ xs
    → IsFirstWaiting plan h link d x
first_waits plan fits h cause link d known x xs waits =
    ap (λ (n : ℕ). slice_get (accepted_tlps plan h link (entering_end link d)) n)
    (count_is plan h link d (forwards plan fits h cause link d known))
    ∙ drop_first (forwarded_count h link d) (accepted_tlps plan h link (entering_end link d)) x xs waits

-- The first TLP that waits at a switch is what a forward seals.
use Rattle.spec_links.proofs.Terms.{◌≡◌, ℕ, zero, suc, List, [], ◌∷◌, Option, Some, slice_get, drop, ap, Plan, History}
use Rattle.spec_links.proofs.Terms.{sent_bytes}
unfoldable use Rattle.spec_links.proofs.Terms.{bytes_by}
use Rattle.std.specs.Option.{option_map_or}
use Rattle.ide_types.specs.declared.direction.Direction.{Direction}
use Rattle.script_events.specs.declared.event.Event.TheVariants.{Forward}
use Rattle.spec_links.specs.Hops.{HopTlp, entering_end, forwarded_count}
use Rattle.spec_links.specs.Memory.{accepted_tlps, hop_waiting}

pub drop_first : {A : Type 0} (n : ℕ) (xs : List A) (x : A) (rest : List A) → drop n xs ≡ x ∷ rest
    → slice_get xs n ≡ Some x
drop_first zero [] x rest is = absurd cc
drop_first zero (y ∷ xs) x rest is = cc (is)
drop_first (suc n) [] x rest is = absurd cc
drop_first (suc n) (y ∷ xs) x rest is = drop_first n xs x rest is

pub forwarded_bytes : (plan : Plan) (h : History) (link : ℕ) (d : Direction) (x : HopTlp) (xs : List HopTlp)
    → hop_waiting plan h link d ≡ x ∷ xs → sent_bytes plan h (Forward link d) ≡ x.bytes
unfolding bytes_by
forwarded_bytes plan h link d x xs waits = ap (λ (o : Option HopTlp). option_map_or (λ (y : HopTlp). y.bytes) o [])
    (drop_first (forwarded_count h link d) (accepted_tlps plan h link (entering_end link d)) x xs waits)

-- A forward gets the verdict that is due, and the state after it stands for the history with it: the first TLP that
-- waits is sent as any TLP is.
use Rattle.machine_ports.proofs.Terms.{◌≡◌, ℕ, Bool, true, false, List, [], ◌∷◌, Err, refl, subst}
use Rattle.machine_ports.proofs.Terms.{if◌then◌else◌, History, KeyFacts, LinkState, Plan, StreamsAndPacketsStand}
unfoldable use Rattle.machine_ports.proofs.Terms.{due}
use Rattle.ide_types.specs.declared.direction.Direction.{Direction}
use Rattle.script_events.specs.declared.event.Event.TheVariants.{Forward}
use Rattle.event_verdicts.specs.declared.access.AccessVerdict.TheVariants as av
use Rattle.event_verdicts.specs.declared.verdict.Verdict.TheVariants as v
use Rattle.spec_links.specs.Due.{forward_out, forward_first}
use Rattle.spec_links.specs.Hops.{HopTlp, has_hop, leaving_end}
use Rattle.spec_links.specs.Memory.{hop_waiting}
use Rattle.spec_links.proofs.HopFirst.{forwarded_bytes}
use Rattle.machine_ports.specs.Forwards.{first_waiting, forward_of}
use Rattle.machine_ports.specs.Machine.{stepped_bytes, stepped_forward}
use Rattle.machine_ports.specs.Stands.{beside_at}
use Rattle.machine_ports.proofs.Changes.{Steps}
use Rattle.machine_ports.proofs.Sends.{by_outgoing, tells}

module _ (plan : Plan) (facts : KeyFacts plan) (st : LinkState) (h : History)
    (stands : StreamsAndPacketsStand plan st h)
    (link : ℕ) (d : Direction) where
  by_waiting : (xs : List HopTlp) → hop_waiting plan h link d ≡ xs
      → forward_first plan h link d xs ≡ due plan h (Forward link d)
      → Steps plan h (Forward link d)
      (stepped_forward plan (beside_at plan h) st (leaving_end link d) (first_waiting link xs))
  by_waiting [] waits is = tells plan facts st h stands (Forward link d) refl false true (leaving_end link d)
      (v.Access (av.Empty link)) refl is
  by_waiting (x ∷ xs) waits is =
      subst (λ (bytes : List ℕ). Steps plan h (Forward link d)
      (stepped_bytes plan (beside_at plan h) st (leaving_end link d) bytes false x.t))
      (forwarded_bytes plan h link d x xs waits)
      (by_outgoing plan facts st h stands (Forward link d) refl false x.t (leaving_end link d)
      (forward_out plan h link d) refl is)

  pub forwards : Steps plan h (Forward link d)
      (stepped_forward plan (beside_at plan h) st (leaving_end link d) (forward_of plan link
      (hop_waiting plan h link d)))
  unfolding due
  forwards = by (has_hop plan link) refl
    where
      by : (b : Bool) → (if b then forward_first plan h link d (hop_waiting plan h link d) else v.Nothing)
          ≡ due plan h (Forward link d)
          → Steps plan h (Forward link d) (stepped_forward plan (beside_at plan h) st (leaving_end link d)
          (if b then first_waiting link (hop_waiting plan h link d) else Err v.Nothing))
      by true is = by_waiting (hop_waiting plan h link d) refl is
      by false is = tells plan facts st h stands (Forward link d) refl false true (leaving_end link d) v.Nothing refl is

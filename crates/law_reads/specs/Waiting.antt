-- How each pair changes what waits at a switch: a machine keeps the lists by these steps alone.
use Rattle.std.specs.Prelude.{if◌then◌else◌, ◌++◌, ◌∷◌, ◌≡◌, List, [], drop, ℕ}
use Rattle.ide_types.specs.declared.direction.Direction.{Direction}
use Rattle.ide_types.specs.declared.plan.Plan.{Plan}
use Rattle.spec_keys.specs.History.{History}
use Rattle.script_events.specs.declared.event.Event.{Event}
use Rattle.script_events.specs.declared.event.Event.TheVariants.{Reset}
use Rattle.event_verdicts.specs.declared.verdict.Verdict.{Verdict}
use Rattle.event_verdicts.specs.declared.verdict.Verdict.TheVariants as v
use Rattle.spec_links.specs.Cause.{CauseLaw}
use Rattle.spec_links.specs.Plan.{is_same_port}
use Rattle.spec_links.specs.Hops.{HopTlp, tlps_with, entering_end, clears_hop, is_forward_on}
use Rattle.spec_links.specs.Memory.{hop_waiting, unit_ended, plain_of}

-- the TLPs of the unit that a verdict ends
abbrev pub tlps_ended : Plan → History → Event → Verdict → List HopTlp
tlps_ended plan h e (v.Accepted port unit effects) =
    tlps_with (plain_of plan port unit (unit_ended plan h e port unit)) (unit_ended plan h e port unit)
tlps_ended plan h e w = []

-- those that wait in a direction of a link's hop, after those that waited: a unit that was accepted at the entering end
-- adds its own, a forward takes the first, a reset all
abbrev pub waiting_next : List HopTlp → ℕ → Direction → Event → Verdict → List HopTlp → List HopTlp
waiting_next new link d e (v.Accepted port unit effects) xs =
    if is_same_port port (entering_end link d) then xs ++ new else xs
waiting_next new link d e (v.Sealed ds) xs = if is_forward_on link d e then drop 1 xs else xs
waiting_next new link d (Reset k ends) (v.Reset l) xs = if clears_hop ends link then [] else xs
waiting_next new link d e w xs = xs

abbrev pub WaitingFollows : Type 0
WaitingFollows =
    (plan : Plan) (h : History) (e : Event) (w : Verdict) → CauseLaw plan ((e, w) ∷ h) → (link : ℕ) (d : Direction)
    → hop_waiting plan ((e, w) ∷ h) link d
    ≡ waiting_next (tlps_ended plan h e w) link d e w (hop_waiting plan h link d)

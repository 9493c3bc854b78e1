-- What the first TLP that waits at a switch comes to, ahead of the ports (this profile).
use Rattle.std.specs.Prelude.{ℕ, if◌then◌else◌, List, [], ◌∷◌, Result, Ok, Err}
use Rattle.ide_types.specs.declared.plan.Plan.{Plan}
use Rattle.spec_links.specs.Hops.{HopTlp, has_hop}
use Rattle.event_verdicts.specs.declared.access.AccessVerdict.TheVariants as av
use Rattle.event_verdicts.specs.declared.verdict.Verdict.{Verdict}
use Rattle.event_verdicts.specs.declared.verdict.Verdict.TheVariants as v

abbrev pub first_waiting : ℕ → List HopTlp → Result HopTlp Verdict
first_waiting link [] = Err (v.Access (av.Empty link))
first_waiting link (x ∷ xs) = Ok x

-- of those that wait in a direction of the link's hop
abbrev pub forward_of : Plan → ℕ → List HopTlp → Result HopTlp Verdict
forward_of plan link xs = if has_hop plan link then first_waiting link xs else Err v.Nothing

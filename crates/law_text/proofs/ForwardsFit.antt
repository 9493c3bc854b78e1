-- The verdicts of forwards fit: what waits at a switch is sent on the hop's stream.
use Rattle.std.proofs.Common.{◌≡◌, ◌∙◌, ℕ, ◌+◌, ◌<◌, ◌^◌, Bool, true, false, List, [], ◌∷◌, length, Option, Some, None}
use Rattle.std.proofs.Common.{refl, sym, ap, subst, arith, if◌then◌else◌}
use Rattle.std.specs.Prelude.{is_some, slice_get}
use Rattle.std.proofs.lemmas.Bool.{and_parts, ltb-true, eq-eqb}
use Rattle.ide_types.specs.Lines.{is_link_line}
use Rattle.ide_types.specs.declared.direction.Direction.{Direction}
use Rattle.ide_types.specs.declared.plan.HopPlan.{HopPlan}
use Rattle.ide_types.specs.declared.plan.Plan.{Plan}
use Rattle.ide_types.specs.declared.stream.StreamPlan.{StreamPlan}
use Rattle.ide_types.specs.Ends.{link_hop}
use Rattle.ide_types.specs.Fits.{FitsPlan}
use Rattle.spec_keys.specs.History.{History}
use Rattle.spec_stream.specs.Sending.{Sending}
use Rattle.script_events.specs.declared.event.Event.TheVariants.{Forward}
use Rattle.event_verdicts.specs.Apart.{Fits}
use Rattle.event_verdicts.specs.declared.verdict.Verdict.TheVariants as v
use Rattle.spec_links.specs.Cause.{CauseLaw}
unfoldable use Rattle.spec_links.specs.Due.{due}
use Rattle.spec_links.specs.Due.{forward_first}
use Rattle.spec_links.specs.History.{sealed_packets}
use Rattle.spec_links.specs.Hops.{HopTlp, has_hop, leaving_end}
use Rattle.spec_links.specs.Memory.{hop_waiting}
use Rattle.spec_links.specs.Plan.{with_id}
unfoldable use Rattle.spec_links.specs.Plan.{stream_plan}
use Rattle.law_hops.proofs.Sends.{forward_sends, leaving_row}
use Rattle.law_sealing.proofs.Few.{sealed_few}
use Rattle.law_text.proofs.SendsFit.{sent_fits}
use Rattle.law_text.proofs.OperationsFit.{stream_fits}

forward_goes : (plan : Plan) (h : History) (link : ℕ) (d : Direction) (b : Bool) (xs : List HopTlp)
    → has_hop plan link ≡ b → hop_waiting plan h link d ≡ xs
    → due plan h (Forward link d) ≡ (if b then forward_first plan h link d xs else v.Nothing)
unfolding due
forward_goes plan h link d b xs known waits = λ i. if known i then forward_first plan h link d (waits i) else v.Nothing

link_less : (plan : Plan) (link : ℕ) → has_hop plan link ≡ true → link < 8
link_less plan link known =
    ltb-true link 8 (and_parts (is_link_line link) (is_some (link_hop (slice_get plan.links link))) known).0

leaving_known : (plan : Plan) (link : ℕ) (d : Direction) (hop : HopPlan) → link < 8
    → link_hop (slice_get plan.links link) ≡ Some hop
    → is_some (stream_plan plan (leaving_end link d).line hop.id) ≡ true
unfolding stream_plan
leaving_known plan link d hop less is = ap (λ (ss : List StreamPlan). is_some (with_id ss hop.id))
    (leaving_row plan link d hop less is) ∙ rw (eq-eqb hop.id hop.id refl) refl

waiting_fits : (plan : Plan) → FitsPlan plan → (h : History) → CauseLaw plan h → length h < 2 ^ 28 → (link : ℕ)
    (d : Direction) → has_hop plan link ≡ true → (xs : List HopTlp) → hop_waiting plan h link d ≡ xs
    → (o : Option HopPlan) → link_hop (slice_get plan.links link) ≡ o → Fits plan (due plan h (Forward link d))
waiting_fits plan fits h cause few link d known [] waits o is =
    let less = link_less plan link known in
    let small : link < 2 ^ 64 = omega (arith, less) in
    subst (Fits plan) (sym (forward_goes plan h link d true [] known waits)) small
waiting_fits plan fits h cause few link d known (x ∷ xs) waits None is =
    let has = (and_parts (is_link_line link) (is_some (link_hop (slice_get plan.links link))) known).1 in
    absurd (let never : ⊥ = cc (is, has) in never)
waiting_fits plan fits h cause few link d known (x ∷ xs) waits (Some hop) is =
    let end = leaving_end link d in
    let s : Sending = record { port = end; stream = hop.id; class = x.sub; more = false; trusted = x.t } in
    let at = stream_fits plan fits end.line hop.id (leaving_known plan link d hop (link_less plan link known) is) in
    subst (Fits plan) (sym (forward_sends plan fits h cause link d hop known is x xs waits))
    (sent_fits plan fits h cause few s at (length (sealed_packets plan h) + 1)
    (omega (arith, few, sealed_few plan h cause)))

pub forward_due_fits : (plan : Plan) → FitsPlan plan → (h : History) → CauseLaw plan h → length h < 2 ^ 28 → (link : ℕ)
    (d : Direction) → Fits plan (due plan h (Forward link d))
forward_due_fits plan fits h cause few link d = by (has_hop plan link) refl
  where
    by : (b : Bool) → has_hop plan link ≡ b → Fits plan (due plan h (Forward link d))
    by true known = waiting_fits plan fits h cause few link d known (hop_waiting plan h link d) refl
        (link_hop (slice_get plan.links link)) refl
    by false none = subst (Fits plan) (sym (forward_goes plan h link d false (hop_waiting plan h link d) none refl)) tt

-- A forward, as the machine has it: a verdict ahead of the ports, or the send of the first TLP that waits.
use Rattle.std.proofs.Common.{◌≡◌, ℕ, ◌+◌, ◌<◌, true, false, List, [], ◌∷◌, length, refl, ap, sym, subst, ◌∙◌}
use Rattle.std.proofs.Common.{arith, Bool}
use Rattle.std.proofs.lemmas.Bool.Decides.{nat_tests}
use Rattle.std.proofs.lemmas.Option.{slice_get_within}
use Rattle.std.specs.Prelude.{Option, Some, None, Result, Ok, Err, is_some, slice_get, nat_lt, if◌then◌else◌, ◌||◌}
use Rattle.std.specs.Prelude.{◌&&◌}
use Rattle.std.specs.List.{slice_index_or}
use Rattle.ide_types.specs.Lines.{is_link_line}
use Rattle.ide_types.specs.declared.memory.OutOfMemory.{OutOfMemory}
use Rattle.ide_types.specs.declared.direction.Direction.{Direction}
use Rattle.ide_types.specs.declared.direction.Direction.TheVariants.{Downstream, Upstream}
use Rattle.ide_types.specs.declared.plan.HopPlan.{HopPlan}
use Rattle.ide_types.specs.declared.plan.LinkPlan.{LinkPlan}
use Rattle.ide_types.specs.declared.plan.Plan.{Plan}
use Rattle.ide_types.specs.declared.stream.StreamPlan.{StreamPlan}
use Rattle.ide_types.specs.Ends.{link_hop}
use Rattle.hop_queues.specs.declared.queue.HopTlp.{HopTlp}
use Rattle.script_events.specs.declared.event.Event.TheVariants.{Forward}
use Rattle.event_verdicts.specs.declared.verdict.Verdict.{Verdict}
use Rattle.event_verdicts.specs.declared.verdict.Verdict.TheVariants as v
use Rattle.event_verdicts.specs.declared.access.AccessVerdict.TheVariants as av
use Rattle.spec_links.specs.Hops.{has_hop, leaving_end}
use Rattle.spec_links.specs.Plan.{has_link, has_port, streams_of}
use Rattle.spec_links.proofs.HopRows.{near_row, far_row}
use Rattle.machine_ports.specs.Forwards.{first_waiting}
use Rattle.machine_ports.specs.Machine.{BesidePorts, LinkState, Stepped, stepped_forward}
unfoldable use Rattle.machine_ports.specs.Machine.{step_of}
use Rattle.all_links.specs.States.{links_state}
use Rattle.all_links.specs.Links.{Ends, EndsIfSo, EndsSending, EndsSendingOrStays}
use Rattle.all_links.specs.Accesses.{carried_on_link}
use Rattle.all_links.specs.Besides.{beside_in}
use Rattle.all_links.proofs.Finds.{nothing_changes}
use Rattle.whole_links.specs.declared.whole.WholeLinks.{WholeLinks}
use Rattle.whole_links.specs.Besides.{forward_in}
use Rattle.whole_links.specs.Whole.{IsBoundedWhole, WholeEnds, WholeEndsOrStays}
use Rattle.whole_links.proofs.Ends.{ends_if, stays_with}

-- ---- the ends of a hop

-- the link of a hop is there
record HopLink (plan : Plan) (link : ℕ) : Type 0 where
  low : link < 8
  within : link < length plan.links
  hop : HopPlan
  hop_is : link_hop (slice_get plan.links link) ≡ Some hop

hop_at : (plan : Plan) (link : ℕ) (o : Option LinkPlan) → slice_get plan.links link ≡ o → is_link_line link ≡ true
    → is_some (link_hop o) ≡ true → HopLink plan link
hop_at plan link None at low some = absurd cc
hop_at plan link (Some l) at low some = by l.hop refl some
  where
    by : (o : Option HopPlan) → l.hop ≡ o → is_some o ≡ true → HopLink plan link
    by None is some = absurd cc
    by (Some h) is some = record {
      low = grind (arith, nat_tests, low);
      within = slice_get_within plan.links link l at;
      hop = h;
      hop_is = ap link_hop at ∙ is;
    }

left_true : (a b : Bool) → (a && b) ≡ true → a ≡ true
left_true a b is = grind arith

right_true : (a b : Bool) → (a && b) ≡ true → b ≡ true
right_true a b is = grind arith

hop_link : (plan : Plan) (link : ℕ) → has_hop plan link ≡ true → HopLink plan link
hop_link plan link has =
    hop_at plan link (slice_get plan.links link) refl
    (left_true (is_link_line link) (is_some (link_hop (slice_get plan.links link))) has)
    (right_true (is_link_line link) (is_some (link_hop (slice_get plan.links link))) has)

line_there : (plan : Plan) (line : ℕ) (s : StreamPlan) → streams_of plan line ≡ s ∷ []
    → (has_link plan line || nat_lt 0 (length (streams_of plan line))) ≡ true
line_there plan line s is = rw is (either (has_link plan line))
  where
    either : (a : Bool) → (a || true) ≡ true
    either a = grind arith

pub leaving_there : (plan : Plan) (link : ℕ) (d : Direction) → has_hop plan link ≡ true
    → has_port plan (leaving_end link d) ≡ true
leaving_there plan link Downstream has =
    let x = hop_link plan link has in
    line_there plan (16 + link) _ (far_row plan link x.hop x.low x.hop_is)
leaving_there plan link Upstream has =
    let x = hop_link plan link has in
    line_there plan (8 + link) _ (near_row plan link x.hop x.low x.hop_is)

-- ---- the machine's step

forward_step : (plan : Plan) (b : BesidePorts) (st : LinkState) (link : ℕ) (d : Direction) (o : Result HopTlp Verdict)
    → b.forward link d ≡ o → step_of plan b st (Forward link d) ≡ stepped_forward plan b st (leaving_end link d) o
unfolding step_of
forward_step plan b st link d o is =
    ap (λ (r : Result HopTlp Verdict). stepped_forward plan b st (leaving_end link d) r) is

-- ---- a verdict ahead of the ports

pub forward_only : {verdict w : Verdict} {old new : WholeLinks} (plan : Plan) (link : ℕ) (d : Direction)
    → forward_in plan old link d ≡ Err w → verdict ≡ w → new.links ≡ record old.links { steps = old.links.steps + 1 }
    → new.accesses ≡ old.accesses → IsBoundedWhole old → WholeEnds plan verdict old new (Forward link d)
forward_only {verdict} {w} {old} {new} plan link d due says is same bounded =
    ends_if plan
    (nothing_changes {IsSo = λ b. b.forward link d ≡ Err w} plan (Forward link d) says is bounded.bounded
    (λ b so h links stands. forward_step plan (beside_in old.links b) (links_state plan old.links) link d (Err w) so))
    bounded.whole (ap length same) (λ answer by regions. due)

-- no hop
pub forward_nowhere : {verdict : Verdict} {old new : WholeLinks} (plan : Plan) (link : ℕ) (d : Direction)
    → has_hop plan link ≡ false → verdict ≡ v.Nothing → new.links ≡ record old.links { steps = old.links.steps + 1 }
    → new.accesses ≡ old.accesses → IsBoundedWhole old → WholeEnds plan verdict old new (Forward link d)
forward_nowhere {verdict} {old} {new} plan link d none says is same bounded =
    forward_only plan link d
    (ap (λ (b : Bool). if b then first_waiting link (carried_on_link old.accesses link d) else Err v.Nothing) none) says
    is
    same bounded

-- a hop of a link that is not kept, which does not come
pub forward_unkept : {verdict : Verdict} {old new : WholeLinks} (plan : Plan) (link : ℕ) (d : Direction)
    → has_hop plan link ≡ true → nat_lt link (length old.links.ends.links) ≡ false → verdict ≡ v.Nothing
    → new.links ≡ record old.links { steps = old.links.steps + 1 }
    → new.accesses ≡ old.accesses → IsBoundedWhole old → WholeEnds plan verdict old new (Forward link d)
forward_unkept {verdict} {old} {new} plan link d has unkept says is same bounded =
    ends_if plan
    (nothing_changes {IsSo = λ b. true ≡ true} plan (Forward link d) says is bounded.bounded
    (λ b so h links stands.
    let many = links.many in
    let less = (hop_link plan link has).within in
    absurd (grind (arith, nat_tests, unkept, many, less))))
    bounded.whole (ap length same) (λ answer by regions. refl)

-- none waits
pub forward_empty : {verdict : Verdict} {old new : WholeLinks} (plan : Plan) (link : ℕ) (d : Direction)
    → has_hop plan link ≡ true → carried_on_link old.accesses link d ≡ [] → verdict ≡ v.Access (av.Empty link)
    → new.links ≡ record old.links { steps = old.links.steps + 1 }
    → new.accesses ≡ old.accesses → IsBoundedWhole old → WholeEnds plan verdict old new (Forward link d)
forward_empty {verdict} {old} {new} plan link d has none says is same bounded = forward_only plan link d
    (λ i. if has i then first_waiting link (none i) else Err v.Nothing) says is same bounded

-- ---- the send

sent_as_forward : {verdict : Verdict} (plan : Plan) (old new : WholeLinks) (link : ℕ) (d : Direction) (x : HopTlp)
    → has_hop plan link ≡ true → EndsSending plan verdict old.links new.links (leaving_end link d) x.bytes false x.t
    → EndsIfSo (λ b. b.forward link d ≡ Ok x) plan verdict old.links new.links (Forward link d)
sent_as_forward {verdict} plan old new link d x has sent = record {
  counted = sent.counted;
  bounded = sent.bounded;
  many = sent.many;
  regions = sent.regions;
  ends = λ b so h links stands.
      subst (λ (s : Stepped). Ends plan new.links verdict s)
      (sym (forward_step plan (beside_in old.links b) (links_state plan old.links) link d (Ok x) so))
      (sent.ends b (leaving_there plan link d has) h links stands);
}

-- the first of a list
first_is : (link : ℕ) (xs : List HopTlp) (x : HopTlp) → 0 < length xs → x ≡ slice_index_or xs 0 x
    → first_waiting link xs ≡ Ok x
first_is link [] x some is = absurd (omega (arith, some))
first_is link (y ∷ xs) x some is = ap (λ (z : HopTlp). Ok z) (sym is)

pub forward_sent_or : (plan : Plan) (r : Result Verdict OutOfMemory) (old new : WholeLinks) (link : ℕ) (d : Direction)
    (x : HopTlp) → has_hop plan link ≡ true → 0 < length (carried_on_link old.accesses link d)
    → x ≡ slice_index_or (carried_on_link old.accesses link d) 0 x
    → EndsSendingOrStays plan r old.links new.links (leaving_end link d) x.bytes false x.t
    → new.accesses ≡ old.accesses → IsBoundedWhole old → WholeEndsOrStays plan r old new (Forward link d)
forward_sent_or plan (Ok verdict) old new link d x has some first sent same bounded =
    ends_if plan (sent_as_forward plan old new link d x has sent) bounded.whole (ap length same)
    (λ answer by regions.
    (λ i. if has i then first_waiting link (carried_on_link old.accesses link d) else Err v.Nothing)
    ∙ first_is link (carried_on_link old.accesses link d) x some first)
forward_sent_or plan (Err e) old new link d x has some first sent same bounded = stays_with sent same

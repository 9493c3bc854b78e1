-- What all links say beside their ports is what the whole machine says, and every event on an interface has the
-- machine's answer.
use Rattle.std.proofs.Common.{◌≡◌, ℕ, ◌<◌, ◌≤◌, List, Option, Some, length, refl, ap, sym, ◌∙◌, subst, ⊎_elim}
use Rattle.std.proofs.lemmas.Bool.{cases_lt, le-ltb}
use Rattle.std.specs.Prelude.{IsSome, Err}
use Rattle.ide_types.specs.declared.plan.Plan.{Plan}
use Rattle.script_events.specs.declared.event.Event.{Event}
use Rattle.script_events.specs.declared.event.InterfaceEvent.{InterfaceEvent}
use Rattle.event_verdicts.specs.declared.verdict.Verdict.{Verdict}
use Rattle.event_verdicts.specs.declared.verdict.Verdict.TheVariants as v
use Rattle.join_world.specs.{InterfaceOperationsJoin, answer_of_links, AreLinks, beside_whole, carried_on_link}
use Rattle.join_world.specs.{IsAnswered, policy_in, HasAllAccesses as EachHasAccesses, WholeLinks}
use Rattle.spec_links.specs.Memory.{effects_under_policy}
use Rattle.spec_links.specs.Hops.{HopTlp}
unfoldable use Rattle.spec_links.specs.Ports.{port_of}
use Rattle.machine_ports.specs.Forwards.{forward_of}
use Rattle.machine_whole.specs.Machine.{Whole, beside_of, policy_of}
use Rattle.join_world.specs.Worlds.{IsWholeState, world_of}
use Rattle.join_world.proofs.Asked.{answer_is}
use Rattle.join_world.proofs.Besides.{grant_is}
use Rattle.join_world.proofs.Owners.{t_is}
use Rattle.join_accesses.proofs.Accessed.{shows_is, statuses_are}
use Rattle.join_accesses.proofs.Replied.{reply_is}

-- effects depend on the same
policy_is : (plan : Plan) (s : WholeLinks) (w : Whole) → AreLinks plan s.links.ends s.links.keeper.keys
    → EachHasAccesses s → IsWholeState (world_of plan s) w
    → policy_in s.links.keeper.interfaces s.links.ends s.accesses ≡ policy_of plan w
policy_is plan s w links each whole =
    let m = s.links.keeper.interfaces in
    let memory = s.links.trusted.contents in
    let ends = s.links.ends.links in
    λ i. record {
      grants = λ link requester.
          grant_is plan ends m memory w whole.beside links.fits links.many link requester i;
      waiting = λ port. length (whole.accesses.reads port i);
      statuses = λ link.
          statuses_are plan ends m memory w whole.beside links.fits links.many s.accesses each whole.accesses link i;
    }

-- only links have hops
forward_is : (plan : Plan) (link : ℕ) (xs ys : List HopTlp) → (link < 8 → xs ≡ ys)
    → forward_of plan link xs ≡ forward_of plan link ys
forward_is plan link xs ys same =
    ⊎_elim (λ lt. ap (forward_of plan link) (same lt))
    (λ le. none xs le ∙ sym (none ys le)) (cases_lt link 8)
  where
    none : (zs : List HopTlp) → 8 ≤ link → forward_of plan link zs ≡ Err v.Nothing
    none zs le = rw (le-ltb link 8 le) refl

pub beside_is : (plan : Plan) (s : WholeLinks) (w : Whole) → AreLinks plan s.links.ends s.links.keeper.keys
    → EachHasAccesses s → IsWholeState (world_of plan s) w → beside_whole plan s (beside_of plan w).answer
    ≡ beside_of plan w
beside_is plan s w links each whole =
    let m = s.links.keeper.interfaces in
    let memory = s.links.trusted.contents in
    let ends = s.links.ends.links in
    let b = whole.beside in
    λ i. record {
      t = λ end head stream trusted.
          t_is plan s.links.ends s.links.keeper.keys m memory w links b end head stream trusted i;
      effects = λ port. effects_under_policy plan (policy_is plan s w links each whole i) (port_of plan port);
      answer = (beside_of plan w).answer;
      reply = λ port. reply_is plan s w b links.fits links.many each whole.accesses links.each_link port i;
      shows = λ number bar offset len.
          shows_is plan ends m memory w b links.fits links.many s.accesses each whole.accesses number bar offset len i;
      forward = λ link d.
          forward_is plan link (carried_on_link s.accesses link d) (w.accesses.carried link d)
          (whole.accesses.carried link d) i;
    }

-- every event on an interface has the machine's answer
pub answers_are : (plan : Plan) (s : WholeLinks) (w : Whole) → InterfaceOperationsJoin
    → AreLinks plan s.links.ends s.links.keeper.keys → IsWholeState (world_of plan s) w → (e : InterfaceEvent)
    → answer_of_links s.links e ≡ Some ((beside_of plan w).answer e)
answers_are plan s w joins links whole = answer_is plan s.links.ends s.links.keeper s.links.packets.packets
    s.links.trusted.contents w joins links whole.beside whole.drawn whole.links

pub is_answered : (plan : Plan) (s : WholeLinks) (w : Whole) → InterfaceOperationsJoin
    → AreLinks plan s.links.ends s.links.keeper.keys
    → IsWholeState (world_of plan s) w → (event : Event) → IsAnswered s.links event
is_answered plan s w joins links whole event e on =
    subst (λ (o : Option Verdict). IsSome o) (sym (answers_are plan s w joins links whole e)) refl

-- One step of the world. What the links say beside the ports is what the whole machine says. So the step of the links
-- is the machine's, and its verdict and its state are those of the machine, which stands for the history with the
-- event.
use Rattle.std.proofs.Common.{◌≡◌, ◌∷◌, ℕ, List, length, refl, ap, sym, ◌∙◌, subst, Option, Some, None}
use Rattle.std.proofs.lemmas.Option.{none-some, same_Some}
use Rattle.std.specs.Prelude.{Err, IfSome, IsSome, Ok, OnErr, Result}
use Rattle.ide_types.specs.declared.plan.Plan.{Plan}
use Rattle.script_events.specs.declared.event.Event.{Event}
use Rattle.script_events.specs.declared.event.InterfaceEvent.{InterfaceEvent}
use Rattle.event_verdicts.specs.declared.verdict.Verdict.{Verdict}
use Rattle.spec_keys.specs.History.{History}
use Rattle.machine_ports.specs.Machine.{LinkPacket, LinkState, Stepped, step_of}
use Rattle.machine_ports.specs.Stands.{PortsStandFor}
use Rattle.machine_operations.specs.Points.{PointsStand}
use Rattle.machine_whole.specs.Machine.{Whole, beside_of, whole_after, whole_step}
use Rattle.machine_whole.specs.Stands.{WholeStandsFor, WholeSteps}
use Rattle.join_interfaces.specs.Joined.{InterfaceOperationsJoin}
use Rattle.join_accesses.specs.{AreLinks, Ends, EndsView, HasNoVerdict, HostKeeper, IsBounded, links_state, BesideAfter}
use Rattle.join_accesses.specs.{StandsForSome, state_of, WholeLinks, AccessesAfter, beside_whole, WholeEnds}
use Rattle.join_accesses.specs.{WholeEndsOrHasNone, WholeStays, HasAllAccesses as EachHasAccesses, AreAccesses}
use Rattle.join_accesses.specs.{LinkSeen, link_seen, AreDrawn, IsBeside, WorldView, IsAsBefore, WorldStandsFor}
use Rattle.join_accesses.specs.{HasStood, IsStep, world_of, IsWorld}
use Rattle.join_accesses.proofs.{IsState}
use Rattle.join_accesses.proofs.Said.{answers_are, beside_is, is_answered}
use Rattle.join_accesses.proofs.Turned.{accesses_are}
use Rattle.world.proofs.Turns.{Turn, IsAfter, beside_after, drawn_after}

-- the links stand for the history that the world stands for
pub stands_for_some : (plan : Plan) (s : WholeLinks) → IsWorld plan s → StandsForSome plan s.links
stands_for_some plan s is = record {
  history = is.history;
  links = is.links;
  stands = subst (λ (st : LinkState). PortsStandFor plan st is.history) is.stands.is.links is.stands.stands.links;
}

-- the three theorems that a step rests on
pub record Given : Type 0 where
  pub steps : WholeSteps
  pub points : PointsStand
  pub join : InterfaceOperationsJoin

module _ (plan : Plan) (old new : WholeLinks) (e : Event) (verdict : Verdict) (given : Given)
    (links : AreLinks plan old.links.ends old.links.keeper.keys) (each : EachHasAccesses old)
    (ended : WholeEnds plan verdict old new e)
    (sides : BesideAfter plan e verdict old.links new.links) (accesses : AccessesAfter plan e verdict old new)
    (h : History)
    (s : WorldStandsFor (world_of plan old) h) where
  before : PortsStandFor plan (links_state plan old.links) h
  before = subst (λ (st : LinkState). PortsStandFor plan st h) s.is.links s.stands.links

  abbrev answer : InterfaceEvent → Verdict
  answer = (beside_of plan s.whole).answer

  ends : Ends plan new.links verdict (step_of plan (beside_whole plan old answer) (links_state plan old.links) e)
  ends = ended.ends answer (λ f on. answers_are plan old s.whole given.join links s.is f) s.is.beside.regions h links
      before

  same : step_of plan (beside_whole plan old answer) (links_state plan old.links) e
      ≡ step_of plan (beside_of plan s.whole) s.whole.links e
  same = λ i. step_of plan (beside_is plan old s.whole links each s.is i) (sym s.is.links i) e

  stepped : (verdict, links_state plan new.links) ≡ step_of plan (beside_of plan s.whole) s.whole.links e
  stepped = (λ i. (ends.verdict_is i, ends.state_is i)) ∙ same

  state : IsState plan old.links s.whole
  state = record { links = s.is.links; beside = s.is.beside; drawn = s.is.drawn }

  turn : Turn plan old.links new.links s.whole e verdict
  turn = record {
    both = record { links = links; links_after = ends.links; whole = state };
    history = h;
    stands = before;
    regions = ended.regions;
    step = stepped;
  }

  beside_now : IsAfter plan new.links s.whole e verdict
  beside_now = beside_after plan old.links new.links s.whole verdict given.join e turn sides

  abbrev after : Whole
  after = whole_after plan s.whole e verdict (links_state plan new.links)

  machine : (verdict, after) ≡ whole_step plan s.whole e
  machine = ap (λ (r : Stepped). (r.0, whole_after plan s.whole e r.0 r.1)) stepped

  new_stands : WholeStandsFor plan after ((e, verdict) ∷ h)
  new_stands = subst (λ (r : Verdict × Whole). WholeStandsFor plan r.1 ((e, r.0) ∷ h)) (sym machine)
      (given.steps plan s.whole h e s.stands).1

  pub stood_after : HasStood h e verdict (world_of plan old) (world_of plan new)
  stood_after = record {
    due_is = ap (λ (r : Verdict × Whole). r.0) machine ∙ (given.steps plan s.whole h e s.stands).0;
    stands = record {
      whole = after;
      is = record {
        links = refl;
        beside = beside_now;
        drawn = drawn_after plan old.links new.links s.whole verdict given.join e turn sides;
        accesses = accesses_are plan old new s.whole verdict turn.both each s.is.accesses e h before beside_now stepped
            accesses;
      };
      stands = new_stands;
    };
    points = given.points plan (links_state plan new.links) ((e, verdict) ∷ h) new_stands.links;
  }

-- ---- a step of the world

-- what an event with this verdict makes of what stands beside the ports
pub record HasSides (plan : Plan) (old new : WholeLinks) (e : Event) (verdict : Verdict) : Type 0 where
  pub sides : BesideAfter plan e verdict old.links new.links
  pub accesses : AccessesAfter plan e verdict old new

pub both_sides : (plan : Plan) (old new : WholeLinks) (e : Event) (o : Option Verdict)
    → IfSome o (λ v. BesideAfter plan e v old.links new.links) → IfSome o (λ v. AccessesAfter plan e v old new)
    → IfSome o (HasSides plan old new e)
both_sides plan old new e None sides accesses = tt
both_sides plan old new e (Some verdict) sides accesses = record { sides = sides; accesses = accesses }

module _ (plan : Plan) (old new : WholeLinks) (e : Event) (given : Given) (w : IsWorld plan old) where
  -- each event has a verdict
  not_without : HasNoVerdict plan old.links e → ⊥
  not_without none = none (stands_for_some plan old w)
      (is_answered plan old w.stands.whole given.join w.links w.stands.is e)

  pub has_verdict : (o : Option Verdict) → WholeEndsOrHasNone plan o old new e → IsSome o
  has_verdict (Some verdict) x = refl
  has_verdict None x = absurd (not_without x)

  pub world_after : (o : Option Verdict) → WholeEndsOrHasNone plan o old new e → IfSome o (HasSides plan old new e)
      → IsWorld plan new
  world_after None x sides = absurd (not_without x)
  world_after (Some verdict) x sides =
      let stood = stood_after plan old new e verdict given w.links w.bounded.whole x sides.sides sides.accesses
      w.history w.stands in
      record {
        links = (ends plan old new e verdict given w.links w.bounded.whole x sides.sides sides.accesses w.history
            w.stands).links;
        bounded = x.bounded;
        history = (e, verdict) ∷ w.history;
        stands = stood.stands;
      }

  pub step_after : (view : WorldView) → world_of plan old ≡ view → (o : Option Verdict) (verdict : Verdict)
      → o ≡ Some verdict → WholeEndsOrHasNone plan o old new e → IfSome o (HasSides plan old new e)
      → IsStep view e verdict (world_of plan new)
  step_after view is None verdict some x sides = absurd (none-some verdict some)
  step_after view is (Some said) verdict some x sides =
      subst (λ (v : Verdict). IsStep view e v (world_of plan new)) (same_Some said verdict some)
      (subst (λ (b : WorldView). IsStep b e said (world_of plan new)) is (record {
        plan_is = refl;
        steps_are = x.counted;
        stood = λ h s. stood_after plan old new e said given w.links w.bounded.whole x sides.sides sides.accesses h s;
      }))

-- ---- want of memory

module _ (plan : Plan) (old new : WholeLinks) (w : IsWorld plan old) (stays : WholeStays old new) where
  seen_same : link_seen new.accesses ≡ link_seen old.accesses
  seen_same = λ j link. record {
    reads = λ side. stays.accesses.reads (record { side = side; line = link }) j;
    floors = stays.accesses.floors link j;
    sizes = stays.accesses.sizes link j;
    bytes = λ i b offset.
        (stays.accesses.bytes link (w.stands.whole.accesses.happened link) (w.stands.is.accesses.bytes link) i b offset
        ∙ sym (w.stands.is.accesses.bytes link i b offset)) j;
    carried = λ d. stays.accesses.carried link d j;
  }

  world_same : record (world_of plan new) { accesses = old.accesses } ≡ world_of plan old
  world_same = λ j. record {
    plan = plan;
    state = state_of plan (stays.links.ends j) (stays.links.keeper j).keys (stays.links.packets j);
    ends = stays.links.ends j;
    interfaces = (stays.links.keeper j).interfaces;
    peer_draws = (stays.links.keeper j).peer_draws;
    memory = stays.links.trusted j;
    accesses = old.accesses;
    steps = stays.links.steps j;
  }

  pub world_stays : IsAsBefore (world_of plan old) (world_of plan new)
  world_stays = record { world = world_same; accesses = seen_same }

  pub invariant_stays : IsWorld plan new
  invariant_stays = record {
    links = subst (λ (v : EndsView). AreLinks plan v new.links.keeper.keys) (sym stays.links.ends)
        (subst (λ (k : HostKeeper). AreLinks plan old.links.ends k.keys) (sym stays.links.keeper) w.links);
    bounded = record {
      bounded = subst (λ (n : ℕ). IsBounded new.links.ends new.links.packets.packets n) (sym stays.links.steps)
          (subst (λ (ps : List LinkPacket). IsBounded new.links.ends ps old.links.steps) (sym stays.links.packets)
          (subst (λ (v : EndsView). IsBounded v old.links.packets.packets old.links.steps)
          (sym stays.links.ends) w.bounded.bounded));
      whole = stays.accesses.many ∙ (w.bounded.whole ∙ sym (ap (λ (v : EndsView). length v.links) stays.links.ends));
    };
    history = w.history;
    stands = record {
      whole = w.stands.whole;
      is = record {
        links = w.stands.is.links ∙ sym (ap (λ (v : WorldView). v.state) world_same);
        beside = subst (λ (v : WorldView). IsBeside plan v.ends.links v.interfaces v.memory w.stands.whole)
            (sym world_same) w.stands.is.beside;
        drawn = subst (λ (v : WorldView). AreDrawn plan v.peer_draws w.stands.whole.draw) (sym world_same)
            w.stands.is.drawn;
        accesses = subst (λ (seen : ℕ → LinkSeen). AreAccesses plan seen w.stands.whole.accesses) (sym seen_same)
            w.stands.is.accesses;
      };
      stands = w.stands.stands;
    };
  }

pub as_before : {A E : Type 0} (plan : Plan) (old new : WholeLinks) → IsWorld plan old → WholeStays old new
    → (view : WorldView) → world_of plan old ≡ view → (r : Result A E) → OnErr r (IsAsBefore view (world_of plan new))
as_before plan old new w stays view is (Ok x) = tt
as_before plan old new w stays view is (Err e) =
    subst (λ (v : WorldView). IsAsBefore v (world_of plan new)) is (world_stays plan old new w stays)

-- An establish of an idle stream that ends at its event leaves the stream fresh: its draw is new.
use Rattle.law_sealing.proofs.Terms.{◌≡◌, ℕ, ◌≤◌, ◌&&◌, ◌∷◌, ◌++◌, ◌⊎◌, Bool, true, false}
use Rattle.law_sealing.proofs.Terms.{Option, Some, None, List, [], slice_get, refl, ap, sym, ◌∙◌, arith}
use Rattle.law_sealing.proofs.Terms.{if◌then◌else◌, nat_tests, nil_from_length, Plan, History, Event, Verdict}
use Rattle.law_sealing.proofs.Terms.{AllByRecursion, list_any, Pr, Npr, Cpl}
use Rattle.law_sealing.proofs.Terms.{PortName, SubKind, SealedPacket, Packet, lane_in}
use Rattle.law_sealing.proofs.Terms.{sealed_packets, sealed_same, units, joined_units, packets_of_units}
use Rattle.law_sealing.proofs.Terms.{CauseLaw, eqb-refl, has_failed}
unfoldable use Rattle.law_sealing.proofs.Terms.{accepted_packets, packets_in_hold}
use Rattle.ide_types.specs.declared.port.Side.{Side}
use Rattle.ide_types.specs.Lines.{is_hosted}
use Rattle.script_events.specs.declared.event.Event.TheVariants as event
use Rattle.script_events.specs.declared.event.Loss.{Loss}
use Rattle.event_verdicts.specs.declared.verdict.Operation.TheVariants as op
use Rattle.event_verdicts.specs.declared.verdict.Verdict.TheVariants as v
use Rattle.spec_keys.specs.Places.{KeyPlan, KeyPlace, places_of, key_place_at}
use Rattle.spec_keys.specs.Keys.{Keys, draw_of_keyed}
use Rattle.spec_keys.specs.Operations.{StreamStage, Idle, Up, work_of, op_after_reach, whole}
use Rattle.spec_keys.specs.History.{op_of, draws, place_keys, moments, keeps_live, has_key}
unfoldable use Rattle.spec_keys.specs.History.{manager, failed_there, base}
unfoldable use Rattle.spec_keys.specs.Due.{key_due}
use Rattle.spec_keys.specs.Due.{ports_at, finished_verdict, may_establish}
use Rattle.spec_keys.proofs.Performs.{is_cut, performed_is}
use Rattle.spec_keys.proofs.Shapes.{draws_started}
use Rattle.spec_keys.proofs.Whole.{fits}
use Rattle.spec_links.specs.Plan.{key_plan, partner}
use Rattle.spec_links.specs.History.{place_in_sub_stream}
use Rattle.law_keys.proofs.States.{keys_follow_operations}
use Rattle.law_key_facts.proofs.Given.{key_cause}
use Rattle.law_key_facts.proofs.SealedKeys.{below_draws}
use Rattle.law_key_facts.proofs.Moments.{none_got, none_held}
use Rattle.law_sealing.proofs.Sums.{none_filtered}
use Rattle.law_delivery.proofs.GotUnits.{got_units}
use Rattle.law_honest.specs.Honest.{IsFresh, LeavesFresh, is_sealed_at}
use Rattle.law_honest.specs.Statements.{FreshLawHolds}
use Rattle.law_honest.proofs.Stands.{lanes_meet}

-- ---- the operation

established_as : (plan : KeyPlan) (has : Bool) (q : StreamStage) (next line stream : ℕ) (x : Verdict) (l t j : ℕ)
    → (x ≡ finished_verdict line stream (work_of op.Establish q next)) ⊎ (is_cut x ≡ true)
    → v.Established l t j ≡ (if has then may_establish plan line next q x else v.Nothing) → l ≡ line
established_as plan has q next line stream x l t j performs is = grind arith

-- the verdict names the line of the event
names_line : (plan : KeyPlan) (h : History) (line stream : ℕ) (loss : Option Loss) (l t j : ℕ)
    → v.Established l t j ≡ key_due plan h (event.Establish line stream loss) (v.Established l t j) → l ≡ line
unfolding key_due
names_line plan h line stream loss l t j is =
    established_as plan (plan.has_stream line stream) (op_of h line stream) (draws h) line stream _ l t j
    (performed_is (ports_at h) line stream loss (work_of op.Establish (op_of h line stream) (draws h))) is

ends_up : (line next : ℕ)
    → op_after_reach (is_hosted line) (work_of op.Establish Idle next) (whole line op.Establish) ≡ Up false next
ends_up line next = grind arith

-- ---- what was before

keyless : (ks : Keys) → draw_of_keyed ks.first ≡ None → draw_of_keyed ks.second ≡ None → keeps_live ks ≡ false
keyless ks first second = grind arith

none_live : (plan : Plan) (h : History) → CauseLaw plan h → (p : KeyPlace) → op_of h p.line p.stream ≡ Idle
    → keeps_live (place_keys h p) ≡ false
none_live plan h cause p idle =
    let none = (keys_follow_operations (key_plan plan) h (key_cause plan h cause)).idle p idle in
    keyless (place_keys h p) (none false) (none true)

none_among : (f : KeyPlace → Bool) (ps : List KeyPlace) → AllByRecursion (λ (p : KeyPlace). f p ≡ false) ps
    → list_any f ps ≡ false
none_among f [] none = refl
none_among f (p ∷ ps) none = rw none.0 (none_among f ps none.1)

no_key : (plan : Plan) (h : History) → CauseLaw plan h → (side : Side) (line stream : ℕ) → op_of h line stream ≡ Idle
    → has_key (place_keys h) side line stream ≡ false
no_key plan h cause side line stream idle =
    let none = λ (upward : Bool) (u : SubKind). none_live plan h cause (key_place_at side line stream upward u) idle in
    none_among (λ (p : KeyPlace). keeps_live (place_keys h p)) (places_of side line stream)
    (none false Pr, (none false Npr, (none false Cpl, (none true Pr, (none true Npr, (none true Cpl, tt))))))

not_failed : (plan : Plan) (h : History) → CauseLaw plan h → (side : Side) (line stream : ℕ)
    → op_of h line stream ≡ Idle → failed_there h side line stream ≡ false
unfolding failed_there
not_failed plan [] cause side line stream idle = refl
not_failed plan ((e, w) ∷ h) cause side line stream idle =
    rw (no_key plan ((e, w) ∷ h) cause side line stream idle) (and_false _)
  where
    and_false : (b : Bool) → (b && false) ≡ false
    and_false true = refl
    and_false false = refl

-- under draws that were not made nothing was held or accepted
module _
    (plan : Plan) (h : History) (cause : CauseLaw plan h) (q : PortName) (stream : ℕ) (u : SubKind) (j : ℕ)
    (least : draws h ≤ j) where
  abbrev place : KeyPlace
  place = place_in_sub_stream q (lane_in q stream u) false

  not_started : draws_started (moments h place) ≤ j
  not_started =
      let below = (fits (key_plan plan) h (key_cause plan h cause) place).below.fresh in omega (arith, below, least)

  none_accepted : accepted_packets plan h (lane_in q stream u) j ≡ []
  none_accepted =
      let s = lane_in q stream u in
      let ps = accepted_packets plan h s j in
      let are = got_units plan h cause s j in
      let none = nil_from_length (units ps) (are.count ∙ none_got plan h cause q stream u j not_started) in
      sym (joined_units ps) ∙ (λ i. packets_of_units (none i) ++ are.none i)

  none_in_hold : (n : ℕ) → packets_in_hold plan h (lane_in q stream u) j n ≡ []
  none_in_hold n = none_held plan h cause q stream u j n not_started

-- ---- the pair

module _
    (plan : Plan) (h : History) (line stream : ℕ) (loss : Option Loss) (l t j : ℕ)
    (cause : CauseLaw plan ((event.Establish line stream loss, v.Established l t j) ∷ h))
    (idle : op_of h line stream ≡ Idle) (side : Side) where
  abbrev g : History
  g = (event.Establish line stream loss, v.Established l t j) ∷ h

  abbrev port : PortName
  port = record { side = side; line = line }

  base_is : base g line stream ≡ draws h
  unfolding base
  base_is = rw (eqb-refl line, eqb-refl stream, idle) refl

  up : op_of g line stream ≡ Up false (draws h)
  unfolding manager
  up = rw (
    eqb-refl line,
    eqb-refl stream,
    names_line (key_plan plan) h line stream loss l t j (key_cause plan g cause).0,
    idle,
  ) (ends_up line (draws h))

  secure : has_failed g (partner port) stream ≡ false
  unfolding failed_there
  secure = rw (not_failed plan h cause.1 (partner port).side line stream idle) refl

  none_before : (i : ℕ) (x : SealedPacket × Packet) → slice_get (sealed_packets plan g) i ≡ Some x
      → is_sealed_at port stream (draws h) x ≡ true → ⊥
  none_before i x is passes =
      let old = rw (sealed_same plan h (event.Establish line stream loss) (v.Established l t j) refl) at is in
      let less = below_draws plan h cause.1 i x old in
      let le : draws h ≤ x.0.draw = grind (arith, nat_tests, passes) in
      absurd (omega (arith, less, le))

  pub fresh : IsFresh plan g port stream
  unfolding accepted_packets packets_in_hold
  fresh = record {
    set = false;
    up = up ∙ ap (Up false) (sym base_is);
    none_sealed = rw base_is (none_filtered (is_sealed_at port stream (draws h)) (sealed_packets plan g) none_before);
    none_accepted = λ u k le. rw (← lanes_meet port stream u)
        (none_accepted plan h cause.1 (partner port) stream u k (rw base_is at le));
    none_held = λ u k le. rw (← lanes_meet port stream u)
        (none_in_hold plan h cause.1 (partner port) stream u k (rw base_is at le) _);
    secure = secure;
  }

leaves : (plan : Plan) (h : History) (e : Event) (w : Verdict) → CauseLaw plan ((e, w) ∷ h) → LeavesFresh plan h e w
leaves plan h (event.Establish line stream loss) (v.Established l t j) cause =
    λ idle side. fresh plan h line stream loss l t j cause idle side
leaves plan h e w cause = tt

pub fresh_law : FreshLawHolds
fresh_law plan [] cause = tt
fresh_law plan ((e, w) ∷ h) cause = (leaves plan h e w cause, fresh_law plan h cause.1)

-- What pairs keep of the keys of a stream that is up.
use Rattle.law_sealing.proofs.Terms.{◌≡◌, ℕ, ◌≤◌, ◌==◌, ◌&&◌, ◌∷◌, ◌++◌, Bool, true, false, Option, Some}
use Rattle.law_sealing.proofs.Terms.{None, List, [], refl, ap, sym, ◌∙◌, arith, inl, inr, cases_eq}
use Rattle.law_sealing.proofs.Terms.{not, if◌then◌else◌, nat_tests, eqb-refl, Plan, History, Event}
use Rattle.law_sealing.proofs.Terms.{Verdict, Sealed, Accepted, SealedPacket, UnitName, Effect, PortName, SubStream}
use Rattle.law_sealing.proofs.Terms.{SubKind, is_same, is_same_port, lane_in, lane_out, received_in}
use Rattle.law_sealing.proofs.Terms.{CauseLaw, on_draw, live_key, KeyName, Keyed, on_in, key_in, port_keys}
use Rattle.spec_keys.specs.Operations.{Reach, StreamStage, Up, StreamOperations, manager_after_operation, work_of}
use Rattle.spec_keys.specs.Operations.{op_after_reach, whole, reach_of}
use Rattle.spec_keys.specs.Places.{KeyPlan, KeyPlace, is_on_stream}
use Rattle.spec_keys.specs.Keys.{Keys, Touch, Program, Go, keys_after_touch, without_outlived}
unfoldable use Rattle.spec_keys.specs.Keys.{keys, is_open}
use Rattle.spec_keys.specs.History.{op_of, draws, touches, touches_after, touches_if, work_touches, on_it}
use Rattle.spec_keys.specs.History.{history_status}
unfoldable use Rattle.spec_keys.specs.History.{manager, moments, base}
use Rattle.law_honest.specs.Honest.{LeavesStream, reaches_none}
use Rattle.spec_links.specs.KeyFacts.{is_steady}
use Rattle.spec_keys.specs.Operations.{Work}
use Rattle.std.specs.Prelude.{is_none, is_some}
unfoldable use Rattle.spec_keys.specs.Due.{key_due}
use Rattle.spec_keys.specs.Due.{ports_at}
use Rattle.spec_keys.specs.Terms.{Operation, Host}
use Rattle.spec_keys.proofs.Performs.{performed_is}
use Rattle.spec_links.specs.History.{lesser, place_in_sub_stream, after_ends, ended_keys, ends_port_unit, accepted_keys}
unfoldable use Rattle.spec_links.specs.KeyFacts.{operates}
use Rattle.spec_links.specs.Plan.{key_plan}
use Rattle.ide_types.specs.Lines.{is_hosted}
use Rattle.script_events.specs.declared.event.Loss.{Loss}
use Rattle.script_events.specs.declared.event.Event.TheVariants as event
use Rattle.event_verdicts.specs.declared.verdict.Operation.TheVariants as op
use Rattle.event_verdicts.specs.declared.verdict.Verdict.TheVariants as v
use Rattle.spec_links.proofs.Tests.{eqb-sym, in_not_out}
use Rattle.law_keys.proofs.Ends.{refreshed_as}
use Rattle.law_keys.proofs.States.{keys_follow_operations}
use Rattle.law_key_facts.proofs.AllFacts.{facts as key_facts}
use Rattle.law_key_facts.proofs.Given.{key_cause}
use Rattle.law_key_facts.proofs.RealFacts.{ends_keep, operates_no_base, seat_same}
use Rattle.law_key_facts.proofs.Seats.{keys_out, keys_into}
use Rattle.law_key_facts.proofs.Unplanned.{on_at}
use Rattle.law_delivery.proofs.Orders.{is_drawn}

-- ---- the manager

elsewhere : (m : StreamOperations) (o : Operation) (l s line stream : ℕ) (r : Option Reach)
    → ((l == line) && (s == stream)) ≡ false → (manager_after_operation m o l s r).ops line stream ≡ m.ops line stream
elsewhere m o l s line stream None other = refl
elsewhere m o l s line stream (Some r) other =
    let still = (λ i. eqb-sym line l i && eqb-sym stream s i) ∙ other in rw still refl

still_op : (h : History) (e : Event) (w : Verdict) (line stream : ℕ) → operates e line stream ≡ false
    → op_of ((e, w) ∷ h) line stream ≡ op_of h line stream
unfolding manager operates
still_op h (event.Establish l s loss) w line stream still =
    elsewhere (manager h) op.Establish l s line stream (reach_of op.Establish w) still
still_op h (event.Refresh l s loss) w line stream still =
    elsewhere (manager h) op.Refresh l s line stream (reach_of op.Refresh w) still
still_op h (event.Stop l s loss) w line stream still =
    elsewhere (manager h) op.Stop l s line stream (reach_of op.Stop w) still
still_op h (event.Reset l ends) (v.Reset k) line stream still = rw still refl
still_op h (event.Reset l ends) w line stream still = refl
still_op h e w line stream still = refl

-- an operation that reached no exchange
none_reached : (r : Option Reach) → is_none r ≡ true → r ≡ None
none_reached None is = refl
none_reached (Some r) is = absurd cc

unreached : (m : StreamOperations) (o : Operation) (l s line stream : ℕ) (r : Option Reach) → is_none r ≡ true
    → (manager_after_operation m o l s r).ops line stream ≡ m.ops line stream
unreached m o l s line stream r none = rw (none_reached r none) refl

refused_op : (h : History) (e : Event) (w : Verdict) (line stream : ℕ) → reaches_none e w ≡ true
    → op_of ((e, w) ∷ h) line stream ≡ op_of h line stream
unfolding manager
refused_op h (event.Establish l s loss) w line stream none =
    unreached (manager h) op.Establish l s line stream (reach_of op.Establish w) none
refused_op h (event.Refresh l s loss) w line stream none =
    unreached (manager h) op.Refresh l s line stream (reach_of op.Refresh w) none
refused_op h (event.Stop l s loss) w line stream none =
    unreached (manager h) op.Stop l s line stream (reach_of op.Stop w) none
refused_op h e w line stream none = absurd cc

pub op_kept : (h : History) (e : Event) (w : Verdict) (line stream : ℕ) → LeavesStream e w line stream
    → op_of ((e, w) ∷ h) line stream ≡ op_of h line stream
op_kept h e w line stream (inl still) = still_op h e w line stream still
op_kept h e w line stream (inr none) = refused_op h e w line stream none

not_begun : (a b : Bool) (r : Option Reach) (m n : ℕ) → is_none r ≡ true
    → (if a && (b && is_some r) then m else n) ≡ n
not_begun a b r m n none = grind arith

refused_base : (h : History) (e : Event) (w : Verdict) (line stream : ℕ) → reaches_none e w ≡ true
    → base ((e, w) ∷ h) line stream ≡ base h line stream
unfolding base
refused_base h (event.Establish l s loss) w line stream none =
    not_begun ((l == line) && (s == stream)) (work_of op.Establish (op_of h l s) (draws h)).begins
    (reach_of op.Establish w) (draws h) (base h line stream) none
refused_base h (event.Refresh l s loss) w line stream none = refl
refused_base h (event.Stop l s loss) w line stream none = refl
refused_base h e w line stream none = absurd cc

pub base_kept : (plan : Plan) (h : History) (e : Event) (w : Verdict) (line stream : ℕ) → LeavesStream e w line stream
    → base ((e, w) ∷ h) line stream ≡ base h line stream
base_kept plan h e w line stream (inl still) = operates_no_base plan h e w line stream still
base_kept plan h e w line stream (inr none) = refused_base h e w line stream none

none_on : (b : Bool) (w : Work) (r : Option Reach) (p : KeyPlace) → is_none r ≡ true → on_it b (work_touches w r p) ≡ []
none_on true w r p none = rw (none_reached r none) refl
none_on false w r p none = refl

refused_touches : (ops : ℕ → ℕ → StreamStage) (next : ℕ) (e : Event) (w : Verdict) (p : KeyPlace)
    → reaches_none e w ≡ true → touches ops next e w p ≡ []
refused_touches ops next (event.Establish l s loss) w p none =
    none_on (is_on_stream p l s) (work_of op.Establish (ops l s) next) (reach_of op.Establish w) p none
refused_touches ops next (event.Refresh l s loss) w p none =
    none_on (is_on_stream p l s) (work_of op.Refresh (ops l s) next) (reach_of op.Refresh w) p none
refused_touches ops next (event.Stop l s loss) w p none =
    none_on (is_on_stream p l s) (work_of op.Stop (ops l s) next) (reach_of op.Stop w) p none
refused_touches ops next e w p none = absurd cc

-- a pair that seals nothing and accepts nothing leaves the keys of the stream
keys_kept : (plan : Plan) (h : History) (e : Event) (w : Verdict) → CauseLaw plan ((e, w) ∷ h) → is_steady w ≡ true
    → (q : PortName) (s : SubStream) → LeavesStream e w s.line s.stream
    → port_keys ((e, w) ∷ h) q s ≡ port_keys h q s
unfolding moments
keys_kept plan h e w cause steady q s (inl still) = (key_facts plan).steady h e w cause steady q s still
keys_kept plan h e w cause steady q s (inr none) = seat_same plan ((e, w) ∷ h) h q s
    (λ sends. ap (touches_after (moments h (place_in_sub_stream q s sends)))
    (refused_touches (manager h).ops (draws h) e w (place_in_sub_stream q s sends) none))

-- ---- draws of a stream that is up

has_lesser : (a b : Keyed) (set : Bool) (j : ℕ) → on_in (key_in (record { first = a; second = b }) set) ≡ Some j
    → (key : KeyName) × (lesser a b ≡ Some key)
has_lesser a b set j on = by (lesser a b) refl
  where
    by : (o : Option KeyName) → lesser a b ≡ o → (key : KeyName) × (lesser a b ≡ Some key)
    by None is = absurd (grind (arith, nat_tests, is, on))
    by (Some key) is = (key, is)

same_draw : (a b : ℕ) → Some a ≡ Some b → a ≡ b
same_draw a b is = cc

module _
    (plan : Plan) (h : History) (cause : CauseLaw plan h) (port : PortName) (stream : ℕ) (set : Bool) (j : ℕ)
    (up : op_of h port.line stream ≡ Up set j) where
  -- no draw that is On at an end of the stream's line is greater, and in this set it is the one
  pub most : (q : PortName) (s : SubStream) → s.line ≡ port.line → s.stream ≡ stream → (k : Bool) (i : ℕ)
      → on_draw h q s k ≡ Some i → i ≤ j
  most q s line_is stream_is k i is =
      let at = on_at h q s k i (is_drawn (key_in (port_keys h q s) k) i is) in
      let follows = keys_follow_operations (key_plan plan) h (key_cause plan h cause) in
      let up_there : op_of h s.line s.stream ≡ Up set j = (λ i. op_of h (line_is i) (stream_is i)) ∙ up in
      let less = (follows.up (place_in_sub_stream q s at.sends) set j up_there).1 k i (ap on_in at.on) in
      elim (cases_eq i j) [ inl same ↦ omega (arith, same) | inr differ ↦ let lt = less differ in omega (arith, lt) ]

  pub in_set : (q : PortName) (s : SubStream) → s.line ≡ port.line → s.stream ≡ stream → (i : ℕ)
      → on_draw h q s set ≡ Some i → i ≡ j
  in_set q s line_is stream_is i is =
      let at = on_at h q s set i (is_drawn (key_in (port_keys h q s) set) i is) in
      let follows = keys_follow_operations (key_plan plan) h (key_cause plan h cause) in
      let up_there : op_of h s.line s.stream ≡ Up set j = (λ i. op_of h (line_is i) (stream_is i)) ∙ up in
      same_draw i j (sym (ap on_in at.on) ∙ (follows.up (place_in_sub_stream q s at.sends) set j up_there).0)

  -- it is On where the stream is received at an end of the line, and a key is Live where it is sealed
  pub on_where_received : (q : PortName) → q.line ≡ port.line → (u : SubKind)
      → on_draw h q (lane_in q stream u) set ≡ Some j
  on_where_received q line_is u =
      let follows = keys_follow_operations (key_plan plan) h (key_cause plan h cause) in
      let up_there : op_of h q.line stream ≡ Up set j = (λ i. op_of h (line_is i) stream) ∙ up in
      ap (λ (ks : Keys). on_in (key_in ks set)) (keys_into h q stream u)
      ∙ (follows.up (place_in_sub_stream q (lane_in q stream u) false) set j up_there).0

  pub live_where_sealed : (u : SubKind) → (key : KeyName) × (live_key h port (lane_out port stream u) ≡ Some key)
  live_where_sealed u =
      let s = lane_out port stream u in
      let follows = keys_follow_operations (key_plan plan) h (key_cause plan h cause) in
      has_lesser (port_keys h port s).first (port_keys h port s).second set j
      (ap (λ (ks : Keys). on_in (key_in ks set)) (keys_out h port stream u)
      ∙ (follows.up (place_in_sub_stream port s true) set j up).0)

-- ---- a pair that is no operation on the stream

none_ends : (q : PortName) (stream : ℕ) (u : SubKind) (ds : List SealedPacket) (ks : Keys)
    → after_ends q (lane_in q stream u) ds ks ≡ ks
none_ends q stream u [] ks = refl
none_ends q stream u (d ∷ ds) ks =
    let other = in_not_out q.side in
    let off : ends_port_unit q (lane_in q stream u) d ≡ false = grind (arith, nat_tests) in
    rw off (none_ends q stream u ds ks)

stays_on : (ks : Keys) (k : Bool) (i d : ℕ) → on_in (key_in ks k) ≡ Some i → d ≤ i
    → on_in (key_in (accepted_keys d ks) k) ≡ Some i
stays_on ks k i d on le = grind (arith, nat_tests)

-- what is On at a receiver stays On there, but for a unit of a greater draw that is accepted
pub received_kept : (plan : Plan) (h : History) (e : Event) (w : Verdict) → CauseLaw plan ((e, w) ∷ h)
    → (q : PortName) (stream : ℕ) (u : SubKind) → LeavesStream e w q.line stream → (k : Bool) (i : ℕ)
    → on_draw h q (lane_in q stream u) k ≡ Some i
    → ((r : PortName) (unit : UnitName) (effects : List Effect) → w ≡ Accepted r unit effects
    → is_same (received_in r unit) (lane_in q stream u) ≡ true → unit.draw ≤ i)
    → on_draw ((e, w) ∷ h) q (lane_in q stream u) k ≡ Some i
received_kept plan h e (Sealed ds) cause q stream u still k i on most =
    ap (λ (ks : Keys). on_in (key_in ks k)) ((key_facts plan).sealed h e ds cause q (lane_in q stream u)
    ∙ none_ends q stream u ds (port_keys h q (lane_in q stream u))) ∙ on
received_kept plan h e (Accepted r unit effects) cause q stream u still k i on most =
    let s = lane_in q stream u in
    let after = (key_facts plan).accepted h e r unit effects cause q s in
    ap (λ (ks : Keys). on_in (key_in ks k)) after ∙ by (is_same_port r q) (is_same (received_in r unit) s) refl
  where
    by : (a b : Bool) → is_same (received_in r unit) (lane_in q stream u) ≡ b
        → on_in (key_in (if a && b then accepted_keys unit.draw (port_keys h q (lane_in q stream u))
        else port_keys h q (lane_in q stream u)) k) ≡ Some i
    by true true here = stays_on (port_keys h q (lane_in q stream u)) k i unit.draw on (most r unit effects refl here)
    by true false here = on
    by false b here = on
received_kept plan h e w cause q stream u still k i on most =
    ap (λ (ks : Keys). on_in (key_in ks k)) (keys_kept plan h e w cause refl q (lane_in q stream u) still) ∙ on

one_end : (ks : Keys) (k : Bool) (i : ℕ) → on_in (key_in (ended_keys ks.first ks.second) k) ≡ Some i
    → on_in (key_in ks k) ≡ Some i
one_end ks k i on = grind (arith, nat_tests)

was_on : (ks : Keys) (k : Bool) (i d : ℕ) (b : Bool)
    → on_in (key_in (if b then accepted_keys d ks else ks) k) ≡ Some i → on_in (key_in ks k) ≡ Some i
was_on ks k i d b on = grind (arith, nat_tests)

-- what is On at a sender was On there
pub sent_before : (plan : Plan) (h : History) (e : Event) (w : Verdict) → CauseLaw plan ((e, w) ∷ h)
    → (q : PortName) (s : SubStream) → LeavesStream e w s.line s.stream → (k : Bool) (i : ℕ)
    → on_draw ((e, w) ∷ h) q s k ≡ Some i → on_draw h q s k ≡ Some i
sent_before plan h e (Sealed ds) cause q s still k i on =
    let ks = port_keys h q s in
    ends_keep (λ (now : Keys). on_in (key_in now k) ≡ Some i → on_in (key_in ks k) ≡ Some i)
    (λ now before is. before (one_end now k i is)) q s ds ks (λ is. is)
    (ap (λ (now : Keys). on_in (key_in now k)) (sym ((key_facts plan).sealed h e ds cause q s)) ∙ on)
sent_before plan h e (Accepted r unit effects) cause q s still k i on =
    was_on (port_keys h q s) k i unit.draw (is_same_port r q && is_same (received_in r unit) s)
    (ap (λ (now : Keys). on_in (key_in now k)) (sym ((key_facts plan).accepted h e r unit effects cause q s)) ∙ on)
sent_before plan h e w cause q s still k i on =
    ap (λ (now : Keys). on_in (key_in now k)) (sym (keys_kept plan h e w cause refl q s still)) ∙ on

-- ---- a whole refresh

-- the verdict names the line of the event
names_line : (plan : KeyPlan) (h : History) (line stream : ℕ) (loss : Option Loss) (l t j : ℕ)
    → v.Refreshed l t j ≡ key_due plan h (event.Refresh line stream loss) (v.Refreshed l t j) → l ≡ line
unfolding key_due
names_line plan h line stream loss l t j is =
    (refreshed_as _ plan (op_of h line stream) (draws h) (ports_at h) (history_status h Host line stream) line stream _ l
    t j (performed_is (ports_at h) line stream loss (work_of op.Refresh (op_of h line stream) (draws h))) is).0

ends_up : (line : ℕ) (set : Bool) (j next : ℕ)
    → op_after_reach (is_hosted line) (work_of op.Refresh (Up set j) next) (whole line op.Refresh) ≡ Up (not set) next
ends_up line set j next = grind arith

-- touches of the other set leave a set at a receiver, and make nothing On there at a sender
in_other : (ks : Keys) (set : Bool) (j : ℕ)
    → on_in (key_in (keys_after_touch false ks (Program (not set) j)) set) ≡ on_in (key_in ks set)
in_other ks set j = grind arith

gone_other : (ks : Keys) (set : Bool) (j : ℕ)
    → on_in (key_in (keys_after_touch false ks (Go (not set) j)) set) ≡ on_in (key_in ks set)
gone_other ks set j = grind arith

received_touched : (ts : List Touch) (set b c : Bool) (j : ℕ)
    → on_in (key_in (keys false (touches_after ts
    (touches_if b (Program (not set) j) ++ touches_if c (Go (not set) j)))) set) ≡ on_in (key_in (keys false ts) set)
unfolding keys
received_touched ts set false false j = refl
received_touched ts set true false j = in_other (keys false ts) set j
received_touched ts set false true j = gone_other (keys false ts) set j
received_touched ts set true true j =
    gone_other (keys false (Program (not set) j ∷ ts)) set j ∙ in_other (keys false ts) set j

sent_program : (f : ℕ → Bool) (ks : Keys) (set : Bool) (j i : ℕ)
    → on_in (key_in (without_outlived true f (keys_after_touch true ks (Program (not set) j))) set) ≡ Some i
    → on_in (key_in ks set) ≡ Some i
sent_program f ks set j i on = grind (arith, nat_tests)

sent_go : (f : ℕ → Bool) (ks : Keys) (set : Bool) (j i : ℕ)
    → on_in (key_in (without_outlived true f (keys_after_touch true ks (Go (not set) j))) set) ≡ Some i
    → on_in (key_in ks set) ≡ Some i
sent_go f ks set j i on = grind (arith, nat_tests)

sent_touched : (ts : List Touch) (set b c : Bool) (j i : ℕ)
    → on_in (key_in (keys true (touches_after ts
    (touches_if b (Program (not set) j) ++ touches_if c (Go (not set) j)))) set) ≡ Some i
    → on_in (key_in (keys true ts) set) ≡ Some i
unfolding keys
sent_touched ts set false false j i on = on
sent_touched ts set true false j i on = sent_program (is_open (Program (not set) j ∷ ts)) (keys true ts) set j i on
sent_touched ts set false true j i on = sent_go (is_open (Go (not set) j ∷ ts)) (keys true ts) set j i on
sent_touched ts set true true j i on =
    let first : List Touch = Program (not set) j ∷ ts in
    sent_program (is_open first) (keys true ts) set j i
    (sent_go (is_open (Go (not set) j ∷ first)) (keys true first) set j i on)

module _
    (plan : Plan) (h : History) (line stream : ℕ) (loss : Option Loss) (l t d : ℕ)
    (cause : CauseLaw plan ((event.Refresh line stream loss, v.Refreshed l t d) ∷ h)) (set : Bool) (j : ℕ)
    (up : op_of h line stream ≡ Up set j) where
  abbrev g : History
  g = (event.Refresh line stream loss, v.Refreshed l t d) ∷ h

  abbrev touched : StreamStage → KeyPlace → List Touch
  touched o p = on_it (is_on_stream p line stream)
      (work_touches (work_of op.Refresh o (draws h)) (Some (whole l op.Refresh)) p)

  pub refreshed_up : op_of g line stream ≡ Up (not set) (draws h)
  unfolding manager
  refreshed_up = rw (
    eqb-refl line,
    eqb-refl stream,
    names_line (key_plan plan) h line stream loss l t d (key_cause plan g cause).0,
    up,
  ) (ends_up line set j (draws h))

  -- the set of the draw before is left at a receiver, and there is nothing more On in it at a sender
  pub received_still : (q : PortName) (u : SubKind) (i : ℕ) → on_draw h q (lane_in q stream u) set ≡ Some i
      → on_draw g q (lane_in q stream u) set ≡ Some i
  unfolding moments
  received_still q u i on =
      let p = place_in_sub_stream q (lane_in q stream u) false in
      let before = ap (λ (ks : Keys). on_in (key_in ks set)) (sym (keys_into h q stream u)) ∙ on in
      ap (λ (ks : Keys). on_in (key_in ks set)) (keys_into g q stream u)
      ∙ (ap (λ (o : StreamStage). on_in (key_in (keys false (touches_after (moments h p) (touched o p))) set)) up
      ∙ (by p (is_on_stream p line stream) ∙ before))
    where
      by : (p : KeyPlace) (b : Bool) → on_in (key_in (keys false (touches_after (moments h p)
          (on_it b (work_touches (work_of op.Refresh (Up set j) (draws h)) (Some (whole l op.Refresh)) p)))) set)
          ≡ on_in (key_in (keys false (moments h p)) set)
      by p true = received_touched (moments h p) set _ _ (draws h)
      by p false = refl

  pub sent_was : (q : PortName) (u : SubKind) (i : ℕ) → on_draw g q (lane_out q stream u) set ≡ Some i
      → on_draw h q (lane_out q stream u) set ≡ Some i
  unfolding moments
  sent_was q u i on =
      let p = place_in_sub_stream q (lane_out q stream u) true in
      ap (λ (ks : Keys). on_in (key_in ks set)) (keys_out h q stream u)
      ∙ by p (is_on_stream p line stream)
      (ap (λ (o : StreamStage). on_in (key_in (keys true (touches_after (moments h p) (touched o p))) set)) (sym up)
      ∙ (ap (λ (ks : Keys). on_in (key_in ks set)) (sym (keys_out g q stream u)) ∙ on))
    where
      by : (p : KeyPlace) (b : Bool) → on_in (key_in (keys true (touches_after (moments h p)
          (on_it b (work_touches (work_of op.Refresh (Up set j) (draws h)) (Some (whole l op.Refresh)) p)))) set)
          ≡ Some i
          → on_in (key_in (keys true (moments h p)) set) ≡ Some i
      by p true on = sent_touched (moments h p) set _ _ (draws h) i on
      by p false on = on

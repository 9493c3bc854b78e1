-- No unit is open of a draw that was overtaken, if the newer one is On at the receiver. By induction on the history, a
-- unit of a draw from Base on is open only while the draw is Live at its sender or, the hard case, after a stop or a
-- reset, until an establish raises Base. No Live draw is below what was sealed. After a stop the host's port has no
-- key: it has sealed nothing newer if it is the sender, and no draw is On there if it is the receiver.
use Rattle.spec_links.proofs.Terms.{Bool, List, None, Option, Some, [], ap, arith, false, inl, inr, length, refl}
use Rattle.spec_links.proofs.Terms.{slice_get, subst, subst₂, suc, sym, true, ℕ, ◌++◌, ◌<◌, ◌==◌, ◌∙◌, ◌∷◌, ◌≡◌, ◌≤◌}
use Rattle.spec_links.proofs.Terms.{◌⊎◌, nat_tests, Side, StreamStatus, Loss, Operation, PortView, establish_on}
use Rattle.spec_links.proofs.Terms.{ports_at, refresh_on, base, touches_after, came, draws, manager, moments, on_it}
use Rattle.spec_links.proofs.Terms.{op_of, touches, touches_if, work_touches, ClearTouch, GoTouch, Loaded, ProgramTouch}
use Rattle.spec_links.proofs.Terms.{Touch, is_open, draw_of_keyed, keys, sender_draw, without_outlived}
use Rattle.spec_links.proofs.Terms.{keys_after_touch, Idle, StreamStage, Reach, Stopping, Work, op_after_reach}
use Rattle.spec_links.proofs.Terms.{reach_of, work_of, is_on_stream, is_same_sub, CauseLaw, SealedList, after_ends}
use Rattle.spec_links.proofs.Terms.{ahead_of_packet, ended_keys, ends_port_unit, is_sealed_under, port_keys, packet_of}
use Rattle.spec_links.proofs.Terms.{place_in_sub_stream, sealed_packets, sent_packets, sub_stream_packets}
use Rattle.spec_links.proofs.Terms.{sub_stream_of, with_sealed, SubStream, is_same, key_plan, lane_in, lane_out}
use Rattle.spec_links.proofs.Terms.{partner, AllByRecursion, Device, Establish, Event, History, Host, KeyPlan, Keys}
use Rattle.spec_links.proofs.Terms.{Off, On, Packet, KeyPlace, Plan, PortName, Refresh, Reset, SealedPacket, Stop}
use Rattle.spec_links.proofs.Terms.{SubKind, Verdict, if◌then◌else◌, is_some, key_in, place_keys, nat_lt, no_keys}
use Rattle.spec_links.proofs.Terms.{history_status, ◌&&◌, open_unit, Begun, KeyCauseLaw, key_due, sent_bytes}
use Rattle.spec_links.proofs.Terms.{StreamOperations}
use Rattle.spec_keys.proofs.Shapes.{Shape, Bare, Sound, keys_of, live_waiting, live_alone, live_following, live_both}
use Rattle.spec_keys.proofs.Touches.{Goes, waiting_goes, alone_goes, following_goes, both_goes, AllCome}
use Rattle.spec_keys.proofs.Owners.{begun_below, owner, work_is, same_place}
use Rattle.spec_keys.specs.Due.{has_refresh}
use Rattle.spec_keys.specs.History.{begun_of_draw, stop_exchange}
use Rattle.spec_keys.specs.Operations.{makes_draw, manager_after_operation}
use Rattle.spec_keys.specs.Places.{is_cleared, is_line_reset, is_host, is_local, is_between_devices}
use Rattle.ide_types.specs.Lines.{is_hosted, is_link_line}
use Rattle.spec_keys.proofs.Fits.{StopLeaves}
use Rattle.spec_keys.proofs.Tests.{lt-true, both-true, true-same}
use Rattle.spec_keys.proofs.Uses.{live_is_on}
use Rattle.spec_keys.proofs.Whole.{fits, next_fits}
use Rattle.law_keys.proofs.States.{in_state}
use Rattle.law_keys.proofs.Bases.{based}
use Rattle.law_keys.proofs.Firsts.{state_of, refresh_state}
use Rattle.spec_links.proofs.Tests.{eqb-sym}
use Rattle.spec_links.proofs.UnitLemmas.{open_unit-end}
use Rattle.spec_links.proofs.Senders.{AreOther, on_live}
use Rattle.spec_links.proofs.Sealed.{sub_stream_packets-snoc, sent-same, left_alone}
use Rattle.spec_links.proofs.SealingIs.{sending_port, IsLive, AllLive, sealing_is, all_live, AllApart, all_apart}
use Rattle.spec_links.proofs.SealingIs.{seals_none, sealed_same, sealed_by_sealing, sealing_manager}
use Rattle.law_key_facts.proofs.Seats.{own_key, keys_out, keys_into, live_of, live_here, on_key}
use Rattle.law_key_facts.proofs.Unplanned.{never_on, acts}
use Rattle.law_key_facts.proofs.Given.{key_cause}
use Rattle.law_key_facts.proofs.RealFacts.{sealed, uncleared}
use Rattle.law_key_facts.proofs.Moments.{busy_is, sends_lane, sealed_m}
use Rattle.law_key_facts.proofs.SealedKeys.{each_more, live_all, below_draws, on_is_owned}
use Rattle.law_key_facts.proofs.SealedOrder.{on_above}
use Rattle.event_verdicts.specs.declared.verdict.Operation.TheVariants as op
use Rattle.event_verdicts.specs.declared.verdict.Verdict.TheVariants as v

-- ---- the manager's state

-- no operation was asked of the stream, or a stop is unfinished
abbrev pub stops : StreamStage → Bool
stops Idle = true
stops (Stopping n) = true
stops _ = false

stopped_bare : (local : Bool) → local ≡ true → (l n : ℕ) (sh : Shape) → StopLeaves local l n sh → sh ≡ Bare
stopped_bare true is l n sh halted = halted
stopped_bare false is l n sh halted = absurd cc

-- then a host's port has no key
bare_host : (plan : Plan) (h : History) → CauseLaw plan h → (p : KeyPlace) → is_local p ≡ true
    → stops (op_of h p.line p.stream) ≡ true → place_keys h p ≡ no_keys
bare_host plan h law p host is = by_op (op_of h p.line p.stream) refl is
  where
    by_op : (o : StreamStage) → op_of h p.line p.stream ≡ o → stops o ≡ true → place_keys h p ≡ no_keys
    by_op Idle there is = let at = in_state (key_plan plan) h (key_cause plan h law) p Idle there in at.is.are ∙ ap
        keys_of at.fits
    by_op (Stopping n) there is =
        let at = in_state (key_plan plan) h (key_cause plan h law) p (Stopping n) there in
        let bare = stopped_bare (is_local p) host (stop_exchange p) n at.shape at.fits.1 in
        at.is.are ∙ ap keys_of bare
    by_op _ there is = absurd cc

-- ---- touches that program and start keys

abbrev pub OnlyKeys : List Touch → Type 0
OnlyKeys [] = Unit {0}
OnlyKeys (ProgramTouch k j ∷ ts) = OnlyKeys ts
OnlyKeys (GoTouch k j ∷ ts) = OnlyKeys ts
OnlyKeys (_ ∷ ts) = ⊥

-- the Live draw of an open unit stays Live when a key is programmed, and when one that is kept gets its GO and is no
-- smaller
program_keeps : (f : ℕ → Bool) (ks : Keys) (k : Bool) (j i : ℕ) → sender_draw ks ≡ Some i → f i ≡ true
    → sender_draw (without_outlived true f (keys_after_touch true ks (ProgramTouch k j))) ≡ Some i
program_keeps f ks k j i live opens = grind (arith, nat_tests)

go_keeps : (f : ℕ → Bool) (ks : Keys) (k : Bool) (j i : ℕ) → sender_draw ks ≡ Some i → f i ≡ true
    → draw_of_keyed (key_in ks k) ≡ Some j → i ≤ j
    → sender_draw (without_outlived true f (keys_after_touch true ks (GoTouch k j))) ≡ Some i
go_keeps f ks k j i live opens kept le = grind (arith, nat_tests)

abbrev Given : Keys → Bool → ℕ → Type 0
Given ks k j = (draw_of_keyed (key_in ks k) ≡ Some j) × ((i : ℕ) → sender_draw ks ≡ Some i → i ≤ j)

given : (ts : List Touch) (k : Bool) (j : ℕ) (sh : Shape) → Sound true ts sh → Goes k j sh → Given (keys_of sh) k j
given ts k j _ sound waiting_goes =
    (ap draw_of_keyed (own_key k (Loaded j) Off), λ i live. absurd (live_waiting k j i live))
given ts k j _ sound alone_goes =
    (ap draw_of_keyed (own_key k (On j) Off), λ i live. let same = live_alone k j i live in omega arith)
given ts k j _ sound (following_goes a) =
    (ap draw_of_keyed (own_key k (Loaded j) (On a)), λ i live. let same = live_following k a j i live in omega arith)
given ts k j _ sound (both_goes a) =
    (ap draw_of_keyed (own_key k (On j) (On a)), λ i live. let same = live_both k a j i sound.0 live in omega arith)

live_stays : (ts more : List Touch) → AllCome true ts more → OnlyKeys more → (i : ℕ) → sender_draw (keys true ts)
    ≡ Some i
    → is_open ts i ≡ true → sender_draw (keys true (touches_after ts more)) ≡ Some i
unfolding is_open keys
live_stays ts [] come only i live opens = live
live_stays ts (ProgramTouch k j ∷ more) come only i live opens = live_stays (ProgramTouch k j ∷ ts) more come.1 only i
    (program_keeps (is_open (ProgramTouch k j ∷ ts)) (keys true ts) k j i live opens) opens
live_stays ts (GoTouch k j ∷ more) come only i live opens =
    let at = come.0 in
    let go : Given (keys true ts) k j = subst (λ (ks : Keys). Given ks k j) (sym at.is.are)
    (given ts k j at.shape at.is.sound at.may) in
    live_stays (GoTouch k j ∷ ts) more come.1 only i
    (go_keeps (is_open (GoTouch k j ∷ ts)) (keys true ts) k j i live opens go.0 (go.1 i live)) opens
live_stays ts (_ ∷ more) come only i live opens = absurd only

-- ---- what a pair does to a sender

when_only : (b c : Bool) (k l : Bool) (i j : ℕ)
    → OnlyKeys (touches_if b (ProgramTouch k i) ++ touches_if c (GoTouch l j))
when_only true true k l i j = tt
when_only true false k l i j = tt
when_only false true k l i j = tt
when_only false false k l i j = tt

worked_only : (w : Work) (r : Option Reach) (p : KeyPlace) (o : Operation) → w.operation ≡ o → (o ≡ op.Stop → ⊥)
    → OnlyKeys (work_touches w r p)
worked_only w None p o is other = tt
worked_only w (Some r) p op.Establish is other = rw is (when_only _ _ _ _ _ _)
worked_only w (Some r) p op.Refresh is other = rw is (when_only _ _ _ _ _ _)
worked_only w (Some r) p op.Stop is other = absurd (other refl)

if_only : (b : Bool) (ts : List Touch) → OnlyKeys ts → OnlyKeys (on_it b ts)
if_only true ts only = only
if_only false ts only = tt

stop_after : (hosted : Bool) (q : StreamStage) (next : ℕ) (r : Reach)
    → stops (op_after_reach hosted (work_of op.Stop q next) r) ≡ true
stop_after hosted q next r = grind arith

came_out : (p : KeyPlace) (w : Verdict) → p.sends ≡ true → seals_none w ≡ true → came p w ≡ []
came_out p (v.Sealed ds) sends none = absurd cc
came_out p (v.Accepted port unit effects) sends none = rw sends refl
came_out p _ sends none = refl

none_only : (ts : List Touch) → ts ≡ [] → OnlyKeys ts
none_only ts is = subst OnlyKeys (sym is) tt

cut_stops : (peer : Bool) → stops (if peer then Stopping 1 else Idle) ≡ true
cut_stops peer = grind arith

-- a pair that seals nothing leaves the stream stopping or without operation, or programs and starts keys alone
moved : (h : History) (e : Event) (w : Verdict) → seals_none w ≡ true → (p : KeyPlace) → p.sends ≡ true
    → (stops (op_of ((e, w) ∷ h) p.line p.stream) ≡ true) ⊎ OnlyKeys (touches (manager h).ops (draws h) e w p)
unfolding manager
moved h (Establish l s loss) w none p sends =
    inr (if_only (is_on_stream p l s) _
    (worked_only _ (reach_of op.Establish w) p op.Establish (work_is op.Establish ((manager h).ops l s) (draws h))
    (λ is. cc)))
moved h (Refresh l s loss) w none p sends =
    inr (if_only (is_on_stream p l s) _
    (worked_only _ (reach_of op.Refresh w) p op.Refresh (work_is op.Refresh ((manager h).ops l s) (draws h))
    (λ is. cc)))
moved h (Stop l s loss) w none p sends = elim (acts (manager h) op.Stop l s (reach_of op.Stop w) p) [
  | inl same ↦ inr (none_only _ same.1)
  | inr act ↦ inl (ap stops act.ops ∙ stop_after (is_hosted l) ((manager h).ops l s) (draws h) act.reached)
]
moved h (Reset l ends) (v.Reset m) none p sends = by_cut (is_line_reset ends p.line) refl
  where
    by_cut : (cut : Bool) → is_line_reset ends p.line ≡ cut
        → (stops (if cut then (if is_between_devices p.line then Stopping 1 else Idle) else (manager h).ops p.line
        p.stream)
        ≡ true)
        ⊎ OnlyKeys (touches_if (is_cleared ends p.side p.line) ClearTouch)
    by_cut true is = inl (cut_stops (is_between_devices p.line))
    by_cut false is = inr (rw (uncleared ends p.side p.line is) tt)
moved h (Reset l ends) w none p sends = inr tt
moved h e w none p sends = inr (none_only (came p w) (came_out p w sends none))

-- a stream that is stopping or without operation lets an establish begin alone
begins : (kp : KeyPlan) (q : StreamStage) (next : ℕ) (ports : PortView) (l s : ℕ) (loss : Option Loss) → stops q ≡ true
    → is_some (reach_of op.Establish (establish_on kp q next ports l s loss)) ≡ true
    → (work_of op.Establish q next).begins ≡ true
begins kp q next ports l s loss stopped goes = grind arith

refuses : (kp : KeyPlan) (q : StreamStage) (next : ℕ) (ports : PortView) (host : StreamStatus) (l s : ℕ)
    (loss : Option Loss)
    → stops q ≡ true → is_some (reach_of op.Refresh (refresh_on kp q next ports host l s loss)) ≡ true → ⊥
refuses kp q next ports host l s loss stopped goes = grind arith

if_stops : (cut peer : Bool) (q : StreamStage) → stops q ≡ true
    → stops (if cut then (if peer then Stopping 1 else Idle) else q) ≡ true
if_stops cut peer q is = grind arith

-- it stays so, or an establish begins
still_stops : (plan : Plan) (h : History) (e : Event) (w : Verdict) → CauseLaw plan ((e, w) ∷ h) → (p : KeyPlace)
    → stops (op_of h p.line p.stream) ≡ true
    → (stops (op_of ((e, w) ∷ h) p.line p.stream) ≡ true) ⊎ (base ((e, w) ∷ h) p.line p.stream ≡ draws h)
unfolding manager base
still_stops plan h (Establish l s loss) w law p is = elim
    (acts (manager h) op.Establish l s (reach_of op.Establish w) p) [
      | inl same ↦ inl (ap stops same.0 ∙ is)
      | inr act ↦
          let same = same_place p.line p.stream l s act.here in
          let there : ((l == p.line) && (s == p.stream)) ≡ true = (λ i. eqb-sym l p.line i && eqb-sym s p.stream i) ∙
          act.here in
          let stopped : stops (op_of h l s) ≡ true = (λ i. stops (op_of h (sym same.0 i) (sym same.1 i))) ∙ is in
          let goes = state_of (key_plan plan) h l s loss w act.reached
          (key_cause plan ((Establish l s loss, w) ∷ h) law).0
          act.is in
          let new = begins (key_plan plan) (op_of h l s) (draws h) (ports_at h) l s loss stopped goes in
          inr (rw (there, new, act.is) refl)
    ]
still_stops plan h (Refresh l s loss) w law p is = elim (acts (manager h) op.Refresh l s (reach_of op.Refresh w) p) [
  | inl same ↦ inl (ap stops same.0 ∙ is)
  | inr act ↦
      let same = same_place p.line p.stream l s act.here in
      let stopped : stops (op_of h l s) ≡ true = (λ i. stops (op_of h (sym same.0 i) (sym same.1 i))) ∙ is in
      let goes = refresh_state (key_plan plan) h l s loss w act.reached
      (key_cause plan ((Refresh l s loss, w) ∷ h) law).0 act.is in
      absurd (refuses (key_plan plan) (op_of h l s) (draws h) (ports_at h) (history_status h Host l s) l s loss stopped
      goes)
]
still_stops plan h (Stop l s loss) w law p is = elim (acts (manager h) op.Stop l s (reach_of op.Stop w) p) [
  | inl same ↦ inl (ap stops same.0 ∙ is)
  | inr act ↦ inl (ap stops act.ops ∙ stop_after (is_hosted l) ((manager h).ops l s) (draws h) act.reached)
]
still_stops plan h (Reset l ends) (v.Reset m) law p is = inl
    (if_stops (is_line_reset ends p.line) (is_between_devices p.line) _ is)
still_stops plan h e w law p is = inl is

-- ---- a unit is open of the Live draw alone, or else this holds

abbrev OpenIs : Type 0 → ℕ → SealedList → SubStream → Keys → Type 0
OpenIs X i xs s keys = (open_unit (sub_stream_packets xs s i) ≡ []) ⊎ ((sender_draw keys ≡ Some i) ⊎ X)

-- packets of other sub-streams leave it
abbrev AllOff : SubStream → List SealedPacket → Type 0
AllOff s = AllByRecursion (λ (d : SealedPacket). is_same (sub_stream_of d) s ≡ false)

none_ends : (port : PortName) (s : SubStream) (d : SealedPacket) → is_same (sub_stream_of d) s ≡ false
    → ends_port_unit port s d ≡ false
none_ends port s d off = grind (arith, off)

all_end : (port : PortName) (s : SubStream) (ds : List SealedPacket) (ks : Keys) → AllOff s ds → after_ends port s ds ks
    ≡ ks
all_end port s [] ks off = refl
all_end port s (d ∷ ds) ks off = rw (none_ends port s d off.0) (all_end port s ds ks off.1)

others_leave : (X : Type 0) (i : ℕ) (plan : Plan) (ahead : SealedPacket → List ℕ) (bytes : List ℕ) (port : PortName)
    (s : SubStream) (ds : List SealedPacket)
    (xs : SealedList) (ks : Keys) → AllOff s ds → OpenIs X i xs s ks
    → OpenIs X i (with_sealed plan ahead bytes ds xs) s (after_ends port s ds ks)
others_leave X i plan ahead bytes port s ds xs ks off opens =
    let sent_is = left_alone (λ ys. sub_stream_packets ys s i) _ (λ ys d p other. sent-same ys (d, p) s i other) plan
    ahead bytes
    ds xs off in
    subst₂ (λ (ps : List Packet) (new : Keys). (open_unit ps ≡ []) ⊎ ((sender_draw new ≡ Some i) ⊎ X)) (sym sent_is)
    (sym (all_end port s ds ks off)) opens

-- one of the sub-stream is under the Live draw, and ends its unit or leaves the key
one_open : (X : Type 0) (i : ℕ) (port : PortName) (s : SubStream) (d : SealedPacket) (p : Packet) (xs : SealedList)
    (ks : Keys)
    → is_same (sub_stream_of d) s ≡ true → ends_port_unit port s d ≡ d.m → p.prefix.m ≡ d.m → sender_draw ks
    ≡ Some d.draw
    → OpenIs X i xs s ks → OpenIs X i (xs ++ (d, p) ∷ []) s
    (if ends_port_unit port s d then ended_keys ks.first ks.second else ks)
one_open X i port s d p xs ks here ends m live opens = by_draw (d.draw == i) d.m refl refl
  where
    by_draw : (b c : Bool) → (d.draw == i) ≡ b → d.m ≡ c → OpenIs X i (xs ++ (d, p) ∷ []) s
        (if ends_port_unit port s d then ended_keys ks.first ks.second else ks)
    by_draw true true same last = inl
        (ap open_unit (sub_stream_packets-snoc xs (d, p) s i ∙ rw (here, same) refl) ∙ open_unit-end
        (sub_stream_packets xs s i) p (m ∙ last))
    by_draw true false same more =
        let kept = ap (λ (b : Bool). sender_draw (if b then ended_keys ks.first ks.second else ks)) (ends ∙ more) in
        inr (inl (kept ∙ (live ∙ ap (λ (n : ℕ). Some n) (true-same d.draw i same))))
    by_draw false c other any = elim opens [
      | inl none ↦ inl (ap open_unit (sub_stream_packets-snoc xs (d, p) s i ∙ rw (here, other) refl) ∙ none)
      | inr (inl is) ↦ absurd (let one : Some d.draw ≡ Some i = sym live ∙ is in grind (arith, nat_tests))
      | inr (inr x) ↦ inr (inr x)
    ]

sub_off : (s : SubStream) (d e : SealedPacket) → is_same (sub_stream_of d) s ≡ true → is_same_sub d.sub e.sub ≡ false
    → is_same (sub_stream_of e) s ≡ false
sub_off s d e here other = grind (arith, nat_tests)

others_off : (s : SubStream) (d : SealedPacket) (ds : List SealedPacket) → is_same (sub_stream_of d) s ≡ true
    → AreOther d.sub ds → AllOff s ds
others_off s d [] here other = tt
others_off s d (e ∷ ds) here other = (sub_off s d e here other.0, others_off s d ds here other.1)

ends_own : (port : PortName) (stream : ℕ) (u : SubKind) (d : SealedPacket)
    → is_same (sub_stream_of d) (lane_out port stream u) ≡ true → ends_port_unit port (lane_out port stream u) d ≡ d.m
ends_own port stream u d here = grind (arith, nat_tests)

all_open : (X : Type 0) (i : ℕ) (plan : Plan) (h : History) (q : PortName) (t : ℕ) (ahead : SealedPacket → List ℕ)
    (bytes : List ℕ) (port : PortName)
    (stream : ℕ) (u : SubKind) (ds : List SealedPacket) (xs : SealedList) → AllLive plan h q t ds → AllApart ds
    → let s = lane_out port stream u in
    OpenIs X i xs s (port_keys h port s) → OpenIs X i (with_sealed plan ahead bytes ds xs) s
    (after_ends port s ds (port_keys h port s))
all_open X i plan h q t ahead bytes port stream u [] xs live each opens = opens
all_open X i plan h q t ahead bytes port stream u (d ∷ ds) xs live each opens =
    by_test (is_same (sub_stream_of d) s) refl
    (λ ys. all_open X i plan h q t ahead bytes port stream u ds ys live.1 each.1)
  where
    s : SubStream
    s = lane_out port stream u

    ks : Keys
    ks = port_keys h port (lane_out port stream u)

    p : Packet
    p = packet_of plan (ahead d) bytes d (open_unit (sub_stream_packets xs (sub_stream_of d) d.draw))

    by_test : (b : Bool) → is_same (sub_stream_of d) s ≡ b
        → ((ys : SealedList) → OpenIs X i ys s ks → OpenIs X i (with_sealed plan ahead bytes ds ys) s
        (after_ends port s ds ks))
        → OpenIs X i (with_sealed plan ahead bytes (d ∷ ds) xs) s (after_ends port s (d ∷ ds) ks)
    by_test true here more =
        let key = live_here plan h q t d live.0 port stream u here in
        let is_live : sender_draw ks ≡ Some d.draw = live_of ks.first ks.second live.0.key key ∙ ap (λ (n : ℕ). Some n)
        (sym live.0.draw) in
        others_leave X i plan ahead bytes port s ds (xs ++ (d, p) ∷ []) _ (others_off s d ds here each.0)
        (one_open X i port s d p xs ks here (ends_own port stream u d here) (sealed_m plan (ahead d) bytes d _) is_live
        opens)
    by_test false off more =
        subst (λ (b : Bool). OpenIs X i (with_sealed plan ahead bytes (d ∷ ds) xs) s
        (after_ends port s ds (if b then ended_keys ks.first ks.second else ks)))
        (sym (none_ends port s d off)) (more (xs ++ (d, p) ∷ [])
        (subst (λ (ps : List Packet). (open_unit ps ≡ []) ⊎ ((sender_draw ks ≡ Some i) ⊎ X))
        (sym (sent-same xs (d, p) s i off)) opens))

-- ---- in every history

-- each packet of the sub-stream that was sealed is of a draw up to this one
abbrev pub NoneAbove : Plan → History → SubStream → ℕ → Type 0
NoneAbove plan h s i = (place : ℕ) (x : SealedPacket × Packet) → slice_get (sealed_packets plan h) place ≡ Some x
    → is_same (sub_stream_of x.0) s ≡ true → x.0.draw ≤ i

-- it is a host's port
abbrev pub local_end : PortName → Bool
local_end port = is_host port.side && is_hosted port.line

-- an open unit of another draw than the Live one: in a stop, and at a host's port nothing was sealed since
pub record Excuse (plan : Plan) (h : History) (port : PortName) (stream : ℕ) (u : SubKind) (i : ℕ) : Type 0 where
  pub stopping : stops (op_of h port.line stream) ≡ true
  pub left : local_end port ≡ true → NoneAbove plan h (lane_out port stream u) i

-- a host's port seals nothing then
none_seals : (plan : Plan) (h : History) → CauseLaw plan h → (port : PortName) (stream : ℕ) (u : SubKind)
    → local_end port ≡ true → stops (op_of h port.line stream) ≡ true → (q : PortName) (t : ℕ) (d : SealedPacket)
    → IsLive plan h q t d → is_same (sub_stream_of d) (lane_out port stream u) ≡ true → ⊥
none_seals plan h law port stream u host is q t d live here =
    let ks = port_keys h port (lane_out port stream u) in
    let on = on_live ks.first ks.second live.key (live_here plan h q t d live port stream u here) in
    let bare = bare_host plan h law (place_in_sub_stream port (lane_out port stream u) true) host is in
    never_on live.key.k live.key.draw
    (ap (λ (ks : Keys). key_in ks live.key.k) (sym bare ∙ sym (keys_out h port stream u)) ∙ on)

still_above : (plan : Plan) (h : History) (e : Event) (ds : List SealedPacket) → CauseLaw plan ((e, v.Sealed ds) ∷ h)
    → (port : PortName) (stream : ℕ) (u : SubKind) (i : ℕ)
    → local_end port ≡ true → stops (op_of h port.line stream) ≡ true → NoneAbove plan h (lane_out port stream u) i
    → NoneAbove plan ((e, v.Sealed ds) ∷ h) (lane_out port stream u) i
unfolding sealed_packets
still_above plan h e ds law port stream u i host is none place x at =
    let sealing = sealing_is plan h e ds law.0 in
    each_more (λ (d : SealedPacket). is_same (sub_stream_of d) (lane_out port stream u) ≡ true → d.draw ≤ i) plan
    (ahead_of_packet plan (sealed_packets plan h) (base h)) (sent_bytes plan h e) ds (sealed_packets plan h)
    (live_all (λ (d : SealedPacket). is_same (sub_stream_of d) (lane_out port stream u) ≡ true → d.draw ≤ i) plan h
    sealing.sending.port sealing.sending.stream ds
    (λ d live here. absurd
    (none_seals plan h law.1 port stream u host is sealing.sending.port sealing.sending.stream d live here))
    (all_live plan h (sending_port plan h e) (sent_bytes plan h e) ds sealing))
    none place x at

excuse_sent : (plan : Plan) (h : History) (e : Event) (ds : List SealedPacket) → CauseLaw plan ((e, v.Sealed ds) ∷ h)
    → (port : PortName) (stream : ℕ) (u : SubKind) (i : ℕ)
    → Excuse plan h port stream u i → Excuse plan ((e, v.Sealed ds) ∷ h) port stream u i
excuse_sent plan h e ds law port stream u i x =
    let same = sealing_manager h e (v.Sealed ds) (sealed_by_sealing plan h e ds law.0) in
    record {
      stopping = ap (λ (m : StreamOperations). stops (m.ops port.line stream)) same ∙ x.stopping;
      left = λ host.
          still_above plan h e ds law port stream u i host x.stopping (x.left host);
    }

-- of draws that were not made nothing was sealed
not_sent : (xs : SealedList) (s : SubStream) (n i : ℕ) → n ≤ i
    → ((k : ℕ) (x : SealedPacket × Packet) → slice_get xs k ≡ Some x → x.0.draw < n) → sub_stream_packets xs s i ≡ []
unfolding sub_stream_packets
not_sent [] s n i le below = refl
not_sent (x ∷ xs) s n i le below =
    let lt : x.0.draw < n = below 0 x refl in
    let off : is_sealed_under s i x ≡ false = grind (arith, nat_tests) in
    rw off (not_sent xs s n i le (λ k y at. below (suc k) y at))

lower : (b : Bool) (m n i : ℕ) → n ≤ m → (if b then m else n) ≤ i → n ≤ i
lower b m n i le up = grind arith

-- Base never falls
base_up : (plan : Plan) (h : History) (e : Event) (w : Verdict) → CauseLaw plan ((e, w) ∷ h) → (p : KeyPlace) (i : ℕ)
    → base ((e, w) ∷ h) p.line p.stream ≤ i → base h p.line p.stream ≤ i
unfolding base
base_up plan h (Establish l s loss) w law p i le = lower _ (draws h) (base h p.line p.stream) i
    (based (key_plan plan) h (key_cause plan h law.1) p).low le
base_up plan h e w law p i le = le

-- no Live draw is below what was sealed
live_above : (plan : Plan) (h : History) → CauseLaw plan h → (port : PortName) (stream : ℕ) (u : SubKind) (i : ℕ)
    → sender_draw (port_keys h port (lane_out port stream u)) ≡ Some i → NoneAbove plan h (lane_out port stream u) i
live_above plan h law port stream u i live place x at here =
    let on = live_is_on (port_keys h port (lane_out port stream u)) i live in
    on_above plan h law port stream u on.0 i (on_key _ i on.1) place x at here

abbrev Opens : Plan → History → PortName → ℕ → SubKind → ℕ → Type 0
Opens plan h port stream u i = OpenIs (Excuse plan h port stream u i) i (sealed_packets plan h) (lane_out port stream u)
    (port_keys h port (lane_out port stream u))

opens_sent : (plan : Plan) (h : History) (e : Event) (ds : List SealedPacket) → CauseLaw plan ((e, v.Sealed ds) ∷ h)
    → (port : PortName) (stream : ℕ) (u : SubKind) (i : ℕ)
    → Opens plan h port stream u i → Opens plan ((e, v.Sealed ds) ∷ h) port stream u i
unfolding sealed_packets
opens_sent plan h e ds law port stream u i opens =
    let s = lane_out port stream u in
    let is = sealing_is plan h e ds law.0 in
    let done = all_open (Excuse plan h port stream u i) i plan h is.sending.port is.sending.stream
    (ahead_of_packet plan (sealed_packets plan h) (base h)) (sent_bytes plan h e)
    port stream u ds (sealed_packets plan h) (all_live plan h (sending_port plan h e) (sent_bytes plan h e) ds is)
    (all_apart plan h (sending_port plan h e) (sent_bytes plan h e) ds is) opens in
    let keys = sealed plan h e ds law port s in
    elim done [
      | inl none ↦ inl none
      | inr (inl live) ↦ inr (inl (ap sender_draw keys ∙ live))
      | inr (inr x) ↦ inr (inr (excuse_sent plan h e ds law port stream u i x))
    ]

-- a pair that seals nothing
none_open : open_unit [] ≡ []
unfolding open_unit
none_open = refl

live_moved : (plan : Plan) (h : History) (e : Event) (w : Verdict) → CauseLaw plan ((e, w) ∷ h)
    → (port : PortName) (stream : ℕ) (u : SubKind) (i : ℕ) → let s = lane_out port stream u in
    OnlyKeys (touches (manager h).ops (draws h) e w (place_in_sub_stream port s true))
    → sender_draw (port_keys h port s)
    ≡ Some i
    → is_open (moments h (place_in_sub_stream port s true)) i ≡ true → sender_draw (port_keys ((e, w) ∷ h) port s)
    ≡ Some i
unfolding moments
live_moved plan h e w law port stream u i only live busy =
    let s = lane_out port stream u in
    let p = place_in_sub_stream port s true in
    let cause = key_cause plan ((e, w) ∷ h) law in
    let come = (next_fits (key_plan plan) h e w cause p (fits (key_plan plan) h cause.2 p)).come in
    ap sender_draw (keys_out ((e, w) ∷ h) port stream u) ∙ live_stays (moments h p)
    (touches (manager h).ops (draws h) e w p) come only i (ap sender_draw (sym (keys_out h port stream u)) ∙ live)
    busy

opens_moved : (plan : Plan) (h : History) (e : Event) (w : Verdict) → seals_none w ≡ true → CauseLaw plan ((e, w) ∷ h)
    → (port : PortName) (stream : ℕ) (u : SubKind) (i : ℕ) → base ((e, w) ∷ h) port.line stream ≤ i
    → Opens plan h port stream u i → Opens plan ((e, w) ∷ h) port stream u i
opens_moved plan h e w none law port stream u i up opens = elim opens [
  | inl closed ↦ inl (ap open_unit sent_is ∙ closed)
  | inr (inl live) ↦ by_open (open_unit (sub_stream_packets (sealed_packets plan h) s i)) refl live
  | inr (inr x) ↦ by_stop x
      (still_stops plan h e w law (place_in_sub_stream port (lane_out port stream u) true) x.stopping)
]
  where
    s : SubStream
    s = lane_out port stream u

    p : KeyPlace
    p = place_in_sub_stream port (lane_out port stream u) true

    xs : sealed_packets plan ((e, w) ∷ h) ≡ sealed_packets plan h
    xs = sealed_same plan h e w none

    sent_is : sub_stream_packets (sealed_packets plan ((e, w) ∷ h)) (lane_out port stream u) i
        ≡ sub_stream_packets (sealed_packets plan h) (lane_out port stream u) i
    sent_is = ap (λ (ys : SealedList). sub_stream_packets ys (lane_out port stream u) i) xs

    above_still : NoneAbove plan h (lane_out port stream u) i → NoneAbove plan ((e, w) ∷ h) (lane_out port stream u) i
    above_still above place x at here = above place x (ap (λ (ys : SealedList). slice_get ys place) (sym xs) ∙ at) here

    by_open : (ps : List Packet) → open_unit (sub_stream_packets (sealed_packets plan h) (lane_out port stream u) i)
        ≡ ps
        → sender_draw (port_keys h port (lane_out port stream u)) ≡ Some i → Opens plan ((e, w) ∷ h) port stream u i
    by_open [] is live = inl (ap open_unit sent_is ∙ is)
    by_open (q ∷ ps) is live =
        let busy : is_open (moments h p) i ≡ true = sym
        (busy_is plan h law.1 port (lane_out port stream u) i (sends_lane port stream u))
        ∙ ap (λ (rs : List Packet). nat_lt 0 (length rs)) is ∙ lt-true 0 (suc (length ps)) (omega arith) in
        elim (moved h e w none p refl) [
          | inl stopped ↦ inr (inr
              (record {
                stopping = stopped;
                left = λ host. above_still (live_above plan h law.1 port stream u i live);
              }))
          | inr only ↦ inr (inl (live_moved plan h e w law port stream u i only live busy))
        ]

    by_stop : Excuse plan h port stream u i → (stops (op_of ((e, w) ∷ h) port.line stream) ≡ true)
        ⊎ (base ((e, w) ∷ h) port.line stream ≡ draws h) → Opens plan ((e, w) ∷ h) port stream u i
    by_stop x (inl stopped) = inr (inr (record { stopping = stopped; left = λ host. above_still (x.left host) }))
    by_stop x (inr begun) =
        inl (ap open_unit (sent_is ∙ not_sent (sealed_packets plan h) (lane_out port stream u) (draws h) i
        (subst (λ (n : ℕ). n ≤ i) begun up) (below_draws plan h law.1)) ∙ none_open)

opens_at : (plan : Plan) (h : History) → CauseLaw plan h → (port : PortName) (stream : ℕ) (u : SubKind) (i : ℕ)
    → base h port.line stream ≤ i → Opens plan h port stream u i
unfolding sealed_packets sub_stream_packets open_unit
opens_at plan [] law port stream u i up = inl refl
opens_at plan ((e, v.Sealed ds) ∷ h) law port stream u i up =
    opens_sent plan h e ds law port stream u i
    (opens_at plan h law.1 port stream u i
    (base_up plan h e (v.Sealed ds) law (place_in_sub_stream port (lane_out port stream u) true) i up))
opens_at plan ((e, w) ∷ h) law port stream u i up =
    opens_moved plan h e w refl law port stream u i up
    (opens_at plan h law.1 port stream u i
    (base_up plan h e w law (place_in_sub_stream port (lane_out port stream u) true) i up))

-- ---- a stream that has no refresh has no draw above Base

pub no_link : (line : ℕ) → is_hosted line ≡ false → is_link_line line ≡ false
no_link line paired = grind (arith, nat_tests)

-- the draws of operations on the stream are up to this one
abbrev AreLow : List Begun → ℕ → ℕ → ℕ → Type 0
AreLow bs line stream n = (j : ℕ) (c : Begun) → begun_of_draw bs j ≡ Some c → c.line ≡ line → c.stream ≡ stream → j ≤ n

establish_low : (bs : List Begun) (l s : ℕ) (set begins : Bool) (line stream n : ℕ) → AreLow bs line stream n
    → AreLow (if begins then record { line = l; stream = s; set = set } ∷ bs else bs) line stream
    (if (l == line) && (s == stream) && begins then length bs else n)
establish_low bs l s set false line stream n low j c is on_line on_stream =
    let most = low j c is on_line on_stream in grind arith
establish_low bs l s set true line stream n low j c is on_line on_stream = by (length bs == j) refl is
  where
    by : (b : Bool) → (length bs == j) ≡ b
        → (if b then Some (record { line = l; stream = s; set = set }) else begun_of_draw bs j) ≡ Some c
        → j ≤ (if (l == line) && (s == stream) && true then length bs else n)
    by true last is =
        let same : record { line = l; stream = s; set = set } ≡ c = cc (is) in
        let one : l ≡ line = ap (λ (b : Begun). b.line) same ∙ on_line in
        let two : s ≡ stream = ap (λ (b : Begun). b.stream) same ∙ on_stream in
        grind (arith, nat_tests)
    by false other is =
        let most = low j c is on_line on_stream in
        let less = begun_below bs j c is in
        grind (arith, nat_tests)

other_low : (m : StreamOperations) (o : Operation) (l s : ℕ) (r : Option Reach) (line stream n : ℕ)
    → (l ≡ line → r ≡ None)
    → AreLow m.begun line stream n → AreLow (manager_after_operation m o l s r).begun line stream n
other_low m o l s None line stream n other low = low
other_low m o l s (Some r) line stream n other low = by (w.begins && makes_draw w.operation)
  where
    w : Work
    w = work_of o (m.ops l s) (length m.begun)

    by : (b : Bool) → AreLow (if b then record { line = l; stream = s; set = w.set } ∷ m.begun else m.begun) line stream
        n
    by false j c is on_line on_stream = low j c is on_line on_stream
    by true j c is on_line on_stream = by_last (length m.begun == j) is
      where
        by_last : (b : Bool) → (if b then Some (record { line = l; stream = s; set = w.set })
            else begun_of_draw m.begun j) ≡ Some c → j ≤ n
        by_last true is =
            let same : record { line = l; stream = s; set = w.set } ≡ c = cc (is) in
            let none = other (ap (λ (b : Begun). b.line) same ∙ on_line) in
            absurd cc
        by_last false is = low j c is on_line on_stream

stop_low : (m : StreamOperations) (l s : ℕ) (r : Option Reach) (line stream n : ℕ) → AreLow m.begun line stream n
    → AreLow (manager_after_operation m op.Stop l s r).begun line stream n
stop_low m l s None line stream n low = low
stop_low m l s (Some r) line stream n low =
    subst (λ (b : Bool). AreLow (if b then record { line = l; stream = s; set = w.set } ∷ m.begun else m.begun) line
    stream
    n) (sym (ap (λ (o : Operation). w.begins && makes_draw o) (work_is op.Stop (m.ops l s) (length m.begun))
    ∙ never w.begins)) low
  where
    w : Work
    w = work_of op.Stop (m.ops l s) (length m.begun)

    never : (b : Bool) → (b && false) ≡ false
    never b = grind arith

pub reached_none : (has : Bool) (o : Operation) (x y : Verdict) → has ≡ false → x ≡ (if has then y else v.Nothing)
    → reach_of o x ≡ None
reached_none true o x y none is = absurd cc
reached_none false o x y none is = ap (reach_of o) is

pub none_first : (a b : Bool) → a ≡ false → (a && b) ≡ false
none_first a b none = grind arith

none_begins : (a b c : Bool) (m n : ℕ) → (if a && b && (c && false) then m else n) ≡ n
none_begins a b c m n = grind arith

establishes_low : (m : StreamOperations) (l s : ℕ) (r : Option Reach) (line stream n : ℕ) → AreLow m.begun line stream n
    → AreLow (manager_after_operation m op.Establish l s r).begun line stream
    (if (l == line) && (s == stream) && ((work_of op.Establish (m.ops l s) (length m.begun)).begins && is_some r)
    then length m.begun else n)
establishes_low m l s None line stream n low = rw (none_begins (l == line) (s == stream)
    (work_of op.Establish (m.ops l s) (length m.begun)).begins (length m.begun) n) low
establishes_low m l s (Some r) line stream n low =
    subst (λ (b : Bool). AreLow (if w.begins && b then record { line = l; stream = s; set = w.set } ∷ m.begun
    else m.begun) line stream
    (if (l == line) && (s == stream) && (w.begins && true) then length m.begun else n))
    (sym (ap makes_draw (work_is op.Establish (m.ops l s) (length m.begun))))
    (establish_low m.begun l s w.set (w.begins && true) line stream n low)
  where
    w : Work
    w = work_of op.Establish (m.ops l s) (length m.begun)

alone_below : (kp : KeyPlan) (h : History) → KeyCauseLaw kp h → (line stream : ℕ) → is_link_line line ≡ false
    → AreLow (manager h).begun line stream (base h line stream)
unfolding manager base key_due
alone_below kp [] cause line stream alone = λ j c is on_line on_stream. absurd cc
alone_below kp ((Establish l s loss, x) ∷ h) cause line stream alone = establishes_low (manager h) l s
    (reach_of op.Establish x) line stream (base h line stream) (alone_below kp h cause.2 line stream alone)
alone_below kp ((Refresh l s loss, x) ∷ h) cause line stream alone =
    other_low (manager h) op.Refresh l s _ line stream (base h line stream)
    (λ same. reached_none (has_refresh kp l s) op.Refresh x _
    (none_first (is_link_line l) (kp.has_stream l s) (ap is_link_line same ∙ alone)) cause.0)
    (alone_below kp h cause.2 line stream alone)
alone_below kp ((Stop l s loss, x) ∷ h) cause line stream alone =
    stop_low (manager h) l s _ line stream (base h line stream) (alone_below kp h cause.2 line stream alone)
alone_below kp ((Reset l ends, v.Reset m) ∷ h) cause line stream alone = alone_below kp h cause.2 line stream alone
alone_below kp ((e, x) ∷ h) cause line stream alone = alone_below kp h cause.2 line stream alone

-- ---- if the newer draw is On at the receiver

lane_of_partner : (q : PortName) (stream : ℕ) (u : SubKind) → lane_in q stream u ≡ lane_out (partner q) stream u
lane_of_partner q stream u = grind arith

host_end : (q : PortName) → (partner q).side ≡ Device → q.side ≡ Host
host_end q is = grind arith

local_is : (q : PortName) → q.side ≡ Host → is_hosted q.line ≡ true → local_end q ≡ true
local_is q host hosted = rw (host, hosted) refl

pub ended : (plan : Plan) (h : History) → CauseLaw plan h → (port : PortName) (stream : ℕ) (u : SubKind) (k : Bool)
    (j i place : ℕ) (x : SealedPacket × Packet) → let s = lane_in port stream u in
    key_in (port_keys h port s) k ≡ On j → slice_get (sealed_packets plan h) place ≡ Some x → is_sealed_under s j x
    ≡ true
    → base h s.line s.stream ≤ i → i < j → open_unit (sent_packets plan h s i) ≡ []
ended plan h law q stream u k j i at x on stands under up less = by_line (is_hosted q.line) refl
  where
    lanes : lane_in q stream u ≡ lane_out (partner q) stream u
    lanes = lane_of_partner q stream u

    here : is_same (sub_stream_of x.0) (lane_out (partner q) stream u) ≡ true
    here = subst (λ (r : SubStream). is_same (sub_stream_of x.0) r ≡ true) lanes
        (both-true (is_same (sub_stream_of x.0) (lane_in q stream u)) (x.0.draw == j) under).0

    draw : x.0.draw ≡ j
    draw = true-same x.0.draw j (both-true (is_same (sub_stream_of x.0) (lane_in q stream u)) (x.0.draw == j) under).1

    by_side : (side : Side) → (partner q).side ≡ side → is_hosted q.line ≡ true → Excuse plan h (partner q) stream u i
        → open_unit (sent_packets plan h (lane_out (partner q) stream u) i) ≡ []
    by_side Host host hosted e = absurd
        (let most = e.left (local_is (partner q) host hosted) at x stands here in omega (arith, most, draw, less))
    by_side Device device hosted e =
        let bare = bare_host plan h law (place_in_sub_stream q (lane_in q stream u) false)
        (local_is q (host_end q device) hosted) e.stopping in
        absurd (never_on k j (ap (λ (ks : Keys). key_in ks k) (sym bare ∙ sym (keys_into h q stream u)) ∙ on))

    by_line : (hosted : Bool) → is_hosted q.line ≡ hosted → open_unit (sent_packets plan h (lane_in q stream u) i) ≡ []
    by_line true hosted =
        subst (λ (r : SubStream). open_unit (sent_packets plan h r i) ≡ []) (sym lanes)
        (elim (opens_at plan h law (partner q) stream u i up) [
          | inl none ↦ none
          | inr (inl live) ↦ absurd
              (let most = live_above plan h law (partner q) stream u i live at x stands here in omega
              (arith, most, draw, less))
          | inr (inr e) ↦ by_side (partner q).side refl hosted e
        ])
    by_line false paired = absurd
        (let most = alone_below (key_plan plan) h (key_cause plan h law) q.line stream (no_link q.line paired) j
        (owner q.line stream k) (on_is_owned h q (lane_in q stream u) k j on) refl refl in
        omega (arith, most, up, less))

-- on a stream that no stop or reset has left idle, a unit is open of the Live draw alone
pub open_is_live : (plan : Plan) (h : History) → CauseLaw plan h → (port : PortName) (stream : ℕ) (u : SubKind) (i : ℕ)
    → base h port.line stream ≤ i → stops (op_of h port.line stream) ≡ false
    → let s = lane_out port stream u in
    (open_unit (sent_packets plan h s i) ≡ []) ⊎ (sender_draw (port_keys h port s) ≡ Some i)
open_is_live plan h law port stream u i up goes_on = elim (opens_at plan h law port stream u i up) [
  | inl none ↦ inl none
  | inr (inl live) ↦ inr live
  | inr (inr x) ↦ absurd (let stopping = x.stopping in cc (stopping, goes_on))
]

-- The draws under which a segment seals and accepts since its link's last reset were given to it since then: the reset
-- takes all keys, each later operation has a draw that began after it, and each draw belongs to one line.
use Rattle.law_sealing.proofs.Terms.{◌≡◌, ℕ, ◌<◌, ◌≤◌, ◌==◌, ◌&&◌, Bool, true, false, List, [], ◌∷◌, length}
use Rattle.law_sealing.proofs.Terms.{Option, Some, None, refl, ap, sym, subst, ◌∙◌, arith, nat_tests, if◌then◌else◌}
use Rattle.law_sealing.proofs.Terms.{is_some, AllByRecursion, Plan, History, Event, Verdict, PortName, SubStream}
use Rattle.law_sealing.proofs.Terms.{CauseLaw, port_keys, On, key_in, on_in, eqb-true}
use Rattle.spec_links.proofs.Terms.{Establish, Refresh, Stop, Reset, KeyPlan, KeyPlace, key_plan, place_in_sub_stream}
use Rattle.spec_links.proofs.Terms.{Begun, StreamOperations, StreamStage, Reach, Work, Operation, draws, op_of}
use Rattle.spec_links.proofs.Terms.{work_of, reach_of, manager_after_operation, touches, touches_after, KeyCauseLaw}
unfoldable use Rattle.spec_links.proofs.Terms.{manager, moments, key_due}
unfoldable use Rattle.spec_keys.specs.Keys.{keys}
use Rattle.spec_keys.specs.Keys.{Clear, Touch}
use Rattle.spec_keys.specs.History.{begun_of_draw, touches_if}
use Rattle.spec_keys.specs.Operations.{makes_draw, op_after_reset}
use Rattle.spec_keys.specs.Places.{is_line_reset, is_cleared, is_between_devices}
use Rattle.spec_keys.specs.Due.{has_refresh}
use Rattle.spec_keys.proofs.Owners.{OwnedKeys, behind_owned, owned_on, owner, begun_below, work_is}
use Rattle.law_keys.proofs.Bases.{From, OpFrom, leads}
use Rattle.ide_types.specs.Lines.{is_link_line}
use Rattle.law_key_facts.proofs.Unplanned.{on_at}
use Rattle.law_key_facts.proofs.SealedKeys.{on_is_owned}
use Rattle.law_key_facts.proofs.Given.{key_cause}
use Rattle.law_key_facts.proofs.Ended.{reached_none, none_first}
use Rattle.spec_links.specs.Hops.{clears_hop}
use Rattle.ide_types.specs.declared.port.Side.{Side}
unfoldable use Rattle.spec_links.specs.HopLaws.{draws_since}
use Rattle.event_verdicts.specs.declared.verdict.Operation.TheVariants as op
use Rattle.event_verdicts.specs.declared.verdict.Verdict.TheVariants as v

-- how many draws had been made at the last reset of the link's hop
unfoldable pub mark : History → ℕ → ℕ
mark [] link = 0
mark ((Reset k ends, v.Reset l) ∷ h) link = if clears_hop ends link then draws h else mark h link
mark (_ ∷ h) link = mark h link

-- the line is one of the two segments
abbrev pub IsSegment : ℕ → ℕ → Type 0
IsSegment link line = (is_link_line line ≡ false) × (is_between_devices line ≡ false)
    × ((ends : List PortName) → clears_hop ends link ≡ true → is_line_reset ends line ≡ true)

-- ---- keys are from that mark on

pub record Marked (h : History) (link : ℕ) (p : KeyPlace) : Type 0 where
  pub low : mark h link ≤ draws h
  pub op_from : OpFrom (mark h link) (op_of h p.line p.stream)
  pub keys_from : OwnedKeys (From (mark h link)) (keys p.sends (moments h p))

next_marked : (h : History) (e : Event) (w : Verdict) (link : ℕ) (p : KeyPlace) → mark ((e, w) ∷ h) link ≡ mark h link
    → Marked h link p → Marked ((e, w) ∷ h) link p
unfolding moments manager
next_marked h e w link p is before =
    let more = leads (manager h) e w p (mark h link) before.low before.op_from in
    let keys_from = behind_owned (From (mark h link)) p.sends (moments h p) (touches (manager h).ops (draws h) e w p)
    before.keys_from more.from in
    record { low = rw is more.low; op_from = rw is more.op_from; keys_from = rw is keys_from }

cut_idle : (b : ℕ) (ends : List PortName) (line : ℕ) (q : StreamStage) → is_line_reset ends line ≡ true
    → is_between_devices line ≡ false → OpFrom b (op_after_reset ends line q)
cut_idle b ends line q cut peer = rw (cut, peer) tt

cleared_keys : (O : Bool → ℕ → Type 0) (s cleared : Bool) (ts : List Touch) → cleared ≡ true
    → OwnedKeys O (keys s (touches_after ts (touches_if cleared Clear)))
unfolding keys
cleared_keys O true cleared ts is = rw is (record { first_is = tt; second_is = tt })
cleared_keys O false cleared ts is = rw is (record { first_is = tt; second_is = tt })

cleared_there : (ends : List PortName) (side : Side) (line : ℕ) → is_line_reset ends line ≡ true
    → is_between_devices line ≡ false → is_cleared ends side line ≡ true
cleared_there ends side line cut peer = rw (peer, cut) refl

reset_marked : (h : History) (k : ℕ) (ends : List PortName) (l link : ℕ) (p : KeyPlace) → IsSegment link p.line
    → Marked h link p → Marked ((Reset k ends, v.Reset l) ∷ h) link p
unfolding mark moments manager
reset_marked h k ends l link p segment before = by (clears_hop ends link) refl
  where
    by : (b : Bool) → clears_hop ends link ≡ b → Marked ((Reset k ends, v.Reset l) ∷ h) link p
    by true is =
        let cut = segment.2 ends is in record {
          low = rw is (omega arith);
          op_from = rw is (cut_idle (draws h) ends p.line (op_of h p.line p.stream) cut segment.1);
          keys_from = rw is (cleared_keys (From (draws h)) p.sends (is_cleared ends p.side p.line) (moments h p)
              (cleared_there ends p.side p.line cut segment.1));
        }
    by false is = next_marked h (Reset k ends) (v.Reset l) link p (rw is refl) before

pub marked : (h : History) (link : ℕ) (p : KeyPlace) → IsSegment link p.line → Marked h link p
unfolding mark moments manager keys
marked [] link p segment = record {
  low = omega arith;
  op_from = tt;
  keys_from = record {
    first_is = tt;
    second_is
        = tt;
  };
}
marked ((Reset k ends, v.Reset l) ∷ h) link p segment = reset_marked h k ends l link p segment
    (marked h link p segment)
marked ((e, w) ∷ h) link p segment = next_marked h e w link p refl (marked h link p segment)

-- ---- what began on a segment since then

-- of a draw that began on the line from the mark on, all is true that is true of the draws since then
abbrev pub BegunSince : (ℕ → Type 0) → List Begun → List ℕ → ℕ → ℕ → Type 0
BegunSince P bs since from line =
    AllByRecursion P since → (j : ℕ) (c : Begun) → begun_of_draw bs j ≡ Some c → c.line ≡ line → from ≤ j → P j

establish_since : (P : ℕ → Type 0) (bs : List Begun) (l s : ℕ) (set begins : Bool) (since : List ℕ) (from line : ℕ)
    → BegunSince P bs since from line
    → BegunSince P (if begins then record { line = l; stream = s; set = set } ∷ bs else bs)
    (if (l == line) && begins then length bs ∷ since else since) from line
establish_since P bs l s set false since from line before all j c is on_line up = by (l == line) all
  where
    by : (b : Bool) → AllByRecursion P (if b && false then length bs ∷ since else since) → P j
    by true all = before all j c is on_line up
    by false all = before all j c is on_line up
establish_since P bs l s set true since from line before all j c is on_line up = by_line (l == line) refl all
  where
    by_last : (b last : Bool) → (length bs == j) ≡ last → (l == line) ≡ b
        → (if last then Some (record { line = l; stream = s; set = set }) else begun_of_draw bs j) ≡ Some c
        → AllByRecursion P (if b && true then length bs ∷ since else since) → P j
    by_last true true last on is all = subst P (eqb-true (length bs) j last) all.0
    by_last true false last on is all = before all.1 j c is on_line up
    by_last false false last on is all = before all j c is on_line up
    by_last false true last on is all =
        let same : record { line = l; stream = s; set = set } ≡ c = cc (is) in
        let here : l ≡ line = ap (λ (b : Begun). b.line) same ∙ on_line in
        absurd (grind (arith, nat_tests, here, on))

    by_line : (b : Bool) → (l == line) ≡ b → AllByRecursion P (if b && true then length bs ∷ since else since) → P j
    by_line b on all = by_last b (length bs == j) refl on is all

none_begins : (a c : Bool) (xs ys : List ℕ) → (if a && (c && false) then xs else ys) ≡ ys
none_begins a c xs ys = grind arith

establishes_since : (P : ℕ → Type 0) (m : StreamOperations) (l s : ℕ) (r : Option Reach) (since : List ℕ)
    (from line : ℕ)
    → BegunSince P m.begun since from line → BegunSince P (manager_after_operation m op.Establish l s r).begun
    (if (l == line) && ((work_of op.Establish (m.ops l s) (length m.begun)).begins && is_some r)
    then length m.begun ∷ since else since) from line
establishes_since P m l s None since from line before = rw (none_begins (l == line)
    (work_of op.Establish (m.ops l s) (length m.begun)).begins (length m.begun ∷ since) since) before
establishes_since P m l s (Some r) since from line before =
    subst (λ (b : Bool). BegunSince P (if w.begins && b then record { line = l; stream = s; set = w.set } ∷ m.begun
    else m.begun)
    (if (l == line) && (w.begins && true) then length m.begun ∷ since else since) from line)
    (sym (ap makes_draw (work_is op.Establish (m.ops l s) (length m.begun))))
    (establish_since P m.begun l s w.set (w.begins && true) since from line before)
  where
    w : Work
    w = work_of op.Establish (m.ops l s) (length m.begun)

-- an operation that makes no draw on the line
other_since : (P : ℕ → Type 0) (m : StreamOperations) (o : Operation) (l s : ℕ) (r : Option Reach) (since : List ℕ)
    (from line : ℕ) → (l ≡ line → r ≡ None) → BegunSince P m.begun since from line
    → BegunSince P (manager_after_operation m o l s r).begun since from line
other_since P m o l s None since from line other before = before
other_since P m o l s (Some r) since from line other before = by (w.begins && makes_draw w.operation)
  where
    w : Work
    w = work_of o (m.ops l s) (length m.begun)

    by : (b : Bool) → BegunSince P (if b then record { line = l; stream = s; set = w.set } ∷ m.begun else m.begun) since
        from line
    by false all j c is on_line up = before all j c is on_line up
    by true all j c is on_line up = by_last (length m.begun == j) is
      where
        by_last : (last : Bool) → (if last then Some (record { line = l; stream = s; set = w.set })
            else begun_of_draw m.begun j) ≡ Some c → P j
        by_last true is =
            let same : record { line = l; stream = s; set = w.set } ≡ c = cc (is) in
            let none = other (ap (λ (b : Begun). b.line) same ∙ on_line) in
            absurd cc
        by_last false is = before all j c is on_line up

stop_since : (P : ℕ → Type 0) (m : StreamOperations) (l s : ℕ) (r : Option Reach) (since : List ℕ) (from line : ℕ)
    → BegunSince P m.begun since from line → BegunSince P (manager_after_operation m op.Stop l s r).begun since from
    line
stop_since P m l s None since from line before = before
stop_since P m l s (Some r) since from line before =
    subst (λ (b : Bool). BegunSince P (if b then record { line = l; stream = s; set = w.set } ∷ m.begun else m.begun)
    since from line)
    (sym (ap (λ (o : Operation). w.begins && makes_draw o) (work_is op.Stop (m.ops l s) (length m.begun))
    ∙ never w.begins)) before
  where
    w : Work
    w = work_of op.Stop (m.ops l s) (length m.begun)

    never : (b : Bool) → (b && false) ≡ false
    never b = grind arith

reset_since : (P : ℕ → Type 0) (h : History) (k : ℕ) (ends : List PortName) (l link line : ℕ)
    → BegunSince P (manager h).begun (draws_since h link line) (mark h link) line
    → BegunSince P (manager ((Reset k ends, v.Reset l) ∷ h)).begun
    (draws_since ((Reset k ends, v.Reset l) ∷ h) link line) (mark ((Reset k ends, v.Reset l) ∷ h) link) line
unfolding mark manager draws_since
reset_since P h k ends l link line before = by (clears_hop ends link)
  where
    by : (b : Bool) → BegunSince P (manager h).begun (if b then [] else draws_since h link line)
        (if b then draws h else mark h link) line
    by true all j c is on_line up = absurd (let less = begun_below (manager h).begun j c is in omega (arith, less, up))
    by false all j c is on_line up = before all j c is on_line up

pub begun_since : (P : ℕ → Type 0) (kp : KeyPlan) (h : History) → KeyCauseLaw kp h → (link line : ℕ)
    → is_link_line line ≡ false → BegunSince P (manager h).begun (draws_since h link line) (mark h link) line
unfolding mark manager draws_since key_due
begun_since P kp [] cause link line alone = λ all j c is on_line up. absurd cc
begun_since P kp ((Establish l s loss, x) ∷ h) cause link line alone = establishes_since P (manager h) l s
    (reach_of op.Establish x) (draws_since h link line) (mark h link) line (begun_since P kp h cause.2 link line alone)
begun_since P kp ((Refresh l s loss, x) ∷ h) cause link line alone =
    other_since P (manager h) op.Refresh l s _ (draws_since h link line) (mark h link) line
    (λ same. reached_none (has_refresh kp l s) op.Refresh x _
    (none_first (is_link_line l) (kp.has_stream l s) (ap is_link_line same ∙ alone)) cause.0)
    (begun_since P kp h cause.2 link line alone)
begun_since P kp ((Stop l s loss, x) ∷ h) cause link line alone = stop_since P (manager h) l s _
    (draws_since h link line) (mark h link) line (begun_since P kp h cause.2 link line alone)
begun_since P kp ((Reset k ends, v.Reset l) ∷ h) cause link line alone =
    reset_since P h k ends l link line (begun_since P kp h cause.2 link line alone)
begun_since P kp ((e, x) ∷ h) cause link line alone = begun_since P kp h cause.2 link line alone

-- ---- what is On

-- a draw that is On at an end of a segment began since then
pub on_since : (P : ℕ → Type 0) (plan : Plan) (h : History) → CauseLaw plan h → (link : ℕ) (port : PortName)
    (s : SubStream) (k : Bool) (j : ℕ) → s.line ≡ port.line → IsSegment link port.line
    → AllByRecursion P (draws_since h link port.line) → key_in (port_keys h port s) k ≡ On j → P j
on_since P plan h cause link port s k j here segment all on =
    let at = on_at h port s k j on in
    let p = place_in_sub_stream port s at.sends in
    let there = subst (IsSegment link) (sym here) segment in
    let up = owned_on (From (mark h link)) (keys p.sends (moments h p)) k j (marked h link p there).keys_from
    (ap on_in at.on) in
    begun_since P (key_plan plan) h (key_cause plan h cause) link port.line segment.0 all j (owner s.line s.stream k)
    (on_is_owned h port s k j on) here up

-- it has begun
pub on_begun : (h : History) (port : PortName) (s : SubStream) (k : Bool) (j : ℕ) → key_in (port_keys h port s) k ≡ On j
    → j < draws h
on_begun h port s k j on = begun_below (manager h).begun j (owner s.line s.stream k) (on_is_owned h port s k j on)

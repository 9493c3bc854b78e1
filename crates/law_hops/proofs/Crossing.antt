-- Across a segment that had one draw since its link's last reset: what was accepted since then is, in each sub-stream,
-- a prefix of what was sealed since then. All of it came under that draw, and nothing before the reset did.
use Rattle.law_sealing.proofs.Terms.{◌≡◌, ℕ, ◌<◌, ◌≤◌, ◌==◌, ◌&&◌, Bool, true, false, List, [], ◌∷◌, ◌++◌, refl}
use Rattle.law_sealing.proofs.Terms.{ap, sym, subst, ◌∙◌, arith, nat_tests, inl, inr, if◌then◌else◌, cases_Bool}
use Rattle.law_sealing.proofs.Terms.{AllByRecursion, map, filter, not, append-nil, eqb-true, and_parts, filter-append}
use Rattle.law_sealing.proofs.Terms.{is_some, Plan, History, Event, Verdict, Sealed, Accepted, Held, PortName, UnitName}
use Rattle.law_sealing.proofs.Terms.{Effect, SealedPacket, SubKind, SubStream, Packet, CauseLaw, DrawFacts}
use Rattle.law_sealing.proofs.Terms.{is_received_under, is_same, lane_in, lane_out, is_same_port, same_stream}
use Rattle.law_sealing.proofs.Terms.{same_port, received_in, receiving_sub_stream, sub_stream_of, sent_bytes}
use Rattle.law_sealing.proofs.Terms.{sealing_is, sending_port, stream_plan, accepted_by, received_there}
use Rattle.law_sealing.proofs.Terms.{packet_that_came, held_by, key_in, port_keys, On, IsLive, AllLive, all_live}
use Rattle.law_sealing.proofs.Terms.{is_sync_packet}
unfoldable use Rattle.law_sealing.proofs.Terms.{packets_in_hold}
use Rattle.spec_links.proofs.Terms.{Establish, Reset, draws, op_of, begins_keyed, arith}
use Rattle.spec_links.proofs.UnitLemmas.{All-snoc}
use Rattle.spec_links.proofs.Tests.{same_in}
use Rattle.spec_links.proofs.Senders.{in_lane}
use Rattle.ide_types.specs.Sub.{is_same_sub}
use Rattle.spec_interfaces.proofs.Trusted.{draws_grow}
use Rattle.law_key_facts.proofs.SealedKeys.{live_on, live_below}
use Rattle.spec_links.specs.Delivered.{is_tlp_under_draw}
use Rattle.spec_links.specs.Hops.{HopTlp, tlps_with, clears_hop}
unfoldable use Rattle.spec_links.specs.Hops.{accepted_tlps_in_list}
use Rattle.spec_links.specs.HopLaws.{is_tlp_of_sender, sealed_tlp, in_sub}
unfoldable use Rattle.spec_links.specs.HopLaws.{tlps_since_reset, draws_since}
use Rattle.spec_links.specs.Memory.{accepted_tlps, unit_ended}
use Rattle.event_verdicts.specs.declared.verdict.Verdict.TheVariants as v
use Rattle.law_delivery.proofs.Orders.{on_there}
use Rattle.law_reads.proofs.Taken.{tlps_of, here_after, taken_accepted}
use Rattle.law_hops.proofs.Since.{IsSegment, on_since, on_begun}
unfoldable use Rattle.law_hops.proofs.Since.{mark}
use Rattle.law_hops.proofs.Carried.{InSub}
unfoldable use Rattle.law_hops.proofs.Carried.{hop_got, hop_sent}

-- ---- the stream of a segment

-- the only stream of the line
abbrev pub IsLone : Plan → ℕ → ℕ → Type 0
IsLone plan line stream = (t : ℕ) → is_some (stream_plan plan line t) ≡ true → t ≡ stream

-- all draws since the reset are this one, which had not begun then
pub record OnlyDraw (h : History) (link line j : ℕ) : Type 0 where
  pub only : AllByRecursion (λ (i : ℕ). i ≡ j) (draws_since h link line)
  pub up : mark h link ≤ j

-- ---- the packets of a unit are of its sub-stream

held_sub : (plan : Plan) (h : History) → CauseLaw plan h → (s : SubStream) (j n : ℕ)
    → AllByRecursion (λ (p : Packet). p.prefix.sub ≡ s.sub) (packets_in_hold plan h s j n)
unfolding packets_in_hold
held_sub plan [] cause s j n = tt
held_sub plan ((e, Held port unit) ∷ h) cause s j n =
    let before = held_sub plan h cause.1 s j n in
    elim (cases_Bool (is_received_under s j port unit && (unit.unit == n))) [
      | inl is ↦
          let by = held_by plan h e port unit cause.0 in
          let tests = and_parts (is_same (received_in port unit) s) (unit.draw == j)
          (and_parts (is_received_under s j port unit) (unit.unit == n) is).0 in
          let there = sym (received_there plan h port by.packet unit by.passed)
          ∙ same_stream (received_in port unit) s tests.0 in
          let sub : by.packet.prefix.sub ≡ s.sub = ap (λ (t : SubStream). t.sub) there in
          rw is (All-snoc (λ (p : Packet). p.prefix.sub ≡ s.sub) (packets_in_hold plan h s j n) _ before
          (ap (λ (p : Packet). p.prefix.sub) (packet_that_came plan h e port by.packet by.came) ∙ sub))
      | inr other ↦ rw other before
    ]
held_sub plan (_ ∷ h) cause s j n = held_sub plan h cause.1 s j n

pub unit_sub : (plan : Plan) (h : History) (e : Event) (port : PortName) (unit : UnitName) (effects : List Effect)
    → CauseLaw plan ((e, Accepted port unit effects) ∷ h)
    → AllByRecursion (λ (p : Packet). p.prefix.sub ≡ unit.sub) (unit_ended plan h e port unit)
unit_sub plan h e port unit effects cause =
    let by = accepted_by plan h e port unit effects cause.0 in
    let there = sym (received_there plan h port by.packet unit by.passed) in
    All-snoc (λ (p : Packet). p.prefix.sub ≡ unit.sub)
    (packets_in_hold plan h (received_in port unit) unit.draw unit.unit) _
    (held_sub plan h cause.1 (received_in port unit) unit.draw unit.unit)
    (ap (λ (p : Packet). p.prefix.sub) (packet_that_came plan h e port by.packet by.came)
    ∙ ap (λ (t : SubStream). t.sub) there)

pub with_sub : (u : SubKind) (plain : List ℕ) (ps : List Packet) → AllByRecursion (λ (p : Packet). p.prefix.sub ≡ u) ps
    → InSub u (tlps_with plain ps)
with_sub u plain [] all = tt
with_sub u plain (p ∷ ps) all = let later = with_sub u _ ps all.1 in elim (cases_Bool (is_sync_packet p)) [
  | inl sync ↦ rw sync later
  | inr carries ↦ rw carries (all.0, later)
]

-- the whole list, or nothing of it
pub in_own : (u w : SubKind) (xs : List HopTlp) → InSub u xs → in_sub w xs ≡ (if is_same_sub u w then xs else [])
in_own u w [] all = grind arith
in_own u w (x ∷ xs) all = let later = in_own u w xs all.1 in
    let here : is_same_sub x.sub w ≡ is_same_sub u w = ap (λ (z : SubKind). is_same_sub z w) all.0 in
    elim (cases_Bool (is_same_sub u w)) [
      | inl is ↦ rw (here, is) (ap (λ (ys : List HopTlp). x ∷ ys) (later ∙ rw is refl))
      | inr other ↦ rw (here, other) (later ∙ rw other refl)
    ]

-- ---- nothing of a draw that has not begun

got_below : (plan : Plan) (h : History) (e : Event) (port : PortName) (unit : UnitName) (effects : List Effect)
    → CauseLaw plan ((e, Accepted port unit effects) ∷ h) → unit.draw < draws h
got_below plan h e port unit effects cause =
    let by = accepted_by plan h e port unit effects cause.0 in
    on_begun h port (receiving_sub_stream port by.packet) by.packet.prefix.k unit.draw
    (on_there plan h e port unit effects by)

-- so nothing comes under it at this unit
pub none_more : (plan : Plan) (h : History) (e : Event) (port : PortName) (unit : UnitName) (effects : List Effect)
    → CauseLaw plan ((e, Accepted port unit effects) ∷ h) → (s : SubStream) (j : ℕ) → draws h ≤ j
    → hop_got plan h s j ≡ [] → hop_got plan ((e, Accepted port unit effects) ∷ h) s j ≡ []
unfolding hop_got
none_more plan h e port unit effects cause s j up before = elim (cases_Bool (is_received_under s j port unit)) [
  | inl is ↦ absurd
      (let tests = and_parts (is_same (received_in port unit) s) (unit.draw == j) is in
      let draw = eqb-true unit.draw j tests.1 in
      let less = got_below plan h e port unit effects cause in
      omega (arith, draw, less, up))
  | inr other ↦ rw other before
]

pub none_got : (plan : Plan) (h : History) → CauseLaw plan h → (s : SubStream) (j : ℕ) → draws h ≤ j
    → hop_got plan h s j ≡ []
unfolding hop_got
none_got plan [] cause s j up = refl
none_got plan ((e, Accepted port unit effects) ∷ h) cause s j up =
    let below : draws h ≤ j = omega (arith, up, draws_grow h e (Accepted port unit effects)) in
    none_more plan h e port unit effects cause s j below (none_got plan h cause.1 s j below)
none_got plan ((e, w) ∷ h) cause s j up = none_got plan h cause.1 s j (omega (arith, up, draws_grow h e w))

carried_none : (s : SubStream) (j : ℕ) (ds : List SealedPacket)
    → AllByRecursion (λ (d : SealedPacket). (d.draw == j) ≡ false) ds → filter (is_tlp_under_draw s j) ds ≡ []
carried_none s j [] all = refl
carried_none s j (d ∷ ds) all =
    let later = carried_none s j ds all.1 in
    let other = all.0 in
    grind (arith, later, other)

lives_below : (plan : Plan) (h : History) (port : PortName) (stream j : ℕ) (ds : List SealedPacket) → draws h ≤ j
    → AllLive plan h port stream ds → AllByRecursion (λ (d : SealedPacket). (d.draw == j) ≡ false) ds
lives_below plan h port stream j [] up all = tt
lives_below plan h port stream j (d ∷ ds) up all =
    let less = live_below plan h port stream d all.0 in
    (grind (arith, nat_tests, less, up), lives_below plan h port stream j ds up all.1)

pub none_sent_more : (plan : Plan) (h : History) (e : Event) (ds : List SealedPacket)
    → CauseLaw plan ((e, Sealed ds) ∷ h) → (s : SubStream) (j : ℕ) → draws h ≤ j → hop_sent plan h s j ≡ []
    → hop_sent plan ((e, Sealed ds) ∷ h) s j ≡ []
unfolding hop_sent
none_sent_more plan h e ds cause s j below before =
    let is = sealing_is plan h e ds cause.0 in
    let none = carried_none s j ds (lives_below plan h is.sending.port is.sending.stream j ds below
    (all_live plan h (sending_port plan h e) (sent_bytes plan h e) ds is)) in
    (λ i. before i ++ map (sealed_tlp (sent_bytes plan h e)) (none i))

pub none_sealed : (plan : Plan) (h : History) → CauseLaw plan h → (s : SubStream) (j : ℕ) → draws h ≤ j
    → hop_sent plan h s j ≡ []
unfolding hop_sent
none_sealed plan [] cause s j up = refl
none_sealed plan ((e, Sealed ds) ∷ h) cause s j up =
    let below : draws h ≤ j = omega (arith, up, draws_grow h e (Sealed ds)) in
    none_sent_more plan h e ds cause s j below (none_sealed plan h cause.1 s j below)
none_sealed plan ((e, w) ∷ h) cause s j up = none_sealed plan h cause.1 s j (omega (arith, up, draws_grow h e w))

-- ---- what was accepted since then

-- whether a unit at a port is of a sub-stream that the receiver gets
pub of_lane : (port q : PortName) (unit : UnitName) (stream : ℕ) (u : SubKind) (j : ℕ)
    → is_received_under (lane_in q stream u) j port unit
    ≡ (is_same_port port q && (unit.stream == stream) && is_same_sub unit.sub u && (unit.draw == j))
of_lane port q unit stream u j = let sides = same_in port.side q.side in grind (arith, sides)

-- a reset of the link's hop
abbrev pub clears : Verdict → Event → ℕ → Bool
clears (v.Reset l) (Reset k ends) link = clears_hop ends link
clears w e link = false

-- else what is said of each draw since then was said of each before the pair
pub older_since : (P : ℕ → Type 0) (h : History) (e : Event) (w : Verdict) (link line : ℕ) → clears w e link ≡ false
    → AllByRecursion P (draws_since ((e, w) ∷ h) link line) → AllByRecursion P (draws_since h link line)
unfolding draws_since
older_since P h (Establish l s loss) w link line stays all =
    by ((l == line) && begins_keyed (op_of h l s) (draws h) w) all
  where
    by : (b : Bool) → AllByRecursion P (if b then draws h ∷ draws_since h link line else draws_since h link line)
        → AllByRecursion P (draws_since h link line)
    by true all = all.1
    by false all = all
older_since P h (Reset k ends) (v.Reset l) link line stays all = rw stays at all
older_since P h e w link line stays all = all

pub mark_older : (h : History) (e : Event) (w : Verdict) (link : ℕ) → clears w e link ≡ false
    → mark ((e, w) ∷ h) link ≡ mark h link
unfolding mark
mark_older h (Reset k ends) (v.Reset l) link stays = rw stays refl
mark_older h e w link stays = refl

pub only_older : (h : History) (e : Event) (w : Verdict) (link line j : ℕ) → clears w e link ≡ false
    → OnlyDraw ((e, w) ∷ h) link line j → OnlyDraw h link line j
only_older h e w link line j stays at = record {
  only = older_since (λ (i : ℕ). i ≡ j) h e w link line stays at.only;
  up = subst (λ (m : ℕ). m ≤ j) (mark_older h e w link stays) at.up;
}

more_if : (b : Bool) (xs ys : List HopTlp) → xs ++ (if b then ys else []) ≡ (if b then xs ++ ys else xs)
more_if true xs ys = refl
more_if false xs ys = append-nil xs

pub in_sub-append : (u : SubKind) (xs ys : List HopTlp) → in_sub u (xs ++ ys) ≡ in_sub u xs ++ in_sub u ys
in_sub-append u xs ys = filter-append (λ (x : HopTlp). is_same_sub x.sub u) xs ys

-- a unit at the end is of the stream and under the draw
unit_here : (plan : Plan) (h : History) (e : Event) (port : PortName) (unit : UnitName) (effects : List Effect)
    (link stream j : ℕ) → CauseLaw plan ((e, Accepted port unit effects) ∷ h) → IsSegment link port.line
    → IsLone plan port.line stream → OnlyDraw h link port.line j → (unit.stream ≡ stream) × (unit.draw ≡ j)
unit_here plan h e port unit effects link stream j cause segment lone only =
    let by = accepted_by plan h e port unit effects cause.0 in
    let on = on_there plan h e port unit effects by in (
      ap (λ (x : UnitName). x.stream) by.passed.named ∙ lone by.packet.prefix.stream by.passed.known,
      on_since (λ (i : ℕ). i ≡ j) plan h cause.1 link port (receiving_sub_stream port by.packet) by.packet.prefix.k
          unit.draw refl
          segment only.only on,
    )

accepted_is : (plan : Plan) (h : History) (e : Event) (port : PortName) (unit : UnitName) (effects : List Effect)
    → CauseLaw plan ((e, Accepted port unit effects) ∷ h) → (link : ℕ) (q : PortName) (stream : ℕ) (u : SubKind) (j : ℕ)
    → IsSegment link q.line → IsLone plan q.line stream → OnlyDraw h link q.line j
    → in_sub u (accepted_tlps plan h link q) ≡ hop_got plan h (lane_in q stream u) j
    → in_sub u (accepted_tlps plan ((e, Accepted port unit effects) ∷ h) link q)
    ≡ hop_got plan ((e, Accepted port unit effects) ∷ h) (lane_in q stream u) j
unfolding hop_got
accepted_is plan h e port unit effects cause link q stream u j segment lone only before =
    let t = accepted_tlps plan h link q in
    let n = tlps_of plan port unit (unit_ended plan h e port unit) in
    let g = hop_got plan h (lane_in q stream u) j in
    ap (in_sub u) (taken_accepted plan h e port unit effects cause link q)
    ∙ elim (cases_Bool (is_same_port port q)) [
      | inl here ↦
          let same = same_port port q here in
          let known = unit_here plan h e port unit effects link stream j cause
          (subst (IsSegment link) (ap (λ (p : PortName). p.line) (sym same)) segment)
          (subst (λ (l : ℕ). IsLone plan l stream) (ap (λ (p : PortName). p.line) (sym same)) lone)
          (subst (λ (l : ℕ). OnlyDraw h link l j) (ap (λ (p : PortName). p.line) (sym same)) only) in
          let streams : (unit.stream == stream) ≡ true = grind (arith, nat_tests, known.0) in
          let draws_same : (unit.draw == j) ≡ true = grind (arith, nat_tests, known.1) in
          let is : is_received_under (lane_in q stream u) j port unit ≡ is_same_sub unit.sub u =
          of_lane port q unit stream u j
          ∙ own_sub (is_same_port port q) (unit.stream == stream) (is_same_sub unit.sub u) (unit.draw == j) here streams
          draws_same in
          let new = in_own unit.sub u n (with_sub unit.sub _ (unit_ended plan h e port unit)
          (unit_sub plan h e port unit effects cause)) in
          rw (here, is) (in_sub-append u t n ∙ ((λ i. before i ++ new i) ∙ more_if (is_same_sub unit.sub u) g n))
      | inr other ↦
          let off : is_received_under (lane_in q stream u) j port unit ≡ false = of_lane port q unit stream u j
          ∙ ap (λ (b : Bool). b && (unit.stream == stream) && is_same_sub unit.sub u && (unit.draw == j)) other in
          rw (other, off) before
    ]
  where
    own_sub : (a b c d : Bool) → a ≡ true → b ≡ true → d ≡ true → (a && b && c && d) ≡ c
    own_sub a b c d one two four = grind arith

reset_is : (plan : Plan) (h : History) (k : ℕ) (ends : List PortName) (l : ℕ)
    → CauseLaw plan ((Reset k ends, v.Reset l) ∷ h) → (link : ℕ) (q : PortName) (stream : ℕ) (u : SubKind) (j : ℕ)
    → OnlyDraw ((Reset k ends, v.Reset l) ∷ h) link q.line j
    → (OnlyDraw h link q.line j → in_sub u (accepted_tlps plan h link q) ≡ hop_got plan h (lane_in q stream u) j)
    → in_sub u (accepted_tlps plan ((Reset k ends, v.Reset l) ∷ h) link q) ≡ hop_got plan h (lane_in q stream u) j
unfolding accepted_tlps_in_list mark
reset_is plan h k ends l cause link q stream u j only before = elim (cases_Bool (clears_hop ends link)) [
  | inl is ↦ let up : draws h ≤ j = rw is at only.up in rw is (sym (none_got plan h cause.1 (lane_in q stream u) j up))
  | inr stays ↦ rw stays (ap (in_sub u) (here_after plan h (Reset k ends) (v.Reset l) cause link q)
      ∙ before (only_older h (Reset k ends) (v.Reset l) link q.line j stays only))
]

pub taken_is : (plan : Plan) (h : History) → CauseLaw plan h → (link : ℕ) (q : PortName) (stream : ℕ) (u : SubKind)
    (j : ℕ) → IsSegment link q.line → IsLone plan q.line stream → OnlyDraw h link q.line j
    → in_sub u (accepted_tlps plan h link q) ≡ hop_got plan h (lane_in q stream u) j
unfolding accepted_tlps_in_list hop_got
taken_is plan [] cause link q stream u j segment lone only = refl
taken_is plan ((e, Accepted port unit effects) ∷ h) cause link q stream u j segment lone only =
    let older = only_older h e (Accepted port unit effects) link q.line j refl only in
    accepted_is plan h e port unit effects cause link q stream u j segment lone older
    (taken_is plan h cause.1 link q stream u j segment lone older)
taken_is plan ((Reset k ends, v.Reset l) ∷ h) cause link q stream u j segment lone only = reset_is plan h k ends l cause
    link q stream u j only (λ older. taken_is plan h cause.1 link q stream u j segment lone older)
taken_is plan ((e, w) ∷ h) cause link q stream u j segment lone only =
    ap (in_sub u) (here_after plan h e w cause link q)
    ∙ taken_is plan h cause.1 link q stream u j segment lone (only_older h e w link q.line j refl only)

-- ---- what was sealed since then

-- of packets that the end sealed
abbrev KnownAt : PortName → ℕ → ℕ → SealedPacket → Type 0
KnownAt p stream j d = is_same_port d.port p ≡ true → (d.stream ≡ stream) × (d.draw ≡ j)

carries_there : (p : PortName) (stream : ℕ) (u : SubKind) (j : ℕ) (d : SealedPacket) → KnownAt p stream j d
    → is_tlp_under_draw (lane_out p stream u) j d ≡ (is_tlp_of_sender p d && is_same_sub d.sub u)
carries_there p stream u j d known = by (is_same_port d.port p) refl
  where
    by : (b : Bool) → is_same_port d.port p ≡ b
        → is_tlp_under_draw (lane_out p stream u) j d ≡ (not d.sync && b && is_same_sub d.sub u)
    by true here =
        let at = known here in
        let lane = in_lane p stream d u (same_port d.port p here) at.0 in
        let draw : (d.draw == j) ≡ true = grind (arith, nat_tests, at.1) in
        rw (lane, draw) (grind arith)
    by false other = grind (arith, other)

sealed_same : (p : PortName) (stream : ℕ) (u : SubKind) (j : ℕ) (bytes : List ℕ) (ds : List SealedPacket)
    → AllByRecursion (KnownAt p stream j) ds → in_sub u (map (sealed_tlp bytes) (filter (is_tlp_of_sender p) ds))
    ≡ map (sealed_tlp bytes) (filter (is_tlp_under_draw (lane_out p stream u) j) ds)
sealed_same p stream u j bytes [] all = refl
sealed_same p stream u j bytes (d ∷ ds) all =
    let later = sealed_same p stream u j bytes ds all.1 in
    let here = carries_there p stream u j d all.0 in
    by (is_tlp_of_sender p d) (is_same_sub d.sub u) (is_tlp_under_draw (lane_out p stream u) j d) refl refl here later
  where
    one : HopTlp
    one = sealed_tlp bytes d

    by : (a b c : Bool) → is_tlp_of_sender p d ≡ a → is_same_sub d.sub u ≡ b → c ≡ (a && b)
        → in_sub u (map (sealed_tlp bytes) (filter (is_tlp_of_sender p) ds))
        ≡ map (sealed_tlp bytes) (filter (is_tlp_under_draw (lane_out p stream u) j) ds)
        → in_sub u (map (sealed_tlp bytes) (if a then d ∷ filter (is_tlp_of_sender p) ds else filter
        (is_tlp_of_sender p) ds))
        ≡ map (sealed_tlp bytes) (if c then d ∷ filter (is_tlp_under_draw (lane_out p stream u) j) ds
        else filter (is_tlp_under_draw (lane_out p stream u) j) ds)
    by true true c carries sub is later = rw (is, sub) (ap (λ (xs : List HopTlp). sealed_tlp bytes d ∷ xs) later)
    by true false c carries sub is later = rw (is, sub) later
    by false b c carries sub is later = rw is later

known_at : (plan : Plan) → DrawFacts plan → (h : History) → CauseLaw plan h → (link : ℕ) (p : PortName) (stream j : ℕ)
    → IsSegment link p.line → IsLone plan p.line stream → OnlyDraw h link p.line j → (port : PortName) (t : ℕ)
    (d : SealedPacket) → IsLive plan h port t d → KnownAt p stream j d
known_at plan facts h cause link p stream j segment lone only port t d live here =
    let same = ap (λ (q : PortName). q.line) (sym (same_port d.port p here)) in
    let on = subst (λ (q : PortName). key_in (port_keys h q (sub_stream_of d)) d.k ≡ On d.draw) (sym live.port_is)
    (live_on plan h port t d live) in
    let known = facts.known h cause d.port (sub_stream_of d) d.k d.draw on in (
      subst (λ (l : ℕ). IsLone plan l stream) same lone d.stream known,
      on_since (λ (i : ℕ). i ≡ j) plan h cause link d.port (sub_stream_of d) d.k d.draw refl
          (subst (IsSegment link) same segment)
          (subst (λ (l : ℕ). AllByRecursion (λ (i : ℕ). i ≡ j) (draws_since h link l)) same only.only) on,
    )

all_known : (plan : Plan) → DrawFacts plan → (h : History) → CauseLaw plan h → (link : ℕ) (p : PortName) (stream j : ℕ)
    → IsSegment link p.line → IsLone plan p.line stream → OnlyDraw h link p.line j → (port : PortName) (t : ℕ)
    (ds : List SealedPacket) → AllLive plan h port t ds → AllByRecursion (KnownAt p stream j) ds
all_known plan facts h cause link p stream j segment lone only port t [] all = tt
all_known plan facts h cause link p stream j segment lone only port t (d ∷ ds) all = (
  known_at plan facts h cause link p stream j segment lone only port t d all.0,
  all_known plan facts h cause link p stream j segment lone only port t ds all.1,
)

sealed_reset_is : (plan : Plan) (h : History) (k : ℕ) (ends : List PortName) (l : ℕ) → CauseLaw plan h
    → (link : ℕ) (p : PortName) (stream : ℕ) (u : SubKind) (j : ℕ)
    → OnlyDraw ((Reset k ends, v.Reset l) ∷ h) link p.line j
    → (OnlyDraw h link p.line j → in_sub u (tlps_since_reset plan h link p) ≡ hop_sent plan h (lane_out p stream u) j)
    → in_sub u (tlps_since_reset plan ((Reset k ends, v.Reset l) ∷ h) link p) ≡ hop_sent plan h (lane_out p stream u) j
unfolding tlps_since_reset mark
sealed_reset_is plan h k ends l cause link p stream u j only before = elim (cases_Bool (clears_hop ends link)) [
  | inl is ↦ let up : draws h ≤ j = rw is at only.up in rw is (sym (none_sealed plan h cause
      (lane_out p stream u) j up))
  | inr stays ↦ rw stays (before (only_older h (Reset k ends) (v.Reset l) link p.line j stays only))
]

pub sealed_is : (plan : Plan) → DrawFacts plan → (h : History) → CauseLaw plan h → (link : ℕ) (p : PortName)
    (stream : ℕ) (u : SubKind) (j : ℕ) → IsSegment link p.line → IsLone plan p.line stream → OnlyDraw h link p.line j
    → in_sub u (tlps_since_reset plan h link p) ≡ hop_sent plan h (lane_out p stream u) j
unfolding tlps_since_reset hop_sent
sealed_is plan facts [] cause link p stream u j segment lone only = refl
sealed_is plan facts ((e, Sealed ds) ∷ h) cause link p stream u j segment lone only =
    let older = only_older h e (Sealed ds) link p.line j refl only in
    let before = sealed_is plan facts h cause.1 link p stream u j segment lone older in
    let is = sealing_is plan h e ds cause.0 in
    let all = all_known plan facts h cause.1 link p stream j segment lone older is.sending.port is.sending.stream ds
    (all_live plan h (sending_port plan h e) (sent_bytes plan h e) ds is) in
    let new = sealed_same p stream u j (sent_bytes plan h e) ds all in
    in_sub-append u (tlps_since_reset plan h link p) _ ∙ (λ i. before i ++ new i)
sealed_is plan facts ((Reset k ends, v.Reset l) ∷ h) cause link p stream u j segment lone only =
    sealed_reset_is plan h k ends l cause.1 link p stream u j only
    (λ older. sealed_is plan facts h cause.1 link p stream u j segment lone older)
sealed_is plan facts ((e, w) ∷ h) cause link p stream u j segment lone only =
    sealed_is plan facts h cause.1 link p stream u j segment lone (only_older h e w link p.line j refl only)

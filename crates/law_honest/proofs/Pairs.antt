-- How an honest link stands after one more pair: one that brings no packet of the stream to the other end, one that
-- brings the next, or a refresh.
use Rattle.law_sealing.proofs.Terms.{◌≡◌, ℕ, suc, ◌≤◌, ◌∷◌, ◌++◌, ◌⊎◌, Bool, true}
use Rattle.law_sealing.proofs.Terms.{false, Option, Some, None, List, [], length, filter, take, slice_get, refl, ap}
use Rattle.law_sealing.proofs.Terms.{sym, ◌∙◌, subst, arith, inl, inr, not, nat_tests, length-append, append-nil}
use Rattle.law_sealing.proofs.Terms.{take-append-le, filter-append, if◌then◌else◌, AllByRecursion, Plan, History, Event}
use Rattle.law_sealing.proofs.Terms.{Verdict, Sealed, Accepted, PortName, SubStream, SubKind, UnitName, Effect, Packet}
use Rattle.law_sealing.proofs.Terms.{SealedPacket, lane_in, lane_out, is_same, SealedList, sub_stream_packets}
use Rattle.law_sealing.proofs.Terms.{sub_stream_of, open_unit, has_failed, received_in, CauseLaw, DrawFacts, StreamsFit}
use Rattle.law_sealing.proofs.Terms.{NotForged, IsTaken, on_draw, same_port, all_live}
use Rattle.law_sealing.proofs.Terms.{IsLive, sealing_is, sealed_same, with_sealed, packet_of, ahead_of_packet}
use Rattle.law_sealing.proofs.Terms.{sent_bytes, sending_port, port_keys, key_in, on_in, is_same-refl}
unfoldable use Rattle.law_sealing.proofs.Terms.{sealed_packets, accepted_packets, packets_in_hold, units_got}
use Rattle.std.proofs.lemmas.Option.{slice_get_within}
use Rattle.spec_keys.specs.Operations.{Up}
use Rattle.spec_keys.specs.History.{op_of, draws}
unfoldable use Rattle.spec_keys.specs.History.{failed_there, base}
use Rattle.script_events.specs.declared.event.Loss.{Loss}
use Rattle.script_events.specs.declared.event.Event.TheVariants as event
use Rattle.event_verdicts.specs.declared.verdict.Verdict.TheVariants as v
use Rattle.spec_links.specs.Plan.{partner}
use Rattle.spec_links.specs.History.{fails_at}
use Rattle.spec_links.proofs.Growth.{packets_grow}
use Rattle.law_key_facts.proofs.SealedKeys.{live_all, live_on}
use Rattle.law_key_facts.proofs.SealedOrder.{on_above}
use Rattle.law_sealing.proofs.Places.{last_place}
use Rattle.law_delivery.proofs.Orders.{is_drawn}
use Rattle.law_honest.specs.Honest.{packet_coming, is_sealed_at, LeavesStream}
use Rattle.law_honest.proofs.Kept.{op_kept, base_kept, on_where_received, in_set, received_kept, sent_before}
use Rattle.law_honest.proofs.Kept.{refreshed_up, received_still, sent_was}
use Rattle.law_honest.proofs.Clean.{AreClean, next_clean}
use Rattle.law_honest.proofs.Coming.{taken_packets, left_alone, none_fails, none_accepted}
use Rattle.law_honest.proofs.Next.{filtered_place, in_their_order}
use Rattle.law_honest.proofs.Stands.{Stands, sealed_from, IsReceived, partner_receives, lanes_meet, sealed_lane, taken}
use Rattle.law_honest.proofs.Stands.{joins, no_failure, one_more, least_later}

-- ---- what is sealed later

-- each packet of the port and stream from this place on, among those of draws from one on
abbrev Later : (SealedPacket → Type 0) → PortName → ℕ → ℕ → ℕ → SealedList → Type 0
Later R port stream from n ys = (place : ℕ) (x : SealedPacket × Packet) → n ≤ place
    → slice_get (filter (is_sealed_at port stream from) ys) place ≡ Some x → R x.0

later-snoc : (R : SealedPacket → Type 0) (port : PortName) (stream from n : ℕ) (ys : SealedList)
    (x : SealedPacket × Packet) → Later R port stream from n ys → (is_sealed_at port stream from x ≡ true → R x.0)
    → Later R port stream from n (ys ++ x ∷ [])
later-snoc R port stream from n ys x before here place y le at =
    by (is_sealed_at port stream from x) refl
    (ap (λ (zs : SealedList). slice_get zs place)
    (sym (filter-append (is_sealed_at port stream from) ys (x ∷ []))) ∙ at)
  where
    by : (b : Bool) → is_sealed_at port stream from x ≡ b
        → slice_get (filter (is_sealed_at port stream from) ys ++ (if b then x ∷ [] else [])) place ≡ Some y → R y.0
    by true passes at = elim (last_place (filter (is_sealed_at port stream from) ys) x y place at) [
      | inl p ↦ before place y le p.0
      | inr p ↦ subst (λ (z : SealedPacket × Packet). R z.0) (sym p.0) (here passes)
    ]
    by false off at = before place y le
        (ap (λ (zs : SealedList). slice_get zs place)
        (sym (append-nil (filter (is_sealed_at port stream from) ys))) ∙ at)

more_later : (R : SealedPacket → Type 0) (port : PortName) (stream from n : ℕ) (plan : Plan)
    (ahead : SealedPacket → List ℕ) (bytes : List ℕ) (ds : List SealedPacket) (ys : SealedList)
    → AllByRecursion (λ (d : SealedPacket). (p : Packet) → is_sealed_at port stream from (d, p) ≡ true → R d) ds
    → Later R port stream from n ys → Later R port stream from n (with_sealed plan ahead bytes ds ys)
more_later R port stream from n plan ahead bytes [] ys all before = before
more_later R port stream from n plan ahead bytes (d ∷ ds) ys all before =
    let p = packet_of plan (ahead d) bytes d (open_unit (sub_stream_packets ys (sub_stream_of d) d.draw)) in
    more_later R port stream from n plan ahead bytes ds (ys ++ (d, p) ∷ []) all.1
    (later-snoc R port stream from n ys (d, p) before (all.0 p))

-- what is sealed is under a draw that the other end receives
sealed_received : (plan : Plan) (h : History) (port : PortName) (stream from n : ℕ)
    → Stands plan h port stream from n → (p : PortName) (t : ℕ) (d : SealedPacket) → IsLive plan h p t d → (q : Packet)
    → is_sealed_at port stream from (d, q) ≡ true → IsReceived plan h port stream d.sub d.draw
sealed_received plan h port stream from n stands p t d live q passes =
    let port_is = same_port d.port port (grind (arith, nat_tests)) in
    let here : p ≡ port = sym live.port_is ∙ port_is in
    let lane = sealed_lane port stream from (d, q) passes in
    let on = ap on_in (live_on plan h p t d live) in
    stands.sender d.sub d.k d.draw ((λ i. on_in (key_in (port_keys h (sym here i) (sym lane i)) d.k)) ∙ on)

-- ---- a pair that is no operation on the stream

grown : (plan : Plan) (h : History) (e : Event) (w : Verdict) (port : PortName) (stream from : ℕ)
    → (rest : SealedList)
    × (sealed_from plan h port stream from ++ rest ≡ sealed_from plan ((e, w) ∷ h) port stream from)
grown plan h e w port stream from =
    let more = packets_grow plan h e w in (
      filter (is_sealed_at port stream from) more.0,
      sym (filter-append (is_sealed_at port stream from) (sealed_packets plan h) more.0)
          ∙ ap (filter (is_sealed_at port stream from)) more.1,
    )

-- an accepted unit of the sub-stream is of no greater draw
abbrev NoGreater : Verdict → PortName → ℕ → SubKind → ℕ → Type 0
NoGreater w port stream u i =
    (r : PortName) (unit : UnitName) (effects : List Effect) → w ≡ Accepted r unit effects
    → is_same (received_in r unit) (lane_out port stream u) ≡ true → unit.draw ≤ i

module _
    (plan : Plan) (h : History) (e : Event) (port : PortName) (stream from n : ℕ)
    (stands : Stands plan h port stream from n) where
  keep : (w : Verdict) → CauseLaw plan ((e, w) ∷ h) → LeavesStream e w port.line stream → (u : SubKind) (i : ℕ)
      → IsReceived plan h port stream u i
      → NoGreater w port stream u i → IsReceived plan ((e, w) ∷ h) port stream u i
  keep w cause still u i on less =
      let meet = lanes_meet port stream u in
      let q = partner port in
      let before : on_draw h q (lane_in q stream u) on.0 ≡ Some i = (λ k. on_draw h q (meet k) on.0) ∙ on.1 in
      let after = received_kept plan h e w cause q stream u still on.0 i before
      (λ r unit effects is here. less r unit effects is
      ((λ k. is_same (received_in r unit) (sym meet k)) ∙ here)) in
      (on.0, (λ k. on_draw ((e, w) ∷ h) q (sym meet k) on.0) ∙ after)

  later_after : (w : Verdict) → CauseLaw plan ((e, w) ∷ h) → LeavesStream e w port.line stream → (k : ℕ) → n ≤ k
      → ((place : ℕ) (x : SealedPacket × Packet) → k ≤ place → slice_get (sealed_from plan h port stream from) place
      ≡ Some x → NoGreater w port stream x.0.sub x.0.draw)
      → Later (λ (d : SealedPacket). IsReceived plan ((e, w) ∷ h) port stream d.sub d.draw) port stream from k
      (sealed_packets plan ((e, w) ∷ h))
  unfolding sealed_packets
  later_after (Sealed ds) cause still k le less =
      let sealing = sealing_is plan h e ds cause.0 in
      let g : History = (e, Sealed ds) ∷ h in
      more_later (λ (d : SealedPacket). IsReceived plan g port stream d.sub d.draw) port stream from k plan
      (ahead_of_packet plan (sealed_packets plan h) (base h)) (sent_bytes plan h e) ds (sealed_packets plan h)
      (live_all (λ (d : SealedPacket). (p : Packet) → is_sealed_at port stream from (d, p) ≡ true
      → IsReceived plan g port stream d.sub d.draw) plan h sealing.sending.port sealing.sending.stream ds
      (λ d live p passes. keep (Sealed ds) cause still d.sub d.draw
      (sealed_received plan h port stream from n stands sealing.sending.port sealing.sending.stream d live p passes)
      (λ r unit effects is here. absurd cc))
      (all_live plan h (sending_port plan h e) (sent_bytes plan h e) ds sealing))
      (λ place x up at. keep (Sealed ds) cause still x.0.sub x.0.draw (stands.later place x (omega (arith, le, up)) at)
      (λ r unit effects is here. absurd cc))
  later_after w cause still k le less =
      λ place x up at. keep w cause still x.0.sub x.0.draw (stands.later place x (omega (arith, le, up)) at)
      (less place x up at)

  clean_after : (w : Verdict) → CauseLaw plan ((e, w) ∷ h)
      → AreClean port stream from (sealed_packets plan ((e, w) ∷ h))
  clean_after w cause = subst (λ (k : ℕ). AreClean port stream k (sealed_packets plan ((e, w) ∷ h))) stands.base_is
      (next_clean plan h e w cause port stream stands.set stands.draw stands.up
      (subst (λ (k : ℕ). AreClean port stream k (sealed_packets plan h)) (sym stands.base_is) stands.clean))

  secure_after : (w : Verdict) → fails_at (partner port) stream w ≡ false
      → has_failed ((e, w) ∷ h) (partner port) stream ≡ false
  unfolding failed_there
  secure_after w none = let before = stands.secure in rw (none, before) refl

  -- with so many packets
  after : (w : Verdict) → CauseLaw plan ((e, w) ∷ h) → LeavesStream e w port.line stream → (k : ℕ) → n ≤ k
      → k ≤ length (sealed_from plan h port stream from) → fails_at (partner port) stream w ≡ false
      → ((u : SubKind) (i : ℕ) → from ≤ i → taken_packets plan ((e, w) ∷ h) (lane_out port stream u) i
      ≡ sub_stream_packets (take k (sealed_from plan h port stream from)) (lane_out port stream u) i)
      → ((u : SubKind) (l : Bool) (i : ℕ) → on_draw h port (lane_out port stream u) l ≡ Some i
      → NoGreater w port stream u i)
      → ((place : ℕ) (x : SealedPacket × Packet) → k ≤ place → slice_get (sealed_from plan h port stream from) place
      ≡ Some x → NoGreater w port stream x.0.sub x.0.draw)
      → Stands plan ((e, w) ∷ h) port stream from k
  after w cause still k le within none order at_sender at_later =
      let more = grown plan h e w port stream from in
      let ys = sealed_from plan h port stream from in
      record {
        base_is = base_kept plan h e w port.line stream still ∙ stands.base_is;
        set = stands.set;
        draw = stands.draw;
        up = op_kept h e w port.line stream still ∙ stands.up;
        secure = secure_after w none;
        within = rw (← more.1) (omega (arith, within, length-append ys more.0));
        order = λ u i up. order u i up ∙ ap (λ (zs : SealedList). sub_stream_packets zs (lane_out port stream u) i)
            (sym (take-append-le k ys more.0 within) ∙ ap (take k) more.1);
        clean = clean_after w cause;
        sender = λ u l i on.
            let was = sent_before plan h e w cause port (lane_out port stream u) still l i on in
            keep w cause still u i (stands.sender u l i was) (at_sender u l i was);
        later = later_after w cause still k le at_later;
      }

  pub none_comes : (w : Verdict) → CauseLaw plan ((e, w) ∷ h) → LeavesStream e w port.line stream
      → packet_coming plan h e (partner port) stream ≡ None
      → Stands plan ((e, w) ∷ h) port stream from n
  none_comes w cause still none =
      let never : (u : SubKind) (i : ℕ) → NoGreater w port stream u i = λ u i r unit effects is here.
      let off = none_accepted plan h e (partner port) stream none w cause.0 (lane_out port stream u) refl refl
      (sym (partner_receives port)) r unit effects is in
      absurd (cc (here, off)) in
      after w cause still n (omega arith) stands.within (none_fails plan h e (partner port) stream none w cause.0)
      (λ u i up. left_alone plan h e (partner port) stream none w cause.0 (lane_out port stream u) i refl refl
      (sym (partner_receives port)) ∙ stands.order u i up) (λ u l i on. never u i)
      (λ place x up at. never x.0.sub x.0.draw)

module _
    (plan : Plan) (fits : StreamsFit plan) (facts : DrawFacts plan) (h : History) (e : Event) (w : Verdict)
    (cause : CauseLaw plan ((e, w) ∷ h)) (port : PortName) (stream from n : ℕ)
    (still : LeavesStream e w port.line stream) (stands : Stands plan h port stream from n) (p : Packet)
    (coming : packet_coming plan h e (partner port) stream ≡ Some p) (x : SealedPacket × Packet)
    (next : slice_get (sealed_from plan h port stream from) n ≡ Some x) (same : x.1 ≡ p) where
  abbrev is_taken : IsTaken plan h (lane_out port stream x.0.sub) x.0.draw (partner port) p w × NotForged plan h e
  is_taken = taken plan fits facts h cause.1 port stream from n stands e p coming x next same w cause

  at : slice_get (sealed_packets plan h)
      (filtered_place (is_sealed_at port stream from) (sealed_packets plan h) n x next).place ≡ Some x
  at = (filtered_place (is_sealed_at port stream from) (sealed_packets plan h) n x next).stands

  passes : is_sealed_at port stream from x ≡ true
  passes = (filtered_place (is_sealed_at port stream from) (sealed_packets plan h) n x next).passes

  -- the sub-stream of an accepted unit is that of the packet
  of_unit : (u : SubKind) (r : PortName) (unit : UnitName) (effects : List Effect) → w ≡ Accepted r unit effects
      → is_same (received_in r unit) (lane_out port stream u) ≡ true
      → (unit.draw ≡ x.0.draw) × (is_same (sub_stream_of x.0) (lane_out port stream u) ≡ true)
  of_unit u r unit effects is here =
      let last = least_later plan fits facts h cause.1 port stream from n stands e p coming x next same w is_taken.0 r
      unit effects is in
      (last.0, (λ k. is_same ((sealed_lane port stream from x passes ∙ sym last.1) k) (lane_out port stream u)) ∙ here)

  pub one_comes : Stands plan ((e, w) ∷ h) port stream from (suc n)
  one_comes =
      let less = slice_get_within (sealed_from plan h port stream from) n x next in
      after plan h e port stream from n stands w cause still (suc n) (omega arith) (omega (arith, less))
      (no_failure plan fits facts h cause.1 port stream from n stands e p coming x next same w is_taken.0)
      (λ u i up. joins plan fits facts h cause.1 port stream from n stands e p coming x next same w is_taken.0
      (lane_out port stream u) i
      ∙ one_more plan fits facts h cause.1 port stream from n stands e p coming x next same u i up)
      (λ u l i on r unit effects is here.
      let of = of_unit u r unit effects is here in
      let most = on_above plan h cause.1 port stream u l i (is_drawn _ i on) _ x at of.1 in
      omega (arith, of.0, most))
      (λ place y up there r unit effects is here.
      let of = of_unit y.0.sub r unit effects is here in
      let ordered = in_their_order (is_sealed_at port stream from) (sealed_packets plan h) n place x y
      (omega (arith, up)) next there in
      let own = (filtered_place (is_sealed_at port stream from) (sealed_packets plan h) place y there).passes in
      let lane = (λ k. is_same (sealed_lane port stream from y own k) (lane_out port stream y.0.sub))
      ∙ is_same-refl (lane_out port stream y.0.sub) in
      let most = facts.rises h cause.1 (lane_out port stream y.0.sub) ordered.0 ordered.1 x y ordered.2 ordered.3
      ordered.4 of.1 lane in
      omega (arith, of.0, most))

-- ---- a whole refresh

this_or_other : (k set : Bool) → (k ≡ set) ⊎ (k ≡ not set)
this_or_other true true = inl refl
this_or_other true false = inr refl
this_or_other false true = inr refl
this_or_other false false = inl refl

module _
    (plan : Plan) (h : History) (port : PortName) (stream from n : ℕ) (loss : Option Loss) (l t d : ℕ)
    (cause : CauseLaw plan ((event.Refresh port.line stream loss, v.Refreshed l t d) ∷ h))
    (stands : Stands plan h port stream from n) (set : Bool) (draw : ℕ)
    (up : op_of h port.line stream ≡ Up set draw)
    (behind : (place : ℕ) (x : SealedPacket × Packet) → n ≤ place
    → slice_get (sealed_from plan h port stream from) place ≡ Some x → x.0.draw ≡ draw) where
  abbrev g : History
  g = (event.Refresh port.line stream loss, v.Refreshed l t d) ∷ h

  up_after : op_of g port.line stream ≡ Up (not set) (draws h)
  up_after = refreshed_up plan h port.line stream loss l t d cause set draw up

  xs_same : sealed_packets plan g ≡ sealed_packets plan h
  xs_same = sealed_same plan h (event.Refresh port.line stream loss) (v.Refreshed l t d) refl

  -- the new draw, and the one before, are received
  new : (u : SubKind) → IsReceived plan g port stream u (draws h)
  new u = (
    not set,
    (λ k. on_draw g (partner port) (sym (lanes_meet port stream u) k) (not set))
        ∙ on_where_received plan g cause port stream (not set) (draws h) up_after (partner port) refl u,
  )

  old : (u : SubKind) → IsReceived plan g port stream u draw
  old u = (
    set,
    (λ k. on_draw g (partner port) (sym (lanes_meet port stream u) k) set)
        ∙ received_still plan h port.line stream loss l t d cause set draw up (partner port) u draw
        (on_where_received plan h cause.1 port stream set draw up (partner port) refl u),
  )

  secure_still : has_failed g (partner port) stream ≡ false
  unfolding failed_there
  secure_still = let before = stands.secure in rw before refl

  base_still : base g port.line stream ≡ base h port.line stream
  unfolding base
  base_still = refl

  order_still : (s : SubStream) (i : ℕ) → taken_packets plan g s i ≡ taken_packets plan h s i
  unfolding accepted_packets packets_in_hold units_got
  order_still s i = refl

  pub refreshed : Stands plan g port stream from n
  refreshed = record {
    base_is = base_still ∙ stands.base_is;
    set = not set;
    draw = draws h;
    up = up_after;
    secure = secure_still;
    within = rw xs_same stands.within;
    order = λ u i le. order_still (lane_out port stream u) i ∙ rw xs_same (stands.order u i le);
    clean = rw xs_same stands.clean;
    sender = λ u k i on. elim (this_or_other k set) [
      | inl this ↦
          let was = sent_was plan h port.line stream loss l t d cause set draw up port u i
          ((λ z. on_draw g port (lane_out port stream u) (sym this z)) ∙ on) in
          let same = in_set plan h cause.1 port stream set draw up port (lane_out port stream u) refl refl i was in
          subst (IsReceived plan g port stream u) (sym same) (old u)
      | inr other ↦
          let same = in_set plan g cause port stream (not set) (draws h) up_after port (lane_out port stream u) refl
          refl i ((λ z. on_draw g port (lane_out port stream u) (sym other z)) ∙ on) in
          subst (IsReceived plan g port stream u) (sym same) (new u)
    ];
    later = λ place x le at.
        subst (IsReceived plan g port stream x.0.sub) (sym (behind place x le (rw xs_same at at))) (old x.0.sub);
  }

-- How an honest link stands after so many packets: what was taken of each sub-stream and draw is what it has of the
-- first so many that were sealed, and the draw of each later one, and each that may yet be sealed under, is On at the
-- receiver. So the next packet arrives as `whole_law_by_order` supposes, and the link stands so after it.
use Rattle.law_sealing.proofs.Terms.{◌≡◌, ◌≢◌, ℕ, suc, ◌<◌, ◌≤◌, ◌==◌, ◌&&◌, ◌∷◌, ◌++◌, Bool, true}
use Rattle.law_sealing.proofs.Terms.{false, Some, List, [], length, map, filter, take, slice_get, refl, ap, sym}
use Rattle.law_sealing.proofs.Terms.{◌∙◌, arith, inl, inr, cases_Bool, cases_lt, nat_tests}
use Rattle.law_sealing.proofs.Terms.{length-append, append-nil, if◌then◌else◌}
use Rattle.law_sealing.proofs.Terms.{leb-true, Plan, History, base, Event, Verdict, Accepted}
use Rattle.law_sealing.proofs.Terms.{PortName, SubStream, SubKind, Pr, UnitName, Effect, Packet, SealedPacket}
use Rattle.law_sealing.proofs.Terms.{lane_in, lane_out, is_same, SealedList, sealed_packets}
unfoldable use Rattle.law_sealing.proofs.Terms.{sub_stream_packets}
use Rattle.law_sealing.proofs.Terms.{sub_stream_of, is_sealed_under, open_unit, sent_packets, accepted_packets}
use Rattle.law_sealing.proofs.Terms.{pending_packets, sub_bits, has_failed, received_in, received_direction}
use Rattle.law_sealing.proofs.Terms.{next_unit_name, CauseLaw, DrawFacts, StreamsFit, NotForged, IsTaken, IsOn}
use Rattle.law_sealing.proofs.Terms.{on_draw, packet_that_came, sub_stream_packets-snoc, same_port}
use Rattle.law_sealing.proofs.Terms.{lane_is, is_same-refl, eqb-refl}
use Rattle.ide_types.specs.declared.port.Side.{Side}
use Rattle.ide_types.specs.declared.port.Side.TheVariants.{Host, Device}
use Rattle.spec_keys.specs.Places.{sent_direction}
use Rattle.spec_keys.specs.Operations.{Up}
use Rattle.spec_keys.specs.History.{op_of}
use Rattle.spec_links.specs.Plan.{partner}
use Rattle.spec_links.specs.History.{fails_at}
use Rattle.spec_links.specs.Ordered.{IsPacketAtPlace}
use Rattle.law_sealing.proofs.Sums.{next_taken, in_parts, at_taken, none_filtered, smaller_before}
use Rattle.law_delivery.proofs.GotUnits.{stands_after}
use Rattle.law_delivery.proofs.Orders.{is_drawn}
use Rattle.law_honest.specs.ByOrder.{ArrivesBehindPosted, PostedCame}
use Rattle.law_honest.specs.Honest.{packet_coming, is_sealed_at}
use Rattle.law_honest.proofs.ByOrder.{takes}
use Rattle.law_honest.proofs.Clean.{AreClean}
use Rattle.law_honest.proofs.Coming.{Comes, coming_is, taken_packets, with_packet, IsNext, held_joins, accepted_joins}
use Rattle.law_honest.proofs.Next.{FilteredPlace, filtered_place, lane_of_stream, stands_in_lane}
use Rattle.law_honest.proofs.Next.{before_in_lane, not_behind, among_before}

-- ---- ends of a line

pub partner_receives : (port : PortName) → received_direction (partner port).side ≡ sent_direction port.side
partner_receives port = by port.side
  where
    by : (side : Side) → received_direction (partner (record { side = side; line = port.line })).side
        ≡ sent_direction side
    by Host = refl
    by Device = refl

pub lanes_meet : (port : PortName) (stream : ℕ) (u : SubKind) → lane_in (partner port) stream u ≡ lane_out port stream u
lanes_meet port stream u =
    λ i. record { line = port.line; stream = stream; direction = partner_receives port i; sub = u }

-- ---- how it stands

-- what the port sealed on the stream under draws from this one on
abbrev pub sealed_from : Plan → History → PortName → ℕ → ℕ → SealedList
sealed_from plan h port stream from = filter (is_sealed_at port stream from) (sealed_packets plan h)

-- the draw is On where the other end receives the sub-stream
abbrev pub IsReceived : Plan → History → PortName → ℕ → SubKind → ℕ → Type 0
IsReceived plan h port stream u i = IsOn plan h (partner port) (lane_out port stream u) i

pub record Stands (plan : Plan) (h : History) (port : PortName) (stream from n : ℕ) : Type 0 where
  pub base_is : base h port.line stream ≡ from
  pub set : Bool
  pub draw : ℕ
  pub up : op_of h port.line stream ≡ Up set draw
  pub secure : has_failed h (partner port) stream ≡ false
  pub within : n ≤ length (sealed_from plan h port stream from)
  pub order : (u : SubKind) (i : ℕ) → from ≤ i → taken_packets plan h (lane_out port stream u) i
      ≡ sub_stream_packets (take n (sealed_from plan h port stream from)) (lane_out port stream u) i
  pub clean : AreClean port stream from (sealed_packets plan h)
  pub sender : (u : SubKind) (k : Bool) (i : ℕ) → on_draw h port (lane_out port stream u) k ≡ Some i
      → IsReceived plan h port stream u i
  pub later : (place : ℕ) (x : SealedPacket × Packet) → n ≤ place
      → slice_get (sealed_from plan h port stream from) place ≡ Some x → IsReceived plan h port stream x.0.sub x.0.draw

-- its sub-stream
pub sealed_lane : (port : PortName) (stream from : ℕ) (x : SealedPacket × Packet)
    → is_sealed_at port stream from x ≡ true → sub_stream_of x.0 ≡ lane_out port stream x.0.sub
sealed_lane port stream from x passes =
    let port_is = same_port x.0.port port (grind (arith, nat_tests)) in
    let stream_is : x.0.stream ≡ stream = grind (arith, nat_tests) in
    lane_is port stream x.0 port_is stream_is

-- ---- the next packet

no_more : (ps qs : List Packet) → ps ++ qs ≡ [] → qs ≡ []
no_more [] qs is = is
no_more (p ∷ ps) qs is = absurd cc

module _
    (plan : Plan) (fits : StreamsFit plan) (facts : DrawFacts plan) (h : History) (cause : CauseLaw plan h)
    (port : PortName) (stream from n : ℕ) (stands : Stands plan h port stream from n) (e : Event) (p : Packet)
    (coming : packet_coming plan h e (partner port) stream ≡ Some p) (x : SealedPacket × Packet)
    (next : slice_get (sealed_from plan h port stream from) n ≡ Some x) (same : x.1 ≡ p) where
  abbrev xs : SealedList
  xs = sealed_packets plan h

  abbrev lane : SubKind → SubStream
  lane u = lane_out port stream u

  abbrev s : SubStream
  s = lane x.0.sub

  abbrev j : ℕ
  j = x.0.draw

  abbrev found : FilteredPlace (is_sealed_at port stream from) xs n x
  found = filtered_place (is_sealed_at port stream from) xs n x next

  pub comes : Comes plan h e (partner port) stream p
  comes = coming_is plan h e (partner port) stream p coming

  pub of_lane : sub_stream_of x.0 ≡ s
  of_lane = sealed_lane port stream from x found.passes

  above : from ≤ j
  above = grind (arith, nat_tests, found.passes)

  under : is_sealed_under s j x ≡ true
  under = (λ i. is_same (of_lane i) s && (j == j)) ∙ rw (is_same-refl s, eqb-refl j) refl

  -- what was taken of each sub-stream is what was sealed of it before the packet
  before_is : (u : SubKind) (i : ℕ) → from ≤ i
      → taken_packets plan h (lane u) i ≡ sub_stream_packets (take found.place xs) (lane u) i
  before_is u i le = stands.order u i le ∙ (ap (λ (ys : SealedList). sub_stream_packets ys (lane u) i)
      (sym found.before) ∙ lane_of_stream port stream from i u (take found.place xs) le)

  abbrev m : ℕ
  m = length (sub_stream_packets (take found.place xs) s j)

  live : IsOn plan h (partner port) s j
  live = stands.later n x (omega arith) next

  -- of smaller draws all was accepted, and of greater ones nothing came
  all_taken : (i : ℕ) → from ≤ i → i < j → taken_packets plan h s i ≡ sent_packets plan h s i
  all_taken i le less = before_is x.0.sub i le
      ∙ smaller_before xs s found.place j i x (facts.rises h cause) found.stands under less

  none_open : (i : ℕ) → from ≤ i → i < j → open_unit (sent_packets plan h s i) ≡ []
  none_open i le less =
      let meet = lanes_meet port stream x.0.sub in
      let on : on_draw h (partner port) (lane_in (partner port) stream x.0.sub) live.0 ≡ Some j =
      (λ k. on_draw h (partner port) (meet k) live.0) ∙ live.1 in
      let here : is_sealed_under (lane_in (partner port) stream x.0.sub) j x ≡ true =
      (λ k. is_sealed_under (meet k) j x) ∙ under in
      let least = stands.base_is in
      (λ k. open_unit (sent_packets plan h (sym meet k) i))
      ∙ facts.ended h cause (partner port) stream x.0.sub live.0 j i found.place x (is_drawn _ j on) found.stands here
      (omega (arith, least, le)) less

  none_left : (i : ℕ) → from ≤ i → i < j → pending_packets plan h s i ≡ []
  none_left i le less =
      let after = stands_after plan h cause s i in
      sym after.unfinished ∙ (ap open_unit (all_taken i le less) ∙ none_open i le less)

  all_accepted : (i : ℕ) → from ≤ i → i < j → accepted_packets plan h s i ≡ sent_packets plan h s i
  all_accepted i le less = sym (append-nil (accepted_packets plan h s i))
      ∙ ((λ k. accepted_packets plan h s i ++ sym (none_left i le less) k) ∙ all_taken i le less)

  none_greater : (i : ℕ) → j < i → pending_packets plan h s i ≡ []
  unfolding sub_stream_packets
  none_greater i more = no_more (accepted_packets plan h s i) (pending_packets plan h s i)
      (before_is x.0.sub i (omega (arith, above, more))
      ∙ ap (map (λ (y : SealedPacket × Packet). y.1))
      (none_filtered (is_sealed_under s i) (take found.place xs) (λ k y at is.
      let there = at_taken xs found.place k y at in
      let here = in_parts s j x under in
      let of = in_parts s i y is in
      let most = facts.rises h cause s k found.place y x (omega (arith, there.0)) there.1 found.stands of.0 here.0 in
      absurd (omega (arith, most, of.1, more)))))

  alone : (i : ℕ) → IsOn plan h (partner port) s i → i ≢ j → pending_packets plan h s i ≡ []
  alone i on differ =
      let least = leb-true _ _ (facts.from_base h cause (partner port) s on.0 i (is_drawn _ i on.1)) in
      let base_is = stands.base_is in
      elim (cases_lt i j) [
        | inl less ↦ none_left i (omega (arith, least, base_is)) less
        | inr le ↦ none_greater i (omega (arith, le, differ))
      ]

  -- no posted unit is open before a request or a completion
  none_pending : sub_bits s.sub ≢ 0 → (i : ℕ) → from ≤ i → pending_packets plan h (lane Pr) i ≡ []
  none_pending other i le =
      let none = stands.clean found.place x found.stands found.passes other i le in
      let after = stands_after plan h cause (lane Pr) i in
      sym after.unfinished ∙ (ap open_unit (before_is Pr i le) ∙ none)

  came : sub_bits s.sub ≢ 0 → (place : ℕ) → IsPacketAtPlace xs s j m place → PostedCame plan h s place
  came other place at i k earlier least less is =
      let base_is = stands.base_is in
      let le : from ≤ i = omega (arith, least, base_is) in
      let not_behind = not_behind xs s j found.place x found.stands under place at in
      let among = among_before xs (lane Pr) i k earlier found.place is (omega (arith, less, not_behind)) in
      let all = ap length (before_is Pr i le) in
      let joined = length-append (accepted_packets plan h (lane Pr) i) (pending_packets plan h (lane Pr) i) in
      let none = ap length (none_pending other i le) in
      omega (arith, among, all, joined, none)

  from_least : (i : ℕ) → base h s.line s.stream ≤ i → from ≤ i
  from_least i le = let base_is = stands.base_is in omega (arith, base_is, le)

  pub arrives : ArrivesBehindPosted plan h e s j m (partner port) p
  arrives = record {
    receiver = (refl, partner_receives port);
    sealed = stands_in_lane xs s j found.place x found.stands under ∙ ap (λ (q : Packet). Some q) same;
    unchanged = comes.unchanged;
    in_order = before_is x.0.sub j above ∙ sym (before_in_lane xs s j found.place x found.stands under);
    live = live;
    alone = alone;
    secure = stands.secure;
    posted = λ last other place at. came other place at;
    smaller = λ last other i least less. (pending_packets plan h s i, all_taken i (from_least i least) less);
    older = λ last first closed i least less. all_accepted i (from_least i least) less;
  }

  -- ---- after it

  pub taken : (w : Verdict) → CauseLaw plan ((e, w) ∷ h) → IsTaken plan h s j (partner port) p w × NotForged plan h e
  taken w law = takes plan fits facts h e w law s j m (partner port) p arrives

  is_next : IsNext plan h e (partner port) (next_unit_name h s j) s j p
  is_next = record {
    here = lanes_meet port stream x.0.sub;
    draw = refl;
    number = refl;
    packet = packet_that_came plan h e (partner port) p comes.came;
  }

  pub joins : (w : Verdict) → IsTaken plan h s j (partner port) p w → (t : SubStream) (i : ℕ)
      → taken_packets plan ((e, w) ∷ h) t i ≡ with_packet plan h s j p t i
  joins w is t i = elim (cases_Bool p.prefix.m) [
    | inl last ↦
        rw (is.1 last) (accepted_joins plan h cause e (partner port) (next_unit_name h s j) _ s j p is_next t i)
    | inr more ↦ rw (is.0 more) (held_joins plan h e (partner port) (next_unit_name h s j) s j p is_next t i)
  ]

  pub no_failure : (w : Verdict) → IsTaken plan h s j (partner port) p w → fails_at (partner port) stream w ≡ false
  no_failure w is = elim (cases_Bool p.prefix.m)
      [ inl last ↦ rw (is.1 last) refl | inr more ↦ rw (is.0 more) refl ]

  -- with it there is one more of those that were sealed
  pub one_more : (u : SubKind) (i : ℕ) → from ≤ i → with_packet plan h s j p (lane u) i
      ≡ sub_stream_packets (take (suc n) (sealed_from plan h port stream from)) (lane u) i
  one_more u i le =
      let ys = sealed_from plan h port stream from in
      let all = ap (λ (zs : SealedList). sub_stream_packets zs (lane u) i) (next_taken ys n x next)
      ∙ sub_stream_packets-snoc (take n ys) x (lane u) i in
      let test : is_sealed_under (lane u) i x ≡ (is_same s (lane u) && (j == i)) =
      λ k. is_same (of_lane k) (lane u) && (j == i) in
      (λ k. if is_same s (lane u) && (j == i) then stands.order u i le k ++ sym same k ∷ [] else stands.order u i le k)
      ∙ sym (all ∙ ap (λ (b : Bool). if b then sub_stream_packets (take n ys) (lane u) i ++ x.1 ∷ []
      else sub_stream_packets (take n ys) (lane u) i) test)

  -- a unit that it ends is of no greater draw than what comes later, or may yet be sealed
  pub least_later : (w : Verdict) → IsTaken plan h s j (partner port) p w → (r : PortName) (unit : UnitName)
      (effects : List Effect) → w ≡ Accepted r unit effects → (unit.draw ≡ j) × (received_in r unit ≡ s)
  least_later w is r unit effects this = elim (cases_Bool p.prefix.m) [
    | inl last ↦
        let both = sym (is.1 last) ∙ this in
        let port_is = accepted_port (partner port) r (next_unit_name h s j) unit _ effects both in
        let unit_is = accepted_unit (partner port) r (next_unit_name h s j) unit _ effects both in (
          ap (λ (z : UnitName). z.draw) (sym unit_is),
          (λ k. received_in (sym port_is k) (sym unit_is k)) ∙ lanes_meet port stream x.0.sub,
        )
    | inr more ↦ absurd (let both = sym (is.0 more) ∙ this in cc)
  ]
    where
      accepted_port : (q r : PortName) (a b : UnitName) (es fs : List Effect)
          → Accepted q a es ≡ Accepted r b fs → q ≡ r
      accepted_port q r a b es fs is = cc

      accepted_unit : (q r : PortName) (a b : UnitName) (es fs : List Effect)
          → Accepted q a es ≡ Accepted r b fs → a ≡ b
      accepted_unit q r a b es fs is = cc

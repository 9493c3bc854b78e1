-- At a unit that is accepted: what was posted before one of its TLPs was accepted before.
use Rattle.law_sealing.proofs.Terms.{◌≡◌, ◌≢◌, ℕ, ◌<◌, ◌≤◌, true, false, List, ◌∷◌}
use Rattle.law_sealing.proofs.Terms.{◌++◌, length, refl, ap, sym, subst, ◌∙◌, arith, nat_tests, inl, inr}
use Rattle.law_sealing.proofs.Terms.{AllByRecursion, length-append, cases_lt}
use Rattle.law_sealing.proofs.Terms.{Plan, History, base, Event, Accepted, PortName, UnitName, Effect}
use Rattle.law_sealing.proofs.Terms.{SubKind, SubStream, Packet, is_sync_packet, CauseLaw}
use Rattle.law_sealing.proofs.Terms.{TotalsFit, IsPrefixOf, lane_in, lane_out}
unfoldable use Rattle.law_sealing.proofs.Terms.{sealed_packets}
use Rattle.law_sealing.proofs.Terms.{SealedList, append_assoc, sub_stream_packets, sub_bits, Pr, received_in}
use Rattle.law_sealing.proofs.Terms.{accepted_packets}
use Rattle.law_sealing.proofs.Terms.{posted_lane, accepted_by, receiving_sub_stream, sent_packets}
use Rattle.law_sealing.proofs.OfPlans.{streams_fit}
use Rattle.law_key_facts.proofs.Draws.{draws as draw_facts}
use Rattle.law_delivery.specs.NoForgeryUnder.{NoForgeryUnder}
use Rattle.law_delivery.specs.LocalLaws.{IsUnforgedFromBase, IsPostedUnforged}
use Rattle.law_delivery.proofs.Prefixes.{got_begins}
use Rattle.law_delivery.proofs.Ordering.{order_law}
use Rattle.law_delivery.proofs.Orders.{on_there, from_base}
use Rattle.ide_types.specs.Sub.{is_same_sub}
use Rattle.ide_types.specs.Fits.{FitsPlan}
use Rattle.spec_links.specs.Ordered.{IsPacketAtPlace, NoneMissing}
use Rattle.spec_links.proofs.Terms.{partner}
use Rattle.spec_links.specs.Hops.{HopTlp}
use Rattle.spec_links.specs.HopLaws.{in_sub, tlps_since_reset}
use Rattle.spec_links.specs.Memory.{accepted_tlps}
use Rattle.law_hops.proofs.Since.{IsSegment, on_since}
use Rattle.law_hops.proofs.Since.{mark}
use Rattle.law_hops.proofs.Carried.{flags}
use Rattle.law_hops.proofs.Crossing.{IsLone, OnlyDraw, only_older, mark_older}
use Rattle.law_crossings.proofs.Split.{number_cut, all_front}
use Rattle.law_crossings.proofs.HopPlaces.{IsKnown, all_known, subs, here_is}
use Rattle.law_crossings.proofs.HopBehind.{more_flags, fewer_flags, stands_behind, middle_all, here_parts}
use Rattle.law_crossings.proofs.HopBehind.{under_here, at_place, split_packets, got_count, ahead_count, subs-append}
use Rattle.law_hops.proofs.Crosses.{lane_of_partner}
use Rattle.law_crossings.proofs.Unforged.{IsUnforged}

same_kind : (u w : SubKind) → u ≡ w → is_same_sub u w ≡ true
same_kind u w same = rw same (grind (arith, nat_tests))

-- The segment has one draw since the reset of its link. The order law says it by packets and places of all that were
-- sealed; here it is said by TLPs.
module _
    (plan : Plan) (fits : FitsPlan plan) (h : History) (e : Event) (port : PortName) (unit : UnitName)
    (effects : List Effect) (cause : CauseLaw plan ((e, Accepted port unit effects) ∷ h))
    (totals : TotalsFit plan ((e, Accepted port unit effects) ∷ h)) (link stream j : ℕ)
    (segment : IsSegment link port.line) (lone : IsLone plan port.line stream)
    (only : OnlyDraw ((e, Accepted port unit effects) ∷ h) link port.line j)
    (own : IsUnforged plan ((e, Accepted port unit effects) ∷ h) link port stream unit.sub)
    (own_posted : IsUnforged plan ((e, Accepted port unit effects) ∷ h) link port stream Pr)
    (low : mark h link ≤ base h port.line unit.stream) where
  abbrev g : History
  g = (e, Accepted port unit effects) ∷ h

  abbrev p : PortName
  p = partner port

  abbrev xs : SealedList
  xs = sealed_packets plan h

  abbrev s : SubStream
  s = lane_out p stream unit.sub

  abbrev posted : SubStream
  posted = lane_out p stream Pr

  older : OnlyDraw h link port.line j
  older = only_older h e (Accepted port unit effects) link port.line j refl only

  stream_is : unit.stream ≡ stream
  stream_is =
      let by = accepted_by plan h e port unit effects cause.0 in
      ap (λ (x : UnitName). x.stream) by.passed.named ∙ lone by.packet.prefix.stream by.passed.known

  draw_is : unit.draw ≡ j
  draw_is =
      let by = accepted_by plan h e port unit effects cause.0 in
      let on = on_there plan h e port unit effects by in
      on_since (λ (i : ℕ). i ≡ j) plan h cause.1 link port (receiving_sub_stream port by.packet) by.packet.prefix.k
      unit.draw refl segment older.only on

  -- no tag was forged of it, and of the posted one, from Base on
  unforged : IsUnforgedFromBase plan h e (Accepted port unit effects)
      × IsPostedUnforged plan h e (Accepted port unit effects)
  unforged =
      let same : mark g link ≡ mark h link = mark_older h e (Accepted port unit effects) link refl in (
        λ i least. subst (λ (t : ℕ). NoForgeryUnder plan g (lane_in port t unit.sub) i) (sym stream_is)
            (own i (omega (arith, least, low, same))),
        λ i least. subst (λ (t : ℕ). NoForgeryUnder plan g (lane_in port t Pr) i) (sym stream_is)
            (own_posted i (omega (arith, least, low, same))),
      )

  lane_is : received_in port unit ≡ s
  lane_is = (λ i. lane_in port (stream_is i) unit.sub) ∙ lane_of_partner port stream unit.sub

  pub behind_at : (ahead later : List HopTlp) (y : HopTlp) → NoneMissing plan h (received_in port unit) unit.draw
      → tlps_since_reset plan h link p ≡ ahead ++ y ∷ later → y.sub ≡ unit.sub → sub_bits unit.sub ≢ 0
      → length (in_sub unit.sub ahead) < length (in_sub unit.sub (accepted_tlps plan g link port))
      → length (in_sub Pr ahead) ≤ length (in_sub Pr (accepted_tlps plan h link port))
  unfolding sealed_packets
  behind_at ahead later y none is sub other less = elim
      (cases_lt (length (in_sub Pr (accepted_tlps plan h link port))) (length (in_sub Pr ahead))) [
        | inr most ↦ most
        | inl more ↦ absurd
            (let facts = draw_facts plan in
            let lone_p : IsLone plan p.line stream = lone in
            let known = all_known plan facts h cause.1 p stream lone_p in
            let all = here_is plan h cause.1 link p j segment older in
            let at = stands_behind p j xs (subs ahead) (subs later) y.sub
            (sym all ∙ (ap subs is ∙ subs-append ahead (y ∷ later))) in
            let cut = number_cut (λ (x : HopTlp). is_same_sub x.sub Pr) ahead
            (length (in_sub Pr (accepted_tlps plan h link port))) more in
            let there = stands_behind p j at.before (subs cut.ahead) (subs cut.later) cut.element.sub
            (at.ahead_is ∙ (ap subs cut.is ∙ subs-append cut.ahead (cut.element ∷ cut.later))) in
            let known_at = subst (λ (ys : SealedList). AllByRecursion (IsKnown p stream) ys) at.is known in
            let known_before = all_front (IsKnown p stream) at.before (at.element ∷ at.later) known_at in
            let known_there = subst (λ (ys : SealedList). AllByRecursion (IsKnown p stream) ys) there.is known_before in
            let known_first = all_front (IsKnown p stream) there.before (there.element ∷ there.later) known_there in
            let one = middle_all (IsKnown p stream) at.before at.element at.later known_at in
            let two = middle_all (IsKnown p stream) there.before there.element there.later known_there in
            let under = under_here p stream unit.sub j at.element one at.here
            (same_kind at.element.0.sub unit.sub (at.sub_is ∙ sub)) in
            let under_posted = under_here p stream Pr j there.element two there.here
            (ap (λ (w : SubKind). is_same_sub w Pr) there.sub_is ∙ cut.passes) in
            let whole : xs ≡ there.before ++ there.element ∷ (there.later ++ at.element ∷ at.later) = at.is
            ∙ ((λ i. there.is i ++ at.element ∷ at.later)
            ∙ append_assoc there.before (there.element ∷ there.later) (at.element ∷ at.later)) in
            let place = at_place p stream unit.sub j xs at.before at.element at.later at.is under in
            let place_posted = at_place p stream Pr j xs there.before there.element
            (there.later ++ at.element ∷ at.later) whole under_posted in
            let packets = split_packets s j xs at.before at.element at.later at.is under in
            let packets_posted = split_packets posted j xs there.before there.element
            (there.later ++ at.element ∷ at.later) whole under_posted in
            let count = ahead_count p stream unit.sub j at.before ahead known_before at.ahead_is in
            let count_posted = ahead_count p stream Pr j there.before cut.ahead known_first there.ahead_is in
            let got = got_count plan g cause link port stream unit.sub j segment lone only
            ∙ ap (λ (t : SubStream). length (flags (accepted_packets plan g t j)))
            (lane_of_partner port stream unit.sub)
            in
            let got_posted = got_count plan h cause.1 link port stream Pr j segment lone older
            ∙ ap (λ (t : SubStream). length (flags (accepted_packets plan h t j))) (lane_of_partner port stream Pr) in
            let begins : IsPrefixOf (accepted_packets plan g s j) (sent_packets plan h s j)
            = got_begins plan (streams_fit plan fits) facts g cause s j
            (subst (λ (t : SubStream). NoForgeryUnder plan g t j) (lane_of_partner port stream unit.sub)
            (own j only.up)) in
            let within = fewer_flags (accepted_packets plan g s j) (sub_stream_packets at.before s j) _
            (subst (λ (ps : List Packet). IsPrefixOf (accepted_packets plan g s j) ps) packets begins)
            (omega (arith, less, count, got)) in
            let law = (order_law plan (streams_fit plan fits) facts g cause totals).0 unforged in
            let accepted = law (length (sub_stream_packets at.before s j)) (length at.before) other (λ closed. none)
            (subst (λ (t : SubStream). length (sub_stream_packets at.before s j)
            < length (accepted_packets plan g t unit.draw)) (sym lane_is)
            (subst (λ (i : ℕ). length (sub_stream_packets at.before s j) < length (accepted_packets plan g s i))
            (sym draw_is) within))
            (subst (λ (t : SubStream). IsPacketAtPlace xs t unit.draw (length (sub_stream_packets at.before s j))
            (length at.before)) (sym lane_is)
            (subst (λ (i : ℕ). IsPacketAtPlace xs s i (length (sub_stream_packets at.before s j)) (length at.before))
            (sym draw_is) place))
            j (length (sub_stream_packets there.before posted j)) (length there.before)
            (subst (λ (i : ℕ). base h port.line unit.stream ≤ i) draw_is
            (from_base plan facts h e port unit effects cause))
            (let size = ap length there.is ∙ length-append there.before (there.element ∷ there.later) in
            omega (arith, size))
            (subst (λ (t : SubStream). IsPacketAtPlace xs (posted_lane t) j
            (length (sub_stream_packets there.before posted j)) (length there.before)) (sym lane_is) place_posted) in
            let accepted_posted : length (sub_stream_packets there.before posted j)
            < length (accepted_packets plan h posted j)
            = subst (λ (t : SubStream). length (sub_stream_packets there.before posted j)
            < length (accepted_packets plan h (posted_lane t) j)) lane_is accepted in
            let begins_posted = got_begins plan (streams_fit plan fits) facts h cause.1 posted j
            (subst (λ (t : SubStream). NoForgeryUnder plan h t j) (lane_of_partner port stream Pr)
            (own_posted j only.up).1) in
            let carries : is_sync_packet there.element.1 ≡ false = two.sync
            ∙ (here_parts p j there.element there.here).0 in
            let few = more_flags (accepted_packets plan h posted j) (sub_stream_packets there.before posted j)
            there.element.1 _
            (subst (λ (ps : List Packet). IsPrefixOf (accepted_packets plan h posted j) ps) packets_posted
            begins_posted)
            accepted_posted carries in
            let number = cut.number in
            omega (arith, few, count_posted, got_posted, number))
      ]

-- On an honest link all that comes is taken, and once all came all was delivered. By induction on the pairs since the
-- stream was established: after each the link stands as Stands says.
use Rattle.law_sealing.proofs.Terms.{◌≡◌, ℕ, zero, suc, ◌∷◌, ◌++◌, Bool, true, false, Option, Some, None, List, []}
use Rattle.law_sealing.proofs.Terms.{length, filter, take, slice_get, refl, ap, sym, ◌∙◌, subst, arith, append-nil}
use Rattle.law_sealing.proofs.Terms.{if◌then◌else◌, add-one, Plan, History, base, Event, Verdict, PortName}
use Rattle.law_sealing.proofs.Terms.{SubKind, Packet, SealedPacket, lane_out, SealedList, sealed_packets, open_unit}
use Rattle.law_sealing.proofs.Terms.{accepted_packets, pending_packets, sent_packets, CauseLaw, DrawFacts, StreamsFit}
use Rattle.law_sealing.proofs.Terms.{IsTaken, NotForged, has_failed}
unfoldable use Rattle.law_sealing.proofs.Terms.{sub_stream_packets}
use Rattle.std.proofs.Math.Seq.{take-length}
use Rattle.std.specs.Prelude.{option_map}
use Rattle.spec_links.specs.Plan.{partner}
use Rattle.law_sealing.proofs.{draws}
use Rattle.law_sealing.proofs.OfPlans.{streams_fit}
use Rattle.law_delivery.proofs.Deliveries.{whole_delivered}
use Rattle.law_delivery.proofs.GotUnits.{stands_after}
use Rattle.spec_links.specs.Delivered.{tlps_got, tlps_sent}
unfoldable use Rattle.law_honest.specs.Honest.{came_since}
unfoldable use Rattle.law_honest.specs.Honest.{packet_coming}
use Rattle.law_honest.specs.Honest.{IsFresh, IsHonest, AllTaken, AllCame, AllDelivered, RefreshesBehind, sealed_at}
use Rattle.law_honest.specs.Honest.{is_sealed_at, LeavesStream}
use Rattle.law_honest.specs.Statements.{HonestLawHolds, HonestDeliveryHolds}
use Rattle.law_honest.proofs.Kept.{most, on_where_received}
use Rattle.law_honest.proofs.Next.{lane_of_stream, filtered_place}
use Rattle.law_honest.proofs.Stands.{Stands, sealed_from, sealed_lane, lanes_meet, taken}
use Rattle.law_honest.proofs.Pairs.{none_comes, one_comes, refreshed}
use Rattle.law_sealing.proofs.Terms.{◌≤◌, ◌⊎◌, inl, inr, leb-true, SubStream, sub_stream_of, on_draw}
unfoldable use Rattle.law_sealing.proofs.Terms.{arrival_of_event}
use Rattle.law_delivery.proofs.Orders.{is_drawn}
use Rattle.script_events.specs.declared.event.Loss.{Loss}
use Rattle.law_sealing.proofs.Numbers.{same_sealed}
use Rattle.script_events.specs.declared.event.Event.TheVariants as event
use Rattle.event_verdicts.specs.declared.verdict.Verdict.TheVariants as v

-- ---- at first

none_passes : {A : Type 0} (q : A → Bool) (xs : List A) (i : ℕ) (x : A) → filter q xs ≡ [] → slice_get xs i ≡ Some x
    → q x ≡ true → ⊥
none_passes q [] i x none is passes = absurd cc
none_passes {A} q (y ∷ xs) zero x none is passes =
    let same : y ≡ x = cc in
    let here = ap q same ∙ passes in
    let some : y ∷ filter q xs ≡ [] = rw here at none in
    absurd cc
none_passes {A} q (y ∷ xs) (suc i) x none is passes = none_passes q xs i x (by (q y) none) is passes
  where
    by : (b : Bool) → (if b then y ∷ filter q xs else filter q xs) ≡ [] → filter q xs ≡ []
    by true none = absurd cc
    by false none = none

none_there : {A : Type 0} (xs : List A) (i : ℕ) (x : A) → xs ≡ [] → slice_get xs i ≡ Some x → ⊥
none_there [] i x none is = absurd cc
none_there (y ∷ xs) i x none is = absurd cc

first_stands : (plan : Plan) → DrawFacts plan → (h : History) → CauseLaw plan h → (port : PortName) (stream : ℕ)
    → IsFresh plan h port stream → Stands plan h port stream (base h port.line stream) 0
unfolding sub_stream_packets
first_stands plan facts h cause port stream fresh = record {
  base_is = refl;
  set = fresh.set;
  draw = base h port.line stream;
  up = fresh.up;
  secure = fresh.secure;
  within = omega arith;
  order = λ u i le. (λ z. fresh.none_accepted u i le z ++ fresh.none_held u i le z);
  clean = λ i x is passes. absurd (none_passes _ (sealed_packets plan h) i x fresh.none_sealed is passes);
  sender = λ u k i on.
      let s = lane_out port stream u in
      let le = most plan h cause port stream fresh.set (base h port.line stream) fresh.up port s refl refl k i on in
      let least = leb-true _ _ (facts.from_base h cause port s k i (is_drawn _ i on)) in
      let draw : i ≡ base h port.line stream = omega (arith, le, least) in (
        fresh.set,
        (λ z. on_draw h (partner port) (sym (lanes_meet port stream u) z) fresh.set)
            ∙ (on_where_received plan h cause port stream fresh.set (base h port.line stream) fresh.up (partner port)
            refl u
            ∙ ap (λ (k : ℕ). Some k) (sym draw)),
      );
  later = λ place x le at. absurd (none_there (sealed_at plan h port stream) place x fresh.none_sealed at);
}

-- ---- the pairs after it

-- the next of what was sealed
record NextIs (xs : SealedList) (n : ℕ) (p : Packet) : Type 0 where
  sealed : SealedPacket × Packet
  stands : slice_get xs n ≡ Some sealed
  packet : sealed.1 ≡ p

next_is : (xs : SealedList) (n : ℕ) (p : Packet)
    → option_map (λ (x : SealedPacket × Packet). x.1) (slice_get xs n) ≡ Some p → NextIs xs n p
next_is xs n p is = by (slice_get xs n) refl is
  where
    by : (o : Option (SealedPacket × Packet)) → slice_get xs n ≡ o
        → option_map (λ (x : SealedPacket × Packet). x.1) o ≡ Some p → NextIs xs n p
    by None at is = absurd cc
    by (Some x) at is = record { sealed = x; stands = at; packet = cc }

record Walked (plan : Plan) (first since : History) (port : PortName) (stream : ℕ) : Type 0 where
  taken : AllTaken plan first since port stream
  stands : Stands plan (since ++ first) port stream (base first port.line stream)
      (came_since plan first since (partner port) stream)

-- a refresh brings nothing
refresh_brings : (plan : Plan) (h : History) (e : Event) (line stream : ℕ) (loss : Option Loss)
    → e ≡ event.Refresh line stream loss → (port : PortName) (id : ℕ) → packet_coming plan h e port id ≡ None
unfolding packet_coming arrival_of_event
refresh_brings plan h e line stream loss asked port id = rw asked refl

module _
    (plan : Plan) (fits : StreamsFit plan) (facts : DrawFacts plan) (first : History) (port : PortName) (stream : ℕ)
    (fresh : IsFresh plan first port stream) where
  -- a whole refresh
  refreshes : (h : History) (e : Event) (w : Verdict) (n : ℕ) → CauseLaw plan ((e, w) ∷ h)
      → Stands plan h port stream (base first port.line stream) n → RefreshesBehind plan h e w port stream n
      → Stands plan ((e, w) ∷ h) port stream (base first port.line stream) n
  refreshes h e w n cause stands is =
      let from = base first port.line stream in
      let pair : (e, w) ≡ (event.Refresh port.line stream is.loss, v.Refreshed is.line is.id is.new_draw) =
      λ i. (is.asked i, is.done i) in
      let behind = subst (λ (k : ℕ). (place : ℕ) (x : SealedPacket × Packet) → n ≤ place
      → slice_get (sealed_from plan h port stream k) place ≡ Some x → x.0.draw ≡ is.draw) stands.base_is is.behind in
      subst (λ (z : Event × Verdict). Stands plan (z ∷ h) port stream from n) (sym pair)
      (refreshed plan h port stream from n is.loss is.line is.id is.new_draw
      (subst (λ (z : Event × Verdict). CauseLaw plan (z ∷ h)) pair cause) stands is.set is.draw is.up behind)

  one_pair : (since : History) (e : Event) (w : Verdict) → CauseLaw plan ((e, w) ∷ (since ++ first))
      → IsHonest plan first ((e, w) ∷ since) port stream → Walked plan first since port stream
      → Walked plan first ((e, w) ∷ since) port stream
  unfolding came_since
  one_pair since e w cause honest before =
      by honest.0 (packet_coming plan (since ++ first) e (partner port) stream) refl
    where
      by : LeavesStream e w port.line stream ⊎ RefreshesBehind plan (since ++ first) e w port stream
          (came_since plan first since (partner port) stream) → (o : Option Packet)
          → packet_coming plan (since ++ first) e (partner port) stream ≡ o
          → Walked plan first ((e, w) ∷ since) port stream
      by (inr is) o at =
          let none = refresh_brings plan (since ++ first) e port.line stream is.loss is.asked (partner port) stream in
          record {
            taken = (λ p x coming there. absurd (cc (none, coming)), before.taken);
            stands = rw none (refreshes (since ++ first) e w _ cause before.stands is);
          }
      by (inl still) None none = record {
        taken = (λ p x coming there. absurd (cc (none, coming)), before.taken);
        stands = rw none
            (none_comes plan (since ++ first) e port stream _ _ before.stands w cause still none);
      }
      by (inl still) (Some p) coming =
          let h = since ++ first in
          let n = came_since plan first since (partner port) stream in
          let from = base first port.line stream in
          let at = subst (λ (k : ℕ). option_map (λ (x : SealedPacket × Packet). x.1)
          (slice_get (sealed_from plan h port stream k) n) ≡ Some p) before.stands.base_is (honest.1 p coming) in
          let next = next_is (sealed_from plan h port stream from) n p at in
          let one = taken plan fits facts h cause.1 port stream from n before.stands e p coming next.sealed next.stands
          next.packet w cause in
          record {
            taken = (
              λ q x is there.
                  let same : p ≡ q = cc (coming, is) in
                  let stands = subst (λ (k : ℕ). slice_get (sealed_from plan h port stream k) n ≡ Some x)
                  before.stands.base_is there in
                  let sealed = same_sealed next.sealed x (sym next.stands ∙ stands) in
                  let lane = sealed_lane port stream from next.sealed
                  (filtered_place (is_sealed_at port stream from) (sealed_packets plan h) n next.sealed
                  next.stands).passes in
                  subst (λ (r : Packet). IsTaken plan h (sub_stream_of x.0) x.0.draw (partner port) r w
                  × NotForged plan h e) same
                  (subst (λ (y : SealedPacket × Packet). IsTaken plan h (sub_stream_of y.0) y.0.draw (partner port) p w
                  × NotForged plan h e) sealed
                  (subst (λ (t : SubStream). IsTaken plan h t next.sealed.0.draw (partner port) p w
                  × NotForged plan h e)
                  (sym lane) one)),
              before.taken,
            );
            stands = rw (coming, add-one)
                (one_comes plan fits facts h e w cause port stream from n still before.stands p coming next.sealed
                next.stands next.packet);
          }

  walked : (since : History) → CauseLaw plan (since ++ first) → IsHonest plan first since port stream
      → Walked plan first since port stream
  unfolding came_since
  walked [] cause honest = record { taken = tt; stands = first_stands plan facts first cause port stream fresh }
  walked ((e, w) ∷ since) cause honest =
      one_pair since e w cause honest (walked since cause.1 honest.2)

  -- ---- once all came

  delivered : (since : History) → CauseLaw plan (since ++ first) → IsHonest plan first since port stream
      → AllCame plan first since port stream → (u : SubKind) → AllDelivered plan (since ++ first) port stream u
  delivered since cause honest came u j above =
      let h = since ++ first in
      let s = lane_out port stream u in
      let stands = (walked since cause honest).stands in
      let from = base first port.line stream in
      let least : from ≤ j = let base_is = stands.base_is in omega (arith, base_is, above) in
      let ys = sealed_from plan h port stream from in
      let size : came_since plan first since (partner port) stream ≡ length ys =
      came ∙ (λ i. length (sealed_from plan h port stream (stands.base_is i))) in
      let all : accepted_packets plan h s j ++ pending_packets plan h s j ≡ sent_packets plan h s j =
      stands.order u j least ∙ (ap (λ (zs : SealedList). sub_stream_packets zs s j)
      (ap (λ (k : ℕ). take k ys) size ∙ take-length ys)
      ∙ lane_of_stream port stream from j u (sealed_packets plan h) least) in
      let after = stands_after plan h cause s j in
      let closed : open_unit (sent_packets plan h s j) ≡ [] → (accepted_packets plan h s j ≡ sent_packets plan h s j)
      × (tlps_got plan h s j ≡ tlps_sent plan h s j) =
      λ none.
      let pending : pending_packets plan h s j ≡ [] = sym after.unfinished ∙ (ap open_unit all ∙ none) in
      let whole = sym (append-nil (accepted_packets plan h s j))
      ∙ ((λ i. accepted_packets plan h s j ++ sym pending i) ∙ all) in
      (whole, whole_delivered plan facts h cause s j whole none) in
      (all, closed)

pub honest_law : HonestLawHolds
honest_law plan fits h cause first since port stream parts fresh honest =
    let is = walked plan (streams_fit plan fits) (draws plan) first port stream fresh since
    (subst (CauseLaw plan) (sym parts) cause) honest in
    (is.taken, subst (λ (g : History). has_failed g (partner port) stream ≡ false) parts is.stands.secure)

pub honest_delivery : HonestDeliveryHolds
honest_delivery plan fits h cause first since port stream parts fresh honest came u =
    subst (λ (g : History). AllDelivered plan g port stream u) parts
    (delivered plan (streams_fit plan fits) (draws plan) first port stream fresh since
    (subst (CauseLaw plan) (sym parts) cause) honest came u)

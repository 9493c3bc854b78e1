-- Everything that arrived unchanged in order was taken.
use Rattle.spec_links.proofs.Ends.{not_through}
use Rattle.law_sealing.proofs.Terms.{◌≡◌, ◌≢◌, ℕ, ◌+◌, ◌<◌, Bool, true, false, List, [], ◌∷◌, ◌++◌, length, Some, None}
use Rattle.law_sealing.proofs.Terms.{Option, Ok, Err, Result, take, refl, ap, sym, ◌∙◌, subst, arith, if◌then◌else◌}
use Rattle.law_sealing.proofs.Terms.{not, ◌||◌, is_some, nat_tests, flat_map-append, Plan, SubStream, has_stream}
use Rattle.law_sealing.proofs.Terms.{key_of, aggregation_of, stream_plan, open_unit, History, sealed_packets}
use Rattle.law_sealing.proofs.Terms.{sub_stream_packets, ahead_sent, ahead_due, ArrivedBytes, arrival_of_event}
use Rattle.law_sealing.proofs.Terms.{sent_packets, sub_stream_of, packet_of, pending_packets, units_got, on_draw}
use Rattle.law_sealing.proofs.Terms.{has_failed, meets_counts, received_in, port_keys, Ending, due, arrival_due}
use Rattle.law_sealing.proofs.Terms.{ending_due, before_tag, under_keys, is_mixed, is_overfull, receiving_sub_stream}
use Rattle.law_sealing.proofs.Terms.{next_unit_name, is_verified, CauseLaw, WholeLaw, ArrivesInOrder, IsTaken}
use Rattle.law_sealing.proofs.Terms.{DrawFacts, On, key_in, StreamsFit, PortName, Event, Pass, Alter, Cut, Arrive}
use Rattle.law_sealing.proofs.Terms.{Verdict, Fail, Held, Accepted, SealedPacket, Prefix, Packet, packet_bytes, iv_of}
use Rattle.law_sealing.proofs.Terms.{authenticated_bytes, encrypted_bytes, tag_of, verifies, tag-verifies, effects_of}
use Rattle.ide_types.specs.declared.sub.FailCause.TheVariants as fail
use Rattle.law_sealing.proofs.Below.{is_cut}
use Rattle.law_delivery.proofs.Orders.{is_drawn}
use Rattle.law_sealing.proofs.Places.{SentPlace, sent_place, place_among}
use Rattle.law_sealing.proofs.Fronts.{IsSealedIn}
use Rattle.law_delivery.proofs.SameFronts.{fronted, same_fronts}
use Rattle.law_delivery.proofs.GotUnits.{AreGotSoFar, stands_after}

-- ---- the tag

pub tag_is : (plan : Plan) (ahead bytes : List ℕ) (d : SealedPacket) (unfinished : List Packet) → d.m ≡ true
    → (packet_of plan ahead bytes d unfinished).tag ≡ tag_of (key_of plan d.draw (sub_stream_of d)) (iv_of d.sub d.unit)
    (ahead ++ authenticated_bytes (unfinished ++ packet_of plan ahead bytes d unfinished ∷ []))
    (encrypted_bytes (unfinished ++ packet_of plan ahead bytes d unfinished ∷ []))
unfolding packet_of
tag_is plan ahead bytes d unfinished m = rw (m, flat_map-append, flat_map-append, flat_map-append, flat_map-append) refl

-- ---- the verdict

pub due_arrives : (plan : Plan) (h : History) (e : Event) (a : ArrivedBytes) → arrival_of_event plan h e ≡ Some a
    → due plan h e ≡ ending_due plan h a.port (before_tag plan h a)
unfolding due arrival_of_event
due_arrives plan h (Pass n) a is = ap (arrival_due plan h) is
due_arrives plan h (Alter n at mask) a is = ap (arrival_due plan h) is
due_arrives plan h (Cut n len) a is = ap (arrival_due plan h) is
due_arrives plan h (Arrive port bytes) a is = ap (arrival_due plan h) is
due_arrives plan h _ a is = absurd cc

under_keys_is : (plan : Plan) (h : History) (port : PortName) (p : Packet) (s : SubStream) (j : ℕ) (other : Option ℕ)
    → receiving_sub_stream port p ≡ s → is_mixed plan h s other ≡ false → is_overfull plan h s j p.prefix.m ≡ false
    → under_keys plan h port p (Some j) other ≡
    (if p.prefix.m then Ok (record { packet = p; unit = next_unit_name h s j })
    else Err (Held port (next_unit_name h s j)))
under_keys_is plan h port p s j other there alone room = ap in_stream there ∙ rw (alone, room) refl
  where
    in_stream : SubStream → Result Ending Verdict
    in_stream t =
        if is_mixed plan h t other || is_overfull plan h t j p.prefix.m then Err
        (Fail port p.prefix.stream p.prefix.sub fail.Unit)
        else if p.prefix.m then Ok (record { packet = p; unit = next_unit_name h t j })
        else Err (Held port (next_unit_name h t j))

accepted_is : (plan : Plan) (h : History) (port : PortName) (p : Packet) (s : SubStream) (j : ℕ)
    → received_in port (next_unit_name h s j) ≡ s → p.tag ≡ tag_of (key_of plan j s) (iv_of s.sub (units_got h s j + 1))
    (ahead_due plan h s (units_got h s j + 1) ++ authenticated_bytes (pending_packets plan h s j ++ p ∷ []))
    (encrypted_bytes (pending_packets plan h s j ++ p ∷ []))
    → meets_counts plan h s (pending_packets plan h s j ++ p ∷ []) ≡ true
    → ending_due plan h port (Ok (record { packet = p; unit = next_unit_name h s j }))
    ≡ Accepted port (next_unit_name h s j)
    (effects_of plan h port (next_unit_name h s j) (pending_packets plan h s j ++ p ∷ []))
unfolding is_verified
accepted_is plan h port p s j there tag counts =
    let verified = tag-verifies (key_of plan j s) (iv_of s.sub (units_got h s j + 1))
    (ahead_due plan h s (units_got h s j + 1) ++ authenticated_bytes (pending_packets plan h s j ++ p ∷ []))
    (encrypted_bytes (pending_packets plan h s j ++ p ∷ [])) p.tag tag in
    ap in_stream there ∙ rw (verified, counts) refl
  where
    in_stream : SubStream → Verdict
    in_stream t =
        if not (verifies (key_of plan j t) (iv_of s.sub (units_got h s j + 1))
        (ahead_due plan h t (units_got h s j + 1) ++ authenticated_bytes (pending_packets plan h t j ++ p ∷ []))
        (encrypted_bytes (pending_packets plan h t j ++ p ∷ [])) p.tag)
        then Fail port s.stream s.sub fail.Tag
        else if not (meets_counts plan h t (pending_packets plan h t j ++ p ∷ [])) then Fail port s.stream s.sub
        fail.Order
        else Accepted port (next_unit_name h s j)
        (effects_of plan h port (next_unit_name h s j) (pending_packets plan h t j ++ p ∷ []))

-- ---- the law

-- the draws of the two sets differ
two_differ : (plan : Plan) → DrawFacts plan → (h : History) → CauseLaw plan h
    → (port : PortName) (s : SubStream) (k : Bool) (i j : ℕ) → on_draw h port s k ≡ Some j → on_draw h port s (not k)
    ≡ Some i → i ≢ j
two_differ plan facts h law port s true i j live other same = grind
    (arith, nat_tests, facts.apart h law port s i j (is_drawn _ i other) (is_drawn _ j live))
two_differ plan facts h law port s false i j live other same = grind
    (arith, nat_tests, facts.apart h law port s j i (is_drawn _ j live) (is_drawn _ i other))

module _
    (plan : Plan) (fits : StreamsFit plan) (facts : DrawFacts plan) (h : History) (cause : CauseLaw plan h) (e : Event)
    (s : SubStream) (j m : ℕ)
    (port : PortName) (p : Packet) (arrives : ArrivesInOrder plan h e s j m port p) where
  abbrev unfinished : List Packet
  unfinished = pending_packets plan h s j

  abbrev n : ℕ
  n = units_got h s j + 1

  place : SentPlace plan h s j m p
  place = sent_place plan fits facts h cause s j m p arrives.sealed

  pub after : AreGotSoFar plan h s j (take m (sent_packets plan h s j))
  after = subst (AreGotSoFar plan h s j) arrives.in_order (stands_after plan h cause s j)

  pub there : received_in port (next_unit_name h s j) ≡ s
  there = λ i. record { line = arrives.receiver.0 i; stream = s.stream; direction = arrives.receiver.1 i; sub = s.sub }

  -- the fronts of both sides
  pub fronts_agree : p.prefix.m ≡ true → ahead_sent plan h s j (units_got h s j + 1)
      ≡ ahead_due plan h s (units_got h s j + 1)
  fronts_agree last =
      let among = place_among (sealed_packets plan h) s j m p arrives.sealed in
      let sealed : IsSealedIn plan h s j = record
      { place = among.place; sealed = among.sealed; stands = among.stands; under = among.under } in
      same_fronts plan fits facts h cause port s j arrives.receiver arrives.live sealed (arrives.older last)

  -- its tag is that of the unit that it ends, with what comes ahead of that unit
  sent_tag : p.prefix.m ≡ true → p.tag ≡ tag_of (key_of plan j s) (iv_of s.sub n)
      (ahead_due plan h s n ++ authenticated_bytes (unfinished ++ p ∷ [])) (encrypted_bytes (unfinished ++ p ∷ []))
  sent_tag last =
      let d = place.description in
      let m_is = sym (ap (λ (f : Prefix). f.m) place.prefix) ∙ last in
      let with_front = fronted plan fits facts h cause place.place (d, p) place.stands m_is in
      let number : d.unit ≡ n = place.unit ∙ ap (λ k. k + 1) after.count in
      let ahead : ahead_sent plan h (sub_stream_of d) d.draw d.unit ≡ ahead_due plan h s n =
      (λ i. ahead_sent plan h (place.stream i) (place.draw i) (number i)) ∙ fronts_agree last in
      let xs = take place.place (sealed_packets plan h) in
      let opens : open_unit (sub_stream_packets xs (sub_stream_of d) d.draw) ≡ unfinished =
      (λ i. open_unit (sub_stream_packets xs (place.stream i) (place.draw i))) ∙
      (ap open_unit place.before ∙ after.unfinished) in
      let packet : p ≡ packet_of plan (ahead_due plan h s n) with_front.bytes d unfinished =
      with_front.packet ∙ (λ i. packet_of plan (ahead i) with_front.bytes d (opens i)) in
      let sub = ap (λ (t : SubStream). t.sub) place.stream in
      cc (
        packet,
        tag_is plan (ahead_due plan h s n) with_front.bytes d unfinished m_is,
        place.draw,
        place.stream,
        sub,
        number,
      )

  -- its draw is On in the set that it names
  live : on_draw h port s p.prefix.k ≡ Some j
  live =
      let d = place.description in
      let k = arrives.live.0 in
      let on : key_in (port_keys h port (sub_stream_of d)) k ≡ On d.draw =
      (λ i. key_in (port_keys h port (place.stream i)) k) ∙
      (is_drawn (key_in (port_keys h port s) k) j arrives.live.1 ∙ ap On (sym place.draw)) in
      let set = facts.own_set h cause place.place (d, p) place.stands port k on in
      ap (on_draw h port s) (ap (λ (f : Prefix). f.k) place.prefix ∙ sym set) ∙ arrives.live.1

  alone : (o : Option ℕ) → on_draw h port s (not p.prefix.k) ≡ o → is_mixed plan h s o ≡ false
  alone None is = refl
  alone (Some i) is = rw
      (arrives.alone i (not p.prefix.k, is) (two_differ plan facts h cause port s p.prefix.k i j live is)) refl

  -- it passes what is tested before the tag
  pub before : before_tag plan h (record { port = port; bytes = packet_bytes p })
      ≡ (if p.prefix.m then Ok (record { packet = p; unit = next_unit_name h s j })
      else Err (Held port (next_unit_name h s j)))
  unfolding before_tag
  before =
      let stream : p.prefix.stream ≡ s.stream = ap (λ (f : Prefix). f.stream) place.prefix ∙ ap
      (λ (t : SubStream). t.stream) place.stream in
      let sub : p.prefix.sub ≡ s.sub = ap (λ (f : Prefix). f.sub) place.prefix ∙ ap (λ (t : SubStream). t.sub)
      place.stream in
      let receives : receiving_sub_stream port p ≡ s = λ i. record
      { line = arrives.receiver.0 i; stream = stream i; direction = arrives.receiver.1 i; sub = sub i } in
      let known : has_stream plan port p.prefix.stream ≡ true =
      (λ i. is_some (stream_plan plan (arrives.receiver.0 i) (stream i))) ∙ facts.known h cause port s p.prefix.k j
      (is_drawn _ j live) in
      let secure : has_failed h port p.prefix.stream ≡ false = rw stream arrives.secure in
      let less = λ (more : p.prefix.m ≡ false). subst (λ ps. length ps + 1 < aggregation_of plan s.line s.stream)
      after.unfinished
      (place.room more) in
      let room : is_overfull plan h s j p.prefix.m ≡ false = grind (arith, nat_tests, less) in
      rw (not_through plan port p known, is_cut p place.fits, known, secure, receives, live)
      (under_keys_is plan h port p s j (on_draw h port s (not p.prefix.k)) receives
      (alone (on_draw h port s (not p.prefix.k)) refl) room)

  taken : IsTaken plan h s j port p (due plan h e)
  taken =
      let is = due_arrives plan h e (record { port = port; bytes = packet_bytes p }) arrives.unchanged ∙ ap
      (ending_due plan h port) before in (
        λ more. is ∙ ap by_m more,
        λ last. is ∙
            (ap by_m last ∙ accepted_is plan h port p s j there (sent_tag last) (arrives.counts last)),
      )
    where
      by_m : Bool → Verdict
      by_m b = ending_due plan h port
          (if b then Ok (record { packet = p; unit = next_unit_name h s j })
          else Err (Held port (next_unit_name h s j)))

pub whole_law_holds : (plan : Plan) → StreamsFit plan → DrawFacts plan → (h : History) → CauseLaw plan h
    → WholeLaw plan h
whole_law_holds plan fits facts [] cause = tt
whole_law_holds plan fits facts ((e, w) ∷ h) cause = (
  λ s j m port p arrives. subst (IsTaken plan h s j port p) (sym cause.0)
      (taken plan fits facts h cause.1 e s j m port p arrives),
  whole_law_holds plan fits facts h cause.1,
)

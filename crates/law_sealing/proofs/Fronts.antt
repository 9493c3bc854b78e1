-- What stays while more is sealed. A packet keeps its place in the list of sealed packets. Sealed draws rise, so once
-- one was sealed under, nothing of a smaller one follows (`sent_kept`). Base stays, since it moves only to a draw of
-- which nothing was sealed (`base_kept`). The rest finds packets among those of the last send.
use Rattle.law_sealing.proofs.Terms.{◌≡◌, ℕ, ◌<◌, ◌≤◌, Bool, true, List, [], ◌∷◌, ◌++◌, length, take, slice_get, Some}
use Rattle.law_sealing.proofs.Terms.{refl, ap, sym, ◌∙◌, subst, arith, append_assoc, length-append, inl, inr, ◌⊎◌}
use Rattle.law_sealing.proofs.Terms.{AllByRecursion, list_any, or_cases, or_left, or_right, nat_tests, slice_get_cases}
use Rattle.law_sealing.proofs.Terms.{take-append-le, PortName, Event, Verdict, SealedPacket, Packet, Plan, SubStream}
use Rattle.law_sealing.proofs.Terms.{is_same, lane_out, open_unit, History, base, live_key, SealedList, KeyName}
use Rattle.law_sealing.proofs.Terms.{sealed_packets, with_sealed, packet_of, sent_packets, sub_stream_packets}
use Rattle.law_sealing.proofs.Terms.{is_sealed_under, sub_stream_of, CauseLaw, DrawFacts, IsLive}
use Rattle.law_sealing.proofs.Terms.{sub_stream_packets-snoc}
pub use Rattle.spec_links.proofs.Growth.{with_grows, packets_grow, at_front}
use Rattle.law_sealing.proofs.Places.{last_place, place_among}
use Rattle.law_sealing.proofs.Sums.{in_parts, smaller_before, element_behind}

-- a packet of the sub-stream and draw was sealed
pub record IsSealedIn (plan : Plan) (h : History) (s : SubStream) (j : ℕ) : Type 0 where
  pub place : ℕ
  pub sealed : SealedPacket × Packet
  pub stands : slice_get (sealed_packets plan h) place ≡ Some sealed
  pub under : is_sealed_under s j sealed ≡ true

pub sealed_later : (plan : Plan) (h : History) (e : Event) (w : Verdict) (s : SubStream) (j : ℕ) → IsSealedIn plan h s j
    → IsSealedIn plan ((e, w) ∷ h) s j
sealed_later plan h e w s j x =
    let grown = packets_grow plan h e w in
    let at = at_front (sealed_packets plan h) grown.0 x.place x.sealed x.stands in
    record {
      place = x.place;
      sealed = x.sealed;
      stands = subst
          (λ (ys : SealedList). slice_get ys x.place ≡ Some x.sealed) grown.1 at.0;
      under = x.under;
    }

-- from then on nothing of a smaller draw is sealed
pub sent_kept : (plan : Plan) → DrawFacts plan → (h : History) (e : Event) (w : Verdict) → CauseLaw plan ((e, w) ∷ h)
    → (s : SubStream) (i j : ℕ) → IsSealedIn plan h s j → i < j → sent_packets plan ((e, w) ∷ h) s i
    ≡ sent_packets plan h s i
unfolding sealed_later
sent_kept plan facts h e w law s i j x less =
    let xs = sealed_packets plan h in
    let grown = packets_grow plan h e w in
    let at = at_front xs grown.0 x.place x.sealed x.stands in
    let y = sealed_later plan h e w s j x in
    let old = smaller_before xs s x.place j i x.sealed (facts.rises h law.1) x.stands x.under less in
    let new = smaller_before (sealed_packets plan ((e, w) ∷ h)) s x.place j i x.sealed (facts.rises ((e, w) ∷ h) law)
    y.stands x.under less in
    let front = ap (take x.place) (sym grown.1) ∙ take-append-le x.place xs grown.0 (omega (arith, at.1)) in
    sym new ∙ (ap (λ (zs : SealedList). sub_stream_packets zs s i) front ∙ old)

-- Base stays once a draw from it on was sealed
pub base_kept : (plan : Plan) → DrawFacts plan → (h : History) (e : Event) (w : Verdict) → CauseLaw plan ((e, w) ∷ h)
    → (s : SubStream) (j : ℕ) → IsSealedIn plan ((e, w) ∷ h) s j → base ((e, w) ∷ h) s.line s.stream ≤ j
    → base ((e, w) ∷ h) s.line s.stream ≡ base h s.line s.stream
base_kept plan facts h e w law s j x up = elim (facts.base_fresh h e w law s.line s.stream) [
  | inl same ↦ same
  | inr none ↦
      let parts = in_parts s j x.sealed x.under in
      let below = none x.place x.sealed x.stands (ap (λ (t : SubStream). t.line) parts.2)
      (ap (λ (t : SubStream). t.stream) parts.2) in
      absurd (omega (arith, below, parts.1, up))
]

-- the first of them
pub first_sealed : (plan : Plan) (h : History) (s : SubStream) (j : ℕ) → 1 ≤ length (sent_packets plan h s j)
    → (x : IsSealedIn plan h s j) × (sub_stream_packets (take x.place (sealed_packets plan h)) s j ≡ [])
first_sealed plan h s j some = elim (slice_get_cases (sent_packets plan h s j) 0).1 [
  | inl here ↦
      let among = place_among (sealed_packets plan h) s j 0 here.0 here.2 in
      (record { place = among.place; sealed = among.sealed; stands = among.stands; under = among.under }, among.before)
  | inr none ↦ absurd (omega arith)
]

-- ---- new packets

-- what is found among them
pub any_new : (q : SealedPacket → Bool) (plan : Plan) (ahead : SealedPacket → List ℕ) (bytes : List ℕ)
    (ds : List SealedPacket) (xs : SealedList) → list_any q ds ≡ true
    → (place : ℕ) × (z : SealedPacket × Packet) × (slice_get (with_sealed plan ahead bytes ds xs) place ≡ Some z)
    × (q z.0 ≡ true) × (length xs ≤ place)
any_new q plan ahead bytes [] xs some = absurd cc
any_new q plan ahead bytes (d ∷ ds) xs some =
    let x : SealedPacket × Packet =
    (d, packet_of plan (ahead d) bytes d (open_unit (sub_stream_packets xs (sub_stream_of d) d.draw))) in
    elim (or_cases (q d) (list_any q ds) some) [
      | inl is ↦
          let grown = with_grows plan ahead bytes ds (xs ++ x ∷ []) in
          (length xs, x, rw (← grown.1, append_assoc) (element_behind xs x grown.0), is, omega arith)
      | inr later ↦
          let rest = any_new q plan ahead bytes ds (xs ++ x ∷ []) later in
          (rest.0, rest.1, rest.2, rest.3, omega (arith, rest.4, length-append xs (x ∷ [])))
    ]

-- a packet that was sealed after those before it, of those that are sealed for a send
pub record IsNew
    (plan : Plan) (ahead : SealedPacket → List ℕ) (bytes : List ℕ) (ds : List SealedPacket) (ys : SealedList)
    (place : ℕ) (x : SealedPacket × Packet)
    : Type 0 where
  pub packet : x.1 ≡ packet_of plan (ahead x.0) bytes x.0
      (open_unit (sub_stream_packets (take place ys) (sub_stream_of x.0) x.0.draw))
  pub among : (q : SealedPacket → Bool) → q x.0 ≡ true → list_any q ds ≡ true

pub old_or_new : (plan : Plan) (ahead : SealedPacket → List ℕ) (bytes : List ℕ) (ds : List SealedPacket)
    (xs : SealedList)
    → (place : ℕ) (x : SealedPacket × Packet) → slice_get (with_sealed plan ahead bytes ds xs) place ≡ Some x
    → (slice_get xs place ≡ Some x) ⊎ IsNew plan ahead bytes ds (with_sealed plan ahead bytes ds xs) place x
old_or_new plan ahead bytes [] xs place x is = inl is
old_or_new plan ahead bytes (d ∷ ds) xs place x is =
    let z : SealedPacket × Packet =
    (d, packet_of plan (ahead d) bytes d (open_unit (sub_stream_packets xs (sub_stream_of d) d.draw))) in
    elim (old_or_new plan ahead bytes ds (xs ++ z ∷ []) place x is) [
      | inl old ↦ elim (last_place xs z x place old) [
        | inl p ↦ inl p.0
        | inr p ↦
            let grown = with_grows plan ahead bytes ds (xs ++ z ∷ []) in
            let within = (at_front (xs ++ z ∷ []) grown.0 place x old).1 in
            let front : take place (with_sealed plan ahead bytes ds (xs ++ z ∷ [])) ≡ xs =
            ap (take place) (sym grown.1) ∙ (take-append-le place (xs ++ z ∷ []) grown.0 (omega (arith, within)) ∙ p.1)
            in
            inr (record { packet = rw (p.0, front) refl; among = λ q here. or_left _ _ (rw p.0 at here) })
      ]
      | inr new ↦ inr (record
          { packet = new.packet; among = λ q here. or_right (q d) (list_any q ds) (new.among q here) })
    ]

-- all packets of a send in one sub-stream are under its live key
pub one_draw : (plan : Plan) (h : History) (port : PortName) (stream : ℕ) (d x : SealedPacket)
    → IsLive plan h port stream d → IsLive plan h port stream x → sub_stream_of d ≡ sub_stream_of x → d.draw ≡ x.draw
one_draw plan h port stream d x one two same =
    let sub : d.sub ≡ x.sub = ap (λ (s : SubStream). s.sub) same in
    let keys : Some one.key ≡ Some two.key = sym one.live ∙
    ((λ i. live_key h port (lane_out port stream (sub i))) ∙ two.live) in
    let key : one.key ≡ two.key = cc in
    one.draw ∙ (ap (λ (k : KeyName). k.draw) key ∙ sym two.draw)

pub others_kept : (plan : Plan) (ahead : SealedPacket → List ℕ) (bytes : List ℕ) (s : SubStream) (i j : ℕ) → i < j
    → (ds : List SealedPacket) (xs : SealedList) → AllByRecursion
    (λ (d : SealedPacket). is_same (sub_stream_of d) s ≡ true
    → d.draw ≡ j) ds → sub_stream_packets (with_sealed plan ahead bytes ds xs) s i ≡ sub_stream_packets xs s i
others_kept plan ahead bytes s i j less [] xs each = refl
others_kept plan ahead bytes s i j less (d ∷ ds) xs each =
    let x : SealedPacket × Packet =
    (d, packet_of plan (ahead d) bytes d (open_unit (sub_stream_packets xs (sub_stream_of d) d.draw))) in
    others_kept plan ahead bytes s i j less ds (xs ++ x ∷ []) each.1 ∙
    (sub_stream_packets-snoc xs x s i ∙ grind (arith, nat_tests, each.0))

-- What the touches of a place say of the packets there: of draws above those used nothing was sealed, of draws above
-- those whose GO came nothing was held or accepted, and a unit is open exactly if the touches say so. Each is by
-- induction on the history, since bounds on the touches hold of the earlier ones too. A sealed packet is itself a
-- touch; what is held or accepted was under a draw that is On, so its GO had come.
use Rattle.spec_links.proofs.Terms.{Bool, List, Some, [], ap, arith, drop, false, filter, length, length-append, refl}
use Rattle.spec_links.proofs.Terms.{suc, sym, true, zero, ℕ, ◌++◌, ◌+◌, ◌-◌, ◌<◌, ◌==◌, ◌∙◌, ◌∷◌, ◌≡◌, ◌≤◌, nat_tests}
use Rattle.spec_links.proofs.Terms.{append-nil, filter-append, suffix_len, max, Pr, base, touches_after}
use Rattle.spec_links.proofs.Terms.{draws as draws_made, is_sender, manager, moments, seal_touches, touches, touches_if}
use Rattle.spec_links.proofs.Terms.{Seal, Touch, is_open, CauseLaw, SealedList, ahead_of_packet, ends_unit_since}
use Rattle.spec_links.proofs.Terms.{got_since, packets_in_hold, is_sealed_from_draw, is_sealed_under, port_keys}
use Rattle.spec_links.proofs.Terms.{packet_of, place_in_sub_stream, posted_since_last, received_in, sealed_packets}
use Rattle.spec_links.proofs.Terms.{sends_it, sub_stream_packets, sub_stream_of, total_in, units_got, units_since}
use Rattle.spec_links.proofs.Terms.{with_sealed, SubStream, is_same, lane_in, lane_out, Accepted, AllByRecursion, Event}
use Rattle.spec_links.proofs.Terms.{Held, History, Keys, Packet, KeyPlace, Plan, PortName, Sealed, SealedPacket}
use Rattle.spec_links.proofs.Terms.{SubKind, UnitName, Verdict, if◌then◌else◌, key_in, nat_le, nat_lt, not, on_in}
use Rattle.spec_links.proofs.Terms.{sent_direction, ◌&&◌, open_unit, sent_bytes, subst}
use Rattle.spec_keys.proofs.Tests.{both-true}
use Rattle.spec_keys.proofs.Shapes.{draws_used, draws_started}
use Rattle.law_keys.proofs.Behind.{used_behind, started_behind, on_started, open_behind, touches_no_seal}
use Rattle.spec_links.proofs.Tests.{same_stream, same_receiver, eqb-refl}
use Rattle.spec_links.proofs.SealingIs.{sealed_by_sealing, sealed_same, sealing_touches}
use Rattle.law_key_facts.proofs.Seats.{keys_into}
use Rattle.law_key_facts.proofs.Given.{accepted_on, held_on}
use Rattle.spec_links.proofs.Sealed.{sub_stream_packets-snoc, left_alone}
use Rattle.spec_links.proofs.UnitLemmas.{open_unit-snoc}

-- ---- lists

-- none of a list that begins with an element passes
pub none_left : {X : Type 0} (b : Bool) (x : X) (xs : List X) → (if b then x ∷ xs else xs) ≡ [] → (b ≡ false)
    × (xs ≡ [])
none_left b x xs none = grind arith

not_implied : (a b : Bool) → (b ≡ true → a ≡ true) → a ≡ false → b ≡ false
not_implied a b implies is = grind arith

filter_less : {X : Type 0} (p q : X → Bool) (xs : List X) → ((x : X) → q x ≡ true → p x ≡ true) → filter p xs ≡ []
    → filter q xs ≡ []
filter_less p q [] implies none = refl
filter_less p q (x ∷ xs) implies none =
    let off = none_left (p x) x (filter p xs) none in
    rw (not_implied (p x) (q x) (implies x) off.0) (filter_less p q xs implies off.1)

filter_drop : {X : Type 0} (p : X → Bool) (n : ℕ) (xs : List X) → filter p xs ≡ [] → filter p (drop n xs) ≡ []
filter_drop p zero xs none = none
filter_drop p (suc n) [] none = refl
filter_drop p (suc n) (x ∷ xs) none = filter_drop p n xs (none_left (p x) x (filter p xs) none).1

-- ---- senders

seal_same : (port : PortName) (s : SubStream) (d : SealedPacket) → sends_it port s ≡ true
    → is_sender (place_in_sub_stream port s true) d ≡ is_same (sub_stream_of d) s
seal_same port s d here = grind (arith, nat_tests)

pub sends_lane : (port : PortName) (stream : ℕ) (u : SubKind) → sends_it port (lane_out port stream u) ≡ true
sends_lane port stream u = rw (eqb-refl port.line, eqb-refl (sent_direction port.side)) refl

-- none of a draw from this one on
abbrev NoneIn : SubStream → ℕ → SealedList → Type 0
NoneIn s from xs = filter (is_sealed_from_draw s from) xs ≡ []

-- whether a packet is of the sub-stream and of a draw from this one on
abbrev is_from : SubStream → ℕ → SealedPacket → Bool
is_from s from d = is_same (sub_stream_of d) s && nat_le from d.draw

none_used : (port : PortName) (s : SubStream) (from : ℕ) → sends_it port s ≡ true
    → (ts : List Touch) (ds : List SealedPacket)
    → draws_used (touches_after ts (seal_touches (place_in_sub_stream port s true) ds)) ≤ from
    → AllByRecursion (λ (d : SealedPacket). is_from s from d ≡ false) ds
unfolding draws_used
none_used port s from here ts [] le = tt
none_used port s from here ts (d ∷ ds) le =
    by_test (is_sender (place_in_sub_stream port s true) d) refl le (none_used port s from here ts ds)
    (none_used port s from here (Seal d.draw d.m ∷ ts) ds)
  where
    more : List Touch
    more = seal_touches (place_in_sub_stream port s true) ds

    by_test : (b : Bool) → is_sender (place_in_sub_stream port s true) d ≡ b
        → let All = AllByRecursion (λ (d : SealedPacket). is_from s from d ≡ false) in
        draws_used (touches_after ts (touches_if b (Seal d.draw d.m) ++ more)) ≤ from
        → (draws_used (touches_after ts more) ≤ from → All ds)
        → (draws_used (touches_after (Seal d.draw d.m ∷ ts) more) ≤ from → All ds) → All (d ∷ ds)
    by_test false is le without with_it = (let other = seal_same port s d here in grind arith, without le)
    by_test true is le without with_it =
        let most : max (d.draw + 1) (draws_used ts) ≤ draws_used (touches_after (Seal d.draw d.m ∷ ts) more) =
        used_behind
        (Seal d.draw d.m ∷ ts) more in
        (grind (arith, nat_tests), with_it le)

pub earlier_used : (h : History) (e : Event) (w : Verdict) (p : KeyPlace) (n : ℕ)
    → draws_used (moments ((e, w) ∷ h) p) ≤ n → draws_used (moments h p) ≤ n
unfolding moments
earlier_used h e w p n le = let before = used_behind (moments h p) (touches (manager h).ops (draws_made h) e w p) in
    omega (arith, before, le)

pub none_in : (plan : Plan) (h : History) → CauseLaw plan h → (port : PortName) (s : SubStream) (from : ℕ)
    → sends_it port s ≡ true → draws_used (moments h (place_in_sub_stream port s true)) ≤ from
    → NoneIn s from (sealed_packets plan h)
unfolding sealed_packets moments
none_in plan [] law port s from here le = refl
none_in plan ((e, Sealed ds) ∷ h) law port s from here le =
    let ts = moments h (place_in_sub_stream port s true) in
    let touched = sealing_touches (manager h).ops (draws_made h) e ds (place_in_sub_stream port s true)
    (sealed_by_sealing plan h e ds law.0) in
    left_alone (filter (is_sealed_from_draw s from)) (λ d. is_from s from d ≡ false)
    (λ xs d q off. filter-append (is_sealed_from_draw s from) xs ((d, q) ∷ []) ∙ rw off (append-nil _))
    plan (ahead_of_packet plan (sealed_packets plan h) (base h)) (sent_bytes plan h e) ds (sealed_packets plan h)
    (none_used port s from here ts ds (subst (λ (us : List Touch). draws_used (touches_after ts us) ≤ from) touched le))
    ∙ none_in plan h law.1 port s from here (earlier_used h e (Sealed ds) (place_in_sub_stream port s true) from le)
none_in plan ((e, w) ∷ h) law port s from here le = none_in plan h law.1 port s from here
    (earlier_used h e w (place_in_sub_stream port s true) from le)

pub none_sent : (plan : Plan) (h : History) → CauseLaw plan h → (port : PortName) (s : SubStream) (j : ℕ)
    → sends_it port s ≡ true → draws_used (moments h (place_in_sub_stream port s true)) ≤ j
    → sub_stream_packets (sealed_packets plan h) s j ≡ []
unfolding sub_stream_packets
none_sent plan h law port s j here le =
    rw (filter_less (is_sealed_from_draw s j) (is_sealed_under s j) (sealed_packets plan h)
    (λ x is. grind (arith, nat_tests))
    (none_in plan h law port s j here le)) refl

-- if no posted packet from a draw on was sealed, the count from it on is 0
pub none_posted : (plan : Plan) (h : History) → CauseLaw plan h
    → (port : PortName) (stream : ℕ) (u : SubKind) (from : ℕ)
    → draws_used (moments h (place_in_sub_stream port (lane_out port stream Pr) true)) ≤ from
    → posted_since_last (sealed_packets plan h) (lane_out port stream u) from ≡ 0
unfolding posted_since_last
none_posted plan h law port stream u from le =
    ap length (filter_drop (is_sealed_from_draw (lane_out port stream Pr) from)
    (length (sealed_packets plan h) - suffix_len (λ x. not (is_sealed_from_draw (lane_out port stream u) from x))
    (sealed_packets plan h)) (sealed_packets plan h)
    (none_in plan h law port (lane_out port stream Pr) from (sends_lane port stream Pr) le))

-- if no packet from a draw on was sealed, no unit was finished
pub none_finished : (plan : Plan) (h : History) → CauseLaw plan h → (port : PortName) (s : SubStream) (from : ℕ)
    → sends_it port s ≡ true → draws_used (moments h (place_in_sub_stream port s true)) ≤ from
    → total_in (sealed_packets plan h) s from ≡ 0
unfolding total_in
none_finished plan h law port s from here le =
    ap length (filter_less (is_sealed_from_draw s from) (ends_unit_since s from) (sealed_packets plan h)
    (λ x is. (both-true (is_sealed_from_draw s from x) x.1.prefix.m is).0) (none_in plan h law port s from here le))

-- ---- receivers

-- what is held or accepted there is under a draw that is On there
on_there : (plan : Plan) (h : History) (q : PortName) (stream : ℕ) (u : SubKind) (port : PortName) (unit : UnitName)
    (k : Bool) → received_in port unit ≡ lane_in q stream u
    → on_in (key_in (port_keys h port (received_in port unit)) k) ≡ Some unit.draw
    → unit.draw < draws_started (moments h (place_in_sub_stream q (lane_in q stream u) false))
on_there plan h q stream u port unit k same on =
    let port_is = same_receiver port q (ap (λ (s : SubStream). s.line) same) (ap (λ (s : SubStream). s.direction) same)
    in
    let there : on_in (key_in (port_keys h q (lane_in q stream u)) k)
    ≡ Some unit.draw = (λ i. on_in (key_in (port_keys h (sym port_is i) (sym same i)) k)) ∙ on in
    on_started false (moments h (place_in_sub_stream q (lane_in q stream u) false)) k unit.draw
    (sym (ap (λ (x : Keys). on_in (key_in x k)) (keys_into h q stream u)) ∙ there)

earlier : (h : History) (e : Event) (w : Verdict) (p : KeyPlace) (j : ℕ) → draws_started (moments ((e, w) ∷ h) p) ≤ j
    → draws_started (moments h p) ≤ j
unfolding moments
earlier h e w p j le = let before = started_behind (moments h p) (touches (manager h).ops (draws_made h) e w p) in omega
    (arith, before, le)

-- so it is of no draw whose GO did not come
apart_from : (plan : Plan) (h : History) (q : PortName) (stream : ℕ) (u : SubKind) (port : PortName) (unit : UnitName)
    → (on : (k : Bool) × (on_in (key_in (port_keys h port (received_in port unit)) k) ≡ Some unit.draw))
    → (from : ℕ) → draws_started (moments h (place_in_sub_stream q (lane_in q stream u) false)) ≤ from
    → let here = is_same (received_in port unit) (lane_in q stream u) in
    ((here && (unit.draw == from)) ≡ false) × ((here && nat_le from unit.draw) ≡ false)
apart_from plan h q stream u port unit on from le = by_test (is_same (received_in port unit) (lane_in q stream u)) refl
  where
    by_test : (b : Bool) → is_same (received_in port unit) (lane_in q stream u) ≡ b
        → ((b && (unit.draw == from)) ≡ false) × ((b && nat_le from unit.draw) ≡ false)
    by_test false is = (refl, refl)
    by_test true is =
        let lt = on_there plan h q stream u port unit on.0 (same_stream (received_in port unit) (lane_in q stream u) is)
        on.1 in
        (grind (arith, nat_tests), grind (arith, nat_tests))

pub none_held : (plan : Plan) (h : History) → CauseLaw plan h → (q : PortName) (stream : ℕ) (u : SubKind) (j n : ℕ)
    → draws_started (moments h (place_in_sub_stream q (lane_in q stream u) false)) ≤ j
    → packets_in_hold plan h (lane_in q stream u) j n ≡ []
unfolding packets_in_hold
none_held plan [] law q stream u j n le = refl
none_held plan ((e, Held port unit) ∷ h) law q stream u j n le =
    let before = earlier h e (Held port unit) (place_in_sub_stream q (lane_in q stream u) false) j le in
    rw (apart_from plan h q stream u port unit (held_on plan h e port unit law.0) j before).0
    (none_held plan h law.1 q stream u j n before)
none_held plan ((e, w) ∷ h) law q stream u j n le = none_held plan h law.1 q stream u j n
    (earlier h e w (place_in_sub_stream q (lane_in q stream u) false) j le)

pub none_got : (plan : Plan) (h : History) → CauseLaw plan h → (q : PortName) (stream : ℕ) (u : SubKind) (j : ℕ)
    → draws_started (moments h (place_in_sub_stream q (lane_in q stream u) false)) ≤ j
    → units_got h (lane_in q stream u) j ≡ 0
unfolding units_got
none_got plan [] law q stream u j le = refl
none_got plan ((e, Accepted port unit effects) ∷ h) law q stream u j le =
    let before = earlier h e (Accepted port unit effects) (place_in_sub_stream q (lane_in q stream u) false) j le in
    rw (apart_from plan h q stream u port unit (accepted_on plan h e port unit effects law.0) j before).0
    (none_got plan h law.1 q stream u j before)
none_got plan ((e, w) ∷ h) law q stream u j le = none_got plan h law.1 q stream u j
    (earlier h e w (place_in_sub_stream q (lane_in q stream u) false) j le)

pub none_since : (plan : Plan) (h : History) → CauseLaw plan h → (q : PortName) (stream : ℕ) (u : SubKind) (from : ℕ)
    → draws_started (moments h (place_in_sub_stream q (lane_in q stream u) false)) ≤ from
    → got_since plan h (lane_in q stream u) from ≡ []
unfolding got_since
none_since plan [] law q stream u from le = refl
none_since plan ((e, Accepted port unit effects) ∷ h) law q stream u from le =
    let before = earlier h e (Accepted port unit effects) (place_in_sub_stream q (lane_in q stream u) false) from le in
    rw (apart_from plan h q stream u port unit (accepted_on plan h e port unit effects law.0) from before).1
    (none_since plan h law.1 q stream u from before)
none_since plan ((e, w) ∷ h) law q stream u from le = none_since plan h law.1 q stream u from
    (earlier h e w (place_in_sub_stream q (lane_in q stream u) false) from le)

pub no_units : (plan : Plan) (h : History) → CauseLaw plan h → (q : PortName) (stream : ℕ) (u : SubKind) (from : ℕ)
    → draws_started (moments h (place_in_sub_stream q (lane_in q stream u) false)) ≤ from
    → units_since h (lane_in q stream u) from ≡ 0
unfolding units_since
no_units plan [] law q stream u from le = refl
no_units plan ((e, Accepted port unit effects) ∷ h) law q stream u from le =
    let before = earlier h e (Accepted port unit effects) (place_in_sub_stream q (lane_in q stream u) false) from le in
    rw (apart_from plan h q stream u port unit (accepted_on plan h e port unit effects law.0) from before).1
    (no_units plan h law.1 q stream u from before)
no_units plan ((e, w) ∷ h) law q stream u from le = no_units plan h law.1 q stream u from
    (earlier h e w (place_in_sub_stream q (lane_in q stream u) false) from le)

-- ---- an unfinished unit

abbrev Busy : SubStream → ℕ → SealedList → List Touch → Type 0
Busy s j xs ts = nat_lt 0 (length (open_unit (sub_stream_packets xs s j))) ≡ is_open ts j

pub sealed_m : (plan : Plan) (ahead bytes : List ℕ) (d : SealedPacket) (unfinished : List Packet)
    → (packet_of plan ahead bytes d unfinished).prefix.m ≡ d.m
unfolding packet_of
sealed_m plan ahead bytes d unfinished = refl

open_after : (ps : List Packet) (q : Packet) → nat_lt 0 (length (open_unit (ps ++ q ∷ []))) ≡ not q.prefix.m
open_after ps q = rw open_unit-snoc (grind (arith, nat_tests, length-append {A = Packet}))

busy_one : (plan : Plan) (ahead : SealedPacket → List ℕ) (bytes : List ℕ) (port : PortName) (s : SubStream) (j : ℕ)
    (d : SealedPacket) (unfinished : List Packet) (xs : SealedList) (ts : List Touch) → sends_it port s ≡ true
    → Busy s j xs ts → Busy s j (xs ++ (d, packet_of plan (ahead d) bytes d unfinished) ∷ [])
    (touches_after ts (touches_if (is_sender (place_in_sub_stream port s true) d) (Seal d.draw d.m)))
unfolding is_open
busy_one plan ahead bytes port s j d unfinished xs ts here before =
    ap (λ (ps : List Packet). nat_lt 0 (length (open_unit ps))) (sub_stream_packets-snoc xs (d, q) s j) ∙ by_test
    (is_same (sub_stream_of d) s) (d.draw == j) refl
    ∙ ap (λ (b : Bool). is_open (touches_after ts (touches_if b (Seal d.draw d.m))) j) (sym (seal_same port s d here))
  where
    q : Packet
    q = packet_of plan (ahead d) bytes d unfinished

    by_test : (a b : Bool) → (d.draw == j) ≡ b → nat_lt 0 (length (open_unit
        (if a && b then sub_stream_packets xs s j ++ q ∷ [] else sub_stream_packets xs s j)))
        ≡ is_open (touches_after ts (touches_if a (Seal d.draw d.m))) j
    by_test false b is = before
    by_test true false is = rw is before
    by_test true true is = rw is
        (open_after (sub_stream_packets xs s j) q ∙ ap not (sealed_m plan (ahead d) bytes d unfinished))

behind-append : (ts : List Touch) (b : Bool) (t : Touch) (more : List Touch) → touches_after ts (touches_if b t ++ more)
    ≡ touches_after (touches_after ts (touches_if b t)) more
behind-append ts true t more = refl
behind-append ts false t more = refl

busy_more : (plan : Plan) (ahead : SealedPacket → List ℕ) (bytes : List ℕ) (port : PortName) (s : SubStream) (j : ℕ)
    (ds : List SealedPacket) (xs : SealedList) (ts : List Touch) → sends_it port s ≡ true → Busy s j xs ts
    → Busy s j (with_sealed plan ahead bytes ds xs)
    (touches_after ts (seal_touches (place_in_sub_stream port s true) ds))
busy_more plan ahead bytes port s j [] xs ts here before = before
busy_more plan ahead bytes port s j (d ∷ ds) xs ts here before =
    let unfinished = open_unit (sub_stream_packets xs (sub_stream_of d) d.draw) in
    let more = busy_more plan ahead bytes port s j ds (xs ++ (d, packet_of plan (ahead d) bytes d unfinished) ∷ [])
    (touches_after ts (touches_if (is_sender (place_in_sub_stream port s true) d) (Seal d.draw d.m))) here
    (busy_one plan ahead bytes port s j d unfinished xs ts
    here before) in
    more ∙ ap (λ (us : List Touch). is_open us j)
    (sym (behind-append ts (is_sender (place_in_sub_stream port s true) d) (Seal d.draw d.m)
    (seal_touches (place_in_sub_stream port s true) ds)))

pub busy_is : (plan : Plan) (h : History) → CauseLaw plan h → (port : PortName) (s : SubStream) (j : ℕ)
    → sends_it port s ≡ true → Busy s j (sealed_packets plan h) (moments h (place_in_sub_stream port s true))
unfolding sealed_packets moments is_open sub_stream_packets open_unit
busy_is plan [] law port s j here = refl
busy_is plan ((e, Sealed ds) ∷ h) law port s j here =
    let touched = sealing_touches (manager h).ops (draws_made h) e ds (place_in_sub_stream port s true)
    (sealed_by_sealing plan h e ds law.0) in
    rw touched (busy_more plan (ahead_of_packet plan (sealed_packets plan h) (base h)) (sent_bytes plan h e) port s j ds
    _
    (moments h (place_in_sub_stream port s true)) here (busy_is plan h law.1 port s j here))
busy_is plan ((e, w) ∷ h) law port s j here =
    ap (λ (xs : SealedList). nat_lt 0 (length (open_unit (sub_stream_packets xs s j)))) (sealed_same plan h e w refl) ∙
    busy_is
    plan h law.1 port s j here ∙ sym
    (open_behind (moments h (place_in_sub_stream port s true)) (touches (manager h).ops (draws_made h) e w
    (place_in_sub_stream port s true)) j
    (touches_no_seal (manager h).ops (draws_made h) e w (place_in_sub_stream port s true) refl))

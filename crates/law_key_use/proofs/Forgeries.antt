-- A forgery is one of the cipher. Equal bytes of keys are of one sub-stream and draw (OneKey); equal IVs are of one
-- number; what comes ahead of a unit has one length, so the authenticated bytes split alike; and a tag that verifies is
-- the one that was sealed.
use Rattle.law_sealing.proofs.Terms.{◌≡◌, ℕ, zero, suc, ◌+◌, ◌<◌, ◌≤◌, ◌==◌, ◌&&◌, Bool, true, false}
use Rattle.law_sealing.proofs.Terms.{List, [], ◌∷◌, ◌++◌, length, take, drop, slice_get, Some}
use Rattle.law_sealing.proofs.Terms.{Ok, inl, inr, refl, ap, sym, ◌∙◌, subst, arith}
use Rattle.law_sealing.proofs.Terms.{cases_Bool, and_parts, eqb-true, leb-true, take_all, slice_get_cases}
use Rattle.law_sealing.proofs.Terms.{last_tag}
use Rattle.law_sealing.proofs.Terms.{Plan, SubStream, is_closed, History, Event, PortName, SealedPacket, Packet}
use Rattle.law_sealing.proofs.Terms.{Prefix, base, sealed_packets, sent_packets, sub_stream_packets, sub_stream_of}
use Rattle.law_sealing.proofs.Terms.{SealedList, received_in, ahead_due, ArrivedBytes, on_draw, port_keys, Ending}
use Rattle.law_sealing.proofs.Terms.{unit_packets_ended, iv_of, authenticated_bytes, encrypted_bytes, tag_of}
unfoldable use Rattle.gcm_seal.specs.Gcm.{seal_of, ciphertext_of, open_of}
use Rattle.gcm_seal.proofs.Sealing.{masked_bytes-masked_bytes, verifies-tag}
use Rattle.law_sealing.proofs.Terms.{CauseLaw, WasSealed, On, key_in, units_got}
use Rattle.law_delivery.specs.NoForgeryUnder.{NoForgeryUnder, NotForgedUnder}
use Rattle.law_sealing.proofs.Terms.{units-end, units-more, received_there, numbered, Passed}
unfoldable use Rattle.law_sealing.proofs.Terms.{units, open_unit, ahead_of_unit, ahead_sent, packet_of, before_tag}
unfoldable use Rattle.law_sealing.proofs.Terms.{is_verified}
use Rattle.law_sealing.proofs.OfPlans.{streams_fit}
use Rattle.law_sealing.proofs.Places.{sent_place, place_among}
use Rattle.law_sealing.proofs.Sums.{next_taken}
use Rattle.law_sealing.proofs.Fronts.{IsSealedIn}
use Rattle.law_sealing.proofs.FirstFronts.{front_is}
use Rattle.law_sealing.proofs.Drawn.{draws_within}
use Rattle.law_delivery.proofs.Orders.{is_drawn}
use Rattle.law_delivery.proofs.Prefixes.{all_first, last_tag-snoc}
use Rattle.law_delivery.proofs.SameFronts.{fronted}
use Rattle.law_key_facts.proofs.Draws.{draws as draws_hold}
use Rattle.law_key_facts.proofs.Given.{key_cause}
use Rattle.law_key_facts.proofs.SealedKeys.{all_owned, below_draws, on_is_owned}
use Rattle.spec_keys.specs.History.{manager}
use Rattle.spec_keys.specs.Places.{received_direction}
use Rattle.spec_keys.proofs.Owners.{Owner, owner, begun_below}
use Rattle.spec_links.specs.Plan.{key_plan}
unfoldable use Rattle.spec_links.specs.Plan.{key_of}
unfoldable use Rattle.spec_links.specs.Ports.{goes_through}
use Rattle.std.proofs.lemmas.Option.{slice_get_within}
use Rattle.ide_types.specs.declared.port.Side.{Side}
use Rattle.ide_types.specs.Fits.{FitsPlan}
use Rattle.std.specs.Prelude.{◌^◌, ◌/◌, if◌then◌else◌}
use Rattle.std.specs.Int.{w64, to_be_bytes}
use Rattle.byteorder.specs.Endian.{big_bytes, big_number}
use Rattle.law_key_use.specs.Forgeries.{IsOfSealed, CipherNotForgedUnder, NoCipherForgeryUnder}
use Rattle.law_key_use.specs.Forgeries.{ForgeriesAreOfCipher}
use Rattle.law_sealing.proofs.Numbers.{direction_small, number_again, same_key}
use Rattle.law_key_use.proofs.OneKey.{one_stream}
use Rattle.law_key_use.proofs.Limits.{key_limits}
use Rattle.law_delivery.proofs.Wholes.{tag_is}
use Rattle.law_delivery.proofs.SameFronts.{no_front, due_off}
use Rattle.law_delivery.proofs.EachForgery.{passed_of}
use Rattle.law_delivery.proofs.GotUnits.{last_at}

-- ---- IVs

same_number : (m n : ℕ) → m < 2 ^ 64 → n < 2 ^ 64 → big_bytes 8 m ≡ big_bytes 8 n → m ≡ n
same_number m n m_less n_less same = sym (number_again m m_less) ∙ (ap (big_number 8) same ∙ number_again n n_less)

-- ---- lists

split_alike : {A : Type 0} (ps qs xs ys : List A) → length ps ≡ length qs → ps ++ xs ≡ qs ++ ys → (ps ≡ qs) × (xs ≡ ys)
split_alike [] [] xs ys size same = (refl, same)
split_alike (p ∷ ps) (q ∷ qs) xs ys size same =
    let rest = split_alike ps qs xs ys (omega (arith, size)) cc in
    let first : p ≡ q = cc in
    ((λ i. first i ∷ rest.0 i), rest.1)
split_alike [] (q ∷ qs) xs ys size same = absurd (omega (arith, size))
split_alike (p ∷ ps) [] xs ys size same = absurd (omega (arith, size))

-- where a finished unit ends
record EndsAt (ps : List Packet) (place : ℕ) (unit : List Packet) : Type 0 where
  m : ℕ
  last : Packet
  stands : slice_get ps m ≡ Some last
  ends : last.prefix.m ≡ true
  number : length (units (take m ps)) ≡ place
  joined : unit ≡ open_unit (take m ps) ++ last ∷ []

ends_at : (ps : List Packet) (n place : ℕ) (unit : List Packet) → slice_get (units (take n ps)) place ≡ Some unit
    → EndsAt ps place unit
unfolding units
ends_at ps zero place unit is = absurd cc
ends_at ps (suc n) place unit is = elim (slice_get_cases ps n).1 [
  | inl at ↦ by_end at.0 at.2 (λ older. ends_at ps n place unit older) at.0.prefix.m refl
  | inr past ↦
      let le = past.0 in
      let same : take (suc n) ps ≡ take n ps = take_all (suc n) ps (omega (arith, le)) ∙ sym (take_all n ps le) in
      ends_at ps n place unit (ap (λ (qs : List Packet). slice_get (units qs) place) (sym same) ∙ is)
]
  where
    by_end : (p : Packet) → slice_get ps n ≡ Some p
        → (slice_get (units (take n ps)) place ≡ Some unit → EndsAt ps place unit) → (b : Bool) → p.prefix.m ≡ b
        → EndsAt ps place unit
    by_end p at before false m = before (ap (λ (us : List (List Packet)). slice_get us place)
        (sym (ap units (next_taken ps n p at) ∙ units-more (take n ps) p m)) ∙ is)
    by_end p at before true m =
        let next = ap units (next_taken ps n p at) ∙ units-end (take n ps) p m in
        elim (last_at (units (take n ps)) (open_unit (take n ps) ++ p ∷ []) unit place
        (ap (λ (us : List (List Packet)). slice_get us place) (sym next) ∙ is)) [
          | inl older ↦ before older
          | inr here ↦ record
              { m = n; last = p; stands = at; ends = m; number = sym here.1; joined = here.0 }
        ]

-- ---- what was sealed

-- the last tag of a unit whose last packet is so, by other names of its sub-stream, draw and number
unit_tag_is : (plan : Plan) (ahead bytes : List ℕ) (d : SealedPacket) (s : SubStream) (j n : ℕ)
    (unfinished unit : List Packet) (p : Packet) → d.m ≡ true → sub_stream_of d ≡ s → d.draw ≡ j → d.unit ≡ n
    → p ≡ packet_of plan ahead bytes d unfinished → unit ≡ unfinished ++ p ∷ []
    → last_tag unit ≡ tag_of (key_of plan j s) (iv_of s.sub n) (ahead ++ authenticated_bytes unit)
    (encrypted_bytes unit)
unit_tag_is plan ahead bytes d s j n unfinished unit p m stream draw number packet joined =
    ap last_tag joined ∙ (last_tag-snoc unfinished p ∙ (ap (λ (q : Packet). q.tag) packet
    ∙ (tag_is plan ahead bytes d unfinished m
    ∙ ((λ i. tag_of (key_of plan (draw i) (stream i)) (iv_of (stream i).sub (number i))
    (ahead ++ authenticated_bytes (unfinished ++ sym packet i ∷ []))
    (encrypted_bytes (unfinished ++ sym packet i ∷ [])))
    ∙ ap (λ (u : List Packet). tag_of (key_of plan j s) (iv_of s.sub n) (ahead ++ authenticated_bytes u)
    (encrypted_bytes u)) (sym joined)))))

-- how it was sealed, by other names of its sub-stream, draw and number
other_names : (plan : Plan) (h : History) (bytes : List ℕ) (d : SealedPacket) (s : SubStream) (j n : ℕ) (p : Packet)
    (before : SealedList) (unfinished : List Packet) → sub_stream_of d ≡ s → d.draw ≡ j → d.unit ≡ n
    → open_unit (sub_stream_packets before s j) ≡ unfinished
    → p ≡ packet_of plan (ahead_sent plan h (sub_stream_of d) d.draw d.unit) bytes d
    (open_unit (sub_stream_packets before (sub_stream_of d) d.draw))
    → p ≡ packet_of plan (ahead_sent plan h s j n) bytes d unfinished
other_names plan h bytes d s j n p before unfinished stream draw number opens packet =
    packet
    ∙ ((λ i. packet_of plan (ahead_sent plan h (stream i) (draw i) (number i)) bytes d
    (open_unit (sub_stream_packets before (stream i) (draw i))))
    ∙ ap (packet_of plan (ahead_sent plan h s j n) bytes d) opens)

-- of a finished unit: its tag, and whose its draw is
record SealedUnit (plan : Plan) (h : History) (s : SubStream) (j place : ℕ) (unit : List Packet) : Type 0 where
  tag : last_tag unit ≡ tag_of (key_of plan j s) (iv_of s.sub (place + 1))
      (ahead_sent plan h s j (place + 1) ++ authenticated_bytes unit) (encrypted_bytes unit)
  drawn : j < length plan.pool / 6
  direction : s.direction < 2
  set : Bool
  owned : Owner (manager h).begun s.line s.stream set j
  among : IsSealedIn plan h s j

module _ (plan : Plan) (fits : FitsPlan plan) (h : History) (law : CauseLaw plan h) where
  sealed_unit : (s : SubStream) (j place : ℕ) (unit : List Packet)
      → slice_get (units (sent_packets plan h s j)) place ≡ Some unit → SealedUnit plan h s j place unit
  sealed_unit s j place unit is =
      let xs = sealed_packets plan h in
      let ps = sent_packets plan h s j in
      let at = ends_at ps (length ps) place unit
      (ap (λ (qs : List Packet). slice_get (units qs) place) (take_all (length ps) ps (omega arith)) ∙ is) in
      let there = sent_place plan (streams_fit plan fits) (draws_hold plan) h law s j at.m at.last at.stands in
      let d = there.description in
      let m_is = sym (ap (λ (f : Prefix). f.m) there.prefix) ∙ at.ends in
      let front = fronted plan (streams_fit plan fits) (draws_hold plan) h law there.place (d, at.last) there.stands
      m_is in
      let number : d.unit ≡ place + 1 = there.unit ∙ ap (λ k. k + 1) at.number in
      let unfinished = open_unit (take at.m ps) in
      let packet = other_names plan h front.bytes d s j (place + 1) at.last (take there.place xs) unfinished
      there.stream there.draw number (ap open_unit there.before) front.packet in
      let among = place_among xs s j at.m at.last at.stands in
      let owned = all_owned plan h law there.place (d, at.last) there.stands in
      record {
        tag = unit_tag_is plan (ahead_sent plan h s j (place + 1)) front.bytes d s j (place + 1) unfinished unit at.last
            m_is there.stream there.draw number packet at.joined;
        drawn = let less = below_draws plan h law there.place (d, at.last) there.stands in
            let most = draws_within (key_plan plan) h (key_cause plan h law) in
            omega (arith, less, most, there.draw);
        direction = subst (λ (t : SubStream). t.direction < 2) there.stream (direction_small d.port.side);
        set = d.k;
        owned = subst (λ (t : SubStream). Owner (manager h).begun t.line t.stream d.k j) there.stream
            (subst (Owner (manager h).begun d.port.line d.stream d.k) there.draw owned);
        among = record { place = among.place; sealed = among.sealed; stands = among.stands; under = among.under };
      }

-- ---- what comes ahead

-- a total takes as many bytes as any other
one_size : (plan : Plan) (s : SubStream) (n a b : ℕ) → length (ahead_of_unit plan s n a)
    ≡ length (ahead_of_unit plan s n b)
unfolding ahead_of_unit
one_size plan s n a b = by_test (is_closed plan s.line s.stream && (n == 1))
  where
    by_test : (f : Bool) → length (if f then to_be_bytes w64 a else []) ≡ length (if f then to_be_bytes w64 b else [])
    by_test true = refl
    by_test false = refl

same_size : (plan : Plan) → FitsPlan plan → (h : History) → CauseLaw plan h → (s : SubStream) (j n : ℕ)
    → base h s.line s.stream ≤ j → IsSealedIn plan h s j → length (ahead_sent plan h s j n)
    ≡ length (ahead_due plan h s n)
same_size plan fits h law s j n least among = elim (cases_Bool (is_closed plan s.line s.stream && (n == 1))) [
  | inl first ↦
      let one : n ≡ 1 = eqb-true n 1 (and_parts (is_closed plan s.line s.stream) (n == 1) first).1 in
      rw one (ap length (front_is plan (streams_fit plan fits) (draws_hold plan) h law s j among least)
      ∙ one_size plan s 1 _ _)
  | inr off ↦ ap length (no_front plan h s j n off ∙ sym (due_off plan h s n off))
]

-- ---- of a packet whose tag is looked at

received_small : (side : Side) → received_direction side < 2
received_small side = grind arith

module _ (plan : Plan) (fits : FitsPlan plan) (h : History) (law : CauseLaw plan h) (port : PortName) (x : Ending)
    (passed : Passed plan h port x.packet x.unit) (verified : is_verified plan h port x ≡ true) where
  abbrev s : SubStream
  s = received_in port x.unit

  abbrev j : ℕ
  j = x.unit.draw

  abbrev n : ℕ
  n = x.unit.unit

  abbrev ended : List Packet
  ended = unit_packets_ended plan h port x

  on : key_in (port_keys h port s) x.packet.prefix.k ≡ On j
  on = is_drawn (key_in (port_keys h port s) x.packet.prefix.k) j
      (ap (λ (t : SubStream). on_draw h port t x.packet.prefix.k)
      (received_there plan h port x.packet x.unit passed) ∙ passed.live)

  -- the finished unit of that number, if it has these bytes
  was_sealed : (unit : List Packet) (place : ℕ) → place + 1 ≡ n
      → slice_get (units (sent_packets plan h s j)) place ≡ Some unit
      → ahead_sent plan h s j (place + 1) ++ authenticated_bytes unit
      ≡ ahead_due plan h s n ++ authenticated_bytes ended → encrypted_bytes unit ≡ encrypted_bytes ended
      → WasSealed plan h port x
  unfolding is_verified
  was_sealed unit place number finished authenticated encrypted =
      let sealed = sealed_unit plan fits h law s j place unit finished in
      let least = leb-true _ _ ((draws_hold plan).from_base h law port s x.packet.prefix.k j on) in
      let there : ahead_sent plan h s j n ++ authenticated_bytes unit
      ≡ ahead_due plan h s n ++ authenticated_bytes ended =
      (λ i. ahead_sent plan h s j (sym number i) ++ authenticated_bytes unit) ∙ authenticated in
      let parts = split_alike (ahead_sent plan h s j n) (ahead_due plan h s n) (authenticated_bytes unit)
      (authenticated_bytes ended) (same_size plan fits h law s j n least sealed.among) there in
      record {
        unit = unit;
        place = place;
        numbered = number;
        finished = finished;
        same_authenticated = parts.1;
        same_encrypted = encrypted;
        same_ahead = parts.0;
        same_tag = sealed.tag
            ∙ ((λ i. tag_of (key_of plan j s) (iv_of s.sub (number i)) (authenticated i) (encrypted i))
            ∙ sym (verifies-tag (key_of plan j s) (iv_of s.sub n) (ahead_due plan h s n ++ authenticated_bytes ended)
            (encrypted_bytes ended) x.packet.tag verified));
      }

  of_sealed : n < 2 ^ 64 → IsOfSealed plan h port x → WasSealed plan h port x
  of_sealed small made =
      let sealed = sealed_unit plan fits h law made.sub_stream made.draw made.place made.unit made.finished in
      let owned = on_is_owned h port s x.packet.prefix.k j on in
      let drawn = begun_below (manager h).begun j (owner s.line s.stream x.packet.prefix.k) owned in
      let most = draws_within (key_plan plan) h (key_cause plan h law) in
      let key = same_key plan fits made.draw j made.sub_stream s sealed.drawn (omega (arith, drawn, most))
      sealed.direction (received_small port.side) made.same_key in
      let stream = one_stream h made.sub_stream s made.draw j sealed.set x.packet.prefix.k key sealed.owned owned in
      let within = slice_get_within (units (sent_packets plan h made.sub_stream made.draw)) made.place made.unit
      made.finished in
      let limit = (key_limits plan fits h law).finished made.sub_stream made.draw in
      let units_most = fits.units_most in
      let number : made.place + 1 ≡ n = same_number (made.place + 1) n (omega (arith, within, limit, units_most)) small
      (ap (λ (iv : List ℕ). drop 4 iv) made.same_iv) in
      was_sealed made.unit made.place number
      ((λ i. slice_get (units (sent_packets plan h (sym stream i) (sym key.draw i))) made.place) ∙ made.finished)
      ((λ i. ahead_sent plan h (sym stream i) (sym key.draw i) (made.place + 1) ++ authenticated_bytes made.unit)
      ∙ made.same_authenticated) made.same_encrypted

-- a ciphertext with its tag is what the cipher makes of its plaintext
sealed_as : (key iv a c tag : List ℕ) → tag ≡ tag_of key iv a c → seal_of key iv a (open_of key iv c) ≡ (c, tag)
unfolding seal_of ciphertext_of open_of
sealed_as key iv a c tag is =
    let again = masked_bytes-masked_bytes key iv 0 c in
    λ i. (again i, (ap (tag_of key iv a) again ∙ sym is) i)

-- ---- the premises

one_unit : (plan : Plan) → FitsPlan plan → (h : History) → CauseLaw plan h → (a : ArrivedBytes) (x : Ending)
    → before_tag plan h a ≡ Ok x → is_verified plan h a.port x ≡ true → x.unit.unit < 2 ^ 64
    → IsOfSealed plan h a.port x → WasSealed plan h a.port x
one_unit plan fits h law a x is verified small made =
    of_sealed plan fits h law a.port x (passed_of plan h a x is) verified small made

not_forged : (plan : Plan) → FitsPlan plan → (h : History) → CauseLaw plan h → (e : Event) (s : SubStream) (j : ℕ)
    → NoForgeryUnder plan h s j → CipherNotForgedUnder plan h e s j → NotForgedUnder plan h e s j
not_forged plan fits h law e s j before none a x arrival is stream draw verified =
    let got = (all_first plan (streams_fit plan fits) (draws_hold plan) h law s j before).within in
    let limit = (key_limits plan fits h law).finished s j in
    let number = numbered plan h a.port x.packet x.unit (passed_of plan h a x is) in
    let count : units_got h (received_in a.port x.unit) x.unit.draw ≡ units_got h s j =
    (λ i. units_got h (stream i) (draw i)) in
    let most = fits.units_most in
    one_unit plan fits h law a x is verified (omega (arith, got, limit, number, count, most))
    (none a x arrival is stream draw verified)

suffices : (plan : Plan) → FitsPlan plan → (h : History) → CauseLaw plan h → (s : SubStream) (j : ℕ)
    → NoCipherForgeryUnder plan h s j → NoForgeryUnder plan h s j
suffices plan fits [] law s j none = tt
suffices plan fits ((e, w) ∷ h) law s j none =
    let before = suffices plan fits h law.1 s j none.1 in
    (not_forged plan fits h law.1 e s j before none.0, before)

follows : (plan : Plan) (h : History) (s : SubStream) (j : ℕ) → NoForgeryUnder plan h s j
    → NoCipherForgeryUnder plan h s j
follows plan [] s j none = tt
follows plan ((e, w) ∷ h) s j none = (
  λ a x arrival is stream draw verified.
      let was = none.0 a x arrival is stream draw verified in
      let t = received_in a.port x.unit in
      record {
        sub_stream = t;
        draw = x.unit.draw;
        place = was.place;
        unit = was.unit;
        finished = was.finished;
        same_key = refl;
        same_iv = ap (iv_of t.sub) was.numbered;
        same_authenticated =
            (λ i. ahead_sent plan h t x.unit.draw (was.numbered i) ++ authenticated_bytes was.unit)
            ∙ (λ i. was.same_ahead i ++ was.same_authenticated i);
        same_encrypted = was.same_encrypted;
      },
  follows plan h s j none.1,
)

pub forgeries : (plan : Plan) → FitsPlan plan → (h : History) → CauseLaw plan h → ForgeriesAreOfCipher plan h
forgeries plan fits h law = record {
  sealings = λ s j place unit finished. sealed_as (key_of plan j s) (iv_of s.sub (place + 1)) _ (encrypted_bytes unit)
      (last_tag unit) (sealed_unit plan fits h law s j place unit finished).tag;
  one_unit = λ e a x arrival. one_unit plan fits h law a x;
  suffices = suffices plan fits h law;
  follows = follows plan h;
}

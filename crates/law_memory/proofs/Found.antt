-- Where a sealed packet of a device comes from: the send, or the response, that sealed it, and what was known then.
use Rattle.law_sealing.proofs.Terms.{◌≡◌, ℕ, ◌+◌, ◌<◌, ◌≤◌, ◌==◌, ◌⊎◌, inl, inr, zero, suc, Bool, true, false, List, []}
use Rattle.law_sealing.proofs.Terms.{◌∷◌, ◌++◌, length, length-append, slice_get, Some, refl, ap, sym, subst, arith}
use Rattle.law_sealing.proofs.Terms.{if◌then◌else◌, AllByRecursion, nat_tests, Plan, History, base, Event, Send}
use Rattle.law_sealing.proofs.Terms.{Verdict, Sealed, SealedPacket, PortName, Packet, SealedList, ahead_of_packet}
use Rattle.law_sealing.proofs.Terms.{with_sealed, open_unit, sub_stream_packets, sub_stream_of, eqb-refl, CauseLaw}
use Rattle.law_sealing.proofs.Terms.{sealing_is, sealed_by_sealing, AllLive, all_live, sent_bytes, sending_port, ◌∙◌}
unfoldable use Rattle.law_sealing.proofs.Terms.{due, sealed_packets, packet_of}
use Rattle.ide_types.specs.declared.direction.Direction.{Direction}
use Rattle.ide_types.specs.declared.direction.Direction.TheVariants.{Downstream, Upstream}
use Rattle.ide_types.specs.Fits.{FitsPlan}
use Rattle.spec_links.specs.Hops.{has_hop, leaving_end}
use Rattle.spec_links.specs.Plan.{has_link}
use Rattle.ide_types.specs.Ports.{host_port}
use Rattle.law_reads.proofs.Forwarded.{forward_means}
use Rattle.law_reads.proofs.Oldest.{first_means}
use Rattle.spec_links.proofs.Terms.{Device}
use Rattle.script_events.specs.declared.event.AccessEvent.TheVariants as ae
use Rattle.spec_interfaces.specs.Sites.{Site, sites_of_plans, sites_of_links, site_at}
unfoldable use Rattle.spec_interfaces.specs.Sites.{sites}
use Rattle.spec_interfaces.specs.Terms.{LinkPlan, InterfacePlan}
use Rattle.spec_interfaces.specs.Cause.{InterfaceCause}
use Rattle.spec_interfaces.specs.Laws.{OfTrusted}
use Rattle.law_memory.specs.Origin.{CameFrom}
use Rattle.law_memory.specs.Bindings.{is_sent_by_device}
use Rattle.std.specs.Prelude.{find}
use Rattle.law_delivery.proofs.GotUnits.{last_at}
use Rattle.std.proofs.Common.{get_or}
use Rattle.tlp_layout.specs.declared.head.HeadView.{HeadView}
use Rattle.tlp_layout.specs.declared.fault.TlpFault.{TlpFault}
use Rattle.tlp_layout.specs.Reading.{read_head_of}
use Rattle.tlp_layout.proofs.Heads.{kept, head_size_at_least}
use Rattle.tlp_layout.proofs.Readings.{read_head_spells}
use Rattle.spec_links.specs.History.{head_in}
use Rattle.law_sealing.proofs.Below.{is_read}
use Rattle.law_sealing.proofs.Terms.{Result, Ok, Err, Tlp, header, head_bytes, read_of}
use Rattle.script_events.specs.declared.event.Event.TheVariants as event
use Rattle.event_verdicts.specs.declared.verdict.Verdict.TheVariants as v

-- ---- places

pub get_less : {A : Type 0} (xs : List A) (i : ℕ) (x : A) → slice_get xs i ≡ Some x → i < length xs
get_less [] i x is = absurd cc
get_less (y ∷ xs) zero x is = omega arith
get_less (y ∷ xs) (suc i) x is = let rest = get_less xs i x is in omega (arith, rest)

pub all_get : {A : Type 0} (P : A → Type 0) (xs : List A) (i : ℕ) (x : A) → AllByRecursion P xs → slice_get xs i
    ≡ Some x → P x
all_get P [] i x all is = absurd cc
all_get P (y ∷ xs) zero x all is = subst P (cc) all.0
all_get P (y ∷ xs) (suc i) x all is = all_get P xs i x all.1 is

pub get_behind : {A : Type 0} (xs ys : List A) (n : ℕ) → slice_get (xs ++ ys) (length xs + n) ≡ slice_get ys n
get_behind [] ys n = let e : 0 + n ≡ n = omega arith in ap (λ (k : ℕ). slice_get ys k) e
get_behind (x ∷ xs) ys n = let e : suc (length xs) + n ≡ suc (length xs + n) = omega arith in rw e (get_behind xs ys n)

-- ---- the event that sealed a packet

-- the packet is one of this event's
pub record IsNew (plan : Plan) (bytes : List ℕ) (ds : List SealedPacket) (d : SealedPacket) (p : Packet) : Type 0 where
  pub index : ℕ
  pub listed : slice_get ds index ≡ Some d
  pub ahead : List ℕ
  pub unfinished : List Packet
  pub packet : p ≡ packet_of plan ahead bytes d unfinished

new_later : (plan : Plan) (bytes : List ℕ) (e d : SealedPacket) (ds : List SealedPacket) (p : Packet)
    → IsNew plan bytes ds d p → IsNew plan bytes (e ∷ ds) d p
new_later plan bytes e d ds p new = record
    { index = suc new.index; listed = new.listed; ahead = new.ahead; unfinished = new.unfinished; packet = new.packet }

with_at : (plan : Plan) (ahead : SealedPacket → List ℕ) (bytes : List ℕ) (ds : List SealedPacket) (xs : SealedList)
    (k : ℕ) (x : SealedPacket × Packet) → slice_get (with_sealed plan ahead bytes ds xs) k ≡ Some x
    → (slice_get xs k ≡ Some x) ⊎ ((length xs ≤ k) × IsNew plan bytes ds x.0 x.1)
with_at plan ahead bytes [] xs k x is = inl is
with_at plan ahead bytes (d ∷ ds) xs k x is =
    let unfinished = open_unit (sub_stream_packets xs (sub_stream_of d) d.draw) in
    let p = packet_of plan (ahead d) bytes d unfinished in
    elim (with_at plan ahead bytes ds (xs ++ (d, p) ∷ []) k x is) [
      | inl before ↦ elim (last_at xs (d, p) x k before) [
        | inl older ↦ inl older
        | inr here ↦ inr (
          omega (arith, here.1),
          subst (λ (y : SealedPacket × Packet). IsNew plan bytes (d ∷ ds) y.0 y.1) (sym here.0) (record {
            index = 0;
            listed = refl;
            ahead = ahead d;
            unfinished = unfinished;
            packet = refl;
          }),
        )
      ]
      | inr new ↦ inr (omega (arith, new.0, length-append xs ((d, p) ∷ [])), new_later plan bytes d x.0 ds x.1 new.1)
    ]

-- ---- its header

-- a packet with T is no sync packet
pub not_synced : (sync t : Bool) → (if sync then false else t) ≡ true → sync ≡ false
not_synced true t e = absurd cc
not_synced false t e = refl

-- the header that it was sealed with is that of the TLP that was sent
no_head : (head : HeadView) → read_head_of [] ≡ Ok head → ⊥
no_head head is =
    let spells = (read_head_spells head []).1 is in
    let right = kept head spells.fits in
    let size = ap length spells.spelled ∙ right.size in
    omega (arith, size, head_size_at_least (get_or (head_bytes head) 0 0))

pub head_of : (bytes : List ℕ) (head : HeadView) (r : Result Tlp TlpFault) → read_of bytes ≡ r
    → read_head_of (head_in r) ≡ Ok head → (t : Tlp) × (r ≡ Ok t) × (header t ≡ head)
head_of bytes head (Ok t) reads is =
    let again = (read_head_spells (header t) (head_bytes (header t))).0 (is_read bytes t reads).head in
    (t, refl, cc (again, is))
head_of bytes head (Err f) reads is = absurd (no_head head is)

pub head_is : (plan : Plan) (ahead bytes : List ℕ) (d : SealedPacket) (unfinished : List Packet) → d.sync ≡ false
    → (packet_of plan ahead bytes d unfinished).head ≡ head_in (read_of bytes)
unfolding packet_of
head_is plan ahead bytes d unfinished sync = rw sync refl

-- ---- its pair

-- at which it was sealed
pub record Sealing (plan : Plan) (h : History) (k : ℕ) (d : SealedPacket) (p : Packet) : Type 0 where
  pub event : Event
  pub own : is_sent_by_device event ≡ true
  pub ds : List SealedPacket
  pub older : History
  pub came : CameFrom ((event, Sealed ds) ∷ older) h
  pub from : length (sealed_packets plan older) ≤ k
  pub until : k < length (sealed_packets plan ((event, Sealed ds) ∷ older))
  pub new : IsNew plan (sent_bytes plan older event) ds d p

came_later : (g h : History) (x : Event × Verdict) → CameFrom g h → CameFrom g (x ∷ h)
came_later g h x came = record { since = x ∷ came.since; is = ap (λ (k : History). x ∷ k) came.is }

sealing_later : (plan : Plan) (h : History) (x : Event × Verdict) (k : ℕ) (d : SealedPacket) (p : Packet)
    → Sealing plan h k d p → Sealing plan (x ∷ h) k d p
sealing_later plan h x k d p at = record {
  event = at.event;
  own = at.own;
  ds = at.ds;
  older = at.older;
  came = came_later _ h x at.came;
  from = at.from;
  until = at.until;
  new = at.new;
}

-- the packets of an event are those of its end
pub live_port : (plan : Plan) (h : History) (port : PortName) (stream : ℕ) (ds : List SealedPacket) (i : ℕ)
    (d : SealedPacket) → AllLive plan h port stream ds → slice_get ds i ≡ Some d → d.port ≡ port
live_port plan h port stream [] i d all is = absurd cc
live_port plan h port stream (y ∷ ds) zero d all is =
    let same : y ≡ d = cc (is) in ap (λ (z : SealedPacket). z.port) (sym same) ∙ all.0.port_is
live_port plan h port stream (y ∷ ds) (suc i) d all is = live_port plan h port stream ds i d all.1 is

sealed_at_end : (plan : Plan) (h : History) (e : Event) (ds : List SealedPacket) (i : ℕ) (d : SealedPacket)
    → Sealed ds ≡ due plan h e → slice_get ds i ≡ Some d → d.port ≡ sending_port plan h e
sealed_at_end plan h e ds i d is at =
    let sealing = sealing_is plan h e ds is in
    live_port plan h sealing.sending.port sealing.sending.stream ds i d
    (all_live plan h (sending_port plan h e) (sent_bytes plan h e) ds sealing) at
    ∙ sealing.at_port

-- an answer and a forward that seal are of a link, and of a link's hop, that the topology has
answers_link : (plan : Plan) (h : History) (link : ℕ) (ds : List SealedPacket)
    → Sealed ds ≡ due plan h (event.Access (ae.Answer link)) → has_link plan link ≡ true
unfolding due
answers_link plan h link ds is = (first_means plan h (host_port link) _ (Sealed ds) refl is).known

-- an event that seals at no end of an answer or of a forward is a send or a response
own_event : (plan : Plan) (h : History) (e : Event) (ds : List SealedPacket) (i : ℕ) (d : SealedPacket)
    → Sealed ds ≡ due plan h e → slice_get ds i ≡ Some d
    → ((link : ℕ) → has_link plan link ≡ true → d.port ≡ host_port link → ⊥)
    → ((link : ℕ) (way : Direction) → has_hop plan link ≡ true → d.port ≡ leaving_end link way → ⊥)
    → is_sent_by_device e ≡ true
own_event plan h (Send port bytes more trusted) ds i d is at answers forwards = refl
own_event plan h (event.Access (ae.Respond link)) ds i d is at answers forwards = refl
own_event plan h (event.Access (ae.Answer link)) ds i d is at answers forwards =
    absurd (answers link (answers_link plan h link ds is)
    (sealed_at_end plan h (event.Access (ae.Answer link)) ds i d is at))
own_event plan h (event.Forward link way) ds i d is at answers forwards =
    absurd (forwards link way (forward_means plan h link way ds is).known
    (sealed_at_end plan h (event.Forward link way) ds i d is at))
own_event plan h e ds i d is at answers forwards =
    absurd (let sealing = sealed_by_sealing plan h e ds is in cc)

-- of a packet that was sealed at no end of an answer or of a forward
pub sealing_by : (plan : Plan) (h : History) → CauseLaw plan h → (k : ℕ) (d : SealedPacket) (p : Packet)
    → ((link : ℕ) → has_link plan link ≡ true → d.port ≡ host_port link → ⊥)
    → ((link : ℕ) (way : Direction) → has_hop plan link ≡ true → d.port ≡ leaving_end link way → ⊥)
    → slice_get (sealed_packets plan h) k ≡ Some (d, p) → Sealing plan h k d p
unfolding sealed_packets
sealing_by plan [] cause k d p answers forwards is = absurd cc
sealing_by plan ((e, Sealed ds) ∷ h) cause k d p answers forwards is =
    let ahead = ahead_of_packet plan (sealed_packets plan h) (base h) in
    elim (with_at plan ahead (sent_bytes plan h e) ds (sealed_packets plan h) k (d, p) is) [
      | inl before ↦ sealing_later plan h (e, Sealed ds) k d p
          (sealing_by plan h cause.1 k d p answers forwards before)
      | inr new ↦ record {
        event = e;
        own = own_event plan h e ds new.1.index d cause.0 new.1.listed answers forwards;
        ds = ds;
        older = h;
        came = record { since = []; is = refl };
        from = new.0;
        until = get_less (with_sealed plan ahead (sent_bytes plan h e) ds (sealed_packets plan h)) k (d, p) is;
        new = new.1;
      }
    ]
sealing_by plan ((e, w) ∷ h) cause k d p answers forwards is =
    sealing_later plan h (e, w) k d p (sealing_by plan h cause.1 k d p answers forwards is)

host_or_device : (e : PortName) (link : ℕ) → e ≡ host_port link → e.side ≡ Device → ⊥
host_or_device e link host device = let side = ap (λ (q : PortName). q.side) host in absurd cc

-- a switch is on no link
leaving_far : (plan : Plan) → FitsPlan plan → (link : ℕ) (way : Direction)
    → (leaving_end link way).line < length plan.links → ⊥
leaving_far plan fits link Downstream less = let most = fits.links_most in omega (arith, less, most)
leaving_far plan fits link Upstream less = let most = fits.links_most in omega (arith, less, most)

-- of a packet of a link's device
pub sealing_of : (plan : Plan) → FitsPlan plan → (h : History) → CauseLaw plan h
    → (k : ℕ) (d : SealedPacket) (p : Packet) → d.port.side ≡ Device → d.port.line < length plan.links
    → slice_get (sealed_packets plan h) k ≡ Some (d, p) → Sealing plan h k d p
sealing_of plan fits h cause k d p device less is =
    sealing_by plan h cause k d p (λ link known same. host_or_device d.port link same device)
    (λ link way known same. leaving_far plan fits link way
    (subst (λ (q : PortName). q.line < length plan.links) same less)) is

-- ---- what holds of a history holds at each pair that it came from

cause_since : (plan : Plan) (since g : History) → InterfaceCause plan (since ++ g) → InterfaceCause plan g
cause_since plan [] g cause = cause
cause_since plan ((e, w) ∷ since) g cause = cause_since plan since g cause.1

pub cause_before : (plan : Plan) (g h : History) → CameFrom g h → InterfaceCause plan h → InterfaceCause plan g
cause_before plan g h came cause = cause_since plan came.since g (subst (InterfaceCause plan) (sym came.is) cause)

law_since : (plan : Plan) (since g : History) → CauseLaw plan (since ++ g) → CauseLaw plan g
law_since plan [] g cause = cause
law_since plan ((e, w) ∷ since) g cause = law_since plan since g cause.1

pub cause_at : (plan : Plan) (since g h : History) → since ++ g ≡ h → CauseLaw plan h → CauseLaw plan g
cause_at plan since g h is cause = law_since plan since g (subst (CauseLaw plan) (sym is) cause)

trusted_tail : (plan : Plan) (x : Site) (P : History → SealedPacket → Type 0) (e : Event) (w : Verdict) (h : History)
    → OfTrusted plan x P ((e, w) ∷ h) → OfTrusted plan x P h
trusted_tail plan x P (event.Send port bytes more trusted) (v.Sealed ds) h all = all.1
trusted_tail plan x P e w h all = all

trusted_since : (plan : Plan) (x : Site) (P : History → SealedPacket → Type 0) (since g : History)
    → OfTrusted plan x P (since ++ g) → OfTrusted plan x P g
trusted_since plan x P [] g all = all
trusted_since plan x P ((e, w) ∷ since) g all = trusted_since plan x P since g
    (trusted_tail plan x P e w (since ++ g) all)

pub trusted_before : (plan : Plan) (x : Site) (P : History → SealedPacket → Type 0) (g h : History) → CameFrom g h
    → OfTrusted plan x P h → OfTrusted plan x P g
trusted_before plan x P g h came all = trusted_since plan x P came.since g
    (subst (OfTrusted plan x P) (sym came.is) all)

-- ---- interfaces by their numbers

-- what is found among them is found by its number, which is no less than the first
abbrev FoundByNumber : ℕ → List Site → Type 0
FoundByNumber n xs = (test : Site → Bool) (x : Site) → find test xs ≡ Some x → (n ≤ x.number)
    × (find (λ y. y.number == x.number) xs ≡ Some x)

number_above : (n m : ℕ) → n + 1 ≤ m → (n == m) ≡ false
number_above n m above = grind (arith, nat_tests)

one_more : (n link : ℕ) (p : InterfacePlan) (xs : List Site) → FoundByNumber (n + 1) xs
    → FoundByNumber n (record { number = n; link = link; plan = p } ∷ xs)
one_more n link p xs rest test x is = by (test here) is
  where
    here : Site
    here = record { number = n; link = link; plan = p }

    by : (b : Bool) → (if b then Some (record { number = n; link = link; plan = p }) else find test xs) ≡ Some x
        → (n ≤ x.number) × ((if n == x.number then Some (record { number = n; link = link; plan = p }) else find
        (λ y. y.number == x.number) xs) ≡ Some x)
    by true is =
        let same : record { number = n; link = link; plan = p } ≡ x = cc (is) in
        subst (λ (z : Site). (n ≤ z.number) ×
        ((if n == z.number then Some (record { number = n; link = link; plan = p }) else find
        (λ y. y.number == z.number) xs) ≡ Some z)) same
        (omega arith, rw (eqb-refl n) refl)
    by false is =
        let later = rest test x is in
        (omega (arith, later.0), rw (number_above n x.number later.0) later.1)

many_more : (n link : ℕ) (ps : List InterfacePlan) (xs : List Site) → FoundByNumber (n + length ps) xs
    → FoundByNumber n (sites_of_plans n link ps ++ xs)
many_more n link [] xs rest = let e : n + 0 ≡ n = omega arith in rw e at rest
many_more n link (p ∷ ps) xs rest =
    let e : n + suc (length ps) ≡ (n + 1) + length ps = omega arith in
    one_more n link p (sites_of_plans (n + 1) link ps ++ xs) (many_more (n + 1) link ps xs (rw e at rest))

all_found : (n link : ℕ) (ls : List LinkPlan) → FoundByNumber n (sites_of_links n link ls)
all_found n link [] test x is = absurd cc
all_found n link (l ∷ ls) test x is = many_more n link l.interfaces _
    (all_found (n + length l.interfaces) (link + 1) ls) test x is

pub found_by_number : (plan : Plan) (test : Site → Bool) (x : Site) → find test (sites plan) ≡ Some x
    → site_at plan x.number ≡ Some x
unfolding sites
found_by_number plan test x is = (all_found 0 0 plan.links test x is).1

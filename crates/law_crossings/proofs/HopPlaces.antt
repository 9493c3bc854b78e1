-- Where the TLPs that an end of a segment sealed since its link's last reset stand among all sealed packets, if its
-- stream had one draw since then.
use Rattle.law_sealing.proofs.Terms.{◌≡◌, ℕ, ◌<◌, ◌≤◌, ◌==◌, ◌&&◌, Bool, true, false, List, [], ◌∷◌, ◌++◌}
use Rattle.law_sealing.proofs.Terms.{Ok, refl, ap, sym, subst, ◌∙◌, arith, nat_tests, inl, inr}
use Rattle.law_sealing.proofs.Terms.{cases_Bool, AllByRecursion, map, filter, append-nil}
use Rattle.law_sealing.proofs.Terms.{append_assoc, filter-append, map-append}
use Rattle.law_sealing.proofs.Terms.{Plan, History, base, Sealed, PortName, SealedPacket, SubKind}
use Rattle.law_sealing.proofs.Terms.{Packet, is_sync_packet, Tlp, header, body, read_of, class_of, CauseLaw}
use Rattle.law_sealing.proofs.Terms.{DrawFacts, is_same_port, same_port, open_unit, sent_bytes}
use Rattle.law_sealing.proofs.Terms.{sub_stream_of, SealedList, with_sealed, ahead_of_packet}
use Rattle.law_sealing.proofs.Terms.{sealing_is, sending_port, all_live, AllLive, KeyName, Option, key_in}
use Rattle.law_sealing.proofs.Terms.{port_keys, On}
unfoldable use Rattle.law_sealing.proofs.Terms.{sealed_packets, sub_stream_packets, packet_of}
use Rattle.law_sealing.proofs.Sealings.{AllOf, live_at, from_at, all_of_sealing}
use Rattle.law_sealing.proofs.Sums.{all_at}
use Rattle.law_delivery.proofs.Deliveries.{carries_tlp, carried_by}
use Rattle.law_key_facts.proofs.SealedKeys.{live_on, below_draws}
use Rattle.spec_links.proofs.Terms.{Reset, draws}
use Rattle.spec_links.specs.Hops.{HopTlp, clears_hop}
use Rattle.spec_links.specs.HopLaws.{is_tlp_of_sender, sealed_tlp}
unfoldable use Rattle.spec_links.specs.HopLaws.{tlps_since_reset, draws_since}
use Rattle.event_verdicts.specs.declared.verdict.Verdict.TheVariants as v
use Rattle.law_hops.proofs.Since.{IsSegment, on_since}
unfoldable use Rattle.law_hops.proofs.Since.{mark}
use Rattle.law_hops.proofs.Crossing.{IsLone, OnlyDraw, only_older}
use Rattle.law_crossings.proofs.Split.{all_snoc}
use Rattle.law_hops.proofs.Carried.{sync_same}

-- ---- what is known of each sealed packet of an end

-- its packet is a sync packet as it says, and it is of the stream of its port
pub record IsKnown (p : PortName) (stream : ℕ) (x : SealedPacket × Packet) : Type 0 where
  pub sync : is_sync_packet x.1 ≡ x.0.sync
  pub stream_is : is_same_port x.0.port p ≡ true → x.0.stream ≡ stream

abbrev pub OfStream : PortName → ℕ → SealedPacket → Type 0
OfStream p stream d = is_same_port d.port p ≡ true → d.stream ≡ stream

known_more : (plan : Plan) (port : PortName) (t : ℕ) (live : SubKind → Option KeyName) (from : ℕ) (class : SubKind)
    (ahead : SealedPacket → List ℕ) (bytes : List ℕ) (tlp : Tlp) → read_of bytes ≡ Ok tlp
    → class ≡ class_of (header tlp) → (p : PortName) (stream : ℕ) (ds : List SealedPacket) (xs : SealedList)
    → AllOf plan port t live from class xs ds → AllByRecursion (OfStream p stream) ds
    → AllByRecursion (IsKnown p stream) xs → AllByRecursion (IsKnown p stream) (with_sealed plan ahead bytes ds xs)
known_more plan port t live from class ahead bytes tlp reads is_class p stream [] xs all of before = before
known_more plan port t live from class ahead bytes tlp reads is_class p stream (d ∷ ds) xs all of before =
    let u = open_unit (sub_stream_packets xs (sub_stream_of d) d.draw) in
    let q = packet_of plan (ahead d) bytes d u in
    let one = all.0 in
    let sync : is_sync_packet q ≡ d.sync = sync_same q (carried_by d (body tlp)) bytes d.sync
    (carries_tlp plan (ahead d) bytes d u tlp reads (λ no_sync. sym is_class ∙ one.class_is no_sync) one.sync).1 in
    known_more plan port t live from class ahead bytes tlp reads is_class p stream ds (xs ++ (d, q) ∷ []) (all.1 q)
    of.1 (all_snoc (IsKnown p stream) xs (d, q) before (record { sync = sync; stream_is = of.0 }))

of_stream : (plan : Plan) → DrawFacts plan → (h : History) → CauseLaw plan h → (p : PortName) (stream : ℕ)
    → IsLone plan p.line stream → (port : PortName) (t : ℕ) (ds : List SealedPacket) → AllLive plan h port t ds
    → AllByRecursion (OfStream p stream) ds
of_stream plan facts h cause p stream lone port t [] all = tt
of_stream plan facts h cause p stream lone port t (d ∷ ds) all = (
  (λ here.
      let live = all.0 in
      let on = subst (λ (q : PortName). key_in (port_keys h q (sub_stream_of d)) d.k ≡ On d.draw) (sym live.port_is)
      (live_on plan h port t d live) in
      subst (λ (q : PortName). IsLone plan q.line stream) (sym (same_port d.port p here)) lone d.stream
      (facts.known h cause d.port (sub_stream_of d) d.k d.draw on)),
  of_stream plan facts h cause p stream lone port t ds all.1,
)

pub all_known : (plan : Plan) → DrawFacts plan → (h : History) → CauseLaw plan h → (p : PortName) (stream : ℕ)
    → IsLone plan p.line stream → AllByRecursion (IsKnown p stream) (sealed_packets plan h)
unfolding sealed_packets
all_known plan facts [] cause p stream lone = tt
all_known plan facts ((e, Sealed ds) ∷ h) cause p stream lone =
    let is = sealing_is plan h e ds cause.0 in
    let from = is.sending in
    known_more plan from.port from.stream (live_at plan h from.port from.stream)
    (from_at plan h from.port from.stream) from.class (ahead_of_packet plan (sealed_packets plan h) (base h))
    (sent_bytes plan h e) is.tlp is.reads is.class p stream ds (sealed_packets plan h)
    (all_of_sealing plan facts h cause.1 (sending_port plan h e) (sent_bytes plan h e) ds is)
    (of_stream plan facts h cause.1 p stream lone from.port from.stream ds
    (all_live plan h (sending_port plan h e) (sent_bytes plan h e) ds is))
    (all_known plan facts h cause.1 p stream lone)
all_known plan facts ((e, w) ∷ h) cause p stream lone = all_known plan facts h cause.1 p stream lone

-- ---- the TLPs among all that were sealed

-- a TLP that this end sealed under this draw
abbrev pub is_here : PortName → ℕ → SealedPacket × Packet → Bool
is_here p j x = is_tlp_of_sender p x.0 && (x.0.draw == j)

abbrev pub sub_at : SealedPacket × Packet → SubKind
sub_at x = x.0.sub

abbrev pub subs : List HopTlp → List SubKind
subs xs = map (λ (x : HopTlp). x.sub) xs

abbrev pub subs_here : PortName → ℕ → SealedList → List SubKind
subs_here p j xs = map sub_at (filter (is_here p j) xs)

abbrev OfDraw : PortName → ℕ → SealedPacket → Type 0
OfDraw p j d = is_same_port d.port p ≡ true → d.draw ≡ j

subs_here-append : (p : PortName) (j : ℕ) (xs ys : SealedList) → subs_here p j (xs ++ ys)
    ≡ subs_here p j xs ++ subs_here p j ys
subs_here-append p j xs ys = rw (filter-append, map-append) refl

-- one more packet
one_here : (p : PortName) (j : ℕ) (bytes : List ℕ) (d : SealedPacket) (q : Packet) → OfDraw p j d
    → subs_here p j ((d, q) ∷ []) ≡ subs (map (sealed_tlp bytes) (filter (is_tlp_of_sender p) (d ∷ [])))
one_here p j bytes d q of = by d.sync (is_same_port d.port p) refl refl
  where
    by : (a b : Bool) → d.sync ≡ a → is_same_port d.port p ≡ b
        → subs_here p j ((d, q) ∷ []) ≡ subs (map (sealed_tlp bytes) (filter (is_tlp_of_sender p) (d ∷ [])))
    by true b sync here = rw sync refl
    by false true sync here =
        let same : (d.draw == j) ≡ true = let draw = of here in grind (arith, nat_tests, draw) in
        rw (sync, here, same) refl
    by false false sync here = rw (sync, here) refl

cons_here : (p : PortName) (bytes : List ℕ) (d : SealedPacket) (ds : List SealedPacket)
    → subs (map (sealed_tlp bytes) (filter (is_tlp_of_sender p) (d ∷ [])))
    ++ subs (map (sealed_tlp bytes) (filter (is_tlp_of_sender p) ds))
    ≡ subs (map (sealed_tlp bytes) (filter (is_tlp_of_sender p) (d ∷ ds)))
cons_here p bytes d ds = by (is_tlp_of_sender p d) refl
  where
    by : (b : Bool) → is_tlp_of_sender p d ≡ b
        → subs (map (sealed_tlp bytes) (filter (is_tlp_of_sender p) (d ∷ [])))
        ++ subs (map (sealed_tlp bytes) (filter (is_tlp_of_sender p) ds))
        ≡ subs (map (sealed_tlp bytes) (filter (is_tlp_of_sender p) (d ∷ ds)))
    by true is = rw is refl
    by false is = rw is refl

here_more : (plan : Plan) (ahead : SealedPacket → List ℕ) (bytes : List ℕ) (p : PortName) (j : ℕ)
    (ds : List SealedPacket) (xs : SealedList) → AllByRecursion (OfDraw p j) ds
    → subs_here p j (with_sealed plan ahead bytes ds xs)
    ≡ subs_here p j xs ++ subs (map (sealed_tlp bytes) (filter (is_tlp_of_sender p) ds))
here_more plan ahead bytes p j [] xs all = sym (append-nil (subs_here p j xs))
here_more plan ahead bytes p j (d ∷ ds) xs all =
    let q = packet_of plan (ahead d) bytes d (open_unit (sub_stream_packets xs (sub_stream_of d) d.draw)) in
    let one = subs_here-append p j xs ((d, q) ∷ []) in
    let new = one_here p j bytes d q all.0 in
    let rest = subs (map (sealed_tlp bytes) (filter (is_tlp_of_sender p) ds)) in
    here_more plan ahead bytes p j ds (xs ++ (d, q) ∷ []) all.1
    ∙ ((λ i. (one ∙ (λ k. subs_here p j xs ++ new k)) i ++ rest)
    ∙ (append_assoc (subs_here p j xs) (subs (map (sealed_tlp bytes) (filter (is_tlp_of_sender p) (d ∷ [])))) rest
    ∙ (λ i. subs_here p j xs ++ cons_here p bytes d ds i)))

of_draw : (plan : Plan) (h : History) → CauseLaw plan h → (link : ℕ) (p : PortName) (j : ℕ) → IsSegment link p.line
    → OnlyDraw h link p.line j → (port : PortName) (t : ℕ) (ds : List SealedPacket) → AllLive plan h port t ds
    → AllByRecursion (OfDraw p j) ds
of_draw plan h cause link p j segment only port t [] all = tt
of_draw plan h cause link p j segment only port t (d ∷ ds) all = (
  (λ here.
      let live = all.0 in
      let same = ap (λ (q : PortName). q.line) (sym (same_port d.port p here)) in
      let on = subst (λ (q : PortName). key_in (port_keys h q (sub_stream_of d)) d.k ≡ On d.draw) (sym live.port_is)
      (live_on plan h port t d live) in
      on_since (λ (i : ℕ). i ≡ j) plan h cause link d.port (sub_stream_of d) d.k d.draw refl
      (subst (IsSegment link) same segment)
      (subst (λ (l : ℕ). AllByRecursion (λ (i : ℕ). i ≡ j) (draws_since h link l)) same only.only) on),
  of_draw plan h cause link p j segment only port t ds all.1,
)

none_here : (p : PortName) (j : ℕ) (xs : SealedList) → AllByRecursion (λ (x : SealedPacket × Packet). x.0.draw < j) xs
    → subs_here p j xs ≡ []
none_here p j [] all = refl
none_here p j (x ∷ xs) all =
    let other : (x.0.draw == j) ≡ false = let less = all.0 in grind (arith, nat_tests, less) in
    let off : is_here p j x ≡ false = grind (arith, other) in
    rw off (none_here p j xs all.1)

at_reset : (plan : Plan) (h : History) (k : ℕ) (ends : List PortName) (l : ℕ) → CauseLaw plan h
    → (link : ℕ) (p : PortName) (j : ℕ) → OnlyDraw ((Reset k ends, v.Reset l) ∷ h) link p.line j
    → (OnlyDraw h link p.line j
    → subs (tlps_since_reset plan h link p) ≡ subs_here p j (sealed_packets plan h))
    → subs (tlps_since_reset plan ((Reset k ends, v.Reset l) ∷ h) link p)
    ≡ subs_here p j (sealed_packets plan h)
unfolding tlps_since_reset mark
at_reset plan h k ends l cause link p j only before = elim (cases_Bool (clears_hop ends link)) [
  | inl is ↦
      let up : draws h ≤ j = rw is at only.up in
      rw is (sym (none_here p j (sealed_packets plan h)
      (all_at (λ (x : SealedPacket × Packet). x.0.draw < j) (sealed_packets plan h)
      (λ i x at. let less = below_draws plan h cause i x at in omega (arith, less, up)))))
  | inr stays ↦ rw stays (before (only_older h (Reset k ends) (v.Reset l) link p.line j stays only))
]

pub here_is : (plan : Plan) (h : History) → CauseLaw plan h → (link : ℕ) (p : PortName) (j : ℕ)
    → IsSegment link p.line → OnlyDraw h link p.line j
    → subs (tlps_since_reset plan h link p) ≡ subs_here p j (sealed_packets plan h)
unfolding tlps_since_reset sealed_packets
here_is plan [] cause link p j segment only = refl
here_is plan ((e, Sealed ds) ∷ h) cause link p j segment only =
    let older = only_older h e (Sealed ds) link p.line j refl only in
    let is = sealing_is plan h e ds cause.0 in
    let before = here_is plan h cause.1 link p j segment older in
    let new = map (sealed_tlp (sent_bytes plan h e)) (filter (is_tlp_of_sender p) ds) in
    map-append (λ (x : HopTlp). x.sub) (tlps_since_reset plan h link p) new
    ∙ ((λ i. before i ++ subs new)
    ∙ sym (here_more plan (ahead_of_packet plan (sealed_packets plan h) (base h)) (sent_bytes plan h e) p j ds
    (sealed_packets plan h) (of_draw plan h cause.1 link p j segment older is.sending.port is.sending.stream ds
    (all_live plan h (sending_port plan h e) (sent_bytes plan h e) ds is))))
here_is plan ((Reset k ends, v.Reset l) ∷ h) cause link p j segment only =
    at_reset plan h k ends l cause.1 link p j only (λ older. here_is plan h cause.1 link p j segment older)
here_is plan ((e, w) ∷ h) cause link p j segment only =
    here_is plan h cause.1 link p j segment (only_older h e w link p.line j refl only)

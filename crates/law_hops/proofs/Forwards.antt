-- A hop seals what it accepted: by induction on the history. A forward seals the first TLP that waits, no other event
-- seals at a switch, an accepted unit adds TLPs at the end, and a reset clears both lists.
use Rattle.law_sealing.proofs.Terms.{◌≡◌, ℕ, suc, ◌<◌, ◌≤◌, ◌+◌, ◌==◌, ◌&&◌, Bool, true, false, List, [], ◌∷◌, ◌++◌}
use Rattle.law_sealing.proofs.Terms.{length, drop, take, map, filter, slice_get, Option, Some, Ok, refl, ap, sym}
use Rattle.law_sealing.proofs.Terms.{◌∙◌, arith, nat_tests, if◌then◌else◌, append-nil, not}
use Rattle.law_sealing.proofs.Terms.{take-append-le, take-append-drop, length-append, unwrap_or, AllByRecursion}
use Rattle.law_sealing.proofs.Terms.{Plan, History, Event, Send, Verdict, Sealed, Accepted, PortName, SealedPacket}
use Rattle.law_sealing.proofs.Terms.{SubKind, Npr, Cpl, Tlp, header, read_of, class_of, CauseLaw, Sending, Lanes}
use Rattle.law_sealing.proofs.Terms.{lanes_at, needs_sync, sealed_by_is, is_same_port, sent_bytes, sealing_is, all_live}
use Rattle.law_sealing.proofs.Terms.{AllLive, sending_port, sealed_packets, IsPrefixOf}
use Rattle.law_sealing.proofs.Terms.{same_port, sealed_by_sealing, and_parts, UnitName, Effect}
unfoldable use Rattle.law_sealing.proofs.Terms.{due, listed_seals}
use Rattle.std.proofs.Common.{zero, Result}
use Rattle.ide_types.specs.declared.plan.LinkPlan.{LinkPlan}
use Rattle.tlp_layout.specs.declared.fault.TlpFault.{TlpFault}
use Rattle.std.specs.Option.{option_map_or}
use Rattle.std.proofs.lemmas.List.Elements.{filter-append}
use Rattle.ide_types.specs.Sub.{direction_number, is_same_sub}
use Rattle.ide_types.specs.Ports.{host_port, device_port}
use Rattle.ide_types.specs.declared.port.Side.{Side}
use Rattle.ide_types.specs.declared.port.Side.TheVariants.{Host, Device}
use Rattle.ide_types.specs.declared.direction.Direction.{Direction}
use Rattle.ide_types.specs.declared.direction.Direction.TheVariants.{Downstream, Upstream}
use Rattle.ide_types.specs.Ends.{hop_end, link_hop}
use Rattle.ide_types.specs.Fits.{FitsPlan}
use Rattle.tlp_layout.specs.Outgoing.{Outgoing, NoTlp, OnNone, OnStream}
use Rattle.tlp_layout.proofs.Outgoing.{on_stream_reads}
use Rattle.spec_stream.specs.Sending.{first_that_holds, refusals, sealed_with_syncs}
use Rattle.script_events.specs.declared.event.Event.TheVariants.{Access, Forward}
use Rattle.script_events.specs.declared.event.AccessEvent.TheVariants as ae
use Rattle.event_verdicts.specs.declared.verdict.Verdict.TheVariants as v
use Rattle.spec_links.specs.Terms.{Reset, WaitingRead}
use Rattle.spec_links.specs.Plan.{has_port, streams_of}
use Rattle.spec_links.specs.Ports.{at_switch, goes_to_hop, hop_lists}
unfoldable use Rattle.spec_links.specs.Ports.{sealing_end}
use Rattle.spec_links.specs.Due.{send_due, bytes_due, forward_out}
unfoldable use Rattle.spec_links.specs.Due.{t_sealed}
use Rattle.spec_links.specs.Memory.{accepted_tlps, unit_ended}
use Rattle.spec_links.specs.Sent.{reads_taken}
unfoldable use Rattle.spec_links.specs.Sent.{bytes_by}
use Rattle.spec_links.specs.Hops.{HopTlp, has_hop, entering_end, leaving_end, clears_hop, is_forward_on}
unfoldable use Rattle.spec_links.specs.Hops.{accepted_tlps_in_list, forwarded_count}
use Rattle.spec_links.specs.HopLaws.{is_tlp_of_sender, sealed_tlp, in_sub, ForwardsInOrder, ForwardsEach}
unfoldable use Rattle.spec_links.specs.HopLaws.{tlps_since_reset}
use Rattle.law_reads.proofs.Oldest.{first_means}
use Rattle.law_reads.proofs.Forwarded.{Forwarded, forward_means, as_forward}
use Rattle.law_reads.proofs.Taken.{here_after, taken_accepted, tlps_of}
use Rattle.law_hops.proofs.TlpsRead.{taken_read, read_at}
use Rattle.law_hops.proofs.Queued.{came_at, queued_at}

-- ---- what a sealed send tells: its packets, with T

pub record SentList (plan : Plan) (h : History) (port : PortName) (o : Outgoing) (more trusted : Bool)
    (ds : List SealedPacket) : Type 0 where
  pub tlp : Tlp
  pub stream : ℕ
  pub comes : o ≡ OnStream tlp stream
  pub sending : Sending
  pub port_is : sending.port ≡ port
  pub class_is : sending.class ≡ class_of (header tlp)
  pub t_is : sending.trusted ≡ t_sealed plan h port (header tlp) stream trusted
  pub number : ℕ
  pub list : ds ≡ sealed_with_syncs (lanes_at plan h port stream) sending number

sealed_of : (xs : List (Bool × Verdict)) (ds es : List SealedPacket) → AllByRecursion
    (λ (x : Bool × Verdict). v.Sealed ds ≡ x.1 → ⊥) xs → v.Sealed ds ≡ unwrap_or (first_that_holds xs) (v.Sealed es)
    → ds ≡ es
sealed_of [] ds es none is = cc (is)
sealed_of ((true, w) ∷ xs) ds es none is = absurd (none.0 is)
sealed_of ((false, w) ∷ xs) ds es none is = sealed_of xs ds es none.1 is

pub sent_list : (plan : Plan) (h : History) (port : PortName) (o : Outgoing) (more trusted : Bool)
    (ds : List SealedPacket) → v.Sealed ds ≡ send_due plan h port o more trusted
    → SentList plan h port o more trusted ds
sent_list plan h port (NoTlp f) more trusted ds is = absurd cc
sent_list plan h port OnNone more trusted ds is = absurd cc
sent_list plan h port (OnStream t stream) more trusted ds is =
    let s : Sending = record {
      port = port;
      stream = stream;
      class = class_of (header t);
      more = more;
      trusted = t_sealed plan h port (header t) stream trusted;
    } in
    record {
      tlp = t;
      stream = stream;
      comes = refl;
      sending = s;
      port_is = refl;
      class_is = refl;
      t_is = refl;
      number = _;
      list = sealed_of (refusals (lanes_at plan h port stream) s.class) ds _ (
        λ no. absurd cc,
        (
          λ no. absurd cc,
          (
            λ no. absurd cc,
            (
              λ no. absurd cc,
              (
                λ no. absurd cc,
                (λ no. absurd cc, (λ no. absurd cc, (λ no. absurd cc, tt))),
              ),
            ),
          ),
        ),
      ) is;
    }

-- of its packets one carries a TLP
listed_tlp : (x : Lanes) (s : Sending) (number : ℕ) (n c : Bool) (end : PortName) (bytes : List ℕ)
    → is_same_port s.port end ≡ true
    → map (sealed_tlp bytes) (filter (is_tlp_of_sender end) (listed_seals x s number n c))
    ≡ record { sub = s.class; bytes = bytes; t = s.trusted } ∷ []
unfolding listed_seals
listed_tlp x s number false false end bytes here = rw here refl
listed_tlp x s number true false end bytes here = rw here refl
listed_tlp x s number false true end bytes here = rw here refl
listed_tlp x s number true true end bytes here = rw here refl

sealed_tlp_is : (x : Lanes) (s : Sending) (number : ℕ) (end : PortName) (bytes : List ℕ)
    → is_same_port s.port end ≡ true
    → map (sealed_tlp bytes) (filter (is_tlp_of_sender end) (sealed_with_syncs x s number))
    ≡ record { sub = s.class; bytes = bytes; t = s.trusted } ∷ []
sealed_tlp_is x s number end bytes here =
    ap (λ (ds : List SealedPacket). map (sealed_tlp bytes) (filter (is_tlp_of_sender end) ds)) (sealed_by_is x s number)
    ∙ listed_tlp x s number (needs_sync x s.class Npr) (needs_sync x s.class Cpl) end bytes here

-- ---- a forward

leaves_switch : (plan : Plan) → FitsPlan plan → (link : ℕ) (d : Direction) → has_hop plan link ≡ true
    → at_switch plan (leaving_end link d) ≡ true
leaves_switch plan fits link Downstream known = let most = fits.links_most in grind (arith, nat_tests, most)
leaves_switch plan fits link Upstream known = let most = fits.links_most in grind (arith, nat_tests, most)

pub own_t : (plan : Plan) → FitsPlan plan → (h : History) (link : ℕ) (d : Direction) (t : Tlp) (stream : ℕ)
    (trusted : Bool)
    → has_hop plan link ≡ true → t_sealed plan h (leaving_end link d) (header t) stream trusted ≡ trusted
unfolding t_sealed
own_t plan fits h link d t stream trusted known = rw (leaves_switch plan fits link d known) refl

same_end : (link : ℕ) (d : Direction) → is_same_port (leaving_end link d) (leaving_end link d) ≡ true
same_end link Downstream = grind (arith, nat_tests)
same_end link Upstream = grind (arith, nat_tests)

tlp_is : (x : HopTlp) (u : SubKind) (bytes : List ℕ) (t : Bool) → u ≡ x.sub → bytes ≡ x.bytes → t ≡ x.t
    → record { sub = u; bytes = bytes; t = t } ≡ x
tlp_is x u bytes t sub_is bytes_is t_is = λ i. record { sub = sub_is i; bytes = bytes_is i; t = t_is i }

-- it seals the first that waits
pub forwards_first : (plan : Plan) → FitsPlan plan → (h : History) (link : ℕ) (d : Direction) (ds : List SealedPacket)
    → CauseLaw plan h → (f : Forwarded plan h link d ds) → map (sealed_tlp (sent_bytes plan h (Forward link d)))
    (filter (is_tlp_of_sender (leaving_end link d)) ds) ≡ f.first ∷ []
unfolding bytes_by
forwards_first plan fits h link d ds cause f =
    let end = leaving_end link d in
    let bytes = sent_bytes plan h (Forward link d) in
    let bytes_is : bytes ≡ f.first.bytes = ap (λ (o : Option HopTlp). option_map_or (λ
    (x : HopTlp). x.bytes) o []) f.waits in
    let s = sent_list plan h end (forward_out plan h link d) false f.first.t ds f.is in
    let reads = (on_stream_reads (streams_of plan end.line) end.side bytes s.tlp s.stream s.comes).0 in
    let known = read_at (accepted_tlps plan h link (entering_end link d)) (forwarded_count h link d) f.first
    (taken_read plan h cause link (entering_end link d)) f.waits in
    let tlps : Ok s.tlp ≡ Ok known.tlp = sym reads ∙ (ap read_of bytes_is ∙ known.reads) in
    let tlp : s.tlp ≡ known.tlp = cc (tlps) in
    let here : is_same_port s.sending.port end ≡ true = ap (λ (p : PortName). is_same_port p end) s.port_is
    ∙ same_end link d in
    let class : s.sending.class ≡ f.first.sub =
    s.class_is ∙ (ap (λ (t : Tlp). class_of (header t)) tlp ∙ known.class) in
    let t : s.sending.trusted ≡ f.first.t = s.t_is ∙ own_t plan fits h link d s.tlp s.stream f.first.t f.known in
    ap (λ (es : List SealedPacket). map (sealed_tlp bytes) (filter (is_tlp_of_sender end) es)) s.list
    ∙ (sealed_tlp_is (lanes_at plan h end s.stream) s.sending s.number end bytes here
    ∙ ap (λ (x : HopTlp). x ∷ []) (tlp_is f.first s.sending.class bytes s.sending.trusted class bytes_is t))

-- ---- no other event seals there

none_carried : (plan : Plan) (h : History) (port : PortName) (stream : ℕ) (end : PortName) (ds : List SealedPacket)
    → is_same_port port end ≡ false → AllLive plan h port stream ds → filter (is_tlp_of_sender end) ds ≡ []
none_carried plan h port stream end [] other all = refl
none_carried plan h port stream end (x ∷ xs) other all =
    let there : is_same_port x.port end ≡ false = ap (λ (p : PortName). is_same_port p end) all.0.port_is ∙ other in
    let later = none_carried plan h port stream end xs other all.1 in
    grind (arith, there, later)

sealed_nothing : (plan : Plan) (h : History) (e : Event) (end : PortName) (ds : List SealedPacket) → v.Sealed ds
    ≡ due plan h e → is_same_port (sending_port plan h e) end ≡ false → filter (is_tlp_of_sender end) ds ≡ []
sealed_nothing plan h e end ds is other =
    let seals = sealing_is plan h e ds is in
    let there : is_same_port seals.sending.port end ≡ false = ap (λ (p : PortName). is_same_port p end) seals.at_port
    ∙ other in
    none_carried plan h seals.sending.port seals.sending.stream end ds there
    (all_live plan h (sending_port plan h e) (sent_bytes plan h e) ds seals)

apart : (plan : Plan) (p q : PortName) → at_switch plan p ≡ false → at_switch plan q ≡ true → is_same_port p q ≡ false
apart plan p q here there = by (is_same_port p q) refl
  where
    by : (b : Bool) → is_same_port p q ≡ b → b ≡ false
    by false is = refl
    by true is = absurd (both (sym here ∙ (ap (at_switch plan) (same_port p q is) ∙ there)))
      where
        both : false ≡ true → ⊥
        both is = absurd cc

-- a link with a hop is one of the plan's
link_known : (links : List LinkPlan) (n : ℕ) (r : Result Tlp TlpFault)
    → hop_lists (link_hop (slice_get links n)) r ≡ true → n < length links
link_known [] n r is = absurd cc
link_known (l ∷ links) zero r is = omega arith
link_known (l ∷ links) (suc n) r is = let less = link_known links n r is in omega (arith, less)

hop_end_apart : (plan : Plan) (side : Side) (link : ℕ) → link < 8 → at_switch plan (hop_end side link) ≡ false
hop_end_apart plan Host link less = grind (arith, nat_tests)
hop_end_apart plan Device link less = grind (arith, nat_tests)

pub send_apart : (plan : Plan) → FitsPlan plan → (port : PortName) (bytes : List ℕ) → at_switch plan port ≡ false
    → at_switch plan (sealing_end plan port bytes) ≡ false
unfolding sealing_end
send_apart plan fits port bytes own = by (goes_to_hop plan port bytes) refl
  where
    by : (b : Bool) → goes_to_hop plan port bytes ≡ b → at_switch plan
        (if b then hop_end port.side port.line else port) ≡ false
    by true hop =
        let lists = and_parts _ (hop_lists (link_hop (slice_get plan.links port.line)) (read_of bytes)) hop in
        let less = link_known plan.links port.line (read_of bytes) lists.1 in
        hop_end_apart plan port.side port.line (omega (arith, less, fits.links_most))
    by false own_link = own

may_send_apart : (plan : Plan) (h : History) (port : PortName) (bytes : List ℕ) (more trusted : Bool)
    (ds : List SealedPacket) → v.Sealed ds ≡ due plan h (Send port bytes more trusted) → at_switch plan port ≡ false
unfolding due
may_send_apart plan h port bytes more trusted ds is = by (has_port plan port) (at_switch plan port) is
  where
    by : (has switch : Bool)
        → v.Sealed ds ≡ (if has && not switch then bytes_due plan h (sealing_end plan port bytes) bytes more trusted
        else v.Nothing) → switch ≡ false
    by true false is = refl
    by true true is = absurd cc
    by false switch is = absurd cc

answer_apart : (plan : Plan) → FitsPlan plan → (h : History) (link : ℕ) (ds : List SealedPacket)
    → v.Sealed ds ≡ due plan h (Access (ae.Answer link)) → at_switch plan (host_port link) ≡ false
unfolding due
answer_apart plan fits h link ds is =
    let first = first_means plan h (host_port link) _ (v.Sealed ds) refl is in
    let less : link < length plan.links = grind (arith, nat_tests, first.known) in
    let most = fits.links_most in
    grind (arith, nat_tests, less, most)

-- a response's end is that of its read
respond_apart : (plan : Plan) (h : History) → CauseLaw plan h → (link : ℕ) (ds : List SealedPacket)
    → v.Sealed ds ≡ due plan h (Access (ae.Respond link))
    → at_switch plan (sending_port plan h (Access (ae.Respond link))) ≡ false
unfolding due
respond_apart plan h cause link ds is =
    let port = device_port link in
    let first = first_means plan h port _ (v.Sealed ds) refl is in
    let came = came_at plan h port first.read
    (queued_at plan h cause port (reads_taken h port) first.read first.oldest) in
    ap (λ (o : Option WaitingRead). at_switch plan (option_map_or (λ (r : WaitingRead). r.came.end) o port))
    first.oldest
    ∙ came.apart

other_way : (l link : ℕ) (way d : Direction) → ((l == link) && (direction_number way == direction_number d)) ≡ false
    → is_same_port (leaving_end l way) (leaving_end link d) ≡ false
other_way l link Downstream Downstream other = grind (arith, nat_tests)
other_way l link Downstream Upstream other = refl
other_way l link Upstream Downstream other = refl
other_way l link Upstream Upstream other = grind (arith, nat_tests)

elsewhere : (plan : Plan) → FitsPlan plan → (h : History) → CauseLaw plan h → (e : Event) (ds : List SealedPacket)
    (link : ℕ) (d : Direction) → v.Sealed ds ≡ due plan h e → has_hop plan link ≡ true
    → is_forward_on link d e ≡ false → is_same_port (sending_port plan h e) (leaving_end link d) ≡ false
elsewhere plan fits h cause (Send port bytes more trusted) ds link d is known other =
    apart plan (sealing_end plan port bytes) (leaving_end link d)
    (send_apart plan fits port bytes (may_send_apart plan h port bytes more trusted ds is))
    (leaves_switch plan fits link d known)
elsewhere plan fits h cause (Access (ae.Answer l)) ds link d is known other =
    apart plan (host_port l) (leaving_end link d) (answer_apart plan fits h l ds is)
    (leaves_switch plan fits link d known)
elsewhere plan fits h cause (Access (ae.Respond l)) ds link d is known other =
    apart plan (sending_port plan h (Access (ae.Respond l))) (leaving_end link d) (respond_apart plan h cause l ds is)
    (leaves_switch plan fits link d known)
elsewhere plan fits h cause (Forward l way) ds link d is known other = other_way l link way d other
elsewhere plan fits h cause e ds link d is known other = let seals = sealed_by_sealing plan h e ds is in absurd cc

-- ---- both lists

pub record Forwards (plan : Plan) (h : History) (link : ℕ) (d : Direction) : Type 0 where
  pub list : tlps_since_reset plan h link (leaving_end link d)
      ≡ take (forwarded_count h link d) (accepted_tlps plan h link (entering_end link d))
  pub within : forwarded_count h link d ≤ length (accepted_tlps plan h link (entering_end link d))

-- the same TLPs, or more of them behind
grown : (plan : Plan) (h : History) (link : ℕ) (d : Direction) (xs ys : List HopTlp)
    → Forwards plan h link d → xs ≡ accepted_tlps plan h link (entering_end link d) ++ ys
    → (tlps_since_reset plan h link (leaving_end link d) ≡ take (forwarded_count h link d) xs)
    × (forwarded_count h link d ≤ length xs)
grown plan h link d xs ys before is =
    let all = accepted_tlps plan h link (entering_end link d) in
    let n = forwarded_count h link d in (
      before.list ∙ (sym (take-append-le n all ys before.within) ∙ ap (take n) (sym is)),
      omega (arith, before.within, ap length is, length-append all ys),
    )

one_more : (xs : List HopTlp) (n : ℕ) (x : HopTlp) → slice_get xs n ≡ Some x
    → (take (n + 1) xs ≡ take n xs ++ x ∷ []) × (n + 1 ≤ length xs)
one_more [] n x is = absurd cc
one_more (y ∷ xs) zero x is = let same : y ≡ x = cc (is) in (ap (λ (z : HopTlp). z ∷ []) same, omega arith)
one_more (y ∷ xs) (suc n) x is =
    let more = one_more xs n x is in
    let next : suc n + 1 ≡ suc (n + 1) = omega arith in
    rw next (ap (λ (zs : List HopTlp). y ∷ zs) more.0, omega (arith, more.1))

-- at a pair that seals
sealed_forwards : (plan : Plan) → FitsPlan plan → (h : History) (e : Event) (ds : List SealedPacket) (link : ℕ)
    (d : Direction) → CauseLaw plan ((e, Sealed ds) ∷ h) → has_hop plan link ≡ true → Forwards plan h link d
    → Forwards plan ((e, Sealed ds) ∷ h) link d
unfolding tlps_since_reset forwarded_count accepted_tlps_in_list
sealed_forwards plan fits h e ds link d cause known before = by (is_forward_on link d e) refl
  where
    end : PortName
    end = leaving_end link d

    same : accepted_tlps plan ((e, Sealed ds) ∷ h) link (entering_end link d)
        ≡ accepted_tlps plan h link (entering_end link d)
    same = here_after plan h e (Sealed ds) cause link (entering_end link d)

    Both : Bool → Type 0
    Both b = (tlps_since_reset plan h link (leaving_end link d)
        ++ map (sealed_tlp (sent_bytes plan h e)) (filter (is_tlp_of_sender (leaving_end link d)) ds)
        ≡ take (if b then forwarded_count h link d + 1 else forwarded_count h link d)
        (accepted_tlps plan ((e, Sealed ds) ∷ h) link (entering_end link d)))
        × ((if b then forwarded_count h link d + 1 else forwarded_count h link d)
        ≤ length (accepted_tlps plan ((e, Sealed ds) ∷ h) link (entering_end link d)))

    other : is_forward_on link d e ≡ false → Both false
    other off =
        let none = sealed_nothing plan h e end ds cause.0 (elsewhere plan fits h cause.1 e ds link d cause.0 known off)
        in
        let kept = grown plan h link d _ [] before (same ∙ sym (append-nil (accepted_tlps plan h link
        (entering_end link d)))) in (
          ap (λ (es : List SealedPacket). tlps_since_reset plan h link end ++ map (sealed_tlp
              (sent_bytes plan h e)) es) none
              ∙ (append-nil (tlps_since_reset plan h link end) ∙ kept.0),
          kept.1,
        )

    its_own : is_forward_on link d e ≡ true → Both true
    its_own on =
        let all = accepted_tlps plan h link (entering_end link d) in
        let n = forwarded_count h link d in
        let f = forward_means plan h link d ds (cause.0 ∙ ap (due plan h) (as_forward e link d on)) in
        let more = one_more all n f.first f.waits in
        let new = ap (λ (x : Event). map (sealed_tlp (sent_bytes plan h x)) (filter (is_tlp_of_sender end) ds))
        (as_forward e link d on) ∙ forwards_first plan fits h link d ds cause.1 f in (
          ap (λ (xs : List HopTlp). tlps_since_reset plan h link end ++ xs) new
              ∙ (ap (λ (xs : List HopTlp). xs ++ f.first ∷ []) before.list
              ∙ (sym more.0 ∙ ap (take (n + 1)) (sym same))),
          omega (arith, more.1, ap length same),
        )

    by : (b : Bool) → is_forward_on link d e ≡ b → Forwards plan ((e, Sealed ds) ∷ h) link d
    by true is = let both = its_own is in record { list = rw is both.0; within = rw is both.1 }
    by false is = let both = other is in record { list = rw is both.0; within = rw is both.1 }

-- at a reset of the link
reset_forwards : (plan : Plan) (h : History) (k : ℕ) (ends : List PortName) (l link : ℕ) (d : Direction)
    → CauseLaw plan ((Reset k ends, v.Reset l) ∷ h) → Forwards plan h link d
    → Forwards plan ((Reset k ends, v.Reset l) ∷ h) link d
unfolding tlps_since_reset forwarded_count accepted_tlps_in_list
reset_forwards plan h k ends l link d cause before = by (clears_hop ends link) refl
  where
    by : (b : Bool) → clears_hop ends link ≡ b → Forwards plan ((Reset k ends, v.Reset l) ∷ h) link d
    by true is = record { list = rw is refl; within = rw is (omega arith) }
    by false is =
        let same = here_after plan h (Reset k ends) (v.Reset l) cause link (entering_end link d) in
        let kept = grown plan h link d _ [] before (same ∙ sym (append-nil (accepted_tlps plan h link
        (entering_end link d)))) in
        record { list = rw is kept.0; within = rw is kept.1 }

accepted_forwards : (plan : Plan) (h : History) (e : Event) (port : PortName) (unit : UnitName) (effects : List Effect)
    (link : ℕ) (d : Direction) → CauseLaw plan ((e, Accepted port unit effects) ∷ h) → Forwards plan h link d
    → Forwards plan ((e, Accepted port unit effects) ∷ h) link d
unfolding tlps_since_reset forwarded_count
accepted_forwards plan h e port unit effects link d cause before =
    let end = entering_end link d in
    let all = accepted_tlps plan h link end in
    let new = tlps_of plan port unit (unit_ended plan h e port unit) in
    let same = taken_accepted plan h e port unit effects cause link end in
    let kept = grown plan h link d _ _ before (same ∙ if_more (is_same_port port end) all new) in
    record { list = kept.0; within = kept.1 }
  where
    if_more : (b : Bool) (xs ys : List HopTlp) → (if b then xs ++ ys else xs) ≡ xs ++ (if b then ys else [])
    if_more true xs ys = refl
    if_more false xs ys = sym (append-nil xs)

still_forwards : (plan : Plan) (h : History) (e : Event) (w : Verdict) (link : ℕ) (d : Direction)
    → CauseLaw plan ((e, w) ∷ h) → tlps_since_reset plan ((e, w) ∷ h) link (leaving_end link d)
    ≡ tlps_since_reset plan h link (leaving_end link d) → forwarded_count ((e, w) ∷ h) link d ≡ forwarded_count h link d
    → accepted_tlps plan ((e, w) ∷ h) link (entering_end link d)
    ≡ accepted_tlps_in_list plan (sealed_packets plan ((e, w) ∷ h)) h link (entering_end link d)
    → Forwards plan h link d → Forwards plan ((e, w) ∷ h) link d
still_forwards plan h e w link d cause sealed count took before =
    let same = took ∙ here_after plan h e w cause link (entering_end link d) in
    record {
      list = sealed ∙ (before.list ∙ (λ i. take (sym count i) (sym same i)));
      within = omega (arith, before.within, count, ap length same);
    }

pub forwards : (plan : Plan) → FitsPlan plan → (h : History) → CauseLaw plan h → (link : ℕ) (d : Direction)
    → has_hop plan link ≡ true → Forwards plan h link d
unfolding tlps_since_reset forwarded_count accepted_tlps_in_list
forwards plan fits [] cause link d known = record { list = refl; within = omega arith }
forwards plan fits ((e, Sealed ds) ∷ h) cause link d known =
    sealed_forwards plan fits h e ds link d cause known (forwards plan fits h cause.1 link d known)
forwards plan fits ((e, Accepted port unit effects) ∷ h) cause link d known =
    accepted_forwards plan h e port unit effects link d cause (forwards plan fits h cause.1 link d known)
forwards plan fits ((Reset k ends, v.Reset l) ∷ h) cause link d known =
    reset_forwards plan h k ends l link d cause (forwards plan fits h cause.1 link d known)
forwards plan fits ((e, w) ∷ h) cause link d known =
    still_forwards plan h e w link d cause refl refl refl (forwards plan fits h cause.1 link d known)

-- ---- the law

pub in_order : (plan : Plan) → FitsPlan plan → (h : History) → CauseLaw plan h → ForwardsInOrder plan h
in_order plan fits h cause link d known =
    let all = accepted_tlps plan h link (entering_end link d) in
    let both = forwards plan fits h cause link d known in (
      drop (forwarded_count h link d) all,
      ap (λ (xs : List HopTlp). xs ++ drop (forwarded_count h link d) all) both.list
          ∙ take-append-drop (forwarded_count h link d) all,
    )

pub prefix_in_sub : (u : SubKind) (xs ys : List HopTlp) → IsPrefixOf xs ys → IsPrefixOf (in_sub u xs) (in_sub u ys)
prefix_in_sub u xs ys begins =
    (in_sub u begins.0, sym (filter-append (λ (x : HopTlp). is_same_sub x.sub u) xs begins.0) ∙ ap (in_sub u) begins.1)

pub each_in_order : (plan : Plan) → FitsPlan plan → (h : History) → CauseLaw plan h → ForwardsEach plan h
each_in_order plan fits h cause link d u known = prefix_in_sub u _ _ (in_order plan fits h cause link d known)

-- The verdict of a send is the one that is due, and the state after it stands for the history with it. It goes by the
-- machine's own cases. With a Live key on the stream the rules of sealing see what the history says: a refusal changes
-- nothing, and packets that are sealed fit the senders, which then stand for the list with them. Without one the kept
-- counts are 0, whatever the history counts, but the TLP is refused before any count is looked at.
use Rattle.machine_ports.specs.Stands.{beside_at, is_of_packets}
use Rattle.machine_ports.specs.Machine.{Stepped, stepped_bytes, stepped_seal}
use Rattle.spec_links.specs.Due.{seal_due}
use Rattle.spec_links.specs.History.{sent_bytes}
unfoldable use Rattle.spec_links.specs.Sent.{bytes_by}
use Rattle.script_events.specs.declared.event.Event.{Event}
unfoldable use Rattle.spec_links.specs.Due.{t_sealed}
use Rattle.spec_links.specs.Ports.{may_send, outgoing_at}
unfoldable use Rattle.spec_links.specs.Ports.{port_of, sealing_end}
use Rattle.machine_ports.proofs.Terms.{◌≡◌, ℕ, ◌+◌, ◌==◌, Bool, true, false, List, [], ◌∷◌, ◌++◌, length, map, Option}
use Rattle.machine_ports.proofs.Terms.{Some, None, Ok, refl, ap, sym, ◌∙◌, subst, arith, if◌then◌else◌, ◌&&◌, ◌||◌}
use Rattle.machine_ports.proofs.Terms.{is_some, is_none, unwrap_or, after_ends, ahead_of_packet, and_false}
use Rattle.machine_ports.proofs.Terms.{stepped_answer, any_out, AreFalse, base, body, CauseLaw, Cpl, described_seal}
use Rattle.machine_ports.proofs.Terms.{due, send_due, each_sub, has_failed, find, first_that_holds, ahead_of_unit}
use Rattle.machine_ports.proofs.Terms.{has_key, has_live_out, has_stream, head_bytes, header, History, is_closed}
use Rattle.machine_ports.proofs.Terms.{is_keyed, is_keyless, is_on, is_out, is_quiet, is_same_port, is_same_sub}
use Rattle.machine_ports.proofs.Terms.{kept_packet, KeyFacts, KeyName, Keys, port_keys, lane_out, Lanes, lanes_at}
use Rattle.machine_ports.proofs.Terms.{lanes_of, length-map, lesser, LinkPacket, LinkState, listed_seals, live_key}
use Rattle.machine_ports.proofs.Terms.{aggregation_of, needs_posted, needs_sync, no_key, none_holds, Npr, on_live}
use Rattle.machine_ports.proofs.Terms.{operates, Packet, Plan, PortName, StreamsAndPacketsStand, posted_since_last, Pr}
use Rattle.machine_ports.proofs.Terms.{with_stream_state, read_of, refusals, sealed_all, sealed_with_syncs}
use Rattle.machine_ports.proofs.Terms.{sealed_by_is, sealed_packets, SealedList, SealedPacket, Send, stepped_on_stream}
use Rattle.machine_ports.proofs.Terms.{stepped_send, streams_of, Sending, verdict_of_send, stream_state_due}
use Rattle.machine_ports.proofs.Terms.{StreamState, SubKind, Three, Tlp, tlp_word, total_in, tx_slots, TxSub, Verdict}
use Rattle.machine_ports.proofs.Terms.{with_sealed}
use Rattle.event_verdicts.specs.declared.verdict.Verdict.TheVariants as v
use Rattle.tlp_layout.specs.Class.{class_of}
use Rattle.tlp_layout.specs.Faults.{place_in}
use Rattle.tlp_layout.specs.Outgoing.{Outgoing, NoTlp, OnNone, OnStream, outgoing_of}
use Rattle.tlp_layout.proofs.Outgoing.{on_stream_reads}
use Rattle.spec_links.proofs.Choices.{stream_known}
use Rattle.machine_ports.proofs.Puts.{find-put, find-put_other}
use Rattle.machine_ports.proofs.Frames.{each_same, stream_is, rx_frame, live_out, failed_same}
use Rattle.machine_ports.proofs.Changes.{Steps, none_of_packets, kept_is, not_kept, changes, quiet, kept_all}
use Rattle.machine_ports.proofs.Answers.{any_of}
use Rattle.machine_ports.proofs.Lanes.{lanes_is, keyless_is, failed_is}
use Rattle.machine_ports.proofs.Seals.{Fits, AllFit, IsSealed, all_sealed, tx_at}

-- ---- what is sealed fits

lesser_on : (ks : Keys) → is_none (lesser ks.first ks.second) ≡ false → (is_on ks.first || is_on ks.second) ≡ true
lesser_on ks keyed = grind arith

-- a stream that seals has a Live key
seals_live : (plan : Plan) (h : History) (port : PortName) (stream : ℕ) (u : SubKind)
    → is_keyless (lanes_at plan h port stream) u ≡ false → has_live_out h port stream ≡ true
unfolding has_live_out
seals_live plan h port stream u keyed = any_of (λ w. is_keyed h port (lane_out port stream w)) u
    (lesser_on (port_keys h port (lane_out port stream u)) keyed)

-- these descriptions fit after what was sealed
abbrev FitBehind : Plan → History → Sending → List SealedPacket → Type 0
FitBehind plan h s =
    AllFit (is_closed plan s.port.line s.stream) (ahead_of_packet plan (sealed_packets plan h) (base h)) s.port s.stream
    (base h s.port.line s.stream)
    (sealed_packets plan h) (λ u. port_keys h s.port (lane_out s.port s.stream u))

module _ (plan : Plan) (facts : KeyFacts plan) (h : History) (law : CauseLaw plan h) (s : Sending) where
  -- a description under the key of its sub-stream
  describes : (u : SubKind) (number : ℕ) (m t sync : Bool) → is_keyless (lanes_at plan h s.port s.stream) u ≡ false
      → Fits (is_closed plan s.port.line s.stream) (ahead_of_packet plan (sealed_packets plan h) (base h)) s.port
      s.stream
      (base h s.port.line s.stream)
      (sealed_packets plan h) (λ u. port_keys h s.port (lane_out s.port s.stream u))
      (described_seal (lanes_at plan h s.port s.stream) s u number m t sync)
  unfolding ahead_of_unit
  describes u number m t sync keyed =
      let place = lane_out s.port s.stream u in
      let x = has_key (lanes_at plan h s.port s.stream) u keyed in
      let key : unwrap_or (live_key h s.port place) no_key ≡ x.key = ap (λ (o : Option KeyName). unwrap_or o no_key)
      x.is in
      let live_is : live_key h s.port place ≡ Some (unwrap_or (live_key h s.port place) no_key) = x.is ∙ ap
      (λ (n : KeyName). Some n) (sym key) in
      record {
        port_is = refl;
        stream_is = refl;
        live = live_is;
        counts = facts.from_base h law s.port place _ _ (on_live _ _ _ live_is);
        apart = facts.apart h law s.port place;
        unused = facts.unused h law s.port s.stream u;
        unfinished = refl;
      }

  all_fit : (number : ℕ) (n c : Bool) → let x = lanes_at plan h s.port s.stream in is_keyless x s.class ≡ false
      → (n ≡ true → (s.class ≡ Pr) × (is_keyless x Npr ≡ false))
      → (c ≡ true → (s.class ≡ Pr) × (is_keyless x Cpl ≡ false))
      → FitBehind plan h s (listed_seals x s number n c)
  unfolding listed_seals
  all_fit number false false keyed r c = (describes s.class _ _ _ _ keyed, tt, tt)
  all_fit number true false keyed r c = (
    describes Npr _ _ _ _ (r refl).1,
    (ap (is_same_sub Npr) (r refl).0, tt),
    (describes s.class _ _ _ _ keyed, tt, tt),
  )
  all_fit number false true keyed r c = (
    describes Cpl _ _ _ _ (c refl).1,
    (ap (is_same_sub Cpl) (c refl).0, tt),
    (describes s.class _ _ _ _ keyed, tt, tt),
  )
  all_fit number true true keyed r c = (
    describes Npr _ _ _ _ (r refl).1,
    (refl, (ap (is_same_sub Npr) (r refl).0, tt)),
    (
      describes Cpl _ _ _ _ (c refl).1,
      (ap (is_same_sub Cpl) (c refl).0, tt),
      (describes s.class _ _ _ _ keyed, tt, tt),
    ),
  )

  unrefused_fit : (number : ℕ) → let x = lanes_at plan h s.port s.stream in AreFalse (refusals x s.class)
      → FitBehind plan h s (sealed_with_syncs x s number)
  unrefused_fit number free =
      let x = lanes_at plan h s.port s.stream in
      subst (FitBehind plan h s) (sym (sealed_by_is x s number))
      (all_fit number (needs_sync x s.class Npr) (needs_sync x s.class Cpl) free.1.0
      (λ needs. (needs_posted x s.class Npr needs, and_false _ _ free.1.1.1.0 needs))
      (λ needs. (needs_posted x s.class Cpl needs, and_false _ _ free.1.1.1.1.0 needs)))

-- ---- the state after it

only_out : (closed : Bool) (ahead : SealedPacket → List ℕ) (port : PortName) (stream from : ℕ) (xs : SealedList)
    (keys : SubKind → Keys)
    (ds : List SealedPacket) → AllFit closed ahead port stream from xs keys ds → (q : PortName) (t : ℕ)
    → (is_same_port port q && (stream == t)) ≡ false → any_out q t ds ≡ false
only_out closed ahead port stream from xs keys [] all q t other = refl
only_out closed ahead port stream from xs keys (d ∷ ds) all q t other =
    let off : is_out q t d ≡ false = (λ i. is_same_port (all.0.port_is i) q && (all.0.stream_is i == t)) ∙ other in
    rw (off, only_out closed ahead port stream from xs keys ds all.2 q t other) refl

-- while a port seals on a stream, its senders are those of the list of sealed packets
senders_before : (plan : Plan) (h : History) (port : PortName) (stream : ℕ) → has_live_out h port stream ≡ true
    → (stream_state_due plan h port stream).tx
    ≡ each_sub (tx_at plan port stream (base h port.line stream) (sealed_packets plan h)
    (λ u. port_keys h port (lane_out port stream u)))
unfolding stream_state_due
senders_before plan h port stream live =
    let xs = sealed_packets plan h in
    let from = base h port.line stream in
    λ i. each_sub (λ u. let s = lane_out port stream u in
    record {
      slots = tx_slots plan xs s (port_keys h port s);
      posted = if live i then posted_since_last xs s from else 0;
      total = if live i then total_in xs s from else 0;
    })

find_packets : (plan : Plan) (st : LinkState) (ps : List LinkPacket) (q : PortName) (t : ℕ)
    → find plan (record st { packets = ps }) q t ≡ find plan st q t
unfolding find
find_packets plan st ps q t = refl

-- the packets of a send are sealed, and the pair is lawful
module _ (plan : Plan) (facts : KeyFacts plan) (h : History) (s : Sending) (e : Event) (on : is_of_packets e ≡ true)
    (ds : List SealedPacket)
    (law : CauseLaw plan ((e, v.Sealed ds) ∷ h)) where
  sealed_with : sealed_packets plan ((e, v.Sealed ds) ∷ h)
      ≡ with_sealed plan (ahead_of_packet plan (sealed_packets plan h) (base h)) (sent_bytes plan h e) ds
      (sealed_packets plan h)
  unfolding sealed_packets
  sealed_with = refl

  still : operates e s.port.line s.stream ≡ false
  still = none_of_packets e on s.port.line s.stream

  after_seals : (tx : Three TxSub) → has_live_out h s.port s.stream ≡ true
      → tx ≡ each_sub (tx_at plan s.port s.stream (base h s.port.line s.stream)
      (with_sealed plan (ahead_of_packet plan (sealed_packets plan h) (base h)) (sent_bytes plan h e) ds
      (sealed_packets plan h))
      (λ u. after_ends s.port (lane_out s.port s.stream u) ds (port_keys h s.port (lane_out s.port s.stream u))))
      → record (stream_state_due plan h s.port s.stream) { tx = tx } ≡ stream_state_due plan
      ((e, v.Sealed ds) ∷ h) s.port s.stream
  unfolding stream_state_due
  after_seals tx live same =
      let w = v.Sealed ds in
      let now = live_out plan facts h e w law s.port s.stream still ∙ live in
      let from = facts.base_same h e w law s.port.line s.stream still in
      stream_is _ _ (same ∙ sym (λ i. each_sub (λ u. let place = lane_out s.port s.stream u in
      record {
        slots = tx_slots plan (sealed_with i) place (facts.sealed h e ds law s.port place i);
        posted = if now i then posted_since_last (sealed_with i) place (from i) else 0;
        total = if now i then total_in (sealed_with i) place (from i) else 0;
      }))) (sym (each_same _ _ (λ u. rx_frame plan facts h e w law s.port s.stream still u refl refl refl)))
      (sym (failed_same plan facts h e w law s.port s.stream still refl))

abbrev AreQuiet : List (Bool × Verdict) → Type 0
AreQuiet [] = Unit {0}
AreQuiet (x ∷ xs) = (is_quiet x.1 ≡ true) × AreQuiet xs

first_quiet : (xs : List (Bool × Verdict)) (w : Verdict) → AreQuiet xs → first_that_holds xs ≡ Some w → is_quiet w
    ≡ true
first_quiet [] w all is = absurd cc
first_quiet (x ∷ xs) w all is = by_test x.0 is (first_quiet xs w all.1)
  where
    by_test : (b : Bool) → (if b then Some x.1 else first_that_holds xs) ≡ Some w
        → (first_that_holds xs ≡ Some w → is_quiet w ≡ true) → is_quiet w ≡ true
    by_test true is more = let same : x.1 ≡ w = cc in subst (λ (y : Verdict). is_quiet y ≡ true) same all.0
    by_test false is more = more is

-- without a key of its sub-stream a TLP is refused
refused_keyless : (x : Lanes) (class : SubKind) → is_keyless x class ≡ true
    → first_that_holds (refusals x class) ≡ Some (if x.failed then v.RefusedInsecure else v.RefusedNoKey class)
refused_keyless x class keyless = rw keyless (by_failure x.failed)
  where
    by_failure : (b : Bool) → (if b then Some v.RefusedInsecure else Some (v.RefusedNoKey class))
        ≡ Some (if b then v.RefusedInsecure else v.RefusedNoKey class)
    by_failure b = grind arith

refusal_quiet : (b : Bool) (class : SubKind) → is_quiet (if b then v.RefusedInsecure else v.RefusedNoKey class) ≡ true
refusal_quiet b class = grind arith

-- ---- a send if the ports stand for the history

module _ (plan : Plan) (facts : KeyFacts plan) (st : LinkState) (h : History)
    (stands : StreamsAndPacketsStand plan st h)
    (e : Event) (on : is_of_packets e ≡ true) (more trusted : Bool) where
  pub tells : (port : PortName) (w : Verdict) → is_quiet w ≡ true → w ≡ due plan h e → Steps plan h e (w, st)
  tells port w none is = quiet plan facts st h e w stands none is
      (none_of_packets e on)

  -- the packets are sealed
  seals : (s : Sending) (t : Tlp) (ds : List SealedPacket) → has_stream plan s.port s.stream ≡ true
      → is_some (find plan st s.port s.stream) ≡ true → read_of (sent_bytes plan h e) ≡ Ok t
      → v.Sealed ds ≡ due plan h e → has_live_out h s.port s.stream ≡ true → FitBehind plan h s ds
      → Steps plan h e (stepped_answer plan st s t (stream_state_due plan h s.port s.stream) None ds)
  seals s t ds known found reads is live all =
      let closed = is_closed plan s.port.line s.stream in
      let unfinished = ahead_of_packet plan (sealed_packets plan h) (base h) in
      let from = base h s.port.line s.stream in
      let xs = sealed_packets plan h in
      let keys : SubKind → Keys = λ u. port_keys h s.port (lane_out s.port s.stream u) in
      let r = sealed_all closed (head_bytes (header t)) (body t) ds (stream_state_due plan h s.port s.stream).tx in
      let done : IsSealed plan unfinished s.port s.stream from (sent_bytes plan h e) xs keys ds r =
      subst (λ (tx : Three TxSub). IsSealed plan unfinished s.port s.stream from (sent_bytes plan h e) xs keys ds
      (sealed_all closed (head_bytes (header t)) (body t) ds tx))
      (sym (senders_before plan h s.port s.stream live))
      (all_sealed plan closed unfinished s.port s.stream from (sent_bytes plan h e) t reads ds xs keys all) in
      let x : StreamState = record (stream_state_due plan h s.port s.stream) { tx = r.1 } in
      let ps : List LinkPacket = st.packets ++ map (kept_packet s.port) r.0 in
      let new = with_stream_state plan st s.port s.stream x in
      let law : CauseLaw plan ((e, v.Sealed ds) ∷ h) = (is, stands.cause) in
      changes plan facts st (record new { packets = ps }) h e (v.Sealed ds) s.port s.stream x stands is
      (none_of_packets e on) known
      (λ q n other. (only_out closed unfinished s.port s.stream from xs keys ds all q n other, refl))
      (find_packets plan new ps s.port s.stream ∙ find-put plan st s.port s.stream x found)
      (λ q n other. find_packets plan new ps q n ∙ find-put_other plan st s.port s.stream x q n other)
      (after_seals plan facts h s e on ds law r.1 live done.senders)
      (ap (λ (ks : List LinkPacket). ks ++ map (kept_packet s.port) r.0) stands.packets
      ∙ (done.packets ∙ ap kept_all (sym (sealed_with plan facts h s e on ds law))))

  -- what the sealing rules give
  answers : (s : Sending) (t : Tlp) → has_stream plan s.port s.stream ≡ true → is_some (find plan st s.port s.stream)
      ≡ true → read_of (sent_bytes plan h e) ≡ Ok t
      → let x = lanes_at plan h s.port s.stream in (number : ℕ) → verdict_of_send x s number
      ≡ due plan h e
      → (o : Option Verdict) → first_that_holds (refusals x s.class) ≡ o
      → Steps plan h e
      (stepped_answer plan st s t (stream_state_due plan h s.port s.stream) o (sealed_with_syncs x s number))
  answers s t known found reads number is (Some w) first =
      let x = lanes_at plan h s.port s.stream in
      tells s.port w (first_quiet (refusals x s.class) w
      (refl, (refl, (refl, (refl, (refl, (refl, (refl, (refl, tt)))))))) first)
      (ap (λ (o : Option Verdict). unwrap_or o (v.Sealed (sealed_with_syncs x s number))) (sym first) ∙ is)
  answers s t known found reads number is None first =
      let x = lanes_at plan h s.port s.stream in
      let free = none_holds (refusals x s.class) first in
      seals s t (sealed_with_syncs x s number) known found reads
      (ap (λ (o : Option Verdict). unwrap_or o (v.Sealed (sealed_with_syncs x s number))) (sym first) ∙ is)
      (seals_live plan h s.port s.stream s.class free.1.0) (unrefused_fit plan facts h stands.cause s number free)

  -- a port that has no Live key on the stream refuses
  refuses : (s : Sending) (t : Tlp) (number : ℕ) → verdict_of_send (lanes_at plan h s.port s.stream) s number
      ≡ due plan h e
      → has_live_out h s.port s.stream ≡ false → Steps plan h e
      (stepped_on_stream plan st s t (Some (stream_state_due plan h s.port s.stream)))
  refuses s t number is none =
      let x = lanes_at plan h s.port s.stream in
      let y = lanes_of (aggregation_of plan s.port.line s.stream) plan.units_per_key
      (stream_state_due plan h s.port s.stream)
      in
      let w = if has_failed h s.port s.stream then v.RefusedInsecure else v.RefusedNoKey s.class in
      let live = seals_live plan h s.port s.stream s.class in
      let keyless : is_keyless x s.class ≡ true = grind (arith, live) in
      let first : first_that_holds (refusals y s.class) ≡ Some w =
      refused_keyless y s.class (keyless_is plan h s.port s.stream s.class ∙ keyless)
      ∙ ap (λ (b : Bool). Some (if b then v.RefusedInsecure else v.RefusedNoKey s.class))
      (failed_is plan h s.port s.stream) in
      rw first (tells s.port w (refusal_quiet (has_failed h s.port s.stream) s.class)
      (ap (λ (o : Option Verdict). unwrap_or o (v.Sealed (sealed_with_syncs x s number)))
      (sym (refused_keyless x s.class keyless)) ∙ is))

  sends_as : (s : Sending) (t : Tlp) → read_of (sent_bytes plan h e) ≡ Ok t
      → verdict_of_send (lanes_at plan h s.port s.stream) s (length (sealed_packets plan h) + 1) ≡ due plan h e
      → (y : StreamState) → find plan st s.port s.stream ≡ Some y
      → Steps plan h e (stepped_on_stream plan st s t (Some y))
  sends_as s t reads is y found =
      let kept = kept_is plan st h s.port s.stream y stands found in
      subst (λ (z : StreamState). Steps plan h e (stepped_on_stream plan st s t (Some z))) (sym kept.same)
      (by_live kept.known (has_live_out h s.port s.stream) refl)
    where
      by_live : has_stream plan s.port s.stream ≡ true → (b : Bool) → has_live_out h s.port s.stream ≡ b
          → Steps plan h e (stepped_on_stream plan st s t (Some (stream_state_due plan h s.port s.stream)))
      by_live known true live =
          let x = lanes_at plan h s.port s.stream in
          let number : length st.packets ≡ length (sealed_packets plan h) = ap length stands.packets
          ∙ length-map (sealed_packets plan h) (λ (z : SealedPacket × Packet). kept_packet z.0.port z.1) in
          subst (λ (l : Lanes). Steps plan h e
          (stepped_answer plan st s t (stream_state_due plan h s.port s.stream)
          (first_that_holds (refusals l s.class)) (sealed_with_syncs l s (length st.packets + 1))))
          (sym (lanes_is plan h s.port s.stream live))
          (answers s t known (rw found refl) reads (length st.packets + 1)
          (ap (λ (n : ℕ). verdict_of_send x s (n + 1)) number ∙ is)
          (first_that_holds (refusals x s.class)) refl)
      by_live known false none = refuses s t (length (sealed_packets plan h) + 1) is none

  by_found : (s : Sending) (t : Tlp) → read_of (sent_bytes plan h e) ≡ Ok t → has_stream plan s.port s.stream ≡ true
      → verdict_of_send (lanes_at plan h s.port s.stream) s (length (sealed_packets plan h) + 1) ≡ due plan h e
      → (o : Option StreamState) → find plan st s.port s.stream ≡ o → Steps plan h e (stepped_on_stream plan st s t o)
  by_found s t reads known is None found = let other = not_kept plan st h s.port s.stream stands found in absurd cc
  by_found s t reads known is (Some y) found = sends_as s t reads is y found

  -- a TLP on a stream that the end has
  pub by_stream : (port : PortName) (t : Tlp) (stream : ℕ) (tee : Bool) → read_of (sent_bytes plan h e) ≡ Ok t
      → has_stream plan port stream ≡ true → seal_due plan h port t stream more tee ≡ due plan h e
      → Steps plan h e (stepped_seal plan st port t stream more tee)
  by_stream port t stream tee reads known is =
      by_found (record { port = port; stream = stream; class = class_of (header t); more = more; trusted = tee }) t
      reads known is (find plan st port stream) refl

  pub by_outgoing : (port : PortName) (o : Outgoing)
      → outgoing_of (streams_of plan port.line) port.side (sent_bytes plan h e) ≡ o
      → send_due plan h port o more trusted ≡ due plan h e
      → Steps plan h e (stepped_send plan (beside_at plan h) st port o more trusted)
  by_outgoing port (NoTlp f) comes is = tells port (v.Malformed (port_of plan port) (tlp_word f) (place_in f)) refl is
  by_outgoing port OnNone comes is = tells port (v.Plain (port_of plan port)) refl is
  by_outgoing port (OnStream t stream) comes is =
      by_stream port t stream (t_sealed plan h port (header t) stream trusted)
      (on_stream_reads (streams_of plan port.line) port.side (sent_bytes plan h e) t stream comes).0
      (stream_known plan port (sent_bytes plan h e) t stream comes) is

pub if_steps : (plan : Plan) (h : History) (e : Event) (b : Bool) (x y : Stepped) → (b ≡ true → Steps plan h e x)
    → (b ≡ false → Steps plan h e y) → Steps plan h e (if b then x else y)
if_steps plan h e true x y one two = one refl
if_steps plan h e false x y one two = two refl

pub sends : (plan : Plan) → KeyFacts plan → (st : LinkState) (h : History) → StreamsAndPacketsStand plan st h
    → (bytes : List ℕ) (more trusted : Bool) (port : PortName) → Steps plan h (Send port bytes more trusted)
    (if may_send plan port
    then stepped_bytes plan (beside_at plan h) st (sealing_end plan port bytes) bytes more trusted
    else (v.Nothing, st))
unfolding due bytes_by
sends plan facts st h stands bytes more trusted port =
    let e = Send port bytes more trusted in
    let end = sealing_end plan port bytes in
    if_steps plan h e (may_send plan port) _ _
    (λ here. by_outgoing plan facts st h stands e refl more trusted end (outgoing_at plan end bytes) refl
    (rw here refl))
    (λ none. tells plan facts st h stands e refl more trusted port v.Nothing refl (rw none refl))

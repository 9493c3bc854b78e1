-- T of each sealed packet, by the end that sealed it.
use Rattle.std.proofs.Common.{◌≡◌, ℕ, ◌+◌, ◌<◌, ◌≤◌, ◌==◌, ◌&&◌, ◌∷◌, Bool, true, false, List, [], Option, Some, None}
use Rattle.std.proofs.Common.{Result, Ok, Err, slice_get, length, refl, ap, sym, subst, ◌∙◌, arith}
use Rattle.std.specs.Prelude.{◌↔◌, if◌then◌else◌, is_some, nat_le, nat_lt, not}
use Rattle.std.specs.List.{AllByRecursion}
use Rattle.std.specs.Option.{option_and_then}
use Rattle.std.proofs.lemmas.Bool.{true≢false, and_parts, eqb-true, eq-eqb, and_from, ltb-true}
use Rattle.std.proofs.lemmas.Bool.Decides.{nat_tests}
use Rattle.ide_types.specs.Ends.{link_hop, port_beside_end}
use Rattle.ide_types.specs.Fits.{FitsPlan}
use Rattle.ide_types.specs.Lines.{is_link_line, is_hosted, is_far_hop_line}
use Rattle.ide_types.specs.Ports.{host_port}
use Rattle.ide_types.specs.declared.direction.Direction.{Direction}
use Rattle.ide_types.specs.declared.direction.Direction.TheVariants.{Downstream, Upstream}
use Rattle.ide_types.specs.declared.port.Side.{Side}
use Rattle.ide_types.specs.declared.port.Side.TheVariants.{Host, Device}
use Rattle.tlp_layout.specs.declared.fault.TlpFault.{TlpFault}
use Rattle.spec_keys.specs.Places.{is_host}
use Rattle.spec_links.specs.Terms.{Plan, PortName, Event, Send, Access, SealedPacket, Verdict, History, Tlp, header}
use Rattle.spec_links.specs.Terms.{read_of, Site, site_of_requester}
use Rattle.spec_links.specs.Cause.{CauseLaw}
use Rattle.spec_links.specs.Plan.{has_link, has_port}
use Rattle.spec_links.specs.Ports.{at_switch, may_send, sealing_end}
use Rattle.spec_links.specs.History.{sealed_packets, sent_bytes, sending_port}
unfoldable use Rattle.spec_links.specs.Sent.{bytes_by}
use Rattle.spec_links.specs.Hops.{HopTlp, has_hop, leaving_end}
use Rattle.spec_links.specs.Memory.{hop_waiting}
use Rattle.spec_links.specs.Due.{lanes_at, bytes_due, forward_first}
unfoldable use Rattle.spec_links.specs.Due.{due}
use Rattle.spec_links.proofs.SealingIs.{sealing_is, AllLive, all_live, sealed_by_sealing}
use Rattle.spec_interfaces.specs.Cause.{SealFits, t_at, owner_id, owner_read, owners_link}
use Rattle.interface_state.specs.Machine.{lock_of}
use Rattle.interface_state.specs.declared.states.Lock.{Lock}
use Rattle.interface_state.specs.declared.states.TdiState.{TdiState}
use Rattle.interface_state.specs.declared.states.TdiState.TheVariants.{Run}
use Rattle.spec_interfaces.proofs.Locks.{lock_stands}
use Rattle.spec_interfaces.specs.Devices.{interface_at, is_run, runs_at, sets_t, peer_t, is_bound_at}
use Rattle.spec_interfaces.specs.Laws.{OwnerIsBound}
use Rattle.spec_interfaces.proofs.OnLinks.{owner_on_link}
use Rattle.law_reads.proofs.Requesters.{requester_meets}
use Rattle.law_reads.proofs.Oldest.{first_means}
use Rattle.law_hops.proofs.Sends.{forward_sends}
use Rattle.law_memory.specs.ReadLaws.{Carries}
use Rattle.law_locks.proofs.{draws, interface_cause, read_law}
use Rattle.law_verdicts.specs.Verdicts.{is_at_host}
use Rattle.script_events.specs.declared.event.Event.TheVariants.{Forward}
use Rattle.script_events.specs.declared.event.AccessEvent.TheVariants as ae
use Rattle.event_verdicts.specs.declared.access.AccessVerdict.TheVariants as av
use Rattle.event_verdicts.specs.declared.verdict.Verdict.TheVariants as v
use Rattle.law_sending.specs.Trust.{is_at_device, is_at_device_hop, is_at_peer, OwnerRuns, IsFirstWaiting}
use Rattle.law_sending.specs.Trust.{HasItsT, HaveTheirT}
use Rattle.law_sending.proofs.Choice.{hop_of}
use Rattle.law_sending.proofs.Responses.{responses_have}
use Rattle.law_memory.proofs.Packets.{sealed_of, all_of, IsOf, map_all}
use Rattle.spec_stream.specs.Sending.{Sending}
use Rattle.law_sending.proofs.Waiting.{first_waits}
use Rattle.law_hops.proofs.Forwards.{send_apart}
use Rattle.law_hops.proofs.Crosses.{few_links}

-- ---- T that is set

-- of a packet that carries a TLP
carried : (sync t u : Bool) → sync ≡ false → t ≡ (if sync then false else u) → t ≡ u
carried sync t u carries is = grind arith

unset : (sync t u : Bool) → sync ≡ true → t ≡ (if sync then false else u) → t ≡ false
unset sync t u is_sync is = grind arith

no_peer : (line links : ℕ) → nat_lt line 24 ≡ true → (nat_le 24 line && not (nat_lt line links)) ≡ false
no_peer line links less = grind (arith, nat_tests)

peer_is : (line links : ℕ) → nat_le 24 line ≡ true → links ≤ 8 → (nat_le 24 line && not (nat_lt line links)) ≡ true
peer_is line links more few = grind (arith, nat_tests)

link_low : (line : ℕ) → nat_lt line 8 ≡ true → nat_lt line 24 ≡ true
link_low line less = grind (arith, nat_tests)

hosted_low : (line : ℕ) → nat_lt line 16 ≡ true → nat_lt line 24 ≡ true
hosted_low line less = grind (arith, nat_tests)

-- in RUN it has its lock, which names the stream that the topology gives it
record RunsUnder (plan : Plan) (h : History) (x : Site) : Type 0 where
  lock : Lock
  runs : (interface_at plan h x).state ≡ Run lock
  names : lock.stream ≡ x.plan.stream

names_own : (plan : Plan) (h : History) (x : Site) (lock : Lock) → (interface_at plan h x).state ≡ Run lock
    → lock.stream ≡ x.plan.stream
names_own plan h x lock is = ap (λ (l : Lock). l.stream) (lock_stands plan h x lock (ap lock_of is))

runs_under : (plan : Plan) (h : History) (x : Site) → runs_at plan h x ≡ true → RunsUnder plan h x
runs_under plan h x runs = by (interface_at plan h x).state refl runs
  where
    by : (s : TdiState) → (interface_at plan h x).state ≡ s → is_run s ≡ true → RunsUnder plan h x
    by (Run lock) is runs = record { lock = lock; runs = is; names = names_own plan h x lock is }
    by s is runs = absurd cc

-- a test says just this
abbrev IsExactly : Bool → Type 0 → Type 0
IsExactly b P = (b ≡ true) ↔ P

module _ (plan : Plan) (h : History) where
  runs_exactly : (link stream : ℕ) (bytes : List ℕ) (o : Option Site) → owner_read plan link (read_of bytes) ≡ o
      → IsExactly (sets_t plan h link stream o) (OwnerRuns plan h link stream bytes)
  runs_exactly link stream bytes None owns =
      (λ is. absurd (true≢false (sym is)), λ owner. absurd (clash owner.interface (sym owner.owns ∙ owns)))
    where
      clash : (x : Site) → Some x ≡ None → ⊥
      clash x is = absurd cc
  runs_exactly link stream bytes (Some x) owns = (
    λ is.
        let parts = and_parts (runs_at plan h x) (x.plan.stream == stream) is in
        let under = runs_under plan h x parts.0 in
        record {
          interface = x;
          owns = owns;
          lock = under.lock;
          runs = under.runs;
          names = under.names ∙ eqb-true x.plan.stream stream parts.1;
        },
    λ owner.
        let same : owner.interface ≡ x = one owner.interface x (sym owner.owns ∙ owns) in
        subst (λ (y : Site). (runs_at plan h y && (y.plan.stream == stream)) ≡ true) same
        (and_from _ _ (ap is_run owner.runs) (eq-eqb owner.interface.plan.stream stream
        (sym (names_own plan h owner.interface owner.lock owner.runs) ∙ owner.names))),
  )
    where
      one : (x y : Site) → Some x ≡ Some y → x ≡ y
      one x y is = cc (is)

  bound_exactly : (link stream : ℕ) (bytes : List ℕ) (o : Option Site) → owner_read plan link (read_of bytes) ≡ o
      → IsExactly (peer_t plan h o stream) (OwnerIsBound plan h link stream bytes)
  bound_exactly link stream bytes None owns =
      (λ is. absurd (true≢false (sym is)), λ owner. absurd (clash owner.interface (sym owner.owns ∙ owns)))
    where
      clash : (x : Site) → Some x ≡ None → ⊥
      clash x is = absurd cc
  bound_exactly link stream bytes (Some x) owns = (
    λ is.
        let parts = and_parts (runs_at plan h x) (is_bound_at plan h x stream) is in
        record { interface = x; owns = owns; runs = parts.0; bound = parts.1 },
    λ owner.
        let same : owner.interface ≡ x = one owner.interface x (sym owner.owns ∙ owns) in
        subst (λ (y : Site). (runs_at plan h y && is_bound_at plan h y stream) ≡ true) same
        (and_from _ _ owner.runs owner.bound),
  )
    where
      one : (x y : Site) → Some x ≡ Some y → x ≡ y
      one x y is = cc (is)

  exactly_at : (b c : Bool) (P : Type 0) → b ≡ c → IsExactly c P → IsExactly b P
  exactly_at b c P same exact = (λ is. exact.0 (sym same ∙ is), λ p. same ∙ exact.1 p)

-- no interface is behind a segment of a hop
no_owner : (plan : Plan) → FitsPlan plan → (line : ℕ) (r : Result Tlp TlpFault) → 8 ≤ line
    → owner_read plan line r ≡ None
no_owner plan fits line r high = by (owner_read plan line r) refl
  where
    on_line : (o : Option ℕ) (x : Site) → option_and_then (site_of_requester plan line) o ≡ Some x → x.link ≡ line
    on_line None x is = absurd cc
    on_line (Some id) x is = (requester_meets plan line id x is).0

    at_line : (r : Result Tlp TlpFault) (x : Site) → owner_read plan line r ≡ Some x → x.link ≡ line
    at_line (Ok t) x is = on_line (owner_id (header t)) x is
    at_line (Err f) x is = absurd cc

    by : (o : Option Site) → owner_read plan line r ≡ o → o ≡ None
    by None is = refl
    by (Some x) is =
        let same = at_line r x is in
        let below = ltb-true x.link (length plan.links) (owner_on_link plan line r x is) in
        absurd (omega (arith, same, below, fits.links_most, high))

-- ---- sends

-- its end is at no switch
own_apart : (plan : Plan) (end : PortName) → may_send plan end ≡ true → at_switch plan end ≡ false
own_apart plan end can = by (has_port plan end) (at_switch plan end) can
  where
    by : (has switch : Bool) → (has && not switch) ≡ true → switch ≡ false
    by has switch is = grind arith

pub seals_apart : (plan : Plan) → FitsPlan plan → (end : PortName) (bytes : List ℕ) → may_send plan end ≡ true
    → at_switch plan (sealing_end plan end bytes) ≡ false
seals_apart plan fits end bytes can = send_apart plan fits end bytes (own_apart plan end can)

pub send_may : (plan : Plan) (h : History) (end : PortName) (bytes : List ℕ) (more trusted : Bool)
    (ds : List SealedPacket) → v.Sealed ds ≡ due plan h (Send end bytes more trusted) → may_send plan end ≡ true
unfolding due
send_may plan h end bytes more trusted ds is = by (may_send plan end) is
  where
    by : (b : Bool)
        → v.Sealed ds ≡ (if b then bytes_due plan h (sealing_end plan end bytes) bytes more trusted else v.Nothing)
        → b ≡ true
    by true is = refl
    by false is = absurd cc

host_side : (plan : Plan) (h : History) (side : Side) (line : ℕ) (owner : Option Site) (stream : ℕ) (trusted : Bool)
    → (is_host side && is_hosted line) ≡ true
    → t_at plan h (record { side = side; line = line }) owner stream trusted ≡ trusted
host_side plan h Host line owner stream trusted is = rw (no_peer line (length plan.links) (hosted_low line is)) refl
host_side plan h Device line owner stream trusted is = absurd cc

device_side : (plan : Plan) (h : History) (side : Side) (line : ℕ) (r : Result Tlp TlpFault) (stream : ℕ)
    (trusted : Bool) → not (is_host side) ≡ true → nat_lt line 24 ≡ true
    → t_at plan h (record { side = side; line = line }) (owner_read plan (owners_link plan (record {
      side = side;
      line = line;
    })) r) stream trusted
    ≡ sets_t plan h line stream (owner_read plan line r)
device_side plan h Host line r stream trusted off low = absurd cc
device_side plan h Device line r stream trusted off low = rw (no_peer line (length plan.links) low) refl

peer_side : (plan : Plan) → FitsPlan plan → (h : History) (end : PortName) (r : Result Tlp TlpFault) (stream : ℕ)
    (trusted : Bool) → nat_le 24 end.line ≡ true
    → t_at plan h end (owner_read plan (owners_link plan end) r) stream trusted
    ≡ peer_t plan h (owner_read plan (port_beside_end plan.peers end).line r) stream
peer_side plan fits h end r stream trusted high =
    rw (peer_is end.line (length plan.links) high fits.links_most) refl

sent_t : (plan : Plan) → FitsPlan plan → (h : History) (end : PortName) (bytes : List ℕ) (more trusted : Bool)
    (d : SealedPacket) → at_switch plan d.port ≡ false → SealFits plan h bytes trusted d
    → HasItsT plan h (Send end bytes more trusted) d
unfolding bytes_by
sent_t plan fits h end bytes more trusted d apart fit =
    let r = read_of bytes in
    let u : Bool = t_at plan h d.port (owner_read plan (owners_link plan d.port) r) d.stream trusted in
    record {
      sync = λ is. unset d.sync d.t u is fit.t_is;
      host = λ carries at.
          carried d.sync d.t u carries fit.t_is
          ∙ host_side plan h d.port.side d.port.line (owner_read plan (owners_link plan d.port) r) d.stream trusted at;
      device = λ sent carries at.
          let parts = and_parts (not (is_host d.port.side)) (is_link_line d.port.line) at in
          exactly_at plan h d.t (sets_t plan h d.port.line d.stream (owner_read plan d.port.line r)) _
          (carried d.sync d.t u carries fit.t_is
          ∙ device_side plan h d.port.side d.port.line r d.stream trusted parts.0 (link_low d.port.line parts.1))
          (runs_exactly plan h d.port.line d.stream bytes (owner_read plan d.port.line r) refl);
      peer = λ sent carries at.
          let link = (port_beside_end plan.peers d.port).line in
          exactly_at plan h d.t (peer_t plan h (owner_read plan link r) d.stream) _
          (carried d.sync d.t u carries fit.t_is ∙ peer_side plan fits h d.port r d.stream trusted at)
          (bound_exactly plan h link d.stream bytes (owner_read plan link r) refl);
      hop = λ sent carries at.
          let parts = and_parts (not (is_host d.port.side)) (is_far_hop_line d.port.line) at in
          let lines = and_parts (nat_le 16 d.port.line) (nat_lt d.port.line 24) parts.1 in
          carried d.sync d.t u carries fit.t_is
          ∙ (device_side plan h d.port.side d.port.line r d.stream trusted parts.0 lines.1
          ∙ ap (sets_t plan h d.port.line d.stream) (no_owner plan fits d.port.line r (high d.port.line lines.0)));
      switch = λ carries at. absurd (true≢false (sym at ∙ apart));
      response = λ link is. absurd cc;
    }
  where
    high : (line : ℕ) → nat_le 16 line ≡ true → 8 ≤ line
    high line is = grind (arith, nat_tests)

all_apart : (plan : Plan) (h : History) (port : PortName) (stream : ℕ) (ds : List SealedPacket)
    → at_switch plan port ≡ false → AllLive plan h port stream ds
    → AllByRecursion (λ (d : SealedPacket). at_switch plan d.port ≡ false) ds
all_apart plan h port stream [] apart all = tt
all_apart plan h port stream (d ∷ ds) apart all =
    (ap (at_switch plan) all.0.port_is ∙ apart, all_apart plan h port stream ds apart all.1)

all_sent : (plan : Plan) → FitsPlan plan → (h : History) (end : PortName) (bytes : List ℕ) (more trusted : Bool)
    (ds : List SealedPacket) → AllByRecursion (λ (d : SealedPacket). at_switch plan d.port ≡ false) ds
    → AllByRecursion (SealFits plan h bytes trusted) ds
    → AllByRecursion (HasItsT plan h (Send end bytes more trusted)) ds
all_sent plan fits h end bytes more trusted [] apart all = tt
all_sent plan fits h end bytes more trusted (d ∷ ds) apart all = (
  sent_t plan fits h end bytes more trusted d apart.0 all.0,
  all_sent plan fits h end bytes more trusted ds apart.1 all.1,
)

sent_have : (plan : Plan) → FitsPlan plan → (h : History) (end : PortName) (bytes : List ℕ) (more trusted : Bool)
    (ds : List SealedPacket) → v.Sealed ds ≡ due plan h (Send end bytes more trusted)
    → AllByRecursion (SealFits plan h bytes trusted) ds
    → AllByRecursion (HasItsT plan h (Send end bytes more trusted)) ds
sent_have plan fits h end bytes more trusted ds is all =
    let e = Send end bytes more trusted in
    let s = sealing_is plan h e ds is in
    let apart : at_switch plan s.sending.port ≡ false = ap (at_switch plan) s.at_port
    ∙ seals_apart plan fits end bytes (send_may plan h end bytes more trusted ds is) in
    all_sent plan fits h end bytes more trusted ds
    (all_apart plan h s.sending.port s.sending.stream ds apart
    (all_live plan h (sending_port plan h e) (sent_bytes plan h e) ds s)) all

-- ---- answers

answered_t : (plan : Plan) → FitsPlan plan → (h : History) (link : ℕ) (x : Site) (d : SealedPacket)
    → has_link plan link ≡ true → (d.sync ≡ true → d.t ≡ false) → Carries h link x d
    → HasItsT plan h (Access (ae.Answer link)) d
answered_t plan fits h link x d known sync c = record {
  sync = sync;
  host = λ carries at. c.t_is carries;
  device = λ sent carries at. absurd (true≢false (sym at ∙ ap is_at_device c.port_is));
  peer = λ sent carries at. absurd (true≢false (sym at ∙ (ap is_at_peer c.port_is ∙ low)));
  hop = λ sent carries at. absurd (true≢false (sym at ∙ ap is_at_device_hop c.port_is));
  switch = λ carries at. absurd (true≢false (sym at ∙ (ap (at_switch plan) c.port_is ∙ own)));
  response = λ other is. absurd cc;
}
  where
    low : nat_le 24 link ≡ false
    low = let most = fits.links_most in grind (arith, nat_tests, most)

    own : at_switch plan (host_port link) ≡ false
    own = rw known refl

all_answered : (plan : Plan) → FitsPlan plan → (h : History) (link : ℕ) (x : Site) (ds : List SealedPacket)
    → has_link plan link ≡ true → AllByRecursion (λ (d : SealedPacket). d.sync ≡ true → d.t ≡ false) ds
    → AllByRecursion (Carries h link x) ds → AllByRecursion (HasItsT plan h (Access (ae.Answer link))) ds
all_answered plan fits h link x [] known sync all = tt
all_answered plan fits h link x (d ∷ ds) known sync all = (
  answered_t plan fits h link x d known sync.0 all.0,
  all_answered plan fits h link x ds known sync.1 all.1,
)

-- ---- what any event seals

unset_of : (s : Sending) (d : SealedPacket) → IsOf s d → d.sync ≡ true → d.t ≡ false
unset_of s d of is = unset d.sync d.t s.trusted is of.t_is

pub syncs_unset : (plan : Plan) (h : History) (e : Event) (ds : List SealedPacket) → v.Sealed ds ≡ due plan h e
    → AllByRecursion (λ (d : SealedPacket). d.sync ≡ true → d.t ≡ false) ds
syncs_unset plan h e ds is =
    let s = sealing_is plan h e ds is in
    map_all {P = IsOf s.sending} {Q = λ (d : SealedPacket). d.sync ≡ true → d.t ≡ false} (unset_of s.sending) ds
    (subst (AllByRecursion (IsOf s.sending)) (sym s.list)
    (all_of (lanes_at plan h s.sending.port s.sending.stream) s.sending s.number))

answers_have : (plan : Plan) → FitsPlan plan → (h : History) (link : ℕ) (ds : List SealedPacket)
    → CauseLaw plan ((Access (ae.Answer link), v.Sealed ds) ∷ h)
    → AllByRecursion (HasItsT plan h (Access (ae.Answer link))) ds
unfolding due
answers_have plan fits h link ds cause =
    let e = Access (ae.Answer link) in
    let answered = (read_law plan (draws plan) ((e, v.Sealed ds) ∷ h) cause).0 in
    let first = first_means plan h (host_port link) _ (v.Sealed ds) refl cause.0 in
    all_answered plan fits h link answered.of.interface ds first.known (syncs_unset plan h e ds cause.0)
    answered.packets

-- ---- forwards

no_host : (link : ℕ) (d : Direction) → is_at_host (leaving_end link d) ≡ false
no_host link Downstream = far_line link
  where
    far_line : (n : ℕ) → nat_lt (16 + n) 16 ≡ false
    far_line n = grind (arith, nat_tests)
no_host link Upstream = refl

not_device : (link : ℕ) (d : Direction) → is_at_device (leaving_end link d) ≡ false
not_device link Downstream = refl
not_device link Upstream = grind (arith, nat_tests)

not_device_hop : (link : ℕ) (d : Direction) → link < 8 → is_at_device_hop (leaving_end link d) ≡ false
not_device_hop link Downstream less = refl
not_device_hop link Upstream less = grind (arith, nat_tests)

not_peer : (link : ℕ) (d : Direction) → link < 8 → is_at_peer (leaving_end link d) ≡ false
not_peer link Downstream less = grind (arith, nat_tests)
not_peer link Upstream less = grind (arith, nat_tests)

forwarded_t : (plan : Plan) (h : History) (link : ℕ) (way : Direction) (x : HopTlp) (s : Sending) (d : SealedPacket)
    → link < 8 → IsFirstWaiting plan h link way x → s.port ≡ leaving_end link way → s.trusted ≡ x.t → IsOf s d
    → HasItsT plan h (Forward link way) d
forwarded_t plan h link way x s d less waits port_is t of =
    let at = of.port_is ∙ port_is in
    record {
      sync = unset_of s d of;
      host = λ carries here. absurd (true≢false (sym here ∙ (ap is_at_host at ∙ no_host link way)));
      device = λ sent carries here. absurd (true≢false (sym here ∙ (ap is_at_device at ∙ not_device link way)));
      peer = λ sent carries here. absurd (true≢false (sym here ∙ (ap is_at_peer at ∙ not_peer link way less)));
      hop = λ sent carries here. absurd
          (true≢false (sym here ∙ (ap is_at_device_hop at ∙ not_device_hop link way less)));
      switch = λ carries here. record {
        link = link;
        way = way;
        forwards = refl;
        first = x;
        waits = waits;
        t_is = carried d.sync d.t s.trusted carries of.t_is ∙ t;
      };
      response = λ other is. absurd cc;
    }

forwards_have : (plan : Plan) → FitsPlan plan → (h : History) (link : ℕ) (way : Direction) (ds : List SealedPacket)
    → CauseLaw plan ((Forward link way, v.Sealed ds) ∷ h) → AllByRecursion (HasItsT plan h (Forward link way)) ds
unfolding due
forwards_have plan fits h link way ds cause =
    by (has_hop plan link) refl (hop_waiting plan h link way) refl cause.0
  where
    one : has_hop plan link ≡ true → (x : HopTlp) (xs : List HopTlp) → hop_waiting plan h link way ≡ x ∷ xs
        → AllByRecursion (HasItsT plan h (Forward link way)) ds
    one known x xs waits = hop_of (link_hop (slice_get plan.links link))
        (and_parts (is_link_line link) (is_some (link_hop (slice_get plan.links link))) known).1
        (AllByRecursion (HasItsT plan h (Forward link way)) ds)
        (λ hop is.
        let s : Sending =
        record { port = leaving_end link way; stream = hop.id; class = x.sub; more = false; trusted = x.t } in
        map_all {P = IsOf s} {Q = HasItsT plan h (Forward link way)}
        (λ d of. forwarded_t plan h link way x s d (few_links plan link known)
        (first_waits plan fits h cause.1 link way known x xs waits) refl refl of) ds
        (sealed_of (lanes_at plan h (leaving_end link way) hop.id) s (length (sealed_packets plan h) + 1)
        (v.Sealed ds) (cause.0 ∙ forward_sends plan fits h cause.1 link way hop known is x xs waits) ds refl))

    by : (b : Bool) → has_hop plan link ≡ b → (xs : List HopTlp) → hop_waiting plan h link way ≡ xs
        → v.Sealed ds ≡ (if b then forward_first plan h link way xs else v.Nothing)
        → AllByRecursion (HasItsT plan h (Forward link way)) ds
    by false known xs waits is = absurd cc
    by true known [] waits is = absurd (none is)
      where
        none : v.Sealed ds ≡ v.Access (av.Empty link) → ⊥
        none is = absurd cc
    by true known (x ∷ xs) waits is = one known x xs waits

-- ---- the pair

pub have_t : (plan : Plan) → FitsPlan plan → (h : History) (e : Event) (w : Verdict) → CauseLaw plan ((e, w) ∷ h)
    → HaveTheirT plan h e w
have_t plan fits h (Send end bytes more trusted) (v.Sealed ds) cause =
    sent_have plan fits h end bytes more trusted ds cause.0
    (interface_cause plan ((Send end bytes more trusted, v.Sealed ds) ∷ h) cause).0
have_t plan fits h (Access (ae.Answer link)) (v.Sealed ds) cause = answers_have plan fits h link ds cause
have_t plan fits h (Access (ae.Respond link)) (v.Sealed ds) cause = responses_have plan fits h link ds cause
have_t plan fits h (Forward link way) (v.Sealed ds) cause = forwards_have plan fits h link way ds cause
have_t plan fits h e (v.Sealed ds) cause = absurd (true≢false (sym (sealed_by_sealing plan h e ds cause.0)))
have_t plan fits h e w cause = tt

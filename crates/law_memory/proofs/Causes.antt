-- What is due of interfaces is due by them alone, and T is set as they say.
use Rattle.spec_interfaces.specs.Sites.{Site}
use Rattle.std.specs.Prelude.{Option, nat_le, nat_lt, not, ◌&&◌}
use Rattle.law_sealing.proofs.Terms.{◌≡◌, ℕ, ◌+◌, Bool, true, false, List, [], ◌∷◌, length, Result}
use Rattle.law_sealing.proofs.Terms.{refl, ap, sym, subst, if◌then◌else◌, unwrap_or, AllByRecursion, Plan}
use Rattle.law_sealing.proofs.Terms.{History, Event, Send, Verdict, PortName, Tlp, header, read_of, CauseLaw, Sending}
use Rattle.law_sealing.proofs.Terms.{Lanes, lanes_at, needs_sync, described_seal, ends_unit, sets_trusted, sealed_by_is}
use Rattle.law_sealing.proofs.Terms.{SubKind, Npr, Cpl, class_of}
unfoldable use Rattle.law_sealing.proofs.Terms.{due, listed_seals, sealed_packets}
use Rattle.tlp_layout.specs.declared.fault.TlpFault.{TlpFault}
use Rattle.spec_stream.specs.Sending.{first_that_holds, refusals, sealed_with_syncs}
use Rattle.tlp_layout.specs.Outgoing.{Outgoing, NoTlp, OnNone, OnStream, outgoing_of}
use Rattle.tlp_layout.proofs.Outgoing.{on_stream_reads}
use Rattle.spec_links.specs.Plan.{has_link, has_port, streams_of}
use Rattle.spec_links.specs.Due.{bytes_due, send_due}
unfoldable use Rattle.spec_links.specs.Due.{t_sealed}
use Rattle.spec_links.specs.Ports.{at_switch, goes_to_hop, may_send, outgoing_at}
unfoldable use Rattle.spec_links.specs.Ports.{sealing_end}
use Rattle.ide_types.specs.Ends.{hop_end}
use Rattle.ide_types.specs.declared.port.Side.{Side}
use Rattle.ide_types.specs.declared.port.Side.TheVariants.{Host, Device}
use Rattle.tlp_layout.specs.declared.head.HeadView.{HeadView}
use Rattle.std.proofs.Common.{arith, ◌∙◌}
use Rattle.std.proofs.lemmas.Bool.Decides.{nat_tests}
use Rattle.spec_links.specs.Memory.{memory_due}
use Rattle.spec_interfaces.specs.Terms.{InterfaceEvent, SealedPacket}
unfoldable use Rattle.spec_interfaces.specs.Due.{interface_verdict_due as interface_due}
use Rattle.spec_interfaces.specs.Cause.{InterfaceCause, PairFits, SealFits, is_peer, owner_site, owner_read}
use Rattle.spec_interfaces.specs.Cause.{owners_link, t_at}
use Rattle.spec_interfaces.specs.Devices.{peer_t}
use Rattle.script_events.specs.declared.event.Event.TheVariants as event
use Rattle.script_events.specs.declared.event.InterfaceEvent.TheVariants as ie
use Rattle.event_verdicts.specs.declared.verdict.Verdict.TheVariants as v

-- ---- interfaces

-- what is due of an interface does not look at what is given
given_free : (plan : Plan) (h : History) (e : InterfaceEvent) (w : Verdict) → w
    ≡ interface_due plan h e (memory_due plan h e) → w ≡ interface_due plan h e w
unfolding interface_due
given_free plan h (ie.Memory at len) w is = refl
given_free plan h (ie.Lock i loss) w is = is
given_free plan h (ie.Report i loss) w is = is
given_free plan h (ie.Start i loss) w is = is
given_free plan h (ie.Halt i loss) w is = is
given_free plan h (ie.State i loss) w is = is
given_free plan h (ie.Bind i line stream loss) w is = is
given_free plan h (ie.Unbind i line stream loss) w is = is
given_free plan h (ie.View i) w is = is
given_free plan h (ie.Write i register value) w is = is
given_free plan h (ie.Flr i) w is = is
given_free plan h (ie.Firmware i) w is = is

-- ---- sends

abbrev Fits : Plan → History → PortName → List ℕ → Bool → Bool → Verdict → Type 0
Fits plan h port bytes more trusted w = PairFits plan h (event.Send port bytes more trusted) w

first_fits : (plan : Plan) (h : History) (port : PortName) (bytes : List ℕ) (more trusted : Bool)
    (xs : List (Bool × Verdict)) (last : Verdict) → AllByRecursion
    (λ (x : Bool × Verdict). Fits plan h port bytes more trusted x.1) xs → Fits plan h port bytes more trusted last
    → Fits plan h port bytes more trusted (unwrap_or (first_that_holds xs) last)
first_fits plan h port bytes more trusted [] last all ends = ends
first_fits plan h port bytes more trusted ((true, w) ∷ xs) last all ends = all.0
first_fits plan h port bytes more trusted ((false, w) ∷ xs) last all ends = first_fits plan h port bytes more trusted xs
    last all.1 ends

-- a sync packet, and the TLP's
sync_fits : (plan : Plan) (h : History) (bytes : List ℕ) (trusted : Bool) (x : Lanes) (s : Sending) (u : SubKind)
    (number : ℕ) (m : Bool) → SealFits plan h bytes trusted (described_seal x s u number m false true)
sync_fits plan h bytes trusted x s u number m = record { t_is = refl }

tlp_fits : (plan : Plan) (h : History) (bytes : List ℕ) (trusted : Bool) (x : Lanes) (s : Sending) (u : SubKind)
    (number : ℕ) (m : Bool)
    → s.trusted ≡ t_at plan h s.port (owner_read plan (owners_link plan s.port) (read_of bytes)) s.stream trusted
    → SealFits plan h bytes trusted (described_seal x s u number m (sets_trusted s.port s.trusted) false)
tlp_fits plan h bytes trusted x s u number m t = record { t_is = t }

listed_fits : (plan : Plan) (h : History) (bytes : List ℕ) (trusted : Bool) (x : Lanes) (s : Sending) (number : ℕ)
    (n c : Bool) → s.trusted ≡ t_at plan h s.port (owner_read plan (owners_link plan s.port) (read_of bytes)) s.stream
    trusted → AllByRecursion (SealFits plan h bytes trusted) (listed_seals x s number n c)
unfolding listed_seals
listed_fits plan h bytes trusted x s number false false t =
    (tlp_fits plan h bytes trusted x s s.class _ (ends_unit x s) t, tt)
listed_fits plan h bytes trusted x s number true false t = (
  sync_fits plan h bytes trusted x s Npr number true,
  (tlp_fits plan h bytes trusted x s s.class _ (ends_unit x s) t, tt),
)
listed_fits plan h bytes trusted x s number false true t =
    (sync_fits plan h bytes trusted x s Cpl _ true, (tlp_fits plan h bytes trusted x s s.class _ (ends_unit x s) t, tt))
listed_fits plan h bytes trusted x s number true true t = (
  sync_fits plan h bytes trusted x s Npr number true,
  (
    sync_fits plan h bytes trusted x s Cpl _ true,
    (tlp_fits plan h bytes trusted x s s.class _ (ends_unit x s) t, tt),
  ),
)

sealed_fits : (plan : Plan) (h : History) (bytes : List ℕ) (trusted : Bool) (x : Lanes) (s : Sending) (number : ℕ)
    → s.trusted ≡ t_at plan h s.port (owner_read plan (owners_link plan s.port) (read_of bytes)) s.stream trusted
    → AllByRecursion (SealFits plan h bytes trusted) (sealed_with_syncs x s number)
sealed_fits plan h bytes trusted x s number t =
    subst (AllByRecursion (SealFits plan h bytes trusted)) (sym (sealed_by_is x s number))
    (listed_fits plan h bytes trusted x s number (needs_sync x s.class Npr) (needs_sync x s.class Cpl) t)

-- an end that sends its own TLPs: on a device's side it is at no switch
abbrev pub SendsOwn : Plan → PortName → Type 0
SendsOwn plan port = port.side ≡ Device → at_switch plan port ≡ false

late_is_none : (a : Bool) (line links : ℕ) → (a && (nat_le 16 line && nat_lt line 24)) ≡ true
    → (nat_le 24 line && not (nat_lt line links)) ≡ false
late_is_none a line links at = grind (arith, nat_tests)

host_t : (a late trusted peer : Bool) → (a ≡ true → late ≡ false)
    → (if a then trusted else if late then peer else trusted) ≡ (if late then peer else trusted)
host_t a late trusted peer other = grind arith

own_t : (plan : Plan) (h : History) (port : PortName) (head : HeadView) (stream : ℕ) (trusted : Bool)
    → SendsOwn plan port → t_sealed plan h port head stream trusted
    ≡ t_at plan h port (owner_site plan (owners_link plan port) head) stream trusted
unfolding t_sealed
own_t plan h port head stream trusted own = by port.side refl
  where
    owner : Option Site
    owner = owner_site plan (owners_link plan port) head

    by : (side : Side) → port.side ≡ side → (if at_switch plan (record { side = side; line = port.line }) then trusted
        else t_at plan h (record { side = side; line = port.line }) owner stream trusted)
        ≡ t_at plan h (record { side = side; line = port.line }) owner stream trusted
    by Host is = host_t (not (has_link plan port.line) && (nat_le 16 port.line && nat_lt port.line 24))
        (is_peer plan port)
        trusted
        (peer_t plan h owner stream)
        (late_is_none (not (has_link plan port.line)) port.line (length plan.links))
    by Device is =
        let off : at_switch plan (record { side = Device; line = port.line }) ≡ false =
        subst (λ (side : Side). at_switch plan (record { side = side; line = port.line }) ≡ false) is (own is) in
        rw off refl

outgoing_fits : (plan : Plan) (h : History) (sender port : PortName) (bytes : List ℕ) (more trusted : Bool)
    (o : Outgoing) → SendsOwn plan port → outgoing_of (streams_of plan port.line) port.side bytes ≡ o
    → Fits plan h sender bytes more trusted (send_due plan h port o more trusted)
outgoing_fits plan h sender port bytes more trusted (NoTlp f) own comes = tt
outgoing_fits plan h sender port bytes more trusted OnNone own comes = tt
outgoing_fits plan h sender port bytes more trusted (OnStream t stream) own comes =
    let s : Sending = record {
      port = port;
      stream = stream;
      class = class_of (header t);
      more = more;
      trusted = t_sealed plan h port (header t) stream trusted;
    } in
    first_fits plan h sender bytes more trusted (refusals (lanes_at plan h port stream) s.class) _
    (tt, (tt, (tt, (tt, (tt, (tt, (tt, (tt, tt))))))))
    (sealed_fits plan h bytes trusted (lanes_at plan h port stream) s (length (sealed_packets plan h) + 1)
    (own_t plan h port (header t) stream trusted own
    ∙ ap (λ (r : Result Tlp TlpFault). t_at plan h port (owner_read plan (owners_link plan port) r) stream trusted)
    (sym (on_stream_reads (streams_of plan port.line) port.side bytes t stream comes).0)))

-- where it goes to the hop it is sealed at the hop's end
own_end : (plan : Plan) (port : PortName) (bytes : List ℕ) → at_switch plan port ≡ false
    → SendsOwn plan (sealing_end plan port bytes)
unfolding sealing_end
own_end plan port bytes own = by (goes_to_hop plan port bytes)
  where
    by : (b : Bool) → SendsOwn plan (if b then hop_end port.side port.line else port)
    by true is = by_side port.side is
      where
        by_side : (side : Side) → SendsOwn plan (hop_end side port.line)
        by_side Host is = absurd cc
        by_side Device is = grind (arith, nat_tests)
    by false is = own

here_fits : (plan : Plan) (h : History) (port : PortName) (bytes : List ℕ) (more trusted : Bool)
    → Fits plan h port bytes more trusted
    (if may_send plan port then bytes_due plan h (sealing_end plan port bytes) bytes more trusted else v.Nothing)
here_fits plan h port bytes more trusted = by (has_port plan port) (at_switch plan port) refl
  where
    by : (has switch : Bool) → at_switch plan port ≡ switch → Fits plan h port bytes more trusted
        (if has && not switch then bytes_due plan h (sealing_end plan port bytes) bytes more trusted else v.Nothing)
    by true false own = outgoing_fits plan h port (sealing_end plan port bytes) bytes more trusted
        (outgoing_at plan (sealing_end plan port bytes) bytes) (own_end plan port bytes own) refl
    by true true own = tt
    by false switch own = tt

-- of what was sealed
pub sent_fits : (plan : Plan) (h : History) (port : PortName) (bytes : List ℕ) (more trusted : Bool)
    (ds : List SealedPacket) → SendsOwn plan port
    → v.Sealed ds ≡ send_due plan h port (outgoing_of (streams_of plan port.line) port.side bytes) more trusted
    → AllByRecursion (SealFits plan h bytes trusted) ds
sent_fits plan h port bytes more trusted ds own is =
    subst (Fits plan h port bytes more trusted) (sym is)
    (outgoing_fits plan h port port bytes more trusted (outgoing_of (streams_of plan port.line) port.side bytes) own
    refl)

-- ---- all events

pair_fits : (plan : Plan) (h : History) (e : Event) (w : Verdict) → w ≡ due plan h e → PairFits plan h e w
unfolding due
pair_fits plan h (event.Interface e) w is = given_free plan h e w is
pair_fits plan h (event.Send port bytes more trusted) w is = subst (Fits plan h port bytes more trusted) (sym is)
    (here_fits plan h port bytes more trusted)
pair_fits plan h e w is = tt

pub interface_cause : (plan : Plan) (h : History) → CauseLaw plan h → InterfaceCause plan h
interface_cause plan [] cause = tt
interface_cause plan ((e, w) ∷ h) cause = (pair_fits plan h e w cause.0, interface_cause plan h cause.1)

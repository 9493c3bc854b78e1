-- The verdicts of sends fit.
use Rattle.std.proofs.Common.{◌≡◌, ℕ, ◌+◌, ◌-◌, ◌<◌, ◌≤◌, ◌^◌, Bool, true, false, List, [], ◌∷◌, ◌++◌, length, filter}
use Rattle.std.proofs.Common.{Some, None, Option, refl, sym, subst, arith, length-drop}
use Rattle.std.specs.Prelude.{if◌then◌else◌, not, unwrap_or}
use Rattle.std.specs.List.{AllByRecursion, after_last, suffix_len}
use Rattle.std.proofs.lemmas.List.{length-map}
use Rattle.std.proofs.lemmas.Bool.Decides.{nat_tests}
use Rattle.ide_types.specs.declared.sub.SubKind.{SubKind}
use Rattle.ide_types.specs.declared.sub.SubKind.TheVariants.{Npr, Cpl}
use Rattle.ide_types.specs.declared.port.PortName.{PortName}
use Rattle.ide_types.specs.declared.plan.Plan.{Plan}
use Rattle.ide_types.specs.Fits.{FitsPlan}
use Rattle.script_events.specs.declared.event.Event.TheVariants.{Send}
use Rattle.event_verdicts.specs.declared.verdict.Verdict.{Verdict}
use Rattle.event_verdicts.specs.declared.verdict.Verdict.TheVariants as v
use Rattle.event_verdicts.specs.declared.verdict.SealedPacket.{SealedPacket}
use Rattle.event_verdicts.specs.Apart.{Fits, FitPackets, FitsSealed}
use Rattle.tlp_layout.specs.Class.{class_of}
use Rattle.tlp_layout.specs.declared.tlp.Tlp.{Tlp}
use Rattle.tlp_layout.specs.Tlp.{header}
use Rattle.tlp_layout.specs.Outgoing.{Outgoing, NoTlp, OnNone, OnStream, outgoing_of}
use Rattle.tlp_layout.proofs.Outgoing.{no_tlp_reads}
use Rattle.ide_prefix.specs.Packet.{Packet}
use Rattle.spec_keys.specs.History.{History, base}
use Rattle.spec_links.specs.Plan.{SubStream, has_link, has_port, lane_out, streams_of}
use Rattle.spec_links.specs.Units.{units, units_finished}
use Rattle.spec_links.specs.History.{KeyName, SealedList, sealed_packets, sub_stream_packets, is_sealed_under}
use Rattle.spec_links.specs.History.{port_keys, live_key, is_sealed_from_draw, posted_since_last, posted_lane}
use Rattle.spec_links.specs.Due.{Sending, Lanes, Lane, lanes_at, packets_under_key, due, send_due, bytes_due, t_sealed}
use Rattle.spec_links.specs.Due.{refusals, first_that_holds, sealed_with_syncs, described_seal, needs_sync, no_key}
use Rattle.spec_links.specs.Due.{is_posted, ends_unit, sets_trusted}
use Rattle.spec_links.specs.Ports.{port_of, at_switch, may_send, sealing_end}
use Rattle.ide_types.specs.Lines.{is_port}
use Rattle.std.proofs.lemmas.Bool.{and_parts}
use Rattle.law_text.proofs.PortsFit.{sealing_is}
use Rattle.spec_links.specs.Cause.{CauseLaw}
use Rattle.spec_links.proofs.Choices.{stream_known}
use Rattle.spec_links.proofs.Senders.{listed_seals, sealed_by_is, on_live}
use Rattle.law_sealing.proofs.Few.{sealed_few, filter_few}
use Rattle.law_text.proofs.Draws.{on_below}
use Rattle.law_text.proofs.FaultPlaces.{tlp_place}
use Rattle.law_text.proofs.OperationsFit.{FitsStream, stream_fits}

-- ---- counts

units_few : (unfinished ps : List Packet) → length (units_finished unfinished ps) ≤ length ps
units_few unfinished [] = omega arith
units_few unfinished (p ∷ ps) = grind (arith, units_few [] ps, units_few (unfinished ++ p ∷ []) ps)

under_few : (plan : Plan) (h : History) (s : SubStream) (o : Option KeyName)
    → length (units (packets_under_key plan h s o)) ≤ length (sealed_packets plan h)
unfolding units sub_stream_packets
under_few plan h s None = omega arith
under_few plan h s (Some key) =
    let xs = sealed_packets plan h in
    omega (
      arith,
      units_few [] (sub_stream_packets xs s key.draw),
      length-map (filter (is_sealed_under s key.draw) xs)
          (λ (x : SealedPacket × Packet). x.1),
      filter_few (is_sealed_under s key.draw) xs,
    )

posted_few : (xs : SealedList) (s : SubStream) (from : ℕ) → posted_since_last xs s from ≤ length xs
unfolding posted_since_last
posted_few xs s from =
    let last = after_last (is_sealed_from_draw s from) xs in
    omega (
      arith,
      filter_few (is_sealed_from_draw (posted_lane s) from) last,
      length-drop
          (length xs - suffix_len (λ (y : SealedPacket × Packet). not (is_sealed_from_draw s from y)) xs) xs,
    )

pub live_few : (h : History) (port : PortName) (s : SubStream) (o : Option KeyName) → live_key h port s ≡ o
    → (unwrap_or o no_key).draw ≤ length h
live_few h port s None is = omega arith
live_few h port s (Some key) is =
    let below = on_below h port s key.k key.draw (on_live (port_keys h port s).first (port_keys h port s).second key is)
    in
    omega (arith, below)

-- ---- one sealed packet

record LaneFits (l : Lane) : Type 0 where
  draw : (unwrap_or l.key no_key).draw < 2 ^ 63
  units : l.units < 2 ^ 63
  posted : l.posted < 2 ^ 63

lane_fits : (plan : Plan) (h : History) → CauseLaw plan h → length h < 2 ^ 28
    → (port : PortName) (stream : ℕ) (u : SubKind) → LaneFits ((lanes_at plan h port stream).lane u)
lane_fits plan h cause few port stream u =
    let s = lane_out port stream u in
    let count = sealed_few plan h cause in
    record {
      draw = omega (arith, few, live_few h port s (live_key h port s) refl);
      units = omega (arith, few, count, under_few plan h s (live_key h port s));
      posted = omega (arith, few, count, posted_few (sealed_packets plan h) s (base h s.line s.stream));
    }

posted_fits : (b : Bool) (n : ℕ) → n < 2 ^ 63 → (if b then 0 else n) < 2 ^ 64
posted_fits true n few = omega arith
posted_fits false n few = omega (arith, few)

described_fits : (plan : Plan) (x : Lanes) (s : Sending) (u : SubKind) (number : ℕ) (m t sync : Bool)
    → LaneFits (x.lane u)
    → FitsStream plan s.port.line s.stream → number < 2 ^ 64 → FitsSealed plan (described_seal x s u number m t sync)
described_fits plan x s u number m t sync fits at small = (
  small,
  (at.there, at.stream_fits),
  omega (arith, fits.draw),
  omega (arith, fits.units),
  posted_fits (is_posted u)
      (x.lane u).posted fits.posted,
)

listed_fits : (plan : Plan) (x : Lanes) (s : Sending) (number : ℕ) (n c : Bool) → ((u : SubKind) → LaneFits (x.lane u))
    → FitsStream plan s.port.line s.stream → number < 2 ^ 63 → FitPackets plan (listed_seals x s number n c)
unfolding listed_seals
listed_fits plan x s number false false fits at small = (
  described_fits plan x s s.class _ (ends_unit x s) (sets_trusted s.port s.trusted) false (fits s.class) at
      (omega (arith, small)),
  tt,
)
listed_fits plan x s number true false fits at small = (
  described_fits plan x s Npr _ true false true (fits Npr) at (omega (arith, small)),
  (
    described_fits plan x s s.class _ (ends_unit x s) (sets_trusted s.port s.trusted) false (fits s.class) at
        (omega (arith, small)),
    tt,
  ),
)
listed_fits plan x s number false true fits at small = (
  described_fits plan x s Cpl _ true false true (fits Cpl) at (omega (arith, small)),
  (
    described_fits plan x s s.class _ (ends_unit x s) (sets_trusted s.port s.trusted) false (fits s.class) at
        (omega (arith, small)),
    tt,
  ),
)
listed_fits plan x s number true true fits at small = (
  described_fits plan x s Npr _ true false true (fits Npr) at (omega (arith, small)),
  (
    described_fits plan x s Cpl _ true false true (fits Cpl) at (omega (arith, small)),
    (
      described_fits plan x s s.class _ (ends_unit x s) (sets_trusted s.port s.trusted) false (fits s.class) at
          (omega (arith, small)),
      tt,
    ),
  ),
)

-- ---- sends

-- what holds of each answer that may come first holds of the one that does
first_holds : (P : Verdict → Type 0) (xs : List (Bool × Verdict)) (last : Verdict)
    → AllByRecursion (λ (x : Bool × Verdict). P x.1) xs → P last → P (unwrap_or (first_that_holds xs) last)
first_holds P [] last all ends = ends
first_holds P (x ∷ xs) last all ends = by_test x.0 (first_holds P xs last all.1 ends)
  where
    by_test : (b : Bool) → P (unwrap_or (first_that_holds xs) last)
        → P (unwrap_or (if b then Some x.1 else first_that_holds xs) last)
    by_test true rest = all.0
    by_test false rest = rest

pub sent_fits : (plan : Plan) → FitsPlan plan → (h : History) → CauseLaw plan h → length h < 2 ^ 28 → (s : Sending)
    → FitsStream plan s.port.line s.stream → (number : ℕ) → number < 2 ^ 63 → let x = lanes_at plan h s.port s.stream in
    Fits plan (unwrap_or (first_that_holds (refusals x s.class)) (v.Sealed (sealed_with_syncs x s number)))
sent_fits plan fits h cause few s at number small =
    let x = lanes_at plan h s.port s.stream in
    let worn : plan.units_per_key < 2 ^ 64 = omega (arith, fits.units_most) in
    first_holds (Fits plan) (refusals x s.class) (v.Sealed (sealed_with_syncs x s number))
    (tt, (tt, (tt, (tt, (tt, (worn, (worn, (worn, tt))))))))
    (subst (FitPackets plan) (sym (sealed_by_is x s number))
    (listed_fits plan x s number (needs_sync x s.class Npr) (needs_sync x s.class Cpl)
    (lane_fits plan h cause few s.port s.stream) at small))

-- of a TLP that takes a stream
pub on_stream_fits : (plan : Plan) → FitsPlan plan → (h : History) → CauseLaw plan h → length h < 2 ^ 28
    → (port : PortName) (bytes : List ℕ) (more trusted : Bool) (t : Tlp) (stream : ℕ)
    → outgoing_of (streams_of plan port.line) port.side bytes ≡ OnStream t stream
    → Fits plan (send_due plan h port (OnStream t stream) more trusted)
on_stream_fits plan fits h cause few port bytes more trusted t stream comes =
    let s : Sending = record {
      port = port;
      stream = stream;
      class = class_of (header t);
      more = more;
      trusted = t_sealed plan h port (header t) stream trusted;
    } in
    sent_fits plan fits h cause few s
    (stream_fits plan fits port.line stream (stream_known plan port bytes t stream comes))
    (length (sealed_packets plan h) + 1) (omega (arith, few, sealed_few plan h cause))

outgoing_fits : (plan : Plan) → FitsPlan plan → (h : History) → CauseLaw plan h → length h < 2 ^ 28
    → (port : PortName) (bytes : List ℕ) (more trusted : Bool) → length bytes < 2 ^ 64
    → is_port (port_of plan port) ≡ true → (o : Outgoing) → outgoing_of (streams_of plan port.line) port.side bytes ≡ o
    → Fits plan (send_due plan h port o more trusted)
outgoing_fits plan fits h cause few port bytes more trusted small link (NoTlp f) comes =
    let reads = no_tlp_reads (streams_of plan port.line) port.side bytes f comes in
    (link, omega (arith, small, tlp_place bytes f reads))
outgoing_fits plan fits h cause few port bytes more trusted small link OnNone comes = link
outgoing_fits plan fits h cause few port bytes more trusted small link (OnStream t stream) comes =
    on_stream_fits plan fits h cause few port bytes more trusted t stream comes

pub link_fits : (plan : Plan) → FitsPlan plan → (link : ℕ) → has_link plan link ≡ true → link < 2 ^ 64
link_fits plan fits link is = let less : link < length plan.links = grind (arith, nat_tests) in omega
    (arith, less, fits.links_most)

pub send_due_fits : (plan : Plan) → FitsPlan plan → (h : History) → CauseLaw plan h → length h < 2 ^ 28
    → (port : PortName) (bytes : List ℕ) (more trusted : Bool) → length bytes < 2 ^ 64
    → Fits plan (due plan h (Send port bytes more trusted))
unfolding due
send_due_fits plan fits h cause few port bytes more trusted small = by_port (may_send plan port) refl
  where
    by_port : (b : Bool) → may_send plan port ≡ b → Fits plan
        (if b then bytes_due plan h (sealing_end plan port bytes) bytes more trusted else v.Nothing)
    by_port true is =
        let end = sealing_end plan port bytes in
        let here = (and_parts (has_port plan port) (not (at_switch plan port)) is).0 in
        outgoing_fits plan fits h cause few end bytes more trusted small (sealing_is plan fits port bytes here)
        (outgoing_of (streams_of plan end.line) end.side bytes) refl
    by_port false is = tt

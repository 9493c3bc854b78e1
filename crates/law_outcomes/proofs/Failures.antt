-- Each arrival that fails does so by the first check that fails.
use Rattle.spec_links.proofs.Terms.{◌≡◌, ℕ, ◌∷◌, Bool, true, false, [], Option, Some, None, Result, Ok, Err, refl}
use Rattle.spec_links.proofs.Terms.{ap, sym, ◌∙◌, if◌then◌else◌, is_some, Plan, PortName, Event, Verdict, Packet}
use Rattle.spec_links.proofs.Terms.{History, UnitName, has_failed, ArrivedBytes, before_tag_of_cut}
use Rattle.std.specs.Prelude.{not, ◌&&◌, ◌||◌, nat_lt, nat_le, ◌+◌}
use Rattle.std.specs.Option.{option_map}
use Rattle.std.proofs.lemmas.List.Sums.{sum_by-append}
use Rattle.spec_links.specs.Terms.{CutValue, PacketFault}
unfoldable use Rattle.gcm_seal.specs.Gcm.{verifies}
unfoldable use Rattle.spec_links.proofs.Terms.{due, before_tag, arrival_of_event}
unfoldable use Rattle.spec_links.specs.Due.{is_verified}
unfoldable use Rattle.spec_links.specs.History.{meets_counts, ahead_of_unit}
use Rattle.spec_links.specs.Due.{through_due, ending_due, under_keys, Ending}
use Rattle.spec_links.specs.Due.{next_unit_name, receiving_sub_stream, is_mixed, unit_packets_ended}
use Rattle.spec_links.specs.History.{on_draw, received_in, got_since}
use Rattle.spec_links.specs.Plan.{has_stream, SubStream}
use Rattle.spec_links.specs.Cause.{CauseLaw}
use Rattle.spec_keys.specs.Keys.{Keys, key_in, on_in}
use Rattle.spec_keys.specs.History.{draw_on_at, base}
use Rattle.law_key_facts.proofs.Seats.{keys_into}
use Rattle.ide_types.specs.declared.sub.FailCause.TheVariants as fail
use Rattle.spec_links.specs.Ports.{port_of, goes_through}
use Rattle.ide_prefix.specs.Reading.{PlainTlp, IdePacket, cut_of}
use Rattle.law_delivery.proofs.Wholes.{due_arrives}
use Rattle.law_verdicts.proofs.Named.{is_of_arrival, others}
use Rattle.law_outcomes.specs.Blocks.{first_holding}
use Rattle.law_outcomes.specs.Failures.{lane_of, receiver_of, held_count, unit_with, has_tag, has_counts}
use Rattle.law_outcomes.specs.Failures.{failing_checks, failure_in, failure_at, failure_of_packet, failure_of_bytes}
use Rattle.law_outcomes.specs.Failures.{failure_due, FailsByCheck}
use Rattle.event_verdicts.specs.declared.verdict.Verdict.TheVariants as v

-- ---- the checks

tag_is : (plan : Plan) (h : History) (port : PortName) (p : Packet) (j : ℕ)
    → is_verified plan h port (record { packet = p; unit = next_unit_name h (lane_of port p) j })
    ≡ has_tag plan h (lane_of port p) j p
unfolding is_verified verifies ahead_of_unit
tag_is plan h port p j = refl

counts_are : (plan : Plan) (h : History) (s : SubStream) (j : ℕ) (p : Packet)
    → meets_counts plan h s (unit_with plan h s j p) ≡ has_counts plan h s j p
unfolding meets_counts
counts_are plan h s j p =
    rw (sum_by-append (λ (q : Packet). q.prefix.posted) (got_since plan h s (base h s.line s.stream))
    (unit_with plan h s j p)) refl

draw_is : (h : History) (port : PortName) (p : Packet) (k : Bool)
    → on_draw h port (receiving_sub_stream port p) k ≡ draw_on_at h (receiver_of port p) k
draw_is h port p k = ap (λ (ks : Keys). on_in (key_in ks k)) (keys_into h port p.prefix.stream p.prefix.sub)

by_tests : (plan : Plan) (h : History) (port : PortName) (p : Packet) (x : Ending) (unit : UnitName)
    (a b m t c : Bool) → is_verified plan h port x ≡ t
    → meets_counts plan h (received_in port x.unit) (unit_packets_ended plan h port x) ≡ c
    → x.unit.stream ≡ p.prefix.stream → x.unit.sub ≡ p.prefix.sub
    → failure_in (ending_due plan h port
    (if a || (not m && b) then Err (v.Fail port p.prefix.stream p.prefix.sub fail.Unit)
    else if m then Ok x else Err (v.Held port unit)))
    ≡ option_map (failure_at port p) (first_holding ((a, fail.Unit) ∷ (not m && b, fail.Unit)
    ∷ (m && not t, fail.Tag) ∷ (m && not c, fail.Order) ∷ []))
by_tests plan h port p x unit true b m t c tag counts stream sub = refl
by_tests plan h port p x unit false true false t c tag counts stream sub = refl
by_tests plan h port p x unit false false false t c tag counts stream sub = refl
by_tests plan h port p x unit false b true false c tag counts stream sub = rw (tag, stream, sub) refl
by_tests plan h port p x unit false b true true false tag counts stream sub = rw (tag, counts, stream, sub) refl
by_tests plan h port p x unit false b true true true tag counts stream sub = rw (tag, counts) refl

mixed_is : (plan : Plan) (h : History) (s : SubStream) (other : Option ℕ)
    → is_mixed plan h s other ≡ nat_lt 0 (held_count plan h s other)
mixed_is plan h s None = refl
mixed_is plan h s (Some i) = refl

under_is : (plan : Plan) (h : History) (port : PortName) (p : Packet) (named other : Option ℕ)
    → failure_in (ending_due plan h port (under_keys plan h port p named other))
    ≡ (if is_some named || is_some other then option_map (failure_at port p)
    (first_holding (failing_checks plan h (lane_of port p) p named other)) else None)
under_is plan h port p None None = refl
under_is plan h port p None (Some i) = refl
under_is plan h port p (Some j) other =
    rw (mixed_is plan h (lane_of port p) other)
    (by_tests plan h port p (record { packet = p; unit = next_unit_name h (lane_of port p) j })
    (next_unit_name h (lane_of port p) j) (nat_lt 0 (held_count plan h (lane_of port p) other))
    (nat_le _ (held_count plan h (lane_of port p) (Some j) + 1)) p.prefix.m
    (has_tag plan h (lane_of port p) j p) (has_counts plan h (lane_of port p) j p) (tag_is plan h port p j)
    (counts_are plan h (lane_of port p) j p) refl refl)

-- ---- a packet

packet_is : (plan : Plan) (h : History) (port : PortName) (p : Packet)
    → failure_in (ending_due plan h port (before_tag_of_cut plan h port (Ok (IdePacket p))))
    ≡ failure_of_packet plan h port p
packet_is plan h port p =
    let s = receiving_sub_stream port p in
    (λ i. failure_in (ending_due plan h port
    (if not (has_stream plan port p.prefix.stream) then Err (v.Unknown (port_of plan port) p.prefix.stream)
    else if has_failed h port p.prefix.stream then Err (v.Insecure port p.prefix.stream)
    else under_keys plan h port p (draw_is h port p p.prefix.k i) (draw_is h port p (not p.prefix.k) i))))
    ∙ by (has_stream plan port p.prefix.stream) (has_failed h port p.prefix.stream)
  where
    named : Option ℕ
    named = draw_on_at h (receiver_of port p) p.prefix.k

    other : Option ℕ
    other = draw_on_at h (receiver_of port p) (not p.prefix.k)

    by : (has failed : Bool)
        → failure_in (ending_due plan h port
        (if not has then Err (v.Unknown (port_of plan port) p.prefix.stream)
        else if failed then Err (v.Insecure port p.prefix.stream)
        else under_keys plan h port p named other))
        ≡ (if (has && not failed) && (is_some named || is_some other) then option_map (failure_at port p)
        (first_holding (failing_checks plan h (lane_of port p) p named other)) else None)
    by false failed = refl
    by true true = refl
    by true false = under_is plan h port p named other

bytes_are : (plan : Plan) (h : History) (port : PortName) (r : Result CutValue PacketFault)
    → failure_in (ending_due plan h port (before_tag_of_cut plan h port r)) ≡ failure_of_bytes plan h port r
bytes_are plan h port (Err f) = refl
bytes_are plan h port (Ok PlainTlp) = refl
bytes_are plan h port (Ok (IdePacket p)) = packet_is plan h port p

arrival_is : (plan : Plan) (h : History) (a : ArrivedBytes)
    → failure_in (ending_due plan h a.port (before_tag plan h a)) ≡ failure_due plan h (Some a)
unfolding before_tag
arrival_is plan h a = by (goes_through plan a.port a.bytes)
  where
    by : (b : Bool) → failure_in (ending_due plan h a.port
        (if b then Err (through_due plan a.port) else before_tag_of_cut plan h a.port (cut_of a.bytes)))
        ≡ (if b then None else failure_of_bytes plan h a.port (cut_of a.bytes))
    by true = refl
    by false = bytes_are plan h a.port (cut_of a.bytes)

-- ---- all events

fails_is : (plan : Plan) (h : History) (e : Event)
    → failure_in (due plan h e) ≡ failure_due plan h (arrival_of_event plan h e)
fails_is plan h e = by (arrival_of_event plan h e) refl
  where
    no_failure : (w : Verdict) → is_of_arrival w ≡ false → failure_in w ≡ None
    no_failure (v.Fail port stream sub cause) is = absurd cc
    no_failure w is = refl

    by : (o : Option ArrivedBytes) → arrival_of_event plan h e ≡ o
        → failure_in (due plan h e) ≡ failure_due plan h (arrival_of_event plan h e)
    by None none = no_failure (due plan h e) (others plan h e none) ∙ ap (failure_due plan h) (sym none)
    by (Some a) came = ap failure_in (due_arrives plan h e a came)
        ∙ (arrival_is plan h a ∙ ap (failure_due plan h) (sym came))

pub fails_by_check : (plan : Plan) (h : History) (e : Event) (w : Verdict) → CauseLaw plan ((e, w) ∷ h)
    → FailsByCheck plan h e w
fails_by_check plan h e w cause = ap failure_in cause.0 ∙ fails_is plan h e

-- Each packet was sealed at an end of a line that the topology has.
use Rattle.law_sealing.proofs.Terms.{◌≡◌, ◌∙◌, ℕ, ◌==◌, ◌∷◌, Bool, true, false, List, [], refl, ap, sym, arith, Some}
use Rattle.law_sealing.proofs.Terms.{None, if◌then◌else◌, is_some, slice_get, map, length, nat_lt, Plan, History}
use Rattle.law_sealing.proofs.Terms.{CauseLaw, Sealed, SealedPacket, Packet, PortName, sub_stream_of, nat_tests}
use Rattle.law_sealing.proofs.Terms.{sent_bytes, sending_port, sealing_is, all_live, IsLive, ahead_of_packet, base}
use Rattle.law_sealing.proofs.Terms.{stream_plan}
unfoldable use Rattle.law_sealing.proofs.Terms.{sealed_packets}
use Rattle.std.specs.Prelude.{◌-◌, ◌||◌, zero, suc}
use Rattle.std.proofs.lemmas.Option.{none-some, same_Some}
use Rattle.ide_types.specs.declared.stream.StreamPlan.{StreamPlan}
use Rattle.spec_links.specs.Plan.{has_link, has_port, partner, streams_of, with_id}
unfoldable use Rattle.spec_links.specs.Plan.{stream_plan as planned}
use Rattle.machine_ports.specs.Machine.{LinkPacket, LinkState, kept_packet, packet_numbered}
use Rattle.machine_ports.specs.Stands.{PortsStandFor}
use Rattle.law_key_facts.proofs.SealedKeys.{each_more, live_all, live_on}
use Rattle.law_key_facts.proofs.Unplanned.{known as on_known}

-- the plan has the stream of a sealed packet
abbrev IsKnown : Plan → SealedPacket → Type 0
IsKnown plan d = is_some (stream_plan plan d.port.line d.stream) ≡ true

live_known : (plan : Plan) (h : History) → CauseLaw plan h → (port : PortName) (stream : ℕ) (d : SealedPacket)
    → IsLive plan h port stream d → IsKnown plan d
live_known plan h cause port stream d live = on_known plan h cause port (sub_stream_of d) d.k d.draw
    (live_on plan h port stream d live)

all_known : (plan : Plan) (h : History) → CauseLaw plan h → (i : ℕ) (x : SealedPacket × Packet)
    → slice_get (sealed_packets plan h) i ≡ Some x → IsKnown plan x.0
unfolding sealed_packets
all_known plan [] law i x is = absurd cc
all_known plan ((e, Sealed ds) ∷ h) law i x is =
    let sealing = sealing_is plan h e ds law.0 in
    let port = sealing.sending.port in
    let stream = sealing.sending.stream in
    each_more (IsKnown plan) plan (ahead_of_packet plan (sealed_packets plan h) (base h)) (sent_bytes plan h e) ds
    (sealed_packets plan h)
    (live_all (IsKnown plan) plan h port stream ds (live_known plan h law.1 port stream)
    (all_live plan h (sending_port plan h e) (sent_bytes plan h e) ds sealing)) (all_known plan h law.1) i x is
all_known plan ((e, w) ∷ h) law i x is = all_known plan h law.1 i x is

-- ---- its line is there

some_there : (ss : List StreamPlan) (id : ℕ) → is_some (with_id ss id) ≡ true → nat_lt 0 (length ss) ≡ true
some_there [] id is = absurd cc
some_there (s ∷ ss) id is = grind (arith, nat_tests)

line_there : (plan : Plan) (end : PortName) (id : ℕ) → is_some (stream_plan plan end.line id) ≡ true
    → has_port plan end ≡ true
unfolding planned
line_there plan end id is = by (has_link plan end.line)
  where
    by : (b : Bool) → (b || nat_lt 0 (length (streams_of plan end.line))) ≡ true
    by true = refl
    by false = some_there (streams_of plan end.line) id is

kept_one : (xs : List (SealedPacket × Packet)) (i : ℕ) (y : LinkPacket)
    → slice_get (map (λ (x : SealedPacket × Packet). kept_packet x.0.port x.1) xs) i ≡ Some y
    → (x : SealedPacket × Packet) × (slice_get xs i ≡ Some x) × (x.0.port ≡ y.port)
kept_one [] i y is = absurd (none-some y is)
kept_one (x ∷ xs) zero y is = (x, refl, ap (λ (z : LinkPacket). z.port) (same_Some (kept_packet x.0.port x.1) y is))
kept_one (x ∷ xs) (suc i) y is = kept_one xs i y is

seat : (packets : List LinkPacket) (n : ℕ) (y : LinkPacket) → packet_numbered packets n ≡ Some y
    → slice_get packets (n - 1) ≡ Some y
seat packets n y is = by (n == 0) is
  where
    by : (b : Bool) → (if b then None else slice_get packets (n - 1)) ≡ Some y → slice_get packets (n - 1) ≡ Some y
    by true is = absurd (none-some y is)
    by false is = is

pub sealed_there : (plan : Plan) (st : LinkState) (h : History) (n : ℕ) (y : LinkPacket) → PortsStandFor plan st h
    → packet_numbered st.packets n ≡ Some y → has_port plan (partner y.port) ≡ true
sealed_there plan st h n y stands is =
    let at = seat st.packets n y is in
    let kept = kept_one (sealed_packets plan h) (n - 1) y
    (sym (ap (λ (ps : List LinkPacket). slice_get ps (n - 1)) stands.ports_stand.packets) ∙ at) in
    let known = all_known plan h stands.ports_stand.cause (n - 1) kept.0 kept.1 in
    let there = line_there plan kept.0.0.port kept.0.0.stream known in
    ap (λ (end : PortName). has_port plan (partner end)) (sym kept.2) ∙ there

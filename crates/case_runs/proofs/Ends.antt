-- The verdict of an arrival, from the packet that it brings and whether its tag verifies.
use Rattle.std.proofs.Common.{◌≡◌, ℕ, Bool, Option, Some, Ok, Err, ap, ◌∙◌, not}
use Rattle.std.specs.Prelude.{if◌then◌else◌}
use Rattle.ide_types.specs.Ports.{host_port}
use Rattle.ide_prefix.specs.Packet.{Packet, packet_bytes}
use Rattle.ide_types.specs.declared.port.PortName.{PortName}
use Rattle.ide_types.specs.declared.sub.SubKind.{SubKind}
use Rattle.ide_types.specs.declared.sub.FailCause.TheVariants as fail
use Rattle.ide_types.specs.declared.plan.Plan.{Plan}
use Rattle.spec_keys.specs.History.{History}
use Rattle.event_verdicts.specs.declared.verdict.UnitName.{UnitName}
use Rattle.event_verdicts.specs.declared.verdict.Verdict.{Verdict}
use Rattle.event_verdicts.specs.declared.verdict.Verdict.TheVariants as v
use Rattle.spec_links.specs.History.{ArrivedBytes, meets_counts, received_in}
use Rattle.spec_links.specs.Due.{Ending, before_tag, is_verified, unit_packets_ended, ending_due, arrival_due}
use Rattle.spec_links.specs.Due.{effects_of}

-- a packet at a port, and the unit that it ends there
abbrev pub comes_at : PortName → Packet → Option ArrivedBytes
comes_at port p = Some (record { port = port; bytes = packet_bytes p })

abbrev pub ending_at : Packet → UnitName → Ending
ending_at p unit = record { packet = p; unit = unit }

abbrev pub ends_as : Plan → History → PortName → Ending → Bool → Verdict
ends_as plan h port x verified =
    if not verified then v.Fail port x.unit.stream x.unit.sub fail.Tag
    else if not (meets_counts plan h (received_in port x.unit) (unit_packets_ended plan h port x))
    then v.Fail port x.unit.stream
    x.unit.sub fail.Order
    else v.Accepted port x.unit (effects_of plan h port x.unit (unit_packets_ended plan h port x))

-- the packet ends a unit
pub ends_at : (plan : Plan) (h : History) (o : Option ArrivedBytes) (port : PortName) (p : Packet) (unit : UnitName)
    (verified : Bool) → o ≡ comes_at port p
    → before_tag plan h (record { port = port; bytes = packet_bytes p }) ≡ Ok (ending_at p unit)
    → is_verified plan h port (ending_at p unit) ≡ verified
    → arrival_due plan h o ≡ ends_as plan h port (ending_at p unit) verified
ends_at plan h o port p unit verified brings passes is = ap (arrival_due plan h) brings
    ∙ (ap (ending_due plan h port) passes ∙ ap (ends_as plan h port (ending_at p unit)) is)

-- ---- at the host's port of link 0, on stream 5

abbrev pub comes : Packet → Option ArrivedBytes
comes p = comes_at (host_port 0) p

abbrev pub case_ending : Packet → SubKind → ℕ → ℕ → Ending
case_ending p sub draw unit = ending_at p (record { stream = 5; sub = sub; draw = draw; unit = unit })

pub ends : (plan : Plan) (h : History) (o : Option ArrivedBytes) (p : Packet) (sub : SubKind) (draw unit : ℕ)
    (verified : Bool) → o ≡ comes p
    → before_tag plan h (record { port = host_port 0; bytes = packet_bytes p }) ≡ Ok (case_ending p sub draw unit)
    → is_verified plan h (host_port 0) (case_ending p sub draw unit) ≡ verified
    → arrival_due plan h o ≡ ends_as plan h (host_port 0) (case_ending p sub draw unit) verified
ends plan h o p sub draw unit verified brings passes is =
    ends_at plan h o (host_port 0) p (record { stream = 5; sub = sub; draw = draw; unit = unit }) verified brings passes
    is

-- it has its verdict without a look at the tag
pub stops : (plan : Plan) (h : History) (o : Option ArrivedBytes) (p : Packet) (w : Verdict) → o ≡ comes p
    → before_tag plan h (record { port = host_port 0; bytes = packet_bytes p }) ≡ Err w → arrival_due plan h o ≡ w
stops plan h o p w brings before = ap (arrival_due plan h) brings ∙ ap (ending_due plan h (host_port 0)) before

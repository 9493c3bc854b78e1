-- What stands in trusted memory are bytes: the payloads of the packets of a unit are, and the key stream is.
use Rattle.std.proofs.Common.{◌≡◌, ℕ, zero, suc, ◌+◌, ◌-◌, ◌<◌, ◌&&◌, Bool, true, false, List, [], ◌∷◌, length}
use Rattle.std.proofs.Common.{take, drop, Option, Some, None, Result, Ok, Err, if◌then◌else◌, refl, sym, subst, arith}
use Rattle.std.specs.Prelude.{find, All}
use Rattle.std.specs.List.{AllByRecursion}
use Rattle.std.proofs.lemmas.List.Elements.{All-append, All-take, All-drop, All-nil}
use Rattle.hex.specs.Hex.{IsBytes}
use Rattle.ide_types.proofs.Cells.{all_bytes}
use Rattle.ide_types.specs.declared.port.PortName.{PortName}
use Rattle.ide_types.specs.declared.plan.Plan.{Plan}
use Rattle.ide_types.specs.declared.plan.Region.{Region}
use Rattle.script_events.specs.declared.event.Event.{Event}
use Rattle.script_events.specs.declared.event.InterfaceEvent.{InterfaceEvent}
use Rattle.script_events.specs.declared.event.InterfaceEvent.TheVariants as ie
use Rattle.event_verdicts.specs.declared.verdict.Effect.{Effect}
use Rattle.event_verdicts.specs.declared.verdict.UnitName.{UnitName}
use Rattle.event_verdicts.specs.declared.verdict.Verdict.TheVariants as v
use Rattle.event_verdicts.specs.Apart.{Fits}
use Rattle.spec_links.specs.Ports.{port_of}
use Rattle.tlp_layout.specs.declared.head.HeadView.{HeadView}
use Rattle.tlp_layout.specs.declared.fault.TlpFault.{TlpFault}
use Rattle.tlp_layout.specs.Reading.{read_head_of}
use Rattle.ide_prefix.specs.Packet.{Packet, FitsPacket}
use Rattle.ide_prefix.specs.Units.{encrypted_bytes}
unfoldable use Rattle.gcm_seal.specs.Gcm.{open_of}
use Rattle.gcm_seal.proofs.Sealing.{masked-bytes}
use Rattle.std.specs.Option.{option_map}
use Rattle.trusted_memory.specs.declared.span.Span.{Span}
use Rattle.trusted_memory.specs.Spans.{enables, write_span}
use Rattle.trusted_memory.specs.Writes.{Write, written_byte, last_enabling, memory_write, newest_first}
unfoldable use Rattle.trusted_memory.specs.Writes.{byte_last_written}
use Rattle.trusted_memory.specs.Memory.{bytes_from}
use Rattle.trusted_memory.specs.Regions.{in_one_region}
use Rattle.spec_keys.specs.History.{History}
use Rattle.spec_interfaces.specs.Views.{grant_at}
use Rattle.spec_links.specs.History.{arrived_packet, packets_in_hold, received_in}
use Rattle.trusted_memory.specs.Admitted.{is_placed, if_placed, is_on_bound}
use Rattle.spec_links.specs.Memory.{Grants, requester_bound, payload_write, write_if_admitted, admitted_each}
use Rattle.spec_links.specs.Memory.{unit_ended, plain_of, accepted_unit_writes, shown_if, memory_due}
unfoldable use Rattle.spec_links.specs.Memory.{writes}
use Rattle.spec_links.specs.Cause.{CauseLaw}
use Rattle.spec_links.specs.Due.{due}
use Rattle.spec_links.proofs.Causes.{accepted_by, packet_that_came}
use Rattle.law_hops.proofs.TlpsRead.{snoc_fits}
use Rattle.law_hops.proofs.{came_fits, held_fits}

abbrev pub IsByte : ℕ → Type 0
IsByte b = b < 256

abbrev pub AreOctets : List ℕ → Type 0
AreOctets bytes = All IsByte bytes

-- ---- the payloads of a unit

bodies : (ps : List Packet) → AllByRecursion FitsPacket ps → AreOctets (encrypted_bytes ps)
bodies [] fits = All-nil IsByte
bodies (p ∷ ps) fits = All-append IsByte p.body (encrypted_bytes ps) fits.0.body (bodies ps fits.1)

pub plain_bytes : (plan : Plan) (port : PortName) (unit : UnitName) (ps : List Packet) → AllByRecursion FitsPacket ps
    → AreOctets (plain_of plan port unit ps)
unfolding open_of
plain_bytes plan port unit ps fits = masked-bytes _ _ 0 (encrypted_bytes ps) (bodies ps fits)

-- ---- the writes of a unit

abbrev pub OfBytes : Option Write → Type 0
OfBytes None = Unit {0}
OfBytes (Some w) = AreOctets w.payload

span_bytes : (o : Option Span) (payload : List ℕ) → AreOctets payload
    → OfBytes (option_map (λ (s : Span). record { span = s; payload = payload }) o)
span_bytes None payload bytes = tt
span_bytes (Some s) payload bytes = bytes

pub write_bytes : (head : HeadView) (payload : List ℕ) → AreOctets payload → OfBytes (memory_write head payload)
write_bytes head payload bytes = span_bytes (write_span head) payload bytes

placed_bytes : (regions : List Region) (b : Bool) (o : Option Write) → OfBytes o → OfBytes (if_placed regions b o)
placed_bytes regions b None bytes = tt
placed_bytes regions b (Some w) bytes = by (b && is_placed regions w.span)
  where
    by : (t : Bool) → OfBytes (if t then Some w else None)
    by true = bytes
    by false = tt

admitted_bytes : (plan : Plan) (grants : Grants) (port : PortName) (unit : UnitName) (p : Packet) (payload : List ℕ)
    → AreOctets payload → OfBytes (write_if_admitted plan grants port unit p payload)
admitted_bytes plan grants port unit p payload bytes = by_test _
  where
    by_head : (r : Result HeadView TlpFault) → OfBytes (payload_write plan grants port unit p.prefix.t payload r)
    by_head (Err f) = tt
    by_head (Ok head) = placed_bytes plan.memory
        (p.prefix.t && is_on_bound unit.stream unit.draw (requester_bound grants port head)) (memory_write head payload)
        (write_bytes head payload bytes)

    by_test : (b : Bool) → OfBytes
        (if b then payload_write plan grants port unit p.prefix.t payload (read_head_of p.head) else None)
    by_test true = by_head (read_head_of p.head)
    by_test false = tt

each_bytes : (plan : Plan) (grants : Grants) (port : PortName) (unit : UnitName) (plain : List ℕ) (ps : List Packet)
    → AreOctets plain → AllByRecursion OfBytes (admitted_each plan grants port unit plain ps)
each_bytes plan grants port unit plain [] bytes = tt
each_bytes plan grants port unit plain (p ∷ ps) bytes = (
  admitted_bytes plan grants port unit p (take (length p.body) plain) (All-take IsByte (length p.body) plain bytes),
  each_bytes plan grants port unit (drop (length p.body) plain) ps (All-drop IsByte (length p.body) plain bytes),
)

-- ---- all writes

abbrev pub Payloads : List Write → Type 0
Payloads ws = AllByRecursion (λ w. AreOctets w.payload) ws

newest_bytes : (os : List (Option Write)) (older : List Write) → AllByRecursion OfBytes os → Payloads older
    → Payloads (newest_first os older)
newest_bytes [] older each all = all
newest_bytes (None ∷ os) older each all = newest_bytes os older each.1 all
newest_bytes (Some w ∷ os) older each all = newest_bytes os (w ∷ older) each.1 (each.0, all)

pub unit_fits : (plan : Plan) (h : History) → CauseLaw plan h → (e : Event) (port : PortName) (unit : UnitName)
    (effects : List Effect) → v.Accepted port unit effects ≡ due plan h e
    → AllByRecursion FitsPacket (unit_ended plan h e port unit)
unit_fits plan h cause e port unit effects is =
    let by = accepted_by plan h e port unit effects is in
    snoc_fits (packets_in_hold plan h (received_in port unit) unit.draw unit.unit) (arrived_packet plan h e)
    (held_fits plan h cause (received_in port unit) unit.draw unit.unit)
    (subst FitsPacket (sym (packet_that_came plan h e port by.packet by.came))
    (came_fits plan h e port by.packet by.came))

writes_bytes : (plan : Plan) (h : History) → CauseLaw plan h → Payloads (writes plan h)
unfolding writes
writes_bytes plan [] cause = tt
writes_bytes plan ((e, v.Accepted port unit effects) ∷ h) cause =
    let ps = unit_ended plan h e port unit in
    let fit = unit_fits plan h cause.1 e port unit effects cause.0 in
    newest_bytes (accepted_unit_writes plan h e port unit) (writes plan h)
    (each_bytes plan (grant_at plan h) (port_of plan port) unit (plain_of plan port unit ps) ps
    (plain_bytes plan port unit ps fit)) (writes_bytes plan h cause.1)
writes_bytes plan (_ ∷ h) cause = writes_bytes plan h cause.1

-- ---- what is shown

found_payload : (test : Write → Bool) (ws : List Write) (w : Write) → Payloads ws → find test ws ≡ Some w
    → AreOctets w.payload
found_payload test [] w all is = absurd cc
found_payload test (x ∷ ws) w all is = by (found_payload test ws w all.1) (test x) is
  where
    by : (find test ws ≡ Some w → AreOctets w.payload) → (b : Bool) → (if b then Some x else find test ws) ≡ Some w
        → AreOctets w.payload
    by later true is = let same : x ≡ w = cc in subst (λ (y : Write). AreOctets y.payload) same all.0
    by later false is = later is

pub byte_small : (ws : List Write) → Payloads ws → (a : ℕ) → byte_last_written ws a < 256
unfolding byte_last_written
byte_small ws all a = by (last_enabling ws a) refl
  where
    by : (o : Option Write) → last_enabling ws a ≡ o → written_byte o a < 256
    by None is = omega arith
    by (Some w) is = all_bytes w.payload (found_payload (λ w. enables w.span a) ws w all is) (a - w.span.address)

pub from_bytes : (byte : ℕ → ℕ) → ((a : ℕ) → byte a < 256) → (at n : ℕ) → IsBytes (bytes_from byte at n)
from_bytes byte small at zero i = omega arith
from_bytes byte small at (suc n) zero = small at
from_bytes byte small at (suc n) (suc i) = from_bytes byte small (at + 1) n i

shown_bytes : (plan : Plan) (b : Bool) (bytes : List ℕ) → IsBytes bytes → Fits plan (shown_if b bytes)
shown_bytes plan true bytes are = are
shown_bytes plan false bytes are = tt

pub memory_fits : (plan : Plan) (h : History) → CauseLaw plan h → (e : InterfaceEvent) → Fits plan (memory_due plan h e)
memory_fits plan h cause (ie.Memory at len) = shown_bytes plan (in_one_region plan.memory at len) _
    (from_bytes (byte_last_written (writes plan h)) (byte_small (writes plan h) (writes_bytes plan h cause)) at len)
memory_fits plan h cause _ = tt

-- What stands in a device's guarded memory are bytes: the payloads of the writes that are stored there are.
use Rattle.std.proofs.Common.{
  ◌≡◌,
  ℕ,
  ◌<◌,
  ◌==◌,
  ◌&&◌,
  Bool,
  true,
  false,
  List,
  [],
  ◌∷◌,
  length,
  take,
  drop,
  Option,
  Some,
}
use Rattle.std.proofs.Common.{None, Result, Ok, Err, if◌then◌else◌}
use Rattle.std.specs.List.{AllByRecursion, cons_option}
use Rattle.std.proofs.lemmas.List.Elements.{All-take, All-drop}
use Rattle.hex.specs.Hex.{IsBytes}
use Rattle.ide_types.specs.declared.plan.Plan.{Plan}
use Rattle.ide_types.specs.declared.port.PortName.{PortName}
use Rattle.script_events.specs.declared.event.Event.{Event}
use Rattle.script_events.specs.declared.event.Event.TheVariants as event
use Rattle.script_events.specs.declared.event.InterfaceEvent.TheVariants as ie
use Rattle.event_verdicts.specs.declared.verdict.BlockCause.{BlockCause}
use Rattle.event_verdicts.specs.declared.verdict.UnitName.{UnitName}
use Rattle.event_verdicts.specs.declared.verdict.Verdict.{Verdict}
use Rattle.event_verdicts.specs.declared.verdict.Verdict.TheVariants as v
use Rattle.event_verdicts.specs.Apart.{Fits}
use Rattle.spec_links.specs.Ports.{port_of}
use Rattle.tlp_layout.specs.declared.head.HeadView.{HeadView}
use Rattle.tlp_layout.specs.declared.fault.TlpFault.{TlpFault}
use Rattle.tlp_layout.specs.Reading.{read_head_of}
use Rattle.ide_prefix.specs.Packet.{Packet, FitsPacket, is_sync_packet}
use Rattle.trusted_memory.specs.Writes.{Write, memory_write}
use Rattle.trusted_memory.specs.Memory.{bytes_from}
use Rattle.guarded_memory.specs.declared.status.InterfaceStatus.{InterfaceStatus}
use Rattle.guarded_memory.specs.declared.claims.Claim.{Claim}
use Rattle.guarded_memory.specs.Claims.{claim_of}
use Rattle.guarded_memory.specs.Causes.{mmio_cause}
use Rattle.guarded_memory.specs.Happenings.{Happened, WriteStored, InterfaceReset, AllReset, InterfaceStopped, clears}
use Rattle.guarded_memory.specs.Happenings.{stored_write, writes_since, byte_shown, newest_happened}
use Rattle.guarded_memory.specs.Stored.{stored_unless, stored_by_claim, write_happened}
use Rattle.spec_keys.specs.History.{History}
use Rattle.spec_interfaces.specs.Sites.{Site, site_at}
use Rattle.spec_interfaces.specs.Exchanges.{carries, changes_device}
use Rattle.spec_interfaces.specs.Floors.{place_of, history_statuses}
use Rattle.spec_links.specs.Memory.{unit_ended, plain_of}
use Rattle.spec_links.specs.Guarded.{tlp_happened, stored_packet, stored_each, unit_happenings, happens_if, halted_at}
use Rattle.spec_links.specs.Guarded.{reset_at, asked_happens, happens, mmio_if, mmio_shown, mmio_due}
unfoldable use Rattle.spec_links.specs.Guarded.{link_happenings}
use Rattle.spec_links.specs.Cause.{CauseLaw}
use Rattle.spec_links.specs.Due.{due}
use Rattle.law_text.proofs.MemoryFits.{IsByte, AreOctets, OfBytes, Payloads, plain_bytes, write_bytes, unit_fits}
use Rattle.law_text.proofs.MemoryFits.{byte_small, from_bytes}

-- ---- what a packet makes happen

abbrev OfHappened : Happened → Type 0
OfHappened (WriteStored i b w) = AreOctets w.payload
OfHappened (InterfaceReset i) = Unit {0}
OfHappened AllReset = Unit {0}
OfHappened (InterfaceStopped i bars) = Unit {0}

abbrev IfHappened : Option Happened → Type 0
IfHappened None = Unit {0}
IfHappened (Some h) = OfHappened h

unless_bytes : (o : Option BlockCause) (c : Claim) (w : Write) → AreOctets w.payload → IfHappened (stored_unless o c w)
unless_bytes None c w bytes = bytes
unless_bytes (Some cause) c w bytes = tt

claimed_bytes : (o : Option Claim) (w : Write) (t : Bool) (stream draw : ℕ) → AreOctets w.payload
    → IfHappened (stored_by_claim o w t stream draw)
claimed_bytes None w t stream draw bytes = tt
claimed_bytes (Some c) w t stream draw bytes = unless_bytes (mmio_cause c.status c.range w.span t stream draw) c w bytes

write_stored_bytes : (xs : List InterfaceStatus) (t : Bool) (stream draw : ℕ) (o : Option Write) → OfBytes o
    → IfHappened (write_happened xs t stream draw o)
write_stored_bytes xs t stream draw None bytes = tt
write_stored_bytes xs t stream draw (Some w) bytes = claimed_bytes (claim_of xs w.span) w t stream draw bytes

as_bytes : (xs : List InterfaceStatus) (unit : UnitName) (t : Bool) (payload : List ℕ) → AreOctets payload
    → (r : Result HeadView TlpFault) → IfHappened (tlp_happened xs unit t payload r)
as_bytes xs unit t payload bytes (Err f) = tt
as_bytes xs unit t payload bytes (Ok head) =
    write_stored_bytes xs t unit.stream unit.draw (memory_write head payload) (write_bytes head payload bytes)

packet_bytes : (xs : List InterfaceStatus) (unit : UnitName) (p : Packet) (payload : List ℕ) → AreOctets payload
    → IfHappened (stored_packet xs unit p payload)
packet_bytes xs unit p payload bytes = by (is_sync_packet p)
  where
    by : (b : Bool) → IfHappened (if b then None else tlp_happened xs unit p.prefix.t payload (read_head_of p.head))
    by true = tt
    by false = as_bytes xs unit p.prefix.t payload bytes (read_head_of p.head)

each_bytes : (xs : List InterfaceStatus) (unit : UnitName) (plain : List ℕ) (ps : List Packet) → AreOctets plain
    → AllByRecursion IfHappened (stored_each xs unit plain ps)
each_bytes xs unit plain [] bytes = tt
each_bytes xs unit plain (p ∷ ps) bytes = (
  packet_bytes xs unit p (take (length p.body) plain) (All-take IsByte (length p.body) plain bytes),
  each_bytes xs unit (drop (length p.body) plain) ps (All-drop IsByte (length p.body) plain bytes),
)

if_list : (b : Bool) (os : List (Option Happened)) → AllByRecursion IfHappened os
    → AllByRecursion IfHappened (if b then os else [])
if_list true os each = each
if_list false os each = tt

unit_bytes : (xs : List InterfaceStatus) (plan : Plan) (port : PortName) (unit : UnitName) (ps : List Packet)
    → AllByRecursion FitsPacket ps → AllByRecursion IfHappened (unit_happenings xs plan port unit ps)
unit_bytes xs plan port unit ps fit =
    let plain = plain_of plan port unit ps in
    if_list _ (stored_each xs unit plain ps) (each_bytes xs unit plain ps (plain_bytes plan port unit ps fit))

-- ---- all that happens

if_bytes : (b : Bool) (h : Happened) → OfHappened h → AllByRecursion IfHappened (happens_if b h)
if_bytes true h bytes = (bytes, tt)
if_bytes false h bytes = tt

halted_bytes : (plan : Plan) (w : Verdict) (link : ℕ) (o : Option Site)
    → AllByRecursion IfHappened (halted_at plan w link o)
halted_bytes plan w link None = tt
halted_bytes plan w link (Some x) =
    if_bytes ((x.link == link) && carries w 1) (InterfaceStopped (place_of plan x) x.plan.bars) tt

reset_bytes : (plan : Plan) (w : Verdict) (link : ℕ) (o : Option Site)
    → AllByRecursion IfHappened (reset_at plan w link o)
reset_bytes plan w link None = tt
reset_bytes plan w link (Some x) = if_bytes ((x.link == link) && changes_device w) (InterfaceReset (place_of plan x)) tt

asked_bytes : (plan : Plan) (e : Event) (w : Verdict) (link : ℕ)
    → AllByRecursion IfHappened (asked_happens plan e w link)
asked_bytes plan (event.Interface (ie.Halt i loss)) w link = halted_bytes plan w link (site_at plan i)
asked_bytes plan (event.Interface (ie.Flr i)) w link = reset_bytes plan w link (site_at plan i)
asked_bytes plan e w link = tt

pair_bytes : (plan : Plan) (h : History) → CauseLaw plan h → (e : Event) (w : Verdict) → w ≡ due plan h e → (link : ℕ)
    → AllByRecursion IfHappened (happens plan h e w link)
pair_bytes plan h cause e (v.Accepted port unit effects) is link =
    let ps = unit_ended plan h e port unit in
    let at = (port_of plan port).line in
    if_list (at == link) (unit_happenings (history_statuses plan h at) plan port unit ps)
    (unit_bytes (history_statuses plan h at) plan port unit ps (unit_fits plan h cause e port unit effects is))
pair_bytes plan h cause (event.Reset l ends) (v.Reset k) is link = if_bytes (l == link) AllReset tt
pair_bytes plan h cause e w is link = asked_bytes plan e w link

newest_bytes : (os : List (Option Happened)) (older : List Happened) → AllByRecursion IfHappened os
    → AllByRecursion OfHappened older → AllByRecursion OfHappened (newest_happened os older)
newest_bytes [] older each all = all
newest_bytes (None ∷ os) older each all = newest_bytes os older each.1 all
newest_bytes (Some h ∷ os) older each all = newest_bytes os (h ∷ older) each.1 (each.0, all)

happened_bytes : (plan : Plan) (h : History) → CauseLaw plan h → (link : ℕ)
    → AllByRecursion OfHappened (link_happenings plan h link)
unfolding link_happenings
happened_bytes plan [] cause link = tt
happened_bytes plan ((e, w) ∷ h) cause link = newest_bytes (happens plan h e w link) (link_happenings plan h link)
    (pair_bytes plan h cause.1 e w cause.0 link) (happened_bytes plan h cause.1 link)

-- ---- what is shown

stored_bytes : (h : Happened) (i b : ℕ) → OfHappened h → OfBytes (stored_write h i b)
stored_bytes (WriteStored j c w) i b bytes = by ((j == i) && (c == b))
  where
    by : (t : Bool) → OfBytes (if t then Some w else None)
    by true = bytes
    by false = tt
stored_bytes (InterfaceReset j) i b bytes = tt
stored_bytes AllReset i b bytes = tt
stored_bytes (InterfaceStopped j bars) i b bytes = tt

more_bytes : (o : Option Write) (ws : List Write) → OfBytes o → Payloads ws → Payloads (cons_option o ws)
more_bytes None ws one all = all
more_bytes (Some w) ws one all = (one, all)

since_bytes : (hs : List Happened) (i b : ℕ) → AllByRecursion OfHappened hs → Payloads (writes_since hs i b)
since_bytes [] i b all = tt
since_bytes (h ∷ older) i b all = by (since_bytes older i b all.1) (clears h i b)
  where
    by : Payloads (writes_since older i b) → (t : Bool)
        → Payloads (if t then [] else cons_option (stored_write h i b) (writes_since older i b))
    by later true = tt
    by later false = more_bytes (stored_write h i b) (writes_since older i b) (stored_bytes h i b all.0) later

pub shown_small : (plan : Plan) (h : History) → CauseLaw plan h → (link i b a : ℕ)
    → byte_shown (link_happenings plan h link) i b a < 256
shown_small plan h cause link i b a = byte_small (writes_since (link_happenings plan h link) i b)
    (since_bytes (link_happenings plan h link) i b (happened_bytes plan h cause link)) a

shown_bytes : (plan : Plan) (b : Bool) (bytes : List ℕ) → IsBytes bytes → Fits plan (mmio_if b bytes)
shown_bytes plan true bytes are = are
shown_bytes plan false bytes are = tt

site_bytes : (plan : Plan) (h : History) → CauseLaw plan h → (o : Option Site) (bar offset len : ℕ)
    → Fits plan (mmio_shown plan (link_happenings plan h) o bar offset len)
site_bytes plan h cause None bar offset len = tt
site_bytes plan h cause (Some x) bar offset len =
    let place = place_of plan x in
    shown_bytes plan _ (bytes_from (byte_shown (link_happenings plan h x.link) place bar) offset len)
    (from_bytes (byte_shown (link_happenings plan h x.link) place bar) (shown_small plan h cause x.link place bar)
    offset len)

pub mmio_fits : (plan : Plan) (h : History) → CauseLaw plan h → (i bar offset len : ℕ)
    → Fits plan (mmio_due plan h i bar offset len)
mmio_fits plan h cause i bar offset len = site_bytes plan h cause (site_at plan i) bar offset len

-- The completion of a read that waits at a device is read as a TLP: the read's fields are in range, and all that stands
-- in the memory of interfaces are bytes, since it came in packets.
use Rattle.law_sealing.proofs.Terms.{◌≡◌, ℕ, ◌<◌, ◌≤◌, ◌==◌, ◌&&◌, zero, suc, Bool, true, false, not, List, []}
use Rattle.law_sealing.proofs.Terms.{◌∷◌, length, take, drop, Option, Some, None, Result, Ok, Err, ap, subst}
use Rattle.law_sealing.proofs.Terms.{◌∙◌, arith, nat_tests, if◌then◌else◌, All, AllByRecursion, Plan, History, Event}
use Rattle.law_sealing.proofs.Terms.{
  Verdict,
  Accepted,
  Effect,
  UnitName,
  Packet,
  PortName,
  CauseLaw,
  sent_bytes,
  read_of,
}
use Rattle.std.specs.Prelude.{slice_index, ◌^◌, ◌-◌}
use Rattle.std.specs.Option.{option_map}
use Rattle.std.specs.List.{cons_option}
use Rattle.std.proofs.lemmas.List.Elements.{All-take, All-drop, recursion_from_All}
use Rattle.ide_types.specs.Fits.{FitsPlan}
use Rattle.ide_types.specs.Ports.{device_port}
use Rattle.tlp_layout.specs.declared.fault.TlpFault.{TlpFault}
use Rattle.tlp_layout.specs.declared.head.Fields.{Fields}
use Rattle.tlp_layout.specs.declared.head.Fields.TheVariants.{Memory, Config, Message, Completion}
use Rattle.tlp_layout.specs.declared.head.HeadView.{HeadView}
use Rattle.tlp_layout.specs.declared.head.Lead.{Lead}
use Rattle.tlp_layout.specs.Head.{FitsHead, FitsLead, FitsFields}
use Rattle.tlp_layout.proofs.Readings.{read_head_spells}
use Rattle.trusted_memory.specs.Completions.{completion}
use Rattle.trusted_memory.specs.Requests.{FitsRead, read_with}
use Rattle.trusted_memory.specs.Spans.{enables, span_of_fields, double_words}
use Rattle.trusted_memory.specs.Writes.{written_byte, last_enabling}
unfoldable use Rattle.trusted_memory.specs.Writes.{byte_last_written}
use Rattle.trusted_memory.proofs.Spelled.{reads_if_small, read_bytes_small}
use Rattle.guarded_memory.specs.Causes.{mmio_cause}
use Rattle.guarded_memory.specs.Happenings.{WriteStored, InterfaceReset, AllReset, InterfaceStopped, writes_since}
use Rattle.guarded_memory.specs.Statuses.{has_open_range}
use Rattle.guarded_memory.specs.Stored.{stored_unless, stored_by_claim}
use Rattle.spec_interfaces.specs.{Happened, InterfaceStatus, newest_happened, write_happened, claim_of}
use Rattle.spec_interfaces.specs.Sites.{Site, site_at}
use Rattle.spec_interfaces.specs.Floors.{history_statuses}
use Rattle.spec_links.proofs.Terms.{Access, Reset, has_link}
use Rattle.spec_links.specs.Guarded.{
  happens,
  halted_at,
  reset_at,
  asked_happens,
  happens_if,
  tlp_happened,
  stored_packet,
}
use Rattle.spec_links.specs.Guarded.{stored_each}
unfoldable use Rattle.spec_links.specs.Guarded.{link_happenings}
use Rattle.spec_links.specs.Memory.{unit_ended, plain_of}
use Rattle.spec_links.specs.Ports.{port_of, is_device_port}
use Rattle.spec_links.specs.Sent.{reads_taken}
use Rattle.spec_links.specs.Terms.{
  Claim,
  Span,
  Write,
  MemReadView,
  memory_read,
  write_span,
  read_head_of,
  is_sync_packet,
}
use Rattle.event_verdicts.specs.declared.verdict.BlockCause.{BlockCause}
use Rattle.event_verdicts.specs.declared.verdict.Verdict.TheVariants as v
use Rattle.script_events.specs.declared.event.AccessEvent.TheVariants as ae
use Rattle.script_events.specs.declared.event.Event.TheVariants as event
use Rattle.script_events.specs.declared.event.InterfaceEvent.TheVariants as ie
use Rattle.law_hops.proofs.TlpsRead.{plain_bytes, unit_fits}
use Rattle.law_memory.proofs.OwnStreams.{found_planned, requested}
use Rattle.law_device_reads.specs.Oldest.{IsOldestAtDevice}
use Rattle.law_device_reads.proofs.Oldest.{is_queued_read}
use Rattle.law_device_reads.proofs.Responses.{IsClaimedNow, byte_behind, bytes_are, some_words}

-- ---- the read

few_words : (n : ℕ) → n < 1024 → (if n == 0 then 1024 else n) ≤ 1024
few_words n less = grind (arith, nat_tests, less)

read_fits : (head : HeadView) → FitsHead head → (r : MemReadView) → memory_read head ≡ Some r → FitsRead r
read_fits head fits r is = by head.has_payload head.lead head.fields fits.lead fits.fields is
  where
    by : (has : Bool) (lead : Lead) (fields : Fields) → FitsLead lead → FitsFields lead fields
        → (if has then None else read_with lead fields (span_of_fields lead.length fields)) ≡ Some r → FitsRead r
    by true lead fields l f is = absurd cc
    by false lead (Memory m) l f is =
        let same : record {
          span = record {
            address = m.address;
            first_be = m.first_be;
            last_be = m.last_be;
            length = double_words lead.length;
          };
          requester = m.requester;
          tag = m.tag;
          tc = lead.tc;
          attr = lead.attr;
        } ≡ r = cc (is) in
        subst FitsRead same (record {
          least = some_words lead.length;
          most = few_words lead.length l.length;
          requester = f.0;
          tag = f.1;
          tc = l.tc;
          attr = l.attr;
        })
    by false lead (Config m) l f is = absurd cc
    by false lead (Message m) l f is = absurd cc
    by false lead (Completion m) l f is = absurd cc

-- ---- what happened to memory

abbrev IsByte : ℕ → Type 0
IsByte b = b < 256

-- what is stored are bytes
abbrev HasBytes : Happened → Type 0
HasBytes (WriteStored i b w) = All IsByte w.payload
HasBytes h = Unit {0}

abbrev MayHaveBytes : Option Happened → Type 0
MayHaveBytes None = Unit {0}
MayHaveBytes (Some h) = HasBytes h

newest_have : (hs : List (Option Happened)) (older : List Happened) → AllByRecursion MayHaveBytes hs
    → AllByRecursion HasBytes older → AllByRecursion HasBytes (newest_happened hs older)
newest_have [] older all old = old
newest_have (None ∷ hs) older all old = newest_have hs older all.1 old
newest_have (Some h ∷ hs) older all old = newest_have hs (h ∷ older) all.1 (all.0, old)

stored_has : (xs : List InterfaceStatus) (t : Bool) (stream draw : ℕ) (w : Write) → All IsByte w.payload
    → MayHaveBytes (write_happened xs t stream draw (Some w))
stored_has xs t stream draw w bytes = by (claim_of xs w.span)
  where
    by_cause : (c : Claim) (o : Option BlockCause) → MayHaveBytes (stored_unless o c w)
    by_cause c None = bytes
    by_cause c (Some cause) = tt

    by : (o : Option Claim) → MayHaveBytes (stored_by_claim o w t stream draw)
    by None = tt
    by (Some c) = by_cause c (mmio_cause c.status c.range w.span t stream draw)

packet_has : (xs : List InterfaceStatus) (unit : UnitName) (p : Packet) (payload : List ℕ) → All IsByte payload
    → MayHaveBytes (stored_packet xs unit p payload)
packet_has xs unit p payload bytes = by (is_sync_packet p) (read_head_of p.head)
  where
    by_span : (o : Option Span) → MayHaveBytes (write_happened xs p.prefix.t unit.stream unit.draw
        (option_map (λ (s : Span). record { span = s; payload = payload }) o))
    by_span None = tt
    by_span (Some s) = stored_has xs p.prefix.t unit.stream unit.draw (record { span = s; payload = payload }) bytes

    by : (b : Bool) (r : Result HeadView TlpFault)
        → MayHaveBytes (if b then None else tlp_happened xs unit p.prefix.t payload r)
    by true r = tt
    by false (Err f) = tt
    by false (Ok head) = by_span (write_span head)

each_have : (xs : List InterfaceStatus) (unit : UnitName) (plain : List ℕ) (ps : List Packet) → All IsByte plain
    → AllByRecursion MayHaveBytes (stored_each xs unit plain ps)
each_have xs unit plain [] bytes = tt
each_have xs unit plain (p ∷ ps) bytes = (
  packet_has xs unit p (take (length p.body) plain) (All-take IsByte (length p.body) plain bytes),
  each_have xs unit (drop (length p.body) plain) ps (All-drop IsByte (length p.body) plain bytes),
)

if_has : (b : Bool) (h : Happened) → HasBytes h → AllByRecursion MayHaveBytes (happens_if b h)
if_has true h has = (has, tt)
if_has false h has = tt

halted_have : (plan : Plan) (w : Verdict) (link : ℕ) (o : Option Site)
    → AllByRecursion MayHaveBytes (halted_at plan w link o)
halted_have plan w link None = tt
halted_have plan w link (Some x) = if_has _ _ tt

reset_have : (plan : Plan) (w : Verdict) (link : ℕ) (o : Option Site)
    → AllByRecursion MayHaveBytes (reset_at plan w link o)
reset_have plan w link None = tt
reset_have plan w link (Some x) = if_has _ _ tt

asked_have : (plan : Plan) (e : Event) (w : Verdict) (link : ℕ)
    → AllByRecursion MayHaveBytes (asked_happens plan e w link)
asked_have plan (event.Interface (ie.Halt i loss)) w link = halted_have plan w link (site_at plan i)
asked_have plan (event.Interface (ie.Flr i)) w link = reset_have plan w link (site_at plan i)
asked_have plan e w link = tt

unit_has : (plan : Plan) (h : History) (e : Event) (port : PortName) (unit : UnitName) (effects : List Effect)
    → CauseLaw plan ((e, Accepted port unit effects) ∷ h) → (link : ℕ)
    → AllByRecursion MayHaveBytes (happens plan h e (Accepted port unit effects) link)
unit_has plan h e port unit effects cause link =
    by ((port_of plan port).line == link) (is_device_port plan (port_of plan port))
  where
    ps : List Packet
    ps = unit_ended plan h e port unit

    by : (a b : Bool) → AllByRecursion MayHaveBytes (if a then (if b
        then stored_each (history_statuses plan h (port_of plan port).line) unit
        (plain_of plan port unit (unit_ended plan h e port unit)) (unit_ended plan h e port unit) else []) else [])
    by true true = each_have (history_statuses plan h (port_of plan port).line) unit
        (plain_of plan port unit (unit_ended plan h e port unit)) (unit_ended plan h e port unit)
        (plain_bytes plan port unit (unit_ended plan h e port unit) (unit_fits plan h e port unit effects cause))
    by true false = tt
    by false b = tt

pair_has : (plan : Plan) (h : History) (e : Event) (w : Verdict) → CauseLaw plan ((e, w) ∷ h) → (link : ℕ)
    → AllByRecursion MayHaveBytes (happens plan h e w link)
pair_has plan h e (Accepted port unit effects) cause link = unit_has plan h e port unit effects cause link
pair_has plan h (Reset l ends) (v.Reset k) cause link = if_has (l == link) AllReset tt
pair_has plan h e w cause link = asked_have plan e w link

all_have : (plan : Plan) (h : History) → CauseLaw plan h → (link : ℕ)
    → AllByRecursion HasBytes (link_happenings plan h link)
unfolding link_happenings
all_have plan [] cause link = tt
all_have plan ((e, w) ∷ h) cause link =
    newest_have (happens plan h e w link) (link_happenings plan h link) (pair_has plan h e w cause link)
    (all_have plan h cause.1 link)

-- ---- what stands there

since_have : (hs : List Happened) → AllByRecursion HasBytes hs → (i b : ℕ)
    → AllByRecursion (λ (w : Write). All IsByte w.payload) (writes_since hs i b)
since_have [] all i b = tt
since_have (WriteStored j c w ∷ hs) all i b = by ((j == i) && (c == b)) (since_have hs all.1 i b)
  where
    by : (t : Bool) → AllByRecursion (λ (x : Write). All IsByte x.payload) (writes_since hs i b)
        → AllByRecursion (λ (x : Write). All IsByte x.payload) (cons_option (if t then Some w else None)
        (writes_since hs i b))
    by true rest = (all.0, rest)
    by false rest = rest
since_have (InterfaceReset j ∷ hs) all i b = by (j == i) (since_have hs all.1 i b)
  where
    by : (t : Bool) → AllByRecursion (λ (x : Write). All IsByte x.payload) (writes_since hs i b)
        → AllByRecursion (λ (x : Write). All IsByte x.payload) (if t then [] else writes_since hs i b)
    by true rest = tt
    by false rest = rest
since_have (AllReset ∷ hs) all i b = tt
since_have (InterfaceStopped j bars ∷ hs) all i b =
    by ((j == i) && not (has_open_range bars b)) (since_have hs all.1 i b)
  where
    by : (t : Bool) → AllByRecursion (λ (x : Write). All IsByte x.payload) (writes_since hs i b)
        → AllByRecursion (λ (x : Write). All IsByte x.payload) (if t then [] else writes_since hs i b)
    by true rest = tt
    by false rest = rest

small_at : (xs : List ℕ) → AllByRecursion IsByte xs → (k : ℕ) → slice_index xs k < 256
small_at [] all zero = omega arith
small_at [] all (suc k) = omega arith
small_at (x ∷ xs) all zero = all.0
small_at (x ∷ xs) all (suc k) = small_at xs all.1 k

last_small : (ws : List Write) → AllByRecursion (λ (w : Write). All IsByte w.payload) ws → (a : ℕ)
    → byte_last_written ws a < 256
unfolding byte_last_written
last_small [] all a = omega arith
last_small (w ∷ ws) all a = by (enables w.span a) (last_small ws all.1 a)
  where
    by : (t : Bool) → written_byte (last_enabling ws a) a < 256
        → written_byte (if t then Some w else last_enabling ws a) a < 256
    by true rest = small_at w.payload (recursion_from_All IsByte w.payload all.0) (a - w.span.address)
    by false rest = rest

-- ---- the completion

pub readable : (plan : Plan) → FitsPlan plan → (h : History) → CauseLaw plan h → (link : ℕ) → has_link plan link ≡ true
    → (of : IsOldestAtDevice plan h link) (c : Claim) → IsClaimedNow plan h link of c
    → read_of (sent_bytes plan h (Access (ae.Respond link)))
    ≡ Ok (completion of.interface.plan.requester (byte_behind plan h link c) of.read.read)
readable plan fits h cause link has of c now =
    let id = of.interface.plan.requester in
    let byte = byte_behind plan h link c in
    let own = found_planned plan fits _ of.interface
    (requested plan fits link of.target.interface of.interface of.known) in
    let small = own.fits.requester in
    let little : id < 2 ^ 16 = omega (arith, small) in
    let q = is_queued_read plan h cause link has (reads_taken h (device_port link)) of.read of.oldest in
    let spells = (read_head_spells q.by.at.head q.by.at.packet.head).1 q.by.at.reads in
    let bytes = all_have plan h cause link in
    ap read_of (bytes_are plan h cause link of c now)
    ∙ reads_if_small id byte of.read.read little (read_fits q.by.at.head spells.fits of.read.read q.by.at.is_read)
    (read_bytes_small byte of.read.read (λ a. last_small (writes_since (link_happenings plan h link) c.interface c.bar)
    (since_have (link_happenings plan h link) bytes c.interface c.bar) (a - c.range.base)))

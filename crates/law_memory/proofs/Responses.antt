-- What a response seals is a completion of the oldest read that waits at its device, by the interface that claims the
-- read; it has T as the read has. A trusted one is sealed while that interface is in RUN and bound to the stream.
use Rattle.law_sealing.proofs.Terms.{◌≡◌, ℕ, ◌+◌, ◌<◌, ◌≤◌, ◌==◌, ◌∷◌, ◌∙◌, Bool, true, false, List, []}
use Rattle.law_sealing.proofs.Terms.{length, slice_get, is_some, Option, Some, None, Ok, refl, ap, sym}
use Rattle.law_sealing.proofs.Terms.{subst, arith, nat_tests, if◌then◌else◌, AllByRecursion, Plan, History, Event, Send}
use Rattle.law_sealing.proofs.Terms.{Sealed, SealedPacket, Packet, Prefix, PortName, CauseLaw, sent_bytes, lane_out}
use Rattle.law_sealing.proofs.Terms.{live_key, Cpl, lanes_at, Tlp, header, class_of, read_of, Sending}
unfoldable use Rattle.law_sealing.proofs.Terms.{due, sealed_packets}
use Rattle.std.specs.Prelude.{nat_lt}
use Rattle.std.specs.Option.{option_map}
use Rattle.std.proofs.lemmas.Option.{slice_get-map}
use Rattle.std.proofs.lemmas.Bool.{and_parts, eqb-true}
use Rattle.ide_types.specs.Ports.{device_port}
use Rattle.tlp_layout.specs.Class.{kind_class, kind_of_layout, layout_of}
use Rattle.tlp_layout.specs.Reading.{read_head_of}
use Rattle.tlp_layout.specs.declared.head.Fields.{Fields}
use Rattle.tlp_layout.specs.declared.head.Fields.TheVariants.{Memory, Config, Message, Completion}
use Rattle.tlp_layout.specs.declared.head.HeadView.{HeadView}
use Rattle.tlp_layout.proofs.Readings.{read_spells_tlp}
use Rattle.trusted_memory.specs.Spans.{span_of, span_of_fields}
use Rattle.guarded_memory.specs.declared.status.InterfaceStatus.{InterfaceStatus}
use Rattle.guarded_memory.specs.declared.claims.Claim.{Claim}
use Rattle.guarded_memory.specs.Claims.{claim_of}
use Rattle.guarded_memory.specs.Causes.{access_cause, floor_cause}
use Rattle.guarded_memory.specs.DeviceReads.{claimed_target, is_same_target, least_draw}
use Rattle.guarded_memory.specs.Statuses.{is_in_run}
use Rattle.guarded_memory.proofs.Claimed.{claimed}
use Rattle.interface_state.specs.Machine.{all_bindings}
use Rattle.interface_state.specs.Bindings.{floor_on}
use Rattle.event_verdicts.specs.declared.verdict.BlockCause.TheVariants as blocks
use Rattle.script_events.specs.declared.event.AccessEvent.TheVariants as ae
use Rattle.spec_links.proofs.Terms.{Access, WaitingRead}
unfoldable use Rattle.spec_links.proofs.Terms.{bytes_by}
use Rattle.spec_links.specs.Terms.{ReadArrival, ReadTarget}
use Rattle.spec_links.specs.Plan.{has_link}
use Rattle.spec_links.specs.Due.{is_before, seal_due}
use Rattle.spec_links.specs.Memory.{queued_reads}
use Rattle.spec_links.specs.Guarded.{link_happenings}
use Rattle.spec_links.specs.Sent.{reads_taken, claim_completion, completer_on}
use Rattle.spec_interfaces.specs.Sites.{Site}
use Rattle.spec_interfaces.specs.Devices.{interface_at, runs_at}
use Rattle.spec_interfaces.specs.Floors.{device_floor, device_status, history_statuses, link_sites, site_on}
use Rattle.law_reads.proofs.Oldest.{response_bytes_are}
pub use Rattle.law_reads.proofs.Responses.{Judged, judged_means}
use Rattle.law_reads.proofs.Responses.{responded_by}
use Rattle.law_sealing.proofs.Bounds.{prefix_is}
use Rattle.law_mmio.proofs.Guards.{run_state}
use Rattle.law_memory.specs.Bindings.{is_sent_by_device}
use Rattle.law_memory.specs.Origin.{CameFrom}
use Rattle.law_memory.proofs.Completions.{completion_class}
use Rattle.law_memory.proofs.Found.{IsNew, Sealing, all_get, cause_at, head_is, head_of, not_synced}
use Rattle.law_memory.proofs.Packets.{IsOf, sealed_of}

-- ---- the read and its completion

-- what a sealed response answers, and how
pub record Responded (plan : Plan) (h : History) (link : ℕ) (ds : List SealedPacket) : Type 0 where
  pub known : has_link plan link ≡ true
  pub read : WaitingRead
  pub oldest : slice_get (queued_reads plan h (device_port link)) (reads_taken h (device_port link)) ≡ Some read
  pub target : ReadTarget
  pub target_is : read.target ≡ Some target
  pub interface : Site
  pub placed : site_on plan link target.interface ≡ Some interface
  pub claim : Claim
  pub judged : Judged (claim_of (history_statuses plan h link) read.read.span) target read.came claim
  pub key : is_before (live_key h read.came.end (lane_out read.came.end read.came.stream Cpl))
      (least_draw claim read.came) ≡ false
  pub tlp : Tlp
  pub reads : read_of (sent_bytes plan h (Access (ae.Respond link))) ≡ Ok tlp
  pub sent : Sealed ds ≡ seal_due plan h read.came.end tlp read.came.stream false read.came.trusted

pub responded : (plan : Plan) (h : History) (link : ℕ) (ds : List SealedPacket)
    → Sealed ds ≡ due plan h (Access (ae.Respond link)) → Responded plan h link ds
responded plan h link ds is =
    let by = responded_by plan h link ds is in
    record {
      known = by.known_link;
      read = by.read;
      oldest = by.oldest;
      target = by.target;
      target_is = by.of_target;
      interface = by.interface;
      placed = by.known;
      claim = by.claim;
      judged = record { claimed = by.claims; same = by.same; free = by.allowed };
      key = by.in_time;
      tlp = by.sealed.tlp;
      reads = by.sealed.reads;
      sent = by.sealed.sent;
    }

-- ---- its packets

abbrev pub response_sending : ReadArrival → Tlp → Sending
response_sending came tlp = record {
  port = came.end;
  stream = came.stream;
  class = class_of (header tlp);
  more = false;
  trusted = came.trusted;
}

pub response_packets : (plan : Plan) (h : History) (link : ℕ) (ds : List SealedPacket) (is : Responded plan h link ds)
    → AllByRecursion (IsOf (response_sending is.read.came is.tlp)) ds
response_packets plan h link ds is =
    sealed_of (lanes_at plan h is.read.came.end is.read.came.stream) (response_sending is.read.came is.tlp)
    (length (sealed_packets plan h) + 1) (Sealed ds) is.sent ds refl

no_tlp : (t : Tlp) → read_of [] ≡ Ok t → ⊥
no_tlp t is = let spelled = ((read_spells_tlp t []).1 is).spelled in absurd cc

pub response_class : (plan : Plan) (h : History) (link : ℕ) (ds : List SealedPacket) → CauseLaw plan h
    → (is : Responded plan h link ds) → class_of (header is.tlp) ≡ Cpl
response_class plan h link ds cause is =
    by (claim_of (history_statuses plan h link) is.read.read.span)
    (subst (λ (bs : List ℕ). read_of bs ≡ Ok is.tlp) (response_bytes_are plan h link is.read cause is.oldest) is.reads)
  where
    by : (o : Option Claim)
        → read_of (claim_completion plan link (link_happenings plan h link) is.read.read o) ≡ Ok is.tlp
        → class_of (header is.tlp) ≡ Cpl
    by None reads = absurd (no_tlp is.tlp reads)
    by (Some c) reads = completion_class (completer_on plan link c.interface) _ is.read.read is.tlp reads

-- ---- a request is no response

request_class : (h : HeadView) → is_some (span_of h) ≡ true → class_of h ≡ Cpl → ⊥
request_class h spans is = by h.fields h.has_payload spans is
  where
    by : (fields : Fields) (has : Bool) → is_some (span_of_fields h.lead.length fields) ≡ true
        → kind_class (kind_of_layout (layout_of fields) has) ≡ Cpl → ⊥
    by (Memory f) true spans is = absurd cc
    by (Memory f) false spans is = absurd cc
    by (Config f) has spans is = absurd cc
    by (Message f) has spans is = absurd cc
    by (Completion f) has spans is = absurd cc

not_of_response : (plan : Plan) (h : History) (link : ℕ) (ds : List SealedPacket) (d : SealedPacket) (p : Packet)
    (head : HeadView) → CauseLaw plan h → Sealed ds ≡ due plan h (Access (ae.Respond link))
    → IsNew plan (sent_bytes plan h (Access (ae.Respond link))) ds d p → p.prefix.t ≡ true
    → read_head_of p.head ≡ Ok head → is_some (span_of head) ≡ true → ⊥
not_of_response plan h link ds d p head cause due_is new trusted reads spans =
    let bytes = sent_bytes plan h (Access (ae.Respond link)) in
    let is = responded plan h link ds due_is in
    let of = all_get (IsOf (response_sending is.read.came is.tlp)) ds new.index d (response_packets plan h link ds is)
    new.listed in
    let prefix = ap (λ (r : Packet). r.prefix) new.packet ∙ prefix_is plan new.ahead bytes d new.unfinished in
    let has_t : d.t ≡ true = sym (ap (λ (f : Prefix). f.t) prefix) ∙ trusted in
    let sync : d.sync ≡ false = not_synced d.sync _ (sym of.t_is ∙ has_t) in
    let front = ap (λ (r : Packet). r.head) new.packet ∙ head_is plan new.ahead bytes d new.unfinished sync in
    let tlp = head_of bytes head (read_of bytes) refl (ap (λ (bs : List ℕ). read_head_of bs) (sym front) ∙ reads) in
    let same : tlp.0 ≡ is.tlp = let both = sym tlp.1 ∙ is.reads in cc (both) in
    let class : class_of head ≡ Cpl =
    ap class_of (sym tlp.2) ∙ (ap (λ (t : Tlp). class_of (header t)) same ∙ response_class plan h link ds cause is) in
    request_class head spans class

-- the send that sealed a packet
pub record SealedBySend (plan : Plan) (h : History) (k : ℕ) (d : SealedPacket) (p : Packet) : Type 0 where
  pub port : PortName
  pub bytes : List ℕ
  pub more : Bool
  pub trusted : Bool
  pub ds : List SealedPacket
  pub older : History
  pub came : CameFrom ((Send port bytes more trusted, Sealed ds) ∷ older) h
  pub from : length (sealed_packets plan older) ≤ k
  pub until : k < length (sealed_packets plan ((Send port bytes more trusted, Sealed ds) ∷ older))
  pub new : IsNew plan bytes ds d p

as_send : (plan : Plan) (h : History) (k : ℕ) (d : SealedPacket) (p : Packet) (e : Event) (ds : List SealedPacket)
    (older : History) → is_sent_by_device e ≡ true → CameFrom ((e, Sealed ds) ∷ older) h
    → length (sealed_packets plan older) ≤ k → k < length (sealed_packets plan ((e, Sealed ds) ∷ older))
    → IsNew plan (sent_bytes plan older e) ds d p → ((link : ℕ) → e ≡ Access (ae.Respond link) → ⊥)
    → SealedBySend plan h k d p
unfolding bytes_by
as_send plan h k d p (Send port bytes more trusted) ds older own came from until new other = record {
  port = port;
  bytes = bytes;
  more = more;
  trusted = trusted;
  ds = ds;
  older = older;
  came = came;
  from = from;
  until = until;
  new = new;
}
as_send plan h k d p (Access (ae.Respond link)) ds older own came from until new other = absurd (other link refl)
as_send plan h k d p e ds older own came from until new other = absurd cc

-- a memory request with T is a send's
pub by_send : (plan : Plan) (h : History) → CauseLaw plan h → (k : ℕ) (d : SealedPacket) (p : Packet) (head : HeadView)
    → Sealing plan h k d p → p.prefix.t ≡ true → read_head_of p.head ≡ Ok head → is_some (span_of head) ≡ true
    → SealedBySend plan h k d p
by_send plan h cause k d p head seal trusted reads spans =
    let here = cause_at plan seal.came.since ((seal.event, Sealed seal.ds) ∷ seal.older) h seal.came.is cause in
    as_send plan h k d p seal.event seal.ds seal.older seal.own seal.came seal.from seal.until seal.new
    (λ link is. not_of_response plan seal.older link seal.ds d p head here.1
    (here.0 ∙ ap (λ (e : Event). due plan seal.older e) is)
    (subst (λ (e : Event). IsNew plan (sent_bytes plan seal.older e) seal.ds d p) is seal.new) trusted reads spans)

-- ---- a trusted response

-- how an interface stands to a trusted request on a stream, under a draw
pub record InRunOn (x : InterfaceStatus) (stream draw : ℕ) : Type 0 where
  pub runs : is_in_run x.state ≡ true
  pub floor : ℕ
  pub bound : floor_on stream x.bound ≡ Some floor
  pub from_floor : floor ≤ draw

pub trusted_means : (x : InterfaceStatus) (range : _) (stream draw : ℕ) → access_cause x range true stream draw ≡ None
    → InRunOn x stream draw
trusted_means x range stream draw is = by (is_in_run x.state) (floor_on stream x.bound) refl refl is
  where
    by_floor : (floor : ℕ) (b : Bool) → nat_lt draw floor ≡ b → (if b then Some blocks.Stale else None) ≡ None
        → floor ≤ draw
    by_floor floor true less none = absurd cc
    by_floor floor false less none = grind (arith, nat_tests, less)

    by : (b : Bool) (o : Option ℕ) → is_in_run x.state ≡ b → floor_on stream x.bound ≡ o
        → (if b then floor_cause o draw else Some blocks.NotRunning) ≡ None → InRunOn x stream draw
    by false o runs bound none = absurd cc
    by true None runs bound none = absurd cc
    by true (Some floor) runs bound none = record
        { runs = runs; floor = floor; bound = bound; from_floor = by_floor floor (nat_lt draw floor) refl none }

pub claim_place : (c : Claim) (target : ReadTarget) → is_same_target (claimed_target c) target ≡ true
    → c.interface ≡ target.interface
claim_place c target same =
    eqb-true c.interface target.interface (and_parts (c.interface == target.interface) (c.bar == target.bar) same).0

-- the claim's interface is the target's
pub claim_stands : (plan : Plan) (h : History) (link : ℕ) (ds : List SealedPacket) (is : Responded plan h link ds)
    → is.claim.status ≡ device_status plan h is.interface
claim_stands plan h link ds is =
    let at = (claimed (history_statuses plan h link) is.read.read.span is.claim is.judged.claimed).interface in
    let there : slice_get (history_statuses plan h link) is.claim.interface
    ≡ Some (device_status plan h is.interface) =
    ap (slice_get (history_statuses plan h link)) (claim_place is.claim is.target is.judged.same)
    ∙ slice_get-map (device_status plan h) (link_sites plan link) is.target.interface
    ∙ ap (option_map (device_status plan h)) is.placed in
    some_status (sym at ∙ there)
  where
    some_status : {x y : InterfaceStatus} → Some x ≡ Some y → x ≡ y
    some_status is = cc (is)

-- before a trusted one that interface is in RUN, and bound to the stream by a floor up to the read's draw
pub record TrustedFor (plan : Plan) (h : History) (x : Site) (stream draw : ℕ) : Type 0 where
  pub runs : runs_at plan h x ≡ true
  pub floor : ℕ
  pub bound : floor_on stream (all_bindings (device_floor plan h x) (interface_at plan h x)) ≡ Some floor
  pub from_floor : floor ≤ draw

pub trusted_response : (plan : Plan) (h : History) (link : ℕ) (ds : List SealedPacket) (is : Responded plan h link ds)
    → is.read.came.trusted ≡ true → TrustedFor plan h is.interface is.read.came.stream is.read.came.draw
trusted_response plan h link ds is trusted =
    let free = subst (λ (t : Bool). access_cause is.claim.status is.claim.range t is.read.came.stream is.read.came.draw
    ≡ None) trusted is.judged.free in
    let run = subst (λ (x : InterfaceStatus). InRunOn x is.read.came.stream is.read.came.draw)
    (claim_stands plan h link ds is)
    (trusted_means is.claim.status is.claim.range is.read.came.stream is.read.came.draw free) in
    record {
      runs = run_state (interface_at plan h is.interface).state run.runs;
      floor = run.floor;
      bound = run.bound;
      from_floor = run.from_floor;
    }

-- What a response seals is the completion of the oldest read that waits.
use Rattle.std.specs.Prelude.{◌*◌}
use Rattle.spec_links.proofs.Terms.{◌≡◌, ℕ, ◌+◌, ◌-◌, ◌≤◌, ◌==◌, ◌&&◌, zero, suc, Bool, true, false, List, []}
use Rattle.spec_links.proofs.Terms.{◌∷◌, ◌++◌, length, slice_get, Option, Some, None, Result, Ok, Err, refl, ap, sym}
use Rattle.spec_links.proofs.Terms.{subst, ◌∙◌, arith, nat_tests, nat_le, not, if◌then◌else◌, Plan, History, ◌||◌}
use Rattle.spec_links.proofs.Terms.{Event, Verdict, Sealed, SealedPacket, Packet, CauseLaw, Access, has_link, base}
use Rattle.spec_links.proofs.Terms.{WaitingRead, sent_bytes, lanes_at, Lanes, Sending, live_key}
use Rattle.spec_links.proofs.Terms.{lane_out, is_before, refusals, described_seal, sealed_with_syncs}
use Rattle.spec_links.proofs.Terms.{ahead_of_packet, with_sealed, sub_stream_of}
use Rattle.spec_links.proofs.Terms.{Cpl, ends_unit, sets_trusted}
unfoldable use Rattle.spec_links.proofs.Terms.{due, sealed_packets, packet_of}
use Rattle.law_reads.proofs.Responses.{RespondedBy, SealedAsCame, responded_by}
use Rattle.std.specs.Option.{option_map_or}
use Rattle.std.specs.Prelude.{slice_index}
use Rattle.std.proofs.lemmas.Bool.{true≢false}
use Rattle.ide_types.specs.Ports.{device_port}
use Rattle.ide_types.specs.declared.interface.BarPlan.{BarPlan}
use Rattle.ide_types.specs.declared.interface.InterfacePlan.{InterfacePlan}
use Rattle.interface_state.specs.Bars.{bars_of, bar_moved}
use Rattle.interface_state.specs.declared.register_set.Registers.{Registers}
use Rattle.tlp_layout.specs.Class.{class_of}
use Rattle.tlp_layout.proofs.Readings.{read_spells_tlp}
use Rattle.tlp_layout.specs.declared.head.HeadView.{HeadView}
use Rattle.tlp_layout.specs.declared.head.Lead.{Lead}
use Rattle.tlp_layout.specs.declared.head.Fields.{Fields}
use Rattle.tlp_layout.specs.declared.head.Fields.TheVariants.{Memory, Config, Message, Completion}
use Rattle.trusted_memory.specs.Spans.{span_of_fields, double_words, span_byte_count}
use Rattle.trusted_memory.specs.Requests.{read_with}
use Rattle.guarded_memory.specs.Claims.{holds_span}
use Rattle.guarded_memory.specs.Causes.{access_cause}
use Rattle.guarded_memory.specs.Contents.{page_counts, fits_range}
use Rattle.guarded_memory.specs.DeviceReads.{claimed_target, is_same_target}
use Rattle.guarded_memory.proofs.Claimed.{claimed}
use Rattle.spec_interfaces.specs.{byte_shown}
use Rattle.spec_interfaces.specs.Sites.{Site, site_at}
use Rattle.spec_interfaces.specs.Devices.{interface_at}
use Rattle.spec_interfaces.specs.Floors.{place_of, device_status}
use Rattle.spec_interfaces.proofs.Locks.{layout_at}
use Rattle.spec_links.specs.Guarded.{link_happenings}
use Rattle.spec_links.specs.Memory.{queued_reads}
use Rattle.spec_links.specs.Sent.{reads_taken, claim_completion, completer_on}
use Rattle.spec_links.specs.Due.{response_sent, response_judged}
use Rattle.spec_links.specs.Terms.{Claim, claim_of, claimed_byte, judged_claim, least_draw, ReadArrival, ReadTarget}
use Rattle.spec_links.specs.Terms.{history_statuses, site_on, read_of, Tlp, TlpFault, header, body, MemReadView}
use Rattle.spec_links.specs.Terms.{memory_read, bytes_from, encrypted_bytes, masked_bytes, iv_of, InterfaceStatus}
use Rattle.spec_links.specs.Plan.{key_of}
use Rattle.spec_links.specs.Due.{draw_of}
unfoldable use Rattle.spec_links.specs.Terms.{completion_bytes}
use Rattle.event_verdicts.specs.declared.verdict.BlockCause.{BlockCause}
use Rattle.ide_types.specs.declared.verdict.InterfaceVerdict.TheVariants as iv
use Rattle.script_events.specs.declared.event.AccessEvent.TheVariants as ae
use Rattle.event_verdicts.specs.declared.access.AccessVerdict.TheVariants as av
use Rattle.event_verdicts.specs.declared.verdict.Verdict.TheVariants as v
use Rattle.law_reads.proofs.Oldest.{first_means, response_bytes_are}
use Rattle.law_reads.proofs.Order.{reads_in_order}
use Rattle.law_memory.proofs.Completions.{completion_class}
use Rattle.law_memory.proofs.Packets.{first_is}
use Rattle.law_device_reads.specs.Oldest.{IsOldestAtDevice, Shows}
use Rattle.law_device_reads.specs.DeviceReads.{SealsTlp, IsResponse, IsResponseDropped, RespondsToOldest, DeviceReadLaw}
use Rattle.law_device_reads.specs.DeviceReads.{unit_before}
use Rattle.law_device_reads.proofs.Oldest.{is_judged, claimed_by, is_queued_read}
use Rattle.law_device_reads.proofs.Oldest.{site_there, same_parts, one_of}

-- ---- a claim of its interface and BAR

-- the claim that now has the bytes of the oldest read is of that interface and BAR
pub record IsClaimedNow (plan : Plan) (h : History) (link : ℕ) (of : IsOldestAtDevice plan h link) (c : Claim)
    : Type 0 where
  pub claims : claim_of (history_statuses plan h link) of.read.read.span ≡ Some c
  pub interface_is : c.interface ≡ of.target.interface
  pub bar_is : c.bar ≡ of.target.bar
  pub status_is : c.status ≡ device_status plan h of.interface
  pub range_is : slice_get (bars_of of.interface.plan (interface_at plan h of.interface).registers) of.target.bar
      ≡ Some c.range
  pub holds : holds_span c.range of.read.read.span ≡ true

pub claimed_now : (plan : Plan) (h : History) (link : ℕ) (of : IsOldestAtDevice plan h link) (c : Claim)
    → claim_of (history_statuses plan h link) of.read.read.span ≡ Some c
    → is_same_target (claimed_target c) of.target ≡ true → IsClaimedNow plan h link of c
claimed_now plan h link of c claims same =
    let parts = same_parts c.interface of.target.interface c.bar of.target.bar same in
    let by = claimed_by plan h link of.read.read.span c claims in
    let site : by.interface ≡ of.interface =
    one_of (site_on plan link of.target.interface) by.interface of.interface
    (ap (site_on plan link) (sym parts.0) ∙ by.known) of.known in
    let status : c.status ≡ device_status plan h of.interface = by.stands ∙ ap (device_status plan h) site in
    let is = claimed (history_statuses plan h link) of.read.read.span c claims in
    let bars : c.status.bars ≡ bars_of of.interface.plan (interface_at plan h of.interface).registers =
    ap (λ (x : InterfaceStatus). x.bars) status
    ∙ ap (λ (p : InterfacePlan). bars_of p (interface_at plan h of.interface).registers) (layout_at plan h of.interface)
    in
    record {
      claims = claims;
      interface_is = parts.0;
      bar_is = parts.1;
      status_is = status;
      range_is = (λ i. slice_get (sym bars i) (sym parts.1 i)) ∙ is.bar;
      holds = is.holds;
    }

-- ---- what the verdict tells

-- it is sealed under the claim that stands, which nothing blocks, and not under an older key
pub record IsKept (plan : Plan) (h : History) (link : ℕ) (of : IsOldestAtDevice plan h link) (ds : List SealedPacket)
    : Type 0 where
  pub has : has_link plan link ≡ true
  pub claim : Claim
  pub now : IsClaimedNow plan h link of claim
  pub allowed : access_cause claim.status claim.range of.read.came.trusted of.read.came.stream of.read.came.draw ≡ None
  pub key : is_before (live_key h of.read.came.end (lane_out of.read.came.end of.read.came.stream Cpl))
      (least_draw claim of.read.came) ≡ false
  pub sealed : SealedAsCame plan h of.read.came (sent_bytes plan h (Access (ae.Respond link))) ds

-- whatever is known of the oldest read
pub kept_for : (plan : Plan) (h : History) (link : ℕ) (ds : List SealedPacket) → RespondedBy plan h link ds
    → (of : IsOldestAtDevice plan h link) → IsKept plan h link of ds
kept_for plan h link ds by of =
    let bytes = sent_bytes plan h (Access (ae.Respond link)) in
    let c = by.claim in
    let same : by.read ≡ of.read =
    one_of (slice_get (queued_reads plan h (device_port link)) (reads_taken h (device_port link))) by.read of.read
    by.oldest of.oldest in
    let target : by.target ≡ of.target = one_of of.read.target by.target of.target
    (sym (ap (λ (r : WaitingRead). r.target) same) ∙ by.of_target) of.of_target in
    let claims = subst (λ (r : WaitingRead). claim_of (history_statuses plan h link) r.read.span ≡ Some c) same
    by.claims
    in
    record {
      has = by.known_link;
      claim = c;
      now = claimed_now plan h link of c claims
          (subst (λ (t : ReadTarget). is_same_target (claimed_target c) t ≡ true) target by.same);
      allowed = subst (λ (r : WaitingRead).
          access_cause c.status c.range r.came.trusted r.came.stream r.came.draw ≡ None) same by.allowed;
      key = subst (λ (r : WaitingRead).
          is_before (live_key h r.came.end (lane_out r.came.end r.came.stream Cpl)) (least_draw c r.came) ≡ false)
          same by.in_time;
      sealed = subst (λ (r : WaitingRead). SealedAsCame plan h r.came bytes ds) same by.sealed;
    }

-- the oldest read that it answers
pub oldest_of : (plan : Plan) (h : History) (link : ℕ) (ds : List SealedPacket) → RespondedBy plan h link ds
    → IsOldestAtDevice plan h link
oldest_of plan h link ds by =
    let site = site_there plan link by.target.interface by.interface by.known in
    record {
      read = by.read;
      oldest = by.oldest;
      target = by.target;
      of_target = by.of_target;
      interface = by.interface;
      known = by.known;
      numbered = site.numbered;
      link_is = site.link_is;
    }

-- ---- its bytes

completer_is : (plan : Plan) (link place : ℕ) (o : Option Site) (x : Site) → site_on plan link place ≡ o → o ≡ Some x
    → completer_on plan link place ≡ x.plan.requester
completer_is plan link place o x is at =
    ap (λ (p : Option Site). option_map_or (λ (y : Site). y.plan.requester) p 0) (is ∙ at)

-- the byte that stands behind the address
abbrev pub byte_behind : Plan → History → ℕ → Claim → ℕ → ℕ
byte_behind plan h link c a = claimed_byte (byte_shown (link_happenings plan h link)) c a

pub bytes_are : (plan : Plan) (h : History) → CauseLaw plan h
    → (link : ℕ) (of : IsOldestAtDevice plan h link) (c : Claim)
    → IsClaimedNow plan h link of c → sent_bytes plan h (Access (ae.Respond link))
    ≡ completion_bytes of.interface.plan.requester (byte_behind plan h link c) of.read.read
bytes_are plan h cause link of c now =
    let happened = link_happenings plan h link in
    let known : site_on plan link c.interface ≡ Some of.interface =
    ap (site_on plan link) now.interface_is ∙ of.known in
    response_bytes_are plan h link of.read cause of.oldest
    ∙ (ap (claim_completion plan link happened of.read.read) now.claims
    ∙ ap (λ (id : ℕ). completion_bytes id (byte_behind plan h link c) of.read.read)
    (completer_is plan link c.interface (Some of.interface) of.interface known refl))

-- ---- what `mmio` shows of them

moved_pages : (base : ℕ) (o : Option BarPlan) (range : BarPlan) → Some (bar_moved base o) ≡ Some range
    → option_map_or (λ (bar : BarPlan). bar.pages) o 0 ≡ range.pages
moved_pages base None range is = ap (λ (p : Option BarPlan). option_map_or (λ (bar : BarPlan). bar.pages) p 0) is
moved_pages base (Some bar) range is = ap
    (λ (p : Option BarPlan). option_map_or (λ (b : BarPlan). b.pages) p 0) is

-- a BAR that moves keeps its pages
pages_at : (p : InterfacePlan) (r : Registers) (bar : ℕ) (range : BarPlan) → slice_get (bars_of p r) bar ≡ Some range
    → slice_index (page_counts p) bar ≡ range.pages
pages_at p r zero range is = moved_pages (slice_index r.bars 0) (slice_get p.bars 0) range is
pages_at p r (suc zero) range is = moved_pages (slice_index r.bars 1) (slice_get p.bars 1) range is
pages_at p r (suc (suc zero)) range is = moved_pages (slice_index r.bars 2) (slice_get p.bars 2) range is
pages_at p r (suc (suc (suc zero))) range is = moved_pages (slice_index r.bars 3) (slice_get p.bars 3) range is
pages_at p r (suc (suc (suc (suc zero)))) range is = moved_pages (slice_index r.bars 4) (slice_get p.bars 4) range is
pages_at p r (suc (suc (suc (suc (suc zero))))) range is =
    moved_pages (slice_index r.bars 5) (slice_get p.bars 5) range is
pages_at p r (suc (suc (suc (suc (suc (suc n)))))) range is = absurd cc

pub some_words : (n : ℕ) → 1 ≤ (if n == 0 then 1024 else n)
some_words n = grind (arith, nat_tests)

-- a memory read names a double word at least
read_long : (head : HeadView) (r : MemReadView) → memory_read head ≡ Some r → 1 ≤ r.span.length
read_long head r is = by head.has_payload head.lead head.fields is
  where
    by : (has : Bool) (lead : Lead) (fields : Fields)
        → (if has then None else read_with lead fields (span_of_fields head.lead.length fields)) ≡ Some r
        → 1 ≤ r.span.length
    by true lead fields is = absurd cc
    by false lead (Memory f) is =
        let same : double_words head.lead.length ≡ r.span.length =
        ap (λ (o : Option MemReadView). option_map_or (λ (m : MemReadView). m.span.length) o 0) is in
        subst (λ (n : ℕ). 1 ≤ n) same (some_words head.lead.length)
    by false lead (Config f) is = absurd cc
    by false lead (Message f) is = absurd cc
    by false lead (Completion f) is = absurd cc

fits_there : (start address n pages : ℕ) → (nat_le start address && nat_le (address + n) (start + 4096 * pages)) ≡ true
    → 1 ≤ n → fits_range (4096 * pages) (address - start) n ≡ true
fits_there start address n pages holds least = grind (arith, nat_tests, holds, least)

-- bytes by their addresses and by their offsets
moved_bytes : (f : ℕ → ℕ) (start offset at n : ℕ) → at ≡ start + offset
    → bytes_from (λ a. f (a - start)) at n ≡ bytes_from f offset n
moved_bytes f start offset at zero is = refl
moved_bytes f start offset at (suc n) is =
    let here : at - start ≡ offset = omega (arith, is) in
    let next : at + 1 ≡ start + (offset + 1) = omega (arith, is) in
    (λ i. f (here i) ∷ moved_bytes f start (offset + 1) (at + 1) n next i)

mmio_is : (plan : Plan) (h : History) (x : Site) (bar offset n : ℕ) → site_at plan x.number ≡ Some x
    → fits_range (4096 * slice_index (page_counts x.plan) bar) offset n ≡ true
    → due plan h (Access (ae.Mmio x.number bar offset n))
    ≡ v.Access (av.Mmio (bytes_from (byte_shown (link_happenings plan h x.link) (place_of plan x) bar) offset n))
unfolding due
mmio_is plan h x bar offset n known fits = rw (known, fits) refl

shows : (plan : Plan) (h : History) → CauseLaw plan h → (link : ℕ) → has_link plan link ≡ true
    → (of : IsOldestAtDevice plan h link) (c : Claim) → IsClaimedNow plan h link of c → Shows plan h link of
shows plan h cause link has of c now =
    let s = of.read.read.span in
    let x = of.interface in
    let q = is_queued_read plan h cause link has (reads_taken h (device_port link)) of.read of.oldest in
    let long = read_long q.by.at.head of.read.read q.by.at.is_read in
    let pages = pages_at x.plan (interface_at plan h x).registers of.target.bar c.range now.range_is in
    let most : 1 ≤ span_byte_count s = omega (arith, long) in
    let fits = fits_there c.range.base s.address (span_byte_count s) c.range.pages now.holds most in
    let start = least_of c.range.base s.address _ now.holds in
    let offset = s.address - c.range.base in
    let site = site_there plan link of.target.interface x of.known in
    let there : s.address ≡ c.range.base + offset = omega (arith, start) in
    record {
      range = c.range;
      stands = now.range_is;
      from = start;
      byte = byte_behind plan h link c;
      shown = mmio_is plan h x of.target.bar offset (span_byte_count s) of.numbered
          (ap (λ (n : ℕ). fits_range (4096 * n) offset (span_byte_count s)) pages ∙ fits)
          ∙ ((λ i. v.Access (av.Mmio (bytes_from (byte_shown (link_happenings plan h (of.link_is i))
          ((site.place_is ∙ sym now.interface_is) i) (sym now.bar_is i)) offset (span_byte_count s))))
          ∙ ap (λ (bs : List ℕ). v.Access (av.Mmio bs))
          (sym (moved_bytes (byte_shown (link_happenings plan h link) c.interface c.bar) c.range.base offset s.address
          (span_byte_count s) there)));
    }
  where
    least_of : (start address : ℕ) (b : Bool) → (nat_le start address && b) ≡ true → start ≤ address
    least_of start address b is = grind (arith, nat_tests, is)

-- ---- its packet

completion_list : (x : Lanes) (s : Sending) (number : ℕ) → s.class ≡ Cpl → sealed_with_syncs x s number
    ≡ described_seal x s Cpl (number + 0 + 0) (ends_unit x s) (sets_trusted s.port s.trusted) false ∷ []
completion_list x s number class = rw class refl

-- the one that carries it
pub record IsCompletionPacket (plan : Plan) (h : History) (came : ReadArrival) (ds : List SealedPacket) : Type 0 where
  pub packet : SealedPacket
  pub alone : ds ≡ packet ∷ []
  pub no_sync : packet.sync ≡ false
  pub ends : packet.m ≡ true
  pub sub_is : packet.sub ≡ Cpl
  pub t_is : packet.t ≡ came.trusted
  pub port_is : packet.port ≡ came.end
  pub stream_is : packet.stream ≡ came.stream

pub completion_packet : (plan : Plan) (h : History) (came : ReadArrival) (bytes : List ℕ) (ds : List SealedPacket)
    (came_so : SealedAsCame plan h came bytes ds) → class_of (header came_so.sealing.tlp) ≡ Cpl
    → IsCompletionPacket plan h came ds
completion_packet plan h came bytes ds came_so class =
    let is = came_so.sealing in
    let s = is.sending in
    let x = lanes_at plan h s.port s.stream in
    record {
      packet = described_seal x s Cpl (is.number + 0 + 0) (ends_unit x s) (sets_trusted s.port s.trusted) false;
      alone = is.list ∙ completion_list x s is.number (is.class ∙ class);
      no_sync = refl;
      ends = ap (λ (b : Bool). not b || (length (x.lane s.class).unfinished + 1 == x.aggregation)) came_so.alone;
      sub_is = refl;
      t_is = came_so.with_t;
      port_is = is.at_port;
      stream_is = came_so.on_stream;
    }

tlp_is : (plan : Plan) (ahead bytes : List ℕ) (d : SealedPacket) (unfinished : List Packet) (t : Tlp) → d.sync ≡ false
    → read_of bytes ≡ Ok t → (packet_of plan ahead bytes d unfinished).head ++ body t ≡ bytes
unfolding packet_of
tlp_is plan ahead bytes d unfinished t sync reads =
    rw (sync, reads) (sym ((read_spells_tlp t bytes).1 reads).spelled)

body_is : (plan : Plan) (ahead bytes : List ℕ) (d : SealedPacket) (unfinished : List Packet) (t : Tlp) → d.sync ≡ false
    → read_of bytes ≡ Ok t → (packet_of plan ahead bytes d unfinished).body
    ≡ masked_bytes (key_of plan d.draw (sub_stream_of d)) (iv_of d.sub d.unit) (length (encrypted_bytes unfinished))
    (body t)
unfolding packet_of
body_is plan ahead bytes d unfinished t sync reads = rw (sync, reads) refl

stands_behind : (plan : Plan) (h : History) (e : Event) (ds : List SealedPacket) (d : SealedPacket) → ds ≡ d ∷ []
    → sealed_packets plan ((e, Sealed ds) ∷ h) ≡ sealed_packets plan h
    ++ (
      d,
      packet_of plan (ahead_of_packet plan (sealed_packets plan h) (base h) d) (sent_bytes plan h e) d
          (unit_before plan h d),
    ) ∷ []
unfolding sealed_packets
stands_behind plan h e ds d is = ap (λ (es : List SealedPacket). with_sealed plan
    (ahead_of_packet plan (sealed_packets plan h) (base h)) (sent_bytes plan h e) es (sealed_packets plan h)) is

seals_tlp : (plan : Plan) (h : History) (e : Event) (ds : List SealedPacket) (d : SealedPacket) (bytes : List ℕ)
    (t : Tlp) → ds ≡ d ∷ [] → d.sync ≡ false → d.m ≡ true → sent_bytes plan h e ≡ bytes
    → read_of (sent_bytes plan h e) ≡ Ok t → SealsTlp plan h e ds bytes
seals_tlp plan h e ds d bytes t one sync ends is reads =
    let ahead = ahead_of_packet plan (sealed_packets plan h) (base h) d in
    record {
      last = d;
      alone = one;
      no_sync = sync;
      ends_unit = ends;
      packet = packet_of plan ahead (sent_bytes plan h e) d (unit_before plan h d);
      stands = stands_behind plan h e ds d one;
      payload = body t;
      tlp = tlp_is plan ahead (sent_bytes plan h e) d (unit_before plan h d) t sync reads ∙ is;
      body_is = body_is plan ahead (sent_bytes plan h e) d (unit_before plan h d) t sync reads;
    }

-- ---- sealed

responded : (plan : Plan) (h : History) (link : ℕ) (ds : List SealedPacket) → CauseLaw plan h
    → (of : IsOldestAtDevice plan h link) → IsKept plan h link of ds → IsResponse plan h link ds
unfolding shows seals_tlp
responded plan h link ds cause of kept =
    let came = of.read.came in
    let tlp = kept.sealed.sealing.tlp in
    let reads = kept.sealed.sealing.reads in
    let bytes = bytes_are plan h cause link of kept.claim kept.now in
    let class = completion_class of.interface.plan.requester (byte_behind plan h link kept.claim) of.read.read tlp
    (sym (ap read_of bytes) ∙ reads) in
    let one = completion_packet plan h came (sent_bytes plan h (Access (ae.Respond link))) ds kept.sealed class in
    record {
      of = of;
      shows = shows plan h cause link kept.has of kept.claim kept.now;
      sealed = seals_tlp plan h (Access (ae.Respond link)) ds one.packet _ tlp one.alone one.no_sync one.ends bytes
          reads;
      is_completion = one.sub_is;
      t_is = one.t_is;
      end_is = one.port_is;
      stream_is = one.stream_is;
    }

-- ---- dropped

abbrev is_dropped : Verdict → Bool
is_dropped (v.Access (av.Dropped i c)) = true
is_dropped w = false

-- nothing that a send comes to
response_drops_none : (plan : Plan) (h : History) (came : ReadArrival) (i : ℕ) (c : BlockCause)
    (r : Result Tlp TlpFault) → v.Access (av.Dropped i c) ≡ response_sent plan h came r → ⊥
response_drops_none plan h came i c (Err f) is = absurd cc
response_drops_none plan h came i c (Ok tlp) is =
    true≢false (ap is_dropped is
    ∙ first_is (λ w. is_dropped w ≡ false) (refusals (lanes_at plan h came.end came.stream) (class_of (header tlp))) _
    (refl, (refl, (refl, (refl, (refl, (refl, (refl, (refl, tt)))))))) refl)

dropped_number : (plan : Plan) (h : History) (came : ReadArrival) (n i : ℕ) (c : BlockCause) (r : Result Tlp TlpFault)
    (o : Result Claim BlockCause) → v.Access (av.Dropped i c) ≡ response_judged plan h came n r o → n ≡ i
dropped_number plan h came n i c r (Err cause) is = cc (is)
dropped_number plan h came n i c r (Ok claim) is =
    by (is_before (live_key h came.end (lane_out came.end came.stream Cpl)) (least_draw claim came)) is
  where
    by : (b : Bool) → v.Access (av.Dropped i c) ≡ (if b then v.Interface (iv.RefusedRefreshFirst
        (draw_of (live_key h came.end (lane_out came.end came.stream Cpl))) (least_draw claim came))
        else response_sent plan h came r) → n ≡ i
    by true is = absurd cc
    by false is = absurd (response_drops_none plan h came i c r is)

dropped : (plan : Plan) (h : History) (link i : ℕ) (c : BlockCause) → CauseLaw plan h
    → v.Access (av.Dropped i c) ≡ due plan h (Access (ae.Respond link)) → IsResponseDropped plan h link i
unfolding due
dropped plan h link i c cause is =
    let w = v.Access (av.Dropped i c) in
    let first = first_means plan h (device_port link) _ w refl is in
    let judged = is_judged plan h cause link first.known first.read first.oldest w first.is in
    record {
      of = judged.of;
      number = dropped_number plan h judged.of.read.came judged.of.interface.number i c
          (read_of (sent_bytes plan h (Access (ae.Respond link))))
          (judged_claim (claim_of (history_statuses plan h link) judged.of.read.read.span) judged.of.target
          judged.of.read.came) judged.is;
    }

-- ---- the law

responds : (plan : Plan) (h : History) (e : Event) (w : Verdict) → CauseLaw plan h → w ≡ due plan h e
    → RespondsToOldest plan h e w
responds plan h (Access (ae.Respond link)) (Sealed ds) cause is =
    let by = responded_by plan h link ds is in
    let of = oldest_of plan h link ds by in
    responded plan h link ds cause of (kept_for plan h link ds by of)
responds plan h (Access (ae.Respond link)) (v.Access (av.Dropped i c)) cause is = dropped plan h link i c cause is
responds plan h e w cause is = tt

pub device_read_law : (plan : Plan) (h : History) → CauseLaw plan h → DeviceReadLaw plan h
device_read_law plan [] cause = tt
device_read_law plan ((e, w) ∷ h) cause =
    let order = reads_in_order plan ((e, w) ∷ h) cause in
    (responds plan h e w cause.1 cause.0, order.0, order.1, device_read_law plan h cause.1)

-- An answer is the completion of its read.
use Rattle.std.proofs.Common.{◌≡◌, ℕ, ◌+◌, Bool, true, false, List, [], ◌∷◌, ◌++◌, length, Ok, Some, refl, ap, sym, ◌∙◌}
use Rattle.std.specs.Prelude.{unwrap_or}
use Rattle.spec_links.proofs.Terms.{Plan, History, Event, Verdict, Sealed, SealedPacket, SealedList, Packet, PortName}
use Rattle.ide_types.specs.Ports.{host_port}
use Rattle.spec_links.proofs.Terms.{sent_bytes, with_sealed, ahead_of_packet, open_unit}
use Rattle.spec_links.proofs.Terms.{sub_stream_packets, sub_stream_of, base, lanes_at, Sending, Lanes, described_seal}
use Rattle.spec_links.proofs.Terms.{ends_unit, sets_trusted, CauseLaw, Npr, Cpl, sealed_with_syncs, Access}
use Rattle.spec_links.proofs.Terms.{outgoing_completion, site_of_requester, granted_to}
use Rattle.spec_links.specs.Terms.{header, Tlp, read_of, masked_bytes, iv_of, body}
use Rattle.tlp_layout.specs.Class.{class_of}
use Rattle.tlp_layout.specs.Head.{head_bytes}
use Rattle.std.specs.List.{AllByRecursion}
unfoldable use Rattle.spec_links.proofs.Terms.{due, sealed_packets, packet_of}
use Rattle.spec_links.specs.Plan.{key_of}
use Rattle.spec_links.specs.Due.{send_due, t_sealed, first_that_holds, refusals, sync_before}
use Rattle.tlp_layout.specs.Outgoing.{Outgoing, NoTlp, OnNone, OnStream}
use Rattle.tlp_layout.proofs.Readings.{read_spells_tlp}
use Rattle.ide_prefix.specs.Units.{encrypted_bytes}
use Rattle.law_locks.proofs.{draws, first_means, owned_means, read_law, under_means}
use Rattle.law_locks.specs.{IsReadAnswered}
use Rattle.law_verdicts.specs.Answers.{SealsCompletion, AnswersWhole}
use Rattle.script_events.specs.declared.event.AccessEvent.TheVariants as ae

-- ---- the last that is sealed

with_last : (plan : Plan) (ahead : SealedPacket → List ℕ) (bytes : List ℕ) (ds : List SealedPacket) (d : SealedPacket)
    (before : SealedList) → with_sealed plan ahead bytes (ds ++ d ∷ []) before ≡ with_sealed plan ahead bytes ds before
    ++ (
      d,
      packet_of plan (ahead d) bytes d
          (open_unit (sub_stream_packets (with_sealed plan ahead bytes ds before) (sub_stream_of d) d.draw)),
    ) ∷ []
with_last plan ahead bytes [] d before = refl
with_last plan ahead bytes (x ∷ ds) d before = with_last plan ahead bytes ds d _

-- The packets of a send that ends its unit, the last apart.
record EndsSo (ds : List SealedPacket) : Type 0 where
  ahead : List SealedPacket
  last : SealedPacket
  ends : ds ≡ ahead ++ last ∷ []
  no_sync : last.sync ≡ false
  ends_unit : last.m ≡ true

ends_so : (x : Lanes) (s : Sending) (number : ℕ) (ds : List SealedPacket) → s.more ≡ false
    → ds ≡ sealed_with_syncs x s number → EndsSo ds
ends_so x s number ds whole is =
    let first = sync_before x s Npr number in
    let second = sync_before x s Cpl (number + length first) in
    let d = described_seal x s s.class (number + length first + length second) (ends_unit x s)
    (sets_trusted s.port s.trusted) false in
    record {
      ahead = first ++ second;
      last = d;
      ends = is;
      no_sync = refl;
      ends_unit = rw whole refl;
    }

same_list : (ds xs : List SealedPacket) → Sealed ds ≡ Sealed xs → ds ≡ xs
same_list ds xs is = cc (is)

-- so is each verdict that seals
abbrev Ends : Verdict → Type 0
Ends w = (ds : List SealedPacket) → Sealed ds ≡ w → EndsSo ds

first_ends : (xs : List (Bool × Verdict)) (last : Verdict) → AllByRecursion (λ (x : Bool × Verdict). Ends x.1) xs
    → Ends last → Ends (unwrap_or (first_that_holds xs) last)
first_ends [] last all ends = ends
first_ends ((true, w) ∷ xs) last all ends = all.0
first_ends ((false, w) ∷ xs) last all ends = first_ends xs last all.1 ends

send_ends : (plan : Plan) (h : History) (port : PortName) (o : Outgoing) (trusted : Bool)
    → Ends (send_due plan h port o false trusted)
send_ends plan h port (NoTlp f) trusted = λ ds is. absurd cc
send_ends plan h port OnNone trusted = λ ds is. absurd cc
send_ends plan h port (OnStream t stream) trusted =
    let s : Sending = record {
      port = port;
      stream = stream;
      class = class_of (header t);
      more = false;
      trusted = t_sealed plan h port (header t) stream trusted;
    } in
    first_ends (refusals (lanes_at plan h port stream) (class_of (header t))) _ (
      λ ds is. absurd cc,
      (
        λ ds is. absurd cc,
        (
          λ ds is. absurd cc,
          (
            λ ds is. absurd cc,
            (
              λ ds is. absurd cc,
              (λ ds is. absurd cc, (λ ds is. absurd cc, (λ ds is. absurd cc, tt))),
            ),
          ),
        ),
      ),
    )
    (λ ds is. ends_so (lanes_at plan h port stream) s (length (sealed_packets plan h) + 1) ds refl
    (same_list ds (sealed_with_syncs (lanes_at plan h port stream) s (length (sealed_packets plan h) + 1)) is))

-- ---- its header and payload

pub head_is : (plan : Plan) (ahead bytes : List ℕ) (d : SealedPacket) (unfinished : List Packet) (t : Tlp)
    → d.sync ≡ false → read_of bytes ≡ Ok t → (packet_of plan ahead bytes d unfinished).head ≡ head_bytes (header t)
unfolding packet_of
head_is plan ahead bytes d unfinished t sync reads = rw (sync, reads) refl

pub body_is : (plan : Plan) (ahead bytes : List ℕ) (d : SealedPacket) (unfinished : List Packet) (t : Tlp)
    → d.sync ≡ false → read_of bytes ≡ Ok t → (packet_of plan ahead bytes d unfinished).body
    ≡ masked_bytes (key_of plan d.draw (sub_stream_of d)) (iv_of d.sub d.unit) (length (encrypted_bytes unfinished))
    (body t)
unfolding packet_of
body_is plan ahead bytes d unfinished t sync reads = rw (sync, reads) refl

-- ---- the pair

sealed_now : (plan : Plan) (h : History) (e : Event) (ds : List SealedPacket) → sealed_packets plan ((e, Sealed ds) ∷ h)
    ≡ with_sealed plan (ahead_of_packet plan (sealed_packets plan h) (base h)) (sent_bytes plan h e) ds
    (sealed_packets plan h)
unfolding sealed_packets
sealed_now plan h e ds = refl

completes : (plan : Plan) (h : History) (link : ℕ) (ds : List SealedPacket) → IsReadAnswered plan h link ds → EndsSo ds
    → SealsCompletion plan h link ds
completes plan h link ds answered end =
    let e = Access (ae.Answer link) in
    let bytes = sent_bytes plan h e in
    let ahead = ahead_of_packet plan (sealed_packets plan h) (base h) in
    let xs = sealed_packets plan h in
    let before = with_sealed plan ahead bytes end.ahead xs in
    let unfinished = open_unit (sub_stream_packets before (sub_stream_of end.last) end.last.draw) in
    let t = answered.tlp in
    let packet = packet_of plan (ahead end.last) bytes end.last unfinished in
    record {
      read = answered.of.read;
      oldest = answered.of.oldest;
      ahead = end.ahead;
      last = end.last;
      ends = end.ends;
      no_sync = end.no_sync;
      ends_unit = end.ends_unit;
      before = before;
      packet = packet;
      stands = sealed_now plan h e ds ∙ (ap (λ (zs : List SealedPacket). with_sealed plan ahead bytes zs xs) end.ends
          ∙ with_last plan ahead bytes end.ahead end.last xs);
      payload = body t;
      completion = ap (λ (bs : List ℕ). bs ++ body t)
          (head_is plan (ahead end.last) bytes end.last unfinished t end.no_sync answered.reads)
          ∙ (sym ((read_spells_tlp t bytes).1 answered.reads).spelled ∙ answered.bytes);
      offset = length (encrypted_bytes unfinished);
      body_is = body_is plan (ahead end.last) bytes end.last unfinished t end.no_sync answered.reads;
    }

-- an answer that sealed is a send without `more`
answer_ends : (plan : Plan) (h : History) (link : ℕ) (ds : List SealedPacket)
    → Sealed ds ≡ due plan h (Access (ae.Answer link)) → EndsSo ds
unfolding due
answer_ends plan h link ds is =
    let port = host_port link in
    let first = first_means plan h port _ (Sealed ds) refl is in
    let owned = owned_means plan h link (Sealed ds) first.read (site_of_requester plan link first.read.read.requester)
    refl refl
    first.is in
    let under = under_means plan h link ds owned.site first.read.came.draw (granted_to h (Some owned.site)) refl
    owned.is in
    send_ends plan h port (outgoing_completion plan h link) true ds under.sent

pub answers_whole : (plan : Plan) (h : History) (e : Event) (w : Verdict) → CauseLaw plan ((e, w) ∷ h)
    → AnswersWhole plan h e w
answers_whole plan h (Access (ae.Answer link)) (Sealed ds) cause = completes plan h link ds
    (read_law plan (draws plan) ((Access (ae.Answer link), Sealed ds) ∷ h) cause).0 (answer_ends plan h link ds cause.0)
answers_whole plan h e w cause = tt

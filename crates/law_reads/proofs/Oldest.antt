-- An answer that takes a read found one that waits, the oldest.
use Rattle.spec_links.proofs.Terms.{◌≡◌, ℕ, Bool, true, false, List, [], ◌∷◌, slice_get, Option, Some, refl, ap, sym}
use Rattle.spec_links.proofs.Terms.{◌∙◌, if◌then◌else◌, append-nil, Plan, History, Verdict, Sealed, CauseLaw, Access}
use Rattle.spec_links.proofs.Terms.{WaitingRead, waiting_reads, has_link, sealed_packets, sent_bytes, PortName}
use Rattle.spec_links.specs.Due.{first_answered, read_due}
use Rattle.ide_types.specs.Ports.{host_port, device_port}
use Rattle.spec_links.specs.Terms.{host_completer, claim_of, history_statuses}
use Rattle.spec_links.specs.Guarded.{link_happenings}
use Rattle.spec_interfaces.specs.{Happened}
unfoldable use Rattle.spec_links.proofs.Terms.{bytes_by}
use Rattle.std.specs.Option.{option_map_or}
use Rattle.std.proofs.lemmas.Bool.{true≢false}
use Rattle.spec_links.specs.Terms.{Write}
use Rattle.spec_links.specs.Memory.{queued_reads, writes}
use Rattle.spec_links.specs.Sent.{reads_taken, completion_at, claim_completion}
use Rattle.trusted_memory.specs.Writes.{byte_last_written}
use Rattle.trusted_memory.specs.Completions.{completion_bytes}
use Rattle.script_events.specs.declared.event.AccessEvent.TheVariants as ae
use Rattle.event_verdicts.specs.declared.access.AccessVerdict.TheVariants as av
use Rattle.event_verdicts.specs.declared.verdict.Verdict.TheVariants as v
use Rattle.spec_links.proofs.HopFirst.{drop_first}
use Rattle.law_reads.proofs.ByNumber.{writes_same, happenings_same}

-- it takes a read
abbrev pub takes : Verdict → Bool
takes (Sealed ds) = true
takes (v.Access (av.Dropped interface cause)) = true
takes _ = false

pub clash : (w x : Verdict) → takes w ≡ true → takes x ≡ false → w ≡ x → ⊥
clash w x a b is = true≢false (sym a ∙ ap takes is ∙ b)

-- the read that it takes at a port, and what it then comes to
pub record First (plan : Plan) (h : History) (port : PortName) (answer : WaitingRead → Verdict) (w : Verdict) : Type 0
  where
    pub known : has_link plan port.line ≡ true
    pub read : WaitingRead
    pub oldest : slice_get (queued_reads plan h port) (reads_taken h port) ≡ Some read
    pub is : w ≡ answer read

pub first_means : (plan : Plan) (h : History) (port : PortName) (answer : WaitingRead → Verdict) (w : Verdict)
    → takes w ≡ true → w ≡ read_due plan h port answer → First plan h port answer w
first_means plan h port answer w take is = by (has_link plan port.line) (waiting_reads plan h port) refl refl is
  where
    by : (b : Bool) (rs : List WaitingRead) → has_link plan port.line ≡ b → waiting_reads plan h port ≡ rs
        → w ≡ (if b then first_answered answer port.line rs else v.Nothing) → First plan h port answer w
    by false rs known waits is = absurd (clash w v.Nothing take refl is)
    by true [] known waits is = absurd (clash w (v.Access (av.Empty port.line)) take refl is)
    by true (r ∷ rs) known waits is = record {
      known = known;
      read = r;
      oldest = drop_first (reads_taken h port) (queued_reads plan h port) r rs waits;
      is = is;
    }

-- the bytes that an answer seals: the completion, from what the writes so far left in memory
pub bytes_are : (plan : Plan) (h : History) (link : ℕ) (read : WaitingRead) → CauseLaw plan h
    → slice_get (queued_reads plan h (host_port link)) (reads_taken h (host_port link)) ≡ Some read
    → sent_bytes plan h (Access (ae.Answer link))
    ≡ completion_bytes host_completer (byte_last_written (writes plan h)) read.read
unfolding bytes_by
bytes_are plan h link read cause oldest =
    ap (λ (o : Option WaitingRead). option_map_or
    (λ (r : WaitingRead). completion_at plan (sealed_packets plan h) h (host_port link) r.read) o
    [])
    oldest
    ∙ ap (λ (ws : List Write). completion_bytes host_completer (byte_last_written ws) read.read)
    (writes_same plan h cause (sealed_packets plan h) ([], append-nil (sealed_packets plan h)))

-- the bytes that a response seals: the completion, from what happened so far to the memory of its interface
pub response_bytes_are : (plan : Plan) (h : History) (link : ℕ) (read : WaitingRead) → CauseLaw plan h
    → slice_get (queued_reads plan h (device_port link)) (reads_taken h (device_port link)) ≡ Some read
    → sent_bytes plan h (Access (ae.Respond link))
    ≡ claim_completion plan link (link_happenings plan h link) read.read
    (claim_of (history_statuses plan h link) read.read.span)
unfolding bytes_by
response_bytes_are plan h link read cause oldest =
    ap (λ (o : Option WaitingRead). option_map_or
    (λ (r : WaitingRead). completion_at plan (sealed_packets plan h) h (device_port link) r.read) o
    [])
    oldest
    ∙ ap (λ (xs : List Happened). claim_completion plan link xs read.read
    (claim_of (history_statuses plan h link) read.read.span))
    (happenings_same plan h cause (sealed_packets plan h) ([], append-nil (sealed_packets plan h)) link)

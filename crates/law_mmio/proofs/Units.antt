-- What a unit stores in a range, by the packets' own causes and by the effects in the verdict.
use Rattle.spec_links.specs.Ports.{at_switch}
use Rattle.spec_links.specs.Admission.{switch_effect}
use Rattle.std.proofs.Common.{◌≡◌, ℕ, Bool, true, false, List, [], ◌∷◌, Option, Some, None, Result}
use Rattle.std.proofs.Common.{Ok, Err, length, if◌then◌else◌, refl, sym, ap, ◌∙◌, subst, zero, suc, arith}
use Rattle.std.specs.Prelude.{take, drop, slice_get}
use Rattle.std.specs.List.{cons_option}
use Rattle.std.specs.Option.{option_map}
use Rattle.spec_links.specs.Terms.{
  Plan,
  PortName,
  Effect,
  UnitName,
  Packet,
  is_sync_packet,
  read_head_of,
  TlpFault,
  Write,
}
use Rattle.spec_links.specs.Terms.{newest_first, write_span}
use Rattle.tlp_layout.specs.declared.head.HeadView.{HeadView}
use Rattle.spec_links.specs.Memory.{Policy, device_effect, effect_by, waiting_then, effects_each}
use Rattle.spec_links.specs.Guarded.{tlp_happened, stored_packet, stored_each}
use Rattle.trusted_memory.specs.declared.span.Span.{Span}
use Rattle.trusted_memory.specs.declared.read.MemReadView.{MemReadView}
use Rattle.trusted_memory.specs.Spans.{span_of}
use Rattle.trusted_memory.specs.Requests.{memory_read, read_with}
use Rattle.trusted_memory.specs.Waiting.{read_effect}
use Rattle.event_verdicts.specs.declared.verdict.BlockCause.{BlockCause}
use Rattle.event_verdicts.specs.declared.verdict.Effect.TheVariants as effect
use Rattle.guarded_memory.specs.declared.status.InterfaceStatus.{InterfaceStatus}
use Rattle.guarded_memory.specs.declared.claims.Claim.{Claim}
use Rattle.guarded_memory.specs.Claims.{claim_of}
use Rattle.guarded_memory.specs.Causes.{mmio_cause, cause_effect, claim_effect, mmio_effect, is_stored}
use Rattle.guarded_memory.specs.DeviceReads.{device_read_cause, claimed_read_effect, effect_by_device_read}
use Rattle.guarded_memory.specs.DeviceReads.{device_request_effect}
use Rattle.guarded_memory.specs.Happenings.{Happened, writes_since, newest_happened}
use Rattle.guarded_memory.specs.Stored.{stored_unless, stored_by_claim, write_happened}
use Rattle.law_mmio.specs.Stored.{write_read, if_claims, claimed_write, if_stored, unit_stored_writes}
use Rattle.ide_types.specs.Ports.{device_port}

-- ---- a read

-- is no write
pub read_writes_none : (head : HeadView) (r : MemReadView) → memory_read head ≡ Some r → write_span head ≡ None
read_writes_none head r is = by head.has_payload is
  where
    by : (b : Bool) → (if b then None else read_with head.lead head.fields (span_of head)) ≡ Some r
        → (if b then span_of head else None) ≡ None
    by true is = absurd cc
    by false is = refl

claimed_read_stays : (o : Option Claim) (s : Span) (t : Bool) (stream draw n : ℕ)
    → is_stored (claimed_read_effect o s t stream draw n) ≡ false
claimed_read_stays None s t stream draw n = refl
claimed_read_stays (Some c) s t stream draw n =
    by c.status.reads (device_read_cause c s t stream draw n)
  where
    by : (b : Bool) (o : Option BlockCause) → is_stored (if b then read_effect o else effect.Delivered) ≡ false
    by true None = refl
    by true (Some cause) = refl
    by false o = refl

-- so a TLP is stored exactly as the write that it is
pub stored_as_write : (xs : List InterfaceStatus) (t : Bool) (stream draw n : ℕ) (head : HeadView)
    → is_stored (device_request_effect xs t stream draw n head)
    ≡ is_stored (mmio_effect xs t stream draw (write_span head))
stored_as_write xs t stream draw n head = by (memory_read head) refl
  where
    by : (o : Option MemReadView) → memory_read head ≡ o
        → is_stored (effect_by_device_read xs t stream draw n o (mmio_effect xs t stream draw (write_span head)))
        ≡ is_stored (mmio_effect xs t stream draw (write_span head))
    by None is = refl
    by (Some r) is = claimed_read_stays (claim_of xs r.span) r.span t stream draw n
        ∙ sym (ap (λ (s : Option Span). is_stored (mmio_effect xs t stream draw s)) (read_writes_none head r is))

stored_is : (e : Effect) → is_stored e ≡ true → e ≡ effect.Stored
stored_is e is = grind arith

if_stored_same : (e f : Effect) (o : Option Write) → is_stored e ≡ is_stored f → if_stored e o ≡ if_stored f o
if_stored_same e f o same = by_test e ∙ ap (λ (b : Bool). if b then o else None) same ∙ sym (by_test f)
  where
    by_test : (e : Effect) → if_stored e o ≡ (if is_stored e then o else None)
    by_test e = grind arith

-- ---- one packet

-- the write that a happening stored in a range, if any
abbrev pub StoresAs : Option Happened → ℕ → ℕ → Option Write → Type 0
StoresAs h place bar o = (older : List Happened) → writes_since (cons_option h older) place bar
    ≡ cons_option o (writes_since older place bar)

by_cause : (c : Claim) (w : Write) (place bar : ℕ) (o : Option BlockCause) → StoresAs (stored_unless o c w) place bar
    (if_stored (cause_effect o) (if_claims place bar w (Some c)))
by_cause c w place bar None older = refl
by_cause c w place bar (Some cause) older = refl

by_claim : (o : Option Claim) (w : Write) (t : Bool) (stream draw place bar : ℕ)
    → StoresAs (stored_by_claim o w t stream draw) place bar
    (if_stored (claim_effect o w.span t stream draw) (if_claims place bar w o))
by_claim None w t stream draw place bar older = refl
by_claim (Some c) w t stream draw place bar older =
    by_cause c w place bar (mmio_cause c.status c.range w.span t stream draw) older

by_span : (xs : List InterfaceStatus) (t : Bool) (stream draw place bar : ℕ) (payload : List ℕ) (o : Option Span)
    → StoresAs (write_happened xs t stream draw (option_map (λ s. record { span = s; payload = payload }) o)) place bar
    (if_stored (mmio_effect xs t stream draw o)
    (claimed_write xs place bar (option_map (λ s. record { span = s; payload = payload }) o)))
by_span xs t stream draw place bar payload None older = refl
by_span xs t stream draw place bar payload (Some s) older =
    by_claim (claim_of xs s) (record { span = s; payload = payload }) t stream draw place bar older

by_head : (xs : List InterfaceStatus) (n : ℕ) (unit : UnitName) (p : Packet) (place bar : ℕ) (payload : List ℕ)
    (r : Result HeadView TlpFault) → StoresAs (tlp_happened xs unit p.prefix.t payload r) place bar
    (if_stored (device_effect xs n unit p r) (claimed_write xs place bar (write_read payload r)))
by_head xs n unit p place bar payload (Err f) older = refl
by_head xs n unit p place bar payload (Ok head) older =
    by_span xs p.prefix.t unit.stream unit.draw place bar payload (write_span head) older
    ∙ ap (λ (o : Option Write). cons_option o (writes_since older place bar))
    (if_stored_same _ _ (claimed_write xs place bar (write_read payload (Ok head)))
    (sym (stored_as_write xs p.prefix.t unit.stream unit.draw n head)))

one_packet : (plan : Plan) (policy : Policy) (n link : ℕ) (unit : UnitName) (p : Packet) (place bar : ℕ)
    (payload : List ℕ) → at_switch plan (device_port link) ≡ false
    → StoresAs (stored_packet (policy.statuses link) unit p payload) place bar
    (if_stored (effect_by plan policy n (device_port link) unit p)
    (claimed_write (policy.statuses link) place bar (write_read payload (read_head_of p.head))))
one_packet plan policy n link unit p place bar payload off older =
    by (is_sync_packet p) (at_switch plan (device_port link)) off
  where
    by : (s c : Bool) → c ≡ false → writes_since
        (cons_option (if s then None else tlp_happened (policy.statuses link) unit p.prefix.t payload
        (read_head_of p.head)) older) place bar ≡ cons_option
        (if_stored (if s then effect.Sync else if c then switch_effect else device_effect (policy.statuses link) n unit
        p (read_head_of p.head))
        (claimed_write (policy.statuses link) place bar (write_read payload (read_head_of p.head))))
        (writes_since older place bar)
    by true c is = refl
    by false true is = absurd cc
    by false false is = by_head (policy.statuses link) n unit p place bar payload (read_head_of p.head) older

-- ---- all of them

first_of : (o : Option Write) (os : List (Option Write)) (ws : List Write) → newest_first (o ∷ os) ws
    ≡ newest_first os (cons_option o ws)
first_of None os ws = refl
first_of (Some w) os ws = refl

pub unit_stores : (plan : Plan) (policy : Policy) (n link : ℕ) (unit : UnitName) (place bar : ℕ) (plain : List ℕ)
    (ps : List Packet) (older : List Happened) → at_switch plan (device_port link) ≡ false
    → writes_since (newest_happened (stored_each (policy.statuses link) unit plain ps) older) place bar
    ≡ newest_first (unit_stored_writes (policy.statuses link) place bar plain
    (effects_each plan policy n (device_port link) unit ps) ps) (writes_since older place bar)
unit_stores plan policy n link unit place bar plain [] older off = refl
unit_stores plan policy n link unit place bar plain (p ∷ ps) older off =
    let e = effect_by plan policy n (device_port link) unit p in
    let h = stored_packet (policy.statuses link) unit p (take (length p.body) plain) in
    let o = if_stored e (claimed_write (policy.statuses link) place bar
    (write_read (take (length p.body) plain) (read_head_of p.head))) in
    let os = unit_stored_writes (policy.statuses link) place bar (drop (length p.body) plain)
    (effects_each plan policy (waiting_then e n) (device_port link) unit ps) ps in
    unit_stores plan policy (waiting_then e n) link unit place bar (drop (length p.body) plain) ps (cons_option h older)
    off
    ∙ ap (newest_first os) (one_packet plan policy n link unit p place bar (take (length p.body) plain) off older)
    ∙ sym (first_of o os (writes_since older place bar))

-- ---- packet n of a unit

-- it has its effect while some number of reads wait
pub effect_at : (plan : Plan) (policy : Policy) (w : ℕ) (port : PortName) (unit : UnitName) (ps : List Packet) (n : ℕ)
    (p : Packet) (e : Effect) → slice_get (effects_each plan policy w port unit ps) n ≡ Some e
    → slice_get ps n ≡ Some p → (k : ℕ) × (effect_by plan policy k port unit p ≡ e)
effect_at plan policy w port unit [] n p e is at = absurd cc
effect_at plan policy w port unit (q ∷ ps) zero p e is at =
    let same : q ≡ p = cc (at) in
    (w, subst (λ (z : Packet). effect_by plan policy w port unit z ≡ e) same (cc (is)))
effect_at plan policy w port unit (q ∷ ps) (suc n) p e is at =
    effect_at plan policy (waiting_then (effect_by plan policy w port unit q) w) port unit ps n p e is at

-- one that is stored is so as the write that it is
pub record IsWritten (xs : List InterfaceStatus) (unit : UnitName) (p : Packet) : Type 0 where
  pub head : HeadView
  pub reads : read_head_of p.head ≡ Ok head
  pub stored : mmio_effect xs p.prefix.t unit.stream unit.draw (write_span head) ≡ effect.Stored

pub is_written : (plan : Plan) (policy : Policy) (k link : ℕ) (unit : UnitName) (p : Packet)
    → at_switch plan (device_port link) ≡ false
    → effect_by plan policy k (device_port link) unit p ≡ effect.Stored → IsWritten (policy.statuses link) unit p
is_written plan policy k link unit p off is =
    by (is_sync_packet p) (at_switch plan (device_port link)) (read_head_of p.head) off refl is
  where
    xs : List InterfaceStatus
    xs = policy.statuses link

    by : (s c : Bool) (r : Result HeadView TlpFault) → c ≡ false → read_head_of p.head ≡ r
        → (if s then effect.Sync else if c then switch_effect else device_effect xs k unit p r) ≡ effect.Stored
        → IsWritten xs unit p
    by true c r off reads is = absurd cc
    by false true r off reads is = absurd cc
    by false false (Err f) off reads is = absurd cc
    by false false (Ok head) off reads is = record {
      head = head;
      reads = reads;
      stored = stored_is (mmio_effect xs p.prefix.t unit.stream unit.draw (write_span head))
          (sym (stored_as_write xs p.prefix.t unit.stream unit.draw k head) ∙ ap is_stored is);
    }

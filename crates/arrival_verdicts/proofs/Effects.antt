-- Effects of an accepted unit, one packet after another: what one packet makes, and then those behind it.
use Rattle.std.proofs.Common.{◌≡◌, ℕ, ◌+◌, ◌==◌, Bool, true, false, List, [], ◌∷◌, ◌++◌, drop, length}
use Rattle.std.proofs.Common.{length-append, arith, refl, ap, sym, ◌∙◌, subst}
use Rattle.std.proofs.lemmas.List.{append-nil, append_assoc, drop_more}
use Rattle.std.specs.Prelude.{map, slice_get, if◌then◌else◌, Some, None, Option, Result, Ok, Err}
use Rattle.std.proofs.lemmas.Option.{get_or_from_slice_get, slice_get_within}
use Rattle.event_verdicts.specs.declared.verdict.UnitName.{UnitName}
use Rattle.ide_types.specs.declared.plan.Region.{Region}
use Rattle.spec_links.specs.Memory.{Grants}
use Rattle.ide_types.specs.declared.port.PortName.{PortName}
use Rattle.ide_prefix.specs.Packet.{Packet, HasTlp, is_sync_packet}
use Rattle.event_verdicts.specs.declared.verdict.Effect.{Effect}
use Rattle.trusted_memory.specs.{Write, Leads, MemoryContents, write_effect, write_span, memory_read, waiting_after}
use Rattle.spec_keys.specs.Places.{sent_direction}
use Rattle.std.specs.List.{cons_option}
use Rattle.tlp_layout.specs.declared.head.HeadView.{HeadView}
use Rattle.tlp_layout.specs.declared.fault.TlpFault.{TlpFault}
use Rattle.tlp_layout.specs.Head.{FitsHead}
use Rattle.tlp_layout.specs.Reading.{read_head_of}
use Rattle.tlp_layout.proofs.Readings.{read_head_spells}
use Rattle.event_verdicts.specs.declared.verdict.BlockCause.{BlockCause}
use Rattle.event_verdicts.specs.declared.verdict.Effect.TheVariants as effect
use Rattle.trusted_memory.specs.declared.grant.Grant.{Grant}
use Rattle.trusted_memory.specs.declared.span.Span.{Span}
use Rattle.trusted_memory.specs.Causes.{block_cause, block_effect}
use Rattle.trusted_memory.specs.declared.queue.ReadArrival.{ReadArrival}
use Rattle.trusted_memory.specs.declared.queue.ReadTarget.{ReadTarget}
use Rattle.trusted_memory.specs.declared.queue.WaitingRead.{WaitingRead}
use Rattle.trusted_memory.specs.declared.read.MemReadView.{MemReadView}
use Rattle.trusted_memory.specs.Waiting.{request_effect, effect_by_read, read_cause, read_effect}
use Rattle.guarded_memory.specs.declared.status.InterfaceStatus.{InterfaceStatus}
use Rattle.guarded_memory.specs.declared.claims.Claim.{Claim}
use Rattle.guarded_memory.specs.{GuardedMemory, Happened, MmioLeads, mmio_effect, mmio_cause}
use Rattle.guarded_memory.specs.{claim_effect, cause_effect, claim_of, claimed_read_effect, device_read_cause}
use Rattle.guarded_memory.specs.{device_request_effect, effect_by_device_read}
use Rattle.spec_links.specs.Admission.{waiting_then}
use Rattle.spec_links.specs.Sent.{arrival_of, read_of_target, reads_by, targets_at}
use Rattle.link_stores.specs.Accesses.{waiting_with, reads_after}
use Rattle.arrival_verdicts.specs.Verdicts.{head_effect, head_grant, claimed_effect, queued_by, effects_from}
use Rattle.arrival_verdicts.specs.Verdicts.{packet_effect, packet_write, packet_stored, PacketCame, UnitCame}

-- ---- reads that wait

module _ (target : Span → Option ReadTarget) (came : ReadArrival) where
  -- after this effect of a TLP with this header one more waits if it is queued
  abbrev Waits : ℕ → Effect → Result HeadView TlpFault → Type 0
  Waits n e r = waiting_then e n ≡ n + length (queued_by target came e r)

  block_waits : (n : ℕ) (r : Result HeadView TlpFault) (c : Option BlockCause) → Waits n (block_effect c) r
  block_waits n r None = omega arith
  block_waits n r (Some c) = omega arith

  write_waits : (regions : List Region) (t : Bool) (grant : Grant) (n : ℕ) (r : Result HeadView TlpFault)
      (o : Option Span) → Waits n (write_effect regions t grant o) r
  write_waits regions t grant n r None = omega arith
  write_waits regions t grant n r (Some s) = block_waits n r (block_cause regions s t grant)

  read_waits : (n : ℕ) (head : HeadView) (read : MemReadView) (c : Option BlockCause) → memory_read head ≡ Some read
      → Waits n (read_effect c) (Ok head)
  read_waits n head read None is = ap (λ (o : Option MemReadView). n + length (read_of_target target came o)) (sym is)
  read_waits n head read (Some c) is = omega arith

  by_read : (regions : List Region) (t : Bool) (grant : Grant) (n : ℕ) (head : HeadView) (o : Option MemReadView)
      (other : Effect) → memory_read head ≡ o → Waits n other (Ok head)
      → Waits n (effect_by_read regions t grant n o other) (Ok head)
  by_read regions t grant n head None other is waits = waits
  by_read regions false grant n head (Some read) other is waits = omega arith
  by_read regions true grant n head (Some read) other is waits =
      read_waits n head read (read_cause regions read.span grant n) is

  pub request_waits : (regions : List Region) (t : Bool) (grant : Grant) (n : ℕ) (head : HeadView)
      → Waits n (request_effect regions t grant n head) (Ok head)
  request_waits regions t grant n head = by_read regions t grant n head (memory_read head)
      (write_effect regions t grant (write_span head)) refl
      (write_waits regions t grant n (Ok head) (write_span head))

  cause_waits : (n : ℕ) (r : Result HeadView TlpFault) (c : Option BlockCause) → Waits n (cause_effect c) r
  cause_waits n r None = omega arith
  cause_waits n r (Some c) = omega arith

  claim_waits : (n : ℕ) (t : Bool) (stream at : ℕ) (s : Span) (r : Result HeadView TlpFault) (o : Option Claim)
      → Waits n (claim_effect o s t stream at) r
  claim_waits n t stream at s r None = omega arith
  claim_waits n t stream at s r (Some c) = cause_waits n r (mmio_cause c.status c.range s t stream at)

  mmio_waits : (n : ℕ) (xs : List InterfaceStatus) (t : Bool) (stream at : ℕ) (r : Result HeadView TlpFault)
      (o : Option Span) → Waits n (mmio_effect xs t stream at o) r
  mmio_waits n xs t stream at r None = omega arith
  mmio_waits n xs t stream at r (Some s) = claim_waits n t stream at s r (claim_of xs s)

  -- a claimed read at a device's port
  if_waits : (n : ℕ) (r : Result HeadView TlpFault) (b : Bool) (x : Effect) → Waits n x r
      → Waits n (if b then x else effect.Delivered) r
  if_waits n r true x waits = waits
  if_waits n r false x waits = omega arith

  claimed_read_waits : (n : ℕ) (head : HeadView) (read : MemReadView) (t : Bool) (stream at : ℕ) (o : Option Claim)
      → memory_read head ≡ Some read → Waits n (claimed_read_effect o read.span t stream at n) (Ok head)
  claimed_read_waits n head read t stream at None is = omega arith
  claimed_read_waits n head read t stream at (Some c) is = if_waits n (Ok head) c.status.reads _
      (read_waits n head read (device_read_cause c read.span t stream at n) is)

  by_device_read : (n : ℕ) (xs : List InterfaceStatus) (t : Bool) (stream at : ℕ) (head : HeadView)
      (o : Option MemReadView) (other : Effect) → memory_read head ≡ o → Waits n other (Ok head)
      → Waits n (effect_by_device_read xs t stream at n o other) (Ok head)
  by_device_read n xs t stream at head None other is waits = waits
  by_device_read n xs t stream at head (Some read) other is waits =
      claimed_read_waits n head read t stream at (claim_of xs read.span) is

  pub device_waits : (n : ℕ) (xs : List InterfaceStatus) (t : Bool) (stream at : ℕ) (head : HeadView)
      → Waits n (device_request_effect xs t stream at n head) (Ok head)
  device_waits n xs t stream at head = by_device_read n xs t stream at head (memory_read head)
      (mmio_effect xs t stream at (write_span head)) refl
      (mmio_waits n xs t stream at (Ok head) (write_span head))

  -- the reads that wait are those that did, and the one that is queued
  same_reads : (e : Effect) (ws : List WaitingRead) (o : Option MemReadView)
      → ((w : WaitingRead) → waiting_after e w ws ≡ ws) → waiting_with target e came o ws ≡ ws ++ []
  same_reads e ws None same = sym (append-nil ws)
  same_reads e ws (Some read) same =
      same (record { read = read; came = came; target = target read.span }) ∙ sym (append-nil ws)

  one_read : (ws : List WaitingRead) (o : Option MemReadView) → waiting_with target effect.Queued came o ws
      ≡ ws ++ read_of_target target came o
  one_read ws None = sym (append-nil ws)
  one_read ws (Some read) = refl

  pub reads_are : (e : Effect) (head : HeadView) (ws : List WaitingRead) → reads_after target e came head ws
      ≡ ws ++ queued_by target came e (Ok head)
  reads_are effect.Sync head ws = same_reads effect.Sync ws (memory_read head) (λ w. refl)
  reads_are effect.Delivered head ws = same_reads effect.Delivered ws (memory_read head) (λ w. refl)
  reads_are effect.Applied head ws = same_reads effect.Applied ws (memory_read head) (λ w. refl)
  reads_are effect.Queued head ws = one_read ws (memory_read head)
  reads_are effect.Stored head ws = same_reads effect.Stored ws (memory_read head) (λ w. refl)
  reads_are effect.Waiting head ws = same_reads effect.Waiting ws (memory_read head) (λ w. refl)
  reads_are (effect.Blocked c) head ws = same_reads (effect.Blocked c) ws (memory_read head) (λ w. refl)

-- the first of a unit's reads
first_reads : (target : Span → Option ReadTarget) (end : PortName) (unit : UnitName) (e : Effect) (p : Packet)
    (es : List Effect) (ps : List Packet)
    → queued_by target (arrival_of end unit p) e (read_head_of p.head) ++ reads_by target end unit es ps
    ≡ reads_by target end unit (e ∷ es) (p ∷ ps)
first_reads target end unit effect.Sync p es ps = refl
first_reads target end unit effect.Delivered p es ps = refl
first_reads target end unit effect.Applied p es ps = refl
first_reads target end unit effect.Queued p es ps = refl
first_reads target end unit effect.Stored p es ps = refl
first_reads target end unit effect.Waiting p es ps = refl
first_reads target end unit (effect.Blocked c) p es ps = refl

-- ---- memory, one after another

write_on : (m k n : MemoryContents) (o : Option Write) (os : List (Option Write)) → Leads m (o ∷ []) k → Leads k os n
    → Leads m (o ∷ os) n
write_on m k n None os first rest = λ older is. rest older (first older is)
write_on m k n (Some w) os first rest = λ older is. rest (w ∷ older) (first older is)

store_on : (m k n : GuardedMemory) (o : Option Happened) (os : List (Option Happened)) → MmioLeads m (o ∷ []) k
    → MmioLeads k os n → MmioLeads m (o ∷ os) n
store_on m k n o os first rest = λ older is. rest (cons_option o older) (first older is)

module _ (regions : List Region) (grants : Grants) (xs : List InterfaceStatus) (end port : PortName) (unit : UnitName)
  where
    -- how a packet came, and what its read is of
    abbrev at_side : Span → Option ReadTarget
    at_side = targets_at port.side xs

    abbrev came_as : Packet → ReadArrival
    came_as p = arrival_of end unit p

    head_waits : (p : Packet) (n : ℕ) (t : Bool) (r : Result HeadView TlpFault)
        → Waits at_side (came_as p) n (head_effect regions grants port.line n unit t r) r
    head_waits p n t (Err f) = omega arith
    head_waits p n t (Ok head) =
        request_waits at_side (came_as p) regions t (head_grant grants port.line unit head) n head

    claimed_waits : (p : Packet) (n : ℕ) (t : Bool) (r : Result HeadView TlpFault)
        → Waits at_side (came_as p) n (claimed_effect xs n unit t r) r
    claimed_waits p n t (Err f) = omega arith
    claimed_waits p n t (Ok head) = device_waits at_side (came_as p) n xs t unit.stream unit.draw head

    either_waits : (p : Packet) (n : ℕ) (b c : Bool) (x y : Effect) (r : Result HeadView TlpFault)
        → Waits at_side (came_as p) n x r → Waits at_side (came_as p) n y r
        → Waits at_side (came_as p) n (if b then effect.Sync else if c then x else y) r
    either_waits p n true c x y r first second = omega arith
    either_waits p n false true x y r first second = first
    either_waits p n false false x y r first second = second

    packet_waits : (n : ℕ) (p : Packet)
        → Waits at_side (came_as p) n (packet_effect regions grants xs n port unit p) (read_head_of p.head)
    packet_waits n p = either_waits p n (is_sync_packet p) (sent_direction port.side == 0) _ _ (read_head_of p.head)
        (head_waits p n p.prefix.t (read_head_of p.head)) (claimed_waits p n p.prefix.t (read_head_of p.head))

    -- a unit of no packets
    pub none_came : (ws : List WaitingRead) (m : MemoryContents) (g : GuardedMemory)
        → UnitCame regions grants xs end port unit [] ws m g [] ws m g
    none_came ws m g = record {
      effects_are = refl;
      reads_are = sym (append-nil ws);
      written = λ older is. is;
      stored = λ older is. is;
    }

    -- one packet, and those behind it
    pub more_came : (p : Packet) (ps : List Packet) (ws ws1 ws' : List WaitingRead) (m m1 m' : MemoryContents)
        (g g1 g' : GuardedMemory) (e : Effect) (es : List Effect)
        → PacketCame regions grants xs end port unit p ws m g e ws1 m1 g1
        → UnitCame regions grants xs end port unit ps ws1 m1 g1 es ws' m' g'
        → UnitCame regions grants xs end port unit (p ∷ ps) ws m g (e ∷ es) ws' m' g'
    more_came p ps ws ws1 ws' m m1 m' g g1 g' e es one rest =
        let r : Result HeadView TlpFault = read_head_of p.head in
        let due : Effect = packet_effect regions grants xs (length ws) port unit p in
        let q : List WaitingRead = queued_by at_side (came_as p) e r in
        let many : length ws1 ≡ waiting_then due (length ws) =
        ap (λ (vs : List WaitingRead). length vs) one.reads_are ∙ length-append ws q
        ∙ ap (λ (x : Effect). length ws + length (queued_by at_side (came_as p) x r)) one.effect_is
        ∙ sym (packet_waits (length ws) p) in
        let behind : es ≡ effects_from regions grants xs (waiting_then due (length ws)) port unit ps =
        rest.effects_are ∙ ap (λ (n : ℕ). effects_from regions grants xs n port unit ps) many in
        record {
          effects_are = λ i. one.effect_is i ∷ behind i;
          reads_are = rest.reads_are ∙ ap (λ (vs : List WaitingRead). vs ++ reads_by at_side end unit es ps) one.reads_are
              ∙ append_assoc ws q (reads_by at_side end unit es ps)
              ∙ ap (λ (vs : List WaitingRead). ws ++ vs) (first_reads at_side end unit e p es ps);
          written = write_on m m1 m' (packet_write regions grants port unit p)
              (map (packet_write regions grants port unit) ps) one.written rest.written;
          stored = store_on g g1 g' (packet_stored xs port unit p) (map (packet_stored xs port unit) ps)
              one.stored rest.stored;
        }

-- ---- a packet among those that are lent

pub carried_fits : (p : Packet) (o : Option HeadView) (head : HeadView) → HasTlp p o → o ≡ Some head → FitsHead head
carried_fits p o head has is =
    let read : HasTlp p (Some head) = subst (HasTlp p) is has in
    ((read_head_spells head p.head).1 read.1).fits

pub packet_there : (ps : List Packet) (i : ℕ) (p : Packet) → slice_get ps i ≡ Some p → drop i ps ≡ p ∷ drop (i + 1) ps
packet_there ps i p at = drop_more ps i p (slice_get_within ps i p at)
    ∙ ap (λ (x : Packet). x ∷ drop (i + 1) ps) (get_or_from_slice_get ps i p p at)

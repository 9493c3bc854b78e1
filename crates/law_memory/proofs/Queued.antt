-- Each read that a port's queue has was queued there by a pair, since the last reset of its link.
use Rattle.spec_links.proofs.Terms.{◌≡◌, ◌⊎◌, inl, inr, ℕ, ◌<◌, ◌≤◌, ◌==◌, zero, suc, Bool, true, false, List, []}
use Rattle.spec_links.proofs.Terms.{◌∷◌, ◌++◌, length, slice_get, Option, Some, None, Result, Ok, Err, refl, ap, sym}
use Rattle.spec_links.proofs.Terms.{subst, ◌∙◌, arith, if◌then◌else◌, AllByRecursion, Plan, History, Event, Verdict}
use Rattle.spec_links.proofs.Terms.{Accepted, UnitName, Effect, Packet, PortName, CauseLaw, Reset, WaitingRead}
use Rattle.spec_links.proofs.Terms.{is_same_port, sealed_packets}
use Rattle.spec_links.proofs.Growth.{at_front}
use Rattle.spec_links.proofs.Tests.{same_port}
use Rattle.spec_links.specs.Ports.{port_of}
use Rattle.spec_links.specs.Terms.{ReadArrival, ReadTarget, Span, MemReadView, memory_read, read_head_of, TlpFault}
use Rattle.spec_links.specs.Terms.{history_statuses}
use Rattle.spec_links.specs.Memory.{queued_reads, unit_ended}
use Rattle.spec_links.specs.Sent.{reads_by, read_in, read_of_target, targets_at, arrival_of}
unfoldable use Rattle.spec_links.specs.Sent.{queued_in}
use Rattle.tlp_layout.specs.declared.head.HeadView.{HeadView}
use Rattle.event_verdicts.specs.declared.verdict.Effect.TheVariants as effect
use Rattle.event_verdicts.specs.declared.verdict.Verdict.TheVariants as v
use Rattle.law_reads.proofs.ByNumber.{unit_again}
use Rattle.law_reads.proofs.Order.{here_after}
use Rattle.law_memory.specs.ReadLaws.{resets}

-- ---- of one unit

-- packet n of a unit is this read, and is queued
pub record ReadAt (target : Span → Option ReadTarget) (end : PortName) (unit : UnitName) (es : List Effect)
    (ps : List Packet) (r : WaitingRead) : Type 0 where
  pub number : ℕ
  pub packet : Packet
  pub stands : slice_get ps number ≡ Some packet
  pub queues : slice_get es number ≡ Some effect.Queued
  pub head : HeadView
  pub reads : read_head_of packet.head ≡ Ok head
  pub is_read : memory_read head ≡ Some r.read
  pub arrived : r.came ≡ arrival_of end unit packet
  pub target_is : r.target ≡ target r.read.span

either : {A : Type 0} (xs ys : List A) (k : ℕ) (x : A) → slice_get (xs ++ ys) k ≡ Some x
    → (slice_get xs k ≡ Some x) ⊎ ((j : ℕ) × (slice_get ys j ≡ Some x) × (length xs ≤ k))
either [] ys k x is = inr (k, is, omega arith)
either (z ∷ xs) ys zero x is = inl is
either (z ∷ xs) ys (suc k) x is = elim (either xs ys k x is) [
  | inl at ↦ inl at
  | inr j ↦ inr (j.0, j.1, (let le = j.2 in omega (arith, le)))
]

record IsReadOf (target : Span → Option ReadTarget) (came : ReadArrival) (res : Result HeadView TlpFault)
    (r : WaitingRead) : Type 0 where
  head : HeadView
  reads : res ≡ Ok head
  is_read : memory_read head ≡ Some r.read
  arrived : r.came ≡ came
  target_is : r.target ≡ target r.read.span

one_read : (target : Span → Option ReadTarget) (came : ReadArrival) (head : HeadView) (o : Option MemReadView)
    → memory_read head ≡ o → (k : ℕ) (r : WaitingRead) → slice_get (read_of_target target came o) k ≡ Some r
    → IsReadOf target came (Ok head) r
one_read target came head None at k r is = absurd cc
one_read target came head (Some read) at zero r is =
    let same : record { read = read; came = came; target = target read.span } ≡ r = cc (is) in
    subst (IsReadOf target came (Ok head)) same
    (record { head = head; reads = refl; is_read = at; arrived = refl; target_is = refl })
one_read target came head (Some read) at (suc k) r is = absurd cc

read_of_head : (target : Span → Option ReadTarget) (came : ReadArrival) (res : Result HeadView TlpFault) (k : ℕ)
    (r : WaitingRead) → slice_get (read_in target came res) k ≡ Some r → IsReadOf target came res r
read_of_head target came (Err f) k r is = absurd cc
read_of_head target came (Ok head) k r is = one_read target came head (memory_read head) refl k r is

behind : (target : Span → Option ReadTarget) (end : PortName) (unit : UnitName) (e : Effect) (es : List Effect)
    (p : Packet) (ps : List Packet) (r : WaitingRead) → ReadAt target end unit es ps r
    → ReadAt target end unit (e ∷ es) (p ∷ ps) r
behind target end unit e es p ps r at = record {
  number = suc at.number;
  packet = at.packet;
  stands = at.stands;
  queues = at.queues;
  head = at.head;
  reads = at.reads;
  is_read = at.is_read;
  arrived = at.arrived;
  target_is = at.target_is;
}

among : (target : Span → Option ReadTarget) (end : PortName) (unit : UnitName) (es : List Effect) (ps : List Packet)
    (k : ℕ) (r : WaitingRead) → slice_get (reads_by target end unit es ps) k ≡ Some r
    → ReadAt target end unit es ps r
among target end unit [] ps k r is = absurd cc
among target end unit (effect.Queued ∷ es) [] k r is = absurd cc
among target end unit (effect.Queued ∷ es) (p ∷ ps) k r is =
    let came = arrival_of end unit p in
    elim (either (read_in target came (read_head_of p.head)) (reads_by target end unit es ps) k r is) [
      | inl here ↦
          let of = read_of_head target came (read_head_of p.head) k r here in
          record {
            number = 0;
            packet = p;
            stands = refl;
            queues = refl;
            head = of.head;
            reads = of.reads;
            is_read = of.is_read;
            arrived = of.arrived;
            target_is = of.target_is;
          }
      | inr j ↦ behind target end unit effect.Queued es p ps r (among target end unit es ps j.0 r j.1)
    ]
among target end unit (e ∷ es) [] k r is = absurd cc
among target end unit (e ∷ es) (p ∷ ps) k r is =
    behind target end unit e es p ps r (among target end unit es ps k r is)

-- ---- what a pair does to a queue

accepted_next : (plan : Plan) (h : History) (e : Event) (end : PortName) (unit : UnitName) (effects : List Effect)
    → CauseLaw plan ((e, Accepted end unit effects) ∷ h) → (at : PortName)
    → queued_reads plan ((e, Accepted end unit effects) ∷ h) at
    ≡ (if is_same_port (port_of plan end) at then queued_reads plan h at
    ++ reads_by (targets_at at.side (history_statuses plan h at.line)) end unit effects (unit_ended plan h e end unit)
    else queued_reads plan h at)
unfolding queued_in
accepted_next plan h e end unit effects cause at =
    let before = here_after plan h e (Accepted end unit effects) cause at in
    let same = unit_again plan h e end unit effects cause in
    (λ i. if is_same_port (port_of plan end) at then before i
    ++ reads_by (targets_at at.side (history_statuses plan h at.line)) end unit effects (same i) else before i)

-- ---- the pair that queued a read

-- number k of the reads of a port's queue
pub record QueuedBy (plan : Plan) (h : History) (port : PortName) (k : ℕ) (r : WaitingRead) : Type 0 where
  pub event : Event
  pub end : PortName
  pub unit : UnitName
  pub effects : List Effect
  pub older : History
  pub since : History
  pub came : since ++ (event, Accepted end unit effects) ∷ older ≡ h
  pub at_port : port_of plan end ≡ port
  pub at : ReadAt (targets_at port.side (history_statuses plan older port.line)) end unit effects
      (unit_ended plan older event end unit) r
  pub from : length (queued_reads plan older port) ≤ k
  pub until : k < length (queued_reads plan ((event, Accepted end unit effects) ∷ older) port)
  pub no_reset : AllByRecursion (λ (pair : Event × Verdict). resets port.line pair.0 pair.1 ≡ false) since

later : (plan : Plan) (h : History) (e : Event) (w : Verdict) (port : PortName) (k : ℕ) (r : WaitingRead)
    → resets port.line e w ≡ false → QueuedBy plan h port k r → QueuedBy plan ((e, w) ∷ h) port k r
later plan h e w port k r stays q = record {
  event = q.event;
  end = q.end;
  unit = q.unit;
  effects = q.effects;
  older = q.older;
  since = (e, w) ∷ q.since;
  came = ap (λ (g : History). (e, w) ∷ g) q.came;
  at_port = q.at_port;
  at = q.at;
  from = q.from;
  until = q.until;
  no_reset = (stays, q.no_reset);
}

abbrev is_reset : Verdict → Bool
is_reset (v.Reset l) = true
is_reset w = false

not_reset : (link : ℕ) (e : Event) (w : Verdict) → is_reset w ≡ false → resets link e w ≡ false
not_reset link (Reset k ends) (v.Reset l) other = absurd cc
not_reset link (Reset k ends) w other = refl
not_reset link e w other = refl

accepted_at : (plan : Plan) (h : History) (e : Event) (end : PortName) (unit : UnitName) (effects : List Effect)
    → CauseLaw plan ((e, Accepted end unit effects) ∷ h) → (port : PortName) (k : ℕ) (r : WaitingRead)
    → (slice_get (queued_reads plan h port) k ≡ Some r → QueuedBy plan h port k r)
    → slice_get (queued_reads plan ((e, Accepted end unit effects) ∷ h) port) k ≡ Some r
    → QueuedBy plan ((e, Accepted end unit effects) ∷ h) port k r
accepted_at plan h e end unit effects cause port k r before is =
    let next = accepted_next plan h e end unit effects cause port in
    by (is_same_port (port_of plan end) port) refl (sym (ap (λ (rs : List WaitingRead). slice_get rs k) next) ∙ is)
  where
    target : Span → Option ReadTarget
    target = targets_at port.side (history_statuses plan h port.line)

    ps : List Packet
    ps = unit_ended plan h e end unit

    by : (b : Bool) → is_same_port (port_of plan end) port ≡ b
        → slice_get (if b then queued_reads plan h port ++ reads_by target end unit effects ps
        else queued_reads plan h port) k ≡ Some r
        → QueuedBy plan ((e, Accepted end unit effects) ∷ h) port k r
    by false off here = later plan h e (Accepted end unit effects) port k r
        (not_reset port.line e (Accepted end unit effects) refl) (before here)
    by true same here =
        elim (either (queued_reads plan h port) (reads_by target end unit effects ps) k r here) [
          | inl old ↦ later plan h e (Accepted end unit effects) port k r
              (not_reset port.line e (Accepted end unit effects) refl)
              (before old)
          | inr j ↦ record {
            event = e;
            end = end;
            unit = unit;
            effects = effects;
            older = h;
            since = [];
            came = refl;
            at_port = same_port (port_of plan end) port same;
            at = among target end unit effects ps j.0 r j.1;
            from = j.2;
            until = (at_front (queued_reads plan ((e, Accepted end unit effects) ∷ h) port) [] k r is).1;
            no_reset = tt;
          }
        ]

pub queued_by : (plan : Plan) (h : History) → CauseLaw plan h → (port : PortName) (k : ℕ) (r : WaitingRead)
    → slice_get (queued_reads plan h port) k ≡ Some r → QueuedBy plan h port k r
unfolding queued_in
queued_by plan [] cause port k r is = absurd cc
queued_by plan ((e, Accepted end unit effects) ∷ h) cause port k r is =
    accepted_at plan h e end unit effects cause port k r (queued_by plan h cause.1 port k r) is
queued_by plan ((Reset l ends, v.Reset m) ∷ h) cause port k r is =
    by (queued_by plan h cause.1 port k r) (m == port.line) refl is
  where
    by : (slice_get (queued_reads plan h port) k ≡ Some r → QueuedBy plan h port k r) → (b : Bool)
        → (m == port.line) ≡ b
        → slice_get (if b then [] else queued_in plan (sealed_packets plan ((Reset l ends, v.Reset m) ∷ h)) h port) k
        ≡ Some r → QueuedBy plan ((Reset l ends, v.Reset m) ∷ h) port k r
    by before true at is = absurd cc
    by before false at is = later plan h (Reset l ends) (v.Reset m) port k r at
        (before (sym (ap (λ (rs : List WaitingRead). slice_get rs k)
        (here_after plan h (Reset l ends) (v.Reset m) cause port)) ∙ is))
queued_by plan ((e, v.Reset m) ∷ h) cause port k r is =
    later plan h e (v.Reset m) port k r refl (queued_by plan h cause.1 port k r
    (sym (ap (λ (rs : List WaitingRead). slice_get rs k) (here_after plan h e (v.Reset m) cause port)) ∙ is))
queued_by plan ((e, w) ∷ h) cause port k r is =
    later plan h e w port k r (not_reset port.line e w refl) (queued_by plan h cause.1 port k r
    (sym (ap (λ (rs : List WaitingRead). slice_get rs k) (here_after plan h e w cause port)) ∙ is))

-- The pair that queued a read which waits at a port, and what that tells of it: it came at an end of the port, which is
-- at no switch, on a stream of the end's line.
use Rattle.law_sealing.proofs.Terms.{◌≡◌, ℕ, zero, suc, ◌+◌, ◌≤◌, ◌==◌, ◌&&◌, ◌⊎◌, inl, inr, Bool, true, false}
use Rattle.law_sealing.proofs.Terms.{List, [], ◌∷◌, ◌++◌, length, slice_get, Option, Some, None, Result, Ok, Err, refl}
use Rattle.law_sealing.proofs.Terms.{ap, sym, subst, ◌∙◌, arith, nat_tests, if◌then◌else◌, not, nat_le, nat_lt}
use Rattle.law_sealing.proofs.Terms.{append-nil, Plan, History, Event, Verdict, Accepted, UnitName, Effect, Packet}
use Rattle.law_sealing.proofs.Terms.{PortName, SealedList, sealed_packets, CauseLaw, is_same_port, same_port}
use Rattle.law_sealing.proofs.Terms.{has_stream, accepted_by, unit_that_ends, effects_of, is_sync_packet, and_parts}
use Rattle.std.proofs.Common.{◌-◌}
use Rattle.std.proofs.lemmas.Bool.{true≢false}
use Rattle.ide_types.specs.Ports.{host_port, device_port}
use Rattle.ide_types.specs.declared.port.Side.{Side}
use Rattle.ide_types.specs.declared.port.Side.TheVariants.{Host, Device}
use Rattle.tlp_layout.specs.declared.head.HeadView.{HeadView}
use Rattle.tlp_layout.specs.declared.fault.TlpFault.{TlpFault}
use Rattle.tlp_layout.specs.Reading.{read_head_of}
use Rattle.spec_links.specs.Terms.{MemReadView, ReadArrival, ReadTarget, Span, WaitingRead, memory_read, Reset}
use Rattle.spec_links.specs.Terms.{history_statuses}
use Rattle.spec_links.specs.Ports.{at_switch}
unfoldable use Rattle.spec_links.specs.Ports.{port_of}
use Rattle.spec_links.specs.Memory.{Policy, policy_at, effect_by, effects_each, waiting_then, unit_ended, queued_reads}
use Rattle.spec_links.specs.Sent.{arrival_of, read_of_target, read_in, reads_by, targets_at, unit_accepted}
unfoldable use Rattle.spec_links.specs.Sent.{queued_in}
use Rattle.event_verdicts.specs.declared.verdict.Effect.TheVariants as effect
use Rattle.event_verdicts.specs.declared.verdict.Verdict.TheVariants as v
use Rattle.law_reads.proofs.ByNumber.{IsBehind, behind_earlier, unit_same}

-- ---- packet n of a unit is the read, and is queued

pub record ReadAt (target : Span → Option ReadTarget) (end : PortName) (unit : UnitName) (es : List Effect)
    (ps : List Packet) (r : WaitingRead) : Type 0 where
  pub number : ℕ
  pub packet : Packet
  pub stands : slice_get ps number ≡ Some packet
  pub queues : slice_get es number ≡ Some effect.Queued
  pub head : HeadView
  pub reads : read_head_of packet.head ≡ Ok head
  pub is_read : memory_read head ≡ Some r.read
  pub came : arrival_of end unit packet ≡ r.came
  pub of_target : target r.read.span ≡ r.target

either : {A : Type 0} (xs ys : List A) (k : ℕ) (x : A) → slice_get (xs ++ ys) k ≡ Some x
    → (slice_get xs k ≡ Some x) ⊎ ((j : ℕ) × (slice_get ys j ≡ Some x))
either [] ys k x is = inr (k, is)
either (z ∷ xs) ys zero x is = inl is
either (z ∷ xs) ys (suc k) x is = either xs ys k x is

record IsReadOf (target : Span → Option ReadTarget) (came : ReadArrival) (res : Result HeadView TlpFault)
    (r : WaitingRead) : Type 0 where
  head : HeadView
  reads : res ≡ Ok head
  is_read : memory_read head ≡ Some r.read
  came_is : came ≡ r.came
  of_target : target r.read.span ≡ r.target

one_read : (target : Span → Option ReadTarget) (came : ReadArrival) (head : HeadView) (o : Option MemReadView) (k : ℕ)
    (r : WaitingRead) → memory_read head ≡ o → slice_get (read_of_target target came o) k ≡ Some r
    → IsReadOf target came (Ok head) r
one_read target came head None k r reads is = absurd cc
one_read target came head (Some read) zero r reads is =
    let same : record { read = read; came = came; target = target read.span } ≡ r = cc (is) in
    record {
      head = head;
      reads = refl;
      is_read = reads ∙ ap (λ (z : WaitingRead). Some z.read) same;
      came_is = ap (λ (z : WaitingRead). z.came) same;
      of_target = subst (λ (z : WaitingRead). target z.read.span ≡ z.target) same refl;
    }
one_read target came head (Some read) (suc k) r reads is = absurd cc

read_of_head : (target : Span → Option ReadTarget) (came : ReadArrival) (res : Result HeadView TlpFault) (k : ℕ)
    (r : WaitingRead) → slice_get (read_in target came res) k ≡ Some r → IsReadOf target came res r
read_of_head target came (Err f) k r is = absurd cc
read_of_head target came (Ok head) k r is = one_read target came head (memory_read head) k r refl is

behind : (target : Span → Option ReadTarget) (end : PortName) (unit : UnitName) (e : Effect) (es : List Effect)
    (p : Packet) (ps : List Packet) (r : WaitingRead) → ReadAt target end unit es ps r
    → ReadAt target end unit (e ∷ es) (p ∷ ps) r
behind target end unit e es p ps r at = record {
  number = suc at.number;
  packet = at.packet;
  stands = at.stands;
  queues = at.queues;
  head = at.head;
  reads = at.reads;
  is_read = at.is_read;
  came = at.came;
  of_target = at.of_target;
}

among : (target : Span → Option ReadTarget) (end : PortName) (unit : UnitName) (es : List Effect) (ps : List Packet)
    (k : ℕ) (r : WaitingRead) → slice_get (reads_by target end unit es ps) k ≡ Some r → ReadAt target end unit es ps r
among target end unit [] ps k r is = absurd cc
among target end unit (effect.Queued ∷ es) [] k r is = absurd cc
among target end unit (effect.Queued ∷ es) (p ∷ ps) k r is =
    elim (either (read_in target (arrival_of end unit p) (read_head_of p.head)) (reads_by target end unit es ps) k r
    is) [
      | inl here ↦
          let of = read_of_head target (arrival_of end unit p) (read_head_of p.head) k r here in
          record {
            number = 0;
            packet = p;
            stands = refl;
            queues = refl;
            head = of.head;
            reads = of.reads;
            is_read = of.is_read;
            came = of.came_is;
            of_target = of.of_target;
          }
      | inr j ↦ behind target end unit effect.Queued es p ps r (among target end unit es ps j.0 r j.1)
    ]
among target end unit (e ∷ es) [] k r is = absurd cc
among target end unit (e ∷ es) (p ∷ ps) k r is =
    behind target end unit e es p ps r (among target end unit es ps k r is)

-- ---- the pair that queued it

pub record QueuedAt (plan : Plan) (h : History) (port : PortName) (r : WaitingRead) : Type 0 where
  pub event : Event
  pub end : PortName
  pub unit : UnitName
  pub effects : List Effect
  pub older : History
  pub since : History
  pub came : since ++ (event, Accepted end unit effects) ∷ older ≡ h
  pub cause : CauseLaw plan ((event, Accepted end unit effects) ∷ older)
  pub at_port : port_of plan end ≡ port
  pub at : ReadAt (targets_at port.side (history_statuses plan older port.line)) end unit effects
      (unit_ended plan older event end unit) r

later : (plan : Plan) (h : History) (pair : Event × Verdict) (port : PortName) (r : WaitingRead)
    → QueuedAt plan h port r → QueuedAt plan (pair ∷ h) port r
later plan h pair port r q = record {
  event = q.event;
  end = q.end;
  unit = q.unit;
  effects = q.effects;
  older = q.older;
  since = pair ∷ q.since;
  came = ap (λ (g : History). pair ∷ g) q.came;
  cause = q.cause;
  at_port = q.at_port;
  at = q.at;
}

reset_at : {X : Type 0} (k : ℕ) (r : WaitingRead) (b : Bool) (rs : List WaitingRead)
    → slice_get (if b then [] else rs) k ≡ Some r → (slice_get rs k ≡ Some r → X) → X
reset_at k r true rs is next = absurd cc
reset_at k r false rs is next = next is

accepted_at : (plan : Plan) (xs : SealedList) (h : History) (e : Event) (end : PortName) (unit : UnitName)
    (effects : List Effect) (port : PortName) (k : ℕ) (r : WaitingRead)
    → CauseLaw plan ((e, Accepted end unit effects) ∷ h)
    → unit_accepted plan xs h e end unit ≡ unit_ended plan h e end unit
    → ((j : ℕ) → slice_get (queued_in plan xs h port) j ≡ Some r
    → QueuedAt plan ((e, Accepted end unit effects) ∷ h) port r)
    → (b : Bool) → is_same_port (port_of plan end) port ≡ b
    → slice_get (if b then queued_in plan xs h port
    ++ reads_by (targets_at port.side (history_statuses plan h port.line)) end unit effects
    (unit_accepted plan xs h e end unit)
    else queued_in plan xs h port) k ≡ Some r → QueuedAt plan ((e, Accepted end unit effects) ∷ h) port r
accepted_at plan xs h e end unit effects port k r cause unit_is next false off is = next k is
accepted_at plan xs h e end unit effects port k r cause unit_is next true here is =
    let target = targets_at port.side (history_statuses plan h port.line) in
    elim (either (queued_in plan xs h port) (reads_by target end unit effects (unit_accepted plan xs h e end unit)) k r
    is) [
      | inl older ↦ next k older
      | inr j ↦ record {
        event = e;
        end = end;
        unit = unit;
        effects = effects;
        older = h;
        since = [];
        came = refl;
        cause = cause;
        at_port = same_port (port_of plan end) port here;
        at = subst (λ (ps : List Packet). ReadAt target end unit effects ps r) unit_is
            (among target end unit effects (unit_accepted plan xs h e end unit) j.0 r j.1);
      }
    ]

queued_there : (plan : Plan) (xs : SealedList) (h : History) → CauseLaw plan h → IsBehind plan h xs
    → (port : PortName) (k : ℕ) (r : WaitingRead) → slice_get (queued_in plan xs h port) k ≡ Some r
    → QueuedAt plan h port r
unfolding queued_in
queued_there plan xs [] cause front port k r is = absurd cc
queued_there plan xs ((e, Accepted end unit effects) ∷ h) cause front port k r is =
    let before = behind_earlier plan h e (Accepted end unit effects) xs front in
    let unit_is = unit_same plan h e end unit effects cause xs before in
    accepted_at plan xs h e end unit effects port k r cause unit_is
    (λ j at. later plan h (e, Accepted end unit effects) port r (queued_there plan xs h cause.1 before port j r at))
    (is_same_port (port_of plan end) port) refl is
queued_there plan xs ((Reset l ends, v.Reset m) ∷ h) cause front port k r is =
    reset_at k r (m == port.line) (queued_in plan xs h port) is
    (λ at. later plan h (Reset l ends, v.Reset m) port r
    (queued_there plan xs h cause.1 (behind_earlier plan h (Reset l ends) (v.Reset m) xs front) port k r at))
queued_there plan xs ((e, w) ∷ h) cause front port k r is =
    later plan h (e, w) port r (queued_there plan xs h cause.1 (behind_earlier plan h e w xs front) port k r is)

pub queued_at : (plan : Plan) (h : History) → CauseLaw plan h → (port : PortName) (k : ℕ) (r : WaitingRead)
    → slice_get (queued_reads plan h port) k ≡ Some r → QueuedAt plan h port r
queued_at plan h cause port k r is =
    queued_there plan (sealed_packets plan h) h cause ([], append-nil (sealed_packets plan h)) port k r is

-- ---- its effect when it came

each_queued : (plan : Plan) (policy : Policy) (w : ℕ) (port : PortName) (unit : UnitName) (ps : List Packet) (n : ℕ)
    (p : Packet) → slice_get (effects_each plan policy w port unit ps) n ≡ Some effect.Queued → slice_get ps n ≡ Some p
    → (k : ℕ) × (effect_by plan policy k port unit p ≡ effect.Queued)
each_queued plan policy w port unit [] n p is at = absurd cc
each_queued plan policy w port unit (q ∷ ps) zero p is at =
    let same : q ≡ p = cc (at) in
    (w, subst (λ (z : Packet). effect_by plan policy w port unit z ≡ effect.Queued) same (cc (is)))
each_queued plan policy w port unit (q ∷ ps) (suc n) p is at =
    each_queued plan policy (waiting_then (effect_by plan policy w port unit q) w) port unit ps n p is at

-- while some number of reads waited
pub was_queued : (plan : Plan) (h : History) (port : PortName) (r : WaitingRead) (q : QueuedAt plan h port r)
    → (k : ℕ) × (effect_by plan (policy_at plan q.older) k port q.unit q.at.packet ≡ effect.Queued)
was_queued plan h port r q =
    let by = accepted_by plan q.older q.event q.end q.unit q.effects q.cause.0 in
    let ends = unit_that_ends plan q.older q.event q.end q.unit by.packet by.came by.passed in
    let are : q.effects ≡ effects_of plan q.older q.end q.unit (unit_ended plan q.older q.event q.end q.unit) =
    by.effects_are ∙ ap (λ (ps : List Packet). effects_of plan q.older q.end q.unit ps) (sym ends) in
    let policy = policy_at plan q.older in
    let ps = unit_ended plan q.older q.event q.end q.unit in
    let at = subst (λ (z : PortName). slice_get (effects_each plan policy (policy.waiting z) z q.unit ps) q.at.number
    ≡ Some effect.Queued) q.at_port
    (ap (λ (es : List Effect). slice_get es q.at.number) (sym are) ∙ q.at.queues) in
    each_queued plan policy (policy.waiting port) port q.unit ps q.at.number q.at.packet at q.at.stands

off_switch : (plan : Plan) (policy : Policy) (k : ℕ) (port : PortName) (unit : UnitName) (p : Packet)
    → effect_by plan policy k port unit p ≡ effect.Queued → at_switch plan port ≡ false
off_switch plan policy k port unit p is = by (is_sync_packet p) (at_switch plan port) _ is
  where
    by : (a c : Bool) (x : Effect) → (if a then effect.Sync else if c then effect.Waiting else x) ≡ effect.Queued
        → c ≡ false
    by true c x is = absurd cc
    by false true x is = absurd cc
    by false false x is = refl

-- ---- where it came

-- an end at a switch is its own port
switch_stays : (plan : Plan) (side : Side) (line : ℕ) → at_switch plan (record { side = side; line = line }) ≡ true
    → port_of plan (record { side = side; line = line }) ≡ record { side = side; line = line }
unfolding port_of
switch_stays plan Host line is =
    let parts = and_parts (not (nat_lt line (length plan.links))) (nat_le 16 line && nat_lt line 24) is in
    let more : 16 ≤ line = grind (arith, nat_tests, parts.1) in
    let has : nat_lt line (length plan.links) ≡ false = grind (arith, parts.0) in
    let low : nat_lt line 8 ≡ false = grind (arith, nat_tests, more) in
    let near : nat_lt line 16 ≡ false = grind (arith, nat_tests, more) in
    let far : nat_lt line 24 ≡ true = grind (arith, parts.1) in
    let back : 16 + (line - 16) ≡ line = omega (arith, more) in
    rw (has, low, near, far) (ap host_port back)
switch_stays plan Device line is =
    let parts = and_parts (not (nat_lt line (length plan.links))) (nat_le 8 line && nat_lt line 16) is in
    let more : 8 ≤ line = grind (arith, nat_tests, parts.1) in
    let has : nat_lt line (length plan.links) ≡ false = grind (arith, parts.0) in
    let low : nat_lt line 8 ≡ false = grind (arith, nat_tests, more) in
    let near : nat_lt line 16 ≡ true = grind (arith, parts.1) in
    let back : 8 + (line - 8) ≡ line = omega (arith, more) in
    rw (has, low, near) (ap device_port back)

end_apart : (plan : Plan) (end : PortName) → at_switch plan (port_of plan end) ≡ false → at_switch plan end ≡ false
end_apart plan end off = by (at_switch plan end) refl
  where
    by : (b : Bool) → at_switch plan end ≡ b → b ≡ false
    by false is = refl
    by true is = absurd (true≢false
        (sym is ∙ (sym (ap (at_switch plan) (switch_stays plan end.side end.line is)) ∙ off)))

-- at an end of the port, which is at no switch, on a stream that its line has
pub record CameAt (plan : Plan) (port : PortName) (r : WaitingRead) : Type 0 where
  pub at_port : port_of plan r.came.end ≡ port
  pub port_apart : at_switch plan port ≡ false
  pub apart : at_switch plan r.came.end ≡ false
  pub known : has_stream plan r.came.end r.came.stream ≡ true

pub came_at : (plan : Plan) (h : History) (port : PortName) (r : WaitingRead) → QueuedAt plan h port r
    → CameAt plan port r
came_at plan h port r q =
    let is = was_queued plan h port r q in
    let off = off_switch plan (policy_at plan q.older) is.0 port q.unit q.at.packet is.1 in
    let by = accepted_by plan q.older q.event q.end q.unit q.effects q.cause.0 in
    let end : q.end ≡ r.came.end = ap (λ (c : ReadArrival). c.end) q.at.came in
    let stream : q.unit.stream ≡ r.came.stream = ap (λ (c : ReadArrival). c.stream) q.at.came in
    let named : q.unit.stream ≡ by.packet.prefix.stream = ap (λ (u : UnitName). u.stream) by.passed.named in
    record {
      at_port = ap (port_of plan) (sym end) ∙ q.at_port;
      port_apart = off;
      apart = end_apart plan r.came.end (ap (at_switch plan) (ap (port_of plan) (sym end) ∙ q.at_port) ∙ off);
      known = (λ i. has_stream plan (sym end i) ((sym stream ∙ named) i)) ∙ by.passed.known;
    }

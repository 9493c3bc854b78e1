-- A read that waits came on a stream of the end at which it came.
use Rattle.machine_ports.proofs.Terms.{
  ◌≡◌,
  ℕ,
  ◌==◌,
  Bool,
  true,
  false,
  List,
  [],
  ◌∷◌,
  ◌++◌,
  Option,
  Some,
  None,
  Result,
  Ok,
  Err,
}
use Rattle.machine_ports.proofs.Terms.{sym, subst, if◌then◌else◌, CauseLaw, has_stream, History, Packet, Plan, PortName}
use Rattle.machine_ports.proofs.Terms.{sealed_packets, SealedList, UnitName}
use Rattle.std.proofs.Common.{zero, suc}
use Rattle.std.specs.Prelude.{drop}
use Rattle.std.specs.List.{AllByRecursion}
use Rattle.script_events.specs.declared.event.Event.TheVariants.{Reset}
use Rattle.event_verdicts.specs.declared.verdict.Effect.{Effect}
use Rattle.event_verdicts.specs.declared.verdict.Effect.TheVariants as effect
use Rattle.event_verdicts.specs.declared.verdict.Verdict.TheVariants as v
use Rattle.tlp_layout.specs.declared.head.HeadView.{HeadView}
use Rattle.tlp_layout.specs.declared.fault.TlpFault.{TlpFault}
use Rattle.spec_links.specs.Terms.{WaitingRead, ReadArrival, ReadTarget, Span, MemReadView, memory_read, read_head_of}
use Rattle.spec_links.specs.Terms.{history_statuses}
use Rattle.spec_links.specs.Plan.{is_same_port}
use Rattle.spec_links.specs.Ports.{port_of}
use Rattle.spec_links.specs.Memory.{queued_reads, waiting_reads}
use Rattle.spec_links.specs.Sent.{arrival_of, read_of_target, read_in, reads_by, targets_at, unit_accepted, reads_taken}
unfoldable use Rattle.spec_links.specs.Sent.{queued_in}
use Rattle.spec_links.proofs.Causes.{accepted_by}

abbrev CameOnOwn : Plan → WaitingRead → Type 0
CameOnOwn plan r = has_stream plan r.came.end r.came.stream ≡ true

abbrev AllCameOnOwn : Plan → List WaitingRead → Type 0
AllCameOnOwn plan rs = AllByRecursion (CameOnOwn plan) rs

all_appended : (plan : Plan) (xs ys : List WaitingRead) → AllCameOnOwn plan xs → AllCameOnOwn plan ys
    → AllCameOnOwn plan (xs ++ ys)
all_appended plan [] ys one two = two
all_appended plan (x ∷ xs) ys one two = (one.0, all_appended plan xs ys one.1 two)

all_dropped : (plan : Plan) (n : ℕ) (xs : List WaitingRead) → AllCameOnOwn plan xs → AllCameOnOwn plan (drop n xs)
all_dropped plan zero xs all = all
all_dropped plan (suc n) [] all = tt
all_dropped plan (suc n) (x ∷ xs) all = all_dropped plan n xs all.1

all_if : (plan : Plan) (b : Bool) (xs ys : List WaitingRead) → AllCameOnOwn plan xs → AllCameOnOwn plan ys
    → AllCameOnOwn plan (if b then xs else ys)
all_if plan true xs ys one two = one
all_if plan false xs ys one two = two

read_known : (plan : Plan) (target : Span → Option ReadTarget) (came : ReadArrival)
    → has_stream plan came.end came.stream ≡ true → (o : Option MemReadView)
    → AllCameOnOwn plan (read_of_target target came o)
read_known plan target came known None = tt
read_known plan target came known (Some read) = (known, tt)

head_known : (plan : Plan) (target : Span → Option ReadTarget) (came : ReadArrival)
    → has_stream plan came.end came.stream ≡ true → (r : Result HeadView TlpFault)
    → AllCameOnOwn plan (read_in target came r)
head_known plan target came known (Err f) = tt
head_known plan target came known (Ok head) = read_known plan target came known (memory_read head)

unit_known : (plan : Plan) (target : Span → Option ReadTarget) (end : PortName) (unit : UnitName)
    → has_stream plan end unit.stream ≡ true → (es : List Effect) (ps : List Packet)
    → AllCameOnOwn plan (reads_by target end unit es ps)
unit_known plan target end unit known (effect.Queued ∷ es) (p ∷ ps) =
    all_appended plan (read_in target (arrival_of end unit p) (read_head_of p.head)) (reads_by target end unit es ps)
    (head_known plan target (arrival_of end unit p) known (read_head_of p.head))
    (unit_known plan target end unit known es ps)
unit_known plan target end unit known (e ∷ es) (p ∷ ps) = unit_known plan target end unit known es ps
unit_known plan target end unit known _ _ = tt

queued_known : (plan : Plan) (xs : SealedList) (h : History) → CauseLaw plan h → (port : PortName)
    → AllCameOnOwn plan (queued_in plan xs h port)
unfolding queued_in
queued_known plan xs [] cause port = tt
queued_known plan xs ((e, v.Accepted end unit effects) ∷ h) cause port =
    let passed = (accepted_by plan h e end unit effects cause.0).passed in
    let known : has_stream plan end unit.stream ≡ true =
    subst (λ (u : UnitName). has_stream plan end u.stream ≡ true) (sym passed.named) passed.known in
    let before = queued_known plan xs h cause.1 port in
    all_if plan (is_same_port (port_of plan end) port) _ (queued_in plan xs h port)
    (all_appended plan (queued_in plan xs h port) _ before
    (unit_known plan (targets_at port.side (history_statuses plan h port.line)) end unit known effects
    (unit_accepted plan xs h e end unit)))
    before
queued_known plan xs ((Reset k ends, v.Reset l) ∷ h) cause port =
    all_if plan (l == port.line) [] (queued_in plan xs h port) tt (queued_known plan xs h cause.1 port)
queued_known plan xs (_ ∷ h) cause port = queued_known plan xs h cause.1 port

pub waiting_known : (plan : Plan) (h : History) → CauseLaw plan h → (port : PortName) (r : WaitingRead)
    (rs : List WaitingRead)
    → waiting_reads plan h port ≡ r ∷ rs → has_stream plan r.came.end r.came.stream ≡ true
waiting_known plan h cause port r rs waits =
    (subst (AllCameOnOwn plan) waits (all_dropped plan (reads_taken h port) (queued_reads plan h port)
    (queued_known plan (sealed_packets plan h) h cause port))).0

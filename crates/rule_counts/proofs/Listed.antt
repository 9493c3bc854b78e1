-- Each rule that can answer stands once in the list: by cases on the verdict, each name by itself.
use Rattle.std.proofs.Common.{ℕ, Bool, true, false, List, [], ◌∷◌, Option, Some, None, refl}
use Rattle.std.specs.List.{AllByRecursion}
use Rattle.std.specs.Prelude.{if◌then◌else◌, map, nat_lt}
use Rattle.ide_types.specs.{Text, is_link_line, is_same_sub}
use Rattle.ide_types.specs.declared.port.PortName.{PortName}
use Rattle.ide_types.specs.declared.port.Side.{Side}
use Rattle.ide_types.specs.declared.port.Side.TheVariants.{Host, Device}
use Rattle.ide_types.specs.declared.sub.SubKind.{SubKind}
use Rattle.ide_types.specs.declared.sub.SubKind.TheVariants.{Pr, Npr, Cpl}
use Rattle.ide_types.specs.declared.sub.FailCause.{FailCause}
use Rattle.ide_types.specs.declared.sub.FailCause.TheVariants as fail
use Rattle.ide_types.specs.declared.verdict.InterfaceVerdict.{InterfaceVerdict}
use Rattle.ide_types.specs.declared.verdict.InterfaceVerdict.TheVariants as iv
use Rattle.script_events.specs.declared.event.Event.{Event}
use Rattle.script_events.specs.declared.event.Event.TheVariants as event
use Rattle.script_events.specs.declared.event.InterfaceEvent.{InterfaceEvent}
use Rattle.script_events.specs.declared.event.InterfaceEvent.TheVariants as ie
use Rattle.script_events.specs.declared.event.AccessEvent.{AccessEvent}
use Rattle.script_events.specs.declared.event.AccessEvent.TheVariants as ae
use Rattle.event_verdicts.specs.declared.verdict.Verdict.{Verdict}
use Rattle.event_verdicts.specs.declared.verdict.BlockCause.{BlockCause}
use Rattle.event_verdicts.specs.declared.verdict.Effect.{Effect}
use Rattle.event_verdicts.specs.declared.access.AccessVerdict.{AccessVerdict}
use Rattle.event_verdicts.specs.declared.access.AccessVerdict.TheVariants as av
use Rattle.event_verdicts.specs.declared.verdict.Verdict.TheVariants as v
use Rattle.event_verdicts.specs.declared.verdict.BlockCause.TheVariants as cause
use Rattle.event_verdicts.specs.declared.verdict.Effect.TheVariants as effect
use Rattle.told_facts.specs.declared.fact.Fact.{Fact}
use Rattle.why_facts.specs.{effect_rule_of, rule_of}
use Rattle.why_facts.specs.Rules.{access_rule, answer_rule, arriving_rule, asked_rule, by_side, class_of_first}
use Rattle.why_facts.specs.Rules.{class_of_second, device_dropped_rule, fail_rule, host_cause_rule, host_dropped_rule}
use Rattle.why_facts.specs.Rules.{interface_rule, is_host_end, key_rule, line_rule, mmio_cause_rule, operation_rule}
use Rattle.why_facts.specs.Rules.{read_cause_rule, refreshed_rule, refused_rule, sending_rule, unanswered_rule}
use Rattle.why_facts.specs.Rules.{unless_none, unnamed_rule, write_cause_rule}
use Rattle.rule_counts.specs.Laws.{IsListed, RulesAreListed}
use Rattle.rule_counts.specs.Told.{effect_rules, event_rules}

by_test : (b : Bool) (x y : Text) → IsListed x → IsListed y → IsListed (if b then x else y)
by_test true x y one other = one
by_test false x y one other = other

key_listed : (class : Option SubKind) (u : SubKind) → IsListed (key_rule class u)
key_listed None u = refl
key_listed (Some class) u = by_test (is_same_sub class u) _ _ refl refl

sending_listed : (class : Option SubKind) (w : Verdict) (other : Text) → IsListed other
    → IsListed (sending_rule class w other)
sending_listed class (v.Malformed port word place) other is = refl
sending_listed class (v.Plain port) other is = refl
sending_listed class v.RefusedInsecure other is = refl
sending_listed class (v.RefusedNoKey u) other is = key_listed class u
sending_listed class v.RefusedUnfinished other is = refl
sending_listed class (v.RefusedWorn u units) other is = refl
sending_listed class (v.Sealed ds) other is = refl
sending_listed class w other is = is

fail_listed : (c : FailCause) → IsListed (fail_rule c)
fail_listed fail.Key = refl
fail_listed fail.Unit = refl
fail_listed fail.Tag = refl
fail_listed fail.Order = refl

arriving_listed : (w : Verdict) → IsListed (arriving_rule w)
arriving_listed (v.Fail port stream sub c) = fail_listed c
arriving_listed w = refl

line_listed : (line : ℕ) (rule : Text) → IsListed rule → IsListed (line_rule line rule)
line_listed line rule is = by_test (is_link_line line) _ _ is (by_test (nat_lt line 24) _ _ refl refl)

operation_listed : (line : ℕ) (refusal : Text) (w : Verdict) → IsListed refusal
    → IsListed (operation_rule line refusal w)
operation_listed line refusal v.Nothing is = refl
operation_listed line refusal (v.LostRequest n) is = refl
operation_listed line refusal (v.LostReply n) is = refl
operation_listed line refusal (v.RefusedDevice n code) is = refl
operation_listed line refusal (v.RefusedBusy kind o) is = line_listed line _ refl
operation_listed line refusal (v.Established l s j) is = line_listed line _ refl
operation_listed line refusal (v.Refreshed l s j) is = line_listed line _ refl
operation_listed line refusal (v.Stopped l s) is = line_listed line _ refl
operation_listed line refusal w is = line_listed line refusal is

asked_listed : (e : InterfaceEvent) → IsListed (asked_rule e)
asked_listed (ie.Lock i loss) = refl
asked_listed (ie.Report i loss) = refl
asked_listed (ie.Start i loss) = refl
asked_listed (ie.Halt i loss) = refl
asked_listed (ie.State i loss) = refl
asked_listed (ie.Bind i line stream loss) = refl
asked_listed (ie.Unbind i line stream loss) = refl
asked_listed (ie.View i) = refl
asked_listed (ie.Write i register value) = refl
asked_listed (ie.Flr i) = refl
asked_listed (ie.Firmware i) = refl
asked_listed (ie.Memory at len) = refl

unnamed_listed : (e : InterfaceEvent) → IsListed (unnamed_rule e)
unnamed_listed (ie.Memory at len) = refl
unnamed_listed e = refl

interface_listed : (e : InterfaceEvent) (w : Verdict) → IsListed (interface_rule e w)
interface_listed e v.Nothing = unnamed_listed e
interface_listed e (v.LostRequest n) = refl
interface_listed e (v.LostReply n) = refl
interface_listed e (v.RefusedDevice n code) = refl
interface_listed e w = asked_listed e

by_side_listed : (side : Side) (host device : Text) → IsListed host → IsListed device
    → IsListed (by_side side host device)
by_side_listed Host host device one other = one
by_side_listed Device host device one other = other

host_dropped_listed : (c : BlockCause) → IsListed (host_dropped_rule c)
host_dropped_listed cause.NotRunning = refl
host_dropped_listed cause.WrongStream = refl
host_dropped_listed c = refl

device_dropped_listed : (c : BlockCause) → IsListed (device_dropped_rule c)
device_dropped_listed cause.NotTrusted = refl
device_dropped_listed cause.NotRunning = refl
device_dropped_listed cause.WrongStream = refl
device_dropped_listed cause.Moved = refl
device_dropped_listed c = refl

refused_listed : (side : Side) → IsListed (refused_rule side)
refused_listed side = by_side_listed side _ _ refl refl

unanswered_listed : (side : Side) (w : AccessVerdict) → IsListed (unanswered_rule side w)
unanswered_listed side (av.Empty link) = by_side_listed side _ _ refl refl
unanswered_listed side (av.Dropped interface c) =
    by_side_listed side _ _ (host_dropped_listed c) (device_dropped_listed c)
unanswered_listed side (av.Mmio bytes) = refused_listed side

refreshed_listed : (side : Side) (w : InterfaceVerdict) → IsListed (refreshed_rule side w)
refreshed_listed side (iv.RefusedRefreshFirst draw needed) = by_side_listed side _ _ refl refl
refreshed_listed side w = refused_listed side

answer_listed : (side : Side) (w : Verdict) → IsListed (answer_rule side w)
answer_listed side v.Nothing = by_side_listed side _ _ refl refl
answer_listed side (v.Access w) = unanswered_listed side w
answer_listed side (v.Interface w) = refreshed_listed side w
answer_listed side (v.Sealed ds) = by_side_listed side _ _ refl refl
answer_listed side w = refused_listed side

access_listed : (e : AccessEvent) (w : Verdict) → IsListed (access_rule e w)
access_listed (ae.Answer link) w = answer_listed Host w
access_listed (ae.Respond link) w = answer_listed Device w
access_listed (ae.Mmio interface bar offset len) w = refl

none_listed : (rule : Text) (w : Verdict) → IsListed rule → IsListed (unless_none rule w)
none_listed rule v.Nothing is = refl
none_listed rule w is = is

answers_listed : (e : Event) (w : Verdict) (xs : List Fact) → IsListed (rule_of e w xs)
answers_listed (event.Establish line stream loss) w xs = operation_listed line _ w refl
answers_listed (event.Refresh line stream loss) w xs = operation_listed line _ w refl
answers_listed (event.Stop line stream loss) w xs = operation_listed line _ w refl
answers_listed (event.Send port bytes more trusted) w xs = sending_listed (class_of_first xs) w _ refl
answers_listed (event.Forward link d) w xs = sending_listed (class_of_second xs) w _ refl
answers_listed (event.Pass n) w xs = arriving_listed w
answers_listed (event.Alter n at mask) w xs = arriving_listed w
answers_listed (event.Cut n len) w xs = arriving_listed w
answers_listed (event.Arrive port bytes) w xs = arriving_listed w
answers_listed (event.Dump n) w xs = none_listed _ w refl
answers_listed (event.Reset link ends) w xs = none_listed _ w refl
answers_listed (event.Status line stream) w xs = none_listed _ w refl
answers_listed (event.Interface e) w xs = interface_listed e w
answers_listed (event.Access e) w xs = access_listed e w
answers_listed event.Absent w xs = refl

-- ---- effects

write_listed : (c : BlockCause) → IsListed (write_cause_rule c)
write_listed cause.NotTrusted = refl
write_listed cause.NotRunning = refl
write_listed cause.WrongStream = refl
write_listed cause.Stale = refl
write_listed cause.Outside = refl
write_listed cause.Crosses = refl
write_listed cause.Full = refl
write_listed cause.Moved = refl

read_listed : (c : BlockCause) → IsListed (read_cause_rule c)
read_listed cause.NotTrusted = refl
read_listed cause.NotRunning = refl
read_listed cause.WrongStream = refl
read_listed cause.Stale = refl
read_listed cause.Outside = refl
read_listed cause.Crosses = refl
read_listed cause.Full = refl
read_listed cause.Moved = refl

mmio_listed : (c : BlockCause) → IsListed (mmio_cause_rule c)
mmio_listed cause.NotTrusted = refl
mmio_listed cause.NotRunning = refl
mmio_listed cause.WrongStream = refl
mmio_listed cause.Stale = refl
mmio_listed cause.Outside = refl
mmio_listed cause.Crosses = refl
mmio_listed cause.Full = refl
mmio_listed cause.Moved = refl

host_listed : (sub : SubKind) (c : BlockCause) → IsListed (host_cause_rule sub c)
host_listed Npr c = read_listed c
host_listed Pr c = write_listed c
host_listed Cpl c = write_listed c

effects_listed : (port : PortName) (sub : SubKind) (e : Effect) → IsListed (effect_rule_of port sub e)
effects_listed port sub effect.Applied = refl
effects_listed port sub effect.Queued = refl
effects_listed port sub effect.Stored = refl
effects_listed port sub effect.Waiting = refl
effects_listed port sub (effect.Blocked c) = by_test (is_host_end port) _ _ (host_listed sub c) (mmio_listed c)
effects_listed port sub effect.Sync = refl
effects_listed port sub effect.Delivered = refl

pub rules_listed : RulesAreListed
rules_listed = record { answers = answers_listed; effects = effects_listed }

-- ---- of an event

all_effects : (port : PortName) (sub : SubKind) (es : List Effect)
    → AllByRecursion IsListed (map (effect_rule_of port sub) es)
all_effects port sub [] = tt
all_effects port sub (e ∷ es) = (effects_listed port sub e, all_effects port sub es)

of_verdict : (w : Verdict) → AllByRecursion IsListed (effect_rules w)
of_verdict (v.Accepted port unit effects) = all_effects port unit.sub effects
of_verdict w = tt

pub event_listed : (e : Event) (w : Verdict) (xs : List Fact) → AllByRecursion IsListed (event_rules e w xs)
event_listed e w xs = (answers_listed e w xs, of_verdict w)

-- The one verdict that an operation or a reset gets after a history.
use Rattle.std.specs.Prelude.{◌+◌, ◌-◌, ◌==◌, ◌∷◌, ◌&&◌, if◌then◌else◌, ℕ, suc, zero, nat_lt, Bool, false, Option}
use Rattle.std.specs.Prelude.{Some, None, List, []}
use Rattle.spec_keys.specs.Terms.{option_or, unwrap_or, SubKind, Pr, Npr, Cpl, Host, Event, Loss, Lost, Request, Reply}
use Rattle.spec_keys.specs.Terms.{Operation, StreamStatus, Verdict}
use Rattle.script_events.specs.declared.event.Event.TheVariants as event
use Rattle.event_verdicts.specs.declared.verdict.Operation.TheVariants as op
use Rattle.ide_types.specs.declared.status.StreamStatus.TheVariants as status
use Rattle.event_verdicts.specs.declared.verdict.Verdict.TheVariants as v
use Rattle.ide_types.specs.Lines.{is_hosted, is_link_line, line_kind}
use Rattle.spec_keys.specs.Places.{KeyPlan, KeyPlace, key_place_at, told_places}
use Rattle.spec_keys.specs.Keys.{refuses, refusal_if, is_live_draw}
use Rattle.spec_keys.specs.Operations.{StreamStage, Idle, Establishing, Up, Refreshing, Stopping, Work, work_of}
use Rattle.spec_keys.specs.Operations.{last_exchange_of}
use Rattle.spec_keys.specs.History.{History, op_of, draws, program_exchange, place_keys, history_slot, history_status}

-- what an operation reads of the ports: the status with which a place refuses a KEY_PROG of a set, and in which sets it
-- is Live
pub record PortView : Type 0 where
  pub refusal : KeyPlace → Bool → Option ℕ
  pub is_live : KeyPlace → Bool → Bool

abbrev pub ports_at : History → PortView
ports_at h = record {
  refusal = λ p set. refusal_if (refuses p.sends (place_keys h p) set);
  is_live = λ p set. is_live_draw (history_slot h p set);
}

-- ---- the exchanges

-- what is lost of the exchange of this number
abbrev pub lost_message : Option Loss → ℕ → Option Lost
lost_message None n = None
lost_message (Some loss) n = if loss.exchange == n then Some loss.lost else None

abbrev pub first_status : (KeyPlace → Option ℕ) → List KeyPlace → Option ℕ
first_status status [] = None
first_status status (p ∷ ps) = option_or (status p) (first_status status ps)

-- the status with which an end refuses an exchange: that of a KEY_PROG at a place that refuses it
abbrev pub refusal_at : PortView → Operation → Bool → ℕ → ℕ → ℕ → Option ℕ
refusal_at ports op.Stop set line stream n = None
refusal_at ports o set line stream n = first_status
    (λ p. if program_exchange o p == n then ports.refusal p set else None)
    (told_places (is_hosted line) line stream)

abbrev pub lost_at : Lost → ℕ → Verdict
lost_at Request n = v.LostRequest n
lost_at Reply n = v.LostReply n

-- the verdict of an operation that stays at the exchange, if its message is lost or its end refuses it; a loss comes
-- before a refusal
abbrev pub cut_at : Option Lost → Option ℕ → ℕ → Option Verdict
cut_at (Some lost) status n = Some (lost_at lost n)
cut_at None (Some status) n = Some (v.RefusedDevice n status)
cut_at None None n = None

-- the first that one of so many exchanges gives, from this one on
abbrev pub first_from : (ℕ → Option Verdict) → ℕ → ℕ → Option Verdict
first_from cut n zero = None
first_from cut n (suc more) = option_or (cut n) (first_from cut (n + 1) more)

abbrev pub finished_verdict : ℕ → ℕ → Work → Verdict
finished_verdict line stream w = by_operation w.operation
  where
    by_operation : Operation → Verdict
    by_operation op.Establish = v.Established line stream w.draw
    by_operation op.Refresh = v.Refreshed line stream w.draw
    by_operation op.Stop = v.Stopped line stream

-- the verdict of an operation that stays at an exchange
abbrev pub stays : PortView → ℕ → ℕ → Option Loss → Work → Option Verdict
stays ports line stream loss w =
    first_from (λ n. cut_at (lost_message loss n) (refusal_at ports w.operation w.set line stream n) n) w.first
    (last_exchange_of (is_hosted line) w.operation + 1 - w.first)

abbrev pub operation_verdict : PortView → ℕ → ℕ → Option Loss → Work → Verdict
operation_verdict ports line stream loss w = unwrap_or (stays ports line stream loss w) (finished_verdict line stream w)

-- ---- refusals at the beginning

abbrev pub begun_if_pool_has : KeyPlan → ℕ → Verdict → Verdict
begun_if_pool_has plan next verdict = if nat_lt next plan.pool then verdict else v.RefusedPoolEmpty next

-- the sub-stream, PR first, whose Live key at the near sender is in the set that is to be programmed
abbrev pub is_live_sender : PortView → ℕ → ℕ → Bool → SubKind → Bool
is_live_sender ports line stream set u = ports.is_live (key_place_at Host line stream false u) set

abbrev pub unless_open : PortView → ℕ → ℕ → Bool → Verdict → Verdict
unless_open ports line stream set verdict =
    if is_live_sender ports line stream set Pr then v.RefusedUnitOpen Pr
    else if is_live_sender ports line stream set Npr then v.RefusedUnitOpen Npr
    else if is_live_sender ports line stream set Cpl then v.RefusedUnitOpen Cpl
    else verdict

abbrev pub if_secure : StreamStatus → Verdict → Verdict
if_secure status.Secure verdict = verdict
if_secure s verdict = v.RefusedNotSecure s

abbrev pub may_establish : KeyPlan → ℕ → ℕ → StreamStage → Verdict → Verdict
may_establish plan line next Idle verdict = begun_if_pool_has plan next verdict
may_establish plan line next (Establishing j n) verdict = verdict
may_establish plan line next (Up set j) verdict = v.RefusedNotIdle
may_establish plan line next (Refreshing set j n) verdict = v.RefusedBusy (line_kind line) op.Refresh
may_establish plan line next (Stopping n) verdict = v.RefusedBusy (line_kind line) op.Stop

abbrev pub may_refresh : KeyPlan → ℕ → ℕ → StreamStage → StreamStatus → (Verdict → Verdict) → Verdict → Verdict
may_refresh plan line next Idle host unless_busy verdict = v.RefusedNotSecure host
may_refresh plan line next (Establishing j n) host unless_busy verdict = v.RefusedBusy (line_kind line) op.Establish
may_refresh plan line next (Up set j) host unless_busy verdict =
    if_secure host (unless_busy (begun_if_pool_has plan next verdict))
may_refresh plan line next (Refreshing set j n) host unless_busy verdict = verdict
may_refresh plan line next (Stopping n) host unless_busy verdict = v.RefusedBusy (line_kind line) op.Stop

-- ---- the verdict, from what stands: the state of the stream, the number of draws, the ports, the host's status

abbrev pub establish_on : KeyPlan → StreamStage → ℕ → PortView → ℕ → ℕ → Option Loss → Verdict
establish_on plan o next ports line stream loss = may_establish plan line next o
    (operation_verdict ports line stream loss
    (work_of op.Establish o next))

abbrev pub refresh_on : KeyPlan → StreamStage → ℕ → PortView → StreamStatus → ℕ → ℕ → Option Loss → Verdict
refresh_on plan o next ports host line stream loss =
    let w = work_of op.Refresh o next in
    may_refresh plan line next o host (unless_open ports line stream w.set) (operation_verdict ports line stream loss w)

abbrev pub stop_on : StreamStage → ℕ → PortView → ℕ → ℕ → Option Loss → Verdict
stop_on o next ports line stream loss = operation_verdict ports line stream loss (work_of op.Stop o next)

-- the stream is a link's: no other has a refresh
abbrev pub has_refresh : KeyPlan → ℕ → ℕ → Bool
has_refresh plan line stream = is_link_line line && plan.has_stream line stream

-- the verdict that is due; of any other event it is given
unfoldable pub key_due : KeyPlan → History → Event → Verdict → Verdict
key_due plan h (event.Establish line stream loss) given =
    if plan.has_stream line stream then establish_on plan (op_of h line stream) (draws h) (ports_at h) line stream loss
    else v.Nothing
key_due plan h (event.Refresh line stream loss) given =
    if has_refresh plan line stream then refresh_on plan (op_of h line stream) (draws h) (ports_at h)
    (history_status h Host line stream) line stream loss else v.Nothing
key_due plan h (event.Stop line stream loss) given =
    if plan.has_stream line stream then stop_on (op_of h line stream) (draws h) (ports_at h) line stream loss
    else v.Nothing
key_due plan h (event.Reset link ends) given = if plan.has_link link then v.Reset link else v.Nothing
key_due plan h _ given = given

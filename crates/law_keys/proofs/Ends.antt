-- What stands at the end of an operation.
use Rattle.law_keys.proofs.Terms.{◌≡◌, ℕ, Bool, true, false, Option, Some, List, [], ◌∷◌, refl, ap, sym, ◌∙◌, arith}
use Rattle.law_keys.proofs.Terms.{if◌then◌else◌, Host, Event, Loss, StreamStatus, Verdict, KeyPlan, KeyPlace}
use Rattle.law_keys.proofs.Terms.{is_on_stream, Touch, Keys, keys, key_in, draw_of_keyed, on_in, StreamStage, Idle}
use Rattle.law_keys.proofs.Terms.{Establishing, Up, Refreshing, Stopping, whole, work_of, op_after_reach, History}
use Rattle.law_keys.proofs.Terms.{is_hosted, manager, op_of, draws, work_touches, touches_after, moments, kept_draw}
use Rattle.law_keys.proofs.Terms.{draw_on_at, history_status, PortView, ports_at, establish_on, refresh_on, key_due}
use Rattle.law_keys.proofs.Terms.{finished_verdict, is_cut, performed_is, may_establish, may_refresh, unless_open, ◌⊎◌}
use Rattle.law_keys.proofs.Terms.{KeyCauseLaw, OperationsSettle, SettledAt, same-true, Alone, IsAt, FitsAt}
use Rattle.law_keys.proofs.Terms.{establish_ends, establish_takes, establish_begins, establish_goes_on, fits, elsewhere}
use Rattle.script_events.specs.declared.event.Event.TheVariants as event
use Rattle.event_verdicts.specs.declared.verdict.Operation.TheVariants as op
use Rattle.event_verdicts.specs.declared.verdict.Verdict.TheVariants as v
use Rattle.law_keys.proofs.States.{keys_follow_operations}

-- ---- the operation that ended

on_its_stream : (p : KeyPlace) → is_on_stream p p.line p.stream ≡ true
on_its_stream p = rw (same-true p.line, same-true p.stream) refl

pub on_same : (p : KeyPlace) (line stream : ℕ) → (p.line ≡ line) × (p.stream ≡ stream) → is_on_stream p line stream
    ≡ true
on_same p line stream same = elsewhere p line stream (λ (x y : ℕ). is_on_stream p x y ≡ true) same (on_its_stream p)

stopped_op : (line : ℕ) (q : StreamStage) (next : ℕ)
    → op_after_reach (is_hosted line) (work_of op.Stop q next) (whole line op.Stop) ≡ Idle
stopped_op line q next = grind arith

-- the verdict names the line of the event
stopped_on : (has : Bool) (line stream : ℕ) (q : StreamStage) (next : ℕ) (x : Verdict) (l t : ℕ)
    → (x ≡ finished_verdict line stream (work_of op.Stop q next)) ⊎ (is_cut x ≡ true)
    → v.Stopped l t ≡ (if has then x else v.Nothing) → l ≡ line
stopped_on has line stream q next x l t performs is = grind arith

stop_settles : (plan : KeyPlan) (h : History) (line stream : ℕ) (loss : Option Loss) (l t : ℕ)
    → KeyCauseLaw plan ((event.Stop line stream loss, v.Stopped l t) ∷ h)
    → SettledAt h (event.Stop line stream loss) (v.Stopped l t)
unfolding manager key_due
stop_settles plan h line stream loss l t cause p on_link on_id set =
    let kind = stopped_on (plan.has_stream line stream) line stream (op_of h line stream) (draws h) _ l t
    (performed_is (ports_at h) line stream loss (work_of op.Stop (op_of h line stream) (draws h))) cause.0 in
    (keys_follow_operations plan _ cause).idle p
    (rw (on_same p line stream (on_link, on_id), kind) (stopped_op line (op_of h line stream) (draws h))) set

-- ---- a refresh

pub refreshed_op : (line : ℕ) (q : StreamStage) (next : ℕ)
    → op_after_reach (is_hosted line) (work_of op.Refresh q next) (whole line op.Refresh)
    ≡ Up (work_of op.Refresh q next).set (work_of op.Refresh q next).draw
refreshed_op line q next = grind arith

pub refreshed_as : (has : Bool) (plan : KeyPlan) (q : StreamStage) (next : ℕ) (ports : PortView) (host : StreamStatus)
    (line stream : ℕ) (x : Verdict) (l t j : ℕ)
    → (x ≡ finished_verdict line stream (work_of op.Refresh q next)) ⊎ (is_cut x ≡ true) → v.Refreshed l t j
    ≡ (if has then may_refresh plan line next q host (unless_open ports line stream (work_of op.Refresh q next).set) x
    else v.Nothing)
    → (l ≡ line) × (j ≡ (work_of op.Refresh q next).draw)
refreshed_as has plan q next ports host line stream x l t j performs is = grind arith

refreshed_draw : (has : Bool) (plan : KeyPlan) (q : StreamStage) (next : ℕ) (ports : PortView) (host : StreamStatus)
    (line stream : ℕ) (loss : Option Loss) (l t j : ℕ)
    → v.Refreshed l t j ≡ (if has then refresh_on plan q next ports host line stream loss else v.Nothing)
    → (l ≡ line) × (j ≡ (work_of op.Refresh q next).draw)
refreshed_draw has plan q next ports host line stream loss l t j is = refreshed_as has plan q next ports host line
    stream _ l t j (performed_is ports line stream loss (work_of op.Refresh q next)) is

refresh_settles : (plan : KeyPlan) (h : History) (line stream : ℕ) (loss : Option Loss) (l t j : ℕ)
    → KeyCauseLaw plan ((event.Refresh line stream loss, v.Refreshed l t j) ∷ h)
    → SettledAt h (event.Refresh line stream loss) (v.Refreshed l t j)
unfolding manager key_due
refresh_settles plan h line stream loss l t j cause =
    let draw = refreshed_draw _ plan (op_of h line stream) (draws h) (ports_at h) (history_status h Host line stream)
    line
    stream loss l t j cause.0 in
    let w = work_of op.Refresh (op_of h line stream) (draws h) in (
      draw.1,
      λ p on_link on_id. (keys_follow_operations plan _ cause).up p w.set j
          (rw (on_same p line stream (on_link, on_id), draw.0)
          (refreshed_op line (op_of h line stream) (draws h) ∙ ap (Up w.set) (sym draw.1))),
    )

-- ---- an establish

established_as : (plan : KeyPlan) (q : StreamStage) (next line stream : ℕ) (x : Verdict) (l t j : ℕ)
    → (x ≡ finished_verdict line stream (work_of op.Establish q next)) ⊎ (is_cut x ≡ true)
    → v.Established l t j ≡ may_establish plan line next q x → (l ≡ line) × (j ≡ (work_of op.Establish q next).draw)
established_as plan q next line stream x l t j performs is = grind arith

established_draw : (plan : KeyPlan) (h : History) (line stream : ℕ) (loss : Option Loss) (l t j : ℕ)
    → v.Established l t j ≡ key_due plan h (event.Establish line stream loss) (v.Established l t j)
    → (l ≡ line) × (j ≡ (work_of op.Establish (op_of h line stream) (draws h)).draw)
    × (v.Established l t j ≡ establish_on plan (op_of h line stream) (draws h) (ports_at h) line stream loss)
unfolding key_due
established_draw plan h line stream loss l t j is = by_has (plan.has_stream line stream) is
  where
    by_has : (has : Bool) → v.Established l t j
        ≡ (if has then establish_on plan (op_of h line stream) (draws h) (ports_at h) line stream loss else v.Nothing)
        → (l ≡ line) × (j ≡ (work_of op.Establish (op_of h line stream) (draws h)).draw)
        × (v.Established l t j ≡ establish_on plan (op_of h line stream) (draws h) (ports_at h) line stream loss)
    by_has true is =
        let named = established_as plan (op_of h line stream) (draws h) line stream _ l t j
        (performed_is (ports_at h) line stream loss (work_of op.Establish (op_of h line stream) (draws h))) is in
        (named.0, named.1, is)
    by_has false is = absurd cc

-- an establish that ended left its key alone
established_alone : (plan : KeyPlan) (q : StreamStage) (next : ℕ) (p : KeyPlace) (ts : List Touch) (ports : PortView)
    (loss : Option Loss) (l t j : ℕ) → FitsAt q next p ts → v.Established l t j
    ≡ establish_on plan q next ports p.line p.stream loss
    → IsAt p.sends (touches_after ts (work_touches (work_of op.Establish q next) (Some (whole p.line op.Establish)) p))
    (Alone false (work_of op.Establish q next).draw)
established_alone plan Idle next p ts ports loss l t j at is =
    let from = establish_begins p ts next at in
    establish_ends p ts next 1 true (whole p.line op.Establish) (omega arith) (omega arith)
    (establish_takes p ts next 1 true (whole p.line op.Establish) from) from
established_alone plan (Establishing i n) next p ts ports loss l t j at is =
    let from = establish_goes_on p ts next i n at in
    establish_ends p ts i n false (whole p.line op.Establish) (omega arith) (omega (arith, at.fits.1))
    (establish_takes p ts i n false (whole p.line op.Establish) from) from
established_alone plan (Up set i) next p ts ports loss l t j at is = absurd cc
established_alone plan (Refreshing set i n) next p ts ports loss l t j at is = absurd cc
established_alone plan (Stopping n) next p ts ports loss l t j at is = absurd cc

alone_there : (plan : KeyPlan) (h : History) (p : KeyPlace) (loss : Option Loss) (l t j : ℕ)
    → KeyCauseLaw plan ((event.Establish p.line p.stream loss, v.Established l t j) ∷ h)
    → IsAt p.sends (moments ((event.Establish p.line p.stream loss, v.Established l t j) ∷ h) p) (Alone false j)
unfolding moments
alone_there plan h p loss l t j cause =
    let named = established_draw plan h p.line p.stream loss l t j cause.0 in
    rw (on_its_stream p, named.0, named.1)
    (established_alone plan (op_of h p.line p.stream) (draws h) p (moments h p) (ports_at h) loss l t j
    (fits plan h cause.2 p) named.2)

alone_kept : (s : Bool) (ts : List Touch) (j : ℕ) (set : Bool) (i : ℕ) → IsAt s ts (Alone false j)
    → draw_of_keyed (key_in (keys s ts) set) ≡ Some i → i ≡ j
alone_kept s ts j set i is kept = grind arith

establish_settles : (plan : KeyPlan) (h : History) (line stream : ℕ) (loss : Option Loss) (l t j : ℕ)
    → KeyCauseLaw plan ((event.Establish line stream loss, v.Established l t j) ∷ h)
    → SettledAt h (event.Establish line stream loss) (v.Established l t j)
establish_settles plan h line stream loss l t j cause =
    ((established_draw plan h line stream loss l t j cause.0).1, places)
  where
    places : (p : KeyPlace) → p.line ≡ line → p.stream ≡ stream
        → (draw_on_at ((event.Establish line stream loss, v.Established l t j) ∷ h) p false ≡ Some j)
        × ((set : Bool) (i : ℕ) → kept_draw ((event.Establish line stream loss, v.Established l t j) ∷ h) p set ≡ Some i
        → i ≡ j)
    places p on_link on_id =
        let is = elsewhere p line stream
        (λ (x y : ℕ). KeyCauseLaw plan ((event.Establish x y loss, v.Established l t j) ∷ h)
        → IsAt p.sends (moments ((event.Establish x y loss, v.Established l t j) ∷ h) p) (Alone false j))
        (on_link, on_id) (alone_there plan h p loss l t j) cause in
        (ap (λ (ks : Keys). on_in ks.first) is.are, λ set i kept. alone_kept p.sends _ j set i is kept)

-- ---- all pairs

settled_at : (plan : KeyPlan) (h : History) (e : Event) (x : Verdict) → KeyCauseLaw plan ((e, x) ∷ h) → SettledAt h e x
settled_at plan h (event.Establish line stream loss) (v.Established l t j) cause = establish_settles plan h line stream
    loss l t j cause
settled_at plan h (event.Refresh line stream loss) (v.Refreshed l t j) cause = refresh_settles plan h line stream loss l
    t j cause
settled_at plan h (event.Stop line stream loss) (v.Stopped l t) cause = stop_settles plan h line stream loss l t cause
settled_at plan h _ _ cause = tt

pub settles : (plan : KeyPlan) (h : History) → KeyCauseLaw plan h → OperationsSettle h
settles plan [] cause = tt
settles plan ((e, x) ∷ h) cause = (settled_at plan h e x cause, settles plan h cause.2)

-- After each pair of a history each place fits the state of its stream. By induction on the history, and for each kind
-- of event by the operation's state and how far it comes; on other streams nothing changes but the number of draws. The
-- hard case is a refresh, in which each place has to take the key (Takes); sends and arrivals use only keys that are
-- Live or On, as is supposed of them, and those are of draws that were made.
use Rattle.spec_keys.specs.Due.{has_refresh}
use Rattle.spec_keys.proofs.Terms.{and-false, ◌≡◌, ℕ, suc, ◌≤◌, ◌==◌, ◌⊎◌, inl, inr, Bool, true, false, Option, Some}
use Rattle.spec_keys.proofs.Terms.{None, List, [], ◌∷◌, ◌++◌, length, refl, subst, arith, nat_lt, not, ◌&&◌}
use Rattle.spec_keys.proofs.Terms.{if◌then◌else◌, SubKind, Pr, Npr, Cpl, Host, Event, Loss, Operation, SealedPacket}
use Rattle.spec_keys.proofs.Terms.{Verdict, KeyPlan, KeyPlace, is_same_side, is_same_sub, is_on_stream, Touch, Seal}
use Rattle.spec_keys.proofs.Terms.{Accept, Clear, keys, refuses, is_live_draw, refusal_if, slot_of, StreamStage, Idle}
use Rattle.spec_keys.proofs.Terms.{Establishing, Up, Refreshing, Work, Reach, StreamOperations, Begun, new_work}
use Rattle.spec_keys.proofs.Terms.{work_of, reach_of, op_after_reach, begun_after_work, manager_after_operation}
use Rattle.spec_keys.proofs.Terms.{History, manager, op_of, draws, work_touches, on_it, touches_if, is_sender}
use Rattle.spec_keys.proofs.Terms.{seal_touches, came, touches, moments, history_status, PortView, ports_at}
use Rattle.spec_keys.proofs.Terms.{operation_verdict, begun_if_pool_has, is_live_sender, unless_open, if_secure}
use Rattle.spec_keys.proofs.Terms.{establish_on, refresh_on, stop_on, key_due, UsesFit, KeyCauseLaw, Side, Stopping}
use Rattle.spec_keys.proofs.Terms.{PortName, is_hosted, is_local, is_between_devices, is_line_reset, is_cleared}
use Rattle.spec_keys.proofs.Terms.{op_after_reset, stop_exchange, list_any, ◌+◌, nat_tests}
use Rattle.script_events.specs.declared.event.Event.TheVariants as event
use Rattle.event_verdicts.specs.declared.verdict.Operation.TheVariants as op
use Rattle.ide_types.specs.declared.status.StreamStatus.{StreamStatus}
use Rattle.event_verdicts.specs.declared.verdict.Verdict.TheVariants as v
use Rattle.spec_keys.proofs.Shapes.{Marks, marks, Shape, Bare, at_start, draws_used, draws_started}
use Rattle.spec_keys.proofs.Fits.{Fits, FindsStopped, FitsAt, Turned, Reached, below_more, establishes, refreshes}
use Rattle.spec_keys.proofs.Fits.{last_at, stops_fit, resets_fit, cuts_fit, establish_begins, establish_goes_on}
use Rattle.spec_keys.proofs.Fits.{establish_takes, refresh_begins, refresh_goes_on}
use Rattle.spec_keys.proofs.Tests.{neither-true}
use Rattle.spec_keys.proofs.Uses.{live_is_on, use_first, seals_fit, accepts_fit, raise}
use Rattle.spec_keys.proofs.Owners.{OwnedKeys, Owner, begun_below, behind_owned, owned_on, keys_owned, same_place}
use Rattle.spec_keys.proofs.Owners.{by_stream}
use Rattle.spec_keys.proofs.Performs.{performs}
use Rattle.spec_keys.proofs.Takes.{refresh_first_takes, refresh_again_takes}

-- what an operation makes of a place of its stream, by how far it came
abbrev pub Turns : Operation → StreamStage → List Begun → ℕ → ℕ → KeyPlace → List Touch → Option Reach → Type 0
Turns o q bs line stream p ts None = FitsAt q (length bs) p ts
Turns o q bs line stream p ts (Some r) =
    Turned (op_after_reach (is_hosted line) (work_of o q (length bs)) r)
    (length (begun_after_work bs line stream (work_of o q (length bs)))) p ts
    (work_touches (work_of o q (length bs)) (Some r) p)

-- ---- an establish

establish_turns : (plan : KeyPlan) (q : StreamStage) (bs : List Begun) (ports : PortView) (p : KeyPlace)
    (ts : List Touch)
    (loss : Option Loss)
    → FitsAt q (length bs) p ts → Turns op.Establish q bs p.line p.stream p ts
    (reach_of op.Establish (establish_on plan q (length bs) ports p.line p.stream loss))
establish_turns plan Idle bs ports p ts loss at = by_pool (nat_lt (length bs) plan.pool)
  where
    by_pool : (b : Bool) → Turns op.Establish Idle bs p.line p.stream p ts
        (reach_of op.Establish
        (if b then operation_verdict ports p.line p.stream loss (work_of op.Establish Idle (length bs)) else
        v.RefusedPoolEmpty (length bs)))
    by_pool false = at
    by_pool true =
        let goes = performs ports p.line p.stream loss (work_of op.Establish Idle (length bs)) (omega arith) in
        let from = establish_begins p ts (length bs) at in
        rw goes.says (establishes p ts (length bs) 1 true goes.reached_to (suc (length bs)) (omega arith)
        (below_more ts (length bs) _ (omega arith) at.below) goes.reached
        (establish_takes p ts (length bs) 1 true goes.reached_to from) from)
establish_turns plan (Establishing j n) bs ports p ts loss at =
    let goes = performs ports p.line p.stream loss (work_of op.Establish (Establishing j n) (length bs))
    (let le = at.fits.1 in omega arith) in
    let from = establish_goes_on p ts (length bs) j n at in
    rw goes.says (establishes p ts j n false goes.reached_to (length bs) at.fits.0 at.below goes.reached
    (establish_takes p ts j n false goes.reached_to from) from)
establish_turns plan q bs ports p ts loss at = at

-- ---- a refresh

-- a refresh of a stream that is up gets nowhere, or no Live key of the host's sender is in the set
refresh_or : (plan : KeyPlan) (host : StreamStatus) (ports : PortView) (line stream next : ℕ) (set : Bool) (u : SubKind)
    (x : Verdict)
    → (reach_of op.Refresh (if_secure host (unless_open ports line stream set (begun_if_pool_has plan next x))) ≡ None)
    ⊎ ((if_secure host (unless_open ports line stream set (begun_if_pool_has plan next x)) ≡ x)
    × (is_live_sender ports line stream set u ≡ false))
refresh_or plan host ports line stream next set Pr x = grind arith
refresh_or plan host ports line stream next set Npr x = grind arith
refresh_or plan host ports line stream next set Cpl x = grind arith

refresh_turns : (plan : KeyPlan) (q : StreamStage) (bs : List Begun) (ports : PortView) (host : StreamStatus)
    (p : KeyPlace)
    (ts : List Touch) (loss : Option Loss)
    → ((x : Bool) → ports.refusal p x ≡ refusal_if (refuses p.sends (keys p.sends ts) x))
    → ((x : Bool) → ports.is_live p x ≡ is_live_draw (slot_of p.sends (keys p.sends ts) x))
    → FitsAt q (length bs) p ts → Turns op.Refresh q bs p.line p.stream p ts
    (reach_of op.Refresh (refresh_on plan q (length bs) ports host p.line p.stream loss))
refresh_turns plan (Up set j) bs ports host p ts loss same live at = by_case _
    (refresh_or plan host ports p.line p.stream (length bs) (not set) p.sub _)
  where
    by_case : (x : Verdict) → (reach_of op.Refresh x ≡ None)
        ⊎ ((x ≡ operation_verdict ports p.line p.stream loss (work_of op.Refresh (Up set j) (length bs)))
        × (is_live_sender ports p.line p.stream (not set) p.sub ≡ false))
        → Turns op.Refresh (Up set j) bs p.line p.stream p ts (reach_of op.Refresh x)
    by_case x (inl none) = rw none at
    by_case x (inr (is, dead)) =
        let goes = performs ports p.line p.stream loss (work_of op.Refresh (Up set j) (length bs)) (omega arith) in
        let from = refresh_begins p ts (length bs) set j at in
        rw (is, goes.says) (refreshes p ts (not set) (length bs) 1 true goes.reached_to (suc (length bs)) (omega arith)
        (below_more ts (length bs) _ (omega arith) at.below) (omega arith) goes.reached
        (refresh_first_takes p.side p.line p.stream p.sends p.sub ports ts (not set) (length bs) goes.reached_to same
        live dead goes.taken from) from)
refresh_turns plan (Refreshing set j n) bs ports host p ts loss same live at =
    let goes = performs ports p.line p.stream loss (work_of op.Refresh (Refreshing set j n) (length bs))
    (let le = at.fits.2 in omega arith) in
    let from = refresh_goes_on p ts (length bs) set j n at in
    rw goes.says (refreshes p ts set j n false goes.reached_to (length bs) at.fits.0 at.below at.fits.1 goes.reached
    (refresh_again_takes p.side p.line p.stream p.sends p.sub ports ts set j n goes.reached_to at.fits.1 same
    goes.taken) from)
refresh_turns plan q bs ports host p ts loss same live at = at

-- ---- a stop

stop_is : (q : StreamStage) (next : ℕ)
    → work_of op.Stop q next ≡ new_work op.Stop false 0 (work_of op.Stop q next).first (work_of op.Stop q next).begins
stop_is q next = grind arith

stop_finds : (q : StreamStage) (top : ℕ) (u : Marks) (p : KeyPlace) (sh : Shape) → Fits q top u p sh
    → ((work_of op.Stop q top).first ≤ last_at p op.Stop + 1)
    × FindsStopped (is_local p) (stop_exchange p) (work_of op.Stop q top).first (work_of op.Stop q top).begins sh
stop_finds q top u p sh fits = grind arith

stop_ends : (q : StreamStage) (bs : List Begun) (p : KeyPlace) (ts : List Touch) (r : Reach)
    → Reached (work_of op.Stop q (length bs)).first (last_at p op.Stop) r
    → FitsAt q (length bs) p ts → Turns op.Stop q bs p.line p.stream p ts (Some r)
stop_ends q bs p ts r reached at =
    rw (stop_is q (length bs), and-false (work_of op.Stop q (length bs)).begins)
    (stops_fit p ts _ _ r (length bs) at.below reached
    (record { shape = at.shape; is = at.is; fits = (stop_finds q (length bs) (marks ts) p at.shape at.fits).1 }))

stop_turns : (q : StreamStage) (bs : List Begun) (ports : PortView) (p : KeyPlace) (ts : List Touch)
    (loss : Option Loss)
    → FitsAt q (length bs) p ts → Turns op.Stop q bs p.line p.stream p ts
    (reach_of op.Stop (stop_on q (length bs) ports p.line p.stream loss))
stop_turns q bs ports p ts loss at =
    let goes = performs ports p.line p.stream loss
    (new_work op.Stop false 0 (work_of op.Stop q (length bs)).first (work_of op.Stop q (length bs)).begins)
    (stop_finds q (length bs) (marks ts) p at.shape at.fits).0 in
    rw (stop_is q (length bs), goes.says) (stop_ends q bs p ts goes.reached_to goes.reached at)

-- ---- one operation and all places

pub more_begun : (bs : List Begun) (line stream : ℕ) (w : Work) → length bs ≤ length (begun_after_work bs line stream w)
more_begun bs line stream w = grind arith

-- on its stream it does what it does, elsewhere nothing
operated_fits : (m : StreamOperations) (o : Operation) (line stream : ℕ) (r : Option Reach) (p : KeyPlace)
    (ts : List Touch)
    → ((p.line ≡ line) × (p.stream ≡ stream) → Turns o (m.ops line stream) m.begun line stream p ts r)
    → FitsAt (m.ops p.line p.stream) (length m.begun) p ts
    → Turned ((manager_after_operation m o line stream r).ops p.line p.stream)
    (length (manager_after_operation m o line stream r).begun) p ts
    (on_it (is_on_stream p line stream) (work_touches (work_of o (m.ops line stream) (length m.begun)) r p))
operated_fits m o line stream None p ts turns at =
    let none : Turned (m.ops p.line p.stream) (length m.begun) p ts [] = record { now = at; come = tt } in
    by_stream p.line p.stream (λ x y f. Turned (m.ops p.line p.stream) (length m.begun) p ts (on_it f [])) none
    (λ x y. none) line stream
operated_fits m o line stream (Some r) p ts turns at = by_test (is_on_stream p line stream) refl
  where
    by_test : (b : Bool) → is_on_stream p line stream ≡ b
        → Turned (if b then op_after_reach (is_hosted line) (work_of o (m.ops line stream) (length m.begun)) r
        else m.ops p.line p.stream)
        (length (begun_after_work m.begun line stream (work_of o (m.ops line stream) (length m.begun)))) p ts
        (on_it b (work_touches (work_of o (m.ops line stream) (length m.begun)) (Some r) p))
    by_test true e = turns (same_place p.line p.stream line stream e)
    by_test false e = record {
      now = raise (m.ops p.line p.stream) (length m.begun) _ p ts
          (more_begun m.begun line stream (work_of o (m.ops line stream) (length m.begun))) at;
      come = tt;
    }

-- ---- sends and arrivals

sends_there : (p : KeyPlace) (d : SealedPacket) → is_sender p d ≡ true → p.sends ≡ true
sends_there p d e = grind arith

-- uses that fit, at a place whose keys are of its stream, leave it fit for the same state
abbrev UsesLeave : StreamStage → List Begun → KeyPlace → List Touch → List Touch → Type 0
UsesLeave o bs p ts more = UsesFit p.sends ts more → OwnedKeys (Owner bs p.line p.stream) (keys p.sends ts)
    → FitsAt o (length bs) p ts → Turned o (length bs) p ts more

sealed_fits : (o : StreamStage) (bs : List Begun) (p : KeyPlace) (ts : List Touch) (ds : List SealedPacket)
    → UsesLeave o bs p ts (seal_touches p ds)
sealed_fits o bs p ts [] uses owned at = record { now = at; come = tt }
sealed_fits o bs p ts (d ∷ ds) uses owned at = by_test (sealed_fits o bs p ts ds)
    (sealed_fits o bs p (Seal d.draw d.m ∷ ts) ds) (is_sender p d) refl uses
  where
    by_test : UsesLeave o bs p ts (seal_touches p ds) → UsesLeave o bs p (Seal d.draw d.m ∷ ts) (seal_touches p ds)
        → (b : Bool) → is_sender p d ≡ b → UsesFit p.sends ts (touches_if b (Seal d.draw d.m) ++ seal_touches p ds)
        → Turned o (length bs) p ts (touches_if b (Seal d.draw d.m) ++ seal_touches p ds)
    by_test without with_it false e uses = without uses owned at
    by_test without with_it true e uses =
        let on = live_is_on (keys p.sends ts) d.draw uses.0 in
        let mine : Owner bs p.line p.stream on.0 d.draw = owned_on (Owner bs p.line p.stream) (keys p.sends ts) on.0
        d.draw owned on.1 in
        use_first o (length bs) p ts (Seal d.draw d.m) (seal_touches p ds) at (sends_there p d e, uses.0)
        (with_it uses.1 (behind_owned (Owner bs p.line p.stream) p.sends ts (Seal d.draw d.m ∷ []) owned (tt, tt))
        (seals_fit o (length bs) p ts d.draw d.m (sends_there p d e) uses.0 (begun_below bs d.draw _ mine) at))

receives_there : (sends a b c : Bool) → (not sends && a && b && c) ≡ true → sends ≡ false
receives_there sends a b c e = grind arith

accepted_fits : (o : StreamStage) (bs : List Begun) (p : KeyPlace) (ts : List Touch) (j : ℕ) (a b c : Bool)
    → UsesLeave o bs p ts (touches_if (not p.sends && a && b && c) (Accept j))
accepted_fits o bs p ts j a b c uses owned at = by_test (not p.sends && a && b && c) refl uses
  where
    by_test : (f : Bool) → (not p.sends && a && b && c) ≡ f → UsesFit p.sends ts (touches_if f (Accept j))
        → Turned o (length bs) p ts (touches_if f (Accept j))
    by_test false e uses = record { now = at; come = tt }
    by_test true e uses =
        let receives = receives_there p.sends a b c e in
        let mine : Owner bs p.line p.stream uses.0.0 j = owned_on (Owner bs p.line p.stream) (keys p.sends ts) uses.0.0
        j owned uses.0.1 in
        use_first o (length bs) p ts (Accept j) [] at (receives, uses.0)
        (record {
          now = accepts_fit o (length bs) p ts uses.0.0 j receives uses.0.1 (begun_below bs j _ mine) at;
          come = tt;
        })

came_fits : (o : StreamStage) (bs : List Begun) (p : KeyPlace) (ts : List Touch) (verdict : Verdict)
    → UsesLeave o bs p ts (came p verdict)
came_fits o bs p ts (v.Sealed packets) uses owned at = sealed_fits o bs p ts packets uses owned at
came_fits o bs p ts (v.Accepted port unit effects) uses owned at = accepted_fits o bs p ts unit.draw
    (is_same_side p.side port.side) (is_on_stream p port.line unit.stream) (is_same_sub p.sub unit.sub) uses owned at
came_fits o bs p ts _ uses owned at = record { now = at; come = tt }

-- ---- a reset

-- a stream between devices has no host's port
peer_told : (p : KeyPlace) → is_between_devices p.line ≡ true → is_local p ≡ false
peer_told p peer = grind (arith, nat_tests)

-- an end that is cleared is on a line that is cut
pub not_cut : (ends : List PortName) (side : Side) (line : ℕ) → is_line_reset ends line ≡ false
    → list_any (λ e. is_same_side e.side side && (e.line == line)) ends ≡ false
not_cut [] side line none = refl
not_cut (e ∷ ends) side line none =
    let parts = neither-true (e.line == line) (is_line_reset ends line) none in
    rw (parts.0, and-false (is_same_side e.side side)) (not_cut ends side line parts.1)

reset_fits : (ends : List PortName) (o : StreamStage) (top : ℕ) (p : KeyPlace) (ts : List Touch) → FitsAt o top p ts
    → Turned (op_after_reset ends p.line o) top p ts (touches_if (is_cleared ends p.side p.line) Clear)
reset_fits ends o top p ts at = by_tests (is_between_devices p.line) (is_line_reset ends p.line) _ refl refl refl
  where
    by_tests : (peer cut one : Bool) → is_between_devices p.line ≡ peer → is_line_reset ends p.line ≡ cut
        → list_any (λ e. is_same_side e.side p.side && (e.line == p.line)) ends ≡ one
        → Turned (if cut then (if peer then Stopping 1 else Idle) else o) top p ts
        (touches_if (if peer then one else cut) Clear)
    by_tests true true one of_peer of_cut same = cuts_fit o p ts top one (peer_told p of_peer) at
    by_tests true false true of_peer of_cut same = absurd (let none = not_cut ends p.side p.line of_cut in cc)
    by_tests true false false of_peer of_cut same = record { now = at; come = tt }
    by_tests false true one of_peer of_cut same = resets_fit o p ts top at
    by_tests false false one of_peer of_cut same = record { now = at; come = tt }

-- ---- all pairs

abbrev pub Fit : History → KeyPlace → Type 0
Fit h p = FitsAt (op_of h p.line p.stream) (draws h) p (moments h p)

-- what is true at a place's own line and stream is true at those that it is on
pub elsewhere : (p : KeyPlace) (line stream : ℕ) (P : ℕ → ℕ → Type 0) → (p.line ≡ line) × (p.stream ≡ stream)
    → P p.line p.stream → P line stream
elsewhere p line stream P same here = subst (λ (y : ℕ). P line y) same.1 (subst (λ (x : ℕ). P x p.stream) same.0 here)

-- the operation on a stream that may not exist
due_fits : (h : History) (o : Operation) (p : KeyPlace) (has : ℕ → ℕ → Bool) (its : ℕ → ℕ → Verdict) (line stream : ℕ)
    (x : Verdict)
    → x ≡ (if has line stream then its line stream else v.Nothing) → Fit h p
    → Turns o (op_of h p.line p.stream) (manager h).begun p.line p.stream p (moments h p)
    (reach_of o (its p.line p.stream))
    → Turned ((manager_after_operation (manager h) o line stream (reach_of o x)).ops p.line p.stream)
    (length (manager_after_operation (manager h) o line stream (reach_of o x)).begun) p
    (moments h p)
    (on_it (is_on_stream p line stream) (work_touches (work_of o (op_of h line stream) (draws h)) (reach_of o x) p))
due_fits h o p has its line stream x is at turns =
    operated_fits (manager h) o line stream (reach_of o x) p (moments h p)
    (λ same. rw is (elsewhere p line stream (λ (a b : ℕ). Turns o (op_of h a b) (manager h).begun a b p (moments h p)
    (reach_of o (if has a b then its a b else v.Nothing))) same (by_has (has p.line p.stream)))) at
  where
    by_has : (b : Bool) → Turns o (op_of h p.line p.stream) (manager h).begun p.line p.stream p (moments h p)
        (reach_of o (if b then its p.line p.stream else v.Nothing))
    by_has false = at
    by_has true = turns

-- each touch of the next pair comes when it may, and leads to the next state
pub next_fits : (plan : KeyPlan) (h : History) (e : Event) (x : Verdict) → KeyCauseLaw plan ((e, x) ∷ h)
    → (p : KeyPlace) → Fit h p → Turned (op_of ((e, x) ∷ h) p.line p.stream) (draws ((e, x) ∷ h)) p (moments h p)
    (touches (manager h).ops (draws h) e x p)
unfolding manager key_due
next_fits plan h (event.Establish line stream loss) x cause p at =
    due_fits h op.Establish p plan.has_stream (λ a b. establish_on plan (op_of h a b) (draws h) (ports_at h) a b loss)
    line stream x cause.0 at
    (establish_turns plan (op_of h p.line p.stream) (manager h).begun (ports_at h) p (moments h p) loss at)
next_fits plan h (event.Refresh line stream loss) x cause p at =
    due_fits h op.Refresh p (has_refresh plan)
    (λ a b. refresh_on plan (op_of h a b) (draws h) (ports_at h) (history_status h Host a b) a b loss)
    line stream x cause.0 at
    (refresh_turns plan (op_of h p.line p.stream) (manager h).begun (ports_at h) (history_status h Host p.line p.stream)
    p
    (moments h p) loss
    (λ x. refl) (λ x. refl) at)
next_fits plan h (event.Stop line stream loss) x cause p at =
    due_fits h op.Stop p plan.has_stream (λ a b. stop_on (op_of h a b) (draws h) (ports_at h) a b loss) line stream x
    cause.0 at
    (stop_turns (op_of h p.line p.stream) (manager h).begun (ports_at h) p (moments h p) loss at)
next_fits plan h (event.Reset link ends) (v.Reset l) cause p at = reset_fits ends (op_of h p.line p.stream)
    (draws h) p (moments h p) at
next_fits plan h (event.Reset link ends) _ cause p at = record { now = at; come = tt }
next_fits plan h _ x cause p at = came_fits (op_of h p.line p.stream) (manager h).begun p (moments h p) x (cause.1 p)
    (keys_owned h p) at

pub fits : (plan : KeyPlan) (h : History) → KeyCauseLaw plan h → (p : KeyPlace) → Fit h p
unfolding manager moments draws_used draws_started
fits plan [] cause p = record {
  shape = Bare;
  is = at_start p.sends;
  fits = refl;
  below = record
      { within = omega arith; fresh = omega arith; falls = tt };
}
fits plan ((e, x) ∷ h) cause p = (next_fits plan h e x cause p (fits plan h cause.2 p)).now

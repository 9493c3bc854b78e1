-- While a stream is Secure at the host's port, and the device has a key for posted requests on it, the draw that the
-- manager has for it is at most the greatest that is On where the device receives posted requests on it. In an
-- establish no other draw is kept, once it is up its draw is On, and in a refresh the draw of before stays On until a
-- unit of the newer one is accepted.
use Rattle.spec_keys.proofs.Terms.{◌≡◌, ℕ, ◌+◌, ◌<◌, ◌≤◌, ◌==◌, ◌⊎◌, inl, inr, ◌&&◌, Bool, true, false, not, List, []}
use Rattle.spec_keys.proofs.Terms.{◌∷◌, ◌++◌, Option, Some, None, refl, ap, sym, subst, ◌∙◌, arith, nat_tests, nat_lt}
use Rattle.spec_keys.proofs.Terms.{if◌then◌else◌, is_some, Loss, SealedPacket, Verdict, KeyPlan, KeyPlace, is_on_stream}
use Rattle.spec_keys.proofs.Terms.{Touch, Program, Go, Accept, Keys, key_in, on_in, refuses, StreamStage, Idle}
use Rattle.spec_keys.proofs.Terms.{Establishing, Up, Refreshing, Stopping, Work, Reach, StreamOperations}
use Rattle.spec_keys.proofs.Terms.{manager_after_operation, op_after_reach, work_of, reach_of, whole, History}
use Rattle.spec_keys.proofs.Terms.{last_exchange_of, op_of, draws, on_it, work_touches, touches_if, touches_after, came}
use Rattle.spec_keys.proofs.Terms.{place_keys, keeps_live, has_key, has_all, history_status, begins_keyed, KeyCauseLaw}
use Rattle.spec_keys.proofs.Terms.{PortView, ports_at, refresh_on, operation_verdict, unless_open, finished_verdict}
use Rattle.spec_keys.proofs.Terms.{is_hosted, is_line_reset, PortName, Host, Device, Pr, Operation, seal_touches}
use Rattle.spec_keys.proofs.Terms.{is_same_side, is_same_sub, Loaded, begun_if_pool_has, if_secure, is_live_sender, Npr}
use Rattle.spec_keys.proofs.Terms.{Cpl, Lost, length, list_any, Clear, Side, key_place_at, is_local, is_between_devices}
use Rattle.ide_types.specs.declared.status.StreamStatus.TheVariants as status
unfoldable use Rattle.spec_keys.proofs.Terms.{keys, manager, moments, key_due, failed_there}
use Rattle.spec_keys.proofs.Shapes.{Shape, Bare, Waiting, Alone, Following, Both, keys_of, IsAt, marks, Marks}
unfoldable use Rattle.spec_keys.proofs.Shapes.{draws_used}
use Rattle.spec_keys.proofs.Stages.{Rising, Full}
use Rattle.spec_keys.proofs.Fits.{Fits, FitsAt, StopLeaves}
use Rattle.law_verdicts.proofs.{secure_parts}
use Rattle.spec_keys.proofs.Whole.{elsewhere, fits, not_cut}
use Rattle.spec_keys.proofs.Owners.{same_place}
use Rattle.spec_keys.proofs.Tests.{same-true}
use Rattle.spec_keys.specs.Keys.{with_key, unless_below}
use Rattle.ide_types.specs.declared.status.StreamStatus.{StreamStatus}
use Rattle.spec_keys.proofs.Performs.{performed_stays}
use Rattle.spec_keys.specs.Due.{cut_at, lost_message, refusal_at}
use Rattle.script_events.specs.declared.event.Event.TheVariants as event
use Rattle.event_verdicts.specs.declared.verdict.Operation.TheVariants as op
use Rattle.event_verdicts.specs.declared.verdict.Verdict.TheVariants as v
use Rattle.std.proofs.lemmas.Bool.{and_parts, cases_Bool, true≢false}
use Rattle.spec_interfaces.specs.Peers.{greatest_on, is_secure}
unfoldable use Rattle.spec_interfaces.specs.Views.{stream_draw}

-- ---- what a refresh leaves of the other key set

program_other : (set : Bool) (j : ℕ) (ts : List Touch)
    → key_in (keys false (Program set j ∷ ts)) (not set) ≡ key_in (keys false ts) (not set)
unfolding keys
program_other set j ts = by set (refuses false (keys false ts) set)
  where
    by : (set refused : Bool) → key_in (if refused then keys false ts else with_key (keys false ts) set (Loaded j))
        (not set) ≡ key_in (keys false ts) (not set)
    by set true = refl
    by true false = refl
    by false false = refl

go_other : (set : Bool) (j : ℕ) (ts : List Touch)
    → key_in (keys false (Go set j ∷ ts)) (not set) ≡ key_in (keys false ts) (not set)
unfolding keys
go_other true j ts = refl
go_other false j ts = refl

programs_used : (set : Bool) (j : ℕ) (ts : List Touch) → (draws_used (Program set j ∷ ts) ≡ draws_used ts)
    × (draws_used (Go set j ∷ ts) ≡ draws_used ts)
unfolding draws_used
programs_used set j ts = (refl, refl)

-- the draw is On in this set, or a greater one, or it itself, was used
abbrev pub IsOnOr : ℕ → Bool → List Touch → Type 0
IsOnOr draw set ts = (on_in (key_in (keys false ts) set) ≡ Some draw) ⊎ (draw < draws_used ts)

same_on : (draw : ℕ) (set : Bool) (ts us : List Touch) → key_in (keys false us) set ≡ key_in (keys false ts) set
    → draws_used us ≡ draws_used ts → IsOnOr draw set ts → IsOnOr draw set us
same_on draw set ts us keys_same used_same (inl on) = inl (ap on_in keys_same ∙ on)
same_on draw set ts us keys_same used_same (inr less) = inr (omega (arith, used_same, less))

refreshed_on : (draw : ℕ) (set a b : Bool) (j : ℕ) (ts : List Touch) → IsOnOr draw (not set) ts
    → IsOnOr draw (not set) (touches_after ts (touches_if a (Program set j) ++ touches_if b (Go set j)))
refreshed_on draw set false false j ts on = on
refreshed_on draw set true false j ts on =
    same_on draw (not set) ts (Program set j ∷ ts) (program_other set j ts) (programs_used set j ts).0 on
refreshed_on draw set false true j ts on =
    same_on draw (not set) ts (Go set j ∷ ts) (go_other set j ts) (programs_used set j ts).1 on
refreshed_on draw set true true j ts on =
    let us = Program set j ∷ ts in
    same_on draw (not set) us (Go set j ∷ us) (go_other set j us) (programs_used set j us).1
    (same_on draw (not set) ts us (program_other set j ts) (programs_used set j ts).0 on)

-- ---- what an accepted unit leaves of it

accepts_on : (draw : ℕ) (set : Bool) (i : ℕ) (ts : List Touch) → IsOnOr draw set ts → IsOnOr draw set (Accept i ∷ ts)
unfolding keys draws_used
accepts_on draw set i ts on = elim (cases_Bool (nat_lt draw i)) [
  | inl less ↦ inr (grind (arith, nat_tests, less))
  | inr more ↦ elim on [
    | inl here ↦ inl (kept set here more)
    | inr less ↦ inr (grind (arith, nat_tests, less))
  ]
]
  where
    kept : (set : Bool) → on_in (key_in (keys false ts) set) ≡ Some draw → nat_lt draw i ≡ false
        → on_in (key_in (record {
          first = unless_below i (keys false ts).first;
          second = unless_below i (keys false ts).second;
        }) set) ≡ Some draw
    kept set here more = grind (arith, here, more)

-- what comes to a receiver
came_on : (draw : ℕ) (set : Bool) (p : KeyPlace) (w : Verdict) (ts : List Touch) → p.sends ≡ false → IsOnOr draw set ts
    → IsOnOr draw set (touches_after ts (came p w))
came_on draw set p (v.Sealed ds) ts receives on = rw (none_sealed p ds receives) on
  where
    none_sealed : (p : KeyPlace) (ds : List SealedPacket) → p.sends ≡ false → seal_touches p ds ≡ []
    none_sealed p [] receives = refl
    none_sealed p (d ∷ ds) receives = rw (receives, none_sealed p ds receives) refl
came_on draw set p (v.Accepted port unit effects) ts receives on =
    by (not p.sends && is_same_side p.side port.side && is_on_stream p port.line unit.stream
    && is_same_sub p.sub unit.sub)
  where
    by : (b : Bool) → IsOnOr draw set (touches_after ts (touches_if b (Accept unit.draw)))
    by true = accepts_on draw set unit.draw ts on
    by false = on
came_on draw set p w ts receives on = on

-- ---- the draw of a stream, by the manager's state of it

-- its draw is that of the state; in a refresh it is On in the set that is not taken, or a unit under no smaller one was
-- accepted
abbrev pub Follows : ℕ → List Touch → StreamStage → Type 0
Follows draw ts (Establishing j n) = draw ≡ j
Follows draw ts (Up k j) = draw ≡ j
Follows draw ts (Refreshing k j n) = IsOnOr draw (not k) ts
Follows draw ts q = Unit {0}

-- what leaves the state, the draw and the other key set leaves it so
follows_on : (draw : ℕ) (ts us : List Touch) (q : StreamStage)
    → ((set : Bool) → IsOnOr draw set ts → IsOnOr draw set us) → Follows draw ts q → Follows draw us q
follows_on draw ts us Idle more is = tt
follows_on draw ts us (Establishing j n) more is = is
follows_on draw ts us (Up k j) more is = is
follows_on draw ts us (Refreshing k j n) more is = more (not k) is
follows_on draw ts us (Stopping n) more is = tt

-- ---- an establish, and a stop

establishes_to : (hosted : Bool) (q : StreamStage) (next draw : ℕ) (ts us : List Touch) (r : Reach) → Follows draw ts q
    → Follows (if (work_of op.Establish q next).begins then next else draw) us
    (op_after_reach hosted (work_of op.Establish q next) r)
establishes_to hosted (Establishing j n) next draw ts us r is =
    by (nat_lt (last_exchange_of hosted op.Establish) r.acknowledged)
  where
    by : (b : Bool) → Follows draw us (if b then Up false j else Establishing j r.acknowledged)
    by true = is
    by false = is
establishes_to hosted q next draw ts us r is = by q (nat_lt (last_exchange_of hosted op.Establish) r.acknowledged)
  where
    by : (q : StreamStage) (b : Bool) → Follows next us (if b then Up false next else Establishing next r.acknowledged)
    by q true = refl
    by q false = refl

stops_to : (hosted : Bool) (q : StreamStage) (next draw : ℕ) (us : List Touch) (r : Reach)
    → Follows draw us (op_after_reach hosted (work_of op.Stop q next) r)
stops_to hosted q next draw us r = by (work_of op.Stop q next) (stop_is q)
  where
    stop_is : (q : StreamStage) → (work_of op.Stop q next).operation ≡ op.Stop
    stop_is (Stopping n) = refl
    stop_is q = refl

    by : (w : Work) → w.operation ≡ op.Stop → Follows draw us (op_after_reach hosted w r)
    by w is = rw is (ends (nat_lt (last_exchange_of hosted op.Stop) r.acknowledged))
      where
        ends : (b : Bool) → Follows draw us (if b then Idle else Stopping r.acknowledged)
        ends true = tt
        ends false = tt

-- ---- a refresh

abbrev is_up : StreamStage → Bool
is_up (Up k j) = true
is_up (Refreshing k j n) = true
is_up q = false

-- the verdict tells of no exchange, or is this one
abbrev NoneOr : Verdict → Verdict → Type 0
NoneOr z x = (reach_of op.Refresh x ≡ None) ⊎ (x ≡ z)

drawn_or : (plan : KeyPlan) (next : ℕ) (z : Verdict) → NoneOr z (begun_if_pool_has plan next z)
drawn_or plan next z = by (nat_lt next plan.pool)
  where
    by : (b : Bool) → NoneOr z (if b then z else v.RefusedPoolEmpty next)
    by true = inr refl
    by false = inl refl

open_or : (a b c : Bool) (z y : Verdict) → NoneOr z y → NoneOr z
    (if a then v.RefusedUnitOpen Pr else if b then v.RefusedUnitOpen Npr else if c then v.RefusedUnitOpen Cpl else y)
open_or true b c z y is = inl refl
open_or false true c z y is = inl refl
open_or false false true z y is = inl refl
open_or false false false z y is = is

secure_or : (host : StreamStatus) (z y : Verdict) → NoneOr z y → NoneOr z (if_secure host y)
secure_or status.Secure z y is = is
secure_or status.Idle z y is = inl refl
secure_or status.Partial z y is = inl refl
secure_or status.Insecure z y is = inl refl

up_says : (plan : KeyPlan) (host : StreamStatus) (ports : PortView) (line stream next : ℕ) (set : Bool) (z x : Verdict)
    → x ≡ if_secure host (unless_open ports line stream set (begun_if_pool_has plan next z)) → NoneOr z x
up_says plan host ports line stream next set z x is =
    subst (NoneOr z) (sym is) (secure_or host z _ (open_or (is_live_sender ports line stream set Pr)
    (is_live_sender ports line stream set Npr) (is_live_sender ports line stream set Cpl) z _ (drawn_or plan next z)))

-- it is refused, or the stream is up, and its exchanges say the verdict
refresh_says : (has : Bool) (plan : KeyPlan) (q : StreamStage) (next : ℕ) (ports : PortView) (host : StreamStatus)
    (line stream : ℕ) (loss : Option Loss) (x : Verdict) → x
    ≡ (if has then refresh_on plan q next ports host line stream loss else v.Nothing) → (reach_of op.Refresh x ≡ None)
    ⊎ ((is_up q ≡ true) × (x ≡ operation_verdict ports line stream loss (work_of op.Refresh q next)))
refresh_says false plan q next ports host line stream loss x is = inl (ap (reach_of op.Refresh) is)
refresh_says true plan Idle next ports host line stream loss x is = inl (ap (reach_of op.Refresh) is)
refresh_says true plan (Establishing j n) next ports host line stream loss x is = inl (ap (reach_of op.Refresh) is)
refresh_says true plan (Up k j) next ports host line stream loss x is =
    elim (up_says plan host ports line stream next (not k)
    (operation_verdict ports line stream loss (work_of op.Refresh (Up k j) next))
    x is) [
      | inl none ↦ inl none
      | inr same ↦ inr (refl, same)
    ]
refresh_says true plan (Refreshing k j n) next ports host line stream loss x is = inr (refl, is)
refresh_says true plan (Stopping n) next ports host line stream loss x is = inl (ap (reach_of op.Refresh) is)

-- the draw of the stream after the verdict
abbrev drawn_by : Verdict → ℕ → ℕ
drawn_by (v.Refreshed l s j) draw = j
drawn_by w draw = draw

whole_ends : (hosted : Bool) (w : Work) → w.operation ≡ op.Refresh → (r : Reach)
    → r.acknowledged ≡ last_exchange_of hosted op.Refresh + 1 → op_after_reach hosted w r ≡ Up w.set w.draw
whole_ends hosted w is r all = rw (is, all) (by (last_exchange_of hosted op.Refresh))
  where
    by : (n : ℕ) → (if nat_lt n (n + 1) then Up w.set w.draw else Refreshing w.set w.draw (n + 1)) ≡ Up w.set w.draw
    by n = grind (arith, nat_tests)

stays_standing : (hosted : Bool) (w : Work) → w.operation ≡ op.Refresh → (r : Reach)
    → r.acknowledged ≤ last_exchange_of hosted op.Refresh → op_after_reach hosted w r
    ≡ Refreshing w.set w.draw r.acknowledged
stays_standing hosted w is r within = rw is (by (last_exchange_of hosted op.Refresh) within)
  where
    by : (n : ℕ) → r.acknowledged ≤ n
        → (if nat_lt n r.acknowledged then Up w.set w.draw else Refreshing w.set w.draw r.acknowledged)
        ≡ Refreshing w.set w.draw r.acknowledged
    by n within = grind (arith, nat_tests, within)

cut_means : (lost : Option Lost) (status : Option ℕ) (n draw : ℕ) (x : Verdict) (r : Reach)
    → cut_at lost status n ≡ Some x → reach_of op.Refresh x ≡ Some r → (r.acknowledged ≡ n) × (drawn_by x draw ≡ draw)
cut_means lost status n draw x r is says = (grind (arith, is, says), grind (arith, is))

done_is : (line stream : ℕ) (w : Work) → w.operation ≡ op.Refresh → finished_verdict line stream w
    ≡ v.Refreshed line stream w.draw
done_is line stream w is = rw is refl

some_reach : (a b : Reach) → Some a ≡ Some b → a ≡ b
some_reach a b is = cc (is)

ends_or_stays : (line stream : ℕ) (w : Work) → w.operation ≡ op.Refresh → (draw : ℕ) (us : List Touch) (x : Verdict)
    (r : Reach) (ports : PortView) (loss : Option Loss) → x ≡ operation_verdict ports line stream loss w
    → reach_of op.Refresh x ≡ Some r → IsOnOr draw (not w.set) us
    → Follows (drawn_by x draw) us (op_after_reach (is_hosted line) w r)
ends_or_stays line stream w refreshes draw us x r ports loss is says on =
    elim (performed_stays ports line stream loss w) [
      | inl ended ↦
          let same : x ≡ v.Refreshed line stream w.draw = is ∙ (ended ∙ done_is line stream w refreshes) in
          let all : whole line op.Refresh ≡ r = some_reach (whole line op.Refresh) r
          (sym (ap (reach_of op.Refresh) same) ∙ says)
          in
          let up = whole_ends (is_hosted line) w refreshes r (ap (λ (z : Reach). z.acknowledged) (sym all)) in
          subst (Follows (drawn_by x draw) us) (sym up) (ap (λ (z : Verdict). drawn_by z draw) same)
      | inr at ↦
          let cut = at.gives ∙ ap (λ (z : Verdict). Some z) (sym is) in
          let means = cut_means (lost_message loss at.exchange)
          (refusal_at ports w.operation w.set line stream at.exchange)
          at.exchange draw x r cut says in
          let most : at.exchange ≤ last_exchange_of (is_hosted line) op.Refresh =
          subst (λ (o : Operation). at.exchange ≤ last_exchange_of (is_hosted line) o) refreshes at.at_most in
          let status = stays_standing (is_hosted line) w refreshes r (omega (arith, means.0, most)) in
          subst (Follows (drawn_by x draw) us) (sym status)
          (subst (λ (d : ℕ). IsOnOr d (not w.set) us) (sym means.1) on)
    ]

-- from a stream that is up
refreshes_to : (line stream : ℕ) (p : KeyPlace) (q : StreamStage) (next draw : ℕ) (ts : List Touch) (x : Verdict)
    (r : Reach) (ports : PortView) (loss : Option Loss) → is_up q ≡ true → Follows draw ts q
    → ((k : Bool) (j : ℕ) → q ≡ Up k j → on_in (key_in (keys false ts) k) ≡ Some j) → x
    ≡ operation_verdict ports line stream loss (work_of op.Refresh q next) → reach_of op.Refresh x ≡ Some r
    → Follows (drawn_by x draw) (touches_after ts (work_touches (work_of op.Refresh q next) (Some r) p))
    (op_after_reach (is_hosted line) (work_of op.Refresh q next) r)
refreshes_to line stream p Idle next draw ts x r ports loss up is on performs says = absurd (true≢false (sym up))
refreshes_to line stream p (Establishing j n) next draw ts x r ports loss up is on performs says =
    absurd (true≢false (sym up))
refreshes_to line stream p (Stopping n) next draw ts x r ports loss up is on performs says =
    absurd (true≢false (sym up))
refreshes_to line stream p (Up k j) next draw ts x r ports loss up is on performs says =
    let w = work_of op.Refresh (Up k j) next in
    let twice : not (not k) ≡ k = not_not k in
    let here : on_in (key_in (keys false ts) (not (not k))) ≡ Some draw =
    ap (λ (b : Bool). on_in (key_in (keys false ts) b)) twice ∙ (on k j refl ∙ ap (λ (d : ℕ). Some d) (sym is)) in
    ends_or_stays line stream w refl draw _ x r ports loss performs says
    (refreshed_on draw (not k) _ _ next ts (inl here))
  where
    not_not : (k : Bool) → not (not k) ≡ k
    not_not true = refl
    not_not false = refl
refreshes_to line stream p (Refreshing k j n) next draw ts x r ports loss up is on performs says =
    ends_or_stays line stream (work_of op.Refresh (Refreshing k j n) next) refl draw _ x r ports loss performs says
    (refreshed_on draw k _ _ j ts is)

-- ---- one operation, on this stream or on another

swapped : (a b c d : ℕ) → ((a == b) && (c == d)) ≡ ((b == a) && (d == c))
swapped a b c d = grind (arith, nat_tests)

on_itself : (p : KeyPlace) → is_on_stream p p.line p.stream ≡ true
on_itself p = rw (same-true p.line, same-true p.stream) refl

and_true : (b : Bool) → (b && true) ≡ b
and_true true = refl
and_true false = refl

pub and_none : (b : Bool) → (b && false) ≡ false
and_none true = refl
and_none false = refl

carry : (d e : ℕ) (ts us : List Touch) (q r : StreamStage) → e ≡ d → us ≡ ts → r ≡ q → Follows d ts q → Follows e us r
carry d e ts us q r draw touched state is = subst (λ (z : ℕ). Follows z us r) (sym draw)
    (subst (λ (z : List Touch). Follows d z r) (sym touched) (subst (Follows d ts) (sym state) is))

other_op : (m : StreamOperations) (o : Operation) (l s : ℕ) (reached : Option Reach) (p : KeyPlace) → is_on_stream p l s
    ≡ false → (manager_after_operation m o l s reached).ops p.line p.stream ≡ m.ops p.line p.stream
other_op m o l s None p other = refl
other_op m o l s (Some r) p other = rw other refl

own_op : (m : StreamOperations) (o : Operation) (r : Reach) (p : KeyPlace)
    → (manager_after_operation m o p.line p.stream (Some r)).ops p.line p.stream
    ≡ op_after_reach (is_hosted p.line) (work_of o (m.ops p.line p.stream) (length m.begun)) r
own_op m o r p = rw (on_itself p) refl

pub not_begun : (a b c d : ℕ) (begins : Bool) → ((a == b) && (c == d)) ≡ false → ((b == a) && (d == c) && begins)
    ≡ false
not_begun a b c d begins other = grind (arith, nat_tests, other)

if_not : {A : Type 0} (b : Bool) (x y : A) → b ≡ false → (if b then x else y) ≡ y
if_not b x y is = rw is refl

same_if : (b : Bool) (n : ℕ) → n ≡ (if b then n else n)
same_if true n = refl
same_if false n = refl

refreshed_draw : (h : History) (l s : ℕ) (loss : Option Loss) (w : Verdict) (line stream : ℕ)
    → stream_draw ((event.Refresh l s loss, w) ∷ h) line stream
    ≡ (if (l == line) && (s == stream) then drawn_by w (stream_draw h line stream) else stream_draw h line stream)
unfolding stream_draw
refreshed_draw h l s loss (v.Refreshed a b j) line stream = refl
refreshed_draw h l s loss w line stream = same_if ((l == line) && (s == stream)) (stream_draw h line stream)

-- on another stream nothing of it changes
establish_elsewhere : (h : History) (l s : ℕ) (loss : Option Loss) (w : Verdict) (p : KeyPlace)
    → is_on_stream p l s ≡ false → Follows (stream_draw h p.line p.stream) (moments h p) (op_of h p.line p.stream)
    → Follows (stream_draw ((event.Establish l s loss, w) ∷ h) p.line p.stream)
    (moments ((event.Establish l s loss, w) ∷ h) p) (op_of ((event.Establish l s loss, w) ∷ h) p.line p.stream)
unfolding manager moments stream_draw
establish_elsewhere h l s loss w p other is =
    carry _ _ (moments h p) _ (op_of h p.line p.stream) _
    (if_not _ (draws h) (stream_draw h p.line p.stream) (not_begun p.line l p.stream s
    (begins_keyed (op_of h l s) (draws h) w) other))
    (rw other refl) (other_op (manager h) op.Establish l s (reach_of op.Establish w) p other) is

refresh_elsewhere : (h : History) (l s : ℕ) (loss : Option Loss) (w : Verdict) (p : KeyPlace)
    → is_on_stream p l s ≡ false → Follows (stream_draw h p.line p.stream) (moments h p) (op_of h p.line p.stream)
    → Follows (stream_draw ((event.Refresh l s loss, w) ∷ h) p.line p.stream)
    (moments ((event.Refresh l s loss, w) ∷ h) p) (op_of ((event.Refresh l s loss, w) ∷ h) p.line p.stream)
unfolding manager moments
refresh_elsewhere h l s loss w p other is =
    carry _ _ (moments h p) _ (op_of h p.line p.stream) _
    (refreshed_draw h l s loss w p.line p.stream ∙ if_not _ (drawn_by w (stream_draw h p.line p.stream))
    (stream_draw h p.line p.stream) (sym (swapped p.line l p.stream s) ∙ other))
    (rw other refl) (other_op (manager h) op.Refresh l s (reach_of op.Refresh w) p other) is

-- a stop makes no draw
stop_follows : (h : History) (l s : ℕ) (loss : Option Loss) (w : Verdict) (p : KeyPlace)
    → Follows (stream_draw h p.line p.stream) (moments h p) (op_of h p.line p.stream)
    → Follows (stream_draw ((event.Stop l s loss, w) ∷ h) p.line p.stream)
    (moments ((event.Stop l s loss, w) ∷ h) p) (op_of ((event.Stop l s loss, w) ∷ h) p.line p.stream)
unfolding manager moments stream_draw
stop_follows h l s loss w p is = elim (cases_Bool (is_on_stream p l s)) [
  | inl own ↦ by (reach_of op.Stop w) own
  | inr other ↦
      carry _ _ (moments h p) _ (op_of h p.line p.stream) _ refl (rw other refl)
      (other_op (manager h) op.Stop l s (reach_of op.Stop w) p other) is
]
  where
    us : Option Reach → List Touch
    us o = touches_after (moments h p)
        (on_it (is_on_stream p l s) (work_touches (work_of op.Stop (op_of h l s) (draws h)) o p))

    by : (o : Option Reach) → is_on_stream p l s ≡ true → Follows (stream_draw h p.line p.stream)
        (touches_after (moments h p)
        (on_it (is_on_stream p l s) (work_touches (work_of op.Stop (op_of h l s) (draws h)) o p)))
        ((manager_after_operation (manager h) op.Stop l s o).ops p.line p.stream)
    by None own = carry _ _ (moments h p) _ (op_of h p.line p.stream) _ refl (rw own refl) refl is
    by (Some r) own = rw own (stops_to (is_hosted l) (op_of h l s) (draws h) (stream_draw h p.line p.stream) _ r)

-- an establish makes the draw, or goes on with it
establish_own : (h : History) (loss : Option Loss) (w : Verdict) (p : KeyPlace)
    → Follows (stream_draw h p.line p.stream) (moments h p) (op_of h p.line p.stream)
    → Follows (stream_draw ((event.Establish p.line p.stream loss, w) ∷ h) p.line p.stream)
    (moments ((event.Establish p.line p.stream loss, w) ∷ h) p)
    (op_of ((event.Establish p.line p.stream loss, w) ∷ h) p.line p.stream)
unfolding manager moments stream_draw
establish_own h loss w p is = by (reach_of op.Establish w)
  where
    q : StreamStage
    q = op_of h p.line p.stream

    by : (o : Option Reach) → Follows (if (p.line == p.line) && (p.stream == p.stream)
        && ((work_of op.Establish q (draws h)).begins && is_some o)
        then draws h else stream_draw h p.line p.stream)
        (touches_after (moments h p)
        (on_it (is_on_stream p p.line p.stream) (work_touches (work_of op.Establish q (draws h)) o p)))
        ((manager_after_operation (manager h) op.Establish p.line p.stream o).ops p.line p.stream)
    by None = carry _ _ (moments h p) _ q _
        (rw (same-true p.line, same-true p.stream, and_none (work_of op.Establish q (draws h)).begins) refl)
        (rw (on_itself p) refl) refl is
    by (Some r) =
        carry _ _ _ _ _ _
        (rw (same-true p.line, same-true p.stream, and_true (work_of op.Establish q (draws h)).begins) refl) refl
        (own_op (manager h) op.Establish r p)
        (establishes_to (is_hosted p.line) q (draws h) (stream_draw h p.line p.stream) (moments h p) _ r is)

-- what is up has its draw On
up_on : (p : KeyPlace) (ts : List Touch) (top : ℕ) (k : Bool) (j : ℕ) → FitsAt (Up k j) top p ts
    → on_in (key_in (keys p.sends ts) k) ≡ Some j
up_on p ts top k j at = grind arith

refresh_own : (plan : KeyPlan) (h : History) (loss : Option Loss) (w : Verdict) (p : KeyPlace)
    → KeyCauseLaw plan ((event.Refresh p.line p.stream loss, w) ∷ h) → p.sends ≡ false
    → Follows (stream_draw h p.line p.stream) (moments h p) (op_of h p.line p.stream)
    → Follows (stream_draw ((event.Refresh p.line p.stream loss, w) ∷ h) p.line p.stream)
    (moments ((event.Refresh p.line p.stream loss, w) ∷ h) p)
    (op_of ((event.Refresh p.line p.stream loss, w) ∷ h) p.line p.stream)
unfolding manager moments key_due
refresh_own plan h loss w p cause receives is =
    carry _ _ _ _ _ _ draw_is refl refl (by (reach_of op.Refresh w) refl)
  where
    q : StreamStage
    q = op_of h p.line p.stream

    draw_is : stream_draw ((event.Refresh p.line p.stream loss, w) ∷ h) p.line p.stream
        ≡ drawn_by w (stream_draw h p.line p.stream)
    draw_is = refreshed_draw h p.line p.stream loss w p.line p.stream ∙ rw (same-true p.line, same-true p.stream) refl

    says : (reach_of op.Refresh w ≡ None) ⊎ ((is_up q ≡ true) ×
        (w ≡ operation_verdict (ports_at h) p.line p.stream loss (work_of op.Refresh q (draws h))))
    says = refresh_says _ plan q (draws h) (ports_at h) (history_status h Host p.line p.stream) p.line p.stream loss w
        cause.0

    none_drawn : (w : Verdict) (draw : ℕ) → reach_of op.Refresh w ≡ None → drawn_by w draw ≡ draw
    none_drawn (v.Refreshed a b j) draw none = absurd cc
    none_drawn w draw none = refl

    by : (o : Option Reach) → reach_of op.Refresh w ≡ o → Follows (drawn_by w (stream_draw h p.line p.stream))
        (touches_after (moments h p)
        (on_it (is_on_stream p p.line p.stream) (work_touches (work_of op.Refresh q (draws h)) o p)))
        ((manager_after_operation (manager h) op.Refresh p.line p.stream o).ops p.line p.stream)
    by None none = carry _ _ (moments h p) _ q _ (none_drawn w (stream_draw h p.line p.stream) none)
        (rw (on_itself p) refl) refl is
    by (Some r) reached = elim says [
      | inl none ↦ absurd (let wrong = sym reached ∙ none in cc)
      | inr up ↦
          carry _ _ _ _ _ _ refl (rw (on_itself p) refl) (own_op (manager h) op.Refresh r p)
          (refreshes_to p.line p.stream p q (draws h) (stream_draw h p.line p.stream) (moments h p) w r (ports_at h)
          loss
          up.0 is on up.1 reached)
    ]
      where
        on : (k : Bool) (j : ℕ) → q ≡ Up k j → on_in (key_in (keys false (moments h p)) k) ≡ Some j
        on k j is =
            subst (λ (b : Bool). on_in (key_in (keys b (moments h p)) k) ≡ Some j) receives
            (up_on p (moments h p) (draws h) k j (subst (λ (z : StreamStage). FitsAt z (draws h) p (moments h p)) is
            (fits plan h cause.2 p)))

-- a reset leaves no keys, or a stream that is to be stopped, or nothing of the line changes
reset_follows : (h : History) (l : ℕ) (ends : List PortName) (k : ℕ) (p : KeyPlace)
    → Follows (stream_draw h p.line p.stream) (moments h p) (op_of h p.line p.stream)
    → Follows (stream_draw ((event.Reset l ends, v.Reset k) ∷ h) p.line p.stream)
    (moments ((event.Reset l ends, v.Reset k) ∷ h) p) (op_of ((event.Reset l ends, v.Reset k) ∷ h) p.line p.stream)
unfolding manager moments stream_draw
reset_follows h l ends k p is = by (is_line_reset ends p.line) refl (is_between_devices p.line)
  where
    by : (b : Bool) → is_line_reset ends p.line ≡ b → (peer : Bool) → Follows (stream_draw h p.line p.stream)
        (touches_after (moments h p) (touches_if (if peer then list_any (λ e. is_same_side e.side p.side
        && (e.line == p.line)) ends else b) Clear))
        (if b then (if peer then Stopping 1 else Idle) else op_of h p.line p.stream)
    by true cut true = tt
    by true cut false = tt
    by false cut true = carry _ _ (moments h p) _ (op_of h p.line p.stream) _ refl
        (rw (not_cut ends p.side p.line cut) refl) refl is
    by false cut false = is

pub follows : (plan : KeyPlan) (h : History) → KeyCauseLaw plan h → (p : KeyPlace) → p.sends ≡ false
    → Follows (stream_draw h p.line p.stream) (moments h p) (op_of h p.line p.stream)
unfolding manager moments stream_draw
follows plan [] cause p receives = tt
follows plan ((event.Establish l s loss, w) ∷ h) cause p receives =
    let before = follows plan h cause.2 p receives in
    elim (cases_Bool (is_on_stream p l s)) [
      | inl own ↦ elsewhere p l s (λ (a b : ℕ).
          Follows (stream_draw ((event.Establish a b loss, w) ∷ h) p.line p.stream)
          (moments ((event.Establish a b loss, w) ∷ h) p)
          (op_of ((event.Establish a b loss, w) ∷ h) p.line p.stream)) (same_place p.line p.stream l s own)
          (establish_own h loss w p before)
      | inr other ↦ establish_elsewhere h l s loss w p other before
    ]
follows plan ((event.Refresh l s loss, w) ∷ h) cause p receives =
    let before = follows plan h cause.2 p receives in
    elim (cases_Bool (is_on_stream p l s)) [
      | inl own ↦ elsewhere p l s (λ (a b : ℕ). KeyCauseLaw plan ((event.Refresh a b loss, w) ∷ h)
          → Follows (stream_draw ((event.Refresh a b loss, w) ∷ h) p.line p.stream)
          (moments ((event.Refresh a b loss, w) ∷ h) p)
          (op_of ((event.Refresh a b loss, w) ∷ h) p.line p.stream)) (same_place p.line p.stream l s own)
          (λ here. refresh_own plan h loss w p here receives before) cause
      | inr other ↦ refresh_elsewhere h l s loss w p other before
    ]
follows plan ((event.Stop l s loss, w) ∷ h) cause p receives =
    stop_follows h l s loss w p (follows plan h cause.2 p receives)
follows plan ((event.Reset l ends, v.Reset k) ∷ h) cause p receives =
    reset_follows h l ends k p (follows plan h cause.2 p receives)
follows plan ((event.Reset l ends, w) ∷ h) cause p receives = follows plan h cause.2 p receives
follows plan ((e, w) ∷ h) cause p receives =
    follows_on (stream_draw h p.line p.stream) (moments h p) (touches_after (moments h p) (came p w))
    (op_of h p.line p.stream)
    (λ set. came_on (stream_draw h p.line p.stream) set p w (moments h p) receives)
    (follows plan h cause.2 p receives)

-- ---- the greatest draw that is On

on_at_most : (draw : ℕ) (set : Bool) (ks : Keys) → on_in (key_in ks set) ≡ Some draw → draw ≤ greatest_on ks
on_at_most draw true ks on = grind (arith, nat_tests, on)
on_at_most draw false ks on = grind (arith, nat_tests, on)

used_at_most : (draw : ℕ) (ts : List Touch) (sh : Shape) → IsAt false ts sh → keeps_live (keys_of sh) ≡ true
    → draw < draws_used ts → draw ≤ greatest_on (keys_of sh)
used_at_most draw ts Bare at live less = absurd (true≢false (sym live))
used_at_most draw ts (Waiting true j) at live less = absurd (true≢false (sym live))
used_at_most draw ts (Waiting false j) at live less = absurd (true≢false (sym live))
used_at_most draw ts (Alone true j) at live less = let sound = at.sound in grind (arith, nat_tests, sound, less)
used_at_most draw ts (Alone false j) at live less = let sound = at.sound in grind (arith, nat_tests, sound, less)
used_at_most draw ts (Following true i j) at live less = let sound = at.sound.1 in grind (arith, nat_tests, sound, less)
used_at_most draw ts (Following false i j) at live less =
    let sound = at.sound.1 in grind (arith, nat_tests, sound, less)
used_at_most draw ts (Both true i j) at live less =
    let sound = at.sound.1 in let order = at.sound.0 in grind (arith, nat_tests, sound, order, less)
used_at_most draw ts (Both false i j) at live less =
    let sound = at.sound.1 in let order = at.sound.0 in grind (arith, nat_tests, sound, order, less)

-- in an establish it is the draw's own
rising_at_most : (j a b n : ℕ) (u : Marks) (sh : Shape) → Rising false false j a b n u sh
    → keeps_live (keys_of sh) ≡ true → j ≤ greatest_on (keys_of sh)
rising_at_most j a b n u sh rising live = grind (arith, nat_tests, live)

full_on : (k : Bool) (j : ℕ) (sh : Shape) → Full k j true sh → on_in (key_in (keys_of sh) k) ≡ Some j
full_on k j sh full = grind arith

abbrev is_stopping : StreamStage → Bool
is_stopping (Stopping n) = true
is_stopping q = false

draw_most : (q : StreamStage) (top draw : ℕ) (p : KeyPlace) (ts : List Touch) (sh : Shape) → IsAt false ts sh
    → Fits q top (marks ts) p sh → Follows draw ts q → keeps_live (keys_of sh) ≡ true → is_stopping q ≡ false
    → draw ≤ greatest_on (keys_of sh)
draw_most Idle top draw p ts sh at fit is live goes =
    absurd (true≢false (sym live ∙ ap (λ (z : Shape). keeps_live (keys_of z)) fit))
draw_most (Establishing j n) top draw p ts sh at fit is live goes =
    let most = rising_at_most j _ _ n (marks ts) sh fit.2 live in omega (arith, is, most)
draw_most (Up k j) top draw p ts sh at fit is live goes =
    let most = on_at_most j k (keys_of sh) (full_on k j sh fit.1) in omega (arith, is, most)
draw_most (Refreshing k j n) top draw p ts sh at fit (inl on) live goes =
    on_at_most draw (not k) (keys_of sh) (subst (λ (ks : Keys). on_in (key_in ks (not k)) ≡ Some draw) at.are on)
draw_most (Refreshing k j n) top draw p ts sh at fit (inr less) live goes = used_at_most draw ts sh at live less
draw_most (Stopping n) top draw p ts sh at fit is live goes = absurd (true≢false goes)

-- ---- Secure at the host's port

live_first : (h : History) (side : Side) (line stream : ℕ) → is_secure (history_status h side line stream) ≡ true
    → keeps_live (place_keys h (key_place_at side line stream false Pr)) ≡ true
live_first h side line stream is =
    let parts = secure_parts (failed_there h side line stream) (has_key (place_keys h) side line stream)
    (has_all (place_keys h) side line stream) is in
    (and_parts (keeps_live (place_keys h (key_place_at side line stream false Pr))) _ parts.1).0

-- in a stop a host's port has no key
not_stopping : (plan : KeyPlan) (h : History) → KeyCauseLaw plan h → (line stream : ℕ) → is_hosted line ≡ true
    → keeps_live (place_keys h (key_place_at Host line stream false Pr)) ≡ true
    → is_stopping (op_of h line stream) ≡ false
not_stopping plan h cause line stream hosted live =
    by (op_of h line stream) (fits plan h cause (key_place_at Host line stream false Pr))
  where
    p : KeyPlace
    p = key_place_at Host line stream false Pr

    bare : (a n : ℕ) (local : Bool) (sh : Shape) → local ≡ true → StopLeaves local a n sh → sh ≡ Bare
    bare a n true sh is stopped_there = stopped_there
    bare a n false sh is stopped_there = absurd (true≢false (sym is))

    by : (q : StreamStage) → FitsAt q (draws h) (key_place_at Host line stream false Pr)
        (moments h (key_place_at Host line stream false Pr)) → is_stopping q ≡ false
    by (Stopping n) at =
        let none = bare _ n (is_local p) at.shape hosted at.fits.1 in
        absurd (true≢false (sym live ∙ ap keeps_live (at.is.are ∙ ap keys_of none)))
    by Idle at = refl
    by (Establishing j n) at = refl
    by (Up k j) at = refl
    by (Refreshing k j n) at = refl

pub draw_at_most : (plan : KeyPlan) (h : History) → KeyCauseLaw plan h → (link stream : ℕ) → link < 8
    → keeps_live (place_keys h (key_place_at Device link stream false Pr)) ≡ true
    → is_secure (history_status h Host link stream) ≡ true → stream_draw h link stream ≤ greatest_on
    (place_keys h (key_place_at Device link stream false Pr))
draw_at_most plan h cause link stream few device host =
    let p = key_place_at Device link stream false Pr in
    let hosted : is_hosted link ≡ true = grind (arith, nat_tests, few) in
    let at = fits plan h cause p in
    let live = subst (λ (ks : Keys). keeps_live ks ≡ true) at.is.are device in
    let most = draw_most (op_of h link stream) (draws h) (stream_draw h link stream) p (moments h p) at.shape at.is
    at.fits
    (follows plan h cause p refl) live
    (not_stopping plan h cause link stream hosted (live_first h Host link stream host)) in
    subst (λ (ks : Keys). stream_draw h link stream ≤ greatest_on ks) (sym at.is.are) most

-- once it is up its draw is On at each place, of any line
pub up_at_most : (plan : KeyPlan) (h : History) → KeyCauseLaw plan h → (p : KeyPlace) → p.sends ≡ false → (k : Bool)
    (j : ℕ) → op_of h p.line p.stream ≡ Up k j → stream_draw h p.line p.stream ≤ greatest_on (place_keys h p)
up_at_most plan h cause p receives k j up =
    let at = subst (λ (q : StreamStage). FitsAt q (draws h) p (moments h p)) up (fits plan h cause p) in
    let same : stream_draw h p.line p.stream ≡ j =
    subst (λ (q : StreamStage). Follows (stream_draw h p.line p.stream) (moments h p) q) up
    (follows plan h cause p receives) in
    let most = on_at_most j k (place_keys h p) (up_on p (moments h p) (draws h) k j at) in
    omega (arith, same, most)

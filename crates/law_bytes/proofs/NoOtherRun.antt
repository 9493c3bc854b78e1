-- What was sealed under a draw from the device's floor on was sealed since the interface was in another RUN last. In an
-- earlier RUN the manager had it started; the halt that ended its lock made every draw so far too small for the start
-- of this RUN, and the floor of this RUN is at least the draw of its start.
use Rattle.law_sealing.proofs.Terms.{◌≡◌, inl, inr, ℕ, ◌+◌, ◌<◌, ◌≤◌, ◌==◌, Bool, true, false, List, [], ◌∷◌, ◌++◌}
use Rattle.law_sealing.proofs.Terms.{Some, refl, ap, sym, subst, ◌∙◌, arith, nat_tests, if◌then◌else◌, cases_Bool}
use Rattle.law_sealing.proofs.Terms.{append_assoc, slice_get, Plan, PortName, History, Event, Verdict, Sealed}
use Rattle.law_sealing.proofs.Terms.{SealedPacket, CauseLaw, sent_bytes, sending_port, sealing_is, AllLive, zero, suc}
use Rattle.law_sealing.proofs.Terms.{IsLive, all_live, sub_stream_of}
unfoldable use Rattle.law_sealing.proofs.Terms.{due}
use Rattle.std.proofs.lemmas.Bool.{and_parts, true≢false}
use Rattle.std.specs.Prelude.{nat_lt}
use Rattle.ide_types.specs.Fits.{FitsPlan}
use Rattle.spec_keys.specs.Keys.{Keys, key_in, on_in}
use Rattle.spec_keys.specs.Operations.{Begun}
use Rattle.spec_keys.specs.History.{begun_of_draw, place_keys, keeps_live}
unfoldable use Rattle.spec_keys.specs.History.{manager}
use Rattle.spec_keys.proofs.Owners.{after_longer, owner}
use Rattle.law_key_facts.proofs.Given.{key_cause}
use Rattle.law_key_facts.proofs.SealedKeys.{live_on, on_is_owned}
use Rattle.spec_links.specs.Plan.{key_plan}
use Rattle.spec_interfaces.specs.Terms.{View, Unlocked, Locked, Running, Doubt, Broken, StreamStatus}
use Rattle.spec_interfaces.specs.Terms.{if_secure, start_answer}
use Rattle.spec_interfaces.specs.Peers.{is_secure}
use Rattle.spec_interfaces.specs.Sites.{Site, site_at}
use Rattle.spec_interfaces.specs.Exchanges.{carries}
use Rattle.spec_interfaces.specs.Views.{managed_view, view_at, needs_at, stream_draw}
unfoldable use Rattle.spec_interfaces.specs.Devices.{devices}
use Rattle.spec_interfaces.specs.Devices.{runs_at, locks_accepted, interface_at, one_if, is_lock_accepted}
use Rattle.spec_interfaces.specs.Floors.{posted_receiver, draw_at_device, device_floor}
use Rattle.spec_interfaces.specs.Due.{if_locked, if_reported, if_fresh, unless_lost, started_as, host_status}
use Rattle.spec_interfaces.proofs.OnLinks.{number_on_link}
use Rattle.spec_interfaces.proofs.Rests.{starts, rests_on}
use Rattle.spec_interfaces.proofs.Views.{views_hold, due_own}
use Rattle.law_verdicts.proofs.{Since, IsStillStarted, cause_at, fronts, interface_cause, keeps_floors, later}
use Rattle.law_verdicts.specs.{CameFrom}
use Rattle.law_bytes.specs.NoOtherRun.{IsInNoOtherRun}
use Rattle.law_bytes.proofs.StreamDraws.{draw_at_most}
use Rattle.script_events.specs.declared.event.Event.TheVariants as event
use Rattle.script_events.specs.declared.event.InterfaceEvent.TheVariants as ie
use Rattle.event_verdicts.specs.declared.verdict.Verdict.TheVariants as v
use Rattle.ide_types.specs.declared.verdict.InterfaceVerdict.TheVariants as iv
use Rattle.ide_types.specs.declared.status.StreamStatus.TheVariants as status

-- ---- the start of this RUN

record IsFresh (draw needs : ℕ) (host : StreamStatus) : Type 0 where
  secure : is_secure host ≡ true
  least : needs ≤ draw

-- a start that reaches the device passed each test of the manager
fresh_start : (view : View) (reported : Bool) (host : StreamStatus) (draw needs : ℕ) (z w : Verdict)
    → w ≡ if_locked view (if_reported reported (if_secure host (if_fresh draw needs z))) → carries w 1 ≡ true
    → IsFresh draw needs host
fresh_start view reported host draw needs z w is reaches =
    by view reported host (nat_lt draw needs) refl (sym (ap (λ (u : Verdict). carries u 1) is) ∙ reaches)
  where
    by : (view : View) (reported : Bool) (host : StreamStatus) (b : Bool) → nat_lt draw needs ≡ b
        → carries (if_locked view (if_reported reported (if_secure host (if b then v.Interface
        (iv.RefusedRefreshFirst draw needs) else z)))) 1 ≡ true
        → IsFresh draw needs host
    by Unlocked reported host b less reaches = absurd (true≢false (sym reaches))
    by Running reported host b less reaches = absurd (true≢false (sym reaches))
    by Doubt reported host b less reaches = absurd (true≢false (sym reaches))
    by Broken reported host b less reaches = absurd (true≢false (sym reaches))
    by Locked false host b less reaches = absurd (true≢false (sym reaches))
    by Locked true status.Idle b less reaches = absurd (true≢false (sym reaches))
    by Locked true status.Partial b less reaches = absurd (true≢false (sym reaches))
    by Locked true status.Insecure b less reaches = absurd (true≢false (sym reaches))
    by Locked true status.Secure true less reaches = absurd (true≢false (sym reaches))
    by Locked true status.Secure false less reaches = record { secure = refl; least = grind (arith, nat_tests, less) }

-- the event that started it is a start of it
start_fresh : (plan : Plan) (h : History) (e : Event) (w : Verdict) (x : Site) → site_at plan x.number ≡ Some x
    → CauseLaw plan ((e, w) ∷ h) → starts x e w ≡ true
    → IsFresh (stream_draw h x.link x.plan.stream) (needs_at h x) (host_status h x)
start_fresh plan h (event.Interface (ie.Start i loss)) w x at cause is =
    let own = and_parts (i == x.number) (carries w 1) is in
    let due = due_own plan h x (ie.Start i loss) i w at refl own.0
    (interface_cause plan ((event.Interface (ie.Start i loss), w) ∷ h) cause).0 in
    fresh_start (view_at h x) (managed_view h x).reported (host_status h x) (stream_draw h x.link x.plan.stream)
    (needs_at h x)
    (unless_lost loss 1 (started_as x (stream_draw h x.link x.plan.stream)
    (start_answer (interface_at plan h x).state (managed_view h x).nonce))) w due own.1
start_fresh plan h e w x at cause is = absurd (true≢false (sym is))

starts_there : (plan : Plan) (h : History) (e : Event) (w : Verdict) (x : Site) → runs_at plan h x ≡ false
    → runs_at plan ((e, w) ∷ h) x ≡ true → starts x e w ≡ true
starts_there plan h e w x rests runs = elim (cases_Bool (starts x e w)) [
  | inl is ↦ is
  | inr none ↦ absurd (true≢false (sym runs ∙ rests_on plan h e w x none rests))
]

live_on_set : (ks : Keys) (set : Bool) (j : ℕ) → on_in (key_in ks set) ≡ Some j → keeps_live ks ≡ true
live_on_set ks set j on = grind (arith, on)

less_is : (m n : ℕ) → nat_lt m n ≡ true → m < n
less_is m n is = grind (arith, nat_tests, is)

-- what the manager needed for it is at most the device's floor
needs_most : (plan : Plan) → FitsPlan plan → (h : History) (e : Event) (w : Verdict) (x : Site) (floor : ℕ) (set : Bool)
    → site_at plan x.number ≡ Some x → CauseLaw plan ((e, w) ∷ h) → starts x e w ≡ true → draw_at_device h x ≡ floor
    → on_in (key_in (place_keys h (posted_receiver x)) set) ≡ Some floor → needs_at h x ≤ floor
needs_most plan fits h e w x floor set at cause is greatest on =
    let fresh = start_fresh plan h e w x at cause is in
    let below = less_is x.link _ (number_on_link plan x at) in
    let most = draw_at_most (key_plan plan) h (key_cause plan h cause.1) x.link x.plan.stream
    (omega (arith, below, fits.links_most)) (live_on_set (place_keys h (posted_receiver x)) set floor on) fresh.secure
    in
    omega (arith, fresh.least, most, greatest)

-- ---- locks are only ever added

pub locks_grow : (plan : Plan) (since g : History) (x : Site)
    → locks_accepted plan g x ≤ locks_accepted plan (since ++ g) x
unfolding devices
locks_grow plan [] g x = omega arith
locks_grow plan ((e, w) ∷ since) g x =
    let before = locks_grow plan since g x in
    let more = at_least (locks_accepted plan (since ++ g) x)
    (is_lock_accepted plan (since ++ g) (devices plan (since ++ g)) e w x) in
    omega (arith, before, more)
  where
    at_least : (n : ℕ) (b : Bool) → n ≤ n + one_if b
    at_least n true = omega arith
    at_least n false = omega arith

locks_from : (plan : Plan) (g h : History) (x : Site) → CameFrom g h → locks_accepted plan g x ≤ locks_accepted plan h x
locks_from plan g h x came =
    subst (λ (k : History). locks_accepted plan g x ≤ locks_accepted plan k x) came.is (locks_grow plan came.since g x)

-- ---- an earlier RUN

made_since : (since g : History) (j : ℕ) (b : Begun) → begun_of_draw (manager g).begun j ≡ Some b
    → begun_of_draw (manager (since ++ g)).begun j ≡ Some b
unfolding manager
made_since [] g j b is = is
made_since ((e, w) ∷ since) g j b is = after_longer (manager (since ++ g)) e w j b (made_since since g j b is)

-- in RUN, the manager has it started
pub stands_there : (plan : Plan) (k : History) (x : Site) → site_at plan x.number ≡ Some x → CauseLaw plan k
    → runs_at plan k x ≡ true → IsStillStarted (managed_view k x)
stands_there plan k x at cause runs =
    let views = views_hold plan (key_plan plan) k (key_cause plan k cause) (interface_cause plan k cause) x at in
    record {
      started = elim (cases_Bool (managed_view k x).started) [
        | inl is ↦ is
        | inr not ↦ absurd (true≢false (sym runs ∙ (views.unstarted not).rests))
      ];
      locked = λ is. true≢false (sym runs ∙ (views.unlocked is).rests);
    }

-- so its lock is the one that stood before this RUN was started, if a draw that was made by then is from the floor on
one_lock_then : (plan : Plan) (j : ℕ) (b : Begun) (since k : History) (x : Site) → site_at plan x.number ≡ Some x
    → CauseLaw plan (since ++ k) → CauseLaw plan k → runs_at plan k x ≡ true → begun_of_draw (manager k).begun j
    ≡ Some b → needs_at (since ++ k) x ≤ j → locks_accepted plan (since ++ k) x ≡ locks_accepted plan k x
one_lock_then plan j b since k x at cause before runs made least =
    by (later plan (locks_accepted plan k x) j b since k x at (interface_cause plan (since ++ k) cause) (record {
      made = made;
      since = inl (refl, stands_there plan k x at before runs);
    })).since
  where
    by : Since plan (locks_accepted plan k x) j (since ++ k) x → locks_accepted plan (since ++ k) x
        ≡ locks_accepted plan k x
    by (inl same) = same.0
    by (inr past) = let less = past.needs in absurd (omega (arith, less, least))

-- ---- since a history

-- since a draw was made that the manager could need under the lock that stands
pub no_other_since : (plan : Plan) (h : History) → CauseLaw plan h → (x : Site) → site_at plan x.number ≡ Some x
    → (first : History) → CameFrom first h → locks_accepted plan first x ≡ locks_accepted plan h x
    → (g : History) (j : ℕ) (b : Begun) → begun_of_draw (manager g).begun j ≡ Some b → needs_at first x ≤ j
    → IsInNoOtherRun plan g h x
no_other_since plan h cause x at first came same_lock g j b made least k from to running =
    elim (fronts to.since came.since k first (to.is ∙ sym came.is)) [
      | inl behind ↦
          let a = locks_from plan first k x (record { since = behind.0; is = behind.1 }) in
          let b = locks_from plan k h x to in
          omega (arith, a, b, same_lock)
      | inr ahead ↦
          let there = subst (λ (z : History). begun_of_draw (manager z).begun j ≡ Some b) from.is
          (made_since from.since g j b made) in
          let earlier = cause_at plan to.since k h to.is cause in
          let law = cause_at plan came.since first h came.is cause in
          let low : needs_at (ahead.0 ++ k) x ≤ j = subst (λ (z : History). needs_at z x ≤ j) (sym ahead.1) least in
          sym (one_lock_then plan j b ahead.0 k x at (subst (CauseLaw plan) (sym ahead.1) law) earlier running there
          low)
          ∙ (ap (λ (z : History). locks_accepted plan z x) ahead.1 ∙ same_lock)
    ]

-- since a draw was made that is from the device's floor on
pub no_other_run : (plan : Plan) → FitsPlan plan → (h : History) → CauseLaw plan h → (x : Site)
    → site_at plan x.number ≡ Some x → runs_at plan h x ≡ true → (g : History) (j : ℕ) (b : Begun)
    → begun_of_draw (manager g).begun j ≡ Some b → device_floor plan h x ≤ j → IsInNoOtherRun plan g h x
no_other_run plan fits h cause x at runs g j b made least =
    let start = keeps_floors plan h cause x.number x at runs in
    let pair : Event × Verdict = (start.event, start.verdict) in
    let law = cause_at plan start.since (pair ∷ start.older) h start.came cause in
    let needs = needs_most plan fits start.older start.event start.verdict x (device_floor plan h x) start.set at law
    (starts_there plan start.older start.event start.verdict x start.rested start.runs) start.greatest start.on in
    no_other_since plan h cause x at start.older
    (record { since = start.since ++ pair ∷ []; is = append_assoc start.since (pair ∷ []) start.older ∙ start.came })
    start.same_lock g j b made (omega (arith, needs, least))

-- ---- the draw that a packet was sealed under was made by then

pub live_of : (plan : Plan) (g : History) (port : PortName) (stream : ℕ) (ds : List SealedPacket) (i : ℕ)
    (d : SealedPacket)
    → AllLive plan g port stream ds → slice_get ds i ≡ Some d → IsLive plan g port stream d
live_of plan g port stream [] i d all is = absurd cc
live_of plan g port stream (y ∷ ds) zero d all is =
    let same : y ≡ d = cc (is) in subst (IsLive plan g port stream) same all.0
live_of plan g port stream (y ∷ ds) (suc i) d all is = live_of plan g port stream ds i d all.1 is

pub made_by : (plan : Plan) (g : History) (e : Event) (ds : List SealedPacket) (i : ℕ) (d : SealedPacket)
    → Sealed ds ≡ due plan g e → slice_get ds i ≡ Some d
    → begun_of_draw (manager g).begun d.draw ≡ Some (owner d.port.line d.stream d.k)
made_by plan g e ds i d is at =
    let sealing = sealing_is plan g e ds is in
    let live = live_of plan g sealing.sending.port sealing.sending.stream ds i d
    (all_live plan g (sending_port plan g e) (sent_bytes plan g e) ds sealing) at in
    on_is_owned g sealing.sending.port (sub_stream_of d) d.k d.draw
    (live_on plan g sealing.sending.port sealing.sending.stream d live)

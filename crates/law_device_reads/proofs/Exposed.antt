-- No byte of a locked interface's closed memory leaves its device but in the RUN that asked for it.
use Rattle.law_sealing.proofs.Terms.{◌≡◌, ℕ, ◌≤◌, ◌||◌, Bool, true, false, List, [], ◌∷◌, Option, Some, None}
use Rattle.law_sealing.proofs.Terms.{refl, ap, sym, subst, ◌∙◌, arith, nat_tests, if◌then◌else◌, Plan}
use Rattle.law_sealing.proofs.Terms.{History, Event, Verdict, Sealed, SealedPacket, PortName, CauseLaw, KeyName}
use Rattle.law_sealing.proofs.Terms.{AllLive, IsLive, all_live, lane_out, live_key, sent_bytes, Cpl}
unfoldable use Rattle.law_sealing.proofs.Terms.{due}
use Rattle.std.specs.Option.{option_map_or}
use Rattle.ide_types.specs.Fits.{FitsPlan}
use Rattle.ide_types.specs.declared.interface.BarPlan.{BarPlan}
use Rattle.interface_state.specs.Bindings.{floor_on}
use Rattle.interface_state.specs.Machine.{all_bindings}
use Rattle.guarded_memory.specs.Statuses.{is_open_range, is_config_unlocked}
use Rattle.guarded_memory.specs.Causes.{access_cause}
use Rattle.spec_interfaces.specs.Devices.{interface_at}
use Rattle.spec_interfaces.specs.Floors.{device_floor}
use Rattle.spec_links.proofs.Terms.{Access, is_before}
use Rattle.law_reads.proofs.Responses.{responded_by}
use Rattle.spec_links.specs.Terms.{InterfaceStatus, Claim, ReadArrival, least_draw}
use Rattle.event_verdicts.specs.declared.verdict.BlockCause.TheVariants as cause
use Rattle.script_events.specs.declared.event.AccessEvent.TheVariants as ae
use Rattle.law_mmio.proofs.Guards.{shut_at}
use Rattle.law_device_reads.specs.Oldest.{IsOldestAtDevice}
use Rattle.law_device_reads.specs.Exposure.{ExposesGuarded, ExposureLaw}
use Rattle.law_device_reads.proofs.Responses.{IsKept, kept_for}
use Rattle.law_device_reads.proofs.InRun.{of_run, was_queued}

-- ---- T

-- of a closed range, of an interface that is not in CONFIG_UNLOCKED, no byte is asked for without it
has_t : (c : Claim) (t : Bool) (stream draw : ℕ) → is_open_range c.range ≡ false
    → is_config_unlocked c.status.state ≡ false → access_cause c.status c.range t stream draw ≡ None → t ≡ true
has_t c true stream draw closed locked is = refl
has_t c false stream draw closed locked is = absurd (by (is_open_range c.range) (is_config_unlocked c.status.state)
    closed locked is)
  where
    by : (a b : Bool) → a ≡ false → b ≡ false → (if a || b then None else Some cause.NotTrusted) ≡ None → ⊥
    by true b closed locked is = absurd cc
    by false true closed locked is = absurd cc
    by false false closed locked is = absurd cc

-- ---- the draw

none_before : (o : Option KeyName) (key : KeyName) (floor : ℕ) → o ≡ Some key → is_before o floor ≡ false
    → floor ≤ key.draw
none_before None key floor is none = absurd cc
none_before (Some k) key floor is none =
    let same : k ≡ key = cc (is) in subst (λ (z : KeyName). floor ≤ z.draw) same (grind (arith, nat_tests))

least_is : (c : Claim) (came : ReadArrival) (floor : ℕ) → came.trusted ≡ true
    → floor_on came.stream c.status.bound ≡ Some floor → least_draw c came ≡ floor
least_is c came floor trusted bound = rw (trusted, bound) refl

live_last : (plan : Plan) (h : History) (port : PortName) (stream : ℕ) (ds : List SealedPacket) (d : SealedPacket)
    → AllLive plan h port stream ds → ds ≡ d ∷ [] → IsLive plan h port stream d
live_last plan h port stream ds d all is = (subst (AllLive plan h port stream) is all).0

-- it is from the floor on
draw_from : (plan : Plan) (h : History) (link : ℕ) (of : IsOldestAtDevice plan h link) (ds : List SealedPacket)
    (kept : IsKept plan h link of ds) (d : SealedPacket) → ds ≡ d ∷ [] → d.sub ≡ Cpl
    → least_draw kept.claim of.read.came ≤ d.draw
draw_from plan h link of ds kept d one sub =
    let came = of.read.came in
    let sealing = kept.sealed.sealing in
    let s = sealing.sending in
    let live = live_last plan h s.port s.stream ds d
    (all_live plan h came.end (sent_bytes plan h (Access (ae.Respond link))) ds sealing) one in
    let there : live_key h came.end (lane_out came.end came.stream Cpl) ≡ Some live.key =
    (λ i. live_key h (sym sealing.at_port i)
    (lane_out (sym sealing.at_port i) (sym kept.sealed.on_stream i) (sym sub i)))
    ∙ live.live in
    let up = none_before _ live.key (least_draw kept.claim came) there kept.key in
    omega (arith, up, live.draw)

-- ---- the law

exposes_guarded : (plan : Plan) → FitsPlan plan → (h : History) (link : ℕ) (ds : List SealedPacket)
    → CauseLaw plan ((Access (ae.Respond link), Sealed ds) ∷ h)
    → ExposesGuarded plan h (Access (ae.Respond link)) (Sealed ds)
exposes_guarded plan fits h link ds cause is i less enabled shut locked =
    let of = is.of in
    let came = of.read.came in
    let d = is.sealed.last in
    let kept = kept_for plan h link ds (responded_by plan h link ds cause.0) of in
    let c = kept.claim in
    let closed : is_open_range c.range ≡ false =
    sym (ap (λ (o : Option BarPlan). option_map_or is_open_range o false) kept.now.range_is)
    ∙ shut_at of.interface.plan (interface_at plan h of.interface).registers of.target.bar shut in
    let trusted = has_t c came.trusted came.stream came.draw closed
    (ap (λ (x : InterfaceStatus). is_config_unlocked x.state) kept.now.status_is ∙ locked) kept.allowed in
    let run = of_run plan fits h cause.1 link ds of kept trusted in
    let floor = run.now.floor in
    let bound : floor_on came.stream c.status.bound ≡ Some floor =
    ap (λ (x : InterfaceStatus). floor_on came.stream x.bound) kept.now.status_is ∙ run.now.bound in
    let least = least_is c came floor trusted bound in
    let up = draw_from plan h link of ds kept d is.sealed.alone is.is_completion in
    record {
      trusted = is.t_is ∙ trusted;
      runs = run.now.runs;
      floor = floor;
      bound = ap (λ (s : ℕ). floor_on s (all_bindings (device_floor plan h of.interface)
          (interface_at plan h of.interface))) is.stream_is ∙ run.now.bound;
      from_floor = omega (arith, least, up);
      queued = was_queued plan h link of.read run.queued.by;
      same_lock = run.no_other run.queued.by.older (record { since = []; is = refl }) run.came run.ran.runs;
    }

exposes : (plan : Plan) → FitsPlan plan → (h : History) (e : Event) (w : Verdict) → CauseLaw plan ((e, w) ∷ h)
    → ExposesGuarded plan h e w
exposes plan fits h (Access (ae.Respond link)) (Sealed ds) cause = exposes_guarded plan fits h link ds cause
exposes plan fits h e w cause = tt

pub exposure_law : (plan : Plan) → FitsPlan plan → (h : History) → CauseLaw plan h → ExposureLaw plan h
exposure_law plan fits [] cause = tt
exposure_law plan fits ((e, w) ∷ h) cause =
    (exposes plan fits h e w cause, exposure_law plan fits h cause.1)

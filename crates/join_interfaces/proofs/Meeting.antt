-- If an interface stands at both ends and its plan is within its bounds, each message of an operation has the widths of
-- its fields, and the report has room: so the exchanges are the stated ones.
use Rattle.std.proofs.Common.{◌≡◌, ℕ, ◌<◌, ◌≤◌, ◌^◌, ◌==◌, ◌&&◌, ◌||◌, Bool, true, false, List, []}
use Rattle.std.proofs.Common.{◌∷◌, Option, Some, None, refl, sym, subst, arith}
use Rattle.std.specs.Prelude.{IfSome, All, slice_get}
use Rattle.std.proofs.lemmas.List.Elements.{All-get_or, All-head, All-tail}
use Rattle.std.proofs.lemmas.Option.{slice_get_within, get_or_from_slice_get}
use Rattle.spec_keys.proofs.Tests.{true-same, both-true}
use Rattle.ide_types.specs.declared.stream.StreamPlan.{StreamPlan}
use Rattle.ide_types.specs.declared.interface.InterfacePlan.{InterfacePlan}
use Rattle.ide_types.specs.declared.plan.Plan.{Plan}
use Rattle.ide_types.specs.Plans.{has_selective, is_selective}
use Rattle.ide_types.specs.Fits.{IsKey, FitsStream, FitsInterface}
use Rattle.interface_state.specs.declared.states.Lock.{Lock}
use Rattle.interface_state.specs.Held.{FitsTdi}
use Rattle.interface_state.specs.Kept.{kept_report}
use Rattle.interface_state.specs.Machine.{DeviceTdi, lock_of}
use Rattle.spec_interfaces.specs.Sites.{Site}
use Rattle.machine_whole.specs.Interfaces.{Face, Streams}
use Rattle.interface_host.specs.Views.{HostTdi}
use Rattle.interface_host.specs.Managers.{InterfaceManagerView}
use Rattle.interface_ends.specs.Replies.{DeviceTdis, next_nonce}
use Rattle.interface_ends.specs.Exchanges.{ReportsFit, IsReport, Meets}
use Rattle.join_interfaces.specs.Joined.{IsAt}

-- ---- lists

pub all_got : {A : Type 0} (P : A → Type 0) (xs : List A) (k : ℕ) (x : A) → slice_get xs k ≡ Some x → All P xs → P x
all_got P xs k x is all =
    subst P (get_or_from_slice_get xs k x x is) (All-get_or P xs k x (slice_get_within xs k x is) all)

pub some_got : {A : Type 0} (P : A → Type 0) (xs : List A) (k : ℕ) (o : Option A) → slice_get xs k ≡ o → All P xs
    → IfSome o P
some_got P xs k None is all = tt
some_got P xs k (Some x) is all = all_got P xs k x is all

-- ---- widths

either : (a b : Bool) (id : ℕ) → (a ≡ true → id ≤ 255) → (b ≡ true → id ≤ 255) → (a || b) ≡ true → id ≤ 255
either true b id here later is = here refl
either false b id here later is = later is

stream_width : (streams : List StreamPlan) (id : ℕ) → All FitsStream streams → has_selective id streams ≡ true
    → id ≤ 255
stream_width [] id fits is = absurd cc
stream_width (s ∷ ss) id fits is =
    either (is_selective s.selector && s.id == id) (has_selective id ss) id
    (λ here.
    let same : s.id ≡ id = true-same s.id id (both-true (is_selective s.selector) (s.id == id) here).1 in
    let most : s.id ≤ 255 = (All-head FitsStream s ss fits).id in
    omega arith)
    (λ later. stream_width ss id (All-tail FitsStream s ss fits) later) is

fits_interface : (streams : List StreamPlan) (plan : InterfacePlan) → FitsInterface streams plan → FitsTdi plan
fits_interface streams plan fits = record { bars = fits.bars; each_bar = fits.each_bar; info = fits.info }

report_of : ReportsFit → (streams : List StreamPlan) (plan : InterfacePlan) (lock : Option Lock)
    → FitsInterface streams plan → IfSome lock (λ l. IsReport (kept_report plan l))
report_of fit streams plan None fits = tt
report_of fit streams plan (Some lock) fits = fit plan lock (fits_interface streams plan fits) fits.info_bytes

pub meets : ReportsFit → (plan : Plan) (s : Streams) (used : ℕ → ℕ) (x : Site) (f : Face) (number place : ℕ)
    (m : InterfaceManagerView) (d : DeviceTdis) (i : HostTdi) (tdi : DeviceTdi)
    → IsAt plan s used x f number place m d i tdi
    → Meets m.portion i d (record { place = place; tdi = tdi })
meets fit plan s used x f number place m d i tdi a =
    let l = a.face.managed.laid_out in
    let requester : i.requester ≡ x.plan.requester = l.requester in
    let requester_most : x.plan.requester ≤ 65535 = a.fits.requester in
    let flags : i.flags ≡ x.plan.flags = l.flags in
    let flags_most : x.plan.flags ≤ 31 = a.fits.flags in
    let stream : i.stream ≡ x.plan.stream = l.stream in
    let stream_most : x.plan.stream ≤ 255 = stream_width a.streams x.plan.stream a.each_stream a.fits.stream in
    let offset : i.offset ≡ x.plan.offset = l.offset in
    let offset_most : x.plan.offset < 2 ^ 63 = a.fits.offset_most in
    let portion : m.portion ≡ plan.portion = a.portion_is in
    let least : 16 ≤ plan.portion = a.portion_least in
    let most : plan.portion ≤ 65535 = a.portion_most in
    record {
      requester = omega arith;
      flags = omega arith;
      stream = omega arith;
      offset = omega arith;
      nonce = a.face.managed.nonce;
      portion_least = omega arith;
      portion_most = omega arith;
      named_is = a.at_device;
      drawn = some_got IsKey d.nonces d.used (next_nonce d) refl a.each_nonce;
      report = subst (λ p. IfSome (lock_of tdi.state) (λ lock. IsReport (kept_report p lock))) (sym a.face.layout)
          (report_of fit a.streams x.plan (lock_of tdi.state) a.fits);
    }

-- What all links say beside their ports is what the whole machine says. Grants are those of the one site of a link with
-- a requester, as requesters of a link differ (`grant_is`). What is written to an interface, and what is shown of one
-- or of memory, is what the machine answers.
use Rattle.std.proofs.Common.{◌≡◌, ℕ, ◌<◌, ◌≤◌, ◌==◌, ◌&&◌, Bool, true, false, List, length, refl, sym, ap, ◌∙◌}
use Rattle.std.proofs.Common.{arith, Option, Some, None, ⊎_elim, ◌⊎◌}
use Rattle.std.proofs.lemmas.Bool.{cases_lt, cases_Bool, and_parts, eqb-true, eq-eqb, and_from, and_left, and_right}
use Rattle.std.proofs.lemmas.Option.{same_Some, slice_get_within}
use Rattle.std.specs.Option.{option_and_then, option_map_or}
use Rattle.std.specs.Prelude.{slice_get, if◌then◌else◌}
use Rattle.ide_types.specs.Fits.{FitsPlan}
use Rattle.ide_types.specs.declared.plan.Plan.{Plan}
use Rattle.ide_types.specs.declared.register.Register.{Register}
use Rattle.ide_types.specs.declared.verdict.InterfaceVerdict.TheVariants as iv
use Rattle.ide_types.specs.declared.view.View.{View}
use Rattle.ide_types.specs.RegisterNames.{has_register}
use Rattle.script_events.specs.declared.event.InterfaceEvent.{InterfaceEvent}
use Rattle.script_events.specs.declared.event.InterfaceEvent.TheVariants as ie
use Rattle.event_verdicts.specs.declared.verdict.Verdict.{Verdict}
use Rattle.event_verdicts.specs.declared.verdict.Verdict.TheVariants as v
use Rattle.interface_state.specs.Machine.{WriteRegister, LevelReset, FirmwareUpdate}
use Rattle.interface_host.specs.Managers.{running_grant, granted_at}
use Rattle.interface_host.specs.Views.{HostTdi, Seen, IsUnlocked, IsLocked, IsRunning, IsDoubt, IsBroken, is_granted}
use Rattle.interface_host.specs.Views.{is_running, interface_grant as host_grant, grant_by, floor_of, view_of}
use Rattle.trusted_memory.specs.{MemoryContents, Write, IsLeftBy, byte_at, bytes_from, in_one_region}
unfoldable use Rattle.trusted_memory.specs.{byte_last_written}
use Rattle.spec_interfaces.specs.Due.{asked_due, code_after, write_due}
use Rattle.spec_interfaces.specs.Sites.{Site, sites}
use Rattle.spec_interfaces.specs.Views.{Managed, bound_if}
use Rattle.machine_whole.specs.Interfaces.{Face, find_face, asked_state_of_face, asked_due_of, grant_of}
use Rattle.join_interfaces.specs.Faces.{SeenAs}
use Rattle.spec_links.specs.Memory.{shown_if}
use Rattle.whole_links.specs.{code_behind, device_interfaces, firmware_as, flr_as, interface_named, InterfacesView}
use Rattle.whole_links.specs.{LinkEnds, memory_verdict, interface_of_ends, viewed_as, written_as}
use Rattle.machine_whole.specs.Machine.{Whole, memory_shown, whole_streams}
use Rattle.join_world.specs.Whole.{IsPlaced, IsBeside}
use Rattle.join_world.proofs.Owners.{is_requester, requester_true, requester_from, true_false, requester_found}
use Rattle.join_world.proofs.Owners.{requester_nowhere}
use Rattle.join_world.proofs.Places.{position_at, position_none, IsSomeSite, site_or_none, get_there}
use Rattle.join_world.proofs.Sites.{site_numbered, site_apart, face_found, face_absent}
use Rattle.join_world.proofs.Sites.{interface_there, interface_absent}

-- ---- one interface

seen_view : (s : Seen) (m : Managed) → SeenAs s m → view_of s ≡ m.view
seen_view IsUnlocked m as_seen = sym as_seen
seen_view (IsLocked nonce reported) m as_seen = sym as_seen.0
seen_view (IsRunning floor) m as_seen = sym as_seen.0
seen_view IsDoubt m as_seen = sym as_seen
seen_view IsBroken m as_seen = sym as_seen

seen_grant : (s : Seen) (m : Managed) (stream : ℕ) → SeenAs s m
    → grant_by stream (floor_of s) ≡ bound_if m.view stream m.floor
seen_grant IsUnlocked m stream as_seen = ap (λ (u : View). bound_if u stream m.floor) (sym as_seen)
seen_grant (IsLocked nonce reported) m stream as_seen = ap (λ (u : View). bound_if u stream m.floor) (sym as_seen.0)
seen_grant (IsRunning floor) m stream as_seen = (λ j. bound_if (sym as_seen.0 j) stream (sym as_seen.1 j))
seen_grant IsDoubt m stream as_seen = ap (λ (u : View). bound_if u stream m.floor) (sym as_seen)
seen_grant IsBroken m stream as_seen = ap (λ (u : View). bound_if u stream m.floor) (sym as_seen)

-- what does not run grants nothing
not_running : (s : Seen) (stream : ℕ) → is_running s ≡ false → grant_by stream (floor_of s) ≡ None
not_running IsUnlocked stream is = refl
not_running (IsLocked nonce reported) stream is = refl
not_running (IsRunning floor) stream is = absurd (true_false refl is)
not_running IsDoubt stream is = refl
not_running IsBroken stream is = refl

-- ---- memory

shown_is : (b : Bool) (bytes : List ℕ) → memory_verdict b bytes ≡ shown_if b bytes
shown_is true bytes = refl
shown_is false bytes = refl

pub memory_is : (plan : Plan) (memory : MemoryContents) (written : List Write) (at len : ℕ) → memory.regions
    ≡ plan.memory → IsLeftBy memory written → memory_verdict (in_one_region memory.regions at len)
    (bytes_from (byte_at memory) at len) ≡ memory_shown plan written (ie.Memory at len)
memory_is plan memory written at len regions left =
    shown_is (in_one_region memory.regions at len) (bytes_from (byte_at memory) at len)
    ∙ (λ j. shown_if (in_one_region (regions j) at len) (bytes_from (λ a. left a j) at len))

module _ (plan : Plan) (ends : List LinkEnds) (m : InterfacesView) (memory : MemoryContents) (w : Whole)
    (beside : IsBeside plan ends m memory w) (fits : FitsPlan plan) (many : length ends ≡ length plan.links) where
  -- ---- grants

  -- the site of an interface of the manager's
  interface_site : (k : ℕ) (y : HostTdi) → slice_get m.interfaces k ≡ Some y
      → (x : Site) × (slice_get (sites plan) k ≡ Some x) × (x.link ≡ y.link) × (x.plan.requester ≡ y.requester)
  interface_site k y there =
      let x = get_there (sites plan) k
      (omega (arith, slice_get_within m.interfaces k y there, beside.managed)) in
      let p = beside.placed k x.0 x.1 in
      let same : p.interface ≡ y = same_Some p.interface y (sym p.interface_is ∙ there) in (
        x.0,
        x.1,
        sym p.keeps.managed.laid_out.link ∙ ap (λ (z : HostTdi). z.link) same,
        sym p.keeps.managed.laid_out.requester ∙ ap (λ (z : HostTdi). z.requester) same,
      )

  grant_found : (link requester : ℕ) → IsSomeSite (is_requester link requester) (sites plan)
      → running_grant m link requester ≡ grant_of plan w.faces link requester
  grant_found link requester s =
      let p = beside.placed s.place s.site s.site_is in
      ⊎_elim (runs p) (stands p) (cases_Bool (is_running p.interface.seen)) ∙ kept p
    where
      kept : (p : IsPlaced plan ends m w s.place s.site) → host_grant p.interface ≡ grant_of plan w.faces link requester
      kept p =
          ap (λ (n : ℕ). grant_by n (floor_of p.interface.seen)) p.keeps.managed.laid_out.stream
          ∙ seen_grant p.interface.seen p.face.managed s.site.plan.stream p.keeps.managed.seen
          ∙ sym (ap (option_and_then (λ (y : Site × Face). bound_if y.1.managed.view y.0.plan.stream y.1.managed.floor))
          (requester_found plan ends m memory w beside fits many link requester s.place s.site p s.site_is s.passes))

      only : (k : ℕ) (y : HostTdi) → slice_get m.interfaces k ≡ Some y
          → ((y.link == link) && (y.requester == requester)) ≡ true → k ≡ s.place
      only k y there so =
          let x = interface_site k y there in
          let mine = requester_true link requester s.site s.passes in
          let its = and_parts (y.link == link) (y.requester == requester) so in
          site_apart plan k s.place x.0 s.site fits x.1 s.site_is (x.2 ∙ eqb-true y.link link its.0 ∙ sym mine.0)
          (x.3 ∙ eqb-true y.requester requester its.1 ∙ sym mine.1)

      ahead : (k : ℕ) (y : HostTdi) → k < s.place → slice_get m.interfaces k ≡ Some y
          → (((y.link == link) && (y.requester == requester)) ≡ true)
          ⊎ (((y.link == link) && (y.requester == requester)) ≡ false) → is_granted link requester y ≡ false
      ahead k y lt there cases = ⊎_elim (λ so. absurd (omega (arith, lt, only k y there so)))
          (and_left ((y.link == link) && (y.requester == requester)) (is_running y.seen)) cases

      runs : (p : IsPlaced plan ends m w s.place s.site) → is_running p.interface.seen ≡ true
          → running_grant m link requester ≡ host_grant p.interface
      runs p running =
          let mine = requester_true link requester s.site s.passes in
          let passes : is_granted link requester p.interface ≡ true =
          and_from ((p.interface.link == link) && (p.interface.requester == requester)) (is_running p.interface.seen)
          (and_from (p.interface.link == link) (p.interface.requester == requester)
          (eq-eqb p.interface.link link (p.keeps.managed.laid_out.link ∙ mine.0))
          (eq-eqb p.interface.requester requester (p.keeps.managed.laid_out.requester ∙ mine.1))) running in
          ap (granted_at m.interfaces) (position_at (is_granted link requester) m.interfaces s.place p.interface
          p.interface_is passes
          (λ k y lt there. ahead k y lt there (cases_Bool ((y.link == link) && (y.requester == requester)))))
          ∙ ap (λ (o : Option HostTdi). option_map_or host_grant o None) p.interface_is

      idle : (p : IsPlaced plan ends m w s.place s.site) → is_running p.interface.seen ≡ false → (k : ℕ) (y : HostTdi)
          → slice_get m.interfaces k ≡ Some y → (((y.link == link) && (y.requester == requester)) ≡ true)
          ⊎ (((y.link == link) && (y.requester == requester)) ≡ false) → is_granted link requester y ≡ false
      idle p not_so k y there cases =
          ⊎_elim (λ so.
          let same : p.interface ≡ y = same_Some p.interface y
          (sym p.interface_is ∙ ap (slice_get m.interfaces) (sym (only k y there so)) ∙ there) in
          and_right ((y.link == link) && (y.requester == requester)) (is_running y.seen)
          (ap (λ (z : HostTdi). is_running z.seen) (sym same) ∙ not_so))
          (and_left ((y.link == link) && (y.requester == requester)) (is_running y.seen)) cases

      stands : (p : IsPlaced plan ends m w s.place s.site) → is_running p.interface.seen ≡ false
          → running_grant m link requester ≡ host_grant p.interface
      stands p not_so =
          ap (granted_at m.interfaces) (position_none (is_granted link requester) m.interfaces
          (λ k y there. idle p not_so k y there (cases_Bool ((y.link == link) && (y.requester == requester)))))
          ∙ sym (not_running p.interface.seen p.interface.stream not_so)

  grant_nowhere : (link requester : ℕ)
      → ((k : ℕ) (y : Site) → slice_get (sites plan) k ≡ Some y → is_requester link requester y ≡ false)
      → running_grant m link requester ≡ grant_of plan w.faces link requester
  grant_nowhere link requester fails =
      ap (granted_at m.interfaces) (position_none (is_granted link requester) m.interfaces
      (λ k y there. none k y there (cases_Bool ((y.link == link) && (y.requester == requester)))))
      ∙ sym (ap (option_and_then (λ (y : Site × Face). bound_if y.1.managed.view y.0.plan.stream y.1.managed.floor))
      (requester_nowhere plan ends m memory w beside fits many link requester fails))
    where
      none : (k : ℕ) (y : HostTdi) → slice_get m.interfaces k ≡ Some y
          → (((y.link == link) && (y.requester == requester)) ≡ true)
          ⊎ (((y.link == link) && (y.requester == requester)) ≡ false) → is_granted link requester y ≡ false
      none k y there cases =
          ⊎_elim (λ so.
          let x = interface_site k y there in
          let its = and_parts (y.link == link) (y.requester == requester) so in
          absurd (true_false (requester_from link requester x.0 (x.2 ∙ eqb-true y.link link its.0)
          (x.3 ∙ eqb-true y.requester requester its.1)) (fails k x.0 x.1)))
          (and_left ((y.link == link) && (y.requester == requester)) (is_running y.seen)) cases

  pub grant_is : (link requester : ℕ) → running_grant m link requester ≡ grant_of plan w.faces link requester
  grant_is link requester = ⊎_elim (grant_found link requester) (grant_nowhere link requester)
      (site_or_none (is_requester link requester) (sites plan))

  -- ---- answers

  -- the machine's, by number
  abbrev pub due_at : ℕ → InterfaceEvent → Option Verdict
  due_at i e =
      Some (asked_due_of plan (whole_streams plan w) w.faces.used e
      (find_face (λ y. y.number == i) (sites plan) w.faces.list))

  -- by number: if there is such an interface, by what stands there, else nothing
  pub answered : (i : ℕ) (e : InterfaceEvent) (given : Option (ℕ × ℕ) → Option Verdict) → given None ≡ Some v.Nothing
      → ((x : Site) (p : IsPlaced plan ends m w i x) → slice_get (sites plan) i ≡ Some x
      → given (Some (x.link, p.place))
      ≡ Some (asked_due plan x (asked_state_of_face plan (whole_streams plan w) w.faces.used x p.face) e))
      → given (interface_named m ends i) ≡ due_at i e
  answered i e given absent there = ⊎_elim here nowhere (cases_lt i (length (sites plan)))
    where
      at : (x : Site) (p : IsPlaced plan ends m w i x) → slice_get (sites plan) i ≡ Some x
          → given (interface_named m ends i) ≡ due_at i e
      at x p is =
          ap given (interface_there plan ends m memory w i x p beside fits is) ∙ there x p is
          ∙ sym (ap (λ (o : Option (Site × Face)). Some (asked_due_of plan (whole_streams plan w) w.faces.used e o))
          (face_found plan w.faces.list i x p.face is p.face_is))

      here : i < length (sites plan) → given (interface_named m ends i) ≡ due_at i e
      here lt = let x = get_there (sites plan) i lt in at x.0 (beside.placed i x.0 x.1) x.1

      nowhere : length (sites plan) ≤ i → given (interface_named m ends i) ≡ due_at i e
      nowhere le =
          ap given (interface_absent plan ends m memory w i beside le) ∙ absent
          ∙ sym (ap (λ (o : Option (Site × Face)). Some (asked_due_of plan (whole_streams plan w) w.faces.used e o))
          (face_absent plan w.faces.list i le))

  pub view_is : (i : ℕ) (x : Site) (p : IsPlaced plan ends m w i x) → slice_get (sites plan) i ≡ Some x
      → viewed_as i (slice_get m.interfaces i) ≡ v.Interface (iv.View x.number p.face.managed.view)
  view_is i x p is =
      ap (viewed_as i) p.interface_is
      ∙ (λ j. v.Interface (iv.View (sym (site_numbered plan i x is) j)
      (seen_view p.interface.seen p.face.managed p.keeps.managed.seen j)))

  pub tdi_there : (i : ℕ) (x : Site) (p : IsPlaced plan ends m w i x) → interface_of_ends ends (x.link, p.place)
      ≡ Some p.tdi
  tdi_there i x p =
      ap (λ (o : Option LinkEnds). option_and_then (λ d. slice_get d.interfaces p.place) (device_interfaces o))
      p.ends_are ∙ p.tdi_is

  pub write_is : (i : ℕ) (register : Register) (value : ℕ) (x : Site) (p : IsPlaced plan ends m w i x)
      → slice_get (sites plan) i ≡ Some x
      → written_as i register value (interface_of_ends ends (x.link, p.place)) ≡ write_due x p.face.tdi register value
  write_is i register value x p is =
      ap (written_as i register value) (tdi_there i x p)
      ∙ (λ j. if has_register (p.keeps.layout j) register then v.Interface
      (iv.Written (sym (site_numbered plan i x is) j) (code_behind (p.keeps.tdi_is j) (WriteRegister register value)))
      else v.Nothing)

  pub flr_is : (i : ℕ) (x : Site) (p : IsPlaced plan ends m w i x) → slice_get (sites plan) i ≡ Some x
      → flr_as i (interface_of_ends ends (x.link, p.place)) ≡ v.Interface
      (iv.Flr x.number (code_after p.face.tdi LevelReset))
  flr_is i x p is = ap (flr_as i) (tdi_there i x p)
      ∙ (λ j. v.Interface (iv.Flr (sym (site_numbered plan i x is) j) (code_behind (p.keeps.tdi_is j) LevelReset)))

  pub firmware_is : (i : ℕ) (x : Site) (p : IsPlaced plan ends m w i x) → slice_get (sites plan) i ≡ Some x
      → firmware_as i (interface_of_ends ends (x.link, p.place))
      ≡ v.Interface (iv.Firmware x.number (code_after p.face.tdi FirmwareUpdate))
  firmware_is i x p is =
      ap (firmware_as i) (tdi_there i x p)
      ∙ (λ j. v.Interface (iv.Firmware (sym (site_numbered plan i x is) j)
      (code_behind (p.keeps.tdi_is j) FirmwareUpdate)))

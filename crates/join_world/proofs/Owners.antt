-- T of what is sent is what the whole machine says. It is that of the one site of a link with the owner's requester ID,
-- as requesters of a link differ: at a device's port by the stream that the interface is locked with, at an end of a
-- stream between devices by what it is bound to (`t_is`).
use Rattle.std.proofs.Common.{◌≡◌, ℕ, ◌+◌, ◌-◌, ◌<◌, ◌≤◌, ◌==◌, ◌&&◌, Bool, true, false, List, length, refl, sym, ap}
use Rattle.std.proofs.Common.{◌∙◌, arith, Option, Some, None, ⊎_elim, ◌⊎◌}
use Rattle.std.proofs.lemmas.Bool.{cases_lt, cases_Bool, and_parts, eqb-true, eq-eqb, ne_eqb, and_from, and_left}
use Rattle.std.proofs.lemmas.Bool.{and_right, lt-ltb, le-ltb}
use Rattle.std.proofs.lemmas.Bool.Decides.{nat_tests}
use Rattle.std.proofs.lemmas.Option.{none-some, same_Some, slice_get_past}
use Rattle.std.specs.Option.{option_and_then, option_map_or, option_map}
use Rattle.std.specs.Prelude.{slice_get, is_some, if◌then◌else◌, IfSome, nat_lt, position}
use Rattle.ide_types.specs.declared.port.PortName.{PortName}
use Rattle.ide_types.specs.declared.port.Side.{Side}
use Rattle.ide_types.specs.declared.port.Side.TheVariants.{Host, Device}
use Rattle.ide_types.specs.Ends.{peer_link, peer_port}
use Rattle.ide_types.specs.Fits.{FitsPlan}
use Rattle.ide_types.specs.declared.interface.InterfacePlan.{InterfacePlan}
use Rattle.ide_types.specs.declared.plan.PeerPlan.{PeerPlan}
use Rattle.ide_types.specs.declared.plan.Plan.{Plan}
use Rattle.tlp_layout.specs.declared.head.HeadView.{HeadView}
use Rattle.ide_types.specs.declared.binding.Binding.{Binding}
use Rattle.interface_state.specs.declared.states.TdiState.{TdiState}
use Rattle.interface_state.specs.declared.states.TdiState.TheVariants.{ConfigUnlocked, ConfigLocked, Run, Error}
use Rattle.interface_state.specs.Bindings.{binds}
use Rattle.interface_state.specs.Machine.{DeviceTdi, bound_link_stream}
use Rattle.interface_ends.specs.Replies.{runs_on, runs_bound}
use Rattle.trusted_memory.specs.{MemoryContents}
use Rattle.spec_interfaces.specs.Cause.{is_peer, owner_id, owners_link}
use Rattle.spec_interfaces.specs.Devices.{is_run}
use Rattle.spec_interfaces.specs.Sites.{Site, sites}
use Rattle.machine_whole.specs.Interfaces.{Face, Faces, t_of, peer_t_of, with_requester}
use Rattle.link_ends.specs.DeviceEnds.{owner_sets, bound_owner_sets}
use Rattle.spec_links.specs.Ports.{at_switch}
use Rattle.machine_ports.specs.Machine.{port_at}
use Rattle.whole_links.specs.{EndsView, bound_on, bound_trust, far_hop_trust, link_trust, trusting_on}
use Rattle.whole_links.specs.{AreLinks, InterfacesView, KeeperView, LinkEnds}
use Rattle.machine_whole.specs.Machine.{Whole, t_at_side, t_kept}
use Rattle.join_world.specs.Whole.{IsPlaced, IsBeside}
use Rattle.join_world.proofs.Places.{face_first, face_nowhere, position_at, position_none, IsSomeSite, site_or_none}
use Rattle.join_world.proofs.Sites.{site_at_place, site_apart, located_read, held_before}

-- ---- the site of a link and a requester

abbrev pub is_requester : ℕ → ℕ → Site → Bool
is_requester link requester x = (x.link == link) && (x.plan.requester == requester)

pub requester_true : (link requester : ℕ) (x : Site) → is_requester link requester x ≡ true
    → (x.link ≡ link) × (x.plan.requester ≡ requester)
requester_true link requester x is =
    let p = and_parts (x.link == link) (x.plan.requester == requester) is in
    (eqb-true x.link link p.0, eqb-true x.plan.requester requester p.1)

pub requester_from : (link requester : ℕ) (x : Site) → x.link ≡ link → x.plan.requester ≡ requester
    → is_requester link requester x ≡ true
requester_from link requester x at is = and_from (x.link == link) (x.plan.requester == requester)
    (eq-eqb x.link link at) (eq-eqb x.plan.requester requester is)

pub true_false : {b : Bool} → b ≡ true → b ≡ false → ⊥
true_false is is_not = absurd cc

-- ---- one interface

runs_face : (state : TdiState) (planned stream : ℕ) → IfSome (bound_link_stream state) (λ s. s ≡ planned)
    → runs_on stream state ≡ (is_run state && (planned == stream))
runs_face ConfigUnlocked planned stream bound = refl
runs_face (ConfigLocked lock nonce) planned stream bound = refl
runs_face (Run lock) planned stream bound = ap (λ (s : ℕ). s == stream) bound
runs_face Error planned stream bound = refl

bound_face : (state : TdiState) (bs : List Binding) (stream : ℕ)
    → runs_bound stream state bs ≡ (is_run state && binds stream bs)
bound_face ConfigUnlocked bs stream = refl
bound_face (ConfigLocked lock nonce) bs stream = refl
bound_face (Run lock) bs stream = refl
bound_face Error bs stream = refl

module _ (plan : Plan) (ends : List LinkEnds) (m : InterfacesView) (memory : MemoryContents) (w : Whole)
    (beside : IsBeside plan ends m memory w) (fits : FitsPlan plan) (many : length ends ≡ length plan.links) where
  -- ---- the site of an owner

  -- what is kept of the site of a link and a requester
  pub requester_found : (link requester i : ℕ) (x : Site) (p : IsPlaced plan ends m w i x) → slice_get (sites plan) i
      ≡ Some x → is_requester link requester x ≡ true → with_requester plan w.faces link requester ≡ Some (x, p.face)
  requester_found link requester i x p is passes =
      let mine = requester_true link requester x passes in
      face_first (is_requester link requester) (sites plan) w.faces.list i x p.face is p.face_is passes
      (λ k y lt at. other k y lt at (cases_Bool (is_requester link requester y)))
    where
      other : (k : ℕ) (y : Site) → k < i → slice_get (sites plan) k ≡ Some y → (is_requester link requester y ≡ true)
          ⊎ (is_requester link requester y ≡ false) → is_requester link requester y ≡ false
      other k y lt at cases = ⊎_elim (λ also.
          let mine = requester_true link requester x passes in
          let its = requester_true link requester y also in
          absurd (omega (arith, lt, site_apart plan k i y x fits at is (its.0 ∙ sym mine.0) (its.1 ∙ sym mine.1))))
          (λ not_so. not_so) cases

  pub requester_nowhere : (link requester : ℕ)
      → ((k : ℕ) (y : Site) → slice_get (sites plan) k ≡ Some y → is_requester link requester y ≡ false)
      → with_requester plan w.faces link requester ≡ None
  requester_nowhere link requester fails = face_nowhere (is_requester link requester) (sites plan) w.faces.list fails

  -- a requester has one place on a link
  place_only : (link k i : ℕ) (l : LinkEnds) (t : DeviceTdi) (x : Site) (p : IsPlaced plan ends m w i x)
      → slice_get ends link ≡ Some l → slice_get l.device.interfaces.interfaces k ≡ Some t
      → slice_get (sites plan) i ≡ Some x → x.link ≡ link → x.plan.requester ≡ t.plan.requester → k ≡ p.place
  place_only link k i l t x p is there site_is link_is same =
      let s = site_at_place plan ends m memory w link k l t beside many is there in
      let alike = site_apart plan i (held_before ends link + k) x s.site fits site_is s.site_is
      (link_is ∙ sym s.link_is) (same ∙ ap (λ (y : InterfacePlan). y.requester) s.plan_is) in
      let at = located_read 0 i ends (x.link, p.place) p.located_is in
      let number : i ≡ held_before ends link + p.place =
      at.number_is ∙ ap (λ (n : ℕ). held_before ends n + p.place) (omega (arith, at.link_is, link_is)) in
      omega (arith, alike, number)

  -- ---- T by a test of interfaces

  module _ (runs : DeviceTdi → Bool) (kept : Site × Face → Bool)
      (each : (i : ℕ) (x : Site) (p : IsPlaced plan ends m w i x) → runs p.tdi ≡ kept (x, p.face)) where
    abbrev owns : ℕ → DeviceTdi → Bool
    owns requester tdi = (requester == tdi.plan.requester) && runs tdi

    set_kept : (link requester i : ℕ) (x : Site) (p : IsPlaced plan ends m w i x)
        → slice_get (sites plan) i ≡ Some x → is_requester link requester x ≡ true
        → runs p.tdi ≡ option_map_or kept (with_requester plan w.faces link requester) false
    set_kept link requester i x p is passes = each i x p ∙ sym
        (ap (λ (o : Option (Site × Face)). option_map_or kept o false) (requester_found link requester i x p is passes))

    set_found : (link requester : ℕ) (l : LinkEnds) → slice_get ends link ≡ Some l
        → IsSomeSite (is_requester link requester) (sites plan)
        → is_some (position (owns requester) l.device.interfaces.interfaces)
        ≡ option_map_or kept (with_requester plan w.faces link requester) false
    set_found link requester l is s =
        let p = beside.placed s.place s.site s.site_is in
        let mine = requester_true link requester s.site s.passes in
        let here : p.link_ends ≡ l = same_Some p.link_ends l (sym p.ends_are ∙ ap (slice_get ends) mine.0 ∙ is) in
        let at : slice_get l.device.interfaces.interfaces p.place ≡ Some p.tdi =
        ap (λ (y : LinkEnds). slice_get y.device.interfaces.interfaces p.place) (sym here) ∙ p.tdi_is in
        ⊎_elim (running p mine.0 mine.1 at) (stands p mine.0 mine.1 at) (cases_Bool (runs p.tdi))
        ∙ set_kept link requester s.place s.site p s.site_is s.passes
      where
        ahead : (p : IsPlaced plan ends m w s.place s.site) → s.site.link ≡ link → s.site.plan.requester ≡ requester
            → (k : ℕ) (t : DeviceTdi) → k < p.place → slice_get l.device.interfaces.interfaces k ≡ Some t
            → owns requester t ≡ false
        ahead p link_is requester_is k t lt there =
            and_left (requester == t.plan.requester) (runs t)
            (ne_eqb requester t.plan.requester (λ same. absurd (omega (
              arith,
              lt,
              place_only link k s.place l t s.site p is there s.site_is link_is (requester_is ∙ same),
            ))))

        running : (p : IsPlaced plan ends m w s.place s.site) → s.site.link ≡ link → s.site.plan.requester ≡ requester
            → slice_get l.device.interfaces.interfaces p.place ≡ Some p.tdi → runs p.tdi ≡ true
            → is_some (position (owns requester) l.device.interfaces.interfaces) ≡ runs p.tdi
        running p link_is requester_is at runs_there =
            let owner : owns requester p.tdi ≡ true =
            and_from (requester == p.tdi.plan.requester) (runs p.tdi)
            (eq-eqb requester p.tdi.plan.requester
            (sym requester_is ∙ ap (λ (y : InterfacePlan). y.requester) (sym p.keeps.layout))) runs_there in
            ap is_some (position_at (owns requester) l.device.interfaces.interfaces p.place p.tdi at owner
            (ahead p link_is requester_is)) ∙ sym runs_there

        idle : (p : IsPlaced plan ends m w s.place s.site) → s.site.link ≡ link → s.site.plan.requester ≡ requester
            → slice_get l.device.interfaces.interfaces p.place ≡ Some p.tdi → runs p.tdi ≡ false
            → (k : ℕ) (t : DeviceTdi) → slice_get l.device.interfaces.interfaces k ≡ Some t
            → ((requester == t.plan.requester) ≡ true) ⊎ ((requester == t.plan.requester) ≡ false)
            → owns requester t ≡ false
        idle p link_is requester_is at not_there k t there cases =
            ⊎_elim (λ so.
            let place = place_only link k s.place l t s.site p is there s.site_is link_is
            (requester_is ∙ eqb-true requester t.plan.requester so) in
            let same : p.tdi ≡ t = same_Some p.tdi t
            (sym at ∙ ap (slice_get l.device.interfaces.interfaces) (sym place) ∙ there) in
            and_right (requester == t.plan.requester) (runs t)
            (ap (λ (y : DeviceTdi). runs y) (sym same) ∙ not_there))
            (and_left (requester == t.plan.requester) (runs t)) cases

        stands : (p : IsPlaced plan ends m w s.place s.site) → s.site.link ≡ link → s.site.plan.requester ≡ requester
            → slice_get l.device.interfaces.interfaces p.place ≡ Some p.tdi → runs p.tdi ≡ false
            → is_some (position (owns requester) l.device.interfaces.interfaces) ≡ runs p.tdi
        stands p link_is requester_is at not_there =
            ap is_some (position_none (owns requester) l.device.interfaces.interfaces
            (λ k t there. idle p link_is requester_is at not_there k t there
            (cases_Bool (requester == t.plan.requester)))) ∙ sym not_there

    set_nowhere : (link requester : ℕ) (l : LinkEnds) → slice_get ends link ≡ Some l
        → ((k : ℕ) (y : Site) → slice_get (sites plan) k ≡ Some y → is_requester link requester y ≡ false)
        → is_some (position (owns requester) l.device.interfaces.interfaces)
        ≡ option_map_or kept (with_requester plan w.faces link requester) false
    set_nowhere link requester l is fails =
        ap is_some (position_none (owns requester) l.device.interfaces.interfaces (λ k t there.
        let s = site_at_place plan ends m memory w link k l t beside many is there in
        and_left (requester == t.plan.requester) (runs t)
        (ne_eqb requester t.plan.requester (λ same.
        true_false (requester_from link requester s.site s.link_is
        (ap (λ (y : InterfacePlan). y.requester) (sym s.plan_is) ∙ sym same))
        (fails (held_before ends link + k) s.site s.site_is)))))
        ∙ sym (ap (λ (o : Option (Site × Face)). option_map_or kept o false)
        (requester_nowhere link requester fails))

    set_is : (link requester : ℕ) (l : LinkEnds) → slice_get ends link ≡ Some l
        → is_some (position (owns requester) l.device.interfaces.interfaces)
        ≡ option_map_or kept (with_requester plan w.faces link requester) false
    set_is link requester l is = ⊎_elim (set_found link requester l is) (set_nowhere link requester l is)
        (site_or_none (is_requester link requester) (sites plan))

    -- a link that is not there has no site
    none_set : (link requester : ℕ) → slice_get ends link ≡ None
        → false ≡ option_map_or kept (with_requester plan w.faces link requester) false
    none_set link requester is =
        sym (ap (λ (o : Option (Site × Face)). option_map_or kept o false)
        (requester_nowhere link requester (λ k y at. elsewhere k y at (cases_Bool (is_requester link requester y)))))
      where
        elsewhere : (k : ℕ) (y : Site) → slice_get (sites plan) k ≡ Some y → (is_requester link requester y ≡ true)
            ⊎ (is_requester link requester y ≡ false) → is_requester link requester y ≡ false
        elsewhere k y at cases = ⊎_elim (λ so.
            let p = beside.placed k y at in
            absurd (none-some p.link_ends (sym is ∙ ap (slice_get ends) (sym (requester_true link requester y so).0)
            ∙ p.ends_are)))
            (λ not_so. not_so) cases

  -- ---- T at a device

  own_each : (stream i : ℕ) (x : Site) (p : IsPlaced plan ends m w i x)
      → runs_on stream p.tdi.state ≡ (is_run p.face.tdi.state && (x.plan.stream == stream))
  own_each stream i x p = runs_face p.tdi.state x.plan.stream stream p.keeps.bound
      ∙ ap (λ (t : DeviceTdi). is_run t.state && (x.plan.stream == stream)) p.keeps.tdi_is

  bound_each : (stream i : ℕ) (x : Site) (p : IsPlaced plan ends m w i x)
      → runs_bound stream p.tdi.state p.tdi.bindings ≡ (is_run p.face.tdi.state && binds stream p.face.tdi.bindings)
  bound_each stream i x p = bound_face p.tdi.state p.tdi.bindings stream
      ∙ ap (λ (t : DeviceTdi). is_run t.state && binds stream t.bindings) p.keeps.tdi_is

  abbrev own_kept : ℕ → Site × Face → Bool
  own_kept stream y = is_run y.1.tdi.state && (y.0.plan.stream == stream)

  abbrev bound_kept : ℕ → Site × Face → Bool
  bound_kept stream y = is_run y.1.tdi.state && binds stream y.1.tdi.bindings

  owner_is : (link stream : ℕ) (l : LinkEnds) (owner : Option ℕ) → slice_get ends link ≡ Some l
      → owner_sets l.device.interfaces stream owner ≡ t_of plan w.faces link stream owner
  owner_is link stream l None is = refl
  owner_is link stream l (Some requester) is =
      set_is (λ t. runs_on stream t.state) (own_kept stream) (own_each stream) link requester l is

  bound_is : (link stream : ℕ) (l : LinkEnds) (owner : Option ℕ) → slice_get ends link ≡ Some l
      → bound_owner_sets l.device.interfaces stream owner ≡ peer_t_of plan w.faces link stream owner
  bound_is link stream l None is = refl
  bound_is link stream l (Some requester) is =
      set_is (λ t. runs_bound stream t.state t.bindings) (bound_kept stream) (bound_each stream) link requester l is

  owner_nowhere : (link stream : ℕ) (owner : Option ℕ) → slice_get ends link ≡ None
      → false ≡ t_of plan w.faces link stream owner
  owner_nowhere link stream None is = refl
  owner_nowhere link stream (Some requester) is =
      none_set (λ t. runs_on stream t.state) (own_kept stream) (own_each stream) link requester is

  bound_nowhere : (link stream : ℕ) (owner : Option ℕ) → slice_get ends link ≡ None
      → false ≡ peer_t_of plan w.faces link stream owner
  bound_nowhere link stream None is = refl
  bound_nowhere link stream (Some requester) is =
      none_set (λ t. runs_bound stream t.state t.bindings) (bound_kept stream) (bound_each stream) link requester is

-- ---- where the machine looks

-- an end of a link is at no switch, and of no stream between devices
link_not_switch : (plan : Plan) (s : Side) (line : ℕ) → line < 8 → at_switch plan (port_at s line) ≡ false
link_not_switch plan Host line lt = grind (arith, nat_tests)
link_not_switch plan Device line lt = grind (arith, nat_tests)

below_not_peer : (plan : Plan) (s : Side) (line : ℕ) → line < 24 → is_peer plan (port_at s line) ≡ false
below_not_peer plan s line lt = grind (arith, nat_tests)

abbrev kept_as : Bool → Bool → Bool → Bool → Bool → Bool
kept_as switch peer trusted bound own = if switch then trusted else if peer then bound else own

as_own : (switch peer trusted bound own : Bool) → switch ≡ false → peer ≡ false
    → own ≡ kept_as switch peer trusted bound own
as_own switch peer trusted bound own none also = rw (none, also) refl

as_bound : (switch peer trusted bound own : Bool) → switch ≡ false → peer ≡ true
    → bound ≡ kept_as switch peer trusted bound own
as_bound switch peer trusted bound own none is = rw (none, is) refl

as_sent : (switch peer trusted bound own : Bool) → switch ≡ true → trusted ≡ kept_as switch peer trusted bound own
as_sent switch peer trusted bound own is = rw is refl

module _ (plan : Plan) (fs : Faces) (end : PortName) (head : HeadView) (stream : ℕ) (trusted : Bool) where
  kept_own : at_switch plan end ≡ false → is_peer plan end ≡ false
      → t_at_side plan fs end end.side head stream trusted ≡ t_kept plan fs end head stream trusted
  kept_own =
      as_own (at_switch plan end) (is_peer plan end) trusted
      (peer_t_of plan fs (owners_link plan end) stream (owner_id head))
      (t_at_side plan fs end end.side head stream trusted)

  kept_bound : at_switch plan end ≡ false → is_peer plan end ≡ true
      → peer_t_of plan fs (owners_link plan end) stream (owner_id head) ≡ t_kept plan fs end head stream trusted
  kept_bound =
      as_bound (at_switch plan end) (is_peer plan end) trusted
      (peer_t_of plan fs (owners_link plan end) stream (owner_id head))
      (t_at_side plan fs end end.side head stream trusted)

  kept_sent : at_switch plan end ≡ true → trusted ≡ t_kept plan fs end head stream trusted
  kept_sent =
      as_sent (at_switch plan end) (is_peer plan end) trusted
      (peer_t_of plan fs (owners_link plan end) stream (owner_id head))
      (t_at_side plan fs end end.side head stream trusted)

-- ---- where the code looks

module _ (v : EndsView) (s : Side) (line : ℕ) (head : HeadView) (stream : ℕ) (trusted : Bool) where
  trusts_link : line < 8 → trusting_on v (port_at s line) trusted head stream
      ≡ link_trust s trusted (slice_get v.links line) head stream
  trusts_link lt = rw (lt-ltb line 8 lt) refl

  trusts_near : 8 ≤ line → line < 16 → trusting_on v (port_at s line) trusted head stream ≡ trusted
  trusts_near le lt = rw (le-ltb line 8 le, lt-ltb line 16 lt) refl

  trusts_far : 16 ≤ line → line < 24
      → trusting_on v (port_at s line) trusted head stream ≡ far_hop_trust s trusted head stream
  trusts_far le lt =
      rw (le-ltb line 8 (omega (arith, le)), le-ltb line 16 le, lt-ltb (line - 16) 8 (omega (arith, le, lt))) refl

  trusts_peer : 24 ≤ line → trusting_on v (port_at s line) trusted head stream
      ≡ bound_trust (bound_on v.links v.peers s (line - 16 - 8)) head stream
  trusts_peer le =
      rw (
        le-ltb line 8 (omega (arith, le)),
        le-ltb line 16 (omega (arith, le)),
        le-ltb (line - 16) 8 (omega (arith, le)),
      ) refl

near_switch : (plan : Plan) (line : ℕ) → length plan.links ≤ 8 → 8 ≤ line → line < 16
    → at_switch plan (port_at Device line) ≡ true
near_switch plan line few le lt = grind (arith, nat_tests)

near_host : (plan : Plan) (line : ℕ) → line < 16 → at_switch plan (port_at Host line) ≡ false
near_host plan line lt = grind (arith, nat_tests)

far_switch : (plan : Plan) (line : ℕ) → length plan.links ≤ 8 → 16 ≤ line → line < 24
    → at_switch plan (port_at Host line) ≡ true
far_switch plan line few le lt = grind (arith, nat_tests)

far_device : (plan : Plan) (line : ℕ) → 16 ≤ line → at_switch plan (port_at Device line) ≡ false
far_device plan line le = grind (arith, nat_tests)

peer_not_switch : (plan : Plan) (s : Side) (line : ℕ) → 24 ≤ line → at_switch plan (port_at s line) ≡ false
peer_not_switch plan Host line le = grind (arith, nat_tests)
peer_not_switch plan Device line le = grind (arith, nat_tests)

peer_is : (plan : Plan) (s : Side) (line : ℕ) → length plan.links ≤ 8 → 24 ≤ line → is_peer plan (port_at s line) ≡ true
peer_is plan s line few le = grind (arith, nat_tests)

owners_are : (plan : Plan) (s : Side) (line : ℕ) (p : PeerPlan) → length plan.links ≤ 8 → 24 ≤ line
    → slice_get plan.peers (line - 24) ≡ Some p → owners_link plan (port_at s line) ≡ peer_link s p
owners_are plan s line p few le is =
    let one : nat_lt line 8 ≡ false = le-ltb line 8 (omega (arith, le)) in
    let two : nat_lt line 16 ≡ false = le-ltb line 16 (omega (arith, le)) in
    let three : nat_lt line 24 ≡ false = le-ltb line 24 le in
    rw (peer_is plan s line few le) (rw (one, two, three)
    (ap (λ (o : Option PeerPlan). (peer_port o (port_at s line)).line) is))

owners_beyond : (plan : Plan) (s : Side) (line : ℕ) → length plan.links ≤ 8 → 24 ≤ line
    → slice_get plan.peers (line - 24) ≡ None → owners_link plan (port_at s line) ≡ line
owners_beyond plan s line few le is =
    let one : nat_lt line 8 ≡ false = le-ltb line 8 (omega (arith, le)) in
    let two : nat_lt line 16 ≡ false = le-ltb line 16 (omega (arith, le)) in
    let three : nat_lt line 24 ≡ false = le-ltb line 24 le in
    rw (peer_is plan s line few le) (rw (one, two, three)
    (ap (λ (o : Option PeerPlan). (peer_port o (port_at s line)).line) is))

-- ---- T at each end

module _ (plan : Plan) (v : EndsView) (k : KeeperView) (m : InterfacesView) (memory : MemoryContents) (w : Whole)
    (links : AreLinks plan v k) (beside : IsBeside plan v.links m memory w) where
  few : length plan.links ≤ 8
  few = links.fits.links_most

  past : (line : ℕ) → 8 ≤ line → slice_get v.links line ≡ None
  past line le = slice_get_past v.links line (omega (arith, links.many, few, le))

  link_is : (s : Side) (line : ℕ) (o : Option LinkEnds) (head : HeadView) (stream : ℕ) (trusted : Bool)
      → slice_get v.links line ≡ o
      → link_trust s trusted o head stream ≡ t_at_side plan w.faces (port_at s line) s head stream trusted
  link_is Host line o head stream trusted is = refl
  link_is Device line None head stream trusted is =
      owner_nowhere plan v.links m memory w beside links.fits links.many line stream (owner_id head) is
  link_is Device line (Some l) head stream trusted is =
      owner_is plan v.links m memory w beside links.fits links.many line stream l (owner_id head) is

  on_link : (s : Side) (line : ℕ) (head : HeadView) (stream : ℕ) (trusted : Bool) → line < 8
      → trusting_on v (port_at s line) trusted head stream ≡ t_kept plan w.faces (port_at s line) head stream trusted
  on_link s line head stream trusted lt =
      trusts_link v s line head stream trusted lt
      ∙ link_is s line (slice_get v.links line) head stream trusted refl
      ∙ kept_own plan w.faces (port_at s line) head stream trusted (link_not_switch plan s line lt)
      (below_not_peer plan s line (omega (arith, lt)))

  on_near : (s : Side) (line : ℕ) (head : HeadView) (stream : ℕ) (trusted : Bool) → 8 ≤ line → line < 16
      → trusting_on v (port_at s line) trusted head stream ≡ t_kept plan w.faces (port_at s line) head stream trusted
  on_near Host line head stream trusted le lt =
      trusts_near v Host line head stream trusted le lt
      ∙ kept_own plan w.faces (port_at Host line) head stream trusted (near_host plan line lt)
      (below_not_peer plan Host line (omega (arith, lt)))
  on_near Device line head stream trusted le lt = trusts_near v Device line head stream trusted le lt
      ∙ kept_sent plan w.faces (port_at Device line) head stream trusted (near_switch plan line few le lt)

  on_far : (s : Side) (line : ℕ) (head : HeadView) (stream : ℕ) (trusted : Bool) → 16 ≤ line → line < 24
      → trusting_on v (port_at s line) trusted head stream ≡ t_kept plan w.faces (port_at s line) head stream trusted
  on_far Host line head stream trusted le lt = trusts_far v Host line head stream trusted le lt
      ∙ kept_sent plan w.faces (port_at Host line) head stream trusted (far_switch plan line few le lt)
  on_far Device line head stream trusted le lt =
      trusts_far v Device line head stream trusted le lt
      ∙ owner_nowhere plan v.links m memory w beside links.fits links.many line stream (owner_id head)
      (past line (omega (arith, le)))
      ∙ kept_own plan w.faces (port_at Device line) head stream trusted (far_device plan line le)
      (below_not_peer plan Device line lt)

  -- at a device's end of a stream between it and another
  bound_by : (s : Side) (line : ℕ) (o : Option LinkEnds) (link : ℕ) (head : HeadView) (stream : ℕ)
      → slice_get v.links link ≡ o → bound_trust (option_map (λ (l : LinkEnds). l.device.interfaces) o) head stream
      ≡ peer_t_of plan w.faces link stream (owner_id head)
  bound_by s line None link head stream is =
      bound_nowhere plan v.links m memory w beside links.fits links.many link stream (owner_id head) is
  bound_by s line (Some l) link head stream is =
      bound_is plan v.links m memory w beside links.fits links.many link stream l (owner_id head) is

  bound_there : (s : Side) (line : ℕ) (o : Option PeerPlan) (head : HeadView) (stream : ℕ) → 24 ≤ line
      → slice_get plan.peers (line - 24) ≡ o
      → bound_trust (option_and_then (λ (p : PeerPlan). option_map (λ (l : LinkEnds). l.device.interfaces)
      (slice_get v.links (peer_link s p))) o) head stream
      ≡ peer_t_of plan w.faces (owners_link plan (port_at s line)) stream (owner_id head)
  bound_there s line None head stream le is =
      bound_nowhere plan v.links m memory w beside links.fits links.many line stream (owner_id head)
      (past line (omega (arith, le)))
      ∙ ap (λ n. peer_t_of plan w.faces n stream (owner_id head)) (sym (owners_beyond plan s line few le is))
  bound_there s line (Some p) head stream le is =
      bound_by s line (slice_get v.links (peer_link s p)) (peer_link s p) head stream refl
      ∙ ap (λ n. peer_t_of plan w.faces n stream (owner_id head)) (sym (owners_are plan s line p few le is))

  on_peer : (s : Side) (line : ℕ) (head : HeadView) (stream : ℕ) (trusted : Bool) → 24 ≤ line
      → trusting_on v (port_at s line) trusted head stream ≡ t_kept plan w.faces (port_at s line) head stream trusted
  on_peer s line head stream trusted le =
      let place : line - 16 - 8 ≡ line - 24 = omega arith in
      trusts_peer v s line head stream trusted le
      ∙ (λ i. bound_trust (bound_on v.links (links.peers_are i) s (place i)) head stream)
      ∙ bound_there s line (slice_get plan.peers (line - 24)) head stream le refl
      ∙ kept_bound plan w.faces (port_at s line) head stream trusted (peer_not_switch plan s line le)
      (peer_is plan s line few le)

  -- at every end
  pub t_is : (end : PortName) (head : HeadView) (stream : ℕ) (trusted : Bool)
      → trusting_on v end trusted head stream ≡ t_kept plan w.faces end head stream trusted
  t_is end head stream trusted =
      ⊎_elim (on_link end.side end.line head stream trusted)
      (λ one. ⊎_elim (on_near end.side end.line head stream trusted one)
      (λ two. ⊎_elim (on_far end.side end.line head stream trusted two)
      (λ three. on_peer end.side end.line head stream trusted three)
      (cases_lt end.line 24)) (cases_lt end.line 16)) (cases_lt end.line 8)

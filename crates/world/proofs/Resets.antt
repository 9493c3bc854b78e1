-- A reset of a link makes each interface of its device new and breaks each view of the manager there, as the machine
-- does; no lock stands there afterwards. An interface of another device leaves its lock if the reset cuts a stream
-- between devices that it is bound to. All else is as before. A reset of a link that is not there changes nothing.
use Rattle.std.proofs.Common.{◌≡◌, ℕ, ◌<◌, ◌==◌, ◌||◌, Bool, true, false, List, [], ◌∷◌, length, refl, ap, sym, ◌∙◌}
use Rattle.std.proofs.Common.{arith, Some, ⊎_elim, inl, subst}
use Rattle.std.specs.Prelude.{slice_get, map, nat_lt, option_map, if◌then◌else◌}
use Rattle.std.proofs.lemmas.Bool.{cases_Bool, cases_lt, lt-ltb}
use Rattle.std.proofs.lemmas.Bool.Decides.{nat_tests}
use Rattle.std.proofs.lemmas.List.{length-map}
use Rattle.std.proofs.lemmas.Option.{slice_get-map, slice_get_within}
use Rattle.ide_types.specs.declared.port.PortName.{PortName}
use Rattle.ide_types.specs.declared.plan.Plan.{Plan}
use Rattle.script_events.specs.declared.event.Event.{Event}
use Rattle.script_events.specs.declared.event.Event.TheVariants as event
use Rattle.event_verdicts.specs.declared.verdict.Verdict.{Verdict}
use Rattle.event_verdicts.specs.declared.verdict.Verdict.TheVariants as v
use Rattle.interface_state.specs.Machine.{DeviceTdi, LinkReset, interface_after_call}
use Rattle.interface_ends.specs.Replies.{DeviceTdis, reset_device_interfaces, settled_interface, settled_interfaces}
use Rattle.spec_interfaces.specs.Sites.{Site, sites}
use Rattle.spec_interfaces.specs.Views.{view_broken}
use Rattle.spec_interfaces.specs.Devices.{reset_call, interface_if_called}
use Rattle.machine_whole.specs.Interfaces.{Face, next_face, left_by}
use Rattle.interface_host.specs.Views.{HostTdi, broken_view, left_by_reset}
use Rattle.trusted_memory.specs.{MemoryContents, IsLeftBy}
use Rattle.join_interfaces.specs.Faces.{IsManaged}
use Rattle.link_ends.specs.DeviceEnds.{secure_or_live}
use Rattle.join_accesses.specs.{says_by_ports, reset_if, InterfacesView, LinkEnds, Links, links_state, peer_live}
use Rattle.join_accesses.specs.{place_on_links, BesideReset, IsPlaced, IsDevice, IsBeside}
use Rattle.join_accesses.proofs.{keeps_free, get_there, located_kept, each_at, each_many, used_kept, IsLed}
use Rattle.join_accesses.proofs.{IsManagedAfter, OnlyLeaves, SameDevice, led_follows, placed_led, shows_state, AreBoth}
use Rattle.join_accesses.proofs.{absent_beside}
use Rattle.machine_ports.specs.Machine.{BesidePorts, LinkState, Stepped, reset_state}
unfoldable use Rattle.machine_ports.specs.Machine.{step_of}
use Rattle.machine_whole.specs.Machine.{Whole, ends_in, whole_streams, beside_of, whole_after}
use Rattle.world.proofs.Told.{broken_managed, same_link}

-- ---- a device

-- it has as many interfaces, and gave no nonce
reset_same : (own : Bool) (is_secure : ℕ → Bool) (d : DeviceTdis)
    → SameDevice d (settled_interfaces is_secure (reset_if own d))
reset_same true is_secure d = record {
  nonces = refl;
  used = refl;
  many = length-map (reset_device_interfaces d).interfaces (settled_interface is_secure)
      ∙ length-map d.interfaces (λ (t : DeviceTdi). interface_after_call t LinkReset);
}
reset_same false is_secure d =
    record { nonces = refl; used = refl; many = length-map d.interfaces (settled_interface is_secure) }

-- new interfaces have no lock to leave
none_settled : (is_secure : ℕ → Bool) (ts : List DeviceTdi)
    → map (settled_interface is_secure) (map (λ (t : DeviceTdi). interface_after_call t LinkReset) ts)
    ≡ map (λ (t : DeviceTdi). interface_after_call t LinkReset) ts
none_settled is_secure [] = refl
none_settled is_secure (t ∷ ts) = ap (λ (us : List DeviceTdi). interface_after_call t LinkReset ∷ us)
    (none_settled is_secure ts)

-- ---- the step of the machine

done_verdict : (plan : Plan) (beside : BesidePorts) (st : LinkState) (link : ℕ) (ends : List PortName)
    → nat_lt link (length plan.links) ≡ true → (step_of plan beside st (event.Reset link ends)).0 ≡ v.Reset link
unfolding step_of
done_verdict plan beside st link ends there = ap (λ (s : Stepped). s.0)
    (ap (λ (b : Bool). if b then (v.Reset link, reset_state plan st ends) else (v.Nothing, st)) there)

turned : (a b : ℕ) → (a == b) ≡ (b == a)
turned a b = grind (arith, nat_tests)

-- ---- a link that is there

module _ (plan : Plan) (old new : Links) (w : Whole) (both : AreBoth plan old new w) (link : ℕ) (ends : List PortName)
    (sides : BesideReset link old new) where
  abbrev e : Event
  e = event.Reset link ends

  abbrev done : Verdict
  done = v.Reset link

  abbrev after : LinkState
  after = links_state plan new

  abbrev whole_now : Whole
  whole_now = whole_after plan w e done after

  abbrev face_of : Site → Face → Face
  face_of x f = next_face plan (whole_streams plan w) (ends_in plan after) w.faces.used e done x f

  -- what a reset makes of an interface: by whether it is on the link
  abbrev called : Site → DeviceTdi → Bool → DeviceTdi
  called x tdi own = interface_if_called (own || left_by plan (whole_streams plan w) (ends_in plan after) x tdi)
      (reset_call own) tdi

  module _ (there : link < length old.ends.links) where
    device_is : (k : ℕ) (l l' : LinkEnds) → slice_get old.ends.links k ≡ Some l → slice_get new.ends.links k ≡ Some l'
        → (b : Bool) → (k == link) ≡ b → l'.device.interfaces
        ≡ settled_interfaces (secure_or_live l'.device.port (peer_live new.ends k)) (reset_if b l.device.interfaces)
    device_is k l l' at at' b own =
        sides.devices there k l l' at at'
        ∙ ap (λ (c : Bool). settled_interfaces (secure_or_live l'.device.port (peer_live new.ends k))
        (reset_if c l.device.interfaces)) own

    same_device : (k : ℕ) (l l' : LinkEnds) → slice_get old.ends.links k ≡ Some l
        → slice_get new.ends.links k ≡ Some l' → SameDevice l.device.interfaces l'.device.interfaces
    same_device k l l' at at' = subst (SameDevice l.device.interfaces) (sym (sides.devices there k l l' at at'))
        (reset_same (k == link) (secure_or_live l'.device.port (peer_live new.ends k)) l.device.interfaces)

    -- another device is led by the ends of its streams
    other_led : (k : ℕ) (l l' : LinkEnds) → slice_get old.ends.links k ≡ Some l → slice_get new.ends.links k ≡ Some l'
        → (k == link) ≡ false → IsLed plan w.links after k l l'
    other_led k l l' at at' far =
        subst (λ (st : LinkState). IsLed plan st after k l l') (sym both.whole.links)
        (led_follows plan (links_state plan old) after old.ends new.ends k l l'
        (shows_state plan old.ends old.keeper.keys old.packets.packets k l both.links at)
        (shows_state plan new.ends new.keeper.keys new.packets.packets k l' both.links_after at')
        (inl (device_is k l l' at at' false far)))

    many_now : length new.ends.links ≡ length old.ends.links
    many_now = both.links_after.many ∙ sym both.links.many

    located_now : (i : ℕ) → place_on_links 0 i new.ends.links ≡ place_on_links 0 i old.ends.links
    located_now i = located_kept 0 i old.ends.links new.ends.links many_now
        (λ k l l' at at'. (same_device k l l' at at').many)

    used_now : (k : ℕ) → whole_now.faces.used k ≡ w.faces.used k
    used_now k = used_kept plan (whole_streams plan w) (ends_in plan after) e done w.faces (λ i x f at kept. refl) k

    device_now : (k : ℕ) (l' : LinkEnds) → slice_get new.ends.links k ≡ Some l' → IsDevice plan whole_now k l'
    device_now k l' at' =
        let l = get_there old.ends.links k (omega (arith, many_now, slice_get_within new.ends.links k l' at')) in
        let same = same_device k l.0 l' l.1 at' in
        let d = both.whole.beside.devices k l.0 l.1 in
        record {
          nonces = same.nonces ∙ d.nonces;
          used = same.used ∙ d.used ∙ sym (used_now k);
          many = λ p at. same.many ∙ d.many p at;
        }

    -- ---- an interface

    interfaces_are : new.keeper.interfaces.interfaces ≡ map (left_by_reset link) old.keeper.interfaces.interfaces
    interfaces_are = ap (λ (m : InterfacesView). m.interfaces) (sides.keeper there)

    managed_now : (i : ℕ) (x : Site) (p : IsPlaced plan old.ends.links old.keeper.interfaces w i x)
        → IsManagedAfter plan w e done new.keeper.interfaces i x p.face
    managed_now i x p = record {
      interface = left_by_reset link p.interface;
      interface_is = ap (λ (hs : List HostTdi). slice_get hs i) interfaces_are
          ∙ (slice_get-map (left_by_reset link) old.keeper.interfaces.interfaces i
          ∙ ap (option_map (left_by_reset link)) p.interface_is);
      managed = subst
          (λ (b : Bool). IsManaged (w.draw x.link x.plan.stream) x
          (if b then record p.interface { seen = broken_view p.interface.seen } else p.interface)
          (if link == x.link then record p.face.managed { view = view_broken p.face.managed.view }
          else p.face.managed))
          (sym (same_link p.interface.link x.link link p.keeps.managed.laid_out.link))
          (broken_managed (link == x.link) (w.draw x.link x.plan.stream) x p.interface p.face.managed p.keeps.managed);
    }

    -- of another link it leaves its lock if a stream that it is bound to is cut
    other_leaves : (x : Site) (f : Face) → (link == x.link) ≡ false → OnlyLeaves plan w e done after x f
    other_leaves x f far = record { next = ap (called x f.tdi) far; none = refl }

    -- of the link it is new
    own_placed : (i : ℕ) (x : Site) (p : IsPlaced plan old.ends.links old.keeper.interfaces w i x) (l' : LinkEnds)
        → slice_get (sites plan) i ≡ Some x → slice_get new.ends.links x.link ≡ Some l' → (link == x.link) ≡ true
        → IsPlaced plan new.ends.links new.keeper.interfaces whole_now i x
    own_placed i x p l' at at' here =
        let managed = managed_now i x p in
        let free = keeps_free (says_by_ports plan after x.link) x.plan (interface_after_call p.tdi LinkReset)
        (record { layout = p.keeps.layout; none = refl; bindings = refl }) in
        let device : l'.device.interfaces.interfaces
        ≡ map (λ (t : DeviceTdi). interface_after_call t LinkReset) p.link_ends.device.interfaces.interfaces =
        ap (λ (d : DeviceTdis). d.interfaces)
        (device_is x.link p.link_ends l' p.ends_are at' true (turned x.link link ∙ here))
        ∙ none_settled (secure_or_live l'.device.port (peer_live new.ends x.link))
        p.link_ends.device.interfaces.interfaces in
        record {
          link_ends = l';
          ends_are = at';
          place = p.place;
          located_is = located_now i ∙ p.located_is;
          tdi = interface_after_call p.tdi LinkReset;
          tdi_is = ap (λ (ts : List DeviceTdi). slice_get ts p.place) device
              ∙ (slice_get-map (λ (t : DeviceTdi). interface_after_call t LinkReset)
              p.link_ends.device.interfaces.interfaces p.place
              ∙ ap (option_map (λ (t : DeviceTdi). interface_after_call t LinkReset)) p.tdi_is);
          interface = managed.interface;
          interface_is = managed.interface_is;
          face = face_of x p.face;
          face_is = each_at face_of (sites plan) w.faces.list i x p.face at p.face_is;
          keeps = record {
            managed = managed.managed;
            tdi_is = ap (λ (t : DeviceTdi). interface_after_call t LinkReset) p.keeps.tdi_is ∙ sym
                (ap (called x p.face.tdi) here);
            layout = p.keeps.layout;
            bound = tt;
          };
          secure = free.secure;
          bound = free.bound;
          held = free.held;
        }

    placed_now : (i : ℕ) (x : Site) → slice_get (sites plan) i ≡ Some x
        → IsPlaced plan new.ends.links new.keeper.interfaces whole_now i x
    placed_now i x at =
        let p = both.whole.beside.placed i x at in
        let l' = get_there new.ends.links x.link
        (omega (arith, many_now, slice_get_within old.ends.links x.link p.link_ends p.ends_are)) in
        ⊎_elim (λ here. own_placed i x p l'.0 at l'.1 here)
        (λ far. placed_led plan w e done after old.ends.links new.ends.links old.keeper.interfaces
        new.keeper.interfaces i x l'.0 both.links.fits at p l'.1 (located_now i)
        (other_led x.link p.link_ends l'.0 p.ends_are l'.1 (turned x.link link ∙ far))
        (other_leaves x p.face far) (managed_now i x p))
        (cases_Bool (link == x.link))

    beside_now : IsBeside plan new.ends.links new.keeper.interfaces new.trusted.contents whole_now
    beside_now = record {
      portion = ap (λ (m : InterfacesView). m.portion) (sides.keeper there) ∙ both.whole.beside.portion;
      managed = ap length interfaces_are
          ∙ (length-map old.keeper.interfaces.interfaces (left_by_reset link) ∙ both.whole.beside.managed);
      faced = each_many face_of (sites plan) w.faces.list (sym both.whole.beside.faced);
      devices = device_now;
      placed = placed_now;
      regions = ap (λ (c : MemoryContents). c.regions) sides.contents ∙ both.whole.beside.regions;
      written = subst (λ (c : MemoryContents). IsLeftBy c w.written) (sym sides.contents) both.whole.beside.written;
    }

  abbrev IsAfter : Verdict → Type 0
  IsAfter verdict = IsBeside plan new.ends.links new.keeper.interfaces new.trusted.contents
      (whole_after plan w e verdict after)

  reset_there : (verdict : Verdict) → link < length old.ends.links
      → ◌≡◌ {A = Stepped} (verdict, after) (step_of plan (beside_of plan w) w.links e) → IsAfter verdict
  reset_there verdict there is =
      let said : verdict ≡ done = ap (λ (s : Stepped). s.0) is
      ∙ done_verdict plan (beside_of plan w) w.links link ends
      (lt-ltb link (length plan.links) (omega (arith, there, both.links.many))) in
      subst IsAfter (sym said) (beside_now there)

  pub reset_beside : (verdict : Verdict)
      → ◌≡◌ {A = Stepped} (verdict, after) (step_of plan (beside_of plan w) w.links e) → IsAfter verdict
  reset_beside verdict is = ⊎_elim (λ there. reset_there verdict there is)
      (λ past. absent_beside plan old new w verdict (beside_of plan w) both (sides.absent past) link ends past is)
      (cases_lt link (length old.ends.links))

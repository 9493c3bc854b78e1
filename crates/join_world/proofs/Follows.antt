-- What stands beside the ports after an event that makes no more of an interface than that a stream of its own leaves
-- Secure. The interfaces of a device are settled by the ends of its streams, or no stream left Secure there. Either way
-- each is the machine's, which leaves its lock if a stream that it is bound to left Secure (`placed_led`).
use Rattle.std.proofs.Common.{◌≡◌, ◌⊎◌, ⊎_elim, ℕ, ◌<◌, ◌||◌, false, List}
use Rattle.std.proofs.Common.{length, Some, option_map, inl, inr, ap, sym, ◌∙◌, arith}
use Rattle.std.specs.Prelude.{slice_get, is_some}
use Rattle.std.proofs.lemmas.List.{length-map}
use Rattle.std.proofs.lemmas.Option.{slice_get-map, slice_get_within}
use Rattle.ide_types.specs.Fits.{FitsPlan}
use Rattle.ide_types.specs.declared.plan.Plan.{Plan}
use Rattle.script_events.specs.declared.event.Event.{Event}
use Rattle.event_verdicts.specs.declared.verdict.Verdict.{Verdict}
use Rattle.interface_state.specs.Machine.{DeviceTdi, StreamLeft}
use Rattle.interface_ends.specs.Replies.{DeviceTdis, settled_interfaces, settled_interface}
use Rattle.interface_host.specs.Views.{HostTdi}
use Rattle.link_ends.specs.DeviceEnds.{secure_at}
use Rattle.trusted_memory.specs.{MemoryContents, IsLeftBy}
use Rattle.spec_interfaces.specs.Peers.{live_by_id}
use Rattle.spec_interfaces.specs.Sites.{Site, sites}
use Rattle.spec_interfaces.specs.Devices.{interface_if_called, accepts_lock}
use Rattle.spec_interfaces.specs.Views.{managed_after}
use Rattle.machine_whole.specs.Interfaces.{Face, around_of, next_face}
use Rattle.join_interfaces.specs.Faces.{IsManaged}
use Rattle.machine_whole.specs.Machine.{Whole, machine_secure, live_draw_at_end, ends_in, whole_streams, draw_after}
use Rattle.machine_whole.specs.Machine.{written_after, whole_after}
use Rattle.machine_ports.specs.Machine.{LinkPacket, LinkState}
use Rattle.join_interfaces.specs.Says.{AreSecureStill, Keeps, says_by_ports, is_said_secure, leaves_stream}
use Rattle.join_interfaces.proofs.Settled.{settled_is, stays_is, keeps_after}
use Rattle.join_interfaces.proofs.Apart.{are_apart}
use Rattle.whole_links.specs.{AllFollow, AreLinks, EndsView, InterfacesView, IsSettledOrSame, KeeperView, LinkEnds}
use Rattle.whole_links.specs.{peer_live, place_on_links, state_of}
use Rattle.join_world.specs.Whole.{IsPlaced, IsDevice, IsBeside}
use Rattle.join_world.proofs.Places.{get_there, site_planned}
use Rattle.join_world.proofs.Sites.{located_kept}
use Rattle.join_world.proofs.Faces.{each_at, each_many, used_kept}
use Rattle.join_world.proofs.Statuses.{live_is, secure_is}

-- ---- a device

-- the ends at the device of a link show what the machine has of its streams
pub record ShowsState (plan : Plan) (st : LinkState) (v : EndsView) (link : ℕ) (l : LinkEnds) : Type 0 where
  pub secure : (stream : ℕ) → machine_secure plan st link stream ≡ secure_at l.device.port stream
  pub live : (stream : ℕ) → live_by_id (live_draw_at_end plan st) plan.peers link stream ≡ peer_live v link stream

-- its interfaces are settled by what is Secure after the event, or are as before, and no stream left Secure
abbrev pub IsLed : Plan → LinkState → LinkState → ℕ → LinkEnds → LinkEnds → Type 0
IsLed plan old new link l l' =
    (l'.device.interfaces ≡ settled_interfaces (is_said_secure (says_by_ports plan new link)) l.device.interfaces)
    ⊎ ((l'.device.interfaces ≡ l.device.interfaces) × AreSecureStill (says_by_ports plan old link)
    (says_by_ports plan new link))

-- if they follow the ends of its streams, and the machine's states of these are theirs
pub led_follows : (plan : Plan) (old new : LinkState) (v v' : EndsView) (link : ℕ) (l l' : LinkEnds)
    → ShowsState plan old v link l → ShowsState plan new v' link l' → IsSettledOrSame v v' link l l'
    → IsLed plan old new link l l'
led_follows plan old new v v' link l l' before after follows = ⊎_elim
    (λ same. inl (
    same
    ∙ (λ i. settled_interfaces (λ stream. sym (after.secure stream) i || is_some (sym (after.live stream) i))
    l.device.interfaces)
    ))
    (λ same. inr (
      ap (λ d. d.interfaces) same.0,
      record {
        secure = λ stream is. after.secure stream ∙ (λ i. secure_at (same.0 i).port stream)
            ∙ sym (before.secure stream) ∙ is;
        live = λ stream is. ap is_some (after.live stream ∙ same.1 stream ∙ sym (before.live stream)) ∙ is;
      },
    )) follows

pub shows_state : (plan : Plan) (v : EndsView) (k : KeeperView) (packets : List LinkPacket) (link : ℕ) (l : LinkEnds)
    → AreLinks plan v k → slice_get v.links link ≡ Some l → ShowsState plan (state_of plan v k packets) v link l
shows_state plan v k packets link l links is = record {
  secure = λ stream. sym (secure_is plan v k packets links link stream l is);
  live = λ stream. live_is plan v k packets links link stream;
}

-- where all devices follow the ends of their streams
pub all_led : (plan : Plan) (v v' : EndsView) (k k' : KeeperView) (packets packets' : List LinkPacket)
    → AreLinks plan v k → AreLinks plan v' k' → AllFollow v v' → (link : ℕ) (l l' : LinkEnds)
    → slice_get v.links link ≡ Some l → slice_get v'.links link ≡ Some l'
    → IsLed plan (state_of plan v k packets) (state_of plan v' k' packets') link l l'
all_led plan v v' k k' packets packets' links links' follow link l l' is is' =
    led_follows plan (state_of plan v k packets) (state_of plan v' k' packets') v v' link l l'
    (shows_state plan v k packets link l links is) (shows_state plan v' k' packets' link l' links' is')
    (follow link l l' is is')

-- it has as many interfaces, and gave no nonce
pub record SameDevice (d d' : DeviceTdis) : Type 0 where
  pub nonces : d'.nonces ≡ d.nonces
  pub used : d'.used ≡ d.used
  pub many : length d'.interfaces ≡ length d.interfaces

pub led_same : (plan : Plan) (old new : LinkState) (link : ℕ) (l l' : LinkEnds) → IsLed plan old new link l l'
    → SameDevice l.device.interfaces l'.device.interfaces
led_same plan old new link l l' led = ⊎_elim
    (λ same. record {
      nonces = ap (λ (d : DeviceTdis). d.nonces) same;
      used = ap (λ (d : DeviceTdis). d.used) same;
      many = ap (λ (d : DeviceTdis). length d.interfaces) same ∙ length-map l.device.interfaces.interfaces
          (settled_interface (is_said_secure (says_by_ports plan new link)));
    })
    (λ kept. record {
      nonces = ap (λ (d : DeviceTdis). d.nonces) kept.0;
      used = ap (λ (d : DeviceTdis). d.used) kept.0;
      many = ap (λ (d : DeviceTdis). length d.interfaces) kept.0;
    }) led

pub led_interface : (plan : Plan) (old new : LinkState) (x : Site) (l l' : LinkEnds) (place : ℕ) (tdi : DeviceTdi)
    → FitsPlan plan → x.link < 8 → IsLed plan old new x.link l l' → slice_get l.device.interfaces.interfaces place
    ≡ Some tdi → Keeps (says_by_ports plan old x.link) x.plan tdi → slice_get l'.device.interfaces.interfaces place
    ≡ Some (interface_if_called
    (leaves_stream (says_by_ports plan old x.link) (says_by_ports plan new x.link) x.plan tdi.bindings) StreamLeft tdi)
led_interface plan old new x l l' place tdi fits lt led is keeps = ⊎_elim
    (λ same. ap (λ (d : DeviceTdis). slice_get d.interfaces place) same
    ∙ slice_get-map (settled_interface (is_said_secure (says_by_ports plan new x.link))) l.device.interfaces.interfaces
    place
    ∙ ap (option_map (settled_interface (is_said_secure (says_by_ports plan new x.link)))) is
    ∙ ap Some (settled_is _ (says_by_ports plan old x.link) (says_by_ports plan new x.link) x.plan tdi
    (are_apart plan old x.link fits lt) (are_apart plan new x.link fits lt) keeps))
    (λ kept. ap (λ (d : DeviceTdis). slice_get d.interfaces place) kept.0 ∙ is
    ∙ ap Some (stays_is (says_by_ports plan old x.link) (says_by_ports plan new x.link) x.plan tdi kept.1)) led

-- ---- an interface

-- the event makes no more of it than that a stream that it is bound to leaves Secure, and it accepts no lock
pub record OnlyLeaves (plan : Plan) (w : Whole) (e : Event) (verdict : Verdict) (new : LinkState) (x : Site) (f : Face)
    : Type 0 where
  pub next : (next_face plan (whole_streams plan w) (ends_in plan new) w.faces.used e verdict x f).tdi
      ≡ interface_if_called
      (leaves_stream (says_by_ports plan w.links x.link) (says_by_ports plan new x.link) x.plan f.tdi.bindings)
      StreamLeft f.tdi
  pub none : accepts_lock (around_of plan (whole_streams plan w) w.faces.used x f) x e verdict f.tdi ≡ false

-- the manager keeps of it what the machine keeps of it after the event
pub record IsManagedAfter (plan : Plan) (w : Whole) (e : Event) (verdict : Verdict) (m : InterfacesView) (i : ℕ)
    (x : Site) (f : Face) : Type 0 where
  pub interface : HostTdi
  pub interface_is : slice_get m.interfaces i ≡ Some interface
  pub managed : IsManaged (draw_after (whole_streams plan w).op w.links.draws e verdict w.draw x.link x.plan.stream) x
      interface (managed_after (whole_streams plan w).op w.links.draws x e verdict f.managed)

pub placed_keeps : (plan : Plan) (ends : List LinkEnds) (m : InterfacesView) (w : Whole) (i : ℕ) (x : Site)
    → (p : IsPlaced plan ends m w i x) → Keeps (says_by_ports plan w.links x.link) x.plan p.tdi
placed_keeps plan ends m w i x p = record {
  layout = p.keeps.layout;
  own = p.keeps.bound;
  secure = p.secure;
  bound = p.bound;
  held = p.held;
}

-- a site is on one of up to eight links
pub link_few : (plan : Plan) (i : ℕ) (x : Site) → FitsPlan plan → slice_get (sites plan) i ≡ Some x → x.link < 8
link_few plan i x fits at =
    let planned = site_planned plan i x fits at in
    omega (arith, fits.links_most, slice_get_within plan.links x.link planned.laid_out planned.links_are)

pub placed_led : (plan : Plan) (w : Whole) (e : Event) (verdict : Verdict) (new : LinkState)
    (ends ends' : List LinkEnds) (m m' : InterfacesView) (i : ℕ) (x : Site) (l' : LinkEnds) → FitsPlan plan
    → slice_get (sites plan) i ≡ Some x → (p : IsPlaced plan ends m w i x) → slice_get ends' x.link ≡ Some l'
    → place_on_links 0 i ends' ≡ place_on_links 0 i ends → IsLed plan w.links new x.link p.link_ends l'
    → OnlyLeaves plan w e verdict new x p.face → IsManagedAfter plan w e verdict m' i x p.face
    → IsPlaced plan ends' m' (whole_after plan w e verdict new) i x
placed_led plan w e verdict new ends ends' m m' i x l' fits at p is same led only managed =
    let before = says_by_ports plan w.links x.link in
    let after = says_by_ports plan new x.link in
    let keeps = placed_keeps plan ends m w i x p in
    let behind = keeps_after before after x.plan p.tdi keeps in
    record {
      link_ends = l';
      ends_are = is;
      place = p.place;
      located_is = same ∙ p.located_is;
      tdi = interface_if_called (leaves_stream before after x.plan p.tdi.bindings) StreamLeft p.tdi;
      tdi_is = led_interface plan w.links new x p.link_ends l' p.place p.tdi fits (link_few plan i x fits at) led
          p.tdi_is
          keeps;
      interface = managed.interface;
      interface_is = managed.interface_is;
      face = next_face plan (whole_streams plan w) (ends_in plan new) w.faces.used e verdict x p.face;
      face_is = each_at (next_face plan (whole_streams plan w) (ends_in plan new) w.faces.used e verdict)
          (sites plan)
          w.faces.list i x p.face at p.face_is;
      keeps = record {
        managed = managed.managed;
        tdi_is = ap (λ (t : DeviceTdi). interface_if_called (leaves_stream before after x.plan t.bindings) StreamLeft t)
            p.keeps.tdi_is
            ∙ sym only.next;
        layout = behind.layout;
        bound = behind.own;
      };
      secure = behind.secure;
      bound = behind.bound;
      held = behind.held;
    }

-- ---- all of them

device_led : (plan : Plan) (w : Whole) (e : Event) (verdict : Verdict) (new : LinkState) (link : ℕ) (l l' : LinkEnds)
    → (whole_after plan w e verdict new).faces.used link ≡ w.faces.used link → IsLed plan w.links new link l l'
    → IsDevice plan w link l → IsDevice plan (whole_after plan w e verdict new) link l'
device_led plan w e verdict new link l l' used led d =
    let same = led_same plan w.links new link l l' led in
    record {
      nonces = same.nonces ∙ d.nonces;
      used = same.used ∙ d.used ∙ sym used;
      many = λ p at. same.many ∙ d.many p at;
    }

-- each device is led, each interface no more than leaves its stream, and the manager and memory are the machine's
pub record LedBeside (plan : Plan) (w : Whole) (e : Event) (verdict : Verdict) (new : LinkState)
    (ends ends' : List LinkEnds) (m m' : InterfacesView) (memory : MemoryContents) : Type 0 where
  pub many : length ends' ≡ length ends
  pub led : (link : ℕ) (l l' : LinkEnds) → slice_get ends link ≡ Some l → slice_get ends' link ≡ Some l'
      → IsLed plan w.links new link l l'
  pub only : (i : ℕ) (x : Site) (f : Face) → slice_get (sites plan) i ≡ Some x → slice_get w.faces.list i ≡ Some f
      → OnlyLeaves plan w e verdict new x f
  pub portion : m'.portion ≡ m.portion
  pub interfaces : length m'.interfaces ≡ length m.interfaces
  pub managed : (i : ℕ) (x : Site) (interface : HostTdi) (f : Face) → slice_get (sites plan) i ≡ Some x
      → slice_get m.interfaces i ≡ Some interface → slice_get w.faces.list i ≡ Some f
      → IsManaged (w.draw x.link x.plan.stream) x interface f.managed → IsManagedAfter plan w e verdict m' i x f
  pub regions : memory.regions ≡ plan.memory
  pub written : IsLeftBy memory (written_after plan w e verdict)

pub beside_led : (plan : Plan) (w : Whole) (e : Event) (verdict : Verdict) (new : LinkState)
    (ends ends' : List LinkEnds) (m m' : InterfacesView) (memory memory' : MemoryContents)
    → FitsPlan plan → IsBeside plan ends m memory w → LedBeside plan w e verdict new ends ends' m m' memory'
    → IsBeside plan ends' m' memory' (whole_after plan w e verdict new)
beside_led plan w e verdict new ends ends' m m' memory memory' fits b s =
    let within : (link : ℕ) (l' : LinkEnds) → slice_get ends' link ≡ Some l' → link < length ends
    = λ link l' at. omega (arith, s.many, slice_get_within ends' link l' at) in
    let used = used_kept plan (whole_streams plan w) (ends_in plan new) e verdict w.faces
    (λ i x f at there. (s.only i x f at there).none) in
    let places : (i : ℕ) → place_on_links 0 i ends' ≡ place_on_links 0 i ends = λ i. located_kept 0 i ends ends' s.many
    (λ k l l' at at'. (led_same plan w.links new k l l' (s.led k l l' at at')).many) in
    record {
      portion = s.portion ∙ b.portion;
      managed = s.interfaces ∙ b.managed;
      faced = each_many (next_face plan (whole_streams plan w) (ends_in plan new) w.faces.used e verdict)
          (sites plan)
          w.faces.list (sym b.faced);
      devices = λ link l' at.
          let l = get_there ends link (within link l' at) in
          device_led plan w e verdict new link l.0 l' (used link) (s.led link l.0 l' l.1 at) (b.devices link l.0 l.1);
      placed = λ i x at.
          let p = b.placed i x at in
          let l' = get_there ends' x.link
          (omega (arith, s.many, slice_get_within ends x.link p.link_ends p.ends_are)) in
          placed_led plan w e verdict new ends ends' m m' i x l'.0 fits at p l'.1 (places i)
          (s.led x.link p.link_ends l'.0 p.ends_are l'.1) (s.only i x p.face at p.face_is)
          (s.managed i x p.interface p.face at p.interface_is p.face_is p.keeps.managed);
      regions = s.regions;
      written = s.written;
    }

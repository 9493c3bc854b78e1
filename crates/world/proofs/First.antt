-- The world before the first event is the whole machine's first state, which stands for the history without a pair.
use Rattle.std.proofs.Common.{◌≡◌, ℕ, suc, zero, ◌+◌, ◌<◌, List, [], ◌∷◌, length, map, refl, ap, sym, ◌∙◌, subst, arith}
use Rattle.std.proofs.Common.{Some, true, false, Bool}
use Rattle.std.specs.Prelude.{◌==◌, filter, slice_get, All, replicate, if◌then◌else◌}
use Rattle.std.specs.List.{slice_index_or}
use Rattle.std.specs.Option.{option_map}
use Rattle.std.proofs.lemmas.List.{length-map}
use Rattle.std.proofs.lemmas.List.Elements.{All-nil, All-cons}
use Rattle.std.proofs.lemmas.Bool.{true≢false}
use Rattle.std.proofs.lemmas.Option.{none-some, same_Some, slice_get-map}
use Rattle.ide_types.specs.declared.direction.Direction.{Direction}
use Rattle.ide_types.specs.declared.direction.Direction.TheVariants.{Downstream, Upstream}
use Rattle.ide_types.specs.declared.plan.Plan.{Plan}
use Rattle.ide_types.specs.declared.plan.LinkPlan.{LinkPlan}
use Rattle.ide_types.specs.declared.interface.InterfacePlan.{InterfacePlan}
use Rattle.ide_types.specs.declared.port.Side.{Side}
use Rattle.ide_types.specs.declared.port.Side.TheVariants.{Host, Device}
use Rattle.ide_types.specs.declared.plan.Region.{Region}
use Rattle.ide_types.specs.Fits.{FitsPlan, IsKey}
use Rattle.spec_interfaces.specs.Floors.{interfaces_before}
use Rattle.spec_interfaces.specs.Sites.{Site, sites_of_plans, sites_of_links}
unfoldable use Rattle.spec_interfaces.specs.Sites.{sites}
use Rattle.spec_interfaces.proofs.Floors.{planned_on, sites_of_is}
use Rattle.machine_whole.specs.Interfaces.{new_face}
use Rattle.guarded_memory.specs.{page_counts}
use Rattle.link_stores.specs.declared.link.LinkAccesses.{LinkAccesses}
use Rattle.link_stores.specs.{new_link_accesses, new_accesses}
use Rattle.machine_whole.specs.Accesses.{first_accesses}
use Rattle.machine_whole.specs.Machine.{new_whole}
use Rattle.machine_whole.specs.Stands.{WholeBegins}
use Rattle.interface_state.specs.Machine.{DeviceTdi, new_device_interface}
use Rattle.interface_host.specs.Views.{new_interface}
use Rattle.interface_host.specs.Managers.{new_interface_manager as new_host}
use Rattle.join_interfaces.specs.Faces.{IsFace}
use Rattle.trusted_memory.specs.{IsLeftBy, new_contents, byte_at, TrustedMemory}
use Rattle.trusted_memory.proofs.Seen.{new_is_seen, byte_at-new}
use Rattle.trusted_memory.proofs.Turns.{byte_last_written-none}
use Rattle.machine_ports.specs.Machine.{first_state}
use Rattle.join_accesses.specs.{AreLinks, EndsView, floors_at, InterfacesView, IsBounded, KeeperView, LinkEnds}
use Rattle.join_accesses.specs.{links_state, mmio_at, new_all_ends, reads_at, carried_on_link, sizes_at, state_of}
use Rattle.join_accesses.specs.{WholeLinks, IsFirstWhole, AreAccesses, on_link, link_seen, AreDrawn, IsPlaced, IsDevice}
use Rattle.join_accesses.specs.{IsBeside, WorldStandsFor, IsNewWorld, world_of, IsWorld}
use Rattle.join_ends.proofs.FirstEnds.{bounded_first, links_first, state_first}
use Rattle.join_ends.proofs.FirstSites.{listed, device_at, nonces_at, managed_many}

-- ---- what manager and device keep of an interface

zeros_fit : (n : ℕ) → All (λ (b : ℕ). b < 256) (replicate n 0)
zeros_fit zero = All-nil (λ (b : ℕ). b < 256)
zeros_fit (suc n) = All-cons (λ (b : ℕ). b < 256) 0 (replicate n 0) (omega arith) (zeros_fit n)

zero_key : IsKey (replicate 32 0)
zero_key = (refl, zeros_fit 32)

face_first : (x : Site) → IsFace 0 x (new_interface x.link x.plan) (new_device_interface x.plan) (new_face x)
face_first x = record {
  managed = record {
    laid_out = record { link = refl; requester = refl; stream = refl; flags = refl; offset = refl };
    draw_is = refl;
    needs = refl;
    started = refl;
    seen = refl;
    nonce = zero_key;
    asked = refl;
  };
  tdi_is = refl;
  layout = refl;
  bound = tt;
}

abbrev first_links : Plan → List LinkEnds
first_links plan = (new_all_ends plan).links

placed_first : (plan : Plan) (i : ℕ) (x : Site) → slice_get (sites plan) i ≡ Some x
    → IsPlaced plan (first_links plan) (new_host plan.links plan.portion) (new_whole plan) i x
unfolding sites
placed_first plan i x is =
    let r = listed plan.units_per_key 0 0 plan.links i x is in
    let k_is : r.k ≡ x.link = omega (arith, r.link_is) in
    record {
      link_ends = r.ends;
      ends_are = ap (slice_get (first_links plan)) (sym k_is) ∙ r.ends_are;
      place = r.place;
      located_is = r.located_is;
      tdi = new_device_interface x.plan;
      tdi_is = ap (λ (ts : List DeviceTdi). slice_get ts r.place) r.device_is
          ∙ (slice_get-map new_device_interface r.plan.interfaces r.place ∙ ap (option_map new_device_interface)
          r.plan_is);
      interface = new_interface x.link x.plan;
      interface_is = r.interface_is;
      face = new_face x;
      face_is = slice_get-map new_face (sites_of_links 0 0 plan.links) i ∙ ap (option_map new_face) is;
      keeps = face_first x;
      secure = tt;
      bound = λ stream none. absurd (true≢false (sym none));
      held = record { locked = λ none. refl; few = omega arith };
    }

-- ---- devices and memory

device_first : (plan : Plan) (link : ℕ) (l : LinkEnds) → slice_get (first_links plan) link ≡ Some l
    → IsDevice plan (new_whole plan) link l
device_first plan link l is =
    let r = device_at plan.units_per_key 0 plan.links link l is in
    record {
      nonces = ap (λ (e : LinkEnds). e.device.interfaces.nonces) r.2 ∙ sym (nonces_at plan.links link r.0 r.1);
      used = ap (λ (e : LinkEnds). e.device.interfaces.used) r.2;
      many = λ p at.
          ap (λ (e : LinkEnds). length e.device.interfaces.interfaces) r.2
          ∙ (length-map r.0.interfaces new_device_interface
          ∙ ap (λ (q : LinkPlan). length q.interfaces) (same_Some r.0 p (sym r.1 ∙ at)));
    }

memory_first : (rs : List Region) → IsLeftBy (new_contents rs) []
memory_first rs a = ap (λ (m : TrustedMemory). byte_at m.contents a) (sym (new_is_seen rs))
    ∙ (byte_at-new rs a ∙ sym (byte_last_written-none a))

beside_first : (plan : Plan)
    → IsBeside plan (first_links plan) (new_host plan.links plan.portion) (new_contents plan.memory) (new_whole plan)
unfolding sites
beside_first plan = record {
  portion = refl;
  managed = managed_many 0 0 plan.links;
  faced = length-map (sites_of_links 0 0 plan.links) new_face;
  devices = λ link l is. device_first plan link l is;
  placed = λ i x is. placed_first plan i x is;
  regions = refl;
  written = memory_first plan.memory;
}

abbrev zeros : ℕ → List ℕ
zeros n = replicate n 0

zero_read : (n p : ℕ) → slice_index_or (zeros n) p 0 ≡ zero
zero_read zero p = refl
zero_read (suc n) zero = refl
zero_read (suc n) (suc p) = zero_read n p

drawn_first : (plan : Plan) → AreDrawn plan (replicate 8 0) (new_whole plan).draw
drawn_first plan = record { many = refl; each = λ p q at. zero_read 8 p }

-- ---- reads, floors, the memory of devices, and what waits at switches

abbrev first_floor : Site → ℕ
first_floor x = 0

zeros_on : (link : ℕ) (xs : List Site) → on_link link xs (map first_floor xs)
    ≡ map first_floor (filter (λ x. x.link == link) xs)
zeros_on link [] = refl
zeros_on link (x ∷ xs) = by (x.link == link) (zeros_on link xs)
  where
    by : (b : Bool) → on_link link xs (map first_floor xs) ≡ map first_floor (filter (λ y. y.link == link) xs)
        → (if b then first_floor x ∷ on_link link xs (map first_floor xs) else on_link link xs (map first_floor xs))
        ≡ map first_floor (if b then x ∷ filter (λ y. y.link == link) xs else filter (λ y. y.link == link) xs)
    by true rest = ap (λ (ns : List ℕ). 0 ∷ ns) rest
    by false rest = rest

zeros_of : (number link : ℕ) (ps : List InterfacePlan)
    → map first_floor (sites_of_plans number link ps) ≡ replicate (length ps) 0
zeros_of number link [] = refl
zeros_of number link (p ∷ ps) = ap (λ (ns : List ℕ). 0 ∷ ns) (zeros_of (number + 1) link ps)

zeros_at : (ls : List LinkPlan) (link : ℕ) → floors_at (new_accesses ls) link
    ≡ replicate (length (planned_on ls link)) 0
zeros_at [] link = refl
zeros_at (l ∷ ls) zero = refl
zeros_at (l ∷ ls) (suc link) = zeros_at ls link

none_read : (ls : List LinkPlan) (side : Side) (link : ℕ)
    → reads_at (new_accesses ls) (record { side = side; line = link }) ≡ []
none_read [] side link = refl
none_read (l ∷ ls) Host zero = refl
none_read (l ∷ ls) Device zero = refl
none_read (l ∷ ls) side (suc link) = none_read ls side link

none_carried : (ls : List LinkPlan) (link : ℕ) (d : Direction) → carried_on_link (new_accesses ls) link d ≡ []
none_carried [] link d = refl
none_carried (l ∷ ls) zero Downstream = refl
none_carried (l ∷ ls) zero Upstream = refl
none_carried (l ∷ ls) (suc link) d = none_carried ls link d

none_written : (ls : List LinkPlan) (link i b offset : ℕ) → mmio_at (new_accesses ls) link i b offset ≡ 0
none_written [] link i b offset = refl
none_written (l ∷ ls) zero i b offset = refl
none_written (l ∷ ls) (suc link) i b offset = none_written ls link i b offset

sizes_of : (ls : List LinkPlan) (link : ℕ) (p : LinkPlan) → slice_get ls link ≡ Some p
    → sizes_at (new_accesses ls) link ≡ map page_counts p.interfaces
sizes_of [] link p is = absurd (none-some p is)
sizes_of (l ∷ ls) zero p is = ap (λ (q : LinkPlan). map page_counts q.interfaces) (same_Some l p is)
sizes_of (l ∷ ls) (suc link) p is = sizes_of ls link p is

accesses_first : (plan : Plan) → AreAccesses plan (link_seen (new_accesses plan.links)) (first_accesses plan)
accesses_first plan = record {
  floored = length-map (sites plan) first_floor;
  reads = λ port. none_read plan.links port.side port.line;
  bytes = λ link i b offset. none_written plan.links link i b offset ∙ sym (byte_last_written-none offset);
  sizes = λ link p is. sizes_of plan.links link p is;
  floors = λ link. zeros_at plan.links link ∙ sym (zeros_on link (sites plan)
      ∙ (ap (map first_floor) (sites_of_is plan link)
      ∙ zeros_of (interfaces_before plan.links link) link (planned_on plan.links link)));
  carried = λ link d few. none_carried plan.links link d;
}

-- ---- the world

module _ (plan : Plan) (s : WholeLinks) (begins : WholeBegins) (fits : FitsPlan plan) (is : IsFirstWhole plan s) where
  links_are : links_state plan s.links ≡ first_state plan
  links_are = (λ i. state_of plan (is.links.ends i) (is.links.keys i) (is.links.packets i)) ∙ state_first plan fits

  pub first_stands : WorldStandsFor (world_of plan s) []
  first_stands = record {
    whole = new_whole plan;
    is = record {
      links = sym links_are;
      beside =
          subst (λ (m : TrustedMemory). IsBeside plan s.links.ends.links s.links.keeper.interfaces m.contents
          (new_whole plan)) (sym is.links.trusted)
          (subst (λ (m : InterfacesView). IsBeside plan s.links.ends.links m (new_contents plan.memory)
          (new_whole plan)) (sym is.links.interfaces)
          (subst (λ (v : EndsView). IsBeside plan v.links (new_host plan.links plan.portion)
          (new_contents plan.memory) (new_whole plan)) (sym is.links.ends) (beside_first plan)));
      drawn = subst (λ (draws : List ℕ). AreDrawn plan draws (new_whole plan).draw) (sym is.links.peer_draws)
          (drawn_first plan);
      accesses = subst (λ (xs : List LinkAccesses). AreAccesses plan (link_seen xs) (first_accesses plan))
          (sym is.accesses) (accesses_first plan);
    };
    stands = begins plan;
  }

  pub first_is : IsNewWorld plan (world_of plan s)
  first_is = record { plan_is = refl; steps_are = is.links.steps; stands = first_stands }

  links_same : AreLinks plan s.links.ends s.links.keeper.keys
  links_same = subst (λ (v : EndsView). AreLinks plan v s.links.keeper.keys) (sym is.links.ends)
      (subst (λ (k : KeeperView). AreLinks plan (new_all_ends plan) k) (sym is.links.keys) (links_first plan fits))

  bounded_same : IsBounded s.links.ends s.links.packets.packets s.links.steps
  bounded_same =
      subst (λ (v : EndsView). IsBounded v s.links.packets.packets s.links.steps) (sym is.links.ends)
      (subst (λ ps. IsBounded (new_all_ends plan) ps s.links.steps) (sym is.links.packets)
      (subst (λ (n : ℕ). IsBounded (new_all_ends plan) [] n) (sym is.links.steps) (bounded_first plan fits)))

  pub first_world : IsWorld plan s
  first_world = record {
    links = links_same;
    bounded = record {
      bounded = bounded_same;
      whole = ap (λ (xs : List LinkAccesses). length xs) is.accesses
          ∙ (length-map plan.links (λ (l : LinkPlan). new_link_accesses l.interfaces) ∙ sym links_same.many);
    };
    history = [];
    stands = first_stands;
  }

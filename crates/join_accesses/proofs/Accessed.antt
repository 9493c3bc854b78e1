-- What stands at links for reads and for the memory of devices says of effects and of what is shown what the machine
-- says: the interfaces of a link stand at their places as the machine's do (`statuses_are`), and a reader's interface
-- is that of the manager (`reader_is`).
use Rattle.std.proofs.Common.{◌≡◌, ℕ, ◌+◌, ◌<◌, ◌≤◌, ◌==◌, ◌&&◌, ◌∷◌, zero, suc, Bool, true, false, List, [], length}
use Rattle.std.proofs.Common.{refl, sym, ap, ◌∙◌, arith, Option, Some, None, ⊎_elim, ◌⊎◌}
use Rattle.std.proofs.lemmas.Bool.{cases_lt, cases_Bool, eqb-true, eq-eqb, ne_eqb, and_parts, and_from}
use Rattle.std.proofs.lemmas.Bool.{le-leb}
use Rattle.std.proofs.lemmas.Option.{none-some, same_Some, slice_get-map, slice_get_within, slice_get_past}
use Rattle.std.specs.Option.{option_map, option_map_or, option_and_then}
use Rattle.std.specs.Prelude.{◌*◌, drop, find, map, slice_get, slice_index, unwrap_or, if◌then◌else◌}
use Rattle.ide_types.specs.Fits.{FitsPlan}
use Rattle.ide_types.specs.declared.interface.InterfacePlan.{InterfacePlan}
use Rattle.ide_types.specs.declared.plan.LinkPlan.{LinkPlan}
use Rattle.ide_types.specs.declared.plan.Plan.{Plan}
use Rattle.event_verdicts.specs.declared.verdict.Verdict.{Verdict}
use Rattle.interface_state.specs.Machine.{DeviceTdi}
use Rattle.interface_host.specs.Managers.{interface_of_requester}
use Rattle.interface_host.specs.Views.{HostTdi, is_requester as is_reader}
use Rattle.guarded_memory.specs.declared.status.InterfaceStatus.{InterfaceStatus}
use Rattle.guarded_memory.specs.Statuses.{interface_status}
use Rattle.guarded_memory.specs.Contents.{page_counts, fits_range, has_bytes}
use Rattle.guarded_memory.specs.Happenings.{byte_shown}
use Rattle.trusted_memory.specs.{MemoryContents, bytes_from}
use Rattle.spec_interfaces.specs.Sites.{Site, sites, site_of_requester, site_at}
use Rattle.spec_interfaces.specs.Floors.{place_of, interfaces_before}
use Rattle.machine_whole.specs.Interfaces.{Face}
use Rattle.spec_links.specs.Guarded.{mmio_if, mmio_shown, mmio_by_happenings}
use Rattle.join_world.specs.{interface_named, InterfacesView, LinkEnds, mmio_at, reader_of, sizes_at, small_number}
use Rattle.join_world.specs.{statuses_of_ends}
use Rattle.link_stores.specs.declared.link.LinkAccesses.{LinkAccesses}
use Rattle.link_stores.specs.{device_statuses}
use Rattle.link_stores.specs.Accesses.{numbered_statuses}
use Rattle.machine_whole.specs.Accesses.{face_statuses}
use Rattle.machine_whole.specs.Machine.{Whole}
use Rattle.spec_interfaces.proofs.Floors.{planned_on}
use Rattle.join_world.specs.Accesses.{AreAccesses, link_seen, on_link}
use Rattle.join_world.specs.Whole.{IsPlaced, IsBeside}
use Rattle.join_accesses.proofs.OnLinks.{list_same, on_link_at, on_link_past}
use Rattle.join_world.proofs.Places.{get_there, position_at, position_none, site_or_none, IsSomeSite}
use Rattle.join_world.proofs.Places.{site_planned, site_numbered, site_apart, sites_few}
use Rattle.join_world.proofs.Sites.{held_before, site_at_place, interface_there, interface_absent, located_read}

-- ---- how interfaces stand

abbrev statuses_both : List Face → List ℕ → List InterfaceStatus
statuses_both (f ∷ fs) (n ∷ ns) = interface_status f.tdi n ∷ statuses_both fs ns
statuses_both _ _ = []

both_on : (link : ℕ) (xs : List Site) (fs : List Face) (ns : List ℕ) → length fs ≡ length xs → length ns ≡ length xs
    → face_statuses link xs fs ns ≡ statuses_both (on_link link xs fs) (on_link link xs ns)
both_on link [] fs ns faced floored = refl
both_on link (x ∷ xs) [] ns faced floored = absurd (omega (arith, faced))
both_on link (x ∷ xs) (f ∷ fs) [] faced floored = absurd (omega (arith, floored))
both_on link (x ∷ xs) (f ∷ fs) (n ∷ ns) faced floored =
    by (x.link == link) (both_on link xs fs ns (omega (arith, faced)) (omega (arith, floored)))
  where
    by : (b : Bool) → face_statuses link xs fs ns ≡ statuses_both (on_link link xs fs) (on_link link xs ns)
        → (if b then interface_status f.tdi n ∷ face_statuses link xs fs ns else face_statuses link xs fs ns)
        ≡ statuses_both (if b then f ∷ on_link link xs fs else on_link link xs fs)
        (if b then n ∷ on_link link xs ns else on_link link xs ns)
    by true rest = ap (λ zs. interface_status f.tdi n ∷ zs) rest
    by false rest = rest

drop_first : (n : ℕ) (xs : List ℕ) (y : ℕ) (ys : List ℕ) → drop n xs ≡ y ∷ ys
    → (slice_index xs n ≡ y) × (drop (n + 1) xs ≡ ys)
drop_first zero [] y ys is = absurd cc
drop_first zero (x ∷ xs) y ys is = (cc, cc)
drop_first (suc n) [] y ys is = absurd cc
drop_first (suc n) (x ∷ xs) y ys is =
    let first = drop_first n xs y ys is in
    let next : suc (n + 1) ≡ suc n + 1 = omega arith in
    (first.0, sym (ap (λ (k : ℕ). drop k (x ∷ xs)) next) ∙ first.1)

from_both : (floors : List ℕ) (n : ℕ) (fs : List Face) (ns : List ℕ) → length ns ≡ length fs → drop n floors ≡ ns
    → numbered_statuses floors n (map (λ (f : Face). f.tdi) fs) ≡ statuses_both fs ns
from_both floors n [] ns many is = refl
from_both floors n (f ∷ fs) [] many is = absurd (omega (arith, many))
from_both floors n (f ∷ fs) (y ∷ ns) many is =
    let first = drop_first n floors y ns is in
    (λ i. interface_status f.tdi (first.0 i) ∷ from_both floors (n + 1) fs ns (omega (arith, many)) first.1 i)

held_interfaces_before : (ends : List LinkEnds) (ls : List LinkPlan) (link : ℕ) → length ends ≡ length ls
    → ((i : ℕ) (l : LinkEnds) (p : LinkPlan) → slice_get ends i ≡ Some l → slice_get ls i ≡ Some p
    → length l.device.interfaces.interfaces ≡ length p.interfaces) → held_before ends link ≡ interfaces_before ls link
held_interfaces_before [] [] link many each = refl
held_interfaces_before [] (p ∷ ls) link many each = absurd (omega (arith, many))
held_interfaces_before (l ∷ ends) [] link many each = absurd (omega (arith, many))
held_interfaces_before (l ∷ ends) (p ∷ ls) zero many each = refl
held_interfaces_before (l ∷ ends) (p ∷ ls) (suc link) many each = λ i. each 0 l p refl refl i + held_interfaces_before
    ends ls link (omega (arith, many)) (λ k. each (suc k)) i

pub laid_there : (ls : List LinkPlan) (link : ℕ) (p : LinkPlan) → slice_get ls link ≡ Some p
    → planned_on ls link ≡ p.interfaces
laid_there [] link p is = absurd (none-some p is)
laid_there (x ∷ ls) zero p is = ap (λ (y : LinkPlan). y.interfaces) (same_Some x p is)
laid_there (x ∷ ls) (suc link) p is = laid_there ls link p is

laid_past : (ls : List LinkPlan) (link : ℕ) → length ls ≤ link → planned_on ls link ≡ []
laid_past [] link le = refl
laid_past (x ∷ ls) zero le = absurd (omega (arith, le))
laid_past (x ∷ ls) (suc link) le = laid_past ls link (omega (arith, le))

length_on : {A : Type 0} (xs : List A) (n : ℕ) → ((k : ℕ) → k < n → (y : A) × (slice_get xs k ≡ Some y))
    → slice_get xs n ≡ None → length xs ≡ n
length_on [] zero there past = refl
length_on [] (suc n) there past = absurd (none-some (there 0 (omega arith)).0 (there 0 (omega arith)).1)
length_on (x ∷ xs) zero there past = absurd (none-some x (sym past))
length_on (x ∷ xs) (suc n) there past = ap suc (length_on xs n (λ k lt. there (suc k) (omega (arith, lt))) past)

-- ---- who reads

pub find_first : (test : Site → Bool) (xs : List Site) (i : ℕ) (x : Site) → slice_get xs i ≡ Some x → test x ≡ true
    → ((k : ℕ) (y : Site) → k < i → slice_get xs k ≡ Some y → test y ≡ false) → find test xs ≡ Some x
find_first test [] i x is passes before = absurd (none-some x is)
find_first test (y ∷ xs) zero x is passes before =
    let here : test y ≡ true = ap test (same_Some y x is) ∙ passes in rw here is
find_first test (y ∷ xs) (suc i) x is passes before =
    let here : test y ≡ false = before 0 y (omega arith) refl in
    rw here (find_first test xs i x is passes (λ k z lt at. before (suc k) z (omega (arith, lt)) at))

pub find_none : (test : Site → Bool) (xs : List Site)
    → ((k : ℕ) (y : Site) → slice_get xs k ≡ Some y → test y ≡ false) → find test xs ≡ None
find_none test [] fails = refl
find_none test (y ∷ xs) fails =
    let here : test y ≡ false = fails 0 y refl in rw here (find_none test xs (λ k z at. fails (suc k) z at))

pub site_found : (plan : Plan) (i : ℕ) (x : Site) → slice_get (sites plan) i ≡ Some x → site_at plan i ≡ Some x
site_found plan i x is =
    find_first (λ y. y.number == i) (sites plan) i x is (eq-eqb x.number i (site_numbered plan i x is))
    (λ k y lt at. ne_eqb y.number i (λ same. absurd (omega (arith, lt, same, site_numbered plan k y at))))

pub site_lacking : (plan : Plan) (i : ℕ) → length (sites plan) ≤ i → site_at plan i ≡ None
site_lacking plan i le =
    find_none (λ y. y.number == i) (sites plan)
    (λ k y at. ne_eqb y.number i (λ same. absurd (omega (
      arith,
      le,
      same,
      site_numbered plan k y at,
      slice_get_within (sites plan) k y at,
    ))))

abbrev reads_there : ℕ → ℕ → Site → Bool
reads_there link requester x = (x.link == link) && (x.plan.requester == requester)

module _ (plan : Plan) (ends : List LinkEnds) (m : InterfacesView) (memory : MemoryContents) (w : Whole)
    (beside : IsBeside plan ends m memory w) (fits : FitsPlan plan) (many : length ends ≡ length plan.links) where
  each_many : (i : ℕ) (l : LinkEnds) (p : LinkPlan) → slice_get ends i ≡ Some l → slice_get plan.links i ≡ Some p
      → length l.device.interfaces.interfaces ≡ length p.interfaces
  each_many i l p is planned = (beside.devices i l is).many p planned

  -- as many interfaces are laid out on a link as its device has
  pub laid_many : (link : ℕ) (l : LinkEnds) → slice_get ends link ≡ Some l
      → length (planned_on plan.links link) ≡ length l.device.interfaces.interfaces
  laid_many link l is =
      let p = get_there plan.links link (omega (arith, slice_get_within ends link l is, many)) in
      ap (λ (ps : List InterfacePlan). length ps) (laid_there plan.links link p.0 p.1)
      ∙ sym (each_many link l p.0 is p.1)

  pub before_is : (link : ℕ) → held_before ends link ≡ interfaces_before plan.links link
  before_is link = held_interfaces_before ends plan.links link many each_many

  -- what the machine keeps of the interface at a place of a device
  kept_at : (link k : ℕ) (l : LinkEnds) (t : DeviceTdi) → slice_get ends link ≡ Some l
      → slice_get l.device.interfaces.interfaces k ≡ Some t
      → (f : Face) × (slice_get w.faces.list (interfaces_before plan.links link + k) ≡ Some f) × (t ≡ f.tdi)
  kept_at link k l t is there =
      let s = site_at_place plan ends m memory w link k l t beside many is there in
      let p = s.placed in
      let here : p.link_ends ≡ l = same_Some p.link_ends l (sym p.ends_are ∙ ap (slice_get ends) s.link_is ∙ is) in
      let same : t ≡ p.tdi = same_Some t p.tdi
      (sym there ∙ (λ i. slice_get (sym here i).device.interfaces.interfaces (sym s.place_is i)) ∙ p.tdi_is) in (
        p.face,
        ap (λ (n : ℕ). slice_get w.faces.list (n + k)) (sym (before_is link)) ∙ p.face_is,
        same ∙ p.keeps.tdi_is,
      )

  tdis_are : (link : ℕ) (l : LinkEnds) → slice_get ends link ≡ Some l
      → l.device.interfaces.interfaces ≡ map (λ (f : Face). f.tdi) (on_link link (sites plan) w.faces.list)
  tdis_are link l is = list_same l.device.interfaces.interfaces _ at
    where
      at : (k : ℕ) → slice_get l.device.interfaces.interfaces k
          ≡ slice_get (map (λ (f : Face). f.tdi) (on_link link (sites plan) w.faces.list)) k
      at k = ⊎_elim
          (λ lt.
          let t = get_there l.device.interfaces.interfaces k lt in
          let f = kept_at link k l t.0 is t.1 in
          t.1 ∙ (ap Some f.2
          ∙ sym (slice_get-map (λ (f : Face). f.tdi) (on_link link (sites plan) w.faces.list) k
          ∙ ap (option_map (λ (f : Face). f.tdi))
          (on_link_at plan link k w.faces.list beside.faced (omega (arith, lt, laid_many link l is)) ∙ f.1))))
          (λ le.
          slice_get_past l.device.interfaces.interfaces k le
          ∙ sym (slice_get-map (λ (f : Face). f.tdi) (on_link link (sites plan) w.faces.list) k
          ∙ ap (option_map (λ (f : Face). f.tdi))
          (on_link_past plan link k w.faces.list beside.faced (omega (arith, le, laid_many link l is)))))
          (cases_lt k (length l.device.interfaces.interfaces))

  faces_many : (link : ℕ) (l : LinkEnds) → slice_get ends link ≡ Some l
      → length (on_link link (sites plan) w.faces.list) ≡ length (planned_on plan.links link)
  faces_many link l is =
      length_on (on_link link (sites plan) w.faces.list) (length (planned_on plan.links link))
      (λ k lt.
      let t = get_there l.device.interfaces.interfaces k (omega (arith, lt, laid_many link l is)) in
      let f = kept_at link k l t.0 is t.1 in
      (f.0, on_link_at plan link k w.faces.list beside.faced lt ∙ f.1))
      (on_link_past plan link (length (planned_on plan.links link)) w.faces.list beside.faced (omega arith))

  floors_many : (ns : List ℕ) (link : ℕ) (l : LinkEnds) → slice_get ends link ≡ Some l → length ns ≡ length (sites plan)
      → length (on_link link (sites plan) ns) ≡ length (planned_on plan.links link)
  floors_many ns link l is floored =
      length_on (on_link link (sites plan) ns) (length (planned_on plan.links link))
      (λ k lt.
      let t = get_there l.device.interfaces.interfaces k (omega (arith, lt, laid_many link l is)) in
      let s = site_at_place plan ends m memory w link k l t.0 beside many is t.1 in
      let within = slice_get_within (sites plan) (held_before ends link + k) s.site s.site_is in
      let n = get_there ns (interfaces_before plan.links link + k)
      (omega (arith, within, floored, before_is link)) in
      (n.0, on_link_at plan link k ns floored lt ∙ n.1))
      (on_link_past plan link (length (planned_on plan.links link)) ns floored (omega arith))

  -- an interface has one place on its link
  pub place_is : (i : ℕ) (x : Site) (p : IsPlaced plan ends m w i x) → slice_get (sites plan) i ≡ Some x
      → p.place ≡ place_of plan x
  place_is i x p is =
      let at = located_read 0 i ends (x.link, p.place) p.located_is in
      let on : at.on ≡ x.link = omega (arith, at.link_is) in
      let before = ap (held_before ends) on ∙ before_is x.link in
      omega (arith, at.number_is, before, site_numbered plan i x is)

  module _ (xs : List LinkAccesses) (whole : length xs ≡ length ends)
      (accesses : AreAccesses plan (link_seen xs) w.accesses) where
    pub statuses_there : (link : ℕ) (l : LinkEnds) (a : LinkAccesses) → slice_get ends link ≡ Some l → slice_get xs link
        ≡ Some a → device_statuses a.floors l.device.interfaces
        ≡ face_statuses link (sites plan) w.faces.list w.accesses.floors
    statuses_there link l a is at =
        let floors : a.floors ≡ on_link link (sites plan) w.accesses.floors =
        ap (λ (o : Option LinkAccesses). option_map_or (λ x. x.floors) o []) (sym at) ∙ accesses.floors link in
        ap (numbered_statuses a.floors 0) (tdis_are link l is)
        ∙ (from_both a.floors 0 (on_link link (sites plan) w.faces.list)
        (on_link link (sites plan) w.accesses.floors)
        (floors_many w.accesses.floors link l is accesses.floored ∙ sym (faces_many link l is)) floors
        ∙ sym (both_on link (sites plan) w.faces.list w.accesses.floors beside.faced accesses.floored))

    statuses_nowhere : (link : ℕ) → length ends ≤ link
        → [] ≡ face_statuses link (sites plan) w.faces.list w.accesses.floors
    statuses_nowhere link le =
        let none : on_link link (sites plan) w.faces.list ≡ [] =
        list_same (on_link link (sites plan) w.faces.list) [] (λ k.
        on_link_past plan link k w.faces.list beside.faced
        (omega (
          arith,
          ap (λ (ps : List InterfacePlan). length ps)
              (laid_past plan.links link (omega (arith, le, many))),
        ))) in
        sym (both_on link (sites plan) w.faces.list w.accesses.floors beside.faced accesses.floored
        ∙ ap (λ fs. statuses_both fs (on_link link (sites plan) w.accesses.floors)) none)

    pub statuses_are : (link : ℕ) → statuses_of_ends (slice_get ends link) (slice_get xs link)
        ≡ face_statuses link (sites plan) w.faces.list w.accesses.floors
    statuses_are link = ⊎_elim
        (λ lt.
        let l = get_there ends link lt in
        let a = get_there xs link (omega (arith, lt, whole)) in
        (λ i. statuses_of_ends (l.1 i) (a.1 i)) ∙ statuses_there link l.0 a.0 l.1 a.1)
        (λ le. ap (λ (o : Option LinkEnds). statuses_of_ends o (slice_get xs link)) (slice_get_past ends link le)
        ∙ statuses_nowhere link le)
        (cases_lt link (length ends))

    -- ---- who reads

    reader_known : (link requester place : ℕ) (x : Site) → slice_get (sites plan) place ≡ Some x
        → reads_there link requester x ≡ true → interface_of_requester m link requester ≡ Some place
    reader_known link requester place x is passes =
        let mine = and_parts (x.link == link) (x.plan.requester == requester) passes in
        let p = beside.placed place x is in
        position_at (is_reader link requester) m.interfaces place p.interface p.interface_is
        (and_from (p.interface.link == link) (p.interface.requester == requester)
        (eq-eqb p.interface.link link (p.keeps.managed.laid_out.link ∙ eqb-true x.link link mine.0))
        (eq-eqb p.interface.requester requester
        (p.keeps.managed.laid_out.requester ∙ eqb-true x.plan.requester requester mine.1)))
        (λ k y lt there. ahead k y lt there (cases_Bool (is_reader link requester y)))
      where
        ahead : (k : ℕ) (y : HostTdi) → k < place → slice_get m.interfaces k ≡ Some y
            → (is_reader link requester y ≡ true) ⊎ (is_reader link requester y ≡ false)
            → is_reader link requester y ≡ false
        ahead k y lt there cases = ⊎_elim
            (λ so.
            let z = get_there (sites plan) k
            (omega (arith, slice_get_within m.interfaces k y there, beside.managed)) in
            let q = beside.placed k z.0 z.1 in
            let same : q.interface ≡ y = same_Some q.interface y (sym q.interface_is ∙ there) in
            let its = and_parts (y.link == link) (y.requester == requester) so in
            let mine = and_parts (x.link == link) (x.plan.requester == requester) passes in
            absurd (omega (
              arith,
              lt,
              site_apart plan k place z.0 x fits z.1 is
                  (sym q.keeps.managed.laid_out.link ∙ (ap (λ (h : HostTdi). h.link) same
                  ∙ (eqb-true y.link link its.0 ∙ sym (eqb-true x.link link mine.0))))
                  (sym q.keeps.managed.laid_out.requester ∙ (ap (λ (h : HostTdi). h.requester) same
                  ∙ (eqb-true y.requester requester its.1 ∙ sym (eqb-true x.plan.requester requester mine.1)))),
            )))
            (λ not_so. not_so) cases

    reader_unknown : (link requester : ℕ)
        → ((k : ℕ) (y : Site) → slice_get (sites plan) k ≡ Some y → reads_there link requester y ≡ false)
        → interface_of_requester m link requester ≡ None
    reader_unknown link requester fails = position_none (is_reader link requester) m.interfaces
        (λ k y there. none k y there (cases_Bool (is_reader link requester y)))
      where
        none : (k : ℕ) (y : HostTdi) → slice_get m.interfaces k ≡ Some y → (is_reader link requester y ≡ true)
            ⊎ (is_reader link requester y ≡ false) → is_reader link requester y ≡ false
        none k y there cases = ⊎_elim
            (λ so.
            let z = get_there (sites plan) k
            (omega (arith, slice_get_within m.interfaces k y there, beside.managed)) in
            let q = beside.placed k z.0 z.1 in
            let same : q.interface ≡ y = same_Some q.interface y (sym q.interface_is ∙ there) in
            let its = and_parts (y.link == link) (y.requester == requester) so in
            let passes : reads_there link requester z.0 ≡ true =
            and_from (z.0.link == link) (z.0.plan.requester == requester)
            (eq-eqb z.0.link link (sym q.keeps.managed.laid_out.link ∙ (ap (λ (h : HostTdi). h.link) same
            ∙ eqb-true y.link link its.0)))
            (eq-eqb z.0.plan.requester requester (sym q.keeps.managed.laid_out.requester
            ∙ (ap (λ (h : HostTdi). h.requester) same ∙ eqb-true y.requester requester its.1))) in
            let no : true ≡ false = sym passes ∙ fails k z.0 z.1 in absurd cc)
            (λ not_so. not_so) cases

    pub reader_is : (link requester : ℕ)
        → reader_of m link requester ≡ option_map (λ (x : Site). x.number) (site_of_requester plan link requester)
    reader_is link requester = ⊎_elim
        (λ s.
        ap (option_and_then small_number) (reader_known link requester s.place s.site s.site_is s.passes)
        ∙ (ap (λ (b : Bool). if b then Some s.place else None) (le-leb s.place 255
        (omega (arith, slice_get_within (sites plan) s.place s.site s.site_is, sites_few plan fits)))
        ∙ (ap Some (sym (site_numbered plan s.place s.site s.site_is))
        ∙ sym (ap (option_map (λ (x : Site). x.number))
        (find_first (reads_there link requester) (sites plan) s.place s.site s.site_is s.passes
        (λ k y lt at. first s k y lt at (cases_Bool (reads_there link requester y))))))))
        (λ fails. ap (option_and_then small_number) (reader_unknown link requester fails)
        ∙ sym (ap (option_map (λ (x : Site). x.number))
        (find_none (reads_there link requester) (sites plan) fails)))
        (site_or_none (reads_there link requester) (sites plan))
      where
        first : (s : IsSomeSite (reads_there link requester) (sites plan)) (k : ℕ) (y : Site) → k < s.place
            → slice_get (sites plan) k ≡ Some y → (reads_there link requester y ≡ true)
            ⊎ (reads_there link requester y ≡ false) → reads_there link requester y ≡ false
        first s k y lt at cases = ⊎_elim
            (λ also.
            let its = and_parts (y.link == link) (y.plan.requester == requester) also in
            let mine = and_parts (s.site.link == link) (s.site.plan.requester == requester) s.passes in
            absurd (omega (
              arith,
              lt,
              site_apart plan k s.place y s.site fits at s.site_is
                  (eqb-true y.link link its.0 ∙ sym (eqb-true s.site.link link mine.0))
                  (eqb-true y.plan.requester requester its.1
                  ∙ sym (eqb-true s.site.plan.requester requester mine.1)),
            )))
            (λ not_so. not_so) cases

    -- ---- what is shown

    sizes_there : (i : ℕ) (x : Site) (p : IsPlaced plan ends m w i x) → slice_get (sites plan) i ≡ Some x
        → unwrap_or (slice_get (sizes_at xs x.link) p.place) [] ≡ page_counts x.plan
    sizes_there i x p is =
        let planned = site_planned plan i x fits is in
        let same : p.place ≡ planned.place = omega (
          arith,
          place_is i x p is,
          planned.place_is,
          planned.number_is,
        ) in
        ap (λ (s : List (List ℕ)). unwrap_or (slice_get s p.place) [])
        (accesses.sizes x.link planned.laid_out planned.links_are)
        ∙ (ap (λ (o : Option (List ℕ)). unwrap_or o [])
        (slice_get-map page_counts planned.laid_out.interfaces p.place
        ∙ (ap (λ (n : ℕ). option_map page_counts (slice_get planned.laid_out.interfaces n)) same
        ∙ ap (option_map page_counts) planned.plan_is)))

    abbrev shown_by : Option (ℕ × ℕ) → ℕ → ℕ → ℕ → Verdict
    shown_by o bar offset len =
        mmio_if (option_map_or (λ (at : ℕ × ℕ). has_bytes (sizes_at xs at.0) at.1 bar offset len) o false)
        (option_map_or (λ (at : ℕ × ℕ). bytes_from (mmio_at xs at.0 at.1 bar) offset len) o [])

    shown_there : (i : ℕ) (x : Site) (p : IsPlaced plan ends m w i x) (bar offset len : ℕ) → slice_get (sites plan) i
        ≡ Some x → shown_by (Some (x.link, p.place)) bar offset len
        ≡ mmio_shown plan w.accesses.happened (Some x) bar offset len
    shown_there i x p bar offset len is =
        (λ j. mmio_if (fits_range (4096 * slice_index (sizes_there i x p is j) bar) offset len)
        (bytes_from (λ at. accesses.bytes x.link p.place bar at j) offset len))
        ∙ ap (λ (n : ℕ). mmio_if (fits_range (4096 * slice_index (page_counts x.plan) bar) offset len)
        (bytes_from (byte_shown (w.accesses.happened x.link) n bar) offset len)) (place_is i x p is)

    pub shows_is : (i bar offset len : ℕ)
        → shown_by (interface_named m ends i) bar offset len
        ≡ mmio_by_happenings plan w.accesses.happened i bar offset len
    shows_is i bar offset len = ⊎_elim
        (λ lt.
        let x = get_there (sites plan) i lt in
        let p = beside.placed i x.0 x.1 in
        ap (λ (o : Option (ℕ × ℕ)). shown_by o bar offset len)
        (interface_there plan ends m memory w i x.0 p beside fits x.1)
        ∙ (shown_there i x.0 p bar offset len x.1
        ∙ sym (ap (λ (o : Option Site). mmio_shown plan w.accesses.happened o bar offset len)
        (site_found plan i x.0 x.1))))
        (λ le.
        ap (λ (o : Option (ℕ × ℕ)). shown_by o bar offset len) (interface_absent plan ends m memory w i beside le)
        ∙ sym (ap (λ (o : Option Site). mmio_shown plan w.accesses.happened o bar offset len)
        (site_lacking plan i le)))
        (cases_lt i (length (sites plan)))

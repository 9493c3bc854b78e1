-- Device interfaces at their places: at the manager by number, and at the device of a link by place. A number counts
-- the interfaces on earlier links and the earlier ones on the same link (`located_read`, `located_from`), and the
-- devices of all links have the plan's interfaces, so each place has its site (`site_at_place`). As the requesters of a
-- link differ, a device finds an interface by its requester (`named_there`).
use Rattle.std.proofs.Common.{◌≡◌, ℕ, suc, zero, ◌+◌, ◌-◌, ◌<◌, ◌≤◌, false, List, [], ◌∷◌}
use Rattle.std.proofs.Common.{length, refl, sym, ap, ◌∙◌, subst, arith, Option, Some, None, ⊎_elim}
use Rattle.std.proofs.lemmas.Bool.{cases_lt, eq-eqb, ne_eqb, lt-ltb, le-ltb, le-leb}
use Rattle.std.proofs.lemmas.List.Sums.{sum_by-cons}
use Rattle.std.proofs.lemmas.Option.{none-some, same_Some, slice_get_within}
use Rattle.std.specs.List.{position, slice_index_or}
use Rattle.std.specs.Prelude.{All, map, slice_get, nat_lt, if◌then◌else◌, sum_by, ◌/◌, ◌%◌, ◌^◌}
use Rattle.ide_types.specs.Fits.{FitsPlan, IsKey}
use Rattle.ide_types.specs.declared.interface.InterfacePlan.{InterfacePlan}
use Rattle.ide_types.specs.declared.plan.LinkPlan.{LinkPlan}
use Rattle.ide_types.specs.declared.plan.Plan.{Plan}
use Rattle.spec_interfaces.specs.Sites.{Site, sites}
use Rattle.interface_state.specs.Machine.{DeviceTdi}
use Rattle.interface_ends.specs.Replies.{DeviceTdis, named_interface, named_interface_in_list, named_interface_if_there}
use Rattle.interface_ends.specs.Replies.{is_elsewhere, requester_in, has_requester}
use Rattle.trusted_memory.specs.{MemoryContents}
use Rattle.whole_links.specs.{interface_named, InterfacesView, LinkEnds, place_on_links}
use Rattle.machine_whole.specs.Machine.{Whole, whole_streams}
use Rattle.join_interfaces.specs.Joined.{IsAt}
use Rattle.join_world.specs.Whole.{IsPlaced, IsBeside}
use Rattle.join_world.proofs.Places.{get_there, position_at}
pub use Rattle.join_world.proofs.Places.{site_numbered, site_planned, sites_many, sites_few, site_apart}
pub use Rattle.join_world.proofs.Places.{face_found, face_absent}

-- ---- places of links

-- how many interfaces the devices of earlier links have, and those of all
abbrev pub held_before : List LinkEnds → ℕ → ℕ
held_before [] link = 0
held_before (l ∷ ls) zero = 0
held_before (l ∷ ls) (suc link) = length l.device.interfaces.interfaces + held_before ls link

abbrev pub held_in_all : List LinkEnds → ℕ
held_in_all [] = 0
held_in_all (l ∷ ls) = length l.device.interfaces.interfaces + held_in_all ls

-- the interface of this number, of the links from this one on
pub record IsLocated (link number : ℕ) (ends : List LinkEnds) (at : ℕ × ℕ) : Type 0 where
  pub on : ℕ
  pub link_is : at.0 ≡ link + on
  pub there : LinkEnds
  pub ends_are : slice_get ends on ≡ Some there
  pub within : at.1 < length there.device.interfaces.interfaces
  pub number_is : number ≡ held_before ends on + at.1

pub located_read : (link n : ℕ) (ends : List LinkEnds) (at : ℕ × ℕ) → place_on_links link n ends ≡ Some at
    → IsLocated link n ends at
located_read link n [] at is = absurd (none-some at is)
located_read link n (l ∷ ls) at is =
    ⊎_elim here (λ le. later le (located_read (link + 1) (n - length l.device.interfaces.interfaces) ls at (behind le)))
    (cases_lt n (length l.device.interfaces.interfaces))
  where
    here : n < length l.device.interfaces.interfaces → IsLocated link n (l ∷ ls) at
    here lt =
        let h = rw (lt-ltb n (length l.device.interfaces.interfaces) lt) at is in
        let same = same_Some (link, n) at h in record {
          on = 0;
          link_is = omega (arith, ap (λ (p : ℕ × ℕ). p.0) same);
          there = l;
          ends_are = refl;
          within = omega (arith, lt, ap (λ (p : ℕ × ℕ). p.1) same);
          number_is = omega (arith, ap (λ (p : ℕ × ℕ). p.1) same);
        }

    behind : length l.device.interfaces.interfaces ≤ n
        → place_on_links (link + 1) (n - length l.device.interfaces.interfaces) ls ≡ Some at
    behind le = rw (le-ltb n (length l.device.interfaces.interfaces) le) at is

    later : length l.device.interfaces.interfaces ≤ n
        → IsLocated (link + 1) (n - length l.device.interfaces.interfaces) ls at → IsLocated link n (l ∷ ls) at
    later le r = record {
      on = suc r.on;
      link_is = omega (arith, r.link_is);
      there = r.there;
      ends_are = r.ends_are;
      within = r.within;
      number_is = omega (arith, r.number_is, le);
    }

pub located_from : (link n : ℕ) (ends : List LinkEnds) (on place : ℕ) (l : LinkEnds) → slice_get ends on ≡ Some l
    → place < length l.device.interfaces.interfaces → n ≡ held_before ends on + place
    → place_on_links link n ends ≡ Some (link + on, place)
located_from link n [] on place l is lt number = absurd (none-some l is)
located_from link n (x ∷ ls) zero place l is lt number =
    let many = ap (λ (y : LinkEnds). length y.device.interfaces.interfaces) (same_Some x l is) in
    let link_is : link ≡ link + 0 = omega arith in
    let place_is : n ≡ place = omega (arith, number) in
    rw (lt-ltb n (length x.device.interfaces.interfaces) (omega (arith, lt, number, many)))
    (λ j. Some (link_is j, place_is j))
located_from link n (x ∷ ls) (suc on) place l is lt number =
    let link_is : link + 1 + on ≡ link + suc on = omega arith in
    rw (le-ltb n (length x.device.interfaces.interfaces) (omega (arith, number)))
    (located_from (link + 1) (n - length x.device.interfaces.interfaces) ls on place l is lt (omega (arith, number))
    ∙ (λ j. Some (link_is j, place)))

-- a place has one number
pub located_apart : (ends : List LinkEnds) (i j : ℕ) (at : ℕ × ℕ) → place_on_links 0 i ends ≡ Some at
    → place_on_links 0 j ends ≡ Some at → i ≡ j
located_apart ends i j at first second =
    let a = located_read 0 i ends at first in
    let b = located_read 0 j ends at second in
    let same : a.on ≡ b.on = omega (arith, a.link_is, b.link_is) in
    omega (arith, a.number_is, b.number_is, ap (held_before ends) same)

-- ends whose devices have as many interfaces locate alike
pub located_kept : (link n : ℕ) (old new : List LinkEnds) → length new ≡ length old
    → ((i : ℕ) (l l' : LinkEnds) → slice_get old i ≡ Some l → slice_get new i ≡ Some l'
    → length l'.device.interfaces.interfaces ≡ length l.device.interfaces.interfaces)
    → place_on_links link n new ≡ place_on_links link n old
located_kept link n [] [] many kept = refl
located_kept link n [] (y ∷ new) many kept = absurd (omega (arith, many))
located_kept link n (x ∷ old) [] many kept = absurd (omega (arith, many))
located_kept link n (x ∷ old) (y ∷ new) many kept =
    let same = kept 0 x y refl refl in
    (λ j. if nat_lt n (same j) then Some (link, n) else place_on_links (link + 1) (n - same j) new)
    ∙ ap (λ (o : Option (ℕ × ℕ)). if nat_lt n (length x.device.interfaces.interfaces) then Some (link, n) else o)
    (located_kept (link + 1) (n - length x.device.interfaces.interfaces) old new (omega (arith, many))
    (λ i. kept (suc i)))

-- ---- all of them

held_less : (ends : List LinkEnds) (on place : ℕ) (l : LinkEnds) → slice_get ends on ≡ Some l
    → place < length l.device.interfaces.interfaces → held_before ends on + place < held_in_all ends
held_less [] on place l is lt = absurd (none-some l is)
held_less (x ∷ ls) zero place l is lt =
    omega (arith, lt, ap (λ (y : LinkEnds). length y.device.interfaces.interfaces) (same_Some x l is))
held_less (x ∷ ls) (suc on) place l is lt = omega (arith, held_less ls on place l is lt)

held_planned : (ends : List LinkEnds) (ls : List LinkPlan) → length ends ≡ length ls
    → ((i : ℕ) (l : LinkEnds) (p : LinkPlan) → slice_get ends i ≡ Some l → slice_get ls i ≡ Some p
    → length l.device.interfaces.interfaces ≡ length p.interfaces)
    → held_in_all ends ≡ sum_by (λ l. length l.interfaces) ls
held_planned [] [] many each = refl
held_planned [] (p ∷ ls) many each = absurd (omega (arith, many))
held_planned (l ∷ ends) [] many each = absurd (omega (arith, many))
held_planned (l ∷ ends) (p ∷ ls) many each =
    omega (
      arith,
      each 0 l p refl refl,
      held_planned ends ls (omega (arith, many)) (λ i. each (suc i)),
      sum_by-cons (λ (k : LinkPlan). length k.interfaces) p ls,
    )

-- ---- the site of a place

pub record IsSiteAt (plan : Plan) (ends : List LinkEnds) (m : InterfacesView) (w : Whole) (link place number : ℕ)
    (t : DeviceTdi) : Type 0 where
  pub site : Site
  pub site_is : slice_get (sites plan) number ≡ Some site
  pub link_is : site.link ≡ link
  pub placed : IsPlaced plan ends m w number site
  pub place_is : placed.place ≡ place
  pub plan_is : t.plan ≡ site.plan

-- ---- what a device names

near : (r : ℕ) → r ≤ 65535 → is_elsewhere r ≡ false
near r le = let zero_is : r / 2 ^ 24 % 2 ≡ 0 = omega arith in rw zero_is refl

whole_id : (r : ℕ) → r ≤ 65535 → requester_in r ≡ r
whole_id r le = omega arith

named_by : (d : DeviceTdis) (r place : ℕ) (t : DeviceTdi) → r ≤ 65535 → position (has_requester r) d.interfaces
    ≡ Some place
    → slice_get d.interfaces place ≡ Some t → named_interface d r ≡ Some (record { place = place; tdi = t })
named_by d r place t le found is =
    rw (near r le) (ap (λ (n : ℕ). named_interface_in_list d.interfaces (position (has_requester n) d.interfaces))
    (whole_id r le)
    ∙ ap (named_interface_in_list d.interfaces) found ∙ ap (named_interface_if_there place) is)

nonces_are : (ls : List LinkPlan) (i : ℕ) (l : LinkPlan) → slice_get ls i ≡ Some l
    → slice_index_or (map (λ (k : LinkPlan). k.nonces) ls) i [] ≡ l.nonces
nonces_are [] i l is = absurd (none-some l is)
nonces_are (k ∷ ls) zero l is = ap (λ (j : LinkPlan). j.nonces) (same_Some k l is)
nonces_are (k ∷ ls) (suc i) l is = nonces_are ls i l is

module _ (plan : Plan) (ends : List LinkEnds) (m : InterfacesView) (memory : MemoryContents) (w : Whole) where
  -- the devices have the plan's interfaces
  held_is : IsBeside plan ends m memory w → length ends ≡ length plan.links → held_in_all ends ≡ length (sites plan)
  held_is beside many = held_planned ends plan.links many (λ i l p is planned. (beside.devices i l is).many p planned)
      ∙ sym (sites_many plan)

  site_within : (link place : ℕ) (l : LinkEnds) (t : DeviceTdi) → IsBeside plan ends m memory w → slice_get ends link
      ≡ Some l → slice_get l.device.interfaces.interfaces place ≡ Some t
      → held_before ends link + place < length (sites plan) → IsSiteAt plan ends m w link place
      (held_before ends link + place) t
  site_within link place l t beside is there lt =
      let n = held_before ends link + place in
      let x = get_there (sites plan) n lt in
      let p = beside.placed n x.0 x.1 in
      let within = slice_get_within l.device.interfaces.interfaces place t there in
      let at = located_from 0 n ends link place l is within refl in
      let same : ◌≡◌ {A = ℕ × ℕ} (x.0.link, p.place) (0 + link, place) =
      same_Some (x.0.link, p.place) (0 + link, place) (sym p.located_is ∙ at) in
      let link_is : x.0.link ≡ link = omega (arith, ap (λ (q : ℕ × ℕ). q.0) same) in
      let place_is : p.place ≡ place = ap (λ (q : ℕ × ℕ). q.1) same in
      let here : p.link_ends ≡ l = same_Some p.link_ends l (sym p.ends_are ∙ ap (slice_get ends) link_is ∙ is) in
      let tdi : p.tdi ≡ t =
      same_Some p.tdi t
      (sym p.tdi_is ∙ (λ j. slice_get (here j).device.interfaces.interfaces (place_is j)) ∙ there) in
      record {
        site = x.0;
        site_is = x.1;
        link_is = link_is;
        placed = p;
        place_is = place_is;
        plan_is = ap (λ (y : DeviceTdi). y.plan) (sym tdi) ∙ p.keeps.layout;
      }

  -- each place of a device
  pub site_at_place : (link place : ℕ) (l : LinkEnds) (t : DeviceTdi) → IsBeside plan ends m memory w → length ends
      ≡ length plan.links → slice_get ends link ≡ Some l → slice_get l.device.interfaces.interfaces place ≡ Some t
      → IsSiteAt plan ends m w link place (held_before ends link + place) t
  site_at_place link place l t beside many is there =
      site_within link place l t beside is there
      (omega (
        arith,
        held_less ends link place l is (slice_get_within l.device.interfaces.interfaces place t there),
        held_is beside many,
      ))

  -- ---- by requester

  -- no place before it has its requester
  requester_ahead : (i k : ℕ) (x : Site) (p : IsPlaced plan ends m w i x) (t : DeviceTdi)
      → IsBeside plan ends m memory w → FitsPlan plan → slice_get (sites plan) i ≡ Some x → k < p.place
      → slice_get p.link_ends.device.interfaces.interfaces k ≡ Some t → t.plan.requester ≡ x.plan.requester → ⊥
  requester_ahead i k x p t beside fits is lt there same =
      let at = located_read 0 i ends (x.link, p.place) p.located_is in
      let number : i ≡ held_before ends x.link + p.place =
      at.number_is ∙ ap (λ (n : ℕ). held_before ends n + p.place) (omega (arith, at.link_is)) in
      let s = site_within x.link k p.link_ends t beside p.ends_are there
      (omega (arith, number, lt, slice_get_within (sites plan) i x is)) in
      let alike = site_apart plan i (held_before ends x.link + k) x s.site fits is s.site_is (sym s.link_is)
      (sym same ∙ ap (λ (y : InterfacePlan). y.requester) s.plan_is) in
      absurd (omega (arith, alike, number, lt))

  pub named_there : (i : ℕ) (x : Site) (p : IsPlaced plan ends m w i x) → IsBeside plan ends m memory w
      → FitsPlan plan → slice_get (sites plan) i ≡ Some x
      → named_interface p.link_ends.device.interfaces p.interface.requester
      ≡ Some (record { place = p.place; tdi = p.tdi })
  named_there i x p beside fits is =
      let planned = site_planned plan i x fits is in
      let d = p.link_ends.device.interfaces in
      let requester_is = p.keeps.managed.laid_out.requester in
      let within : x.plan.requester ≤ 65535 = planned.interface_fits.requester in
      let same : p.tdi.plan.requester ≡ x.plan.requester = ap (λ (y : InterfacePlan). y.requester) p.keeps.layout in
      let found = position_at (has_requester x.plan.requester) d.interfaces p.place p.tdi p.tdi_is
      (eq-eqb x.plan.requester p.tdi.plan.requester (sym same))
      (λ k t lt there. ne_eqb x.plan.requester t.plan.requester
      (λ alike. requester_ahead i k x p t beside fits is lt there (sym alike))) in
      ap (named_interface d) requester_is ∙ named_by d x.plan.requester p.place p.tdi within found p.tdi_is

  -- ---- as the operations want it

  pub is_at : (i : ℕ) (x : Site) (p : IsPlaced plan ends m w i x) → IsBeside plan ends m memory w → FitsPlan plan
      → slice_get (sites plan) i ≡ Some x → IsAt plan (whole_streams plan w) w.faces.used x p.face i p.place m
      p.link_ends.device.interfaces p.interface p.tdi
  is_at i x p beside fits is =
      let planned = site_planned plan i x fits is in
      let d = beside.devices x.link p.link_ends p.ends_are in
      record {
        streams = planned.laid_out.streams;
        each_stream = planned.fits.each_stream;
        fits = planned.interface_fits;
        portion_least = fits.portion_least;
        portion_most = fits.portion_most;
        portion_is = beside.portion;
        number_is = planned.number_is;
        at_manager = p.interface_is;
        at_device = named_there i x p beside fits is;
        each_nonce =
            subst (All IsKey) (sym (d.nonces ∙ nonces_are plan.links x.link planned.laid_out planned.links_are))
            planned.fits.each_nonce;
        next_is = λ j. slice_get (d.nonces j) (d.used j);
        face = p.keeps;
      }

  -- ---- by number

  -- the numbers of the plan's interfaces are known
  pub interface_there : (i : ℕ) (x : Site) (p : IsPlaced plan ends m w i x) → IsBeside plan ends m memory w
      → FitsPlan plan → slice_get (sites plan) i ≡ Some x → interface_named m ends i ≡ Some (x.link, p.place)
  interface_there i x p beside fits is =
      let lt = slice_get_within (sites plan) i x is in
      rw (lt-ltb i (length m.interfaces) (omega (arith, lt, beside.managed)))
      (rw (le-leb i 255 (omega (arith, lt, sites_few plan fits))) p.located_is)

  -- and no others
  pub interface_absent : (i : ℕ) → IsBeside plan ends m memory w → length (sites plan) ≤ i
      → interface_named m ends i ≡ None
  interface_absent i beside le = rw (le-ltb i (length m.interfaces) (omega (arith, le, beside.managed))) refl

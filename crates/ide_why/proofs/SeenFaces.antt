-- What is read of an interface is what the machine keeps of it.
use Rattle.std.proofs.Common.{◌≡◌, ℕ, ◌==◌, ◌&&◌, ◌<◌, ◌≤◌, Bool, true, false, ◌∷◌, length, refl, ap, sym}
use Rattle.std.proofs.Common.{◌∙◌, arith, Option, Some, None, ⊎_elim, ◌⊎◌, subst}
use Rattle.std.proofs.lemmas.Bool.{cases_Bool, cases_lt, and_parts, and_from, eqb-true, eq-eqb}
use Rattle.std.proofs.lemmas.Option.{same_Some, slice_get_within}
use Rattle.std.specs.Option.{option_and_then, option_map}
use Rattle.std.specs.Prelude.{slice_get}
use Rattle.ide_types.specs.declared.plan.Plan.{Plan}
use Rattle.ide_types.specs.declared.interface.InterfacePlan.{InterfacePlan}
use Rattle.join_interfaces.specs.Faces.{SeenAs}
use Rattle.machine_whole.specs.Interfaces.{Face, find_face, with_requester}
use Rattle.spec_interfaces.specs.Sites.{Site, sites}
use Rattle.spec_interfaces.specs.Views.{Managed, bound_if}
use Rattle.interface_host.specs.Facts.{interface_facts, reported_if_locked}
use Rattle.interface_host.specs.Managers.{interface_of_requester}
use Rattle.interface_host.specs.Views.{HostTdi, Seen, IsUnlocked, IsLocked, IsRunning, IsDoubt, IsBroken, floor_of}
use Rattle.interface_host.specs.Views.{grant_by, is_requester, view_of}
use Rattle.interface_state.specs.{DeviceTdi, state_code}
use Rattle.ide_types.specs.declared.view.View.{View}
use Rattle.told_facts.specs.declared.fact.InterfaceFact.TheVariants as face
use Rattle.told_facts.specs.declared.fact.Fact.TheVariants as fact
use Rattle.why_facts.specs.Forms.{bound_facts, face_facts, interface_fact, reported_facts, shown_facts}
use Rattle.why_facts.specs.Kept.{known_facts, shown_in}
use Rattle.world.specs.{AreLinks, WorldStandsFor, WholeLinks, interface_of_ends, world_of, IsPlaced}
use Rattle.spec_keys.specs.History.{History}
use Rattle.world.proofs.{tdi_there, requester_found, requester_nowhere, requester_true, IsSomeSite, get_there}
use Rattle.world.proofs.{position_at, position_none, site_or_none, face_absent, face_found, interface_absent}
use Rattle.world.proofs.{interface_there, site_apart, site_numbered}
use Rattle.why_facts.specs.declared.appends.faces.FaceSeen.{FaceSeen}
use Rattle.why_facts.specs.{face_seen, reported_seen}
use Rattle.ide_why.specs.Facts.{known_read, shown_read, shown_seen}
use Rattle.ide_why.specs.Faces.{AreFacesSeen, IsFaceSeen}
use Rattle.ide_why.specs.Reading.{face_located, face_of, face_read, requester_read, device_interface_read}
use Rattle.told_facts.specs.Exchanges.{interface_planned}
use Rattle.told_facts.proofs.Planned.{planned}

abbrev is_site_requester : ℕ → ℕ → Site → Bool
is_site_requester link requester x = (x.link == link) && (x.plan.requester == requester)

-- ---- the lines of an interface that is seen

pub face_is : (draw : ℕ → ℕ → ℕ) (tdis : ℕ → Option DeviceTdi) (plans : ℕ → Option InterfacePlan) (y : Site × Face)
    (f : FaceSeen)
    → IsFaceSeen draw tdis plans y f → face_seen f ≡ face_facts y.0 y.1.tdi y.1.managed
face_is draw tdis plans y f is =
    (λ i. interface_fact (is.number i) (is.state i) ∷ fact.Interface (face.View (is.view i))
    ∷ fact.Interface (face.Needs (is.needs i)) ∷ bound_facts (is.bound i))

pub known_is : (draw : ℕ → ℕ → ℕ) (tdis : ℕ → Option DeviceTdi) (plans : ℕ → Option InterfacePlan)
    (o : Option (Site × Face)) (f : Option FaceSeen)
    → AreFacesSeen draw tdis plans o f → known_read f ≡ known_facts o
known_is draw tdis plans None None is = refl
known_is draw tdis plans None (Some f) is = absurd is
known_is draw tdis plans (Some y) None is = absurd is
known_is draw tdis plans (Some y) (Some f) is = face_is draw tdis plans y f is

pub number_is : (draw : ℕ → ℕ → ℕ) (tdis : ℕ → Option DeviceTdi) (plans : ℕ → Option InterfacePlan)
    (o : Option (Site × Face)) (f : Option FaceSeen) → AreFacesSeen draw tdis plans o f
    → option_map (λ (g : FaceSeen). g.number) f ≡ option_map (λ (y : Site × Face). y.0.number) o
number_is draw tdis plans None None is = refl
number_is draw tdis plans None (Some f) is = absurd is
number_is draw tdis plans (Some y) None is = absurd is
number_is draw tdis plans (Some y) (Some f) is = ap (λ (n : ℕ). Some n) is.number

-- ---- an interface that is seen

reported_is : (seen : Seen) (m : Managed) → SeenAs seen m
    → reported_seen (reported_if_locked seen) ≡ reported_facts m.view m.reported
reported_is IsUnlocked m is = ap (λ (v : View). reported_facts v m.reported) (sym is)
reported_is (IsLocked nonce reported) m is = (λ i. reported_facts (sym is.0 i) (sym is.2 i))
reported_is (IsRunning floor) m is = ap (λ (v : View). reported_facts v m.reported) (sym is.0)
reported_is IsDoubt m is = ap (λ (v : View). reported_facts v m.reported) (sym is)
reported_is IsBroken m is = ap (λ (v : View). reported_facts v m.reported) (sym is)

module _ (plan : Plan) (s : WholeLinks) (links : AreLinks plan s.links.ends s.links.keeper.keys)
    (h : History) (stood : WorldStandsFor (world_of plan s) h) where
  abbrev Placed : ℕ → Site → Type 0
  Placed i x = IsPlaced plan s.links.ends.links s.links.keeper.interfaces stood.whole i x

  pub interface_at : (i : ℕ) (x : Site) (p : Placed i x) → slice_get (sites plan) i ≡ Some x
      → device_interface_read s i ≡ Some p.face.tdi
  interface_at i x p at =
      ap (option_and_then (interface_of_ends s.links.ends.links)) (interface_there plan s.links.ends.links
      s.links.keeper.interfaces s.links.trusted.contents stood.whole i x p stood.is.beside links.fits at)
      ∙ (tdi_there plan s.links.ends.links s.links.keeper.interfaces s.links.trusted.contents stood.whole
      stood.is.beside links.fits links.many i x p
      ∙ ap (λ (t : DeviceTdi). Some t) p.keeps.tdi_is)

  placed_seen : (i : ℕ) (x : Site) (p : Placed i x) → slice_get (sites plan) i ≡ Some x
      → IsFaceSeen stood.whole.draw (device_interface_read s) (interface_planned plan.links) (x, p.face)
      (record { number = i; state = state_code p.tdi.state; manager = interface_facts p.interface })
  placed_seen i x p at =
      let kept = p.keeps.managed in record {
        number = sym (site_numbered plan i x at);
        state = ap (λ (t : DeviceTdi). state_code t.state) p.keeps.tdi_is;
        link = kept.laid_out.link;
        stream = kept.laid_out.stream;
        view = view_is p.interface.seen p.face.managed kept.seen;
        needs = kept.needs;
        started = kept.started;
        draw_is = kept.draw_is;
        bound = ap (λ (n : ℕ). grant_by n (interface_facts p.interface).floor) kept.laid_out.stream
            ∙ bound_is p.interface.seen p.face.managed x.plan.stream kept.seen;
        tdi = interface_at i x p at;
        reported = reported_is p.interface.seen p.face.managed kept.seen;
        laid_out = planned plan i x at;
      }
    where
      view_is : (seen : Seen) (m : Managed) → SeenAs seen m → view_of seen ≡ m.view
      view_is IsUnlocked m as_seen = sym as_seen
      view_is (IsLocked nonce reported) m as_seen = sym as_seen.0
      view_is (IsRunning floor) m as_seen = sym as_seen.0
      view_is IsDoubt m as_seen = sym as_seen
      view_is IsBroken m as_seen = sym as_seen

      bound_is : (seen : Seen) (m : Managed) (stream : ℕ) → SeenAs seen m
          → grant_by stream (floor_of seen) ≡ bound_if m.view stream m.floor
      bound_is IsUnlocked m stream as_seen = ap (λ (u : View). bound_if u stream m.floor) (sym as_seen)
      bound_is (IsLocked nonce reported) m stream as_seen = ap (λ (u : View). bound_if u stream m.floor) (sym as_seen.0)
      bound_is (IsRunning floor) m stream as_seen = (λ j. bound_if (sym as_seen.0 j) stream (sym as_seen.1 j))
      bound_is IsDoubt m stream as_seen = ap (λ (u : View). bound_if u stream m.floor) (sym as_seen)
      bound_is IsBroken m stream as_seen = ap (λ (u : View). bound_if u stream m.floor) (sym as_seen)

  face_there : (i : ℕ) (x : Site) (p : Placed i x) → slice_get (sites plan) i ≡ Some x
      → face_read s i ≡ Some (record {
        number = i;
        state = state_code p.tdi.state;
        manager = interface_facts p.interface;
      })
  face_there i x p at =
      ap (face_located s i) (interface_there plan s.links.ends.links s.links.keeper.interfaces
      s.links.trusted.contents stood.whole i x p stood.is.beside links.fits at)
      ∙ (λ j. face_of i (tdi_there plan s.links.ends.links s.links.keeper.interfaces s.links.trusted.contents
      stood.whole
      stood.is.beside links.fits links.many i x p j) (p.interface_is j))

  pub face_read_is : (i : ℕ) → AreFacesSeen stood.whole.draw (device_interface_read s) (interface_planned plan.links)
      (find_face (λ x. x.number == i) (sites plan) stood.whole.faces.list) (face_read s i)
  face_read_is i = ⊎_elim here nowhere (cases_lt i (length (sites plan)))
    where
      here : i < length (sites plan) → AreFacesSeen stood.whole.draw (device_interface_read s)
          (interface_planned plan.links)
          (find_face (λ x. x.number == i) (sites plan) stood.whole.faces.list) (face_read s i)
      here lt =
          let x = get_there (sites plan) i lt in
          let p = stood.is.beside.placed i x.0 x.1 in
          subst (λ o. AreFacesSeen stood.whole.draw (device_interface_read s) (interface_planned plan.links) o
          (face_read s i))
          (sym (face_found plan stood.whole.faces.list i x.0 p.face x.1 p.face_is))
          (subst (λ f. AreFacesSeen stood.whole.draw (device_interface_read s) (interface_planned plan.links)
          (Some (x.0, p.face)) f)
          (sym (face_there i x.0 p x.1))
          (placed_seen i x.0 p x.1))

      nowhere : length (sites plan) ≤ i → AreFacesSeen stood.whole.draw (device_interface_read s)
          (interface_planned plan.links)
          (find_face (λ x. x.number == i) (sites plan) stood.whole.faces.list) (face_read s i)
      nowhere le =
          subst (λ o. AreFacesSeen stood.whole.draw (device_interface_read s) (interface_planned plan.links) o
          (face_read s i))
          (sym (face_absent plan stood.whole.faces.list i le))
          (subst (λ f. AreFacesSeen stood.whole.draw (device_interface_read s) (interface_planned plan.links) None f)
          (sym (ap (face_located s i) (interface_absent plan s.links.ends.links
          s.links.keeper.interfaces s.links.trusted.contents stood.whole i stood.is.beside le))) tt)

  -- ---- at its device

  pub shown_is : (i bar : ℕ) → shown_read s i bar
      ≡ shown_in bar (find_face (λ x. x.number == i) (sites plan) stood.whole.faces.list)
  shown_is i bar = ⊎_elim here nowhere (cases_lt i (length (sites plan)))
    where
      here : i < length (sites plan) → shown_read s i bar
          ≡ shown_in bar (find_face (λ x. x.number == i) (sites plan) stood.whole.faces.list)
      here lt =
          let x = get_there (sites plan) i lt in
          let p = stood.is.beside.placed i x.0 x.1 in
          ap (shown_seen i bar) (interface_at i x.0 p x.1)
          ∙ (ap (λ (n : ℕ). shown_facts n p.face.tdi bar) (sym (site_numbered plan i x.0 x.1))
          ∙ sym (ap (shown_in bar) (face_found plan stood.whole.faces.list i x.0 p.face x.1 p.face_is)))

      nowhere : length (sites plan) ≤ i → shown_read s i bar
          ≡ shown_in bar (find_face (λ x. x.number == i) (sites plan) stood.whole.faces.list)
      nowhere le =
          ap (λ (o : Option (ℕ × ℕ)). shown_seen i bar (option_and_then (interface_of_ends s.links.ends.links) o))
          (interface_absent plan s.links.ends.links s.links.keeper.interfaces s.links.trusted.contents stood.whole i
          stood.is.beside le)
          ∙ sym (ap (shown_in bar) (face_absent plan stood.whole.faces.list i le))

  -- ---- by its requester ID

  reader_known : (link requester place : ℕ) (x : Site) → slice_get (sites plan) place ≡ Some x
      → is_site_requester link requester x ≡ true
      → interface_of_requester s.links.keeper.interfaces link requester ≡ Some place
  reader_known link requester place x at passes =
      let mine = requester_true link requester x passes in
      let p = stood.is.beside.placed place x at in
      position_at (is_requester link requester) s.links.keeper.interfaces.interfaces place p.interface p.interface_is
      (and_from (p.interface.link == link) (p.interface.requester == requester)
      (eq-eqb p.interface.link link (p.keeps.managed.laid_out.link ∙ mine.0))
      (eq-eqb p.interface.requester requester (p.keeps.managed.laid_out.requester ∙ mine.1)))
      (λ k y lt there. ahead k y lt there (cases_Bool (is_requester link requester y)))
    where
      ahead : (k : ℕ) (y : HostTdi) → k < place → slice_get s.links.keeper.interfaces.interfaces k ≡ Some y
          → (is_requester link requester y ≡ true) ⊎ (is_requester link requester y ≡ false)
          → is_requester link requester y ≡ false
      ahead k y lt there cases = ⊎_elim
          (λ so.
          let z = get_there (sites plan) k (omega (
            arith,
            slice_get_within s.links.keeper.interfaces.interfaces k y there,
            stood.is.beside.managed,
          )) in
          let q = stood.is.beside.placed k z.0 z.1 in
          let same : q.interface ≡ y = same_Some q.interface y (sym q.interface_is ∙ there) in
          let its = and_parts (y.link == link) (y.requester == requester) so in
          let mine = requester_true link requester x passes in
          absurd (omega (
            arith,
            lt,
            site_apart plan k place z.0 x links.fits z.1 at
                (sym q.keeps.managed.laid_out.link ∙ (ap (λ (h : HostTdi). h.link) same
                ∙ (eqb-true y.link link its.0 ∙ sym mine.0)))
                (sym q.keeps.managed.laid_out.requester ∙ (ap (λ (h : HostTdi). h.requester) same
                ∙ (eqb-true y.requester requester its.1 ∙ sym mine.1))),
          )))
          (λ not_so. not_so) cases

  reader_unknown : (link requester : ℕ)
      → ((k : ℕ) (y : Site) → slice_get (sites plan) k ≡ Some y → is_site_requester link requester y ≡ false)
      → interface_of_requester s.links.keeper.interfaces link requester ≡ None
  reader_unknown link requester fails = position_none (is_requester link requester)
      s.links.keeper.interfaces.interfaces
      (λ k y there. none k y there (cases_Bool (is_requester link requester y)))
    where
      none : (k : ℕ) (y : HostTdi) → slice_get s.links.keeper.interfaces.interfaces k ≡ Some y
          → (is_requester link requester y ≡ true) ⊎ (is_requester link requester y ≡ false)
          → is_requester link requester y ≡ false
      none k y there cases = ⊎_elim
          (λ so.
          let z = get_there (sites plan) k (omega (
            arith,
            slice_get_within s.links.keeper.interfaces.interfaces k y there,
            stood.is.beside.managed,
          )) in
          let q = stood.is.beside.placed k z.0 z.1 in
          let same : q.interface ≡ y = same_Some q.interface y (sym q.interface_is ∙ there) in
          let its = and_parts (y.link == link) (y.requester == requester) so in
          let passes : is_site_requester link requester z.0 ≡ true =
          and_from (z.0.link == link) (z.0.plan.requester == requester)
          (eq-eqb z.0.link link (sym q.keeps.managed.laid_out.link ∙ (ap (λ (h : HostTdi). h.link) same
          ∙ eqb-true y.link link its.0)))
          (eq-eqb z.0.plan.requester requester (sym q.keeps.managed.laid_out.requester
          ∙ (ap (λ (h : HostTdi). h.requester) same ∙ eqb-true y.requester requester its.1))) in
          let no : true ≡ false = sym passes ∙ fails k z.0 z.1 in absurd cc)
          (λ not_so. not_so) cases

  pub requester_read_is : (link requester : ℕ) → AreFacesSeen stood.whole.draw (device_interface_read s)
      (interface_planned plan.links)
      (with_requester plan stood.whole.faces link requester) (requester_read s link requester)
  requester_read_is link requester =
      ⊎_elim here nowhere (site_or_none (is_site_requester link requester) (sites plan))
    where
      here : IsSomeSite (is_site_requester link requester) (sites plan)
          → AreFacesSeen stood.whole.draw (device_interface_read s) (interface_planned plan.links)
          (with_requester plan stood.whole.faces link requester) (requester_read s link requester)
      here t =
          let p = stood.is.beside.placed t.place t.site t.site_is in
          subst (λ o. AreFacesSeen stood.whole.draw (device_interface_read s) (interface_planned plan.links) o
          (requester_read s link requester))
          (sym (requester_found plan s.links.ends.links s.links.keeper.interfaces s.links.trusted.contents stood.whole
          stood.is.beside
          links.fits links.many link requester t.place t.site p t.site_is t.passes))
          (subst (λ f. AreFacesSeen stood.whole.draw (device_interface_read s) (interface_planned plan.links)
          (Some (t.site, p.face)) f)
          (sym (ap (option_and_then (face_read s)) (reader_known link requester t.place t.site t.site_is t.passes)
          ∙ face_there t.place t.site p t.site_is))
          (placed_seen t.place t.site p t.site_is))

      nowhere : ((k : ℕ) (y : Site) → slice_get (sites plan) k ≡ Some y → is_site_requester link requester y ≡ false)
          → AreFacesSeen stood.whole.draw (device_interface_read s) (interface_planned plan.links)
          (with_requester plan stood.whole.faces link requester) (requester_read s link requester)
      nowhere fails =
          subst (λ o. AreFacesSeen stood.whole.draw (device_interface_read s) (interface_planned plan.links) o
          (requester_read s link requester))
          (sym (requester_nowhere plan s.links.ends.links s.links.keeper.interfaces s.links.trusted.contents stood.whole
          stood.is.beside
          links.fits links.many link requester fails))
          (subst (λ f. AreFacesSeen stood.whole.draw (device_interface_read s) (interface_planned plan.links) None f)
          (sym (ap (option_and_then (face_read s)) (reader_unknown link requester fails))) tt)

  pub known : (link requester : ℕ) → known_read (requester_read s link requester) ≡ known_facts
      (with_requester plan stood.whole.faces link requester)
  known link requester = known_is stood.whole.draw (device_interface_read s) (interface_planned plan.links)
      (with_requester plan stood.whole.faces link requester)
      (requester_read s link requester) (requester_read_is link requester)

  pub numbered : (link requester : ℕ) → option_map (λ (f : FaceSeen). f.number) (requester_read s link requester)
      ≡ option_map (λ (y : Site × Face). y.0.number) (with_requester plan stood.whole.faces link requester)
  numbered link requester = number_is stood.whole.draw (device_interface_read s) (interface_planned plan.links)
      (with_requester plan stood.whole.faces link requester)
      (requester_read s link requester) (requester_read_is link requester)

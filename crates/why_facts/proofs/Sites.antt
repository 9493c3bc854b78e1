-- What is known of an interface is what the history gives.
use Rattle.std.proofs.Common.{◌≡◌, ℕ, ◌==◌, ◌&&◌, ◌∷◌, Bool, true, false, List, [], map, length, Option, Some}
use Rattle.std.proofs.Common.{None, if◌then◌else◌, refl, ap, ◌∙◌}
use Rattle.std.specs.Prelude.{find}
use Rattle.std.specs.Option.{option_and_then, option_map}
use Rattle.ide_types.specs.declared.plan.Plan.{Plan}
use Rattle.tlp_layout.specs.declared.head.HeadView.{HeadView}
use Rattle.spec_keys.specs.History.{History}
use Rattle.spec_interfaces.specs.Sites.{Site, sites, site_of_requester}
use Rattle.spec_interfaces.specs.Cause.{owner_id, owner_site}
use Rattle.machine_whole.specs.Interfaces.{Face, Faces, find_face, with_requester}
use Rattle.machine_whole.specs.InterfacesStand.{FacesStandFor, face_at}
use Rattle.machine_whole.specs.Machine.{Whole}
use Rattle.machine_whole.specs.Stands.{WholeStandsFor}
use Rattle.machine_whole.proofs.Accesses.{statuses_are}
use Rattle.why_facts.specs.Due.{site_due, readings_at}
use Rattle.why_facts.specs.Kept.{known_facts, owner_found, readings_of_whole}

abbrev pub with_face : Plan → History → Site → Site × Face
with_face plan h x = (x, face_at plan h x)

-- the first of them that passes a test, with what is kept of it
pub found_is : (test : Site → Bool) (f : Site → Face) (xs : List Site) → find_face test xs (map f xs)
    ≡ option_map (λ x. (x, f x)) (find test xs)
found_is test f [] = refl
found_is test f (x ∷ xs) = by (test x) (found_is test f xs)
  where
    by : (b : Bool) → find_face test xs (map f xs) ≡ option_map (λ x. (x, f x)) (find test xs)
        → (if b then Some (x, f x) else find_face test xs (map f xs))
        ≡ option_map (λ x. (x, f x)) (if b then Some x else find test xs)
    by true rest = refl
    by false rest = rest

pub requester_is : (plan : Plan) (h : History) (fs : Faces) → FacesStandFor plan fs h → (link requester : ℕ)
    → with_requester plan fs link requester ≡ option_map (with_face plan h) (site_of_requester plan link requester)
requester_is plan h fs stands link requester =
    ap (find_face (λ x. (x.link == link) && (x.plan.requester == requester)) (sites plan)) stands.faces
    ∙ found_is (λ x. (x.link == link) && (x.plan.requester == requester)) (face_at plan h) (sites plan)

-- what is made of the owner of a TLP
pub of_owner : {A : Type 0} (plan : Plan) (h : History) (fs : Faces) → FacesStandFor plan fs h → (link : ℕ)
    (head : HeadView) (f : Option (Site × Face) → A) (g : Option Site → A)
    → ((o : Option Site) → f (option_map (with_face plan h) o) ≡ g o)
    → f (owner_found plan fs link head) ≡ g (owner_site plan link head)
of_owner plan h fs stands link head f g same = by (owner_id head)
  where
    by : (o : Option ℕ) → f (option_and_then (with_requester plan fs link) o)
        ≡ g (option_and_then (site_of_requester plan link) o)
    by None = same None
    by (Some requester) = ap f (requester_is plan h fs stands link requester) ∙ same
        (site_of_requester plan link requester)

pub known_is : (plan : Plan) (h : History) (o : Option Site) → known_facts (option_map (with_face plan h) o)
    ≡ site_due plan h o
known_is plan h None = refl
known_is plan h (Some x) = refl

number_is : (plan : Plan) (h : History) (o : Option Site)
    → option_map (λ (y : Site × Face). y.0.number) (option_map (with_face plan h) o)
    ≡ option_map (λ (x : Site). x.number) o
number_is plan h None = refl
number_is plan h (Some x) = refl

pub readings_are : (plan : Plan) (w : Whole) (h : History) → WholeStandsFor plan w h
    → readings_of_whole plan w ≡ readings_at plan h
readings_are plan w h stands = λ i. record {
  known = λ link requester. known_there link requester i;
  numbered = λ link requester. numbered_there link requester i;
  waiting = λ port. length (stands.accesses.waiting port i);
  statuses = λ link. statuses_are plan h w.faces.list w.accesses.floors stands.faces.faces stands.accesses.floors
      link i;
}
  where
    known_there : (link requester : ℕ) → known_facts (with_requester plan w.faces link requester)
        ≡ site_due plan h (site_of_requester plan link requester)
    known_there link requester = ap known_facts (requester_is plan h w.faces stands.faces link requester)
        ∙ known_is plan h (site_of_requester plan link requester)

    numbered_there : (link requester : ℕ)
        → option_map (λ (y : Site × Face). y.0.number) (with_requester plan w.faces link requester)
        ≡ option_map (λ (x : Site). x.number) (site_of_requester plan link requester)
    numbered_there link requester =
        ap (option_map (λ (y : Site × Face). y.0.number)) (requester_is plan h w.faces stands.faces link requester)
        ∙ number_is plan h (site_of_requester plan link requester)

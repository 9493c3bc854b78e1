-- The machine of interfaces stands for the history: each equation, pair by pair.
use Rattle.std.proofs.Common.{◌≡◌, ℕ, ◌+◌, ◌==◌, ◌&&◌, ◌∷◌, Bool, true, false, List, [], map, Option, Some, None}
use Rattle.std.proofs.Common.{if◌then◌else◌, refl, ap, ◌∙◌}
use Rattle.std.specs.Prelude.{find}
use Rattle.spec_interfaces.specs.Terms.{list_any, option_and_then, option_map, option_map_or, Plan, Event}
use Rattle.spec_interfaces.specs.Terms.{InterfaceEvent, Verdict, History, binds}
use Rattle.spec_interfaces.specs.Sites.{Site, sites, site_at, site_of_requester}
use Rattle.spec_interfaces.specs.Views.{managed_view, number_in, bound_if, granted_to, grant_at}
use Rattle.spec_interfaces.specs.Devices.{devices, one_if, is_run, sets_t, peer_t, used_at}
use Rattle.spec_interfaces.specs.Due.{interface_verdict_due, interface_due, on_site, with_number}
use Rattle.machine_whole.specs.Interfaces.{Face, Faces, new_faces, find_face, with_each, next_face, gives_nonce}
use Rattle.machine_whole.specs.Interfaces.{is_true, faces_after, asked_due_of, answer_to, interface_answer}
use Rattle.machine_whole.specs.Interfaces.{with_requester, t_of, peer_t_of, grant_of}
use Rattle.machine_whole.specs.InterfacesStand.{ends_read, streams_at, face_at, FacesStandFor, FacesFollowHistory}

-- ---- lists

each_is : {A : Type 0} (g : Site → Face → A) (f : Site → Face) (xs : List Site) → with_each g xs (map f xs)
    ≡ map (λ x. g x (f x)) xs
each_is g f [] = refl
each_is g f (x ∷ xs) = ap (λ later. g x (f x) ∷ later) (each_is g f xs)

any_is : (p : Site → Bool) (xs : List Site) → list_any is_true (map p xs) ≡ list_any p xs
any_is p [] = refl
any_is p (x ∷ xs) = rw (any_is p xs) refl

found_is : (test : Site → Bool) (f : Site → Face) (xs : List Site) → find_face test xs (map f xs)
    ≡ option_map (λ x. (x, f x)) (find test xs)
found_is test f [] = refl
found_is test f (x ∷ xs) = by (test x) (found_is test f xs)
  where
    by : (b : Bool) → find_face test xs (map f xs) ≡ option_map (λ x. (x, f x)) (find test xs)
        → (if b then Some (x, f x) else find_face test xs (map f xs))
        ≡ option_map (λ x. (x, f x)) (if b then Some x else find test xs)
    by true rest = refl
    by false rest = rest

-- ---- one step

first_stands : (plan : Plan) → FacesStandFor plan (new_faces plan) []
unfolding devices managed_view
first_stands plan = record { faces = refl; used = refl }

-- by the list and the numbers that the history gives
list_after : (plan : Plan) (h : History) (e : Event) (w : Verdict)
    → with_each (next_face plan (streams_at h) (ends_read ((e, w) ∷ h)) (used_at plan h) e w) (sites plan)
    (map (face_at plan h) (sites plan)) ≡ map (face_at plan ((e, w) ∷ h)) (sites plan)
unfolding devices managed_view
list_after plan h e w = each_is (next_face plan (streams_at h) (ends_read ((e, w) ∷ h)) (used_at plan h) e w)
    (face_at plan h) (sites plan)

used_after : (plan : Plan) (h : History) (e : Event) (w : Verdict) (link : ℕ) → used_at plan h link + one_if
    (list_any is_true (with_each (gives_nonce plan (streams_at h) (used_at plan h) e w link) (sites plan)
    (map (face_at plan h) (sites plan))))
    ≡ used_at plan ((e, w) ∷ h) link
unfolding devices managed_view
used_after plan h e w link =
    let given = each_is (gives_nonce plan (streams_at h) (used_at plan h) e w link) (face_at plan h) (sites plan) in
    ap (λ (n : ℕ). used_at plan h link + n)
    (ap one_if (ap (list_any is_true) given ∙ any_is
    (λ x. gives_nonce plan (streams_at h) (used_at plan h) e w link x (face_at plan h x)) (sites plan)))

step_stands : (plan : Plan) (fs : Faces) (h : History) (e : Event) (w : Verdict) → FacesStandFor plan fs h
    → FacesStandFor plan (faces_after plan (streams_at h) (ends_read ((e, w) ∷ h)) e w fs) ((e, w) ∷ h)
step_stands plan fs h e w stands = record {
  faces = (λ i. with_each (next_face plan (streams_at h) (ends_read ((e, w) ∷ h)) (stands.used i) e w) (sites plan)
      (stands.faces i)) ∙ list_after plan h e w;
  used = λ i link. ((λ j. stands.used j link + one_if
      (list_any is_true (with_each (gives_nonce plan (streams_at h) (stands.used j) e w link) (sites plan)
      (stands.faces j)))) ∙ used_after plan h e w link) i;
}

-- ---- what is read

asked_is : (plan : Plan) (h : History) (e : InterfaceEvent) (o : Option Site)
    → asked_due_of plan (streams_at h) (used_at plan h) e (option_map (λ x. (x, face_at plan h x)) o)
    ≡ on_site (λ x. interface_due plan h x e) o
asked_is plan h e None = refl
asked_is plan h e (Some x) = refl

number_is : (plan : Plan) (h : History) (e : InterfaceEvent) (o : Option ℕ) (given : Verdict) (list : List Face)
    (used : ℕ → ℕ) → list ≡ map (face_at plan h) (sites plan) → used ≡ used_at plan h
    → answer_to plan (streams_at h) (record { list = list; used = used }) e o given ≡ with_number plan h e o given
number_is plan h e None given list used faces same = refl
number_is plan h e (Some i) given list used faces same =
    (λ j. asked_due_of plan (streams_at h) (same j) e (find_face (λ x. x.number == i) (sites plan) (faces j)))
    ∙ (ap (asked_due_of plan (streams_at h) (used_at plan h) e)
    (found_is (λ x. x.number == i) (face_at plan h) (sites plan)) ∙ asked_is plan h e (site_at plan i))

answer_is : (plan : Plan) (fs : Faces) (h : History) (e : InterfaceEvent) (given : Verdict) → FacesStandFor plan fs h
    → interface_answer plan (streams_at h) fs e given ≡ interface_verdict_due plan h e given
unfolding interface_verdict_due
answer_is plan fs h e given stands = number_is plan h e (number_in e) given fs.list fs.used stands.faces stands.used

requester_is : (plan : Plan) (h : History) (link requester : ℕ) (fs : Faces) → fs.list
    ≡ map (face_at plan h) (sites plan)
    → with_requester plan fs link requester ≡ option_map (λ x. (x, face_at plan h x))
    (site_of_requester plan link requester)
requester_is plan h link requester fs faces =
    ap (find_face (λ x. (x.link == link) && (x.plan.requester == requester)) (sites plan)) faces
    ∙ found_is (λ x. (x.link == link) && (x.plan.requester == requester)) (face_at plan h) (sites plan)

t_says : (plan : Plan) (h : History) (link stream : ℕ) (o : Option Site)
    → option_map_or (λ (y : Site × Face). is_run y.1.tdi.state && (y.0.plan.stream == stream))
    (option_map (λ x. (x, face_at plan h x)) o) false ≡ sets_t plan h link stream o
t_says plan h link stream None = refl
t_says plan h link stream (Some x) = refl

t_is : (plan : Plan) (fs : Faces) (h : History) (link stream : ℕ) (owner : Option ℕ) → FacesStandFor plan fs h
    → t_of plan fs link stream owner ≡ sets_t plan h link stream (option_and_then (site_of_requester plan link) owner)
t_is plan fs h link stream None stands = refl
t_is plan fs h link stream (Some rid) stands =
    ap (λ (o : Option (Site × Face)). option_map_or
    (λ (y : Site × Face). is_run y.1.tdi.state && (y.0.plan.stream == stream)) o false)
    (requester_is plan h link rid fs stands.faces)
    ∙ t_says plan h link stream (site_of_requester plan link rid)

peer_says : (plan : Plan) (h : History) (stream : ℕ) (o : Option Site)
    → option_map_or (λ (y : Site × Face). is_run y.1.tdi.state && binds stream y.1.tdi.bindings)
    (option_map (λ x. (x, face_at plan h x)) o) false ≡ peer_t plan h o stream
peer_says plan h stream None = refl
peer_says plan h stream (Some x) = refl

peer_is : (plan : Plan) (fs : Faces) (h : History) (link stream : ℕ) (owner : Option ℕ) → FacesStandFor plan fs h
    → peer_t_of plan fs link stream owner ≡ peer_t plan h (option_and_then (site_of_requester plan link) owner) stream
peer_is plan fs h link stream None stands = refl
peer_is plan fs h link stream (Some rid) stands =
    ap (λ (o : Option (Site × Face)). option_map_or
    (λ (y : Site × Face). is_run y.1.tdi.state && binds stream y.1.tdi.bindings) o false)
    (requester_is plan h link rid fs stands.faces)
    ∙ peer_says plan h stream (site_of_requester plan link rid)

grant_says : (plan : Plan) (h : History) (o : Option Site)
    → option_and_then (λ (y : Site × Face). bound_if y.1.managed.view y.0.plan.stream y.1.managed.floor)
    (option_map (λ x. (x, face_at plan h x)) o) ≡ granted_to h o
grant_says plan h None = refl
grant_says plan h (Some x) = refl

grant_is : (plan : Plan) (fs : Faces) (h : History) (link requester : ℕ) → FacesStandFor plan fs h
    → grant_of plan fs link requester ≡ grant_at plan h link requester
grant_is plan fs h link requester stands =
    ap (option_and_then (λ (y : Site × Face). bound_if y.1.managed.view y.0.plan.stream y.1.managed.floor))
    (requester_is plan h link requester fs stands.faces)
    ∙ grant_says plan h (site_of_requester plan link requester)

pub faces_stand : FacesFollowHistory
faces_stand = record
    { first = first_stands; step = step_stands; answer = answer_is; t = t_is; peer = peer_is; grant = grant_is }

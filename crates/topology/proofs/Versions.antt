-- What is read of a table in its version is read of it in version 2.
use Rattle.std.proofs.Common.{◌≡◌, refl, ◌∙◌, ℕ, ◌==◌, ◌||◌, Bool, true, false, List, []}
use Rattle.std.proofs.Common.{◌∷◌, Option, Some, None, Ok, codes}
use Rattle.std.specs.Str.{bytes_eq}
use Rattle.toml.specs.Data.{Members, get_member}
use Rattle.ide_types.specs.declared.stream.StreamPlan.{StreamPlan}
use Rattle.toml_walk.specs.Values.{key_bytes}
use Rattle.toml_walk.specs.Paths.{Path}
use Rattle.toml_walk.specs.Walk.{Text, is_known, key_names, unknown_in, refused_key, only_known, required_value}
use Rattle.toml_walk.specs.Walk.{optional, table, list, count_between, any_number}
use Rattle.topology.specs.Tables.{link_names, interface_names, interface_keys, link_keys, stream_keys}
use Rattle.topology.proofs.Carries.{Carries, Same, Extends, next, then, itself, list_extends, table_extends}
use Rattle.topology.proofs.Carries.{found_extends}

one_known : (b : Bool) (known more : List Text) (k : Text) (ks : List Text) → is_known known k ≡ b
    → (is_known known k ≡ true → is_known more k ≡ true) → (unknown_in known ks ≡ None → unknown_in more ks ≡ None)
    → unknown_in known (k ∷ ks) ≡ None → unknown_in more (k ∷ ks) ≡ None
one_known true known more k ks is w later e =
    let there : is_known more k ≡ true = w is in
    let rest : unknown_in known ks ≡ None = rw is at e in
    rw there (later rest)
one_known false known more k ks is w later e =
    let some : Some k ≡ None = rw is at e in
    cc

-- more keys are known
fewer_unknown : (known more keys : List Text) → ((k : Text) → is_known known k ≡ true → is_known more k ≡ true)
    → unknown_in known keys ≡ None → unknown_in more keys ≡ None
fewer_unknown known more [] w e = refl
fewer_unknown known more (k ∷ ks) w e = one_known (is_known known k) known more k ks refl (w k)
    (fewer_unknown known more ks w) e

pub none_refused : (t : Path) (o : Option Text) → refused_key t o ≡ Ok tt → o ≡ None
none_refused t None e = refl
none_refused t (Some k) e = cc

pub more_known : (known more : List Text) (t : Path) (ms : Members)
    → ((k : Text) → is_known known k ≡ true → is_known more k ≡ true)
    → Carries Same (only_known t known ms) (only_known t more ms)
more_known known more t ms w = record {
  given = λ u e.
      let none = none_refused t (unknown_in known (key_names ms)) (e ∙ refl) in
      (tt, rw (fewer_unknown known more (key_names ms) w none) refl, refl);
}

or_right : (a b : Bool) → b ≡ true → (a || b) ≡ true
or_right true b h = refl
or_right false b h = h

both_known : (b : Bool) (version : ℕ) (k : Text) → (version == 2) ≡ b → is_known (interface_names version) k ≡ true
    → is_known (interface_names 2) k ≡ true
both_known true version k is h = rw is at h
both_known false version k is h =
    or_right (bytes_eq (codes "pasid") k) _ (or_right (bytes_eq (codes "ats") k) _
    (or_right (bytes_eq (codes "reads") k) _ (rw is at h)))

pub interface_extends : (version : ℕ) (t : Path) (ms : Members)
    → Carries Same (interface_keys version t ms) (interface_keys 2 t ms)
unfolding interface_keys
interface_extends version t ms =
    next Same Same (only_known t (interface_names version) ms) (only_known t (interface_names 2) ms) _ _
    (more_known (interface_names version) (interface_names 2) t ms (λ k. both_known (version == 2) version k refl))
    (λ u v e.
    itself _)

both_link_known : (b : Bool) (version : ℕ) (k : Text) → (version == 2) ≡ b → is_known (link_names version) k ≡ true
    → is_known (link_names 2) k ≡ true
both_link_known true version k is h = rw is at h
both_link_known false version k is h = or_right _ _ (or_right _ _ (rw is at h))

pub link_extends : (version : ℕ) (t : Path) (ms : Members) → Carries Same (link_keys version t ms) (link_keys 2 t ms)
unfolding link_keys
link_extends version t ms =
    next Same Same (only_known t (link_names version) ms) (only_known t (link_names 2) ms) _ _
    (more_known (link_names version) (link_names 2) t ms (λ k. both_link_known (version == 2) version k refl))
    (λ u v e.
    then {A = List (List ℕ)} Same (optional t ms (codes "nonces") [] (list (count_between 0 1024) key_bytes)) _ _
    (λ nonces.
    then {A = List StreamPlan} Same (required_value t ms (codes "stream")
    (list (count_between 1 16) (table stream_keys))) _ _
    (λ streams.
    next Same Same (optional t ms (codes "interface") [] (list any_number (table (interface_keys version))))
    (optional t ms (codes "interface") [] (list any_number (table (interface_keys 2)))) _ _
    (found_extends _ [] _ _ (get_member (codes "interface") ms)
    (list_extends any_number _ _ (table_extends _ _ (interface_extends version)))) (λ xs ys e.
    rw e (itself _)))))

pub links_extend : (version : ℕ) → Extends (list (count_between 1 8) (table (link_keys version)))
    (list (count_between 1 8) (table (link_keys 2)))
links_extend version = list_extends (count_between 1 8) _ _ (table_extends _ _ (link_extends version))

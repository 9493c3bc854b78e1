-- The plan of the table with `version` 2.
use Rattle.std.proofs.Common.{◌≡◌, refl, sym, ◌∙◌, ℕ, ◌==◌, ◌||◌, ◌≤◌, nat_le, pos, Bool, true, false, [], ◌∷◌}
use Rattle.std.proofs.Common.{Option, Some, None, Ok, codes, arith}
use Rattle.std.specs.Ordering.{nat_cmp, is_eq}
use Rattle.std.specs.Cmp.Lexicographic.{slice_cmp}
use Rattle.std.specs.declared.cmp.Ordering.TheVariants.{Equal}
use Rattle.std.specs.Str.{bytes_eq}
use Rattle.std.proofs.lemmas.Bool.{leb-true, le-leb, true≢false}
use Rattle.std.proofs.lemmas.Map.Text.{is_eq-slice_cmp}
use Rattle.std.proofs.lemmas.Slice.Eq.{bytes_eq-Decides}
use Rattle.toml.specs.Data.{Data, integer, Members, get_member}
use Rattle.ide_types.specs.declared.plan.Plan.{Plan}
use Rattle.ide_types.specs.Plans.{interface_limit}
use Rattle.toml_walk.specs.declared.fault.KeyFault.TheVariants.{Missing}
use Rattle.toml_walk.specs.Fault.{◌>>=◌, refused, or_fault}
use Rattle.toml_walk.specs.Bounds.{within}
use Rattle.toml_walk.specs.Values.{number, key_bytes}
use Rattle.toml_walk.specs.Paths.{Path, Key}
use Rattle.toml_walk.specs.Walk.{Text, Reader, is_known, only_known, required_value, optional, table, list}
use Rattle.toml_walk.specs.Walk.{count_between}
use Rattle.topology.specs.declared.draft.PlanDraft.{PlanDraft}
use Rattle.topology.specs.Tables.{is_newer, top_names, link_keys, region_keys, peer_keys, top_keys}
use Rattle.topology.specs.Rules.{in_sixes, no_clash, each_link, at_most, interface_count, rules}
use Rattle.topology.specs.Meaning.{drafted_plan, table_plan}
use Rattle.topology.specs.Migration.{migrated_members, in_version_2}
use Rattle.topology.proofs.Carries.{Carries, Same, Extends, gives, next, then, itself}
use Rattle.topology.proofs.Versions.{more_known, links_extend}
use Rattle.topology.proofs.Migrated.{Apart, other_value, own_value, same_unknown}

pub equal_texts : (a b : Text) → slice_cmp nat_cmp a b ≡ Equal → a ≡ b
equal_texts a b e =
    let test : is_eq (slice_cmp nat_cmp a b) ≡ true = rw e refl in
    (bytes_eq-Decides a b).0 (sym (is_eq-slice_cmp a b) ∙ test)

apart : (name : Text) → bytes_eq name (codes "version") ≡ false → Apart name (codes "version")
apart name other key here there =
    let one : codes "version" ≡ key = equal_texts (codes "version") key here in
    let two : name ≡ key = equal_texts name key there in
    let same : bytes_eq name (codes "version") ≡ true = (bytes_eq-Decides name (codes "version")).1 (two ∙ sym one) in
    true≢false (sym same ∙ other)

value_is : (name : Text) (ms : Members) → bytes_eq name (codes "version") ≡ false
    → get_member name (migrated_members ms) ≡ get_member name ms
value_is name ms other = other_value name (codes "version") (integer (pos 2)) ms refl (apart name other)

-- a key's value is read as before
optional_is : {A : Type 0} (name : Text) (default : A) (read : Reader A) (ms : Members)
    → bytes_eq name (codes "version") ≡ false → Carries Same (optional [] ms name default read)
    (optional [] (migrated_members ms) name default read)
optional_is name default read ms other = rw (value_is name ms other) (itself _)

from_value : {A : Type 0} (path : Path) (read again : Reader A) (o : Option Data) → Extends read again
    → Carries Same (or_fault o (refused path Missing) >>= read path) (or_fault o (refused path Missing) >>= again path)
from_value path read again None h = record { given = λ x e. absurd cc }
from_value path read again (Some d) h = h path d

required_is : {A : Type 0} (name : Text) (read again : Reader A) (ms : Members) → bytes_eq name (codes "version")
    ≡ false → Extends read again → Carries Same (required_value [] ms name read)
    (required_value [] (migrated_members ms) name again)
required_is name read again ms other h = rw (value_is name ms other) (from_value _ read again (get_member name ms) h)

newer_is : (ms : Members) → is_newer (migrated_members ms) ≡ true
newer_is ms = rw (own_value (codes "version") (integer (pos 2)) ms refl) refl

top_known : (b : Bool) (k : Text) → is_known (top_names b) k ≡ true → is_known (top_names true) k ≡ true
top_known true k h = h
top_known false k h = or_right _ _ h
  where
    or_right : (a b : Bool) → b ≡ true → (a || b) ≡ true
    or_right true b h = refl
    or_right false b h = h

known_is : (ms : Members) → Carries Same (only_known [] (top_names (is_newer ms)) ms)
    (only_known [] (top_names (is_newer (migrated_members ms))) (migrated_members ms))
known_is ms = rw (newer_is ms, same_unknown (top_names true) (codes "version") (integer (pos 2)) ms refl)
    (more_known (top_names (is_newer ms)) (top_names true) [] ms (top_known (is_newer ms)))

version_is : (ms : Members) → Carries (λ (v w : ℕ). w ≡ 2)
    (required_value [] ms (codes "version") (number (within 1 2)))
    (required_value [] (migrated_members ms) (codes "version") (number (within 1 2)))
version_is ms = record { given = λ v e. (2, rw (own_value (codes "version") (integer (pos 2)) ms refl) refl, refl) }

abbrev pub InVersion2 : PlanDraft → PlanDraft → Type 0
InVersion2 d e = e ≡ record d { version = 2 }

top_is : (ms : Members) → Carries InVersion2 (top_keys [] ms) (top_keys [] (migrated_members ms))
unfolding top_keys
top_is ms =
    next Same InVersion2 (only_known [] (top_names (is_newer ms)) ms)
    (only_known [] (top_names (is_newer (migrated_members ms))) (migrated_members ms)) _ _ (known_is ms)
    (λ _ _ _.
    next (λ (v w : ℕ). w ≡ 2) InVersion2 (required_value [] ms (codes "version") (number (within 1 2)))
    (required_value [] (migrated_members ms) (codes "version") (number (within 1 2))) _ _ (version_is ms) (λ v w two.
    next Same InVersion2 (optional [] ms (codes "portion") 64 (number (within 16 65535)))
    (optional [] (migrated_members ms) (codes "portion") 64 (number (within 16 65535))) _ _
    (optional_is (codes "portion") 64 (number (within 16 65535)) ms refl) (λ p q portion.
    next Same InVersion2 (optional [] ms (codes "units_per_key") 4294967296 (number (within 1 4294967296)))
    (optional [] (migrated_members ms) (codes "units_per_key") 4294967296 (number (within 1 4294967296))) _ _
    (optional_is (codes "units_per_key") 4294967296 (number (within 1 4294967296)) ms refl) (λ u w2 units.
    next Same InVersion2 (required_value [] ms (codes "pool") (list (count_between 6 6144) key_bytes))
    (required_value [] (migrated_members ms) (codes "pool") (list (count_between 6 6144) key_bytes)) _ _
    (required_is (codes "pool") (list (count_between 6 6144) key_bytes) (list (count_between 6 6144) key_bytes) ms refl
    (λ path d. itself _)) (λ k l pool.
    next Same InVersion2 (required_value [] ms (codes "link") (list (count_between 1 8) (table (link_keys v))))
    (required_value [] (migrated_members ms) (codes "link") (list (count_between 1 8) (table (link_keys w)))) _ _
    (rw two (required_is (codes "link") (list (count_between 1 8) (table (link_keys v)))
    (list (count_between 1 8) (table (link_keys 2))) ms refl (links_extend v))) (λ x y links.
    next Same InVersion2 (optional [] ms (codes "memory") [] (list (count_between 0 16) (table region_keys)))
    (optional [] (migrated_members ms) (codes "memory") [] (list (count_between 0 16) (table region_keys))) _ _
    (optional_is (codes "memory") [] (list (count_between 0 16) (table region_keys)) ms refl) (λ r s memory.
    next Same InVersion2 (optional [] ms (codes "p2p") [] (list (count_between 0 8) (table peer_keys)))
    (optional [] (migrated_members ms) (codes "p2p") [] (list (count_between 0 8) (table peer_keys))) _ _
    (optional_is (codes "p2p") [] (list (count_between 0 8) (table peer_keys)) ms refl) (λ x2 y2 peers.
    gives InVersion2 _ _ (rw (two, portion, units, pool, links, memory, peers) refl)))))))))

-- what meets a limit meets a greater one
limit_is : (least most : ℕ) (path : Path) (n : ℕ) → least ≤ most
    → Carries Same (at_most least path n) (at_most most path n)
limit_is least most path n le = go (nat_le n least) refl
  where
    go : (b : Bool) → nat_le n least ≡ b → Carries Same (at_most least path n) (at_most most path n)
    go true is =
        let small : n ≤ least = leb-true n least is in
        let there : nat_le n most ≡ true = le-leb n most (omega (arith, small, le)) in
        rw (is, there) (itself _)
    go false is = rw is (record { given = λ x e. absurd cc })

limits : (v : ℕ) → interface_limit v ≤ 64
limits v = go (v == 2) refl
  where
    go : (b : Bool) → (v == 2) ≡ b → interface_limit v ≤ 64
    go true is = rw is (omega arith)
    go false is = rw is (omega arith)

rules_are : (d : PlanDraft) → Carries Same (rules d) (rules (record d { version = 2 }))
unfolding rules
rules_are d =
    then {A = Unit {0}} Same (in_sixes d.pool) _ _ (λ _.
    then {A = Unit {0}} Same (no_clash (Key (codes "pool") ∷ []) bytes_eq d.pool) _ _ (λ _.
    then {A = Unit {0}} Same (each_link 0 d.links) _ _ (λ _.
    next Same Same (at_most (interface_limit d.version) (Key (codes "interface") ∷ []) (interface_count d.links))
    (at_most 64 (Key (codes "interface") ∷ []) (interface_count d.links)) _ _
    (limit_is (interface_limit d.version) 64 (Key (codes "interface") ∷ []) (interface_count d.links)
    (limits d.version)) (λ _ _ _.
    itself _))))

abbrev pub PlanInVersion2 : Plan → Plan → Type 0
PlanInVersion2 p q = q ≡ in_version_2 p

pub plan_is : (ms : Members) → Carries PlanInVersion2 (table_plan ms) (table_plan (migrated_members ms))
plan_is ms =
    next InVersion2 PlanInVersion2 (top_keys [] ms) (top_keys [] (migrated_members ms)) _ _ (top_is ms) (λ d e same.
    rw same (next Same PlanInVersion2 (rules d) (rules (record d { version = 2 })) (λ _. Ok (drafted_plan d))
    (λ _. Ok (drafted_plan (record d { version = 2 }))) (rules_are d) (λ _ _ _.
    gives PlanInVersion2 (drafted_plan d) (drafted_plan (record d { version = 2 })) refl)))

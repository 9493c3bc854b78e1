-- What stands in a table into which a value was inserted, and what its text reads to.
use Rattle.std.proofs.Common.{◌≡◌, refl, ◌∙◌, ◌≤◌, pos, List, [], ◌∷◌, Some, Result, Ok, Err}
use Rattle.std.proofs.Common.{codes, String, string_bytes, arith, true}
use Rattle.std.specs.Ordering.{match_ordering}
use Rattle.std.specs.String.{string_cmp}
use Rattle.std.specs.BTreeMap.{insert_entry}
use Rattle.std.specs.declared.cmp.Ordering.{Ordering}
use Rattle.std.specs.declared.cmp.Ordering.TheVariants.{Less, Equal, Greater}
use Rattle.std.specs.declared.alloc.Global.{Global}
use Rattle.toml.specs.Data.{integer, Members, members_depth, members_are_sorted}
use Rattle.toml.specs.View.{view, members_view}
use Rattle.toml.specs.declared.value.Value.{Value}
use Rattle.toml.specs.declared.value.Value.TheVariants.{Integer}
use Rattle.toml.proofs.Views.{Entry, view-Integer}
use Rattle.std.specs.Prelude.{IfOk}
use Rattle.ide_types.specs.declared.bytes.Bytes.{Bytes}
use Rattle.ide_types.specs.declared.plan.Plan.{Plan}
use Rattle.toml_walk.specs.Bounds.{within}
use Rattle.toml_walk.specs.Values.{number}
use Rattle.toml_walk.specs.Walk.{Text, required_value}
use Rattle.topology.specs.Meaning.{document, table_plan}
use Rattle.topology.specs.Migration.{IsMigrated, MigText, with_member, migrated_members}
use Rattle.topology.proofs.Migrated.{own_value}
use Rattle.topology.proofs.MigratedPlan.{plan_is}
use Rattle.topology.proofs.Depths.{plan_deep}

inserted_at : (o : Ordering) (k : String Global) (v : Value) (e : Entry) (es : List Entry) → o ≡ string_cmp k e.0
    → members_view (insert_entry string_cmp es k v) ≡ with_member (string_bytes k) (view v) (members_view es)
    → members_view (match_ordering o ((k, v) ∷ e ∷ es) ((e.0, v) ∷ es) (e ∷ insert_entry string_cmp es k v))
    ≡ with_member (string_bytes k) (view v) (members_view (e ∷ es))
inserted_at Less k v e es same ih = rw (← same) refl
inserted_at Equal k v e es same ih = rw (← same) refl
inserted_at Greater k v e es same ih = rw (← same, ih) refl

pub inserted : (k : String Global) (v : Value) (es : List Entry) → members_view (insert_entry string_cmp es k v)
    ≡ with_member (string_bytes k) (view v) (members_view es)
inserted k v [] = refl
inserted k v (e ∷ es) = inserted_at (string_cmp k e.0) k v e es refl (inserted k v es)

-- the version of a table in version 2
version_read : (ms : Members) → required_value [] (migrated_members ms) (codes "version") (number (within 1 2)) ≡ Ok 2
version_read ms = rw (own_value (codes "version") (integer (pos 2)) ms refl) refl

-- a topology in version 2 is not deep
pub migrated_deep : (ms : Members) → members_are_sorted (migrated_members ms) ≡ true
    → (p : Plan) × (table_plan ms ≡ Ok p) → members_depth (migrated_members ms) ≤ 80
migrated_deep ms sorted means =
    let there = (plan_is ms).given means.0 means.1 in
    let few = plan_deep (migrated_members ms) there.0 sorted (version_read ms) there.1 in
    omega (arith, few)

pub set_is : (k : String Global) (es new : List Entry) → new ≡ insert_entry string_cmp es k (Integer (pos 2))
    → string_bytes k ≡ codes "version" → members_view new ≡ migrated_members (members_view es)
set_is k es new is name =
    let there : members_view (insert_entry string_cmp es k (Integer (pos 2)))
    ≡ with_member (string_bytes k) (view (Integer (pos 2))) (members_view es) = inserted k (Integer (pos 2)) es in
    rw is (there ∙ rw (view-Integer (pos 2), name) refl)

-- what was written, and that it is the text of a topology in version 2
pub migrated_of : {E : Type 0} (bytes : Text) (ms : Members) (p : Plan) (r : Result Bytes E) → document bytes ≡ Some ms
    → table_plan ms ≡ Ok p → IfOk r (MigText ms) → IfOk r (IsMigrated bytes)
migrated_of bytes ms p (Ok text) is means reads = record
    { table = ms; read = is; plan = p; means = means; migrates = reads }
migrated_of bytes ms p (Err e) is means reads = tt

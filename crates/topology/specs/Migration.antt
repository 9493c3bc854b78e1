-- The topology of version 2 that a topology means.
use Rattle.std.specs.Prelude.{◌≡◌, pos, Some, Ok, codes}
use Rattle.std.specs.Ordering.{nat_cmp, match_ordering}
use Rattle.std.specs.Cmp.Lexicographic.{slice_cmp}
use Rattle.toml.specs.Data.{Data, integer, Members, no_members, member}
use Rattle.ide_types.specs.declared.plan.Plan.{Plan}
use Rattle.toml_walk.specs.Walk.{Text}
use Rattle.topology.specs.Meaning.{document, table_plan}

-- the members with this value at a key: in place of another value there, or before the first greater key
abbrev pub with_member : Text → Data → Members → Members
with_member key d no_members = member key d no_members
with_member key d (member other e ms) = match_ordering (slice_cmp nat_cmp key other) (member key d (member other e ms))
    (member other d ms) (member other e (with_member key d ms))

-- the table with `version` 2
abbrev pub migrated_members : Members → Members
migrated_members ms = with_member (codes "version") (integer (pos 2)) ms

-- the text reads to the table with `version` 2
abbrev pub MigText : Members → Text → Type 0
MigText ms text = document text ≡ Some (migrated_members ms)

-- the plan, version aside
abbrev pub in_version_2 : Plan → Plan
in_version_2 p = record p { version = 2 }

-- the bytes are a topology, and the text is that topology in version 2
pub record IsMigrated (bytes text : Text) : Type 0 where
  pub table : Members
  pub read : document bytes ≡ Some table
  pub plan : Plan
  pub means : table_plan table ≡ Ok plan
  pub migrates : MigText table text

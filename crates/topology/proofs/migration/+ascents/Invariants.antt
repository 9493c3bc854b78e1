use Rattle.std.proofs.Common.{◌≡◌, true, ◌++◌, List, take}
use Rattle.toml.specs.Data.{items_are_sorted}
use Rattle.toml.specs.View.{items_view, members_view}
use Rattle.toml.proofs.Views.{Entry, values_sorted}
use Rattle.topology.proofs.migration.+ascents.Given as goal

abbrev pub invariant-ascend_in_items-items : goal.invariant-ascend_in_items-items
invariant-ascend_in_items-items l = items_are_sorted (items_view (take l.item-index l.item-items)) ≡ true

abbrev pub invariant-ascend_in_members-members : goal.invariant-ascend_in_members-members
invariant-ascend_in_members-members l =
    (goal.iterator-ascend_in_members-members).can_next l._key-iterator ×
    (goal.iterator-ascend_in_members-members).is_finite l._key-iterator ×
    (done : List Entry) × (l.table.entries ≡ done ++ l._key-iterator) × (values_sorted (members_view done) ≡ true)

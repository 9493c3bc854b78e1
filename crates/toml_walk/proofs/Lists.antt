-- Lists of a table as lists, and reading them one element after the other.
use Rattle.std.proofs.Common.{◌≡◌, ◌+◌, List, [], ◌∷◌, ◌++◌, Result, Ok, refl, ap, map, String, string_bytes}
use Rattle.toml.specs.Data.{Data}
use Rattle.toml.specs.View.{view, items_view, items_of, members_view, table_view}
use Rattle.std.specs.BTreeMap.{BTreeMap, keys}
use Rattle.std.specs.declared.alloc.Global.{Global}
use Rattle.toml.specs.declared.value.Value.{Value}
use Rattle.toml_walk.specs.declared.fault.PlanFault.{PlanFault}
use Rattle.toml_walk.specs.Fault.{◌>>=◌}
use Rattle.toml_walk.specs.Walk.{Text, data_list, key_names}

pub list_of_items : (ds : List Data) → data_list (items_of ds) ≡ ds
list_of_items [] = refl
list_of_items (d ∷ ds) = ap (λ (xs : List Data). d ∷ xs) (list_of_items ds)

pub list_of_view : (vs : List Value) → data_list (items_view vs) ≡ map view vs
list_of_view vs = list_of_items (map view vs)

keys_of_members : (es : List (String Global × Value)) → key_names (members_view es)
    ≡ map string_bytes (map (λ e. e.0) es)
keys_of_members [] = refl
keys_of_members (e ∷ es) = ap (λ (ks : List Text). string_bytes e.0 ∷ ks) (keys_of_members es)

pub keys_of_view : (m : BTreeMap (String Global) Value) → key_names (table_view m) ≡ map string_bytes (keys m)
keys_of_view m = keys_of_members m.entries

module _ {A : Type 0} where
  -- what was read before, and what is still read
  abbrev pub with_front : List A → Result (List A) PlanFault → Result (List A) PlanFault
  with_front front read = read >>= λ xs. Ok (front ++ xs)

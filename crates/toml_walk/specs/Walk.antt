-- Walking through a table key by key, over toml's own view of it.
use Rattle.std.specs.Prelude.{◌≡◌, ◌⊎◌, ◌+◌, ℕ, Bool, true, false, not, ◌&&◌, ◌||◌, nat_lt, All, Contains, List, []}
use Rattle.std.specs.Prelude.{◌∷◌, length, Option, Some, None, option_map, Result, Ok, Err, if◌then◌else◌}
use Rattle.std.specs.Prelude.{pos}
use Rattle.std.specs.Str.{bytes_eq}
use Rattle.std.specs.List.{list_any}
use Rattle.std.specs.List.Sorted.{IsStrictlySortedBy}
use Rattle.std.specs.Cmp.Lexicographic.{slice_cmp}
use Rattle.std.specs.Ordering.{nat_cmp}
use Rattle.std.specs.declared.cmp.Ordering.TheVariants.{Less}
use Rattle.toml.specs.Data.{Data, Items, no_items, item, Members, no_members, member, get_member, as_array, as_table}
use Rattle.toml_walk.specs.declared.fault.PlanFault.{PlanFault}
use Rattle.toml_walk.specs.declared.fault.KeyFault.TheVariants.{Missing, Kind, Range, Unknown, Limit}
use Rattle.toml_walk.specs.declared.list.CountRange.{CountRange}
use Rattle.toml_walk.specs.Fault.{◌>>=◌, refused, or_fault}
use Rattle.toml_walk.specs.Paths.{Path, Key, Place}
pub use Rattle.ide_types.specs.{Text}

-- what the value at a path means, or its first fault
abbrev pub Reader : Type 0 → Type 0
Reader A = Path → Data → Result A PlanFault

abbrev pub key_names : Members → List Text
key_names no_members = []
key_names (member key d ms) = key ∷ key_names ms

abbrev pub is_known : List Text → Text → Bool
is_known known key = list_any (λ name. bytes_eq name key) known

-- the keys ascend in byte order
abbrev pub Ascend : List Text → Type 0
Ascend keys = IsStrictlySortedBy (slice_cmp nat_cmp) keys

-- the key is none of the known ones, and each other such key comes after it in byte order
pub record IsLeastUnknown (known keys : List Text) (key : Text) : Type 0 where
  pub there : Contains keys key
  pub unknown : is_known known key ≡ false
  pub least : All (λ k. is_known known k ≡ false → (k ≡ key) ⊎ (slice_cmp nat_cmp key k ≡ Less)) keys

-- the first key that is none of the known ones; the keys of a table ascend, so it is the least
abbrev pub unknown_in : List Text → List Text → Option Text
unknown_in known [] = None
unknown_in known (key ∷ keys) = if is_known known key then unknown_in known keys else Some key

abbrev pub refused_key : Path → Option Text → Result (Unit {0}) PlanFault
refused_key table None = Ok tt
refused_key table (Some key) = Err (refused (Key key ∷ table) Unknown)

-- the table at the path has known keys alone
abbrev pub only_known : Path → List Text → Members → Result (Unit {0}) PlanFault
only_known table known ms = refused_key table (unknown_in known (key_names ms))

-- the value of a key that has to be there
abbrev pub required_value : {A : Type 0} → Path → Members → Text → Reader A → Result A PlanFault
required_value table ms name read = do
  d ← or_fault (get_member name ms) (refused (Key name ∷ table) Missing)
  read (Key name ∷ table) d

abbrev pub found_or : {A : Type 0} → Path → A → Reader A → Option Data → Result A PlanFault
found_or path default read None = Ok default
found_or path default read (Some d) = read path d

-- the value of a key, or its default if it is not there
abbrev pub optional : {A : Type 0} → Path → Members → Text → A → Reader A → Result A PlanFault
optional table ms name default read = found_or (Key name ∷ table) default read (get_member name ms)

-- a value that is there, which may be without a default
abbrev pub given_value : {A : Type 0} → Reader A → Reader (Option A)
given_value read path d = do
  x ← read path d
  Ok (Some x)

-- a table, by how its keys are read
abbrev pub table : {A : Type 0} → (Path → Members → Result A PlanFault) → Reader A
table keys path d = do
  ms ← or_fault (as_table d) (refused path Kind)
  keys path ms

abbrev pub data_list : Items → List Data
data_list no_items = []
data_list (item d ds) = d ∷ data_list ds

-- the elements of a list
abbrev pub values_of : Reader (List Data)
values_of path d = or_fault (option_map data_list (as_array d)) (refused path Kind)

abbrev pub is_past : Option ℕ → ℕ → Bool
is_past None n = false
is_past (Some most) n = nat_lt most n

-- a list may have so many elements: more are Limit; fewer are Range, and so is any at all if none are allowed
abbrev pub within_span : CountRange → Path → List Data → Result (List Data) PlanFault
within_span span path ds =
    if is_past span.most (length ds) then Err (refused path Limit)
    else if nat_lt (length ds) span.least || (not span.allowed && nat_lt 0 (length ds))
    then Err (refused path (Range (pos (length ds))))
    else Ok ds

-- each element from place i on, up to the first fault
abbrev pub each : {A : Type 0} → Reader A → Path → ℕ → List Data → Result (List A) PlanFault
each one path i [] = Ok []
each one path i (d ∷ ds) = do
  x ← one (Place i ∷ path) d
  xs ← each one path (i + 1) ds
  Ok (x ∷ xs)

-- a list of so many elements, by how an element is read
abbrev pub list : {A : Type 0} → CountRange → Reader A → Reader (List A)
list span one path d = do
  ds ← values_of path d
  counted_ds ← within_span span path ds
  each one path 0 counted_ds

-- so many elements, or any number from the least on
abbrev pub count_between : ℕ → ℕ → CountRange
count_between least most = record { least = least; most = Some most; allowed = true }

abbrev pub any_number : CountRange
any_number = record { least = 0; most = None; allowed = true }

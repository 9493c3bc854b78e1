-- The paths of keys: from the table at the top to a key of a table or a place in a list.
use Rattle.std.specs.Prelude.{ℕ, List, [], ◌∷◌, ◌++◌, codes}
use Rattle.std.specs.Fmt.{decimal}
use Rattle.toml_walk.specs.Shown.{spelled_key}
use Rattle.ide_types.specs.{Text}

-- a key of a table, or a place in a list from 0
pub data Step : Type 0 where
  Key : (name : List ℕ) → Step
  Place : (i : ℕ) → Step

-- the steps from the table at the top, the last first
abbrev pub Path : Type 0
Path = List Step

-- what stands between a table and its key: nothing at the top, and a dot in any other table
abbrev pub key_dot : Path → Text
key_dot [] = []
key_dot (step ∷ table) = codes "."

-- keys, each as TOML writes it, and places in decimal, joined by dots
unfoldable pub path_text : Path → Text
path_text [] = []
path_text (Key name ∷ table) = path_text table ++ key_dot table ++ spelled_key name
path_text (Place i ∷ list) = path_text list ++ codes "." ++ decimal i

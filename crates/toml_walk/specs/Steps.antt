-- The steps of a path that the code has.
use Rattle.std.specs.Prelude.{[], ◌∷◌}
use Rattle.toml_walk.specs.declared.path.LastStep.{LastStep}
use Rattle.toml_walk.specs.declared.path.LastStep.TheVariants as last
use Rattle.toml_walk.specs.Paths.{Path, Key, Place}

abbrev pub steps : LastStep → Path
steps last.None = []
steps (last.Key table name) = Key name.now ∷ table.now
steps (last.Place list i) = Place i ∷ list.now

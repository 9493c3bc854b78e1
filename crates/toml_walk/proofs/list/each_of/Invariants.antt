use Rattle.std.proofs.Common.{◌≡◌, map, drop}
use Rattle.toml.specs.View.{view}
use Rattle.toml_walk.specs.Walk.{each}
use Rattle.toml_walk.proofs.Lists.{with_front}
use Rattle.toml_walk.proofs.list.each_of.Given as goal

abbrev pub invariant-loop-i : goal.invariant-loop-i
invariant-loop-i g l = with_front l.all.items
    (each (g.R.Reader.reads l.reader) l.path l.i (map view (drop l.i l.values)))
    ≡ each (g.R.Reader.reads l.reader) l.path 0 (map view l.values)

use Rattle.std.proofs.Common.{◌≡◌, drop}
use Rattle.std.specs.Prelude.{find}
use Rattle.ide_types.specs.Plans.{lists_class}
use Rattle.topology.proofs.rules.first_taken.Given as goal

abbrev pub invariant-loop-class : goal.invariant-loop-class
invariant-loop-class l =
    find (lists_class l.streams) (drop l.class-index l.classes) ≡ find (lists_class l.streams) l.classes

use Rattle.std.proofs.Common.{◌≡◌, eqb, false, take}
use Rattle.std.specs.List.{list_any}
use Rattle.tlp_layout.proofs.choosing.lists.Given as goal

abbrev pub invariant-loop-class : goal.invariant-loop-class
invariant-loop-class l = list_any (λ c. eqb c l.tc) (take l.class-index l.classes) ≡ false

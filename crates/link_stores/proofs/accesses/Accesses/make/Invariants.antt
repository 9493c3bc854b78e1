use Rattle.std.proofs.Common.{◌≡◌, take}
use Rattle.link_stores.specs.Accesses.{new_accesses}
use Rattle.link_stores.proofs.accesses.Accesses.make.Given as goal

abbrev pub invariant-loop-link : goal.invariant-loop-link
invariant-loop-link l = l.links.items ≡ new_accesses (take l.link-index l.plan.links)
